-- A group that is put over the visible entries, after place was made for it.
use Rattle.std.proofs.Common.{◌≡◌, ◌∙◌, ℕ, ◌+◌, ◌-◌, ◌*◌, ◌/◌, ◌%◌, ◌≤◌, ◌^◌, inl, inr, true, List, length, Result, Ok, Err, sym, ap, subst, arith, nat_le}
use Rattle.std.specs.Prelude.{IfErr, OnOk}
use Rattle.std.proofs.lemmas.Bool.{and_parts, leb-true}
use Rattle.kv_nand.specs.declared.fault.FlashFault.{FlashFault}
use Rattle.kv_nand.specs.Flash.{Flash, Image}
use Rattle.kv_nand.specs.Working.{Works, Stops}
use Rattle.kv_nand.proofs.Chaining.{works_then_stops, stops_within}
use Rattle.kssd_layout.specs.Numbers.{first_value_block_in}
use Rattle.kssd_entry.specs.declared.entry.Entry.{Entry}
use Rattle.kssd_model.specs.Rising.{merged}
use Rattle.kssd_log.specs.Ring.{room_of, turns_for}
use Rattle.kssd_log.specs.Append.{pages_of}
use Rattle.kssd_index.specs.declared.index.Index.{Index}
use Rattle.kssd_index.specs.Standing.{IsIndex}
use Rattle.kssd_root.specs.Mapping.{HasIndex, IsKept, IsBeforeOrAfter, with_entries}
use Rattle.kssd_index.specs.Costs.{has_place_in, group_cost}

-- a group that has place takes few operations
pub few_for_group : (index : Index) (blocks : ℕ) (image : Image) (entries : List Entry) → IsIndex index blocks image → has_place_in index entries ≡ true → group_cost index entries ≤ 264
few_for_group index blocks image entries stands place =
    let both = and_parts (nat_le (length (merged entries index.table)) 1024) (nat_le (pages_of entries) (room_of index.ring)) place in
    let pages : pages_of entries ≤ 31 * index.ring.blocks - index.ring.page % 32 = leb-true _ _ both.1 in
    let blocks_ = stands.log.blocks in
    let turns : turns_for index.ring (pages_of entries) ≤ 8 = omega (arith, pages, blocks_) in
    omega (arith, pages, blocks_, turns)

-- before or after a group that was put after place was made is before or after it
pub kept_then_either : (a b c : Flash) (ops reads : ℕ) (entries : List Entry) → Works a b ops reads → IsKept a.blocks a.image b.image → IsBeforeOrAfter b.blocks b.image entries c.image → IsBeforeOrAfter a.blocks a.image entries c.image
kept_then_either a b c ops reads entries works kept either = record {
  index = subst (λ n. HasIndex n c.image) blocks either.index;
  shown = elim either.shown [
    | inl same ↦ inl (same ∙ kept.shown)
    | inr after ↦ inr (after ∙ ap (λ xs. with_entries xs entries) kept.shown)
  ];
  values = λ q low. either.values q (subst (λ n. first_value_block_in n ≤ q / 32) (sym blocks) low) ∙ kept.values q low;
}
  where
    blocks : b.blocks ≡ a.blocks
    blocks = ap (λ (f : Flash). f.blocks) works.after

-- it stops within the cost of both
pub stops_then : (a b c : Flash) (r : Result (Unit {0}) FlashFault) (place group : ℕ) → Works a b place (2 ^ 64) → group ≤ 264 → IfErr r (λ fault. Stops b fault c group 0) → IfErr r (λ fault. Stops a fault c (place + 264) (2 ^ 64))
stops_then a b c (Ok u) place group works few h = tt
stops_then a b c (Err fault) place group works few h =
    stops_within a c fault (place + group) (2 ^ 64 + 0) (place + 264) (2 ^ 64) (works_then_stops a b c fault place (2 ^ 64) group 0 works h) (omega arith) (omega arith)

-- whatever it answers, it does no more operations than its cost
pub group_within : (b c : Flash) (r : Result (Unit {0}) FlashFault) (group : ℕ) → OnOk r (Works b c group 0) → IfErr r (λ fault. Stops b fault c group 0) → c.ops ≤ b.ops + group
group_within b c (Ok u) group works stops = works.counts.ops_at_most
group_within b c (Err fault) group works stops = stops.counts.ops_at_most
