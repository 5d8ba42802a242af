-- Entries that come into the index.
use Rattle.std.proofs.Common.{◌≡◌, ◌∙◌, ℕ, ◌+◌, ◌-◌, ◌*◌, ◌/◌, ◌%◌, ◌≤◌, ◌^◌, inl, inr, Bool, true, false, List, [], ◌∷◌, length, refl, sym, ap, subst, arith, nat_le}
use Rattle.std.proofs.lemmas.Bool.{and_parts, leb-true}
use Rattle.kv_nand.specs.Flash.{Flash, Image, IsSound}
use Rattle.kv_nand.specs.declared.fault.FlashFault.{FlashFault}
use Rattle.kv_nand.specs.Working.{Works, Stops, ops_more}
use Rattle.kv_nand.proofs.Chaining.{works_within, stops_within, works_then_works}
use Rattle.kssd_layout.specs.Numbers.{first_value_block_in}
use Rattle.kssd_entry.specs.declared.entry.Entry.{Entry}
use Rattle.kssd_image.specs.Stages as stages
use Rattle.kssd_image.specs.Stages.{without_marks, the_anchor, merged_by, shown_in}
use Rattle.kssd_frames.proofs.Lookups.{marks_below}
use Rattle.kssd_frames.proofs.ShownLaws.{merged_rises}
use Rattle.kssd_model.specs.Rising.{merged}
use Rattle.kssd_log.specs.Ring.{room_of, turns_for}
use Rattle.kssd_log.specs.Append.{pages_of}
use Rattle.kssd_index.specs.declared.index.Index.{Index}
use Rattle.kssd_index.specs.Standing.{IsIndex}
use Rattle.kssd_root.specs.Mapping.{HasIndex, IsKept, IsBeforeOrAfter, with_entries}
use Rattle.kssd_root.proofs.Steps.{works_on, stops_on}
use Rattle.kssd_index.specs.Costs.{has_place_in, group_cost}
use Rattle.kssd_collect.specs.Collecting.{EndsInFew}
use Rattle.kssd_collect.specs.Placing.{IsStill}
use Rattle.kssd_collect.proofs.Short.{page_with_turn, page_behind_turn}

-- visible entries without any put over them
pub none_logged : (image : Image) (entries : List Entry) → length entries ≡ 0 → shown_in image ≡ with_entries (shown_in image) entries
unfolding shown_in stages.shown_by
none_logged image [] none = sym (marks_below [] (merged_by image (the_anchor image)) (merged_rises image (the_anchor image)))
none_logged image (e ∷ es) none = absurd (omega arith)

-- a group that has place takes few operations
pub few_for_group : (index : Index) (blocks : ℕ) (image : Image) (entries : List Entry) → IsIndex index blocks image → has_place_in index entries ≡ true → group_cost index entries ≤ 264
few_for_group index blocks image entries stands place =
    let both = and_parts (nat_le (length (merged entries index.table)) 1024) (nat_le (pages_of entries) (room_of index.ring)) place in
    let pages : pages_of entries ≤ 31 * index.ring.blocks - index.ring.page % 32 = leb-true _ _ both.1 in
    let blocks_ = stands.log.blocks in
    let turns : turns_for index.ring (pages_of entries) ≤ 8 = omega (arith, pages, blocks_) in
    omega (arith, pages, blocks_, turns)

-- before or after a group that was put after place was made is before or after it
pub kept_then_either : (a b c : Flash) (ops reads : ℕ) (entries : List Entry) → Works a b ops reads → IsKept a.blocks a.image b.image → IsBeforeOrAfter b.blocks b.image entries c.image → IsBeforeOrAfter a.blocks a.image entries c.image
kept_then_either a b c ops reads entries works kept either = record {
  index = subst (λ n. HasIndex n c.image) blocks either.index;
  shown = elim either.shown [
    | inl same ↦ inl (same ∙ kept.shown)
    | inr after ↦ inr (after ∙ ap (λ xs. with_entries xs entries) kept.shown)
  ];
  values = λ q low. either.values q (subst (λ n. first_value_block_in n ≤ q / 32) (sym blocks) low) ∙ kept.values q low;
}
  where
    blocks : b.blocks ≡ a.blocks
    blocks = ap (λ (f : Flash). f.blocks) works.after

-- ---- where no table is frozen

-- place was made for a group with at most two operations, or it was there
pub record HasPlace (before after : Index) (old mid : Flash) (entries : List Entry) : Type 0 where
  pub still : has_place_in before entries ≡ true → IsStill before old after mid
  pub fresh : has_place_in before entries ≡ false → room_of after.ring ≡ 248
  pub stands : IsIndex after mid.blocks mid.image
  pub works : Works old mid 2 (2 ^ 64)

-- a group of one page takes at most three operations then
pub page_works : (before after : Index) (old mid new : Flash) (entries : List Entry) → IsSound new → HasPlace before after old mid entries → pages_of entries ≤ 1 → Works mid new (group_cost after entries) 0 → Works old new 3 (2 ^ 64)
page_works before after old mid new entries sound h pages group = by (has_place_in before entries) refl
  where
    by : (b : Bool) → has_place_in before entries ≡ b → Works old new 3 (2 ^ 64)
    by true place = works_within old new (group_cost after entries) 0 3 (2 ^ 64) (subst (λ (f : Flash). Works f new (group_cost after entries) 0) (h.still place).flash group) (page_with_turn after entries pages) (omega arith)
    by false place = works_on old mid new 2 (group_cost after entries) 3 (2 ^ 64) 0 sound (omega (arith, page_behind_turn after mid.blocks mid.image entries h.stands (h.fresh place) pages)) h.works group

pub page_stops : (before after : Index) (old mid new : Flash) (fault : FlashFault) (entries : List Entry) → IsSound new → HasPlace before after old mid entries → pages_of entries ≤ 1 → Stops mid fault new (group_cost after entries) 0 → Stops old fault new 3 (2 ^ 64)
page_stops before after old mid new fault entries sound h pages group = by (has_place_in before entries) refl
  where
    by : (b : Bool) → has_place_in before entries ≡ b → Stops old fault new 3 (2 ^ 64)
    by true place = stops_within old new fault (group_cost after entries) 0 3 (2 ^ 64) (subst (λ (f : Flash). Stops f fault new (group_cost after entries) 0) (h.still place).flash group) (page_with_turn after entries pages) (omega arith)
    by false place = stops_on old mid new fault 2 (group_cost after entries) 3 (2 ^ 64) 0 sound (omega (arith, page_behind_turn after mid.blocks mid.image entries h.stands (h.fresh place) pages)) h.works group

-- then the block is erased
pub ends_in_few : (old mid new : Flash) → Works old mid 3 (2 ^ 64) → Works mid new 1 0 → new.ops ≡ ops_more mid 1 → EndsInFew old new
ends_in_few old mid new first last exact = record {
  ops = (mid.ops - old.ops) + 1;
  some = omega arith;
  few = omega (arith, first.counts.ops_at_most);
  works = works_within old new (3 + 1) (2 ^ 64 + 0) 4 (2 ^ 64) (works_then_works old mid new 3 (2 ^ 64) 1 0 first last) (omega arith) (omega arith);
  exact = omega (arith, exact, first.counts.ops_at_least);
}
