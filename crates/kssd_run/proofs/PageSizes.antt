-- How many entries a page of a run has.
use Rattle.std.proofs.Common.{◌≡◌, ◌∙◌, ℕ, ◌≤◌, true, eqb, List, [], ◌∷◌, length, cond, sym, ap, arith, length-append}
use Rattle.std.specs.Prelude.{◌&&◌, ◌||◌, nat_le}
use Rattle.std.proofs.lemmas.Bool.{eq-eqb, and_parts, leb-true}
use Rattle.std.proofs.lemmas.List.Concat.{flat_map-cons}
use Rattle.kssd_entry.specs.declared.entry.Entry.{Entry}
use Rattle.kssd_entry.specs.declared.entry.Entry.TheVariants.{Put, At, Gone}
use Rattle.kssd_entry.specs.declared.packer.PageHead.{PageHead}
use Rattle.kssd_entry.specs.Spelling.{size_of, entry_bytes, entries_bytes, is_head, IsPageOf}
use Rattle.kssd_entry.proofs.Filling.{length-entry_bytes}
use Rattle.kssd_run.specs.Page.{HasEntries}

least_size : (e : Entry) → 3 ≤ size_of e
least_size (Put key value) = omega arith
least_size (At key page n) = omega arith
least_size (Gone key) = omega arith

-- an entry has more than one byte
pub few_entries : (entries : List Entry) → length entries ≤ length (entries_bytes entries)
few_entries [] = omega arith
few_entries (e ∷ entries) =
    omega (arith, few_entries entries, length-entry_bytes e, least_size e, ap length (flat_map-cons entry_bytes e entries), length-append (entry_bytes e) (entries_bytes entries))

head_counts : (head : PageHead) (n : ℕ) → head.kind ≡ 3 → is_head head n ≡ true → 1 ≤ n
unfolding is_head
head_counts head n kind h = leb-true 1 n (and_parts _ _ (sym (ap (λ b. cond b (eqb head.flags 0 && nat_le 1 n) ((eqb head.index 0) && ((nat_le head.flags 1 && nat_le 1 n) || ((eqb head.flags 2) && (eqb n 0))))) (eq-eqb head.kind 3 kind)) ∙ h)).1

pub has_entries : (head : PageHead) (entries : List Entry) → IsPageOf 3 head entries → HasEntries entries
has_entries head entries page = record {
  some = omega (arith, head_counts head (length entries) page.kind_is page.form);
  few = omega (arith, few_entries entries, page.room);
}
