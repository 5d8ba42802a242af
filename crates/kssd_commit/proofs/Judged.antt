-- How much there is after an end, by what its changes replace.
use Rattle.std.proofs.Common.{◌≡◌, ℕ, ◌+◌, ◌≤◌, ◌^◌, List, length, sym, ap, subst, arith}
use Rattle.std.specs.List.{AllByRecursion}
use Rattle.std.specs.FinMap as objects
use Rattle.kv_nand.specs.Flash.{Flash, IsSound}
use Rattle.kv_device.specs.Machine.{view}
use Rattle.kv_device.specs.Objects.{page_count}
use Rattle.kssd_entry.specs.declared.entry.Entry.{Entry}
use Rattle.kssd_entry.specs.Spelling.{FitsEntry}
use Rattle.kssd_model.specs.OnlyReading.{OnlyReads}
use Rattle.kssd_image.specs.Stages.{shown_in}
use Rattle.kssd_image.specs.Whole.{pages_named}
use Rattle.kssd_tx.specs.Lists.{changes_of}
use Rattle.kssd_machine.specs.Sizes.{replaced, kept_count}
use Rattle.kssd_machine.proofs.Sizing.{keys_counted, pages_counted_after}
use Rattle.kssd_mounted.specs.declared.mounted.Mounted.{Mounted}
use Rattle.kssd_mounted.specs.Standing.{Stands, machine_at}
use Rattle.kssd_commit.specs.declared.judging.Judged.{Judged}
use Rattle.kssd_commit.specs.Judging.{IsJudged}

module _ (m : Mounted) (flash : Flash) (stands : Stands m flash) where
  pub few_keys : m.keys ≤ 2 ^ 30
  unfolding shown_in
  few_keys = omega (arith, stands.keys, stands.whole.index.room.keys, stands.most)

  pub few_pages : m.pages ≤ 2 ^ 30
  unfolding shown_in
  few_pages = omega (arith, stands.pages, stands.whole.index.room.pages, stands.most)

  -- the count of keys, and what is added and removed
  pub keys_sum : (tx : ℕ) (gone : List Entry) → gone ≡ replaced (shown_in flash.image) (changes_of m.changes tx)
      → objects.len (view (machine_at flash m) tx) + length gone ≡ m.keys + kept_count (changes_of m.changes tx)
  keys_sum tx gone is = omega (arith, keys_counted flash m.changes tx stands.rising, ap (λ (es : List Entry). length es) is, stands.keys)

  -- the count of pages, and what is added and removed
  pub pages_sum : (tx : ℕ) (gone : List Entry) → IsSound flash → AllByRecursion FitsEntry (changes_of m.changes tx) → gone ≡ replaced (shown_in flash.image) (changes_of m.changes tx)
      → page_count (view (machine_at flash m) tx) + length (pages_named gone) ≡ m.pages + length (pages_named (changes_of m.changes tx))
  pages_sum tx gone sound fits is =
      omega (arith, pages_counted_after flash m.changes tx sound stands.whole stands.rising stands.valued fits, ap (λ (es : List Entry). length (pages_named es)) is, stands.pages)

-- an end is judged the same after mere reading
pub judged_read : (judged : Judged) (m : Mounted) (tx : ℕ) (old new : Flash) → OnlyReads old new → IsJudged judged m tx old → IsJudged judged m tx new
judged_read judged m tx old new reads h =
    subst (IsJudged judged m tx) (sym reads.after) (record { replaced_are = h.replaced_are; keys = h.keys; pages = h.pages; fits = h.fits })
