-- How large the objects are after a group of entries.
use Rattle.std.specs.Prelude.{◌≡◌, ◌+◌, ℕ, Bool, true, not, ◌&&◌, List, [], ◌∷◌, ◌++◌, length, count_by, Option, Some, None}
use Rattle.std.specs.List.{list_all}
use Rattle.std.specs.FinMap as objects
use Rattle.kv_nand.specs.Flash.{Flash}
use Rattle.kv_nand.specs.Flash as flash_words
use Rattle.kv_device.specs.Machine.{view}
use Rattle.kv_device.specs.Objects.{page_count}
use Rattle.kssd_entry.specs.declared.entry.Entry.{Entry}
use Rattle.kssd_entry.specs.Spelling.{key_of, FitsEntry}
use Rattle.std.specs.List.{AllByRecursion}
use Rattle.kssd_model.specs.Rising.{is_gone, has_key, find_entry}
use Rattle.kssd_image.specs.Stages.{shown_in}
use Rattle.kssd_image.specs.Whole.{pages_named, IsWhole}
use Rattle.kssd_frames.specs.Logging.{shown_after}
use Rattle.kssd_tx.specs.Lists.{Transactions, changes_of}
use Rattle.kssd_machine.specs.Names.{are_rising, are_valued}
use Rattle.kssd_machine.specs.Machines.{machine_of}

-- an entry that is found, as a list
abbrev pub listed : Option Entry → List Entry
listed None = []
listed (Some entry) = entry ∷ []

-- the entries of the keys of others, which these replace
abbrev pub replaced : List Entry → List Entry → List Entry
replaced older [] = []
replaced older (entry ∷ entries) = listed (find_entry older (key_of entry)) ++ replaced older entries

-- how many of the entries are no deletion marks
abbrev pub kept_count : List Entry → ℕ
kept_count entries = count_by (λ entry. not (is_gone entry)) entries

-- whether no two entries have one key
abbrev pub keys_differ : List Entry → Bool
keys_differ [] = true
keys_differ (entry ∷ entries) = list_all (λ other. not (has_key (key_of other) entry)) entries && keys_differ entries

-- keys and pages after an end are those before, and those of its entries, without those that they replace; before it they are those of the visible entries
pub record SizesAreCounted : Type 0 where
  pub keys : (flash : Flash) (lists : Transactions) (tx : ℕ) → are_rising lists ≡ true
      → objects.len (view (machine_of flash true lists) tx) + length (replaced (shown_in flash.image) (changes_of lists tx)) ≡ length (shown_in flash.image) + kept_count (changes_of lists tx)
  pub pages : (flash : Flash) (lists : Transactions) (tx : ℕ) → flash_words.IsSound flash → IsWhole flash.blocks flash.image → are_rising lists ≡ true → are_valued flash.blocks flash.image lists ≡ true → AllByRecursion FitsEntry (changes_of lists tx)
      → page_count (view (machine_of flash true lists) tx) + length (pages_named (replaced (shown_in flash.image) (changes_of lists tx))) ≡ length (pages_named (shown_in flash.image)) + length (pages_named (changes_of lists tx))
  pub keys_now : (flash : Flash) (lists : Transactions) → objects.len (machine_of flash true lists).stable ≡ length (shown_in flash.image)
  pub pages_now : (flash : Flash) (lists : Transactions) → flash_words.IsSound flash → IsWhole flash.blocks flash.image → page_count (machine_of flash true lists).stable ≡ length (pages_named (shown_in flash.image))
  pub keys_after : (flash : Flash) (lists : Transactions) (tx : ℕ) → objects.len (view (machine_of flash true lists) tx) ≡ length (shown_after flash.image (changes_of lists tx))
  pub pages_after : (flash : Flash) (lists : Transactions) (tx : ℕ) → flash_words.IsSound flash → IsWhole flash.blocks flash.image → are_valued flash.blocks flash.image lists ≡ true → AllByRecursion FitsEntry (changes_of lists tx)
      → page_count (view (machine_of flash true lists) tx) ≡ length (pages_named (shown_after flash.image (changes_of lists tx)))
