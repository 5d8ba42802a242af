-- What a transaction sees, read from its own changes and the visible entries.
use Rattle.std.specs.Prelude.{◌≡◌, ◌-◌, ◌/◌, ℕ, true, false, not, nat_eq, List, [], ◌++◌, length, map, take, filter, option_map, Some, None, if◌then◌else◌}
use Rattle.std.specs.List.{list_all, starts_with}
use Rattle.std.specs.Ordering.{is_lt}
use Rattle.std.specs.FinMap as objects
use Rattle.kv_nand.specs.Flash.{Flash, Image}
use Rattle.kv_device.specs.Machine.{view}
use Rattle.kv_device.specs.Objects.{pairs_from}
use Rattle.kv_device.specs.Calls.{GetDone}
use Rattle.kssd_entry.specs.declared.entry.Entry.{Entry}
use Rattle.kssd_entry.specs.declared.entry.Entry.TheVariants.{At}
use Rattle.kssd_entry.specs.Spelling.{key_of}
use Rattle.kssd_model.specs.Rising.{is_gone, key_cmp, is_below, find_entry, entries_from, merged, first_of}
use Rattle.kssd_image.specs.ValuePages.{has_value}
use Rattle.kssd_image.specs.Stages.{without_marks, shown_in, value_in, object_in}
use Rattle.kssd_image.specs.Whole.{has_its_value}
use Rattle.kssd_frames.specs.Merging.{unmarked}
use Rattle.kssd_tx.specs.Lists.{Transactions, changes_of, change_of}
use Rattle.kssd_tx.specs.Refusals.{tx_refusal}
use Rattle.kssd_values.specs.Places.{IsValueBlock}
use Rattle.kssd_values.specs.Pages.{key_in, size_in, is_value}
use Rattle.kssd_machine.specs.Names.{are_rising, are_valued}
use Rattle.kssd_machine.specs.Machines.{machine_of}

-- the entries below a key
abbrev pub entries_below : List Entry → List ℕ → List Entry
entries_below entries key = filter (is_below key) entries

-- the entries whose keys begin with a prefix
abbrev pub with_prefix : List ℕ → List Entry → List Entry
with_prefix prefix entries = filter (λ e. starts_with nat_eq (key_of e) prefix) entries

-- the pairs with a prefix that changes over visible entries make
abbrev pub pairs_in : Image → List ℕ → List Entry → List Entry → List (List ℕ × List ℕ)
pairs_in image prefix mine visible = map (object_in image) (with_prefix prefix (without_marks (merged mine visible)))

-- the first of these entries, those below a key; the rest isn't
pub record IsUpTo (next : List ℕ) (piece rest entries : List Entry) : Type 0 where
  pub first : piece ++ rest ≡ entries
  pub before : list_all (is_below next) piece ≡ true
  pub behind : list_all (λ e. not (is_below next e)) rest ≡ true

-- the page that an entry names holds its value, by what the page itself says
pub record HasPage (blocks : ℕ) (image : Image) (key : List ℕ) (page size : ℕ) : Type 0 where
  pub region : IsValueBlock blocks (page / 32)
  pub stands : has_value (key_in (image page)) size (image page) ≡ true
  pub named : key_in (image page) ≡ key
  pub sized : size_in (image page) ≡ size
  pub value : is_value (image page) ≡ true

-- a key's value is that of the transaction's own change, else that of the visible entry
pub record GetsAreViews : Type 0 where
  pub found : (flash : Flash) (lists : Transactions) (tx : ℕ) (key : List ℕ) → are_rising lists ≡ true
      → objects.get (view (machine_of flash true lists) tx) key ≡ option_map (value_in flash.image) (unmarked (first_of (change_of lists tx key) (find_entry (shown_in flash.image) key)))
  pub own : (flash : Flash) (lists : Transactions) (tx : ℕ) (key : List ℕ) (entry : Entry) → are_rising lists ≡ true → change_of lists tx key ≡ Some entry
      → GetDone (machine_of flash true lists) tx key (if is_gone entry then None else Some (value_in flash.image entry)) (machine_of flash true lists)
  pub visible : (flash : Flash) (lists : Transactions) (tx : ℕ) (key : List ℕ) → are_rising lists ≡ true → tx_refusal lists tx ≡ None → change_of lists tx key ≡ None
      → GetDone (machine_of flash true lists) tx key (option_map (value_in flash.image) (find_entry (shown_in flash.image) key)) (machine_of flash true lists)
  pub own_valued : (blocks : ℕ) (image : Image) (lists : Transactions) (tx : ℕ) (key : List ℕ) (entry : Entry) → are_valued blocks image lists ≡ true → change_of lists tx key ≡ Some entry → has_its_value blocks image entry ≡ true
  pub visible_valued : (blocks : ℕ) (image : Image) (entries : List Entry) (key : List ℕ) (entry : Entry) → list_all (has_its_value blocks image) entries ≡ true → find_entry entries key ≡ Some entry → has_its_value blocks image entry ≡ true
  pub page : (blocks : ℕ) (image : Image) (key : List ℕ) (page size : ℕ) → has_its_value blocks image (At key page size) ≡ true → HasPage blocks image key page size

-- the pairs from a key on are those of its changes over the visible entries from there on; they can be read piece by piece, each piece with those of its changes that are below the next; and without visible entries they are those of its changes
pub record IteratesAreViews : Type 0 where
  pub all : (flash : Flash) (lists : Transactions) (tx : ℕ) (from prefix : List ℕ) → are_rising lists ≡ true
      → pairs_from (view (machine_of flash true lists) tx) from prefix ≡ pairs_in flash.image prefix (entries_from (changes_of lists tx) from) (entries_from (shown_in flash.image) from)
  pub piece : (flash : Flash) (lists : Transactions) (tx : ℕ) (from next prefix : List ℕ) (piece rest : List Entry) → are_rising lists ≡ true → is_lt (key_cmp next from) ≡ false → IsUpTo next piece rest (entries_from (shown_in flash.image) from)
      → pairs_from (view (machine_of flash true lists) tx) from prefix ≡ pairs_in flash.image prefix (entries_below (entries_from (changes_of lists tx) from) next) piece ++ pairs_from (view (machine_of flash true lists) tx) next prefix
  pub last : (flash : Flash) (lists : Transactions) (tx : ℕ) (from prefix : List ℕ) → are_rising lists ≡ true → entries_from (shown_in flash.image) from ≡ []
      → pairs_from (view (machine_of flash true lists) tx) from prefix ≡ map (object_in flash.image) (with_prefix prefix (without_marks (entries_from (changes_of lists tx) from)))
  pub few : (n : ℕ) (xs ys : List (List ℕ × List ℕ)) → take n (xs ++ ys) ≡ take n xs ++ take (n - length xs) ys
