-- Entries and pages of entries, and their one spelling.
use Rattle.std.specs.Prelude.{◌≡◌, ◌+◌, ◌-◌, ◌<◌, ◌≤◌, ◌^◌, ℕ, Bool, true, ◌&&◌, ◌||◌, ◌==◌, nat_le, List, ◌∷◌, ◌++◌, length, replicate, if◌then◌else◌}
use Rattle.std.specs.List.{flat_map, AllByRecursion}
use Rattle.std.specs.Int.{w16, w32, w64, to_be_bytes}
use Rattle.kv_base.specs.Sizes.{IsKey}
use Rattle.kssd_entry.specs.Sizes.{IsInline, IsPageLength}
use Rattle.kssd_entry.specs.declared.entry.Entry.{Entry}
use Rattle.kssd_entry.specs.declared.entry.Entry.TheVariants.{Put, At, Gone}
use Rattle.kssd_entry.specs.declared.packer.PageHead.{PageHead}

-- the key of an entry
abbrev pub key_of : Entry → List ℕ
key_of (Put key value) = key
key_of (At key page length_) = key
key_of (Gone key) = key

-- a key behind its length
abbrev pub key_bytes : List ℕ → List ℕ
key_bytes key = to_be_bytes w16 (length key) ++ key

-- a tag and the key; then the value behind its length, the page and length of the value, or nothing
unfoldable pub entry_bytes : Entry → List ℕ
entry_bytes (Put key value) = (1 ∷ key_bytes key) ++ (length value ∷ value)
entry_bytes (At key page length) = (2 ∷ key_bytes key) ++ to_be_bytes w32 page ++ to_be_bytes w16 length
entry_bytes (Gone key) = 3 ∷ key_bytes key

-- how many bytes an entry has in a page
abbrev pub size_of : Entry → ℕ
size_of (Put key value) = 4 + length key + length value
size_of (At key page length_) = 9 + length key
size_of (Gone key) = 3 + length key

-- the sizes that hold of each entry by its type
abbrev pub FitsEntry : Entry → Type 0
FitsEntry (Put key value) = IsKey key × IsInline value
FitsEntry (At key page length_) = IsKey key × (page < 2 ^ 32) × IsPageLength length_
FitsEntry (Gone key) = IsKey key

-- entries one after the other
abbrev pub entries_bytes : List Entry → List ℕ
entries_bytes entries = flat_map entry_bytes entries

-- bytes and zeros behind them, so many in all
unfoldable pub filled : ℕ → List ℕ → List ℕ
filled n bytes = bytes ++ replicate (n - length bytes) 0

-- the named spare bytes: kind, flags, number, number of entries, index
abbrev pub spare_bytes : PageHead → ℕ → List ℕ
spare_bytes head count = head.kind ∷ head.flags ∷ (to_be_bytes w64 head.number ++ to_be_bytes w16 count ++ to_be_bytes w32 head.index)

-- a page with these data bytes of so many entries
unfoldable pub page_bytes : PageHead → List ℕ → ℕ → List ℕ
page_bytes head bytes count = filled 4096 bytes ++ filled 64 (spare_bytes head count)

-- the page of these entries
abbrev pub page_of : PageHead → List Entry → List ℕ
page_of head entries = page_bytes head (entries_bytes entries) (length entries)

-- a run page has entries and no flags; a log page has no index, and entries unless it is a turn page, which has none
unfoldable pub is_head : PageHead → ℕ → Bool
is_head head count =
    if head.kind == 3 then (head.flags == 0) && nat_le 1 count
    else ((head.index == 0) && ((nat_le head.flags 1 && nat_le 1 count) || ((head.flags == 2) && (count == 0))))

-- what a page of this kind, log or run, may say
pub record IsPageOf (kind : ℕ) (head : PageHead) (entries : List Entry) : Type 0 where
  pub kind_is : head.kind ≡ kind
  pub form : is_head head (length entries) ≡ true
  pub number : head.number < 2 ^ 64
  pub index : head.index < 2 ^ 32
  pub fits : AllByRecursion FitsEntry entries
  pub room : length (entries_bytes entries) ≤ 4096
