-- What is seen of entries on a walk over them.
use Rattle.std.specs.Prelude.{◌≡◌, ◌++◌, ◌-◌, ◌^◌, ℕ, Bool, false, min, List, length, Option, None, Some}
use Rattle.kv_nand.specs.Flash.{Image}
use Rattle.kssd_entry.specs.declared.entry.Entry.{Entry}
use Rattle.kssd_image.specs.Stages.{without_marks}
use Rattle.kssd_image.specs.Whole.{pages_named}
use Rattle.kssd_image.specs.Damages.{IsFirst, lacks_value}
use Rattle.kssd_recover.specs.declared.walking.Visible.{Visible}

-- the least number that passes a test, if any does
abbrev pub IsLeastOf : (ℕ → Bool) → Option ℕ → Type 0
IsLeastOf test None = (n : ℕ) → test n ≡ false
IsLeastOf test (Some n) = IsFirst test n

-- the least of a number and those before it
abbrev pub least_of : Option ℕ → ℕ → ℕ
least_of None n = n
least_of (Some least) n = min least n

-- a number where it is one of four bytes, and else the greatest of these
abbrev pub within_four_bytes : ℕ → ℕ
within_four_bytes n = min n (2 ^ 32 - 1)

-- how many entries are no deletion marks, within four bytes
abbrev pub key_count : List Entry → ℕ
key_count entries = within_four_bytes (length (without_marks entries))

-- deletion marks apart, these are the pages that the entries name, how many entries there are, and the least page that isn't the value of the entry that names it
pub record IsSeen (blocks : ℕ) (image : Image) (entries : List Entry) (visible : Visible) : Type 0 where
  pub places : visible.places ≡ pages_named (without_marks entries)
  pub keys : visible.keys ≡ key_count entries
  pub bad : IsLeastOf (lacks_value blocks image entries) visible.bad

-- of all entries the first ones were seen, and these are left
pub record IsWalked (blocks : ℕ) (image : Image) (all left : List Entry) (visible : Visible) : Type 0 where
  pub done : List Entry
  pub all_are : done ++ left ≡ all
  pub seen : IsSeen blocks image done visible

-- so many of all entries that are no deletion marks were counted, and these are left
pub record AreCounted (all left : List Entry) (count : ℕ) : Type 0 where
  pub done : List Entry
  pub all_are : done ++ left ≡ all
  pub counted : count ≡ key_count done
