-- What is found of the objects whose rows were read.
use Rattle.std.specs.Prelude.{ℕ, ◌≡◌, ◌≤◌, ◌<◌, ◌^◌, Bool, true, false, List, slice_get, Option, Some, None, unwrap_or}
use Rattle.kv_base.specs.declared.damage.Damage.{Damage}
use Rattle.kv_device.specs.Objects.{Objects}
use Rattle.kfs_objects.specs.declared.records.Super.{Super}
use Rattle.kfs_objects.specs.declared.records.Inode.{Inode}
use Rattle.kfs_model.specs.Tree.{Limits, greatest_length}
use Rattle.kfs_damages.specs.Damages.{IsTreeDamage, IsClear}
use Rattle.kfs_judge.specs.declared.judging.Room.{Room}
use Rattle.kfs_judge.specs.declared.row.Row.{Row}
use Rattle.kfs_judge.specs.declared.row.Row.TheVariants as rows
use Rattle.kfs_judge.specs.Tables.{recent}

-- the least number of which something holds
pub record FoundLeast (Holds : ℕ → Type 0) (least : Option ℕ) : Type 0 where
  pub found : (n : ℕ) → least ≡ Some n → Holds n
  pub all : (k : ℕ) → k < 2 ^ 64 → Holds k → (n : ℕ) × (least ≡ Some n) × (n ≤ k)

-- the first damage, or that nothing is damaged
abbrev pub IsJudged : Limits → Objects → Option Damage → Type 0
IsJudged k m None = IsClear k m
IsJudged k m (Some damage) = IsTreeDamage k m damage

-- a row is of an object whose key is of no form
abbrev pub is_strange : Row → Bool
is_strange rows.Strange = true
is_strange row = false

-- what a row says of the super, where it is its row
abbrev pub head_row : Row → Option (Option Super)
head_row (rows.Head head) = Some head
head_row row = None

-- what the last row of a super says, where one is there
abbrev pub head_of : List Row → Option Super
head_of rs = unwrap_or (recent head_row rs) None

-- what the super's last row says after one more row
abbrev pub later_head : Option Super → Row → Option Super
later_head found (rows.Head head) = head
later_head found row = found

-- the room of a device
abbrev pub limits_of : Room → Limits
limits_of room = record { keys = room.keys; pages = room.pages }

abbrev pub super_pair : Super → ℕ × ℕ
super_pair s = (s.changes, s.next)

-- no inode is longer than a file may be
abbrev pub AreShort : List Row → Type 0
AreShort rs = (i node : ℕ) (it : Inode) → slice_get rs i ≡ Some (rows.Inode node (Some it)) → it.length ≤ greatest_length

abbrev pub IsShortRow : Row → Type 0
IsShortRow row = (node : ℕ) (it : Inode) → row ≡ rows.Inode node (Some it) → it.length ≤ greatest_length

-- the first strange row
abbrev pub FirstStrange : List Row → Option ℕ → Type 0
FirstStrange rs None = (i : ℕ) (row : Row) → slice_get rs i ≡ Some row → is_strange row ≡ false
FirstStrange rs (Some n) =
    ((row : Row) × (slice_get rs n ≡ Some row) × (is_strange row ≡ true)) × ((i : ℕ) (row : Row) → i < n → slice_get rs i ≡ Some row → is_strange row ≡ false)
