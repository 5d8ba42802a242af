-- What is proved of damages.
use Rattle.std.specs.Prelude.{ℕ, ◌≡◌, ◌<◌, ◌^◌, true}
use Rattle.kv_base.specs.declared.damage.Damage.{Damage}
use Rattle.kv_device.specs.Objects.{Objects, IsHeld}
use Rattle.kfs_model.specs.Tree.{Tree, Limits, IsTree, named, has_room}
use Rattle.kfs_shows.specs.Shows.{Shows}
use Rattle.kfs_damages.specs.Damages.{IsTreeDamage, IsClear}

-- the objects show this tree after so many changes, the nodes that have names have room, and its numbers are far from their end
pub record StandFor (k : Limits) (m : Objects) (t : Tree) (n : ℕ) : Type 0 where
  pub tree : IsTree t
  pub shows : Shows m t n
  pub room : has_room k (named t) ≡ true
  pub few : n < 2 ^ 62
  pub low : t.next < 2 ^ 62

-- at most one damage applies
abbrev pub OneDamage : Type 0
OneDamage = (k : Limits) (m : Objects) (one other : Damage) → IsTreeDamage k m one → IsTreeDamage k m other → one ≡ other

-- where one applies, something is damaged
abbrev pub DamagedIsNotClear : Type 0
DamagedIsNotClear = (k : Limits) (m : Objects) (damage : Damage) → IsTreeDamage k m damage → IsClear k m → ⊥

-- where nothing is damaged in what a device can hold, the objects stand for a tree
abbrev pub ClearStands : Type 0
ClearStands = (k : Limits) (m : Objects) → IsHeld m → IsClear k m → (t : Tree) × (n : ℕ) × StandFor k m t n

-- where they stand for a tree, nothing is damaged
abbrev pub StandingIsClear : Type 0
StandingIsClear = (k : Limits) (m : Objects) (t : Tree) (n : ℕ) → StandFor k m t n → IsClear k m
