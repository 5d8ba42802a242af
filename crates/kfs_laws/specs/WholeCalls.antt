-- What is kept by whole calls: the walk, the checks and the effect together.
use Rattle.std.specs.Prelude.{ℕ, ◌≡◌, ◌≤◌, ◌⊎◌, ◌↔◌, true, Some}
use Rattle.std.specs.Ordering.{nat_cmp}
use Rattle.std.specs.FinMap.{find}
use Rattle.kfs_path.specs.declared.call.Call.{Call}
use Rattle.kfs_model.specs.declared.Description.{Description}
use Rattle.kfs_model.specs.declared.Node.{Node}
use Rattle.kfs_model.specs.Tree.{Limits, Place, IsTree, number_at, node_of, root_alone, has_room}
use Rattle.kfs_model.specs.Desk.{empty_desk}
use Rattle.kfs_model.specs.Life.{IsFree}
use Rattle.kfs_model.specs.Step.{World, step}
use Rattle.kfs_laws.specs.Worlds.{IsDesk, WritesFiles}

-- what is open is there
abbrev pub OpensNodes : World → Type 0
OpensNodes w = (d : ℕ) (it : Description) → find nat_cmp d w.desk.descriptions ≡ Some it → (node : Node) × (node_of w.tree it.node ≡ Some node)

-- a place names the node, or a description has it
abbrev pub IsReached : World → ℕ → Type 0
IsReached w n = ((place : Place) × (number_at w.tree place ≡ Some n)) ⊎ ((d : ℕ) × (it : Description) × (find nat_cmp d w.desk.descriptions ≡ Some it) × (it.node ≡ n))

-- a tree with its open files: what makes a tree, what makes a desk; what is open is there, as a file
-- where it may be written; and each node is named or open
pub record IsWhole (w : World) : Type 0 where
  pub tree : IsTree w.tree
  pub desk : IsDesk w.desk
  pub there : OpensNodes w
  pub files : WritesFiles w
  pub reached : (n : ℕ) (node : Node) → node_of w.tree n ≡ Some node → IsReached w n

-- a root alone with nothing open is whole, and each call leaves what is whole; d is the number of no description
abbrev pub EachCallLeavesATreeWithItsOpenFiles : Type 0
EachCallLeavesATreeWithItsOpenFiles =
    IsWhole (record { tree = root_alone; desk = empty_desk })
    × ((k : Limits) (d : ℕ) (w : World) (call : Call) → IsFree w d → IsWhole w → IsWhole (step k d w call).world)

-- a root alone has room exactly where there are three keys or more
abbrev pub RootAloneTakesThreeKeys : Type 0
RootAloneTakesThreeKeys = (k : Limits) → (has_room k root_alone ≡ true) ↔ (3 ≤ k.keys)

-- a tree that has room has room after each call, whatever the call answers
abbrev pub EachCallKeepsTheRoom : Type 0
EachCallKeepsTheRoom = (k : Limits) (d : ℕ) (w : World) (call : Call) → IsTree w.tree → has_room k w.tree ≡ true → has_room k (step k d w call).world.tree ≡ true
