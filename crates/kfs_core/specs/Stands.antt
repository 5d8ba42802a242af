-- The objects stand for the tree.
use Rattle.std.specs.Prelude.{◌≤◌, ◌^◌}
use Rattle.kv_device.specs.Objects.{Objects}
use Rattle.kfs_model.specs.Tree.{Tree, IsTree}
use Rattle.kfs_shows.specs.Shows.{ShowsTree}

pub record Stands (m : Objects) (t : Tree) : Type 0 where
  pub tree : IsTree t
  pub shows : ShowsTree m t
  pub low : t.next ≤ 2 ^ 63
