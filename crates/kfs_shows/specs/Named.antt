-- Trees with no nameless node.
use Rattle.std.specs.Prelude.{ℕ, ◌≡◌, Some}
use Rattle.kfs_model.specs.declared.Node.{Node}
use Rattle.kfs_model.specs.Tree.{Place, Tree, number_at, node_of}

-- some place names each node
abbrev pub AllNamed : Tree → Type 0
AllNamed t = (n : ℕ) (node : Node) → node_of t n ≡ Some node → (place : Place) × (number_at t place ≡ Some n)
