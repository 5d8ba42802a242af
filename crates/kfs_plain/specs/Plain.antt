-- What callers see of a plain tree.
use Rattle.std.specs.Prelude.{ℕ, length, sum_by}
use Rattle.kfs_model.specs.declared.Node.{Node}
use Rattle.kfs_model.specs.declared.Node.TheVariants.{Dir, File}
use Rattle.kfs_model.specs.Tree.{Tree, Limits, chunks}
use Rattle.kfs_model.specs.Step.{World}
use Rattle.kfs_plain.specs.Tables.{world_of, limits_of}
use Rattle.kfs_plain.specs.declared.tables.Tables.{Tables}
use Rattle.kfs_plain.specs.declared.tree.Totals.{Totals}

-- the tree with what is open, and the room that there is
pub record Plain : Type 0 where
  pub world : World
  pub limits : Limits

abbrev pub plain_of : Tables → Plain
plain_of t = record { world = world_of t; limits = limits_of t }

-- the bytes of a node
abbrev pub bytes_in : Node → ℕ
bytes_in Dir = 0
bytes_in (File bytes) = length bytes

-- the nodes, the chunks and the bytes of a tree
abbrev pub totals_of : Tree → Totals
totals_of t = record { nodes = length t.nodes; chunks = chunks t; bytes = sum_by (λ e. bytes_in e.1) t.nodes }
