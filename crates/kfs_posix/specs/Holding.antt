-- What the open files know of the tree.
use Rattle.std.specs.Prelude.{ℕ, ◌≡◌, ◌<◌, ◌^◌, Bool, true, false, length, Some}
use Rattle.std.specs.Ordering.{nat_cmp}
use Rattle.std.specs.FinMap.{find}
use Rattle.kfs_model.specs.declared.Node.{Node}
use Rattle.kfs_model.specs.declared.Node.TheVariants.{Dir, File}
use Rattle.kfs_model.specs.Tree.{Tree, node_of, is_named}
use Rattle.kfs_model.specs.Desk.{is_open}
use Rattle.kfs_laws.specs.Worlds.{IsDesk}
use Rattle.kfs_posix.specs.declared.open_files.OpenFile.{OpenFile}
use Rattle.kfs_posix.specs.Opens.{Opens, desk_of}

abbrev pub is_file : Node → Bool
is_file Dir = false
is_file (File bytes) = true

abbrev pub size_of : Node → ℕ
size_of Dir = 0
size_of (File bytes) = length bytes

-- the node is there, and what is known of it is so; who may write has a file
pub record Knows (t : Tree) (file : OpenFile) : Type 0 where
  pub node : Node
  pub there : node_of t file.it.node ≡ Some node
  pub kind : file.file ≡ is_file node
  pub length : file.length ≡ size_of node
  pub named : file.named ≡ is_named t file.it.node
  pub writes : file.it.write ≡ true → file.file ≡ true
  pub low : file.it.offset < 2 ^ 64

-- a description is there exactly while a descriptor has it, what it knows of its node is so, and each node
-- that no place names is open
pub record Holds (o : Opens) (t : Tree) : Type 0 where
  pub desk : IsDesk (desk_of o)
  pub known : (d : ℕ) (file : OpenFile) → find nat_cmp d o.files ≡ Some file → Knows t file
  pub kept : (n : ℕ) (node : Node) → node_of t n ≡ Some node → is_named t n ≡ false → is_open (desk_of o) n ≡ true
