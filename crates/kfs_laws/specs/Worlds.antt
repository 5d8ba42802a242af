-- What every call keeps of the tree and the open files.
use Rattle.std.specs.Prelude.{ℕ, ◌≡◌, ◌<◌, T, true, List, Some}
use Rattle.std.specs.Ordering.{nat_cmp}
use Rattle.std.specs.FinMap.{find, is_sorted}
use Rattle.kfs_model.specs.declared.Description.{Description}
use Rattle.kfs_model.specs.declared.Node.TheVariants.{File}
use Rattle.kfs_model.specs.Tree.{node_of}
use Rattle.kfs_model.specs.Desk.{Desk}
use Rattle.kfs_model.specs.Step.{World}

-- a description is there exactly while a descriptor has it, and descriptors are below 64
pub record IsDesk (desk : Desk) : Type 0 where
  pub held : (d : ℕ) (it : Description) → find nat_cmp d desk.descriptions ≡ Some it → (fd : ℕ) × (find nat_cmp fd desk.descriptors ≡ Some d)
  pub there : (fd d : ℕ) → find nat_cmp fd desk.descriptors ≡ Some d → (it : Description) × (find nat_cmp d desk.descriptions ≡ Some it)
  pub low : (fd d : ℕ) → find nat_cmp fd desk.descriptors ≡ Some d → fd < 64
  pub sorted_descriptors : T (is_sorted nat_cmp desk.descriptors)
  pub sorted_descriptions : T (is_sorted nat_cmp desk.descriptions)

-- a description that may write is a file's
abbrev pub WritesFiles : World → Type 0
WritesFiles w = (d : ℕ) (it : Description) → find nat_cmp d w.desk.descriptions ≡ Some it → it.write ≡ true → (bytes : List ℕ) × (node_of w.tree it.node ≡ Some (File bytes))
