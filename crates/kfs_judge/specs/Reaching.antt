-- What is reached from the root along entries that read.
use Rattle.std.specs.Prelude.{ℕ, ◌≡◌, ◌==◌, ◌||◌, ◌⊎◌, Bool, true, false, List, [], ◌∷◌, ◌++◌, length, slice_get, Option, Some, None}
use Rattle.std.specs.Ordering.{nat_cmp}
use Rattle.std.specs.BTreeSet.{BTreeSet, contains}
use Rattle.kfs_judge.specs.declared.row.Row.{Row}
use Rattle.kfs_judge.specs.declared.row.Row.TheVariants as rows
use Rattle.kfs_judge.specs.declared.reaching.Edge.{Edge}

-- what a row says, where it is of an entry that reads
abbrev pub edge_of : Row → Option Edge
edge_of (rows.Entry parent (Some child) is_name) = Some (record { parent = parent; child = child })
edge_of row = None

abbrev pub edge_list : Option Edge → List Edge
edge_list None = []
edge_list (Some edge) = edge ∷ []

abbrev pub edges_in : List Row → List Edge
edges_in [] = []
edges_in (row ∷ rs) = edge_list (edge_of row) ++ edges_in rs

-- it is one of them
pub record IsOf (edges : List Edge) (edge : Edge) : Type 0 where
  pub place : ℕ
  pub here : slice_get edges place ≡ Some edge

-- reached from these nodes along these edges
pub data IsLinked (from : ℕ → Bool) (edges : List Edge) : ℕ → Type 0 where
  starts : (n : ℕ) → from n ≡ true → IsLinked from edges n
  goes_on : (edge : Edge) → IsOf edges edge → IsLinked from edges edge.parent → IsLinked from edges edge.child

-- an edge whose first node is reached reaches its second, and another is left
abbrev pub SettlesOne : BTreeSet ℕ → List Edge → Edge → List Edge → BTreeSet ℕ → Type 0
SettlesOne old left edge left' new =
    ((contains nat_cmp old edge.parent ≡ true) × ((n : ℕ) → contains nat_cmp new n ≡ (edge.child == n || contains nat_cmp old n)) × (left' ≡ left))
    ⊎ ((contains nat_cmp old edge.parent ≡ false) × ((n : ℕ) → contains nat_cmp new n ≡ contains nat_cmp old n) × (left' ≡ left ++ edge ∷ []))

-- all edges settle so
pub record Settles (old : BTreeSet ℕ) (waiting left : List Edge) (new : BTreeSet ℕ) : Type 0 where
  pub keeps : (n : ℕ) → contains nat_cmp old n ≡ true → contains nat_cmp new n ≡ true
  pub linked : (n : ℕ) → contains nat_cmp new n ≡ true → IsLinked (contains nat_cmp old) waiting n
  pub settled : (edge : Edge) → IsOf waiting edge → (contains nat_cmp new edge.child ≡ true) ⊎ IsOf left edge
  pub left_of : (edge : Edge) → IsOf left edge → IsOf waiting edge
  pub still : length left ≡ length waiting → (n : ℕ) → contains nat_cmp new n ≡ contains nat_cmp old n
  pub apart : length left ≡ length waiting → (edge : Edge) → IsOf left edge → contains nat_cmp old edge.parent ≡ false

-- the root alone
abbrev pub is_root : ℕ → Bool
is_root n = 1 == n

-- exactly what is linked to the root is reached
pub record AllReached (edges : List Edge) (reached : BTreeSet ℕ) : Type 0 where
  pub linked : (n : ℕ) → contains nat_cmp reached n ≡ true → IsLinked is_root edges n
  pub all : (n : ℕ) → IsLinked is_root edges n → contains nat_cmp reached n ≡ true
