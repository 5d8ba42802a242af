-- The tree and the desk that the tables keep.
use Rattle.std.specs.Prelude.{ℕ, ◌≡◌, ◌≤◌, ◌+◌, ◌==◌, ◌||◌, not, nat_lt, nat_le, List, [], ◌∷◌, length, Some, None, IsSome, Result, Ok, if◌then◌else◌, T}
use Rattle.std.specs.Ordering.{nat_cmp}
use Rattle.std.specs.List.{filter, list_any}
use Rattle.std.specs.FinMap.{find, put, is_sorted}
use Rattle.std.specs.BTreeSet.{BTreeSet, contains}
use Rattle.kfs_path.specs.Pieces.{is_empty}
use Rattle.kfs_path.specs.declared.call.Errno.{Errno}
use Rattle.kfs_path.specs.declared.call.Errno.TheVariants.{EINVAL, EFBIG, ENOSPC}
use Rattle.kfs_path.specs.declared.call.Whence.{Whence}
use Rattle.kfs_path.specs.declared.call.Whence.TheVariants.{Set, Cur, End}
use Rattle.kfs_path.specs.declared.path.Path.{Path}
use Rattle.kfs_model.specs.Ladder.{◌>>◌, ◌when◌}
use Rattle.kfs_model.specs.Tree.{Place, Tree, Limits, charge, chunks, node_of, fits, greatest_keys, greatest_length}
use Rattle.kfs_model.specs.declared.Description.{Description}
use Rattle.kfs_model.specs.Desk.{Desk, with_description}
use Rattle.kfs_model.specs.Step.{Route, World, content, with_offset, greatest_count}
use Rattle.kfs_plain.specs.declared.tables.Files.{Files}
use Rattle.kfs_plain.specs.declared.tables.OpenFiles.{OpenFiles}
use Rattle.kfs_plain.specs.declared.tables.Tables.{Tables}

abbrev pub tree_of : Files → Tree
tree_of files = record { names = files.names.entries; nodes = files.nodes.entries; next = files.next }

abbrev pub desk_of : OpenFiles → Desk
desk_of files = record { descriptors = files.descriptors.entries; descriptions = files.descriptions.entries }

abbrev pub world_of : Tables → World
world_of t = record { tree = tree_of t.files; desk = desk_of t.desk }

abbrev pub limits_of : Tables → Limits
limits_of t = record { keys = t.keys; pages = t.pages }

abbrev pub route_of : Path → Route
route_of path = record { pieces = path.pieces; trailing = path.trailing }

-- the lowest number from n on that no description has, where their numbers rise from n on
abbrev pub first_gap : ℕ → List (ℕ × Description) → ℕ
first_gap n [] = n
first_gap n (e ∷ es) = if e.0 == n then first_gap (n + 1) es else n

-- the number that a new description gets
abbrev pub free_number : Desk → ℕ
free_number desk = first_gap 0 desk.descriptions

-- a new description under a descriptor
abbrev pub with_open : Desk → ℕ → Description → Desk
with_open desk fd it = record { descriptors = put nat_cmp fd (free_number desk) desk.descriptors; descriptions = put nat_cmp (free_number desk) it desk.descriptions }

-- a description at another offset
abbrev pub with_offset_at : Desk → ℕ → Description → ℕ → Desk
with_offset_at desk d it offset = with_description desk d (with_offset it offset)

-- a descriptor less, and each description that no descriptor has
abbrev pub closed : Desk → ℕ → Desk
closed desk fd = record { descriptors = filter (λ e. not (e.0 == fd)) desk.descriptors; descriptions = filter (λ e. list_any (λ f. f.1 == e.0) (filter (λ e. not (e.0 == fd)) desk.descriptors)) desk.descriptions }

-- from where an offset counts
abbrev pub base : Tree → Description → Whence → ℕ
base t it Set = 0
base t it Cur = it.offset
base t it End = length (content t it.node)

-- how many of the given bytes may be written at p
abbrev pub writable : Limits → Tree → ℕ → ℕ → List ℕ → Result ℕ Errno
writable k t n p given = do
  EINVAL when nat_lt greatest_count (length given)
  if is_empty given then Ok 0 else do
    EFBIG when nat_le greatest_length p
    ENOSPC when (fits k t n (content t n) p (length given) == 0)
    Ok (fits k t n (content t n) p (length given))

-- other names
abbrev pub with_names : World → List (Place × ℕ) → World
with_names w names = record { tree = record { names = names; nodes = w.tree.nodes; next = w.tree.next }; desk = w.desk }

-- the set has exactly the numbers of the nodes that a place or a description names
abbrev pub HasUsed : BTreeSet ℕ → List (Place × ℕ) → List (ℕ × Description) → Type 0
HasUsed used names descriptions = (n : ℕ) → contains nat_cmp used n ≡ (list_any (λ e. e.1 == n) names || list_any (λ e. e.1.node == n) descriptions)

-- the chunks are counted as they are
abbrev pub IsCounted : Files → Type 0
IsCounted files = files.chunks ≡ chunks (tree_of files)

-- No node has a number from the next one on, what is open is there, under rising numbers, and the
-- tree takes no more keys than there are, or no more than a root alone.
pub record IsSound (k : Limits) (w : World) : Type 0 where
  pub few : k.keys ≤ greatest_keys
  pub within : charge w.tree ≤ k.keys + 3
  pub free : (n : ℕ) → w.tree.next ≤ n → node_of w.tree n ≡ None
  pub there : (d : ℕ) (it : Description) → find nat_cmp d w.desk.descriptions ≡ Some it → IsSome (node_of w.tree it.node)
  pub rising : T (is_sorted nat_cmp w.desk.descriptions)

-- what is kept of the tables
pub record IsKept (t : Tables) : Type 0 where
  pub counted : IsCounted t.files
  pub sound : IsSound (limits_of t) (world_of t)
