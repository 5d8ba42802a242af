-- Places, the walk, and the tree.
use Rattle.std.specs.Prelude.{ℕ, suc, zero, ◌+◌, ◌-◌, ◌*◌, ◌/◌, ◌≡◌, ◌≢◌, ◌<◌, ◌≤◌, ◌⊎◌, T, All, Bool, not, ◌&&◌, ◌==◌, nat_le, List, [], ◌∷◌, ◌++◌, length, map, filter, take, drop, sum_by, Option, Some, None, is_some, Result, Ok, Err, if◌then◌else◌, replicate}
use Rattle.std.specs.declared.cmp.Ordering.{Ordering}
use Rattle.std.specs.Ordering.{nat_cmp}
use Rattle.std.specs.Str.{bytes_eq}
use Rattle.std.specs.List.{filter_map, list_any}
use Rattle.std.specs.Option.{option_map, option_and_then}
use Rattle.std.specs.Cmp.Lexicographic.{slice_cmp}
use Rattle.std.specs.FinMap.{find, put, is_sorted}
use Rattle.kfs_path.specs.declared.call.Errno.{Errno}
use Rattle.kfs_path.specs.declared.call.Errno.TheVariants.{ENOENT, ENOTDIR}
use Rattle.kfs_model.specs.declared.Node.{Node}
use Rattle.kfs_model.specs.declared.Node.TheVariants.{Dir, File}
use Rattle.kfs_model.specs.Ladder.{◌>>=◌}

-- the bytes of a name
abbrev pub Name : Type 0
Name = List ℕ

-- the names on the way from the root, which is the empty list
abbrev pub Place : Type 0
Place = List (List ℕ)

-- by the bytes of the names, a parent before what lies below it
abbrev pub place_cmp : Place → Place → Ordering
place_cmp = slice_cmp (slice_cmp nat_cmp)

-- the last name taken off; the root stays
abbrev pub parent : Place → Place
parent place = take (length place - 1) place

-- what follows a front, where the place has it
abbrev pub below : Place → Place → Option Place
below [] place = Some place
below (name ∷ names) [] = None
below (name ∷ names) (first ∷ place) = if bytes_eq name first then below names place else None

-- the name of a place directly below
abbrev pub only_name : Place → Option Name
only_name [] = None
only_name (name ∷ []) = Some name
only_name (name ∷ next ∷ names) = None

-- the name of a place, where it lies directly below another
abbrev pub child : Place → Place → Option Name
child place q = option_and_then only_name (below place q)

-- the places with the numbers that they name, the nodes by their numbers, and the next new number
pub record Tree : Type 0 where
  pub names : List (Place × ℕ)  -- in the order of places
  pub nodes : List (ℕ × Node)  -- by rising numbers
  pub next : ℕ

-- the number that a place names, and its node
abbrev pub entry_at : Tree → Place → Option (ℕ × Node)
entry_at t place = option_and_then (λ n. option_map (λ node. (n, node)) (find nat_cmp n t.nodes)) (find place_cmp place t.names)

-- the name `.`
abbrev pub is_dot : Name → Bool
is_dot name = bytes_eq name (46 ∷ [])

-- the name `..`
abbrev pub is_dot_dot : Name → Bool
is_dot_dot name = bytes_eq name (46 ∷ 46 ∷ [])

-- one piece further
abbrev pub further : Place → Name → Place
further place piece = if is_dot piece then place else if is_dot_dot piece then parent place else place ++ piece ∷ []

-- a piece is looked for in a directory
abbrev pub entered : Option (ℕ × Node) → Result (Unit {0}) Errno
entered None = Err ENOENT
entered (Some (n, Dir)) = Ok tt
entered (Some (n, File bytes)) = Err ENOTDIR

-- the pieces from the left, from a place on
abbrev pub walk_from : Tree → Place → List Name → Result Place Errno
walk_from t place [] = Ok place
walk_from t place (piece ∷ pieces) = entered (entry_at t place) >>= λ _. walk_from t (further place piece) pieces

-- the place that the pieces lead to from the root, or the first error on the way
abbrev pub walk : Tree → List Name → Result Place Errno
walk t pieces = walk_from t [] pieces

-- the names in a directory, in their order
abbrev pub names_in : Tree → Place → List Name
names_in t place = filter_map (λ e. child place e.0) t.names

-- the number that a place names
abbrev pub number_at : Tree → Place → Option ℕ
number_at t place = find place_cmp place t.names

-- the node of a number
abbrev pub node_of : Tree → ℕ → Option Node
node_of t n = find nat_cmp n t.nodes

-- no place names it
abbrev pub IsNameless : Tree → ℕ → Type 0
IsNameless t n = (place : Place) → number_at t place ≢ Some n

-- 1 to 255 bytes
abbrev pub IsShort : Name → Type 0
IsShort name = (0 < length name) × (length name ≤ 255)

-- 1 to 255 bytes, no slash, and neither `.` nor `..`
pub record IsName (name : Name) : Type 0 where
  pub short : IsShort name
  pub slashes : All (λ b. b ≢ 47) name
  pub dot : name ≢ 46 ∷ []
  pub dots : name ≢ 46 ∷ 46 ∷ []

-- the most bytes of a file
abbrev pub greatest_length : ℕ
greatest_length = 1048576

-- what makes a tree: the root is node 1, a directory; every other place lies in a directory; no
-- two places name one node; every node named is there; every number is below the next one
pub record IsTree (t : Tree) : Type 0 where
  pub root : number_at t [] ≡ Some 1
  pub root_dir : node_of t 1 ≡ Some Dir
  pub parents : (place : Place) (name : Name) (n : ℕ) → number_at t (place ++ name ∷ []) ≡ Some n → (m : ℕ) × (number_at t place ≡ Some m) × (node_of t m ≡ Some Dir)
  pub names : (place : Place) (name : Name) (n : ℕ) → number_at t (place ++ name ∷ []) ≡ Some n → IsName name
  pub apart : (p q : Place) (n : ℕ) → number_at t p ≡ Some n → number_at t q ≡ Some n → p ≡ q
  pub there : (place : Place) (n : ℕ) → number_at t place ≡ Some n → (node : Node) × (node_of t n ≡ Some node)
  pub numbers : (n : ℕ) (node : Node) → node_of t n ≡ Some node → (1 ≤ n) × (n < t.next)
  pub lengths : (n : ℕ) (bytes : List ℕ) → node_of t n ≡ Some (File bytes) → length bytes ≤ greatest_length
  pub sorted_names : T (is_sorted place_cmp t.names)
  pub sorted_nodes : T (is_sorted nat_cmp t.nodes)

-- the bytes of a chunk
abbrev pub chunk_bytes : ℕ
chunk_bytes = 4096

-- the chunks of a file of so many bytes
abbrev pub chunks_for : ℕ → ℕ
chunks_for size = (size + 4095) / chunk_bytes

-- the chunks that a node takes
abbrev pub chunks_of : Node → ℕ
chunks_of Dir = 0
chunks_of (File bytes) = chunks_for (length bytes)

-- the chunks of all files
abbrev pub chunks : Tree → ℕ
chunks t = sum_by (λ e. chunks_of e.1) t.nodes

-- the keys that a tree takes
abbrev pub charge : Tree → ℕ
charge t = 1 + 2 * length t.nodes + chunks t

-- the keys and the pages that there are
pub record Limits : Type 0 where
  pub keys : ℕ
  pub pages : ℕ

-- the most keys that there are on any device
abbrev pub greatest_keys : ℕ
greatest_keys = 68544

-- whether a tree stays within them
abbrev pub has_room : Limits → Tree → Bool
has_room k t = nat_le (charge t) k.keys && nat_le (chunks t) k.pages

-- whether a place names the node
abbrev pub is_named : Tree → ℕ → Bool
is_named t n = list_any (λ e. e.1 == n) t.names

-- nodes that no place names are left out
abbrev pub named : Tree → Tree
named t = record { names = t.names; nodes = filter (λ e. is_named t e.0) t.nodes; next = t.next }

-- a tree without some of its nameless nodes, possibly none
pub record IsKept (t kept : Tree) : Type 0 where
  pub names : kept.names ≡ t.names
  pub next : kept.next ≡ t.next
  pub sorted : T (is_sorted nat_cmp kept.nodes)
  pub nodes : (n : ℕ) → (node_of kept n ≡ node_of t n) ⊎ (IsNameless t n × (node_of kept n ≡ None))

-- a root alone
abbrev pub root_alone : Tree
root_alone = record { names = ([], 1) ∷ []; nodes = (1, Dir) ∷ []; next = 2 }

-- a new node, under a place that names nothing yet
abbrev pub with_new : Tree → Place → Node → Tree
with_new t place node = record { names = put place_cmp place t.next t.names; nodes = put nat_cmp t.next node t.nodes; next = t.next + 1 }

-- a place without its name
abbrev pub without_place : Tree → Place → Tree
without_place t place = record { names = filter (λ e. not (is_some (below place e.0) && is_some (below e.0 place))) t.names; nodes = t.nodes; next = t.next }

-- the front `old` of each place that has it becomes `new`
abbrev pub moved_place : Place → Place → Option Place → Place
moved_place new q None = q
moved_place new q (Some rest) = new ++ rest

-- the same of an entry
abbrev pub moved : Place → Place → Place × ℕ → Place × ℕ
moved old new e = (moved_place new e.0 (below old e.0), e.1)

-- the entries, each in its place
abbrev pub all_put : List (Place × ℕ) → List (Place × ℕ)
all_put [] = []
all_put (e ∷ es) = put place_cmp e.0 e.1 (all_put es)

-- all that lies at the old place or below it lies at the new one or below that
abbrev pub renamed : Tree → Place → Place → Tree
renamed t old new = record { names = all_put (map (moved old new) t.names); nodes = t.nodes; next = t.next }

-- a node's content
abbrev pub with_node : Tree → ℕ → Node → Tree
with_node t n node = record { names = t.names; nodes = put nat_cmp n node t.nodes; next = t.next }

-- zeros up to p where shorter
abbrev pub padded : List ℕ → ℕ → List ℕ
padded bytes p = bytes ++ replicate (p - length bytes) 0

-- zeros up to p where shorter, and the given bytes from p on
abbrev pub written : List ℕ → ℕ → List ℕ → List ℕ
written bytes p given = take p (padded bytes p) ++ given ++ drop (p + length given) bytes

-- the first n bytes, or zeros up to n
abbrev pub resized : List ℕ → ℕ → List ℕ
resized bytes n = take n (padded bytes n)

-- whether j bytes fit at p
abbrev pub fits_at : Limits → Tree → ℕ → List ℕ → ℕ → ℕ → Bool
fits_at k t n bytes p j = nat_le (p + j) greatest_length && has_room k (with_node t n (File (written bytes p (replicate j 0))))

-- the greatest number of bytes, at most m, that fits
abbrev pub fits : Limits → Tree → ℕ → List ℕ → ℕ → ℕ → ℕ
fits k t n bytes p zero = 0
fits k t n bytes p (suc j) = if fits_at k t n bytes p (suc j) then suc j else fits k t n bytes p j

-- what no place has
abbrev pub NoneBelow : Place → List (Place × ℕ) → Type 0
NoneBelow new [] = Unit {0}
NoneBelow new (e ∷ es) = (below new e.0 ≡ None) × NoneBelow new es
