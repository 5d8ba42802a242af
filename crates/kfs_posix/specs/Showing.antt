-- The state of a life that a session shows.
use Rattle.std.specs.Prelude.{ℕ, ◌≡◌, ◌<◌, ◌≤◌, ◌^◌, ◌+◌, Bool, true, List, Some, None, if◌then◌else◌}
use Rattle.kfs_path.specs.declared.call.Cause.{Cause}
use Rattle.kfs_model.specs.declared.Answer.{Answer}
use Rattle.kfs_model.specs.declared.Line.{Line}
use Rattle.kv_base.specs.Counts.{one_more}
use Rattle.kv_device.specs.Objects.{Objects}
use Rattle.kfs_model.specs.Tree.{Tree, Limits, charge, chunks, has_room, named, IsTree, IsKept}
use Rattle.kfs_model.specs.Life.{State, Live, Now, Up, Down, Past, tree_at, Event, AnyOf}
use Rattle.kfs_shows.specs.Shows.{Shows}
use Rattle.kfs_tx.specs.Tx.{seen}
use Rattle.kfs_core.specs.Bounds.{IsLight}
use Rattle.kfs_posix.specs.Volume.{Volume, limits_of}
use Rattle.kfs_posix.specs.Opens.{desk_of}
use Rattle.kfs_posix.specs.Holding.{Holds}

-- the objects stand for the tree after n changes, which has room once its nameless nodes are gone: they
-- show it, or that without some of its nameless nodes
pub record IsSaved (k : Limits) (m : Objects) (t : Tree) (n : ℕ) : Type 0 where
  pub tree : IsTree t
  pub kept : Tree
  pub is_kept : IsKept t kept
  pub kept_tree : IsTree kept
  pub shows : Shows m kept n
  pub next : t.next < 2 ^ 63
  pub count : n < 2 ^ 63
  pub room : has_room k (named t) ≡ true

-- the objects show exactly the tree after n changes, which has room once its nameless nodes are gone
pub record IsWhole (k : Limits) (m : Objects) (t : Tree) (n : ℕ) : Type 0 where
  pub tree : IsTree t
  pub shows : Shows m t n
  pub next : t.next < 2 ^ 63
  pub count : n < 2 ^ 63
  pub room : has_room k (named t) ≡ true

-- an up session: the transaction's view shows the live tree, and `stable` the tree at mark
pub record ShowsLive (b : Volume) (live : Live) : Type 0 where
  pub up : b.down ≡ None
  pub tree : IsTree live.world.tree
  pub low : live.world.tree.next < 2 ^ 63
  pub few_changes : live.past.count < 2 ^ 63
  pub sees : Shows (seen b.tx) live.world.tree live.past.count
  pub saved : IsWhole (limits_of b) b.tx.machine.stable (tree_at live.past live.mark) live.mark
  pub newest : tree_at live.past live.past.count ≡ live.world.tree
  pub behind : live.mark ≤ live.past.count
  pub desk : live.world.desk ≡ desk_of b.files
  pub holds : Holds b.files live.world.tree
  pub count : b.tx.changes ≡ live.past.count
  pub next : b.tx.next ≡ live.world.tree.next
  pub changes : b.tx.since ≡ live.since.changes
  pub weight : b.tx.weight ≡ live.since.weight
  pub light : IsLight b.tx
  pub keys : b.keys ≡ b.tx.machine.room_keys
  pub pages : b.pages ≡ b.tx.machine.room_pages
  pub charged : b.charge ≡ charge live.world.tree
  pub chunked : b.chunks ≡ chunks live.world.tree
  pub room : has_room (limits_of b) live.world.tree ≡ true

-- a session that is down: `stable` shows the tree after k changes, for a k that may stand
pub record ShowsDown (b : Volume) (past : Past) (may : List ℕ) : Type 0 where
  pub cause : Cause
  pub down : b.down ≡ Some cause
  pub stands : ℕ
  pub may_be : AnyOf may stands
  pub saved : IsWhole (limits_of b) b.tx.machine.stable (tree_at past stands) stands
  pub keys : b.keys ≡ b.tx.machine.room_keys
  pub pages : b.pages ≡ b.tx.machine.room_pages

abbrev pub ShowsNow : Volume → Now → Type 0
ShowsNow b (Up live) = ShowsLive b live
ShowsNow b (Down past may) = ShowsDown b past may

-- a session that is up shows some live state
abbrev pub IsShowing : Volume → Type 0
IsShowing b = b.down ≡ None → ∥ ((live : Live) × ShowsLive b live) ∥₁

abbrev pub one_if : Bool → ℕ
one_if armed = if armed then 1 else 0

-- a cut is planned exactly where the life has one armed, and a fault at most there
pub record ShowsState (b : Volume) (s : State) : Type 0 where
  pub now : ShowsNow b s.now
  pub cuts : b.tx.machine.most_cuts ≡ b.tx.machine.cuts + one_if s.cut_armed
  pub faults : b.tx.machine.most_faults ≤ b.tx.machine.faults + one_if s.fail_armed
  pub most_cuts : b.tx.machine.cuts ≤ b.tx.machine.most_cuts
  pub most_faults : b.tx.machine.faults ≤ b.tx.machine.most_faults
  pub few_cuts : b.tx.machine.most_cuts < 2 ^ 63
  pub few_faults : b.tx.machine.most_faults < 2 ^ 63

-- the state is shown, and a cut or a fault is armed wherever that count may rise
pub record Fits (b : Volume) (s : State) : Type 0 where
  pub now : ShowsNow b s.now
  pub cuts : one_more b.tx.machine.cuts ≤ b.tx.machine.most_cuts → s.cut_armed ≡ true
  pub faults : one_more b.tx.machine.faults ≤ b.tx.machine.most_faults → s.fail_armed ≡ true

-- the line and its answer lead from each state that fits old to one that new shows; where exactly what is planned
-- was armed, so it is then
pub record GoesOn (old : Volume) (line : Line) (answer : Answer) (new : Volume) : Type 0 where
  pub each : (s : State) → Fits old s → (t : State) × Event (limits_of old) s line answer t × ShowsNow new t.now × (ShowsState old s → ShowsState new t)
