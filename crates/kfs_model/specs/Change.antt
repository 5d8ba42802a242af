-- Changes, weights and boundaries.
use Rattle.std.specs.Prelude.{ℕ, ◌+◌, ◌-◌, ◌/◌, Bool, true, false, not, ◌&&◌, ◌||◌, ◌==◌, nat_lt, nat_le, List, length, Option, Some, None, Result, Ok, Err, is_some, if◌then◌else◌}
use Rattle.std.specs.Option.{option_map, option_and_then}
use Rattle.std.specs.Result.{result_ok}
use Rattle.kfs_path.specs.Pieces.{pieces_of}
use Rattle.kfs_path.specs.declared.call.Call.{Call}
use Rattle.kfs_path.specs.declared.call.Call.TheVariants as calls
use Rattle.kfs_path.specs.declared.call.Reply.{Reply}
use Rattle.kfs_path.specs.declared.call.Reply.TheVariants as replies
use Rattle.kfs_model.specs.declared.Node.{Node}
use Rattle.kfs_model.specs.Tree.{Tree, Place, walk, entry_at, chunks}
use Rattle.kfs_model.specs.Desk.{Desk, Description, opened}
use Rattle.kfs_model.specs.Step.{World, After, content, natural, is_there}

-- a weight, where the call answered that it is done
abbrev pub when_done : Reply → ℕ → Option ℕ
when_done replies.Done n = Some n
when_done reply n = None

-- the chunks of a node that went
abbrev pub gone : Tree → Tree → ℕ
gone old new = chunks old - chunks new

-- from a length to another
abbrev pub resizing : ℕ → ℕ → Option ℕ
resizing old new =
    if nat_lt new old then Some (2 + (old + 4095) / 4096 - new / 4096) else
    if nat_lt old new then Some 2 else None

-- from the length of a node's content to the one after the call
abbrev pub node_resizing : World → After → Option ℕ → Option ℕ
node_resizing w after None = None
node_resizing w after (Some n) = resizing (length (content w.tree n)) (length (content after.world.tree n))

-- the chunks that hold n bytes from p on, where n is at least 1
abbrev pub spanned : ℕ → ℕ → ℕ
spanned p n = (p + n - 1) / 4096 - p / 4096 + 1

-- n bytes written at p
abbrev pub writing : ℕ → ℕ → Option ℕ
writing p n = if n == 0 then None else Some (2 + spanned p n)

-- the place that a path names, where its walk comes to its end
abbrev pub place_of : Tree → List ℕ → Option Place
place_of t path = result_ok (walk t (pieces_of path))

abbrev pub node_at : Tree → List ℕ → Option ℕ
node_at t path = option_and_then (λ place. option_map (λ (e : ℕ × Node). e.0) (entry_at t place)) (place_of t path)

abbrev pub node_open : Desk → ℕ → Option ℕ
node_open desk fd = option_map (λ (it : ℕ × Description). it.1.node) (opened desk fd)

abbrev pub offset_of : Desk → ℕ → ℕ
offset_of desk fd = of_it (opened desk fd)
  where
    of_it : Option (ℕ × Description) → ℕ
    of_it None = 0
    of_it (Some (d, it)) = it.offset

-- whether the place that a path named before names nothing now
abbrev pub has_left : Tree → Tree → List ℕ → Bool
has_left old new path = left (place_of old path)
  where
    left : Option Place → Bool
    left None = false
    left (Some place) = is_there old place && not (is_there new place)

abbrev pub is_done : Reply → Bool
is_done replies.Done = true
is_done reply = false

-- the weight of an answered `open`: a new file, or one cut short
abbrev pub opening : World → After → Reply → Option ℕ
opening w after (replies.Number fd) = if nat_lt w.tree.next after.world.tree.next then Some 4 else node_resizing w after (node_open after.world.desk fd)
opening w after reply = None

abbrev pub writing_to : After → ℕ → Reply → Option ℕ
writing_to after fd (replies.Number n) = writing (offset_of after.world.desk fd - n) n
writing_to after fd reply = None

abbrev pub writing_at : ℕ → Reply → Option ℕ
writing_at p (replies.Number n) = writing p n
writing_at p reply = None

-- the weight of the change that an answered call is, or None where it is none
abbrev pub weight : World → Call → After → Option ℕ
weight w (calls.Open path flags) after = opening w after after.reply
weight w (calls.Mkdir path) after = when_done after.reply 4
weight w (calls.Rmdir path) after = when_done after.reply 4
weight w (calls.Unlink path) after = when_done after.reply (4 + gone w.tree after.world.tree)
weight w (calls.Rename old new) after = if has_left w.tree after.world.tree old then when_done after.reply (4 + gone w.tree after.world.tree) else None
weight w (calls.Close fd) after = if nat_lt (length after.world.tree.nodes) (length w.tree.nodes) then Some (4 + gone w.tree after.world.tree) else None
weight w (calls.Write fd bytes) after = writing_to after fd after.reply
weight w (calls.Pwrite fd bytes offset) after = writing_at (natural offset) after.reply
weight w (calls.Truncate path size) after = if is_done after.reply then node_resizing w after (node_at w.tree path) else None
weight w (calls.Ftruncate fd size) after = if is_done after.reply then node_resizing w after (node_open w.desk fd) else None
weight w call after = None

-- a call that commits, whatever there is to commit
abbrev pub commits : Call → Reply → Bool
commits calls.Sync replies.Done = true
commits (calls.Fsync fd) replies.Done = true
commits call reply = false

-- the changes since the last boundary, and their weight
pub record Since : Type 0 where
  pub changes : ℕ
  pub weight : ℕ

abbrev pub more : Since → Option ℕ → Since
more since None = since
more since (Some n) = record { changes = since.changes + 1; weight = since.weight + n }

-- whether a boundary falls after the call: it commits, or its change brings the changes since the
-- last boundary to 64, or their weight to 256
abbrev pub is_boundary : Since → Call → Reply → Option ℕ → Bool
is_boundary since call reply None = commits call reply
is_boundary since call reply (Some n) = nat_le 64 (since.changes + 1) || nat_le 256 (since.weight + n)
