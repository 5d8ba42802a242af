-- The chunks of a file, what a write does to them, and what a read gives.
use Rattle.std.specs.Prelude.{ℕ, if◌then◌else◌, nat_lt, ◌==◌, ◌≡◌, ◌≢◌, ◌<◌, ◌≤◌, ◌+◌, ◌-◌, ◌*◌, ◌/◌, ◌^◌, ◌⊎◌, List, [], length, take, drop, None}
use Rattle.std.specs.Option.{unwrap_or}
use Rattle.std.specs.FinMap as objects
use Rattle.kv_device.specs.declared.fault.DeviceFault.{DeviceFault}
use Rattle.kv_device.specs.declared.fault.DeviceFault.TheVariants.{Memory}
use Rattle.kv_device.specs.Calls.{DeleteFault}
use Rattle.kv_device.specs.Objects.{Objects}
use Rattle.kv_device.specs.Machine.{Machine}
use Rattle.kfs_objects.specs.Keys.{chunk_key}
use Rattle.kfs_model.specs.Tree.{padded, written, resized, greatest_length, chunk_bytes}
use Rattle.kfs_shows.specs.Shows.{IsPiece}
use Rattle.kfs_tx.specs.Tx.{Tx, IsReady, seen, put_in, changed_keys, PutFault, GetFault, Caused, Fallen}

-- each chunk's object is that of a file with these bytes
pub record HoldsFile (m : Objects) (node : ℕ) (bytes : List ℕ) : Type 0 where
  pub pieces : (chunk : ℕ) → chunk < 2 ^ 32 → IsPiece (objects.get m (chunk_key node chunk)) bytes chunk

-- a chunk's object, or nothing
abbrev pub piece_in : Objects → ℕ → ℕ → List ℕ
piece_in m node chunk = unwrap_or (objects.get m (chunk_key node chunk)) []

-- a chunk's bytes with the given ones at a place, which are all of them where they fill it
abbrev pub rewritten : List ℕ → ℕ → List ℕ → List ℕ
rewritten old start given = if length given == chunk_bytes then given else written old start given

-- some bytes of one chunk
abbrev pub with_piece : Tx → ℕ → ℕ → ℕ → List ℕ → Tx
with_piece r node chunk start given = put_in r (chunk_key node chunk) (rewritten (piece_in (seen r) node chunk) start given)

abbrev pub PieceFault : Tx → ℕ → ℕ → ℕ → List ℕ → DeviceFault → Machine → Type 0
PieceFault r node chunk start given fault new = GetFault r fault new ⊎ PutFault r (chunk_key node chunk) (rewritten (piece_in (seen r) node chunk) start given) fault new

-- the number of chunks that so many bytes from a place on lie in
abbrev pub touched : ℕ → ℕ → ℕ
touched p n = (p + n + 4095) / chunk_bytes - p / chunk_bytes

-- only the transaction's changes are others
abbrev pub pending_of : Tx → Tx → Tx
pending_of new old = record old { machine = record old.machine { pending = new.machine.pending } }

-- the file's bytes from p on are the given ones, and no other object differs
pub record WritesFile (old : Tx) (node p : ℕ) (given : List ℕ) (new : Tx) : Type 0 where
  pub ready : IsReady old → IsReady new
  pub holds : (bytes : List ℕ) → IsReady old → node < 2 ^ 64 → p + length given ≤ greatest_length → HoldsFile (seen old) node bytes → HoldsFile (seen new) node (written bytes p given)
  pub others : (q : List ℕ) → IsReady old → ((chunk : ℕ) → chunk < 2 ^ 32 → q ≢ chunk_key node chunk) → objects.get (seen new) q ≡ objects.get (seen old) q
  pub same : new ≡ pending_of new old

-- at most so many keys more are changed
abbrev pub ChangesAtMost : Tx → ℕ → Tx → Type 0
ChangesAtMost old most new = IsReady old → changed_keys new ≤ changed_keys old + most

-- a fault's cause, and that with so many keys to spare it comes from outside and leaves what stands
pub record FailsWithin (old : Tx) (keys : ℕ) (fault : DeviceFault) (new : Machine) : Type 0 where
  pub cause : Caused old.machine fault new
  pub fallen : IsReady old → changed_keys old + keys ≤ 640 → Fallen old.machine fault old.machine.stable new

-- so many bytes of a chunk's object from a place on; what it lacks is zero
abbrev pub piece_at : List ℕ → ℕ → ℕ → List ℕ
piece_at piece start count = take count (drop start (padded piece (start + count)))

-- so many bytes of the file from p on, as far as there are
abbrev pub ReadsFile : Objects → ℕ → ℕ → ℕ → ℕ → List ℕ → Type 0
ReadsFile m node size p count text = (bytes : List ℕ) → length bytes ≡ size → HoldsFile m node bytes → text ≡ take count (drop p bytes)

-- the objects of the chunks from one on to before another are gone, and no other object differs
pub record RemovesChunks (old : Tx) (node from to : ℕ) (new : Tx) : Type 0 where
  pub ready : IsReady old → IsReady new
  pub gone : (chunk : ℕ) → IsReady old → from ≤ chunk → chunk < to → objects.get (seen new) (chunk_key node chunk) ≡ None
  pub others : (q : List ℕ) → IsReady old → ((chunk : ℕ) → from ≤ chunk → chunk < to → q ≢ chunk_key node chunk) → objects.get (seen new) q ≡ objects.get (seen old) q
  pub same : new ≡ pending_of new old
  pub slots : length new.machine.pending ≡ length old.machine.pending

-- want of memory before the device was asked, or what the device answered; and its cause
abbrev pub RemoveFault : Tx → List ℕ → DeviceFault → Machine → Type 0
RemoveFault r key fault new = (((fault ≡ Memory) × (new ≡ r.machine)) ⊎ DeleteFault r.machine r.id key fault new) × Caused r.machine fault new

-- one chunk's object cut short to so many bytes, where it is longer
abbrev pub with_cut : Tx → ℕ → ℕ → ℕ → Tx
with_cut r node chunk count = if nat_lt count (length (piece_in (seen r) node chunk)) then put_in r (chunk_key node chunk) (take count (piece_in (seen r) node chunk)) else r

abbrev pub CutFault : Tx → ℕ → ℕ → ℕ → DeviceFault → Machine → Type 0
CutFault r node chunk count fault new = GetFault r fault new ⊎ PutFault r (chunk_key node chunk) (take count (piece_in (seen r) node chunk)) fault new

-- the objects that begin before a new length are those of a file of so many bytes, and no other object differs
pub record CutsFile (old : Tx) (node n : ℕ) (new : Tx) : Type 0 where
  pub ready : IsReady old → IsReady new
  pub pieces : (bytes : List ℕ) (chunk : ℕ) → IsReady old → node < 2 ^ 64 → chunk < 2 ^ 32 → chunk_bytes * chunk < n → IsPiece (objects.get (seen old) (chunk_key node chunk)) bytes chunk → IsPiece (objects.get (seen new) (chunk_key node chunk)) (resized bytes n) chunk
  pub others : (q : List ℕ) → IsReady old → ((chunk : ℕ) → chunk_bytes * chunk < n → q ≢ chunk_key node chunk) → objects.get (seen new) q ≡ objects.get (seen old) q
  pub same : new ≡ pending_of new old

-- the file's bytes are cut short or followed by zeros, and no other object differs
pub record ResizesFile (old : Tx) (node size n : ℕ) (new : Tx) : Type 0 where
  pub ready : IsReady old → IsReady new
  pub holds : (bytes : List ℕ) → IsReady old → node < 2 ^ 64 → length bytes ≡ size → HoldsFile (seen old) node bytes → HoldsFile (seen new) node (resized bytes n)
  pub others : (q : List ℕ) → IsReady old → ((chunk : ℕ) → chunk < 2 ^ 32 → q ≢ chunk_key node chunk) → objects.get (seen new) q ≡ objects.get (seen old) q
  pub same : new ≡ pending_of new old
