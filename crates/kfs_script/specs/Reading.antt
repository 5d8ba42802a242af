-- What a reader of a part of a line gives.
use Rattle.std.specs.Prelude.{ℕ, ◌+◌, ◌≡◌, ◌++◌, List, [], length, ◌∷◌, ◌==◌, if◌then◌else◌, Option, Some, None, Result, Ok, Err}
use Rattle.kfs_model.specs.declared.Line.{Line}
use Rattle.kfs_script.specs.declared.fault.LineFault.{LineFault}
use Rattle.kfs_script.specs.declared.fault.LineFault.TheVariants.{Outside, Memory}
use Rattle.kfs_script.specs.declared.fault.ScriptFault.{ScriptFault}
use Rattle.kfs_script.specs.declared.fault.ScriptFault.TheVariants as faults
use Rattle.kfs_script.specs.Script.{pieces_at, ◌>>=◌, plain, byte_of}

-- what was read is what the definition gives; outside the grammar it gives nothing
abbrev pub ReadsPart : {X : Type 0} → Result X LineFault → Option X → Type 0
ReadsPart (Ok x) read = read ≡ Some x
ReadsPart (Err Outside) read = read ≡ None
ReadsPart (Err Memory) read = Unit {0}

-- the pieces of what is left, where something is
abbrev pub pieces_left : ℕ → Option (List ℕ) → List (List ℕ)
pieces_left mark None = []
pieces_left mark (Some bytes) = pieces_at mark bytes

-- room for what is left and for the byte before it
abbrev pub room_left : Option (List ℕ) → ℕ
room_left None = 0
room_left (Some bytes) = length bytes + 1

-- the byte with which a word begins, and what follows
abbrev pub next_of : List ℕ → Option (ℕ × List ℕ)
next_of [] = None
next_of (b ∷ []) = plain b >>= λ x. Some (x, [])
next_of (b ∷ h ∷ []) = plain b >>= λ x. Some (x, h ∷ [])
next_of (b ∷ h ∷ l ∷ rest) = if b == 37 then (byte_of h l >>= λ x. Some (x, rest)) else (plain b >>= λ x. Some (x, h ∷ l ∷ rest))

-- what was read is what the definition gives; a line outside the grammar is told by its number
abbrev pub Reads : Result (List Line) ScriptFault → Result (List Line) ℕ → Type 0
Reads (Ok script) read = read ≡ Ok script
Reads (Err (faults.BadLine number)) read = read ≡ Err number
Reads (Err faults.Memory) read = Unit {0}

-- what the definition gives stands behind the old lines
abbrev pub Adds : Result (Unit {0}) ScriptFault → List Line → List Line → Result (List Line) ℕ → Type 0
Adds (Ok done) old new read = (front : List Line) × (read ≡ Ok front) × (new ≡ old ++ front)
Adds (Err (faults.BadLine number)) old new read = read ≡ Err number
Adds (Err faults.Memory) old new read = Unit {0}
