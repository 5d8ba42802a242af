-- The lines that a seed, a count and a number of blocks give.
use Rattle.std.specs.Prelude.{ℕ, zero, suc, ◌+◌, ◌*◌, ◌/◌, ◌%◌, ◌^◌, ◌≡◌, ◌≤◌, ◌==◌, nat_lt, true, false, List, [], ◌∷◌, ◌++◌, codes, pos, if◌then◌else◌}
use Rattle.std.specs.Fmt.{decimal}
use Rattle.kfs_path.specs.declared.call.Call.TheVariants as calls
use Rattle.kfs_path.specs.declared.call.Data.TheVariants.{Fill}
use Rattle.kfs_path.specs.declared.call.Flags.{Flags}
use Rattle.kfs_model.specs.declared.Line.{Line}
use Rattle.kfs_model.specs.declared.Line.TheVariants as lines

-- the state after a draw
unfoldable pub drawn : ℕ → ℕ
drawn x = (x * 6364136223846793005 + 1442695040888963407) % 2 ^ 64

-- the number that a draw gives, by the state after it
unfoldable pub number_of : ℕ → ℕ
number_of x = x / 2 ^ 33

-- a directory's path
abbrev pub dir_path : ℕ → List ℕ
dir_path a = codes "/d" ++ decimal a

-- a file's path
abbrev pub file_path : ℕ → ℕ → List ℕ
file_path a b = codes "/d" ++ (decimal a ++ (codes "/f" ++ decimal b))

-- the file that two draws name, by the states after them
abbrev pub file_by : ℕ → ℕ → List ℕ
file_by a b = file_path (number_of a % 10) (number_of b % 20)

-- for reading and writing, and made where it is missing
abbrev pub making : Flags
making = record { read = true; write = true; creat = true; excl = false; trunc = false; append = false }

-- lines, and the state after the draws that they took
pub record Part : Type 0 where
  pub lines : List Line
  pub state : ℕ

-- a file and bytes in it: 1 to 20,000 times one byte, below 100,000
unfoldable pub write_part : ℕ → Part
write_part x =
    let a = drawn x in
    let b = drawn a in
    let n = drawn b in
    let p = drawn n in
    let c = drawn p in
    record {
      lines =
          lines.Call (calls.Open (file_by a b) making)
          ∷ lines.Call (calls.Pwrite 0 (Fill (1 + number_of n % 20000) (number_of c % 256)) (pos (number_of p % 100000)))
          ∷ lines.Call (calls.Close 0)
          ∷ [];
      state = c;
    }

-- a file loses its name
unfoldable pub unlink_part : ℕ → Part
unlink_part x =
    let a = drawn x in
    let b = drawn a in
    record { lines = lines.Call (calls.Unlink (file_by a b)) ∷ []; state = b }

-- a file takes another's name
unfoldable pub rename_part : ℕ → Part
rename_part x =
    let a = drawn x in
    let b = drawn a in
    let c = drawn b in
    let d = drawn c in
    record { lines = lines.Call (calls.Rename (file_by a b) (file_by c d)) ∷ []; state = d }

-- a file gets a length below 100,000
unfoldable pub truncate_part : ℕ → Part
truncate_part x =
    let a = drawn x in
    let b = drawn a in
    let n = drawn b in
    record { lines = lines.Call (calls.Truncate (file_by a b) (pos (number_of n % 100000))) ∷ []; state = n }

-- all that was changed is committed
abbrev pub sync_part : ℕ → Part
sync_part x = record { lines = lines.Call calls.Sync ∷ []; state = x }

-- a step of this kind, 0 to 9
abbrev pub part_of : ℕ → ℕ → Part
part_of kind x =
    if nat_lt kind 6 then write_part x else
    if kind == 6 then unlink_part x else
    if kind == 7 then rename_part x else
    if kind == 8 then truncate_part x else
    sync_part x

-- a draw for the kind, and the step
abbrev pub step_from : ℕ → Part
step_from x = part_of (number_of (drawn x) % 10) (drawn x)

-- so many steps
abbrev pub steps_from : ℕ → ℕ → List Line
steps_from x zero = []
steps_from x (suc count) = (step_from x).lines ++ steps_from (step_from x).state count

-- the directories from a number on, so many
abbrev pub dirs_from : ℕ → ℕ → List Line
dirs_from a zero = []
dirs_from a (suc count) = lines.Call (calls.Mkdir (dir_path a)) ∷ dirs_from (a + 1) count

-- the lines behind the format: ten directories and the steps, and what is done is committed and mounted
abbrev pub load_rest : ℕ → ℕ → List Line
load_rest seed count = dirs_from 0 10 ++ steps_from seed count ++ lines.Call calls.Sync ∷ lines.Mount ∷ []

-- all of them
unfoldable pub load_lines : ℕ → ℕ → ℕ → List Line
load_lines seed count blocks = lines.Format blocks ∷ load_rest seed count

-- the lines behind the format of a load of at most 20,000 steps
abbrev pub IsLoadRest : List Line → Type 0
IsLoadRest ls = (seed : ℕ) × (count : ℕ) × (count ≤ 20000) × (ls ≡ load_rest seed count)
