-- What the words of the program ask for.
use Rattle.std.specs.Prelude.{ℕ, ◌-◌, ◌^◌, ◌≤◌, nat_le, ◌&&◌, if◌then◌else◌, List, [], ◌∷◌, codes, Option, Some, None}
use Rattle.std.specs.Str.{bytes_eq}
use Rattle.kfs_script.specs.Script.{number_to}
use Rattle.kfs_runner.specs.declared.words.Task.{Task}
use Rattle.kfs_runner.specs.declared.words.Task.TheVariants.{Nothing, Run, Make}

-- a load has at least one step, and a device at least 256 blocks
abbrev pub load_by : Option ℕ → Option ℕ → Option ℕ → Task
load_by (Some seed) (Some count) (Some blocks) = if nat_le 1 count && nat_le 256 blocks then Make seed count blocks else Nothing
load_by None count blocks = Nothing
load_by (Some seed) None blocks = Nothing
load_by (Some seed) (Some count) None = Nothing

-- the load of three numbers, each up to its limit
unfoldable pub load_of : List ℕ → List ℕ → List ℕ → Task
load_of seed count blocks = load_by (number_to (2 ^ 64 - 1) seed) (number_to 20000 count) (number_to 2048 blocks)

-- `run` and one word more, or `make` and three numbers
abbrev pub task_of : List (List ℕ) → Task
task_of [] = Nothing
task_of (word ∷ []) = Nothing
task_of (word ∷ image ∷ []) = if bytes_eq word (codes "run") then Run else Nothing
task_of (word ∷ seed ∷ count ∷ []) = Nothing
task_of (word ∷ seed ∷ count ∷ blocks ∷ []) = if bytes_eq word (codes "make") then load_of seed count blocks else Nothing
task_of (word ∷ seed ∷ count ∷ blocks ∷ more ∷ others) = Nothing

-- within the limits
abbrev pub IsWithin : Task → Type 0
IsWithin Nothing = Unit {0}
IsWithin Run = Unit {0}
IsWithin (Make seed count blocks) = (1 ≤ count) × (count ≤ 20000) × (256 ≤ blocks) × (blocks ≤ 2048)
