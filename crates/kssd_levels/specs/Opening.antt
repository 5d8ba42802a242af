-- Runs that were opened, by levels.
use Rattle.std.specs.Prelude.{◌≡◌, ◌==◌, ◌&&◌, not, Bool, List, [], ◌∷◌, ◌++◌, if◌then◌else◌}
use Rattle.kssd_run.specs.declared.reader.Run.{Run}
use Rattle.kssd_run.specs.Run.{run_info}
use Rattle.kssd_levels.specs.declared.opening.Opened.{Opened}

-- the run, or nothing where a test fails
abbrev pub when : Bool → Run → List Run
when test run = if test then run ∷ [] else []

abbrev pub is_zero : Run → Bool
is_zero run = (run_info run).level == 0

abbrev pub is_one : Run → Bool
is_one run = (run_info run).level == 1

abbrev pub is_base : Run → Bool
is_base run = not (is_zero run) && not (is_one run)

pub record HasNone (opened : Opened) : Type 0 where
  pub zero : opened.zero ≡ []
  pub one : opened.one ≡ []
  pub base : opened.base ≡ []

-- a run came to its level
pub record Adds (run : Run) (old new : Opened) : Type 0 where
  pub zero : new.zero ≡ old.zero ++ when (is_zero run) run
  pub one : new.one ≡ old.one ++ when (is_one run) run
  pub base : new.base ≡ old.base ++ when (is_base run) run
