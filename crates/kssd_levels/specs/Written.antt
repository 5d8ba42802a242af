-- What a job leaves of its run.
use Rattle.std.specs.Prelude.{◌==◌, List, [], ◌∷◌, if◌then◌else◌}
use Rattle.kssd_run.specs.declared.reader.Run.{Run}
use Rattle.kssd_run.specs.Run.{run_info}

-- the run, or nothing where it has no entries
abbrev pub written : Run → List Run
written run = if (run_info run).entries == 0 then [] else run ∷ []
