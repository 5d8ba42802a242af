use Rattle.std.proofs.Common.{◌≡◌, ◌++◌, take, true}
use Rattle.std.specs.List.{list_all}
use Rattle.kssd_model.specs.AnchorSpelling.{runs_bytes, fits_run}
use Rattle.kssd_anchor.proofs.spelling.add_runs.Given as goal

abbrev pub invariant-loop-run : goal.invariant-loop-run
invariant-loop-run l = record {
  bytes : l.bytes ≡ l.initial.bytes ++ runs_bytes (take l.run-index l.runs);
  fits : list_all fits_run (take l.run-index l.runs) ≡ true;
}
