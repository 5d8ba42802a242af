use Rattle.std.proofs.Common.{◌≡◌, ◌+◌, ◌≤◌, take, true}
use Rattle.std.specs.Prelude.{sum_by}
use Rattle.std.specs.List.{list_all}
use Rattle.kssd_model.specs.AnchorSpelling.{is_low, run_size}
use Rattle.kssd_anchor.proofs.spelling.runs_fit.Given as goal

abbrev pub invariant-loop-run : goal.invariant-loop-run
invariant-loop-run l = record {
  size : l.size ≡ 22 + sum_by run_size (take l.run-index l.runs);
  room : l.size ≤ 4096;
  low : list_all is_low (take l.run-index l.runs) ≡ true;
}
