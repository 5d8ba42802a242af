use Rattle.kssd_frames.proofs.ShownLaws.{runs_rise, log_rises, merged_rises, shown_rises, runs_over}
use Rattle.kssd_frames.proofs.shown.stages_rise.Goals as goal

pub returns : goal.returns
returns c = record { runs = runs_rise; log = log_rises; merged = merged_rises; shown = shown_rises; over = runs_over }
