use Rattle.kssd_machine.proofs.Tagging.{begun, sets, aborts, ends, moved_marks, repoints}
use Rattle.kssd_machine.proofs.Keeping.{opened}
use Rattle.kssd_machine.proofs.marked.marks_follow_entries.Goals as goal

pub returns : goal.returns
returns c = record { mount = opened; begin = begun; set = sets; abort = aborts; end = ends; move = moved_marks; repoint = repoints }
