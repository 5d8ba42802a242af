use Rattle.kssd_frames.proofs.SparePages.{spare_pages_stay, program_stays, erase_stays, run_blocks_stay, value_pages_stay}
use Rattle.kssd_frames.proofs.spare.spare_pages_count_for_nothing.Goals as goal

pub returns : goal.returns
returns c = record { any = spare_pages_stay; program = program_stays; erase = erase_stays; runs = run_blocks_stay; values = value_pages_stay }
