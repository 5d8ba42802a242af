use Rattle.kssd_image.proofs.Blank.{ends_before}
use Rattle.kssd_image.proofs.worked.cut_page_ends_the_log.Goals as goal

pub returns : goal.returns
returns c = ends_before
