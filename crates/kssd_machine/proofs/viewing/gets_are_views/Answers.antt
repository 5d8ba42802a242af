use Rattle.kssd_machine.proofs.Seeing.{get_found, get_own, get_visible, own_valued, visible_valued, page_read}
use Rattle.kssd_machine.proofs.viewing.gets_are_views.Goals as goal

pub returns : goal.returns
returns c = record { found = get_found; own = get_own; visible = get_visible; own_valued = own_valued; visible_valued = visible_valued; page = page_read }
