use Rattle.kssd_machine.proofs.Keeping.{objects_stay, live_holds, live_stand, fresh_is_dead, pending_stays, still_valued}
use Rattle.kssd_machine.proofs.marked.marked_pages_stand.Goals as goal

pub returns : goal.returns
returns c = record {
  stays = objects_stay;
  live = live_holds;
  stand = live_stand;
  fresh = fresh_is_dead;
  pending = pending_stays;
  valued = still_valued;
}
