use Rattle.kssd_model.proofs.GroupsPages.{stands_seen, seen_stands, path_stands}
use Rattle.kssd_model.proofs.groups.pages_stand_in_their_spelling.Goals as goal

pub returns : goal.returns
returns c = record { seen_again = stands_seen; spelled = seen_stands; path_spelled = path_stands }
