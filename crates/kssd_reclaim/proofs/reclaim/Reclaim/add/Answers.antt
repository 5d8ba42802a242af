use Rattle.kssd_reclaim.proofs.Collecting.{sources_more}
use Rattle.kssd_reclaim.proofs.reclaim.Reclaim.add.Goals as goal

pub invariant_of-self-2 : goal.invariant_of-self-2
invariant_of-self-2 g c =
    let r = c.args.self.now in
    record { sound = sources_more r.block r.next r.copies c.push.new.self (record { source = c.args.source; target = c.args.target; key = c.in_ok-name.name.key; length = c.in_ok-name.name.length }) r.sound c.requires.source c.requires.next c.in_ok-push.ensures.ok }
