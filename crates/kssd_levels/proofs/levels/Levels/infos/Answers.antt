use Rattle.kssd_levels.proofs.Named.{may_name}
use Rattle.kssd_levels.proofs.levels.Levels.infos.Goals as goal

pub returns-clause-named : goal.returns-clause-named
returns-clause-named c =
    let levels = c.args.self.now in
    may_name levels.layout.blocks levels.zero levels.one levels.base levels.sound
