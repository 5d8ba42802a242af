use Rattle.std.proofs.Common.{◌<◌, sym, length, arith}
use Rattle.kssd_levels.proofs.Reading.{all_first, some_first}
use Rattle.kssd_levels.proofs.levels.first_of.Goals as goal

pub returns-in-None-clause-first : goal.returns-in-None-clause-first
returns-in-None-clause-first g c =
    all_first _ c.entries.found _ c.entries.invariant.left (sym (c.in-None.ensures _ _ c.entries.invariant.stands))

pub returns-clause-first : goal.returns-clause-first
returns-clause-first g c =
    let some : 0 < length c.entries.found = omega arith in
    some_first _ c.entries.found _ c.entries.invariant.left some
