use Rattle.std.proofs.Common.{◌<◌, sym, length, arith}
use Rattle.kssd_parts.proofs.JobsDone.{number_at}
use Rattle.kssd_parts.proofs.compact.has_number.Goals as goal

pub returns-then-number-info : goal.returns-then-number-info
returns-then-number-info c =
    let lt : c.loop-info.info-index < length c.args.infos.now = omega arith in
    sym (number_at c.args.infos.now c.loop-info.info-index c.info-item.result c.args.number lt c.info-item.is c.if-number-info.true)
