use Rattle.std.proofs.Common.{◌≡◌, sym, subst}
use Rattle.std.specs.Prelude.{IfOk}
use Rattle.kv_nand.proofs.Reading.{shows_whole}
use Rattle.kssd_model.specs.Groups.{seen}
use Rattle.kssd_log.specs.Scan.{look_seen}
use Rattle.kssd_log.proofs.scanning.read_at.Goals as goal

pub returns-in-Whole-clause-ok : goal.returns-in-Whole-clause-ok
returns-in-Whole-clause-ok g c =
    let whole = shows_whole ((g.N.Nand.flash c.args.nand.now).image c.args.page) c.args.buffer.now c.in_ok-read.field-0 c.read.new.into c.in_ok-read.ensures.ok.shows c.in-Whole.is in
    subst (λ state. IfOk c.look_at.result (λ look. look_seen look ≡ seen c.args.page c.args.number state)) (sym whole) c.look_at.ensures.ok
