use Rattle.std.proofs.Common.{◌∙◌, ◌+◌, Option, sym, subst, arith}
use Rattle.kssd_index.specs.declared.index.Older.{Older}
use Rattle.kssd_levels.specs.declared.kind.JobKind.TheVariants.{Flush}
use Rattle.kssd_index.specs.Working.{IsOneFewer}
use Rattle.kssd_index.proofs.Ahead.{fewer_flushes}
use Rattle.kssd_index.proofs.NamedJobs.{flushing, flush_named}
use Rattle.kssd_index.proofs.index.Index.name_flush.Goals as goal

pub name_flush-requires-clause-job : goal.name_flush-requires-clause-job
name_flush-requires-clause-job g c =
    let old = g.N.Nand.flash c.args.nand.now in
    flushing c.args.self.now c.in-Some.older c.args.job old.blocks old.image (sym c.take.ensures.value ∙ c.in-Some.is) c.requires.stands c.requires.way

pub name_flush-requires-clause-number : goal.name_flush-requires-clause-number
name_flush-requires-clause-number g c = omega (arith, c.requires.number, c.requires.stands.numbers)

pub returns-in_err-name_flush-clause-aged : goal.returns-in_err-name_flush-clause-aged
returns-in_err-name_flush-clause-aged g c = omega (arith, c.name_flush.ensures.aged, c.requires.stands.numbers)

pub returns-clause-aged : goal.returns-clause-aged
returns-clause-aged g c = omega (arith, c.name_flush.ensures.aged, c.requires.stands.numbers)

pub returns-clause-stands : goal.returns-clause-stands
returns-clause-stands g c =
    let old = g.N.Nand.flash c.args.nand.now in
    let new = g.N.Nand.flash c.name_flush.new.nand in
    flush_named c.args.self.now c.in-Some.older c.take.new.self c.name_flush.new.self old new (sym c.take.ensures.value ∙ c.in-Some.is) c.take.ensures.after c.requires.none c.requires.stands c.in_ok-name_flush.ensures.root c.in_ok-name_flush.ensures.log c.name_flush.ensures.aged c.in_ok-name_flush.ensures.works

pub returns-clause-fewer : goal.returns-clause-fewer
returns-clause-fewer g c =
    let index = c.args.self.now in
    let root = c.name_flush.new.self in
    subst (λ (o : Option Older). IsOneFewer Flush index (record index { root = root; age = index.age + 1; older = o })) (sym c.take.ensures.after)
    (fewer_flushes index root (index.age + 1) c.requires.frozen c.in_ok-name_flush.ensures.one c.in_ok-name_flush.ensures.zero)
