use Rattle.std.proofs.Common.{◌+◌, arith}
use Rattle.kssd_index.proofs.Ahead.{fewer_merges}
use Rattle.kssd_index.proofs.JobSteps.{due_merge}
use Rattle.kssd_index.proofs.NamedJobs.{merge_way, merge_named}
use Rattle.kssd_index.proofs.index.Index.name_merge.Goals as goal

pub name_merge-requires-clause-kind : goal.name_merge-requires-clause-kind
name_merge-requires-clause-kind g c = (due_merge c.args.self.now c.args.kind c.requires.due c.requires.merge).which

pub name_merge-requires-clause-job : goal.name_merge-requires-clause-job
name_merge-requires-clause-job g c =
    let old = g.N.Nand.flash c.args.nand.now in
    merge_way c.args.kind c.args.job c.args.self.now old.blocks old.image c.requires.merge c.requires.way

pub name_merge-requires-clause-number : goal.name_merge-requires-clause-number
name_merge-requires-clause-number g c = omega (arith, c.requires.number, c.requires.stands.numbers)

pub returns-in_err-name_merge-clause-aged : goal.returns-in_err-name_merge-clause-aged
returns-in_err-name_merge-clause-aged g c = omega (arith, c.name_merge.ensures.aged, c.requires.stands.numbers)

pub returns-clause-aged : goal.returns-clause-aged
returns-clause-aged g c = omega (arith, c.name_merge.ensures.aged, c.requires.stands.numbers)

pub returns-clause-stands : goal.returns-clause-stands
returns-clause-stands g c =
    let old = g.N.Nand.flash c.args.nand.now in
    let new = g.N.Nand.flash c.name_merge.new.nand in
    merge_named c.args.self.now c.name_merge.new.self old new c.requires.none c.requires.stands c.in_ok-name_merge.ensures.root c.in_ok-name_merge.ensures.log c.in_ok-name_merge.ensures.over c.name_merge.ensures.aged c.in_ok-name_merge.ensures.works

pub returns-clause-fewer : goal.returns-clause-fewer
returns-clause-fewer g c =
    fewer_merges c.args.kind c.args.self.now c.name_merge.new.self (c.args.self.now.age + 1) c.requires.due c.requires.merge c.in_ok-name_merge.ensures.zero c.in_ok-name_merge.ensures.one
