use Rattle.std.proofs.Common.{ℕ, ◌≤◌, Option, refl, sym, subst}
use Rattle.std.specs.Prelude.{IfSome}
use Rattle.kssd_reclaim.specs.Reclaim.{AllCopied}
use Rattle.kssd_machine.proofs.Spacing.{no_victim}
use Rattle.kssd_mounted.proofs.Staying.{leaves_image}
use Rattle.kssd_collect.proofs.Kept.{few_live, few_free, none_into}
use Rattle.kssd_collect.proofs.collection.copy_whole.Goals as goal

pub take_up-requires-clause-victim : goal.take_up-requires-clause-victim
take_up-requires-clause-victim g c none =
    let m = c.args.mounted.now in
    let flash = g.N.Nand.flash c.args.nand.now in
    let stands = c.requires.stands in
    let idle = none_into m flash stands none in
    no_victim m.values (subst (λ n. 256 ≤ n) (sym stands.device) stands.least) (few_live m flash stands c.look_at.ensures) (few_free m.values c.requires.full idle) idle

pub returns-in_err-reclaim-clause-leaves : goal.returns-in_err-reclaim-clause-leaves
returns-in_err-reclaim-clause-leaves g c = leaves_image c.args.mounted.now (g.N.Nand.flash c.args.nand.now) (g.N.Nand.flash c.args.nand.now) refl refl c.requires.stands

pub returns-clause-copied : goal.returns-clause-copied
returns-clause-copied g c =
    let done = c.in_ok-copy_block.ensures in
    record {
      busy = done.collected.busy;
      copies = done.collected.copies;
      all = subst (λ (o : Option ℕ). IfSome o (λ _. AllCopied c.copy_block.new.reclaim c.copy_block.new.mounted.values)) c.in-Some.is done.all;
    }
