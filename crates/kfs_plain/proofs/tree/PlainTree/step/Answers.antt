use Rattle.std.proofs.Common.{◌≤◌, ◌+◌, ap, subst}
use Rattle.std.specs.Prelude.{is_some}
use Rattle.kfs_model.specs.Life.{IsFree}
use Rattle.kfs_plain.specs.Plain.{Plain}
use Rattle.kfs_plain.specs.Tables.{world_of, desk_of, limits_of, free_number}
use Rattle.kfs_plain.proofs.Growing.{does_next}
use Rattle.kfs_plain.proofs.Opened.{free_is}
use Rattle.kfs_plain.proofs.tree.PlainTree.step.Goals as goal

pub returns-clause-next : goal.returns-clause-next
returns-clause-next c =
    let t = c.self.inside.tables in
    subst (λ (p : Plain). c.effect.new.t.files.next ≤ p.world.tree.next + 1) c.self.view_is
    (does_next (limits_of t) (free_number (desk_of t.desk)) (world_of t) (world_of c.effect.new.t) c.args.call.now c.effect.result c.effect.ensures.does)

pub returns-clause-free : goal.returns-clause-free
returns-clause-free c =
    let t = c.self.inside.tables in
    subst (λ (p : Plain). IsFree p.world (free_number p.world.desk)) c.self.view_is (ap is_some (free_is (limits_of t) (world_of t) c.self.invariant.sound))
