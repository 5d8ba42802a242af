use Rattle.std.proofs.Common.{◌≡◌, ◌<◌, ◌≤◌, ◌^◌, ◌∙◌, ◌++◌, refl, ap, sym, subst, arith}
use Rattle.kssd_image.specs.Whole.{age_in}
use Rattle.kssd_machine.specs.Machines.{resting}
use Rattle.kfs_script.specs.AnswerText.{text_of}
use Rattle.kfs_model.specs.Tree.{Limits}
use Rattle.kfs_runner.specs.Numbers.{limits_of}
use Rattle.kfs_runner.specs.Refusals.{whole_in}
use Rattle.kfs_runner.specs.Serving.{StopsServing}
use Rattle.kfs_runner.specs.MountPoints.{MountState, mount_state, device_age}
use Rattle.kfs_runner.proofs.Asking.{last_moved}
use Rattle.kfs_runner.proofs.ServedLines.{done_first, served, moved, stops}
use Rattle.kfs_runner.proofs.serving.serve_new.Goals as goal

pub returns-in-Ok-clause-ok : goal.returns-in-Ok-clause-ok
returns-in-Ok-clause-ok g c =
    let old = g.N.Nand.flash c.args.nand in
    let new = g.N.Nand.flash c.into_nand.result in
    let young = c.in_ok-point.ensures.device_age in
    let low : age_in new.image < 2 ^ 62 = omega (arith, c.into_nand.ensures.age, c.in-Ok.ensures.age young) in
    let whole = subst whole_in (sym c.into_nand.ensures.rested) (c.in-Ok.ensures.whole c.in_ok-point.ensures.whole young) in
    let is : c.write_answer.new.out ≡ text_of done_first = c.in_ok-write_answer.ensures.ok ∙ ap (λ t. t ++ text_of done_first) c.in_ok-text.ensures in
    let all = moved _ (limits_of old.blocks) c.args.lines.now _ c.in-Ok.text _ _ _ _ (resting new) c.in_ok-point.ensures.limits c.into_nand.ensures.rests c.in-Ok.ensures.ok in
    served old new c.args.lines.now c.write_answer.new.out c.in-Ok.text _ _ _ c.requires.blocks.0 c.requires.few c.into_nand.ensures.blocks whole low is (c.in_ok-point.ensures.shows, c.in_ok-point.ensures.whole, young) c.in_ok-point.ensures.strikes all

pub returns-in-Ok-clause-planned : goal.returns-in-Ok-clause-planned
returns-in-Ok-clause-planned g c = last_moved c.args.lines.now c.args.lines.now _ _ refl c.into_nand.ensures.asked c.in-Ok.ensures.planned

pub returns-in-Err-clause-stops : goal.returns-in-Err-clause-stops
returns-in-Err-clause-stops g c =
    let young = c.in_ok-point.ensures.device_age in
    let is : c.write_answer.new.out ≡ text_of done_first = c.in_ok-write_answer.ensures.ok ∙ ap (λ t. t ++ text_of done_first) c.in_ok-text.ensures in
    let L : Limits → Type 0 = λ l. StopsServing l c.args.lines.now c.in-Err.fault in
    subst L c.in_ok-point.ensures.limits (stops _ c.args.lines.now c.write_answer.new.out _ _ c.in-Err.fault is (c.in_ok-point.ensures.shows, c.in_ok-point.ensures.whole, young) c.in-Err.ensures.stops)
