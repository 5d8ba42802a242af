use Rattle.std.proofs.Common.{◌≡◌, ◌<◌, ◌≤◌, ◌^◌, ◌∙◌, ◌++◌, Some, refl, ap, sym, subst, arith}
use Rattle.kv_base.specs.declared.damage.Damage.{Damage}
use Rattle.kv_device.specs.Machine.{Machine}
use Rattle.kssd_image.specs.Whole.{age_in}
use Rattle.kssd_machine.specs.Machines.{resting}
use Rattle.kfs_runner.specs.Numbers.{limits_of}
use Rattle.kfs_runner.specs.Refusals.{rested_on, whole_in, damaged_in}
use Rattle.kfs_runner.specs.MountPoints.{MountState, Bare, Known, IsPointWhole, shows_point, point_limits, point_rested, point_machine, tree_damage, device_age}
use Rattle.kfs_runner.specs.Serving.{AreDone, StopsBehind}
use Rattle.kfs_runner.specs.Lines.{IsRefused}
use Rattle.kfs_runner.proofs.Asking.{last_moved}
use Rattle.kfs_runner.proofs.ServedImages.{Begins, Refused, known_on, served_on, stops_on}
use Rattle.kfs_runner.proofs.serving.serve_image.Goals as goal

pub answer_lines-requires-clause-known : goal.answer_lines-requires-clause-known
answer_lines-requires-clause-known g c =
    let old = g.N.Nand.flash c.args.nand in
    let done = c.new-resting.ensures in
    let at : _ ≡ Bare (resting old) (age_in old.image) (Some (rested_on old)) = λ i. Bare (done.rests i) (done.age i) (done.rested i) in
    subst Known (sym at) (known_on old (age_in old.image) (Some (rested_on old)) c.requires.unplanned)

pub returns-in-Ok-clause-ok : goal.returns-in-Ok-clause-ok
returns-in-Ok-clause-ok g c =
    let old = g.N.Nand.flash c.args.nand in
    let new = g.N.Nand.flash c.into_nand.result in
    let kept = g.N.Nand.flash c.in-Ok.store.nand in
    let ls = c.args.lines.now in
    let first = c.in_ok-text.text in
    let text = c.in-Ok.text in
    let done = c.new-resting.ensures in
    let at : _ ≡ Bare (resting old) (age_in old.image) (Some (rested_on old)) = λ i. Bare (done.rests i) (done.age i) (done.rested i) in
    let all = subst (λ (point : MountState). AreDone (point_limits point) ls first text (λ s. shows_point point s × IsPointWhole point × (device_age point ≤ 2 ^ 61)) (IsRefused (point_rested point) (IsPointWhole point × (device_age point ≤ 2 ^ 61)) (tree_damage point)) (point_machine point) (resting kept)) at c.in-Ok.ensures.ok in
    let rests = subst (λ (m : Machine). AreDone (limits_of old.blocks) ls first text (Begins old) (Refused old) (resting old) m) (sym c.into_nand.ensures.rests) all in
    let whole = subst (λ (point : MountState). IsPointWhole point → device_age point ≤ 2 ^ 61 → whole_in (Some (rested_on kept))) at c.in-Ok.ensures.whole in
    let low = subst (λ (point : MountState). device_age point ≤ 2 ^ 61 → age_in kept.image < 2 ^ 62) at c.in-Ok.ensures.age in
    let stays = subst (λ (point : MountState). (damage : Damage) → damaged_in (point_rested point) damage → Some (rested_on kept) ≡ point_rested point) at c.in-Ok.ensures.stays in
    let same = subst (λ (point : MountState). (damage : Damage) → tree_damage point damage → IsPointWhole point → device_age point ≤ 2 ^ 61 → (resting kept).stable ≡ (point_machine point).stable) at c.in-Ok.ensures.kept in
    served_on old new ls first text (record { least = c.requires.blocks.0; most = c.requires.blocks.1 }) c.requires.few c.requires.unplanned c.into_nand.ensures.blocks c.in_ok-text.ensures
    (λ w y. subst whole_in (sym c.into_nand.ensures.rested) (whole w y))
    (λ y. omega (arith, c.into_nand.ensures.age, low y))
    (λ damage is. c.into_nand.ensures.rested ∙ stays damage is)
    (λ damage is w y. ap (λ (m : Machine). m.stable) c.into_nand.ensures.rests ∙ same damage is w y)
    rests

pub returns-in-Ok-clause-planned : goal.returns-in-Ok-clause-planned
returns-in-Ok-clause-planned g c = last_moved c.args.lines.now c.args.lines.now _ _ refl c.into_nand.ensures.asked c.in-Ok.ensures.planned

pub returns-in-Err-clause-stops : goal.returns-in-Err-clause-stops
returns-in-Err-clause-stops g c =
    let old = g.N.Nand.flash c.args.nand in
    let ls = c.args.lines.now in
    let first = c.in_ok-text.text in
    let done = c.new-resting.ensures in
    let at : _ ≡ Bare (resting old) (age_in old.image) (Some (rested_on old)) = λ i. Bare (done.rests i) (done.age i) (done.rested i) in
    stops_on old ls first c.in-Err.fault c.requires.unplanned c.in_ok-text.ensures (subst (λ (point : MountState). StopsBehind (point_limits point) ls first (λ s. shows_point point s × IsPointWhole point × (device_age point ≤ 2 ^ 61)) (IsRefused (point_rested point) (IsPointWhole point × (device_age point ≤ 2 ^ 61)) (tree_damage point)) c.in-Err.fault) at c.in-Err.ensures.stops)
