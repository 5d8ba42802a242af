use Rattle.std.proofs.Common.{◌∙◌, ℕ, ◌+◌, ◌/◌, sym, ap, subst}
use Rattle.kssd_values.specs.declared.mark.Mark.TheVariants.{Visible}
use Rattle.kssd_values.specs.declared.values.Values.{Values}
use Rattle.kssd_values.specs.Places.{IsValueBlock}
use Rattle.kssd_reclaim.specs.Sources.{is_visible}
use Rattle.kssd_collect.proofs.Moves.{IsMarked, at_from, source_value, target_is, none_marked, source_now, passed_by, marked_more, marked_all, not_visible}
use Rattle.kssd_collect.proofs.marking.move_visible.Goals as goal
use Rattle.kssd_collect.proofs.marking.move_visible.Goals.{in-Visible, in_default}

pub loop-copy-init : goal.loop-copy-init
loop-copy-init c = none_marked is_visible Visible c.args.reclaim.now c.args.values.now

pub mark_of-requires : goal.mark_of-requires
mark_of-requires c =
    let at = at_from c.args.reclaim.now c.args.values.now c.as_slice-copy-items.result.now c.loop-copy.copy-index c.copy-item.result (c.as_slice-copy-items.ensures ∙ c.copies.ensures.copies) c.requires.copies c.loop-copy-test.true c.copy-item.is in
    subst (λ (n : ℕ). IsValueBlock n (c.copy-item.result.source / 32)) (sym c.loop-copy.invariant.places.device) (source_value c.args.reclaim.now c.args.values.now c.loop-copy.copy-index c.copy-item.result at)

pub move_mark-requires-clause-target : goal.move_mark-requires-clause-target
move_mark-requires-clause-target c =
    let at = at_from c.args.reclaim.now c.args.values.now c.as_slice-copy-items.result.now c.loop-copy.copy-index c.copy-item.result (c.as_slice-copy-items.ensures ∙ c.copies.ensures.copies) c.requires.copies c.loop-copy-test.true c.copy-item.is in
    c.loop-copy.invariant.places.target.pages c.copy-item.result.target ∙ target_is c.args.reclaim.now c.args.values.now c.loop-copy.copy-index c.copy-item.result at

pub loop-copy-preserved : goal.loop-copy-preserved
loop-copy-preserved c =
    let r = c.args.reclaim.now in
    let old = c.args.values.now in
    let n = c.loop-copy.copy-index in
    let copy = c.copy-item.result in
    let h = c.loop-copy.invariant in
    let at = at_from r old c.as_slice-copy-items.result.now n copy (c.as_slice-copy-items.ensures ∙ c.copies.ensures.copies) c.requires.copies c.loop-copy-test.true c.copy-item.is in
    let now = source_now is_visible Visible r old c.loop-copy.values n copy at h in
    elim c.match-mark_of.branch [
      | in-Visible w ↦
          let has = sym c.mark_of.ensures ∙ w.in-Visible.is in
          subst (λ (v : Values). IsMarked is_visible Visible r old (n + 1) v) (sym w.values-is)
          (marked_more is_visible Visible r old c.loop-copy.values w.move_mark.new.values n copy at h (ap is_visible (sym now ∙ has)) has w.move_mark.ensures.marks w.move_mark.ensures.places)
      | in_default w ↦
          subst (λ (v : Values). IsMarked is_visible Visible r old (n + 1) v) (sym w.values-is)
          (passed_by is_visible Visible r old c.loop-copy.values n copy at h (not_visible c.mark_of.result _ (c.mark_of.ensures ∙ now) w.in_default.not-Visible))
    ]

pub returns-clause-marks : goal.returns-clause-marks
returns-clause-marks c = marked_all is_visible Visible c.args.reclaim.now c.args.values.now c.loop-copy.values c.as_slice-copy-items.result.now c.loop-copy.copy-index c.loop-copy.invariant (c.as_slice-copy-items.ensures ∙ c.copies.ensures.copies) c.loop-copy-test.false

pub returns-clause-places : goal.returns-clause-places
returns-clause-places c = c.loop-copy.invariant.places
