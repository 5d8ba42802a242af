use Rattle.std.proofs.Common.{◌∙◌, ℕ, ◌+◌, ◌/◌, sym, ap, subst}
use Rattle.kssd_tx.specs.Lists.{Transactions}
use Rattle.kssd_values.specs.declared.mark.Mark.TheVariants.{Pending}
use Rattle.kssd_values.specs.declared.values.Values.{Values}
use Rattle.kssd_values.specs.Places.{IsValueBlock}
use Rattle.kssd_machine.specs.Marked.{is_pending}
use Rattle.kssd_collect.proofs.Moves.{IsMarked, AreFollowed, at_from, source_value, target_is, none_marked, none_followed, source_now, passed_by, marked_more, followed_more, marked_all, not_pending}
use Rattle.kssd_collect.proofs.marking.move_pending.Goals as goal
use Rattle.kssd_collect.proofs.marking.move_pending.Goals.{in-Pending, in_default}

pub loop-copy-init : goal.loop-copy-init
loop-copy-init c = record { marks = none_marked is_pending Pending c.args.reclaim.now c.args.values.now; lists = none_followed c.args.reclaim.now c.args.values.now c.args.changes.now }

pub mark_of-requires : goal.mark_of-requires
mark_of-requires c =
    let at = at_from c.args.reclaim.now c.args.values.now c.as_slice-copy-items.result.now c.loop-copy.copy-index c.copy-item.result (c.as_slice-copy-items.ensures ∙ c.copies.ensures.copies) c.requires.copies c.loop-copy-test.true c.copy-item.is in
    subst (λ (n : ℕ). IsValueBlock n (c.copy-item.result.source / 32)) (sym c.loop-copy.invariant.marks.places.device) (source_value c.args.reclaim.now c.args.values.now c.loop-copy.copy-index c.copy-item.result at)

pub move_mark-requires-clause-target : goal.move_mark-requires-clause-target
move_mark-requires-clause-target c =
    let at = at_from c.args.reclaim.now c.args.values.now c.as_slice-copy-items.result.now c.loop-copy.copy-index c.copy-item.result (c.as_slice-copy-items.ensures ∙ c.copies.ensures.copies) c.requires.copies c.loop-copy-test.true c.copy-item.is in
    c.loop-copy.invariant.marks.places.target.pages c.copy-item.result.target ∙ target_is c.args.reclaim.now c.args.values.now c.loop-copy.copy-index c.copy-item.result at

pub loop-copy-preserved : goal.loop-copy-preserved
loop-copy-preserved c =
    let r = c.args.reclaim.now in
    let old = c.args.values.now in
    let before = c.args.changes.now in
    let n = c.loop-copy.copy-index in
    let copy = c.copy-item.result in
    let h = c.loop-copy.invariant.marks in
    let at = at_from r old c.as_slice-copy-items.result.now n copy (c.as_slice-copy-items.ensures ∙ c.copies.ensures.copies) c.requires.copies c.loop-copy-test.true c.copy-item.is in
    let now = source_now is_pending Pending r old c.loop-copy.values n copy at h in
    elim c.match-mark_of.branch [
      | in-Pending w ↦
          let has = sym c.mark_of.ensures ∙ w.in-Pending.is in
          record {
            marks = subst (λ (v : Values). IsMarked is_pending Pending r old (n + 1) v) (sym w.values-is)
                (marked_more is_pending Pending r old c.loop-copy.values w.move_mark.new.values n copy at h (ap is_pending (sym now ∙ has)) has w.move_mark.ensures.marks w.move_mark.ensures.places);
            lists = subst (λ (v : Values). AreFollowed r old before v c.match-mark_of.changes) (sym w.values-is)
                (subst (λ (lists : Transactions). AreFollowed r old before w.move_mark.new.values lists) (sym (w.changes-is ∙ w.repoint.ensures))
                (followed_more r old c.loop-copy.values w.move_mark.new.values before c.loop-copy.changes n copy at h c.requires.dead has w.move_mark.ensures.marks c.loop-copy.invariant.lists));
          }
      | in_default w ↦ record {
        marks = subst (λ (v : Values). IsMarked is_pending Pending r old (n + 1) v) (sym w.values-is)
            (passed_by is_pending Pending r old c.loop-copy.values n copy at h (not_pending c.mark_of.result _ (c.mark_of.ensures ∙ now) w.in_default.not-Pending));
        lists = subst (λ (v : Values). AreFollowed r old before v c.match-mark_of.changes) (sym w.values-is)
            (subst (λ (lists : Transactions). AreFollowed r old before c.loop-copy.values lists) (sym w.changes-is) c.loop-copy.invariant.lists);
      }
    ]

pub returns-clause-marks : goal.returns-clause-marks
returns-clause-marks c = marked_all is_pending Pending c.args.reclaim.now c.args.values.now c.loop-copy.values c.as_slice-copy-items.result.now c.loop-copy.copy-index c.loop-copy.invariant.marks (c.as_slice-copy-items.ensures ∙ c.copies.ensures.copies) c.loop-copy-test.false

pub returns-clause-places : goal.returns-clause-places
returns-clause-places c = c.loop-copy.invariant.marks.places

pub returns-clause-marked : goal.returns-clause-marked
returns-clause-marked c = c.loop-copy.invariant.lists.marked

pub returns-clause-count : goal.returns-clause-count
returns-clause-count c = c.loop-copy.invariant.lists.count

pub returns-clause-rising : goal.returns-clause-rising
returns-clause-rising c = c.loop-copy.invariant.lists.rising

pub returns-clause-pending : goal.returns-clause-pending
returns-clause-pending c = c.loop-copy.invariant.lists.pending

pub returns-clause-valued : goal.returns-clause-valued
returns-clause-valued c = c.loop-copy.invariant.lists.valued
