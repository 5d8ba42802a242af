use Rattle.std.proofs.Common.{◌≡◌, ◌∙◌, ap, sym, subst}
use Rattle.kv_device.specs.Machine.{Machine}
use Rattle.kfs_runner.specs.Refusals.{damaged_in}
use Rattle.kfs_runner.specs.MountPoints.{mount_state}
use Rattle.kfs_runner.proofs.Asking.{last_still}
use Rattle.kfs_runner.proofs.MountLaws.{kept_whole, kept_rested}
use Rattle.kfs_runner.proofs.ServedLines.{done}
use Rattle.kfs_runner.proofs.serving.answer_lines.Goals as goal

pub returns-in-Ok-clause-ok : goal.returns-in-Ok-clause-ok
returns-in-Ok-clause-ok g c =
    let at = mount_state g.S.Store.machine g.S.Store.age g.S.Store.rested in
    done (at c.args.point) (at c.in-Ok.point) (g.S.Store.machine c.into_store.result) c.args.lines.now c.args.before c.answer_all.new.text _ _ c.in-Ok.ensures.known c.in-Ok.ensures.ok c.in-Ok.ensures.limits c.into_store.ensures.machine

pub returns-in-Ok-clause-whole : goal.returns-in-Ok-clause-whole
returns-in-Ok-clause-whole g c = λ whole young.
    let at = mount_state g.S.Store.machine g.S.Store.age g.S.Store.rested in
    kept_whole (at c.in-Ok.point) (g.S.Store.machine c.into_store.result) (g.S.Store.rested c.into_store.result) c.into_store.ensures.kept (c.in-Ok.ensures.whole whole young)

pub returns-in-Ok-clause-stays : goal.returns-in-Ok-clause-stays
returns-in-Ok-clause-stays g c = λ damage is.
    let at = mount_state g.S.Store.machine g.S.Store.age g.S.Store.rested in
    let same = c.in-Ok.ensures.stays damage is in
    let here = subst (λ r. damaged_in r damage) (sym same) is in
    kept_rested (at c.in-Ok.point) (g.S.Store.machine c.into_store.result) (g.S.Store.rested c.into_store.result) damage c.into_store.ensures.kept here ∙ same

pub returns-in-Ok-clause-kept : goal.returns-in-Ok-clause-kept
returns-in-Ok-clause-kept g c = λ damage is whole young. ap (λ (x : Machine). x.stable) c.into_store.ensures.machine ∙ c.in-Ok.ensures.kept damage is whole young

pub returns-in-Ok-clause-planned : goal.returns-in-Ok-clause-planned
returns-in-Ok-clause-planned g c = last_still c.args.lines.now _ _ c.into_store.ensures.asked c.in-Ok.ensures.planned

pub returns-in-Err-TooLong-clause-stops : goal.returns-in-Err-TooLong-clause-stops
returns-in-Err-TooLong-clause-stops g c = c.in-Err-TooLong.ensures.long c.in-Err-TooLong.field-0-is
