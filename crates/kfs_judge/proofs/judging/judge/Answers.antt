use Rattle.std.proofs.Common.{List, Option, sym, subst}
use Rattle.std.specs.FinMap as objects
use Rattle.kv_base.specs.declared.damage.Damage.{Damage}
use Rattle.kfs_model.specs.Tree.{Limits}
use Rattle.kfs_damages.specs.Damages.{IsTreeDamage}
use Rattle.kfs_judge.specs.declared.row.Row.{Row}
use Rattle.kfs_judge.specs.Judging.{heard}
use Rattle.kfs_judge.specs.Judged.{IsJudged}
use Rattle.kfs_judge.specs.Rows.{AreRows}
use Rattle.kfs_judge.proofs.Deciding.{heard_head}
use Rattle.kfs_judge.proofs.judging.judge.Goals as goal

pub returns-in-None-clause-head : goal.returns-in-None-clause-head
returns-in-None-clause-head g c =
    let m = (g.D.Device.machine c.args.device.now).stable in
    let k : Limits = record { keys = c.limits-keys.result.0; pages = c.limits-keys.result.1 } in
    let judged = c.in_ok-first_damage.ensures (heard m) (subst (λ (l : List Row). AreRows (objects.entries (heard m)) l) (sym c.deref.ensures.value) c.in_ok-rows.ensures.rows) in
    let clear = subst (λ (o : Option Damage). IsJudged k (heard m) o) c.in-None.is judged in
    heard_head m clear.head

pub returns-clause-err : goal.returns-clause-err
returns-clause-err g c =
    let m = (g.D.Device.machine c.args.device.now).stable in
    let k : Limits = record { keys = c.limits-keys.result.0; pages = c.limits-keys.result.1 } in
    let judged = c.in_ok-first_damage.ensures (heard m) (subst (λ (l : List Row). AreRows (objects.entries (heard m)) l) (sym c.deref.ensures.value) c.in_ok-rows.ensures.rows) in
    let damaged = subst (λ (o : Option Damage). IsJudged k (heard m) o) c.in-Some.is judged in
    (subst (λ (l : Limits). IsTreeDamage l (heard m) c.in-Some.damage) (λ i. record { keys = c.limits-keys.ensures.keys i; pages = c.limits-keys.ensures.pages i }) damaged, c.in_ok-rows.ensures.same)
