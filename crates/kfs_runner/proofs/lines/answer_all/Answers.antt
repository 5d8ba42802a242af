use Rattle.std.proofs.Common.{◌≡◌, ◌<◌, ◌++◌, ◌∷◌, ◌∙◌, ◌≤◌, ◌+◌, ◌^◌, [], inl, inr, ℕ, Bool, List, length, take, get_or, refl, ap, sym, subst, arith, append-nil, length-append}
use Rattle.kv_base.specs.declared.damage.Damage.{Damage}
use Rattle.kfs_model.specs.Tree.{Limits}
use Rattle.kfs_model.specs.Life.{Event}
use Rattle.kfs_runner.specs.Refusals.{Rested, damaged_in}
use Rattle.std.proofs.lemmas.List.{take_more}
use Rattle.kfs_runner.proofs.Asking.{planned_at}
use Rattle.kfs_runner.specs.Strikes.{strikes_of, HasCut}
use Rattle.kfs_runner.proofs.LinesMore.{life_at, texts_more, struck_more, refused_at, in_both, take_few, none_struck}
use Rattle.kfs_runner.proofs.Planning.{none_behind, behind_at}
use Rattle.kfs_runner.proofs.Lives.{stays_low}
use Rattle.kfs_runner.proofs.lines.answer_all.Goals as goal

pub loop-line-init : goal.loop-line-init
loop-line-init g c = record {
  given = [];
  one_each = refl;
  text = sym (append-nil c.args.text.now);
  known = c.requires.known;
  limits = refl;
  age = c.requires.age;
  device = omega arith;
  strikes = none_struck (strikes_of (g.H.Host.machine c.args.host));
  plans = λ planned has. none_behind (g.H.Host.machine c.args.host) planned has;
  short = c.requires.short;
  planned = tt;
  whole = λ whole young. whole;
  lives = λ s begins young. (s, refl, begins.0);
  damaged = λ damage is. tt;
  stays = λ damage is. refl;
  kept = λ damage is whole young. (is, refl);
}

pub loop-line-preserved : goal.loop-line-preserved
loop-line-preserved g c =
    let before = c.loop-line.invariant in
    let line = c.line-item.result in
    let answer = c.answer-next.result.1 in
    let done = c.answer-next.ensures in
    let i = c.loop-line.line-index in
    let ls = c.args.lines.now in
    let below : i < length ls = omega arith in
    let some : length (take i ls) ≤ 2 ^ 22 = omega (arith, take_few i ls, c.requires.few) in
    let each : length (take (i + 1) ls) ≡ length (take i ls) + 1 = omega (arith, ap length (take_more ls i line below), length-append (take i ls) (get_or ls i line ∷ [])) in
    let young_now : g.H.Host.device_age c.args.host ≤ 2 ^ 61 → g.H.Host.device_age c.loop-line.host < 2 ^ 62 = λ young. omega (arith, before.device, young, below, c.requires.few) in
    record {
      given = before.given ++ answer ∷ [];
      one_each = omega (arith, each, before.one_each, length-append before.given (answer ∷ []));
      plans = λ planned has.
          let here = done.plans _ (before.plans planned has) in
          let P : Bool → Type 0 = λ b. HasCut (g.H.Host.machine c.answer-next.result.0) b in
          subst P (sym (behind_at planned ls i line before.given answer below c.line-item.is before.one_each)) here;
      text = texts_more c.args.text.now c.loop-line.text c.write_answer.new.out before.given answer before.text c.in_ok-write_answer.ensures.ok;
      known = done.known;
      limits = done.limits ∙ before.limits;
      age = omega (arith, done.age, before.age);
      device = omega (arith, done.device_age, before.device);
      strikes = struck_more _ _ _ before.given answer before.strikes done.strikes;
      short = omega (arith, ap length c.bytes.ensures);
      planned = planned_at ls i line answer _ _ below c.line-item.is done.asks;
      whole = λ whole young. done.whole (before.whole whole young) (young_now young);
      lives = λ s begins young.
          let got = before.lives s begins young in
          let low = stays_low _ s got.0 (take i ls) before.given some young got.1 in
          let went = done.goes_on got.0 got.2 low (before.whole begins.1 begins.2) (young_now begins.2) in
          let P : Limits → Type 0 = λ k. Event k got.0 line answer went.0 in
          (went.0, life_at _ s ls i before.given got.0 went.0 line answer below c.line-item.is got.1 (subst P before.limits went.1), went.2);
      damaged = λ damage told. refused_at damage ls i line before.given answer below c.line-item.is (before.damaged damage told) (in_both told
          (λ is. (done.damaged damage (subst (λ r. damaged_in r damage) (sym (before.stays damage is)) is)).0)
          (λ is. (done.unmountable damage (before.kept damage is.1 is.0.0 is.0.1).0 (before.whole is.0.0 is.0.1) (young_now is.0.1)).0));
      kept = λ damage is whole young.
          let kept = before.kept damage is whole young in
          let here = done.unmountable damage kept.0 (before.whole whole young) (young_now young) in
          (here.1, here.2 ∙ kept.1);
      stays = λ damage is. (done.damaged damage (subst (λ r. damaged_in r damage) (sym (before.stays damage is)) is)).1 ∙ before.stays damage is;
    }

pub returns-then-bytes-most-clause-long : goal.returns-then-bytes-most-clause-long
returns-then-bytes-most-clause-long g c =
    let before = c.loop-line.invariant in
    let line = c.line-item.result in
    let answer = c.answer-next.result.1 in
    let done = c.answer-next.ensures in
    let i = c.loop-line.line-index in
    let ls = c.args.lines.now in
    let below : i < length ls = omega arith in
    let some : length (take i ls) ≤ 2 ^ 22 = omega (arith, take_few i ls, c.requires.few) in
    let young_now : g.H.Host.device_age c.args.host ≤ 2 ^ 61 → g.H.Host.device_age c.loop-line.host < 2 ^ 62 = λ young. omega (arith, before.device, young, below, c.requires.few) in
    let text = texts_more c.args.text.now c.loop-line.text c.write_answer.new.out before.given answer before.text c.in_ok-write_answer.ensures.ok in
    λ too_long. record {
      count = i + 1;
      given = before.given;
      last = answer;
      some = omega arith;
      text = text;
      below = subst (λ (t : List ℕ). length t ≤ c.args.most) before.text before.short;
      above = omega (arith, ap length c.bytes.ensures);
      lives = λ s begins young.
          let got = before.lives s begins young in
          let low = stays_low _ s got.0 (take i ls) before.given some young got.1 in
          let went = done.goes_on got.0 got.2 low (before.whole begins.1 begins.2) (young_now begins.2) in
          let P : Limits → Type 0 = λ k. Event k got.0 line answer went.0 in
          (went.0, life_at _ s ls i before.given got.0 went.0 line answer below c.line-item.is got.1 (subst P before.limits went.1), tt);
      damaged = λ damage told. refused_at damage ls i line before.given answer below c.line-item.is (before.damaged damage told) (in_both told
          (λ is. (done.damaged damage (subst (λ r. damaged_in r damage) (sym (before.stays damage is)) is)).0)
          (λ is. (done.unmountable damage (before.kept damage is.1 is.0.0 is.0.1).0 (before.whole is.0.0 is.0.1) (young_now is.0.1)).0));
    }

pub returns-clause-kept : goal.returns-clause-kept
returns-clause-kept g c = λ damage is whole young. (c.loop-line.invariant.kept damage is whole young).1
