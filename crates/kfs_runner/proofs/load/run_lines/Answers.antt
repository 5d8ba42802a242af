use Rattle.std.proofs.Common.{◌≡◌, ◌<◌, ◌≤◌, ◌+◌, ◌^◌, ◌∙◌, ◌∷◌, ℕ, suc, Bool, true, false, List, length, drop, get_or, sym, ap, subst, arith, add-one}
use Rattle.std.proofs.Math.Seq.{drop-cons, drop-length}
use Rattle.kfs_model.specs.declared.Line.{Line}
use Rattle.kfs_model.specs.declared.Answer.{Answer}
use Rattle.kfs_model.specs.declared.Answer.TheVariants as answers
use Rattle.kfs_plain.specs.Plain.{Plain}
use Rattle.kfs_plain.specs.declared.tree.Totals.{Totals}
use Rattle.kfs_script.specs.Script.{IsLine, is_format}
use Rattle.kfs_load.specs.Coming.{is_error}
use Rattle.kfs_runner.specs.declared.load.Tally.{Tally}
use Rattle.kfs_runner.specs.MountPoints.{mount_state, point_limits, device_age}
use Rattle.kfs_runner.proofs.Lives.{young_low}
use Rattle.kfs_runner.specs.Counts.{counted, Counts, IsCounted}
use Rattle.kfs_laws.specs.Plain.{is_plain}
use Rattle.kfs_runner.proofs.LoadRuns.{IsAt, PointDoes, begins, goes_on, ends, load_has, lines_hold, plain_lines, no_formats, load_follows, load_few, answers_unplanned}
use Rattle.kfs_runner.proofs.load.run_lines.Goals as goal

rest_is : (ls : List Line) (i : ℕ) (line : Line) → i < length ls → line ≡ get_or ls i line → drop i ls ≡ line ∷ drop (i + 1) ls
rest_is ls i line below is = drop-cons ls i line below ∙ ap (λ l. l ∷ drop (suc i) ls) (sym is) ∙ ap (λ k. line ∷ drop k ls) (sym (add-one i))

one_more : (old new : Tally) (b : Bool) → new ≡ counted old b → new.dones + new.errors ≤ old.dones + old.errors + 1
one_more old new true is = omega (arith, ap (λ (t : Tally). t.dones) is, ap (λ (t : Tally). t.errors) is)
one_more old new false is = omega (arith, ap (λ (t : Tally). t.dones) is, ap (λ (t : Tally). t.errors) is)

counts_few : (old new : Tally) (answer : Answer) → Counts old answer new → new.dones + new.errors ≤ old.dones + old.errors + 1
counts_few old new (answers.Reply reply) counts = one_more old new (is_error reply) counts.now
counts_few old new (answers.Mounted n) counts = omega (arith, ap (λ (t : Tally). t.dones) counts, ap (λ (t : Tally). t.errors) counts)
counts_few old new (answers.Refused damage) counts = absurd counts

pub loop-line-init : goal.loop-line-init
loop-line-init g c = record {
  at = begins (mount_state g.S.Store.machine g.S.Store.age g.S.Store.rested c.args.point) c.args.plain c.args.lines.now c.requires.shows c.requires.plain (load_follows c.args.lines.now c.requires.load);
  known = c.requires.known;
  whole = c.requires.whole;
  age = c.requires.age;
  device = c.requires.device_age;
  next = omega (arith, ap (λ (p : Plain). p.world.tree.next) c.requires.plain);
  few = omega arith;
}

pub answer-next-requires-clause-line : goal.answer-next-requires-clause-line
answer-next-requires-clause-line g c =
    let below : c.loop-line.line-index < length c.args.lines.now = omega arith in
    load_has IsLine lines_hold c.args.lines.now c.requires.load c.loop-line.line-index c.line-item.result below c.line-item.is

pub answer-next-requires-clause-age : goal.answer-next-requires-clause-age
answer-next-requires-clause-age g c =
    let below : c.loop-line.line-index < length c.args.lines.now = omega arith in
    let few = load_few c.args.lines.now c.requires.load in
    omega (arith, c.loop-line.invariant.age, few, below)

pub answer-next-requires-clause-format : goal.answer-next-requires-clause-format
answer-next-requires-clause-format g c =
    let below : c.loop-line.line-index < length c.args.lines.now = omega arith in
    load_has (λ line. is_format line ≡ false) no_formats c.args.lines.now c.requires.load c.loop-line.line-index c.line-item.result below c.line-item.is

pub with_answer-requires-clause-few : goal.with_answer-requires-clause-few
with_answer-requires-clause-few g c =
    let below : c.loop-line.line-index < length c.args.lines.now = omega arith in
    let few = load_few c.args.lines.now c.requires.load in
    omega (arith, c.loop-line.invariant.few, few, below)

pub with_answer-requires-clause-unplanned : goal.with_answer-requires-clause-unplanned
with_answer-requires-clause-unplanned g c =
    let at_point = mount_state g.S.Store.machine g.S.Store.age g.S.Store.rested in
    let line = c.line-item.result in
    let below : c.loop-line.line-index < length c.args.lines.now = omega arith in
    let before = c.loop-line.invariant in
    let at = before.at in
    let few = load_few c.args.lines.now c.requires.load in
    let many : at.changes + 2 < 2 ^ 62 = omega (arith, at.spent, few) in
    let young : device_age (at_point c.loop-line.point) < 2 ^ 62 = omega (arith, before.device, few, below) in
    let nothing = load_has (λ line. is_plain line ≡ true) plain_lines c.args.lines.now c.requires.load c.loop-line.line-index line below c.line-item.is in
    let went = c.answer-next.ensures.goes_on at.state at.shows (young_low at.changes at.state many at.young) before.whole young in
    answers_unplanned _ (at_point c.loop-line.point) _ _ line _ _ c.answer-next.result.1 at went.0 nothing went.1

pub follow-requires : goal.follow-requires
follow-requires g c =
    let below : c.loop-line.line-index < length c.args.lines.now = omega arith in
    let few = load_few c.args.lines.now c.requires.load in
    omega (arith, c.loop-line.invariant.next, few, below)

pub loop-line-preserved : goal.loop-line-preserved
loop-line-preserved g c =
    let at_point = mount_state g.S.Store.machine g.S.Store.age g.S.Store.rested in
    let k = point_limits (at_point c.args.point) in
    let line = c.line-item.result in
    let answer = c.answer-next.result.1 in
    let rest = drop (c.loop-line.line-index + 1) c.args.lines.now in
    let below : c.loop-line.line-index < length c.args.lines.now = omega arith in
    let R : List Line → Type 0 = λ ls. IsAt k (at_point c.loop-line.point) c.loop-line.plain c.loop-line.tally ls c.args.lines.now in
    let at = subst R (rest_is c.args.lines.now c.loop-line.line-index line below c.line-item.is) c.loop-line.invariant.at in
    let few = load_few c.args.lines.now c.requires.load in
    let before = c.loop-line.invariant in
    let many : at.changes + 2 < 2 ^ 62 = omega (arith, at.spent, few) in
    let young : device_age (at_point c.loop-line.point) < 2 ^ 62 = omega (arith, before.device, few, below) in
    let went = c.answer-next.ensures.goes_on at.state at.shows (young_low at.changes at.state many at.young) before.whole young in
    let does : PointDoes (at_point c.loop-line.point) at.state line answer (at_point c.answer-next.result.0) = (went.0, went.1, went.2, c.answer-next.ensures.limits) in
    let P : Plain → Type 0 = λ p. IsAt k (at_point c.answer-next.result.0) p c.in_ok-tally.tally rest c.args.lines.now in
    let counts = counts_few c.loop-line.tally c.in_ok-tally.tally answer c.in_ok-tally.ensures in
    record {
      at = subst P (sym c.in_ok-follow.ensures.behind) (goes_on k (at_point c.loop-line.point) (at_point c.answer-next.result.0) c.loop-line.plain c.loop-line.tally c.in_ok-tally.tally line rest c.args.lines.now answer at does c.in_ok-tally.ensures);
      known = c.answer-next.ensures.known;
      whole = c.answer-next.ensures.whole before.whole young;
      age = omega (arith, c.answer-next.ensures.age, c.loop-line.invariant.age);
      device = omega (arith, c.answer-next.ensures.device_age, c.loop-line.invariant.device);
      next = omega (arith, c.in_ok-follow.ensures.next, c.loop-line.invariant.next);
      few = omega (arith, counts, c.loop-line.invariant.few);
    }

pub returns-clause-counted : goal.returns-clause-counted
returns-clause-counted g c =
    let at_point = mount_state g.S.Store.machine g.S.Store.age g.S.Store.rested in
    let k = point_limits (at_point c.args.point) in
    let end : c.loop-line.line-index ≡ length c.args.lines.now = omega arith in
    let R : List Line → Type 0 = λ ls. IsAt k (at_point c.loop-line.point) c.loop-line.plain c.loop-line.tally ls c.args.lines.now in
    let T : Totals → Type 0 = λ t. IsCounted k c.args.lines.now c.loop-line.tally t in
    let at = subst R (ap (λ i. drop i c.args.lines.now) end ∙ drop-length c.args.lines.now) c.loop-line.invariant.at in
    subst T (sym c.totals.ensures) (ends k (at_point c.loop-line.point) c.loop-line.plain c.loop-line.tally c.args.lines.now at)

pub returns-clause-few : goal.returns-clause-few
returns-clause-few g c =
    let end : c.loop-line.line-index ≤ length c.args.lines.now = omega arith in
    let few = load_few c.args.lines.now c.requires.load in
    omega (arith, c.loop-line.invariant.few, few, end)
