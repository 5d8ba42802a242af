use Rattle.std.proofs.Common.{◌≡◌, ◌≤◌, ◌+◌, ◌*◌, ◌^◌, ◌++◌, List, length, take}
use Rattle.kv_base.specs.declared.damage.Damage.{Damage}
use Rattle.kfs_model.specs.declared.Answer.{Answer}
use Rattle.kfs_model.specs.Life.{State}
use Rattle.kfs_script.specs.AnswerText.{texts_of}
use Rattle.kfs_runner.specs.Numbers.{line_age}
use Rattle.kfs_runner.specs.Strikes.{strikes_of, struck_by, PlanCuts}
use Rattle.kfs_runner.specs.Asks.{IsLastPlanned}
use Rattle.kfs_runner.specs.Refusals.{damaged_in}
use Rattle.kfs_runner.specs.Lines.{AreLives, AreRefusals, IsRefused}
use Rattle.kfs_runner.proofs.lines.answer_all.Given as goal

abbrev pub invariant-loop-line : goal.invariant-loop-line
invariant-loop-line g l = record {
  given : List Answer;
  one_each : length given ≡ length (take l.line-index l.lines);
  text : l.text ≡ l.fn.text ++ texts_of given;
  known : g.H.Host.known l.host;
  limits : g.H.Host.limits l.host ≡ g.H.Host.limits l.initial.host;
  age : g.H.Host.age l.host ≤ 2 ^ 62 + line_age * l.line-index;
  device : g.H.Host.device_age l.host ≤ g.H.Host.device_age l.initial.host + line_age * l.line-index;
  strikes : strikes_of (g.H.Host.machine l.host) ≡ struck_by (strikes_of (g.H.Host.machine l.initial.host)) given;
  plans : PlanCuts (g.H.Host.machine l.initial.host) (take l.line-index l.lines) given (g.H.Host.machine l.host);
  short : length l.text ≤ l.most;
  planned : IsLastPlanned (take l.line-index l.lines) (g.H.Host.asked l.host);
  whole : g.H.Host.whole l.initial.host → g.H.Host.device_age l.initial.host ≤ 2 ^ 61 → g.H.Host.whole l.host;
  lives : AreLives (g.H.Host.limits l.initial.host) (take l.line-index l.lines) given (λ s. g.H.Host.shows l.initial.host s × g.H.Host.whole l.initial.host × (g.H.Host.device_age l.initial.host ≤ 2 ^ 61)) (g.H.Host.shows l.host);
  damaged : AreRefusals (take l.line-index l.lines) given (IsRefused (g.H.Host.rested l.initial.host) (g.H.Host.whole l.initial.host × (g.H.Host.device_age l.initial.host ≤ 2 ^ 61)) (g.H.Host.tree_damage l.initial.host));
  stays : (damage : Damage) → damaged_in (g.H.Host.rested l.initial.host) damage → g.H.Host.rested l.host ≡ g.H.Host.rested l.initial.host;
  kept : (damage : Damage) → g.H.Host.tree_damage l.initial.host damage → g.H.Host.whole l.initial.host → g.H.Host.device_age l.initial.host ≤ 2 ^ 61 → g.H.Host.tree_damage l.host damage × ((g.H.Host.machine l.host).stable ≡ (g.H.Host.machine l.initial.host).stable);
}
