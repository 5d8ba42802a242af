-- How often power was cut and an operation failed, line by line.
use Rattle.std.specs.Prelude.{ℕ, ◌≡◌, ◌+◌, ◌&&◌, ◌||◌, not, Bool, true, false, List, [], ◌∷◌}
use Rattle.std.specs.List.{count_by, list_any}
use Rattle.kv_device.specs.Machine.{Machine}
use Rattle.kfs_path.specs.declared.call.Cause.TheVariants as causes
use Rattle.kfs_path.specs.declared.call.Reply.TheVariants as replies
use Rattle.kfs_model.specs.declared.Line.{Line}
use Rattle.kfs_model.specs.declared.Line.TheVariants as lines
use Rattle.kfs_model.specs.declared.Answer.{Answer}
use Rattle.kfs_model.specs.declared.Answer.TheVariants as answers
use Rattle.kfs_posix.specs.Showing.{one_if}

-- how often power was cut, and how often an operation failed
pub record Strikes : Type 0 where
  pub cuts : ℕ
  pub faults : ℕ

-- how often that came to a device
abbrev pub strikes_of : Machine → Strikes
strikes_of m = record { cuts = m.cuts; faults = m.faults }

-- the answer is `down cut`
abbrev pub is_cut : Answer → Bool
is_cut (answers.Reply (replies.Down causes.Cut)) = true
is_cut answer = false

-- the answer is `down eio`
abbrev pub is_failure : Answer → Bool
is_failure (answers.Reply (replies.Down causes.Eio)) = true
is_failure answer = false

-- each `down cut` is a cut, and each `down eio` a fault
abbrev pub struck : Strikes → Answer → Strikes
struck s answer = record { cuts = s.cuts + one_if (is_cut answer); faults = s.faults + one_if (is_failure answer) }

-- those after all of these answers
abbrev pub struck_by : Strikes → List Answer → Strikes
struck_by s given = record { cuts = s.cuts + count_by is_cut given; faults = s.faults + count_by is_failure given }

-- the line is `@cut`
abbrev pub plans_cut : Line → Bool
plans_cut (lines.Cut n how) = true
plans_cut line = false

-- some `@cut` has no answer `down cut` behind it
abbrev pub is_cut_planned : List Line → List Answer → Bool
is_cut_planned [] given = false
is_cut_planned (line ∷ ls) [] = false
is_cut_planned (line ∷ ls) (answer ∷ given) = (plans_cut line && not (list_any is_cut given)) || is_cut_planned ls given

-- ---- the cut that is planned for a device

-- one cut is planned, or none
abbrev pub HasCut : Machine → Bool → Type 0
HasCut m planned = m.most_cuts ≡ m.cuts + one_if planned

-- whether a cut is planned behind a line: the line plans one, or one was planned and the answer doesn't tell it
abbrev pub is_still_planned : Bool → Line → Answer → Bool
is_still_planned planned line answer = plans_cut line || (planned && not (is_cut answer))

-- whether one is behind all of these lines
abbrev pub is_planned_behind : Bool → List Line → List Answer → Bool
is_planned_behind planned ls given = is_cut_planned ls given || (planned && not (list_any is_cut given))

-- what is planned for a device that a line met
abbrev pub PlansCut : Machine → Line → Answer → Machine → Type 0
PlansCut old line answer new = (planned : Bool) → HasCut old planned → HasCut new (is_still_planned planned line answer)

-- what is planned for one that all of these lines met
abbrev pub PlanCuts : Machine → List Line → List Answer → Machine → Type 0
PlanCuts old ls given new = (planned : Bool) → HasCut old planned → HasCut new (is_planned_behind planned ls given)
