-- Lives in which no cut and no fault is planned.
use Rattle.std.specs.Prelude.{ℕ, ◌≡◌, ◌⊎◌, Bool, true, false, List, [], ◌∷◌}
use Rattle.std.specs.List.{list_all}
use Rattle.kfs_path.specs.declared.call.Cause.TheVariants.{NoMem}
use Rattle.kfs_path.specs.declared.call.Reply.TheVariants.{Down as IsDown, Off}
use Rattle.kfs_model.specs.declared.Line.{Line}
use Rattle.kfs_model.specs.declared.Line.TheVariants as lines
use Rattle.kfs_model.specs.declared.Answer.{Answer}
use Rattle.kfs_model.specs.declared.Answer.TheVariants.{Mounted, Reply}
use Rattle.kfs_model.specs.Tree.{Limits}
use Rattle.kfs_model.specs.Life.{State, Now, Up, Down, IsFree, AnyOf, Life, live_after, fallen, up_at}
use Rattle.kfs_model.specs.Step.{step}

-- the line plans neither a cut nor a fault
abbrev pub is_plain : Line → Bool
is_plain (lines.Cut n how) = false
is_plain (lines.Fail kind n) = false
is_plain line = true

-- no line plans a cut or a fault
abbrev pub ArePlain : List Line → Type 0
ArePlain ls = list_all is_plain ls ≡ true

-- neither a cut nor a fault is planned
pub record IsUnarmed (s : State) : Type 0 where
  pub cut : s.cut_armed ≡ false
  pub fault : s.fail_armed ≡ false

-- want of memory
abbrev pub no_memory : Answer
no_memory = Reply (IsDown NoMem)

-- a call or a mount where nothing is planned, its answer, and what it leads to. While it is up, a call answers what `step`
-- says, with the number of no description, and a mount the number of the last boundary. While it is down, a call answers `off`,
-- and a mount a number of changes that may be kept. Or memory is wanting: then it is down.
abbrev pub GoesPlainly : Limits → Now → Line → Answer → Now → Type 0
GoesPlainly k (Up live) (lines.Call call) answer next =
    (d : ℕ) × IsFree live.world d × (((answer ≡ Reply (step k d live.world call).reply) × (next ≡ Up (live_after live call (step k d live.world call))))
    ⊎ ((answer ≡ no_memory) × (next ≡ fallen live call (step k d live.world call))))
GoesPlainly k (Up live) lines.Mount answer next =
    ((answer ≡ Mounted live.mark) × (next ≡ Up (up_at live.past live.mark))) ⊎ ((answer ≡ no_memory) × (next ≡ Down live.past (live.mark ∷ [])))
GoesPlainly k (Down past may) (lines.Call call) answer next = (answer ≡ Reply Off) × (next ≡ Down past may)
GoesPlainly k (Down past may) lines.Mount answer next =
    ((n : ℕ) × AnyOf may n × (answer ≡ Mounted n) × (next ≡ Up (up_at past n))) ⊎ ((answer ≡ no_memory) × (next ≡ Down past may))
GoesPlainly k now line answer next = ⊥

-- the answer alone
abbrev pub PlainAnswer : Limits → Now → Line → Answer → Type 0
PlainAnswer k now line answer = (next : Now) × GoesPlainly k now line answer next

-- each line has such an answer, in their order, up to the end
abbrev pub AnsweredPlainly : Limits → Now → List Line → List Answer → Now → Type 0
AnsweredPlainly k now [] [] end = end ≡ now
AnsweredPlainly k now (line ∷ ls) (answer ∷ given) end = (next : Now) × GoesPlainly k now line answer next × AnsweredPlainly k next ls given end
AnsweredPlainly k now [] (answer ∷ given) end = ⊥
AnsweredPlainly k now (line ∷ ls) [] end = ⊥

-- where nothing is planned, and no line plans anything, nothing fails but for want of memory
abbrev pub NothingFailsUnplanned : Type 0
NothingFailsUnplanned =
    (k : Limits) (old new : State) (ls : List Line) (given : List Answer)
    → IsUnarmed old → ArePlain ls → Life k old ls given new → AnsweredPlainly k old.now ls given new.now
