-- Lives: a state goes on by a line and its answer.
use Rattle.std.specs.Prelude.{ℕ, ◌+◌, ◌-◌, ◌≡◌, ◌⊎◌, Bool, true, false, IsTrue, not, ◌&&◌, ◌||◌, List, [], ◌∷◌, ◌++◌, refl, Option, Some, None, drop, slice_get, if◌then◌else◌, IsNone}
use Rattle.std.specs.Ordering.{nat_cmp}
use Rattle.std.specs.Option.{unwrap_or, option_map_or}
use Rattle.std.specs.FinMap.{find}
use Rattle.std.proofs.Common.{subst}
use Rattle.kfs_path.specs.declared.call.Call.{Call}
use Rattle.kfs_path.specs.declared.call.Call.TheVariants as calls
use Rattle.kfs_path.specs.declared.call.Reply.{Reply}
use Rattle.kfs_path.specs.declared.call.Reply.TheVariants as replies
use Rattle.kfs_path.specs.declared.call.Cause.{Cause}
use Rattle.kfs_path.specs.declared.call.Cause.TheVariants.{Cut, Eio, NoMem}
use Rattle.kfs_model.specs.declared.Line.{Line}
use Rattle.kfs_model.specs.declared.Line.TheVariants as lines
use Rattle.kfs_model.specs.declared.Answer.{Answer}
use Rattle.kfs_model.specs.declared.Answer.TheVariants as answers
use Rattle.kfs_model.specs.Tree.{Tree, Limits, root_alone, named, is_named}
use Rattle.kfs_model.specs.Desk.{Description, empty_desk, opened}
use Rattle.kfs_model.specs.Step.{World, After, step}
use Rattle.kfs_model.specs.Change.{Since, more, weight, is_boundary}

-- the trees after the changes, the newest first, and the number of the newest
pub record Past : Type 0 where
  pub count : ℕ
  pub trees : List Tree

abbrev pub tree_at : Past → ℕ → Tree
tree_at past k = unwrap_or (slice_get past.trees (past.count - k)) root_alone

abbrev pub with_tree : Past → Tree → Past
with_tree past t = record { count = past.count + 1; trees = t ∷ past.trees }

-- it ends at k, and the tree there has lost its nameless nodes
abbrev pub ended_at : Past → ℕ → Past
ended_at past k = record { count = k; trees = named (tree_at past k) ∷ drop (past.count - k + 1) past.trees }

pub record Live : Type 0 where
  pub past : Past
  pub mark : ℕ
  pub world : World
  pub since : Since

pub data Now : Type 0 where
  Up : (live : Live) → Now
  Down : (past : Past) (may : List ℕ) → Now

pub record State : Type 0 where
  pub now : Now
  pub cut_armed : Bool
  pub fail_armed : Bool

abbrev pub nothing_since : Since
nothing_since = record { changes = 0; weight = 0 }

abbrev pub up_at : Past → ℕ → Live
up_at past k = record { past = ended_at past k; mark = k; world = record { tree = named (tree_at past k); desk = empty_desk }; since = nothing_since }

-- a change's tree is appended
abbrev pub past_after : Past → Tree → Option ℕ → Past
past_after past t None = past
past_after past t (Some n) = with_tree past t

abbrev pub live_with : Live → World → Option ℕ → Bool → Live
live_with live world change falls = record {
  past = past_after live.past world.tree change;
  mark = if falls then (past_after live.past world.tree change).count else live.mark;
  world = world;
  since = if falls then nothing_since else more live.since change;
}

abbrev pub live_after : Live → Call → After → Live
live_after live call after =
    let change = weight live.world call after in
    live_with live after.world change (is_boundary live.since call after.reply change)

-- what may stand on the flash after the call failed: mark, and the call's own boundary
abbrev pub fallen : Live → Call → After → Now
fallen live call after = Down past (live.mark ∷ (if is_boundary live.since call after.reply change then past.count ∷ [] else []))
  where
    change : Option ℕ
    change = weight live.world call after

    past : Past
    past = past_after live.past after.world.tree change

-- d is the number of no description
abbrev pub IsFree : World → ℕ → Type 0
IsFree w d = IsNone (find nat_cmp d w.desk.descriptions)

abbrev pub is_armed : State → Cause → Bool
is_armed s Cut = s.cut_armed
is_armed s Eio = s.fail_armed
is_armed s NoMem = true

abbrev pub disarmed : State → Cause → Now → State
disarmed s Cut now = record { now = now; cut_armed = false; fail_armed = s.fail_armed }
disarmed s Eio now = record { now = now; cut_armed = s.cut_armed; fail_armed = false }
disarmed s NoMem now = record { now = now; cut_armed = s.cut_armed; fail_armed = s.fail_armed }

abbrev pub with_now : State → Now → State
with_now s now = record { now = now; cut_armed = s.cut_armed; fail_armed = s.fail_armed }

abbrev pub AnyOf : List ℕ → ℕ → Type 0
AnyOf [] n = ⊥
AnyOf (m ∷ ms) n = (n ≡ m) ⊎ AnyOf ms n

-- calls that a cut can't meet, since they do no program and no erase
abbrev pub only_reads : Call → Bool
only_reads (calls.Read fd count) = true
only_reads (calls.Pread fd count offset) = true
only_reads (calls.Stat path) = true
only_reads (calls.Fstat fd) = true
only_reads (calls.List path) = true
only_reads calls.Tree = true
only_reads call = false

-- calls that don't use the device: those that look at the desk or at counts alone, and a `close`
-- of a descriptor whose node has a name
abbrev pub stays_here : World → Call → Bool
stays_here w (calls.Dup fd) = true
stays_here w (calls.Lseek fd whence offset) = true
stays_here w calls.Room = true
stays_here w (calls.Close fd) = option_map_or (λ (it : ℕ × Description). is_named w.tree it.1.node) (opened w.desk fd) false
stays_here w call = false

abbrev pub can_fail : World → Call → Cause → Bool
can_fail w call Cut = not (stays_here w call || only_reads call)
can_fail w call Eio = not (stays_here w call)
can_fail w call NoMem = not (stays_here w call)

-- the call is done, and answers what `step` says; a description that it makes has the number d
abbrev pub IsDone : Limits → ℕ → State → Live → Call → Reply → State → Type 0
IsDone k d s live call reply new = (reply ≡ (step k d live.world call).reply) × (new ≡ with_now s (Up (live_after live call (step k d live.world call))))

-- the session goes down in the call
abbrev pub Falls : Limits → ℕ → State → Live → Call → Reply → State → Type 0
Falls k d s live call reply new =
    (cause : Cause) × (reply ≡ replies.Down cause) × IsTrue (is_armed s cause && can_fail live.world call cause)
    × (new ≡ disarmed s cause (fallen live call (step k d live.world call)))

-- one line and its answer lead from a state to new
abbrev pub EventAt : Limits → State → Now → Line → Answer → State → Type 0
EventAt k s (Up live) (lines.Call call) (answers.Reply reply) new =
    (d : ℕ) × IsFree live.world d × (IsDone k d s live call reply new ⊎ Falls k d s live call reply new)
EventAt k s (Down past may) (lines.Call call) (answers.Reply reply) new = (reply ≡ replies.Off) × (new ≡ s)
EventAt k s (Up live) lines.Mount (answers.Mounted n) new = (n ≡ live.mark) × (new ≡ with_now s (Up (up_at live.past n)))
EventAt k s (Down past may) lines.Mount (answers.Mounted n) new = AnyOf may n × (new ≡ with_now s (Up (up_at past n)))
EventAt k s (Up live) lines.Mount (answers.Reply reply) new =
    (cause : Cause) × (reply ≡ replies.Down cause) × IsTrue (is_armed s cause) × (new ≡ disarmed s cause (Down live.past (live.mark ∷ [])))
EventAt k s (Down past may) lines.Mount (answers.Reply reply) new =
    (cause : Cause) × (reply ≡ replies.Down cause) × IsTrue (is_armed s cause) × (new ≡ disarmed s cause (Down past may))
EventAt k s now (lines.Cut n how) answer new =
    (answer ≡ answers.Reply replies.Done) × (new ≡ record { now = now; cut_armed = true; fail_armed = s.fail_armed })
EventAt k s now (lines.Fail kind n) answer new =
    (answer ≡ answers.Reply replies.Done) × (new ≡ record { now = now; cut_armed = s.cut_armed; fail_armed = true })
EventAt k s now line answer new = ⊥

abbrev pub Event : Limits → State → Line → Answer → State → Type 0
Event k s line answer new = EventAt k s s.now line answer new

-- the lines and answers lead from old to new
abbrev pub Life : Limits → State → List Line → List Answer → State → Type 0
Life k old [] [] new = new ≡ old
Life k old (line ∷ lines) (answer ∷ answers) new = (mid : State) × Event k old line answer mid × Life k mid lines answers new
Life k old [] (answer ∷ answers) new = ⊥
Life k old (line ∷ lines) [] new = ⊥

-- where a life begins that formats first
abbrev pub newborn : State
newborn = record { now = Up (record { past = record { count = 0; trees = root_alone ∷ [] }; mark = 0; world = record { tree = root_alone; desk = empty_desk }; since = nothing_since }); cut_armed = false; fail_armed = false }

-- a life goes on by one line
pub life_more : (k : Limits) (old mid new : State) (ls : List Line) (xs : List Answer) (line : Line) (answer : Answer) → Life k old ls xs mid → Event k mid line answer new → Life k old (ls ++ line ∷ []) (xs ++ answer ∷ []) new
life_more k old mid new [] [] line answer life event = (new, subst (λ s. Event k s line answer new) life event, refl)
life_more k old mid new (l ∷ ls) (x ∷ xs) line answer life event = (life.0, life.1, life_more k life.0 mid new ls xs line answer life.2 event)
life_more k old mid new [] (x ∷ xs) line answer life event = absurd life
life_more k old mid new (l ∷ ls) [] line answer life event = absurd life
