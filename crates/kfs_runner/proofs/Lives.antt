-- What a life tells by its lines and answers: whether a cut is planned at its end, and how far its numbers rose.
use Rattle.std.proofs.Common.{◌≡◌, ◌≤◌, ◌<◌, ◌+◌, ◌-◌, ◌^◌, ◌∷◌, ◌∙◌, inl, inr, [], ℕ, zero, suc, List, Option, Some, None, Result, Ok, Err, Bool, true, false, not, cond, length, drop, refl, sym, ap, subst, arith}
use Rattle.std.specs.Prelude.{◌&&◌, ◌||◌, All}
use Rattle.std.specs.List.{list_any, slice_get}
use Rattle.std.specs.Option.{unwrap_or}
use Rattle.std.proofs.Math.Bool.{and-true, and-false, or-true, or-false}
use Rattle.std.proofs.lemmas.List.Elements.{All-cons, All-nil, All-head, All-tail, All-weaker, All-drop}
use Rattle.kfs_path.specs.declared.call.Call.{Call}
use Rattle.kfs_path.specs.declared.call.Call.TheVariants as calls
use Rattle.kfs_path.specs.declared.call.Cause.{Cause}
use Rattle.kfs_path.specs.declared.call.Cause.TheVariants as causes
use Rattle.kfs_path.specs.declared.call.Errno.{Errno}
use Rattle.kfs_path.specs.declared.call.Reply.{Reply}
use Rattle.kfs_path.specs.declared.call.Reply.TheVariants as replies
use Rattle.kfs_model.specs.declared.Node.{Node}
use Rattle.kfs_model.specs.declared.Node.TheVariants.{Dir, File}
use Rattle.kfs_model.specs.declared.Line.{Line}
use Rattle.kfs_model.specs.declared.Line.TheVariants as lines
use Rattle.kfs_model.specs.declared.Answer.{Answer}
use Rattle.kfs_model.specs.declared.Answer.TheVariants as answers
use Rattle.kfs_model.specs.Tree.{Tree, Limits, root_alone, named}
use Rattle.kfs_model.specs.Step
use Rattle.kfs_model.specs.Step.{step}
use Rattle.kfs_model.specs.Life.{State, Live, Now, Up, Down, Past, tree_at, up_at, past_after, live_after, fallen, disarmed, AnyOf, EventAt, Life, newborn}
use Rattle.kfs_model.specs.Change.{weight, is_boundary}
use Rattle.kfs_laws.proofs.Outcomes
use Rattle.kfs_laws.proofs.Sound.{sound, next_to}
use Rattle.kfs_runner.specs.Young.{Low, IsYoungPast, IsYoung}
use Rattle.kfs_runner.specs.MountPoints.{StandsAt, IsLow}
use Rattle.kfs_runner.specs.Serving.{AreAnswers}
use Rattle.kfs_runner.specs.Strikes.{is_cut, plans_cut, is_cut_planned}

-- ---- a call that is done doesn't answer that the session is down by a cut

abbrev pub IsUp : Reply → Type 0
IsUp (replies.Down cause) = ⊥
IsUp replies.Off = ⊥
IsUp reply = Unit {0}

-- it tells no cut
uncut : (reply : Reply) → IsUp reply → is_cut (answers.Reply reply) ≡ false
uncut (replies.Down cause) up = absurd up
uncut replies.Off up = absurd up
uncut reply up = refl

told_up : (o : Option (ℕ × Node)) → Outcomes.Each IsUp (Step.told o)
told_up None = tt
told_up (Some (n, Dir)) = tt
told_up (Some (n, File bytes)) = tt

told_is : (o : Option (ℕ × Node)) (reply : Reply) → Step.told o ≡ Ok reply → IsUp reply
told_is o reply e = Outcomes.of_each IsUp (Step.told o) reply (told_up o) e

stat_up : (t : Tree) (path : List ℕ) → Outcomes.Each IsUp (Step.stat_of t path)
stat_up t path = search (Outcomes.each_bind IsUp, Outcomes.each_then IsUp, told_is) depth 12

list_up : (t : Tree) (path : List ℕ) → Outcomes.Each IsUp (Step.list_of t path)
list_up t path = search (Outcomes.each_bind IsUp, Outcomes.each_then IsUp) depth 12

module _ (k : Limits) (d : ℕ) (w : Step.World) where
  abbrev Tells : Step.After → Type 0
  Tells after = IsUp after.reply

  effect_up : (call : Call) → Outcomes.Each Tells (Step.effect k d w call)
  effect_up (calls.Open path flags) = Outcomes.open_each Tells w k d path flags (record { new = λ place fd free lowest. tt; dir = λ place fd n e may lowest. tt; file = λ place fd n bytes e lowest. tt; cut = λ place fd n bytes e lowest. tt })
  effect_up (calls.Close fd) = Outcomes.close_each Tells w fd (λ it is. tt)
  effect_up (calls.Dup fd) = Outcomes.dup_each Tells w fd (λ it new is l. tt)
  effect_up (calls.Read fd count) = Outcomes.read_each Tells w fd count (λ bytes it p is. tt)
  effect_up (calls.Write fd bytes) = Outcomes.write_each Tells w k fd bytes tt (λ it p is may some. tt)
  effect_up (calls.Pread fd count offset) = Outcomes.pread_each Tells w fd count offset (λ bytes. tt)
  effect_up (calls.Pwrite fd bytes offset) = Outcomes.pwrite_each Tells w k fd bytes offset tt (λ it p is may some. tt)
  effect_up (calls.Lseek fd whence offset) = Outcomes.lseek_each Tells w fd whence offset (λ n it p is. tt)
  effect_up (calls.Truncate path size) = Outcomes.truncate_each Tells w k path size (λ place e walked there file may. tt)
  effect_up (calls.Ftruncate fd size) = Outcomes.ftruncate_each Tells w k fd size (λ it is may have. tt)
  effect_up (calls.Mkdir path) = Outcomes.mkdir_each Tells w k path (λ place free. tt)
  effect_up (calls.Rmdir path) = Outcomes.rmdir_each Tells w path (λ place empty. tt)
  effect_up (calls.Unlink path) = Outcomes.unlink_each Tells w path (λ place there file. tt)
  effect_up (calls.Rename old new) = Outcomes.rename_each Tells w old new tt (λ p q move. tt)
  effect_up (calls.Stat path) = Outcomes.stat_each Tells w path (λ reply e. Outcomes.of_each IsUp (Step.stat_of w.tree path) reply (stat_up w.tree path) e)
  effect_up (calls.Fstat fd) = Outcomes.fstat_each Tells w fd (λ o reply e. told_is o reply e)
  effect_up (calls.List path) = Outcomes.list_each Tells w path (λ reply e. Outcomes.of_each IsUp (Step.list_of w.tree path) reply (list_up w.tree path) e)
  effect_up (calls.Fsync fd) = Outcomes.fsync_each Tells w fd tt
  effect_up calls.Sync = tt
  effect_up calls.Room = tt
  effect_up calls.Tree = tt
  effect_up (calls.Work operations) = tt

settled_up : (w : Step.World) (r : Result Step.After Errno) → Outcomes.Each (λ after. IsUp after.reply) r → IsUp (Step.settled w r).reply
settled_up w (Ok after) up = up
settled_up w (Err e) up = tt

pub step_up : (k : Limits) (d : ℕ) (w : Step.World) (call : Call) → IsUp (step k d w call).reply
step_up k d w call = settled_up w (Step.effect k d w call) (effect_up k d w call)

-- ---- whether a cut is planned

-- an answer other than `down cut` leaves the plan
stays_armed : (armed : Bool) (answer : Answer) → is_cut answer ≡ false → armed ≡ (armed && not (is_cut answer))
stays_armed armed answer none = sym (and-true armed) ∙ ap (λ b. armed && not b) (sym none)

fell_armed : (s : State) (cause : Cause) (to : Now) → (disarmed s cause to).cut_armed ≡ (s.cut_armed && not (is_cut (answers.Reply (replies.Down cause))))
fell_armed s causes.Cut to = sym (and-false s.cut_armed)
fell_armed s causes.Eio to = sym (and-true s.cut_armed)
fell_armed s causes.NoMem to = sym (and-true s.cut_armed)

abbrev pub Arms : State → Line → Answer → State → Type 0
Arms s line answer t = t.cut_armed ≡ (plans_cut line || (s.cut_armed && not (is_cut answer)))

falls_arms : (s t : State) (line : Line) (reply : Reply) (cause : Cause) (to : Now) → plans_cut line ≡ false → reply ≡ replies.Down cause → t ≡ disarmed s cause to → Arms s line (answers.Reply reply) t
falls_arms s t line reply cause to none is same =
    let P : Reply → Type 0 = λ r. t.cut_armed ≡ (s.cut_armed && not (is_cut (answers.Reply r))) in
    subst P (sym is) (ap (λ (x : State). x.cut_armed) same ∙ fell_armed s cause to) ∙ ap (λ b. b || (s.cut_armed && not (is_cut (answers.Reply reply)))) (sym none)

-- a line that is answered arms a cut exactly where it plans one, or one was armed and did not come
pub event_arms : (k : Limits) (s : State) (now : Now) (line : Line) (answer : Answer) (t : State) → EventAt k s now line answer t → Arms s line answer t
event_arms k s (Up live) (lines.Call call) (answers.Reply reply) t (d, free, inl done) =
    let up : IsUp reply = subst IsUp (sym done.0) (step_up k d live.world call) in
    ap (λ (x : State). x.cut_armed) done.1 ∙ stays_armed s.cut_armed (answers.Reply reply) (uncut reply up)
event_arms k s (Up live) (lines.Call call) (answers.Reply reply) t (d, free, inr (cause, is, armed, same)) =
    falls_arms s t (lines.Call call) reply cause (fallen live call (step k d live.world call)) refl is same
event_arms k s (Down past may) (lines.Call call) (answers.Reply reply) t (is, same) =
    let none : is_cut (answers.Reply reply) ≡ false = ap (λ r. is_cut (answers.Reply r)) is in
    ap (λ (x : State). x.cut_armed) same ∙ stays_armed s.cut_armed (answers.Reply reply) none
event_arms k s (Up live) lines.Mount (answers.Mounted n) t (is, same) = ap (λ (x : State). x.cut_armed) same ∙ sym (and-true s.cut_armed)
event_arms k s (Down past may) lines.Mount (answers.Mounted n) t (is, same) = ap (λ (x : State). x.cut_armed) same ∙ sym (and-true s.cut_armed)
event_arms k s (Up live) lines.Mount (answers.Reply reply) t (cause, is, armed, same) = falls_arms s t lines.Mount reply cause (Down live.past (live.mark ∷ [])) refl is same
event_arms k s (Down past may) lines.Mount (answers.Reply reply) t (cause, is, armed, same) = falls_arms s t lines.Mount reply cause (Down past may) refl is same
event_arms k s (Up live) (lines.Cut n how) answer t (is, same) = ap (λ (x : State). x.cut_armed) same
event_arms k s (Down past may) (lines.Cut n how) answer t (is, same) = ap (λ (x : State). x.cut_armed) same
event_arms k s (Up live) (lines.Fail kind n) answer t (is, same) = ap (λ (x : State). x.cut_armed) same ∙ stays_armed s.cut_armed answer (ap is_cut is)
event_arms k s (Down past may) (lines.Fail kind n) answer t (is, same) = ap (λ (x : State). x.cut_armed) same ∙ stays_armed s.cut_armed answer (ap is_cut is)
event_arms k s (Up live) (lines.Call call) (answers.Mounted n) t event = absurd event
event_arms k s (Up live) (lines.Call call) (answers.Refused damage) t event = absurd event
event_arms k s (Down past may) (lines.Call call) (answers.Mounted n) t event = absurd event
event_arms k s (Down past may) (lines.Call call) (answers.Refused damage) t event = absurd event
event_arms k s (Up live) lines.Mount (answers.Refused damage) t event = absurd event
event_arms k s (Down past may) lines.Mount (answers.Refused damage) t event = absurd event
event_arms k s (Up live) (lines.Format blocks) answer t event = absurd event
event_arms k s (Down past may) (lines.Format blocks) answer t event = absurd event

-- what a line plans, or what was armed before it, stands at the end unless a cut came later
arms_on : (later plans armed came any : Bool) → (later || ((plans || (armed && not came)) && not any)) ≡ (((plans && not any) || later) || (armed && not (came || any)))
arms_on true plans armed came any = sym (ap (λ b. b || (armed && not (came || any))) (or-true (plans && not any)))
arms_on false true armed came false = refl
arms_on false true true true true = refl
arms_on false true true false true = refl
arms_on false true false came true = refl
arms_on false false true true any = refl
arms_on false false true false any = refl
arms_on false false false came any = refl

pub armed_at_end : (k : Limits) (old end : State) (ls : List Line) (given : List Answer) → Life k old ls given end → end.cut_armed ≡ (is_cut_planned ls given || (old.cut_armed && not (list_any is_cut given)))
armed_at_end k old end [] [] same = ap (λ (x : State). x.cut_armed) same ∙ sym (and-true old.cut_armed)
armed_at_end k old end (line ∷ ls) (answer ∷ given) (mid, event, life) =
    let any = list_any is_cut given in
    let later = is_cut_planned ls given in
    armed_at_end k mid end ls given life ∙ ap (λ b. later || (b && not any)) (event_arms k old old.now line answer mid event) ∙ arms_on later (plans_cut line) old.cut_armed (is_cut answer) any
armed_at_end k old end [] (answer ∷ given) life = absurd life
armed_at_end k old end (line ∷ ls) [] life = absurd life

life_of : (k : Limits) (ls : List Line) (given : List Answer) (end : State) → AreAnswers k ls given end → Life k newborn ls (drop 1 given) end
life_of k ls [] end are = absurd are
life_of k ls (first ∷ given) end are = are.1

-- at the end of the answers to a script a cut is armed exactly where some line planned one that did not come
pub armed_by : (k : Limits) (ls : List Line) (given : List Answer) (end : State) → AreAnswers k ls given end → end.cut_armed ≡ is_cut_planned ls (drop 1 given)
armed_by k ls given end are = armed_at_end k newborn end ls (drop 1 given) (life_of k ls given end are) ∙ or-false (is_cut_planned ls (drop 1 given))

-- ---- how far numbers rise

low_above : (n m : ℕ) (past : Past) → n ≤ m → IsYoungPast n past → IsYoungPast m past
low_above n m past le low = record {
  count = omega (arith, le, low.count);
  trees = All-weaker (Low n) (Low m) (λ t h. omega (arith, le, h)) past.trees low.trees;
}

now_above : (n m : ℕ) (now : Now) → n ≤ m → IsYoung n now → IsYoung m now
now_above n m (Up live) le (past, mark, tree) = (low_above n m live.past le past, omega (arith, le, mark), omega (arith, le, tree))
now_above n m (Down old may) le (past, all) = (low_above n m old le past, λ k is. omega (arith, le, all k is))

low_get : (n : ℕ) (ts : List Tree) (i : ℕ) → All (Low n) ts → Low n (unwrap_or (slice_get ts i) root_alone)
low_get n [] i all = omega arith
low_get n (t ∷ ts) zero all = All-head (Low n) t ts all
low_get n (t ∷ ts) (suc i) all = low_get n ts i (All-tail (Low n) t ts all)

low_at : (n k : ℕ) (past : Past) → IsYoungPast n past → Low n (tree_at past k)
low_at n k past low = low_get n past.trees (past.count - k) low.trees

low_up : (n k : ℕ) (past : Past) → k ≤ n → IsYoungPast n past → IsYoung n (Up (up_at past k))
low_up n k past le low =
    let here = low_at n k past low in (
      record { count = le; trees = All-cons (Low n) (named (tree_at past k)) (drop (past.count - k + 1) past.trees) here (All-drop (Low n) (past.count - k + 1) past.trees low.trees) },
      le,
      here,
    )

low_after : (n : ℕ) (past : Past) (t : Tree) (change : Option ℕ) → IsYoungPast n past → Low (n + 1) t → IsYoungPast (n + 1) (past_after past t change)
low_after n past t None low here = low_above n (n + 1) past (omega arith) low
low_after n past t (Some weight) low here =
    let before = low_above n (n + 1) past (omega arith) low in
    record { count = omega (arith, low.count); trees = All-cons (Low (n + 1)) t past.trees here before.trees }

le_either : (b : Bool) (x y n : ℕ) → x ≤ n → y ≤ n → cond b x y ≤ n
le_either true x y n a b = a
le_either false x y n a b = b

any_low : (b : Bool) (x y n : ℕ) → x ≤ n → y ≤ n → (k : ℕ) → AnyOf (x ∷ cond b (y ∷ []) []) k → k ≤ n
any_low b x y n low high k (inl is) = omega (arith, is, low)
any_low true x y n low high k (inr (inl is)) = omega (arith, is, high)
any_low true x y n low high k (inr (inr none)) = absurd none
any_low false x y n low high k (inr none) = absurd none

low_step : (k : Limits) (d n : ℕ) (w : Step.World) (call : Call) → Low n w.tree → Low (n + 1) (step k d w call).world.tree
low_step k d n w call low = omega (arith, low, next_to w (Step.effect k d w call) (sound k d w call))

low_now : (n : ℕ) (t : State) (now : Now) → t.now ≡ now → IsYoung n now → IsYoung n t.now
low_now n t now same low = subst (IsYoung n) (sym same) low

-- the state goes down whatever the cause
fell : (s : State) (cause : Cause) (to : Now) (t : State) → t ≡ disarmed s cause to → t.now ≡ to
fell s causes.Cut to t same = ap (λ (x : State). x.now) same
fell s causes.Eio to t same = ap (λ (x : State). x.now) same
fell s causes.NoMem to t same = ap (λ (x : State). x.now) same

live_low : (live : Live) (call : Call) (after : Step.After) (n : ℕ) → IsYoungPast n live.past → live.mark ≤ n → Low (n + 1) after.world.tree → IsYoung (n + 1) (Up (live_after live call after))
live_low live call after n past mark here =
    let change = weight live.world call after in
    let next = low_after n live.past after.world.tree change past here in
    (next, le_either (is_boundary live.since call after.reply change) (past_after live.past after.world.tree change).count live.mark (n + 1) next.count (omega (arith, mark)), here)

fallen_low : (live : Live) (call : Call) (after : Step.After) (n : ℕ) → IsYoungPast n live.past → live.mark ≤ n → Low (n + 1) after.world.tree → IsYoung (n + 1) (fallen live call after)
fallen_low live call after n past mark here =
    let change = weight live.world call after in
    let next = low_after n live.past after.world.tree change past here in
    (next, any_low (is_boundary live.since call after.reply change) live.mark (past_after live.past after.world.tree change).count (n + 1) (omega (arith, mark)) next.count)

-- a line makes one change and one node at most
pub event_low : (k : Limits) (n : ℕ) (s : State) (now : Now) (line : Line) (answer : Answer) (t : State) → IsYoung n now → s.now ≡ now → EventAt k s now line answer t → IsYoung (n + 1) t.now
event_low k n s (Up live) (lines.Call call) (answers.Reply reply) t (past, mark, tree) at (d, free, inl done) =
    let after = step k d live.world call in
    let here = low_step k d n live.world call tree in
    low_now (n + 1) t (Up (live_after live call after)) (ap (λ (x : State). x.now) done.1) (live_low live call after n past mark here)
event_low k n s (Up live) (lines.Call call) (answers.Reply reply) t (past, mark, tree) at (d, free, inr (cause, is, armed, same)) =
    let after = step k d live.world call in
    let here = low_step k d n live.world call tree in
    low_now (n + 1) t (fallen live call after) (fell s cause (fallen live call after) t same) (fallen_low live call after n past mark here)
event_low k n s (Down past may) (lines.Call call) (answers.Reply reply) t low at (is, same) = low_now (n + 1) t (Down past may) (ap (λ (x : State). x.now) same ∙ at) (now_above n (n + 1) (Down past may) (omega arith) low)
event_low k n s (Up live) lines.Mount (answers.Mounted m) t (past, mark, tree) at (is, same) =
    now_above n (n + 1) t.now (omega arith) (low_now n t (Up (up_at live.past m)) (ap (λ (x : State). x.now) same) (low_up n m live.past (omega (arith, is, mark)) past))
event_low k n s (Down old may) lines.Mount (answers.Mounted m) t (past, all) at (is, same) =
    now_above n (n + 1) t.now (omega arith) (low_now n t (Up (up_at old m)) (ap (λ (x : State). x.now) same) (low_up n m old (all m is) past))
event_low k n s (Up live) lines.Mount (answers.Reply reply) t (past, mark, tree) at (cause, is, armed, same) =
    now_above n (n + 1) t.now (omega arith) (low_now n t (Down live.past (live.mark ∷ [])) (fell s cause (Down live.past (live.mark ∷ [])) t same) (past, any_low false live.mark 0 n mark (omega arith)))
event_low k n s (Down old may) lines.Mount (answers.Reply reply) t low at (cause, is, armed, same) =
    now_above n (n + 1) t.now (omega arith) (low_now n t (Down old may) (fell s cause (Down old may) t same) low)
event_low k n s (Up live) (lines.Cut m how) answer t low at (is, same) = low_now (n + 1) t (Up live) (ap (λ (x : State). x.now) same) (now_above n (n + 1) (Up live) (omega arith) low)
event_low k n s (Down old may) (lines.Cut m how) answer t low at (is, same) = low_now (n + 1) t (Down old may) (ap (λ (x : State). x.now) same) (now_above n (n + 1) (Down old may) (omega arith) low)
event_low k n s (Up live) (lines.Fail kind m) answer t low at (is, same) = low_now (n + 1) t (Up live) (ap (λ (x : State). x.now) same) (now_above n (n + 1) (Up live) (omega arith) low)
event_low k n s (Down old may) (lines.Fail kind m) answer t low at (is, same) = low_now (n + 1) t (Down old may) (ap (λ (x : State). x.now) same) (now_above n (n + 1) (Down old may) (omega arith) low)
event_low k n s (Up live) (lines.Call call) (answers.Mounted m) t low at event = absurd event
event_low k n s (Up live) (lines.Call call) (answers.Refused damage) t low at event = absurd event
event_low k n s (Down old may) (lines.Call call) (answers.Mounted m) t low at event = absurd event
event_low k n s (Down old may) (lines.Call call) (answers.Refused damage) t low at event = absurd event
event_low k n s (Up live) lines.Mount (answers.Refused damage) t low at event = absurd event
event_low k n s (Down old may) lines.Mount (answers.Refused damage) t low at event = absurd event
event_low k n s (Up live) (lines.Format blocks) answer t low at event = absurd event
event_low k n s (Down old may) (lines.Format blocks) answer t low at event = absurd event

pub life_low : (k : Limits) (n m : ℕ) (old end : State) (ls : List Line) (given : List Answer) → n + length ls ≤ m → IsYoung n old.now → Life k old ls given end → IsYoung m end.now
life_low k n m old end [] [] le low same = low_now m end old.now (ap (λ (x : State). x.now) same) (now_above n m old.now (omega arith) low)
life_low k n m old end (line ∷ ls) (answer ∷ given) le low (mid, event, life) =
    life_low k (n + 1) m mid end ls given (omega arith) (event_low k n old old.now line answer mid low refl event) life
life_low k n m old end [] (answer ∷ given) le low life = absurd life
life_low k n m old end (line ∷ ls) [] le low life = absurd life

stands_low : (n : ℕ) (now : Now) (past : Past) (k : ℕ) → IsYoung n now → StandsAt now past k → (k ≤ n) × Low n (tree_at past k)
stands_low n (Up live) past k (low, mark, tree) (is, at) =
    let here : IsYoungPast n past = subst (IsYoungPast n) (sym is) low in
    (omega (arith, at, mark), low_at n k past here)
stands_low n (Down old may) past k (low, all) (is, any) =
    let here : IsYoungPast n past = subst (IsYoungPast n) (sym is) low in
    (all k any, low_at n k past here)

pub newborn_low : IsYoung 0 newborn.now
newborn_low = (record { count = omega arith; trees = All-cons (Low 0) root_alone [] (omega arith) (All-nil (Low 0)) }, omega arith, omega arith)

pub newborn_young : IsYoung (2 ^ 61) newborn.now
newborn_young = now_above 0 (2 ^ 61) newborn.now (omega arith) newborn_low

-- a life that begins with numbers below `2 ^ 61` stays at numbers that a mount takes
pub stays_low : (k : Limits) (old end : State) (ls : List Line) (given : List Answer) → length ls ≤ 2 ^ 22 → IsYoung (2 ^ 61) old.now → Life k old ls given end → IsLow end
stays_low k old end ls given few young life past at stands =
    let low = life_low k (2 ^ 61) (2 ^ 61 + 2 ^ 22) old end ls given (omega (arith, few)) young life in
    let it = stands_low (2 ^ 61 + 2 ^ 22) end.now past at low stands in
    (omega (arith, it.0), omega (arith, it.1))

-- numbers that are low enough are those that a mount takes
pub young_low : (n : ℕ) (s : State) → n + 2 < 2 ^ 62 → IsYoung n s.now → IsLow s
young_low n s few young past at stands =
    let it = stands_low n s.now past at young stands in
    (omega (arith, few, it.0), omega (arith, few, it.1))
