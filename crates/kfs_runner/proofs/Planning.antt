-- Whether a cut is planned for a device, line by line.
use Rattle.std.proofs.Common.{◌≡◌, ◌≤◌, ◌<◌, ◌+◌, ◌^◌, ◌++◌, ◌∷◌, ◌∙◌, [], ℕ, Bool, true, false, not, List, length, take, get_or, sym, ap, subst, arith}
use Rattle.std.specs.Prelude.{◌&&◌, ◌||◌}
use Rattle.std.specs.List.{list_any}
use Rattle.std.proofs.Math.Bool.{and-true, and-false}
use Rattle.std.proofs.lemmas.List.{take_more}
use Rattle.std.proofs.lemmas.List.Folds.{list_any-append}
use Rattle.std.proofs.lemmas.Bool.Decides.{nat_tests}
use Rattle.kv_device.specs.Machine.{Machine, down}
use Rattle.kv_device.specs.Calls.{Rises}
use Rattle.kfs_path.specs.declared.call.Cause.TheVariants as causes
use Rattle.kfs_path.specs.declared.call.Reply.TheVariants as replies
use Rattle.kfs_model.specs.declared.Line.{Line}
use Rattle.kfs_model.specs.declared.Line.TheVariants as lines
use Rattle.kfs_model.specs.declared.Answer.{Answer}
use Rattle.kfs_model.specs.declared.Answer.TheVariants as answers
use Rattle.kfs_posix.specs.Showing.{one_if}
use Rattle.kfs_runner.specs.Strikes.{is_cut, plans_cut, is_cut_planned, HasCut, is_still_planned, is_planned_behind, PlansCut}

pub one_if_le : (armed : Bool) → one_if armed ≤ 1
one_if_le true = omega arith
one_if_le false = omega arith

one_if_same : (a b : Bool) → one_if a ≡ one_if b → a ≡ b
one_if_same a b same = grind (arith, same)

-- ---- a line

-- the plan of the one goes to the plan of the other, as the line and its answer tell
pub by_states : (old new : Machine) (line : Line) (answer : Answer) (before now : Bool) → HasCut old before → HasCut new now → now ≡ is_still_planned before line answer → PlansCut old line answer new
by_states old new line answer before now was is next planned has =
    let same : before ≡ planned = one_if_same before planned (omega (arith, was, has)) in
    let B : Bool → Type 0 = λ b. HasCut new (is_still_planned b line answer) in
    subst B same (subst (HasCut new) next is)

-- a line that plans no cut and tells none leaves the plan
pub same_cut : (old new : Machine) (line : Line) (answer : Answer) → plans_cut line ≡ false → is_cut answer ≡ false → new.cuts ≡ old.cuts → new.most_cuts ≡ old.most_cuts → PlansCut old line answer new
same_cut old new line answer plain none cuts most planned has =
    let same : is_still_planned planned line answer ≡ planned = grind (arith, plain, none) in
    let here : HasCut new planned = omega (arith, cuts, most, has) in
    subst (HasCut new) (sym same) here

-- a cut that came is planned no more
pub cut_came : (old new : Machine) → old.cuts < 2 ^ 63 → Rises old.cuts new.cuts old.most_cuts → new.most_cuts ≡ old.most_cuts → PlansCut old lines.Mount (answers.Reply (replies.Down causes.Cut)) new
cut_came old new low rises most planned has =
    let one = one_if_le planned in
    let here : new.most_cuts ≡ new.cuts + 0 = omega (arith, rises.0, rises.1, low, most, has, one) in
    subst (HasCut new) (sym (and-false planned)) here

-- a device has the same plan however it is down
pub cut_rests : (m rests : Machine) (planned : Bool) → down rests ≡ down m → HasCut m planned → HasCut rests planned
cut_rests m rests planned same has =
    let cuts = ap (λ (x : Machine). x.cuts) same in
    let most = ap (λ (x : Machine). x.most_cuts) same in
    omega (arith, cuts, most, has)

-- ---- lines

-- before the first line
pub none_behind : (m : Machine) (planned : Bool) → HasCut m planned → HasCut m (is_planned_behind planned [] [])
none_behind m planned has = subst (HasCut m) (sym (and-true planned)) has

any_more : (given : List Answer) (answer : Answer) → list_any is_cut (given ++ answer ∷ []) ≡ (list_any is_cut given || is_cut answer)
any_more given answer = let all = list_any-append is_cut given (answer ∷ []) in grind (arith, all)

later : (plans any came more armed : Bool) → ((plans && not (any || came)) || (more || (armed && not came))) ≡ (more || (((plans && not any) || armed) && not came))
later plans any came more armed = grind arith

cut_more : (ls : List Line) (given : List Answer) (line : Line) (answer : Answer) → length given ≡ length ls → is_cut_planned (ls ++ line ∷ []) (given ++ answer ∷ []) ≡ (plans_cut line || (is_cut_planned ls given && not (is_cut answer)))
cut_more [] [] line answer same = grind arith
cut_more (l ∷ ls) (a ∷ given) line answer same =
    let fewer : length given ≡ length ls = omega (arith, same) in
    let more = cut_more ls given line answer fewer in
    let any = any_more given answer in
    ap (λ b. (plans_cut l && not b) || is_cut_planned (ls ++ line ∷ []) (given ++ answer ∷ [])) any
    ∙ ap (λ b. (plans_cut l && not (list_any is_cut given || is_cut answer)) || b) more
    ∙ later (plans_cut l) (list_any is_cut given) (is_cut answer) (plans_cut line) (is_cut_planned ls given)
cut_more [] (a ∷ given) line answer same = absurd (omega (arith, same))
cut_more (l ∷ ls) [] line answer same = absurd (omega (arith, same))

behind : (plans before came planned any : Bool) → ((plans || (before && not came)) || (planned && not (any || came))) ≡ (plans || ((before || (planned && not any)) && not came))
behind plans before came planned any = grind arith

-- behind the line at an index
pub behind_at : (planned : Bool) (ls : List Line) (i : ℕ) (line : Line) (given : List Answer) (answer : Answer) → i < length ls → line ≡ get_or ls i line → length given ≡ length (take i ls)
    → is_planned_behind planned (take (i + 1) ls) (given ++ answer ∷ []) ≡ is_still_planned (is_planned_behind planned (take i ls) given) line answer
behind_at planned ls i line given answer below is same =
    let next : take i ls ++ line ∷ [] ≡ take (i + 1) ls = ap (λ l. take i ls ++ l ∷ []) is ∙ sym (take_more ls i line below) in
    let any = any_more given answer in
    let more = cut_more (take i ls) given line answer same in
    ap (λ done. is_planned_behind planned done (given ++ answer ∷ [])) (sym next)
    ∙ ap (λ b. b || (planned && not (list_any is_cut (given ++ answer ∷ [])))) more
    ∙ ap (λ b. (plans_cut line || (is_cut_planned (take i ls) given && not (is_cut answer))) || (planned && not b)) any
    ∙ behind (plans_cut line) (is_cut_planned (take i ls) given) (is_cut answer) planned (list_any is_cut given)
