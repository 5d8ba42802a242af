-- One line more, with its answer.
use Rattle.std.proofs.lemmas.List.{take_more}
use Rattle.std.proofs.lemmas.Grind.{flat_map-append}
use Rattle.std.proofs.lemmas.List.Sums.{sum_by-append}
use Rattle.std.specs.List.{count_by}
use Rattle.std.proofs.Common.{◌≡◌, ◌⊎◌, inl, inr, ◌<◌, ◌+◌, ◌++◌, ◌∷◌, ◌≤◌, ◌∙◌, ℕ, zero, suc, List, [], length, take, get_or, cond, refl, sym, ap, subst, Bool, true, false, arith, append_assoc, append-nil}
use Rattle.kfs_model.specs.declared.Line.{Line}
use Rattle.kfs_model.specs.declared.Answer.{Answer}
use Rattle.kfs_model.specs.Tree.{Limits}
use Rattle.kfs_model.specs.Life.{State, Life, Event, life_more}
use Rattle.kv_base.specs.declared.damage.Damage.{Damage}
use Rattle.kfs_runner.specs.Refusals.{AnswersDamage, AnswerDamage}
use Rattle.kfs_posix.specs.Showing.{one_if}
use Rattle.kfs_script.specs.AnswerText.{text_of, texts_of}
use Rattle.kfs_runner.specs.Strikes.{Strikes, is_cut, is_failure, struck, struck_by}

-- a life goes on by the line at an index
pub life_at : (k : Limits) (first : State) (ls : List Line) (i : ℕ) (given : List Answer) (s t : State) (line : Line) (answer : Answer) → i < length ls → line ≡ get_or ls i line → Life k first (take i ls) given s → Event k s line answer t → Life k first (take (i + 1) ls) (given ++ answer ∷ []) t
life_at k first ls i given s t line answer below is life event =
    let P : List Line → Type 0 = λ done. Life k first done (given ++ answer ∷ []) t in
    let next : take i ls ++ line ∷ [] ≡ take (i + 1) ls = ap (λ l. take i ls ++ l ∷ []) is ∙ sym (take_more ls i line below) in
    subst P next (life_more k first s t (take i ls) given line answer life event)

refused_more : (damage : Damage) (ls : List Line) (given : List Answer) (line : Line) (answer : Answer) → AnswerDamage damage ls given → AnswersDamage damage line answer → AnswerDamage damage (ls ++ line ∷ []) (given ++ answer ∷ [])
refused_more damage [] [] line answer all one = (one, tt)
refused_more damage (l ∷ ls) (a ∷ given) line answer all one = (all.0, refused_more damage ls given line answer all.1 one)
refused_more damage [] (a ∷ given) line answer all one = absurd all
refused_more damage (l ∷ ls) [] line answer all one = absurd all

-- so do refusals
pub refused_at : (damage : Damage) (ls : List Line) (i : ℕ) (line : Line) (given : List Answer) (answer : Answer) → i < length ls → line ≡ get_or ls i line → AnswerDamage damage (take i ls) given → AnswersDamage damage line answer → AnswerDamage damage (take (i + 1) ls) (given ++ answer ∷ [])
refused_at damage ls i line given answer below is all one =
    let P : List Line → Type 0 = λ done. AnswerDamage damage done (given ++ answer ∷ []) in
    let next : take i ls ++ line ∷ [] ≡ take (i + 1) ls = ap (λ l. take i ls ++ l ∷ []) is ∙ sym (take_more ls i line below) in
    subst P next (refused_more damage (take i ls) given line answer all one)

-- what follows in both cases
pub in_both : {A B C : Type 0} → A ⊎ B → (A → C) → (B → C) → C
in_both (inl a) left right = left a
in_both (inr b) left right = right b

pub take_few : (i : ℕ) (ls : List Line) → length (take i ls) ≤ length ls
take_few zero ls = omega arith
take_few (suc i) [] = omega arith
take_few (suc i) (line ∷ ls) = omega (arith, take_few i ls)

pub one_counted : (b : Bool) → cond b 1 0 ≡ one_if b
one_counted true = refl
one_counted false = refl

counted_one : (p : Answer → Bool) (given : List Answer) (answer : Answer) → count_by p (given ++ answer ∷ []) ≡ count_by p given + one_if (p answer)
counted_one p given answer = sum_by-append (λ x. cond (p x) 1 0) given (answer ∷ []) ∙ omega (arith, one_counted (p answer))

-- an answer's text stands behind the texts before it
pub texts_more : (old text new : List ℕ) (given : List Answer) (answer : Answer) → text ≡ old ++ texts_of given → new ≡ text ++ text_of answer → new ≡ old ++ texts_of (given ++ answer ∷ [])
texts_more old text new given answer before is =
    is ∙ ap (λ t. t ++ text_of answer) before ∙ append_assoc old (texts_of given) (text_of answer)
    ∙ ap (λ t. old ++ t) (ap (λ t. texts_of given ++ t) (sym (append-nil (text_of answer))) ∙ sym (flat_map-append text_of given (answer ∷ [])))

-- the answer is counted with those before it
pub struck_more : (first old new : Strikes) (given : List Answer) (answer : Answer) → old ≡ struck_by first given → new ≡ struck old answer → new ≡ struck_by first (given ++ answer ∷ [])
struck_more first old new given answer before is =
    let cuts : new.cuts ≡ first.cuts + count_by is_cut (given ++ answer ∷ []) =
    omega (arith, ap (λ (s : Strikes). s.cuts) is, ap (λ (s : Strikes). s.cuts) before, counted_one is_cut given answer) in
    let faults : new.faults ≡ first.faults + count_by is_failure (given ++ answer ∷ []) =
    omega (arith, ap (λ (s : Strikes). s.faults) is, ap (λ (s : Strikes). s.faults) before, counted_one is_failure given answer) in
    λ i. record { cuts = cuts i; faults = faults i }

-- no answer tells nothing
pub none_struck : (s : Strikes) → s ≡ struck_by s []
none_struck s =
    let cuts : s.cuts ≡ s.cuts + count_by is_cut [] = omega arith in
    let faults : s.faults ≡ s.faults + count_by is_failure [] = omega arith in
    λ i. record { cuts = cuts i; faults = faults i }
