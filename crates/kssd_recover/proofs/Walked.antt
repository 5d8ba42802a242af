-- A walk over entries, to their end.
use Rattle.std.proofs.Common.{◌≡◌, ◌∙◌, ℕ, ◌<◌, ◌≤◌, ◌⊎◌, Bool, true, false, ◌||◌, eqb, List, [], ◌∷◌, ◌++◌, Option, None, Some, refl, sym, ap, subst, arith, inl, inr}
use Rattle.std.specs.Prelude.{slice_get, min}
use Rattle.std.proofs.lemmas.List.{append-nil}
use Rattle.std.proofs.lemmas.Option.{none-some}
use Rattle.std.proofs.lemmas.Bool.{or_from, cases_lt, eq-eqb}
use Rattle.std.proofs.lemmas.Bool.Decides.{nat_tests}
use Rattle.kv_nand.specs.Flash.{Image}
use Rattle.kssd_entry.specs.declared.entry.Entry.{Entry}
use Rattle.kssd_image.specs.Damages.{IsFirst}
use Rattle.kssd_recover.specs.declared.walking.Visible.{Visible}
use Rattle.kssd_recover.specs.Walk.{IsLeastOf, least_of, key_count, IsSeen, IsWalked, AreCounted}

none_left : (left : List Entry) → slice_get left 0 ≡ None → left ≡ []
none_left [] e = refl
none_left (x ∷ xs) e = absurd (none-some x (sym e))

all_done : (all done left : List Entry) → slice_get left 0 ≡ None → done ++ left ≡ all → done ≡ all
all_done all done left none are = sym (append-nil done) ∙ ap (λ (xs : List Entry). done ++ xs) (sym (none_left left none)) ∙ are

-- where none is left, all were seen
pub walked_all : (blocks : ℕ) (image : Image) (all left : List Entry) (visible : Visible) → slice_get left 0 ≡ None → IsWalked blocks image all left visible → IsSeen blocks image all visible
walked_all blocks image all left visible none w = subst (λ (xs : List Entry). IsSeen blocks image xs visible) (all_done all w.done left none w.all_are) w.seen

pub counted_all : (all left : List Entry) (count : ℕ) → slice_get left 0 ≡ None → AreCounted all left count → count ≡ key_count all
counted_all all left count none w = w.counted ∙ ap key_count (all_done all w.done left none w.all_are)

-- ---- one more entry

or_here : (a b : Bool) → b ≡ true → (a || b) ≡ true
or_here true b e = refl
or_here false b e = e

-- the page that one more entry names is the least one that is bad, or an earlier one is
pub one_more_bad : (test more : ℕ → Bool) (before : Option ℕ) (page : ℕ) → ((n : ℕ) → more n ≡ (test n || eqb page n)) → IsLeastOf test before → IsLeastOf more (Some (least_of before page))
one_more_bad test more None page is least = record {
  here = is page ∙ (λ i. least page i || eqb page page) ∙ eq-eqb page page refl;
  earlier = λ k lt. is k ∙ or_from _ _ (least k) (let ne : eqb page k ≡ false = grind (arith, nat_tests) in ne);
}
one_more_bad test more (Some first) page is least = by (cases_lt first page)
  where
    by : ((first < page) ⊎ (page ≤ first)) → IsFirst more (min first page)
    by (inl lt) =
        let at : first ≡ min first page = omega arith in
        subst (IsFirst more) at (record {
          here = is first ∙ (λ i. least.here i || eqb page first);
          earlier = λ k less. is k ∙ or_from _ _ (least.earlier k less) (let ne : eqb page k ≡ false = grind (arith, nat_tests) in ne);
        })
    by (inr le) =
        let at : page ≡ min first page = omega arith in
        subst (IsFirst more) at (record {
          here = is page ∙ or_here (test page) (eqb page page) (eq-eqb page page refl);
          earlier = λ k less. is k ∙ or_from _ _ (least.earlier k (omega arith)) (let ne : eqb page k ≡ false = grind (arith, nat_tests) in ne);
        })

-- where the tests are the same, so is the least
pub same_least : (test more : ℕ → Bool) (least : Option ℕ) → ((n : ℕ) → more n ≡ test n) → IsLeastOf test least → IsLeastOf more least
same_least test more None same h = λ n. same n ∙ h n
same_least test more (Some n) same h = record { here = same n ∙ h.here; earlier = λ k lt. same k ∙ h.earlier k lt }

-- ---- from one image to another that is the same

pub seen_as : (blocks now : ℕ) (image later : Image) (entries left : List Entry) (visible : Visible) → now ≡ blocks → later ≡ image → left ≡ entries → IsSeen now later left visible → IsSeen blocks image entries visible
seen_as blocks now image later entries left visible here same are h =
    subst (λ (xs : List Entry). IsSeen blocks image xs visible) are (subst (λ (im : Image). IsSeen blocks im left visible) same (subst (λ (n : ℕ). IsSeen n later left visible) here h))
