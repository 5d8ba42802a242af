-- The entries from a key on: those of one page, and all of the pages behind it.
use Rattle.std.proofs.Common.{◌≡◌, ◌∙◌, ℕ, zero, suc, ◌+◌, ◌-◌, ◌<◌, ◌≤◌, Bool, true, false, not, cond, List, [], ◌∷◌, ◌++◌, length, refl, sym, ap, arith, inl, inr, append_assoc}
use Rattle.std.proofs.lemmas.Bool.{cases_lt}
use Rattle.std.proofs.lemmas.List.{nil_from_length, append-nil}
use Rattle.kssd_entry.specs.declared.entry.Entry.{Entry}
use Rattle.kssd_model.specs.Rising.{is_below, entries_from}
use Rattle.kssd_model.specs.RunPages.{joined, first_key}
use Rattle.kssd_run.specs.Pages.{rest_before, pages_behind, IsSplitAt}
use Rattle.kssd_run.proofs.GoingOn.{rising_second}
use Rattle.kssd_run.proofs.Paging.{ArePages, IsPageBehind, fewer, below_rising, below_from, above_from, above_head}

step : (b : Bool) (x : Entry) (ls xs ys : List Entry) → ls ≡ xs ++ ys → cond b (x ∷ ls) ls ≡ cond b (x ∷ xs) xs ++ ys
step true x ls xs ys e = ap (λ (t : List Entry). x ∷ t) e
step false x ls xs ys e = e

from-append : (xs ys : List Entry) (key : List ℕ) → entries_from (xs ++ ys) key ≡ entries_from xs key ++ entries_from ys key
from-append [] ys key = refl
from-append (x ∷ xs) ys key = step (not (is_below key x)) x _ (entries_from xs key) (entries_from ys key) (from-append xs ys key)

-- one page more at the end
behind_more : (page : ℕ → List Entry) (n k : ℕ) → k ≤ n → pages_behind page k (suc n - k) ≡ pages_behind page k (n - k) ++ page n
behind_more page n k le =
    let e : suc n - k ≡ suc (n - k) = omega arith in
    let f : k + (n - k) ≡ n = omega arith in
    ap (pages_behind page k) e ∙ ap (λ (i : ℕ). pages_behind page k (n - k) ++ page i) f

from-joined : (page : ℕ → List Entry) (n k : ℕ) (key : List ℕ) → ArePages page n → IsPageBehind page n key k → entries_from (joined page n) key ≡ rest_before page k key ++ pages_behind page k (n - k)
from-joined page zero zero key h b = refl
from-joined page zero (suc k) key h b = absurd (omega (arith, b.within))
from-joined page (suc n) k key h b =
    from-append (joined page n) (page n) key
    ∙ elim (cases_lt n k) [
      | inl lt ↦
          let e : suc n ≡ k = omega (arith, b.within) in
          let none : entries_from (joined page n) key ≡ [] = below_from (first_key (page n)) key (joined page n) (below_rising (joined page n) (page n) h.rising (h.filled n (omega arith))) (b.upto n (omega arith)) in
          let gone : suc n - k ≡ 0 = omega arith in
          ap (λ (xs : List Entry). xs ++ entries_from (page n) key) none
          ∙ sym (append-nil (entries_from (page n) key))
          ∙ ap (λ (m : ℕ). rest_before page m key ++ []) e
          ∙ ap (λ (m : ℕ). rest_before page k key ++ pages_behind page k m) (sym gone)
      | inr le ↦
          let all : entries_from (page n) key ≡ page n = above_from key (page n) (above_head key (page n) (rising_second (joined page n) (page n) h.rising) (h.filled n (omega arith)) (b.above n le (omega arith))) in
          ap (λ (xs : List Entry). entries_from (joined page n) key ++ xs) all
          ∙ ap (λ (xs : List Entry). xs ++ page n) (from-joined page n k key (fewer page n h) (record { within = le; upto = b.upto; above = λ i low lt. b.above i low (omega arith) }))
          ∙ append_assoc (rest_before page k key) (pages_behind page k (n - k)) (page n)
          ∙ ap (λ (xs : List Entry). rest_before page k key ++ xs) (sym (behind_more page n k le))
    ]

-- there is something in the page before k
pub split_rest : (page : ℕ → List Entry) (n k : ℕ) (key : List ℕ) (rest : List Entry) → ArePages page n → IsPageBehind page n key k → rest ≡ rest_before page k key → 0 < length rest → IsSplitAt page n key rest k
split_rest page n k key rest h b is some = record {
  within = b.within;
  are = from-joined page n k key h b ∙ ap (λ (xs : List Entry). xs ++ pages_behind page k (n - k)) (sym is);
  last = λ e. absurd (omega (arith, ap length e));
}

-- nothing is left
pub split_nothing : (page : ℕ → List Entry) (n k : ℕ) (key : List ℕ) (rest : List Entry) → ArePages page n → IsPageBehind page n key k → rest ≡ rest_before page k key → n ≤ k → IsSplitAt page n key rest k
split_nothing page n k key rest h b is all = record {
  within = b.within;
  are = from-joined page n k key h b ∙ ap (λ (xs : List Entry). xs ++ pages_behind page k (n - k)) (sym is);
  last = λ e. omega (arith, b.within);
}

-- a page before the pages behind it
pub behind_first : (page : ℕ → List Entry) (k m : ℕ) → pages_behind page k (suc m) ≡ page k ++ pages_behind page (k + 1) m
behind_first page k zero = let e : k + 0 ≡ k = omega arith in ap page e ∙ sym (append-nil (page k))
behind_first page k (suc m) =
    let e : k + suc m ≡ (k + 1) + m = omega arith in
    ap (λ (xs : List Entry). xs ++ page (k + suc m)) (behind_first page k m)
    ∙ append_assoc (page k) (pages_behind page (k + 1) m) (page (k + suc m))
    ∙ ap (λ (i : ℕ). page k ++ (pages_behind page (k + 1) m ++ page i)) e

-- all of page k
pub split_page : (page : ℕ → List Entry) (n k : ℕ) (key : List ℕ) (rest found : List Entry) → ArePages page n → IsPageBehind page n key k → rest ≡ rest_before page k key → length rest ≡ 0 → k < n → found ≡ page k → IsSplitAt page n key found (k + 1)
split_page page n k key rest found h b is none lt found_is =
    let nil : rest ≡ [] = nil_from_length rest none in
    let e : n - k ≡ suc (n - (k + 1)) = omega arith in
    record {
      within = omega arith;
      are =
          from-joined page n k key h b
          ∙ ap (λ (xs : List Entry). xs ++ pages_behind page k (n - k)) (sym is ∙ nil)
          ∙ ap (pages_behind page k) e
          ∙ behind_first page k (n - (k + 1))
          ∙ ap (λ (xs : List Entry). xs ++ pages_behind page (k + 1) (n - (k + 1))) (sym found_is);
      last = λ no. absurd (omega (arith, ap length (sym found_is ∙ no), h.filled k lt));
    }
