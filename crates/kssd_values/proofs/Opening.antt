-- The blocks of a device of which the visible pages are known.
use Rattle.std.proofs.Common.{◌≡◌, ◌∙◌, ℕ, ◌+◌, ◌*◌, ◌/◌, ◌<◌, ◌≤◌, ◌⊎◌, Bool, true, false, cond, List, [], ◌∷◌, length, get_or, set, take, replicate, None, refl, sym, ap, arith, inl, inr, length-set, get_or-set_same, get_or-set_other}
use Rattle.std.specs.Prelude.{◌&&◌, ◌||◌, not, eqb, nat_le}
use Rattle.std.specs.List.{list_any}
use Rattle.std.proofs.lemmas.Bool.{cases_eq, cases_lt, cases_Bool, false≢true, true≢false, eqb-true, eq-eqb, ne_eqb, and_parts, not-true, leb-true, le-leb, or_right}
use Rattle.std.proofs.lemmas.List.{get_or_past, get_or-replicate, length-replicate}
use Rattle.std.proofs.lemmas.List.Folds.{list_any_more, list_any_at}
use Rattle.kssd_layout.specs.Numbers.{first_value_block_in}
use Rattle.kssd_values.specs.declared.mark.Mark.{Mark}
use Rattle.kssd_values.specs.declared.mark.Mark.TheVariants.{Visible, Dead}
use Rattle.kssd_values.specs.Marks.{is_live}
use Rattle.kssd_values.specs.Places.{IsValueBlock, AreValues}
use Rattle.kssd_values.specs.Blocks.{Free, Closed}

-- whether the page is among these, and whether one of them lies in the block
abbrev pub has_page : List ℕ → ℕ → Bool
has_page pages page = list_any (λ q. eqb q page) pages

abbrev pub has_in_block : List ℕ → ℕ → Bool
has_in_block pages block = list_any (λ q. eqb (q / 32) block) pages

-- so many of the visible pages are marked
pub record AreMarked (device : ℕ) (pages : List ℕ) (marks : List Mark) (free : List Bool) : Type 0 where
  pub page_count : length marks ≡ 32 * device
  pub block_count : length free ≡ device
  pub marked : (p : ℕ) → get_or marks p Dead ≡ cond (has_page pages p) Visible Dead
  pub freed : (b : ℕ) → b < device → get_or free b false ≡ (nat_le (first_value_block_in device) b && not (has_in_block pages b))

and_true_right : (a : Bool) → (a && true) ≡ a
and_true_right true = refl
and_true_right false = refl

and_false_right : (a : Bool) → (a && false) ≡ false
and_false_right true = refl
and_false_right false = refl

or_false_right : (a : Bool) → (a || false) ≡ a
or_false_right true = refl
or_false_right false = refl

dead_anywhere : (n p : ℕ) → get_or (replicate n Dead) p Dead ≡ Dead
dead_anywhere n p = elim (cases_lt p n) [
  | inl low ↦ get_or-replicate n p Dead Dead low
  | inr past ↦ get_or_past (replicate n Dead) p Dead (omega (arith, length-replicate {A = Mark} n Dead))
]

pub marked_none : (device : ℕ) (marks : List Mark) (free : List Bool) → marks ≡ replicate (32 * device) Dead → length free ≡ device → ((b : ℕ) → b < device → get_or free b false ≡ nat_le (first_value_block_in device) b) → AreMarked device [] marks free
marked_none device marks free is count all = record {
  page_count = ap (λ (m : List Mark). length m) is ∙ length-replicate (32 * device) Dead;
  block_count = count;
  marked = λ p. ap (λ (m : List Mark). get_or m p Dead) is ∙ dead_anywhere (32 * device) p;
  freed = λ b low. all b low ∙ sym (and_true_right (nat_le (first_value_block_in device) b));
}

-- one more page is marked
pub marked_more : (device : ℕ) (pages : List ℕ) (marks : List Mark) (free : List Bool) (i page : ℕ) → AreMarked device (take i pages) marks free → i < length pages → page ≡ get_or pages i 0 → page < 32 * device → AreMarked device (take (i + 1) pages) (set marks page Visible) (set free (page / 32) false)
marked_more device pages marks free i page h low is within = record {
  page_count = length-set marks page Visible ∙ h.page_count;
  block_count = length-set free (page / 32) false ∙ h.block_count;
  marked = λ p. marked p (cases_eq p page);
  freed = λ b below. freed b below (cases_eq b (page / 32));
}
  where
    here : (p : ℕ) → has_page (take (i + 1) pages) p ≡ (has_page (take i pages) p || eqb page p)
    here p = list_any_more (λ q. eqb q p) pages i 0 low ∙ ap (λ n. has_page (take i pages) p || eqb n p) (sym is)

    there : (b : ℕ) → has_in_block (take (i + 1) pages) b ≡ (has_in_block (take i pages) b || eqb (page / 32) b)
    there b = list_any_more (λ q. eqb (q / 32) b) pages i 0 low ∙ ap (λ n. has_in_block (take i pages) b || eqb (n / 32) b) (sym is)

    marked : (p : ℕ) → (p ≡ page) ⊎ (p ≡ page → ⊥) → get_or (set marks page Visible) p Dead ≡ cond (has_page (take (i + 1) pages) p) Visible Dead
    marked p (inl e) =
        ap (λ k. get_or (set marks page Visible) k Dead) e
        ∙ get_or-set_same marks page Visible Dead (omega (arith, h.page_count))
        ∙ sym (ap (λ b. cond b Visible Dead) (here p ∙ or_right (has_page (take i pages) p) (eqb page p) (eq-eqb page p (sym e))))
    marked p (inr ne) =
        get_or-set_other marks page p Visible Dead ne ∙ h.marked p
        ∙ sym (ap (λ b. cond b Visible Dead) (here p ∙ ap (λ b. has_page (take i pages) p || b) (ne_eqb page p (λ e. ne (sym e))) ∙ or_false_right (has_page (take i pages) p)))

    freed : (b : ℕ) → b < device → (b ≡ page / 32) ⊎ (b ≡ page / 32 → ⊥) → get_or (set free (page / 32) false) b false ≡ (nat_le (first_value_block_in device) b && not (has_in_block (take (i + 1) pages) b))
    freed b below (inl e) =
        ap (λ k. get_or (set free (page / 32) false) k false) e
        ∙ get_or-set_same free (page / 32) false false (omega (arith, h.block_count))
        ∙ sym (ap (λ t. nat_le (first_value_block_in device) b && not t) (there b ∙ or_right (has_in_block (take i pages) b) (eqb (page / 32) b) (eq-eqb (page / 32) b (sym e))) ∙ and_false_right (nat_le (first_value_block_in device) b))
    freed b below (inr ne) =
        get_or-set_other free (page / 32) b false false ne ∙ h.freed b below
        ∙ sym (ap (λ t. nat_le (first_value_block_in device) b && not t) (there b ∙ ap (λ t. has_in_block (take i pages) b || t) (ne_eqb (page / 32) b (λ e. ne (sym e))) ∙ or_false_right (has_in_block (take i pages) b)))

-- a page among these lies in its block
page_in_block : (pages : List ℕ) (p : ℕ) → has_page pages p ≡ true → has_in_block pages (p / 32) ≡ true
page_in_block [] p h = absurd (false≢true h)
page_in_block (q ∷ pages) p h = by (eqb q p) refl (page_in_block pages p) h
  where
    by : (b : Bool) → eqb q p ≡ b → (has_page pages p ≡ true → has_in_block pages (p / 32) ≡ true) → (b || has_page pages p) ≡ true → (eqb (q / 32) (p / 32) || has_in_block pages (p / 32)) ≡ true
    by true e rest g = ap (λ b. b || has_in_block pages (p / 32)) (eq-eqb (q / 32) (p / 32) (ap (λ n. n / 32) (eqb-true q p e)))
    by false e rest g = or_right (eqb (q / 32) (p / 32)) (has_in_block pages (p / 32)) (rest g)

-- all are marked
pub marked_sound : (device : ℕ) (pages : List ℕ) (marks : List Mark) (free : List Bool) → AreMarked device pages marks free → ((p : ℕ) → has_page pages p ≡ true → IsValueBlock device (p / 32)) → AreValues device marks free None None
marked_sound device pages marks free h value = record {
  pages = h.page_count;
  blocks = h.block_count;
  region = λ b is. record { first = leb-true _ _ (and_parts _ _ (sym (h.freed b (low b is)) ∙ is)).0; last = low b is };
  dead = λ p is. ap is_live (h.marked p ∙ ap (λ b. cond b Visible Dead) (not_there p is));
  outside = λ p below. ap is_live (h.marked p ∙ ap (λ b. cond b Visible Dead) (not_above p below));
  opened_is = λ f e. absurd cc;
  target_is = λ f e. absurd cc;
  apart = λ f g e t. absurd cc;
}
  where
    low : (b : ℕ) → get_or free b false ≡ true → b < device
    low b is = elim (cases_lt b device) [
      | inl l ↦ l
      | inr past ↦ absurd (false≢true (sym (get_or_past free b false (omega (arith, h.block_count))) ∙ is))
    ]

    not_there : (p : ℕ) → get_or free (p / 32) false ≡ true → has_page pages p ≡ false
    not_there p is = elim (cases_Bool (has_page pages p)) [
      | inl t ↦ let none = not-true (has_in_block pages (p / 32)) (and_parts (nat_le (first_value_block_in device) (p / 32)) (not (has_in_block pages (p / 32))) (sym (h.freed (p / 32) (low (p / 32) is)) ∙ is)).1 in absurd (true≢false (sym (page_in_block pages p t) ∙ none))
      | inr f ↦ f
    ]

    not_above : (p : ℕ) → p / 32 < first_value_block_in device → has_page pages p ≡ false
    not_above p below = elim (cases_Bool (has_page pages p)) [
      | inl t ↦ let first = (value p t).first in absurd (omega arith)
      | inr f ↦ f
    ]

-- a page among these lies in a block of the device
pub page_low : (device : ℕ) (pages : List ℕ) (i : ℕ) → ((p : ℕ) → has_page pages p ≡ true → IsValueBlock device (p / 32)) → i < length pages → get_or pages i 0 / 32 < device
page_low device pages i value low =
    let x : ℕ = get_or pages i 0 in
    (value x (list_any_at (λ q. eqb q x) pages i 0 low (eq-eqb x x refl))).last

-- how a value block is used
pub state_from : (first device b : ℕ) (f any : Bool) → first ≤ b → f ≡ (nat_le first b && not any) → cond f Free Closed ≡ cond any Closed Free
state_from first device b f any le e =
    ap (λ x. cond x Free Closed) (e ∙ ap (λ x. x && not any) (le-leb first b le)) ∙ by any
  where
    by : (any : Bool) → cond (not any) Free Closed ≡ cond any Closed Free
    by true = refl
    by false = refl
