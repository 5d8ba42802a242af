-- How blocks are used after calls.
use Rattle.std.proofs.Common.{◌≡◌, ◌≢◌, ◌∙◌, ℕ, Bool, true, false, cond, List, get_or, set, Option, Some, None, refl, sym, ap, inl, inr, get_or-set_other}
use Rattle.std.specs.Prelude.{◌&&◌, not}
use Rattle.std.proofs.lemmas.Bool.{cases_Bool, false≢true, eqb-true, eq-eqb, ne_eqb}
use Rattle.kssd_values.specs.declared.filling.Filling.{Filling}
use Rattle.kssd_values.specs.declared.mark.Mark.{Mark}
use Rattle.kssd_values.specs.Places.{AreValues, is_in}
use Rattle.kssd_values.specs.Blocks.{BlockState, Free, Open, Closed, Target}
use Rattle.kssd_values.specs.Changes.{close_open, open_target, close_target}

-- the state by three tests: whether it is open, copied into, and free
abbrev pub by_tests : Bool → Bool → Bool → BlockState
by_tests a t f = cond a Open (cond t Target (cond f Free Closed))

pub closed_from : (a t f : Bool) → ((not a && not t) && not f) ≡ true → by_tests a t f ≡ Closed
closed_from true t f h = absurd (false≢true h)
closed_from false true f h = absurd (false≢true h)
closed_from false false true h = absurd (false≢true h)
closed_from false false false h = refl

pub closed_to : (a t f : Bool) → by_tests a t f ≡ Closed → (a ≡ false) × (t ≡ false) × (f ≡ false)
closed_to true t f h = absurd cc
closed_to false true f h = absurd cc
closed_to false false true h = absurd cc
closed_to false false false h = (refl, refl, refl)

pub closed_test : (a t f : Bool) → by_tests a t f ≡ Closed → ((not a && not t) && not f) ≡ true
closed_test true t f h = absurd cc
closed_test false true f h = absurd cc
closed_test false false true h = absurd cc
closed_test false false false h = refl

pub is_in-same : (f : Filling) → is_in (Some f) f.block ≡ true
is_in-same f = eq-eqb f.block f.block refl

pub is_in-other : (f : Filling) (b : ℕ) → (b ≡ f.block → ⊥) → is_in (Some f) b ≡ false
is_in-other f b ne = ne_eqb f.block b (λ e. ne (sym e))

-- the block that is filled
pub is_in-true : (o : Option Filling) (b : ℕ) → is_in o b ≡ true → (f : Filling) × (o ≡ Some f) × (f.block ≡ b)
is_in-true None b h = absurd (false≢true h)
is_in-true (Some f) b h = (f, refl, eqb-true f.block b h)

module _ (device : ℕ) (marks : List Mark) (free : List Bool) (opened target : Option Filling) (sound : AreValues device marks free opened target) where
  -- the open block isn't free and isn't the one copied into
  pub open_alone : (b : ℕ) → is_in opened b ≡ true → (is_in target b ≡ false) × (get_or free b false ≡ false)
  open_alone b h =
      let o = is_in-true opened b h in
      let other : is_in target b ≡ false = elim (cases_Bool (is_in target b)) [
        | inl t ↦ let q = is_in-true target b t in absurd (sound.apart o.0 q.0 o.1 q.1 (o.2 ∙ sym q.2))
        | inr f ↦ f
      ] in
      (other, ap (λ k. get_or free k false) (sym o.2) ∙ (sound.opened_is o.0 o.1).taken)

  pub target_alone : (b : ℕ) → is_in target b ≡ true → (is_in opened b ≡ false) × (get_or free b false ≡ false)
  target_alone b h =
      let o = is_in-true target b h in
      let other : is_in opened b ≡ false = elim (cases_Bool (is_in opened b)) [
        | inl t ↦ let q = is_in-true opened b t in absurd (sound.apart q.0 o.0 q.1 o.1 (q.2 ∙ sym o.2))
        | inr f ↦ f
      ] in
      (other, ap (λ k. get_or free k false) (sym o.2) ∙ (sound.target_is o.0 o.1).taken)

  -- a free block is neither
  pub free_alone : (b : ℕ) → get_or free b false ≡ true → (is_in opened b ≡ false) × (is_in target b ≡ false)
  free_alone b h =
      let o : is_in opened b ≡ false = elim (cases_Bool (is_in opened b)) [
        | inl t ↦ absurd (false≢true (sym (open_alone b t).1 ∙ h))
        | inr f ↦ f
      ] in
      let p : is_in target b ≡ false = elim (cases_Bool (is_in target b)) [
        | inl t ↦ absurd (false≢true (sym (target_alone b t).1 ∙ h))
        | inr f ↦ f
      ] in
      (o, p)

  pub free_state : (b : ℕ) → get_or free b false ≡ true → by_tests (is_in opened b) (is_in target b) (get_or free b false) ≡ Free
  free_state b h =
      let p = free_alone b h in
      λ i. by_tests (p.0 i) (p.1 i) (h i)

  -- a free block is the open one now
  pub begins_open : (b : ℕ) (f : Filling) → get_or free b false ≡ true → f.block ≡ b → (other : ℕ) → other ≢ b → by_tests (is_in (Some f) other) (is_in target other) (get_or (set free b false) other false) ≡ close_open (by_tests (is_in opened other) (is_in target other) (get_or free other false))
  begins_open b f was e other ne =
      (λ i. by_tests (is_in-other f other (λ q. ne (q ∙ e)) i) (is_in target other) (get_or-set_other free b other false false ne i))
      ∙ closing (is_in opened other) (is_in target other) (get_or free other false) (open_alone other)
    where
      closing : (a t f : Bool) → (a ≡ true → (t ≡ false) × (f ≡ false)) → by_tests false t f ≡ close_open (by_tests a t f)
      closing true t f h = let p = h refl in λ i. by_tests false (p.0 i) (p.1 i)
      closing false true f h = refl
      closing false false true h = refl
      closing false false false h = refl

  -- a free block is copied into now
  pub begins_target : (b : ℕ) (f : Filling) → get_or free b false ≡ true → f.block ≡ b → target ≡ None → (other : ℕ) → other ≢ b → by_tests (is_in opened other) (is_in (Some f) other) (get_or (set free b false) other false) ≡ by_tests (is_in opened other) (is_in target other) (get_or free other false)
  begins_target b f was e none other ne =
      (λ i. by_tests (is_in opened other) (is_in-other f other (λ q. ne (q ∙ e)) i) (get_or-set_other free b other false false ne i))
      ∙ sym (ap (λ t. by_tests (is_in opened other) (is_in t other) (get_or free other false)) none)

  -- a block was cleared, and the block copied into is the open one
  pub opens_target : (b other : ℕ) → other ≢ b → by_tests (is_in target other) (is_in None other) (get_or (set free b true) other false) ≡ open_target (by_tests (is_in opened other) (is_in target other) (get_or free other false))
  opens_target b other ne =
      (λ i. by_tests (is_in target other) false (get_or-set_other free b other true false ne i))
      ∙ opening (is_in opened other) (is_in target other) (get_or free other false) (open_alone other)
    where
      opening : (a t f : Bool) → (a ≡ true → (t ≡ false) × (f ≡ false)) → by_tests t false f ≡ open_target (by_tests a t f)
      opening true t f h = let p = h refl in λ i. by_tests (p.0 i) false (p.1 i)
      opening false true f h = refl
      opening false false true h = refl
      opening false false false h = refl

  -- a block was cleared, and the block copied into is closed
  pub closes_target : (b other : ℕ) → other ≢ b → by_tests (is_in opened other) (is_in None other) (get_or (set free b true) other false) ≡ close_target (by_tests (is_in opened other) (is_in target other) (get_or free other false))
  closes_target b other ne =
      (λ i. by_tests (is_in opened other) false (get_or-set_other free b other true false ne i))
      ∙ closing (is_in opened other) (is_in target other) (get_or free other false) (target_alone other)
    where
      closing : (a t f : Bool) → (t ≡ true → (a ≡ false) × (f ≡ false)) → by_tests a false f ≡ close_target (by_tests a t f)
      closing true t f h = refl
      closing false true f h = let p = h refl in λ i. by_tests false false (p.1 i)
      closing false false true h = refl
      closing false false false h = refl
