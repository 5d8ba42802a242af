-- What holds of the blocks and marks after one of them is used otherwise.
use Rattle.std.proofs.Common.{◌≡◌, ◌∙◌, ℕ, ◌+◌, ◌/◌, ◌<◌, ◌≤◌, Bool, true, false, List, [], ◌∷◌, length, get_or, set, Option, Some, None, refl, sym, ap, subst, arith, inl, inr, length-set, get_or-set_same, get_or-set_other, cond}
use Rattle.std.specs.Prelude.{count_by, not, position}
use Rattle.std.specs.List.{prefix_len}
use Rattle.std.proofs.lemmas.Bool.{cases_eq, cases_lt, false≢true, true≢false, eqb-false, ltb-false, ltb-true}
use Rattle.std.proofs.lemmas.List.{get_or_past}
use Rattle.std.proofs.lemmas.List.Sums.{sum_by-set, sum_by-cons, prefix_len_stops}
use Rattle.std.specs.Prelude.{nat_lt}
use Rattle.kssd_values.specs.declared.mark.Mark.{Mark}
use Rattle.kssd_values.specs.declared.mark.Mark.TheVariants.{Dead}
use Rattle.kssd_values.specs.declared.filling.Filling.{Filling}
use Rattle.kssd_values.specs.Marks.{is_live}
use Rattle.kssd_values.specs.Places.{IsValueBlock, IsFilling, AreValues, is_in}

-- ---- which blocks are free

pub free_within : (free : List Bool) (b : ℕ) → get_or free b false ≡ true → b < length free
free_within free b h = elim (cases_lt b (length free)) [
  | inl low ↦ low
  | inr past ↦ absurd (false≢true (sym (get_or_past free b false past) ∙ h))
]

-- a block that is free after one was taken was free before
pub free_before : (free : List Bool) (b k : ℕ) → get_or free b false ≡ true → get_or (set free b false) k false ≡ true → get_or free k false ≡ true
free_before free b k was h = elim (cases_eq k b) [
  | inl e ↦ ap (λ i. get_or free i false) e ∙ was
  | inr ne ↦ sym (get_or-set_other free b k false false ne) ∙ h
]

-- one that isn't stays so
pub taken_still : (free : List Bool) (b k : ℕ) → get_or free b false ≡ true → get_or free k false ≡ false → get_or (set free b false) k false ≡ false
taken_still free b k was h = elim (cases_eq k b) [
  | inl e ↦ ap (λ i. get_or (set free b false) i false) e ∙ get_or-set_same free b false false (free_within free b was)
  | inr ne ↦ get_or-set_other free b k false false ne ∙ h
]

pub taken_now : (free : List Bool) (b : ℕ) → get_or free b false ≡ true → get_or (set free b false) b false ≡ false
taken_now free b was = get_or-set_same free b false false (free_within free b was)

pub count_taken : (free : List Bool) (b : ℕ) → get_or free b false ≡ true → count_by (λ f. f) (set free b false) + 1 ≡ count_by (λ f. f) free
count_taken free b was =
    let one = ap (λ (f : Bool). count_by (λ f. f) free + cond f 1 0) was in
    omega (arith, one, sum_by-set (λ (f : Bool). cond f 1 0) free b false false (free_within free b was))

pub count_freed : (free : List Bool) (b : ℕ) → b < length free → get_or free b false ≡ false → count_by (λ f. f) (set free b true) ≡ count_by (λ f. f) free + 1
count_freed free b low was =
    let none = ap (λ (f : Bool). count_by (λ f. f) free + cond f 1 0) was in
    omega (arith, none, sum_by-set (λ (f : Bool). cond f 1 0) free b true false low)

none_free : (xs : List Bool) → length xs ≤ prefix_len (λ x. not x) xs → count_by (λ f. f) xs ≡ 0
none_free [] h = refl
none_free (true ∷ xs) h = absurd (omega arith)
none_free (false ∷ xs) h =
    let rest : length xs ≤ prefix_len (λ x. not x) xs = omega arith in
    omega (arith, sum_by-cons (λ (f : Bool). cond f 1 0) false xs, none_free xs rest)

none_below : (b : Bool) (n : ℕ) → None ≡ cond b (Some n) None → b ≡ false
none_below true n e = absurd cc
none_below false n e = refl

some_below : (b : Bool) (n m : ℕ) → Some m ≡ cond b (Some n) None → (b ≡ true) × (m ≡ n)
some_below true n m e = (refl, cc)
some_below false n m e = absurd cc

-- where there is no first free block there is none
pub none_at_all : (xs : List Bool) → None ≡ position (λ f. f) xs → count_by (λ f. f) xs ≡ 0
none_at_all xs e =
    let p : ℕ = prefix_len (λ x. not x) xs in
    none_free xs (ltb-false p (length xs) (none_below (nat_lt p (length xs)) p e))

not_not : (b : Bool) → not b ≡ false → b ≡ true
not_not true e = refl
not_not false e = absurd (true≢false e)

-- the first free block is free
pub first_is_free : (xs : List Bool) (b : ℕ) → Some b ≡ position (λ f. f) xs → get_or xs b false ≡ true
first_is_free xs b e =
    let p : ℕ = prefix_len (λ x. not x) xs in
    let q = some_below (nat_lt p (length xs)) p b e in
    ap (λ i. get_or xs i false) q.1 ∙ not_not (get_or xs p false) (prefix_len_stops (λ x. not x) xs false (ltb-true p (length xs) q.0))

-- the filled block isn't another one
pub apart_from : (o : Option Filling) (f : Filling) (b : ℕ) → o ≡ Some f → is_in o b ≡ false → f.block ≡ b → ⊥
apart_from None f b e h = absurd cc
apart_from (Some g) f b e h = λ q. let same : g ≡ f = cc in eqb-false g.block b h (ap (λ (x : Filling). x.block) same ∙ q)

-- ---- what holds of all

module _ (device : ℕ) (marks : List Mark) (free : List Bool) (opened target : Option Filling) (sound : AreValues device marks free opened target) where
  -- a free block was taken
  pub taken_sound : (b : ℕ) → get_or free b false ≡ true → AreValues device marks (set free b false) opened target
  taken_sound b was = record {
    pages = sound.pages;
    blocks = length-set free b false ∙ sound.blocks;
    region = λ k h. sound.region k (free_before free b k was h);
    dead = λ p h. sound.dead p (free_before free b (p / 32) was h);
    outside = sound.outside;
    opened_is = λ f e. record { value = (sound.opened_is f e).value; taken = taken_still free b f.block was (sound.opened_is f e).taken; within = (sound.opened_is f e).within };
    target_is = λ f e. record { value = (sound.target_is f e).value; taken = taken_still free b f.block was (sound.target_is f e).taken; within = (sound.target_is f e).within };
    apart = sound.apart;
  }

  -- another block is open
  pub opened_sound : (f : Filling) → IsFilling device free f → ((g : Filling) → target ≡ Some g → f.block ≡ g.block → ⊥) → AreValues device marks free (Some f) target
  opened_sound f is apart = record {
    pages = sound.pages;
    blocks = sound.blocks;
    region = sound.region;
    dead = sound.dead;
    outside = sound.outside;
    opened_is = λ g e. let same : f ≡ g = cc in subst (IsFilling device free) same is;
    target_is = sound.target_is;
    apart = λ g h e t. let same : f ≡ g = cc in λ q. apart h t (ap (λ (x : Filling). x.block) same ∙ q);
  }

  -- another block is copied into
  pub target_sound : (f : Filling) → IsFilling device free f → ((g : Filling) → opened ≡ Some g → g.block ≡ f.block → ⊥) → AreValues device marks free opened (Some f)
  target_sound f is apart = record {
    pages = sound.pages;
    blocks = sound.blocks;
    region = sound.region;
    dead = sound.dead;
    outside = sound.outside;
    opened_is = sound.opened_is;
    target_is = λ g e. let same : f ≡ g = cc in subst (IsFilling device free) same is;
    apart = λ g h e t. let same : f ≡ h = cc in λ q. apart g e (q ∙ sym (ap (λ (x : Filling). x.block) same));
  }

  -- the block copied into is the open one now
  pub moved_sound : AreValues device marks free target None
  moved_sound = record {
    pages = sound.pages;
    blocks = sound.blocks;
    region = sound.region;
    dead = sound.dead;
    outside = sound.outside;
    opened_is = sound.target_is;
    target_is = λ f e. absurd cc;
    apart = λ f g e t. absurd cc;
  }

  -- no block is copied into now
  pub dropped_sound : AreValues device marks free opened None
  dropped_sound = record {
    pages = sound.pages;
    blocks = sound.blocks;
    region = sound.region;
    dead = sound.dead;
    outside = sound.outside;
    opened_is = sound.opened_is;
    target_is = λ f e. absurd cc;
    apart = λ f g e t. absurd cc;
  }

  -- a block that isn't filled, with dead pages alone, is free now
  pub freed_sound : (b : ℕ) → IsValueBlock device b → is_in opened b ≡ false → is_in target b ≡ false → ((p : ℕ) → p / 32 ≡ b → is_live (get_or marks p Dead) ≡ false) → AreValues device marks (set free b true) opened target
  freed_sound b value not_opened not_target dead = record {
    pages = sound.pages;
    blocks = length-set free b true ∙ sound.blocks;
    region = λ k h. elim (cases_eq k b) [
      | inl e ↦ subst (IsValueBlock device) (sym e) value
      | inr ne ↦ sound.region k (sym (get_or-set_other free b k true false ne) ∙ h)
    ];
    dead = λ p h. elim (cases_eq (p / 32) b) [
      | inl e ↦ dead p e
      | inr ne ↦ sound.dead p (sym (get_or-set_other free b (p / 32) true false ne) ∙ h)
    ];
    outside = sound.outside;
    opened_is = λ f e. let q = sound.opened_is f e in record { value = q.value; taken = get_or-set_other free b f.block true false (apart_from opened f b e not_opened) ∙ q.taken; within = q.within };
    target_is = λ f e. let q = sound.target_is f e in record { value = q.value; taken = get_or-set_other free b f.block true false (apart_from target f b e not_target) ∙ q.taken; within = q.within };
    apart = sound.apart;
  }
