-- Numbers that differ.
use Rattle.std.proofs.Common.{◌≡◌, ◌∙◌, ℕ, Bool, true, false, ◌||◌, List, [], ◌∷◌, ◌++◌, refl, sym, ap, arith}
use Rattle.std.specs.Prelude.{nat_eq}
use Rattle.std.specs.List.{list_any, AllByRecursion, IsDistinct}
use Rattle.std.proofs.lemmas.Bool.Decides.{nat_tests}
use Rattle.kssd_levels.specs.Runs.{has_block}

all_first : (P : ℕ → Type 0) (xs ys : List ℕ) → AllByRecursion P (xs ++ ys) → AllByRecursion P xs
all_first P [] ys h = tt
all_first P (x ∷ xs) ys h = (h.0, all_first P xs ys h.1)

all_second : (P : ℕ → Type 0) (xs ys : List ℕ) → AllByRecursion P (xs ++ ys) → AllByRecursion P ys
all_second P [] ys h = h
all_second P (x ∷ xs) ys h = all_second P xs ys h.1

all_join : (P : ℕ → Type 0) (xs ys : List ℕ) → AllByRecursion P xs → AllByRecursion P ys → AllByRecursion P (xs ++ ys)
all_join P [] ys h g = g
all_join P (x ∷ xs) ys h g = (h.0, all_join P xs ys h.1 g)

or_none : (a b : Bool) → (a || b) ≡ false → (a ≡ false) × (b ≡ false)
or_none true b h = absurd cc
or_none false b h = (refl, h)

-- what isn't among others differs from each
pub other_than_all : (x : ℕ) (ys : List ℕ) → has_block ys x ≡ false → AllByRecursion (λ y. nat_eq x y ≡ false) ys
other_than_all x [] h = tt
other_than_all x (y ∷ ys) h = let p = or_none _ _ h in (p.0, other_than_all x ys p.1)

pub distinct_first : (xs ys : List ℕ) → IsDistinct nat_eq (xs ++ ys) → IsDistinct nat_eq xs
unfolding IsDistinct
distinct_first [] ys h = tt
distinct_first (x ∷ xs) ys h = (all_first (λ y. nat_eq x y ≡ false) xs ys h.0, distinct_first xs ys h.1)

pub distinct_second : (xs ys : List ℕ) → IsDistinct nat_eq (xs ++ ys) → IsDistinct nat_eq ys
unfolding IsDistinct
distinct_second [] ys h = h
distinct_second (x ∷ xs) ys h = distinct_second xs ys h.1

same_number : (x : ℕ) → nat_eq x x ≡ true
same_number x = grind (arith, nat_tests)

here : (x : ℕ) (xs : List ℕ) → has_block (x ∷ xs) x ≡ true
here x xs = ap (λ b. b || list_any (nat_eq x) xs) (same_number x)

there : (a b : Bool) → b ≡ true → (a || b) ≡ true
there true b h = refl
there false b h = h

-- two lists of different numbers with none in common
pub distinct_join : (xs ys : List ℕ) → IsDistinct nat_eq xs → IsDistinct nat_eq ys → ((x : ℕ) → has_block xs x ≡ true → has_block ys x ≡ false) → IsDistinct nat_eq (xs ++ ys)
unfolding IsDistinct
distinct_join [] ys h g apart = g
distinct_join (x ∷ xs) ys h g apart = (
  all_join (λ y. nat_eq x y ≡ false) xs ys h.0 (other_than_all x ys (apart x (here x xs))),
  distinct_join xs ys h.1 g (λ z lt. apart z (there _ _ lt)),
)

not_both : (a b : Bool) → (a ≡ true → b ≡ false) → b ≡ true → a ≡ false
not_both true b f h = absurd (let e : true ≡ false = sym h ∙ f refl in cc)
not_both false b f h = refl

-- what is apart is so both ways
pub apart_back : (xs ys : List ℕ) → ((x : ℕ) → has_block xs x ≡ true → has_block ys x ≡ false) → (x : ℕ) → has_block ys x ≡ true → has_block xs x ≡ false
apart_back xs ys apart x h = not_both (has_block xs x) (has_block ys x) (apart x) h
