-- The first limit that is passed, by what was counted.
use Rattle.std.proofs.Common.{◌≡◌, ◌∙◌, ◌⊎◌, ℕ, zero, suc, ◌+◌, ◌<◌, ◌≤◌, Bool, true, false, not, ◌||◌, length, refl, sym, ap, subst, arith, inl, inr}
use Rattle.std.specs.Prelude.{nat_lt}
use Rattle.std.specs.List.{list_any, range_with_len}
use Rattle.std.proofs.lemmas.Bool.{or_parts, or_from, cases_lt, cases_eq, lt-ltb, le-ltb}
use Rattle.kv_nand.specs.Flash.{Image}
use Rattle.kssd_layout.specs.Numbers.{max_keys_in, max_pages_in}
use Rattle.kssd_model.specs.declared.anchor.Anchor.{Anchor}
use Rattle.kssd_image.specs.Stages.{shown_by}
use Rattle.kssd_image.specs.Whole.{keys_from_level, pages_named, leaves_a_block, HasRoom}
use Rattle.kssd_image.specs.Damages.{IsFirst, is_passed}
use Rattle.kssd_image.proofs.OneDamage.{none_passed}
use Rattle.kssd_recover.specs.declared.limits.Counts.{Counts}
use Rattle.kssd_recover.specs.Walk.{within_four_bytes}
use Rattle.kssd_recover.specs.Limits.{AreCounts}

-- ---- a range

pub none_more : (test : ℕ → Bool) (a n : ℕ) → list_any test (range_with_len a n) ≡ false → test (a + n) ≡ false → list_any test (range_with_len a (suc n)) ≡ false
none_more test a zero h here = or_from _ _ (ap test (let e : a ≡ a + 0 = omega arith in e) ∙ here) refl
none_more test a (suc n) h here =
    let p = or_parts (test a) (list_any test (range_with_len (a + 1) n)) h in
    or_from (test a) (list_any test (range_with_len (a + 1) (suc n))) p.0 (none_more test (a + 1) n p.1 (ap test (let e : a + 1 + n ≡ a + suc n = omega arith in e) ∙ here))

pub some_at : (test : ℕ → Bool) (a n b : ℕ) → a ≤ b → b < a + n → test b ≡ true → list_any test (range_with_len a n) ≡ true
some_at test a zero b le lt here = absurd (omega arith)
some_at test a (suc n) b le lt here = elim (cases_eq a b) [
  | inl e ↦ left (test a) (list_any test (range_with_len (a + 1) n)) (ap test e ∙ here)
  | inr ne ↦ right (test a) (list_any test (range_with_len (a + 1) n)) (some_at test (a + 1) n b (omega arith) (omega arith) here)
]
  where
    left : (x y : Bool) → x ≡ true → (x || y) ≡ true
    left true y e = refl
    left false y e = absurd cc

    right : (x y : Bool) → y ≡ true → (x || y) ≡ true
    right true y e = refl
    right false y e = e

-- ---- a limit

over : (most n : ℕ) → most < within_four_bytes n → nat_lt most n ≡ true
over most n h = lt-ltb most n (omega (arith, h))

at_most : (most n : ℕ) → most ≤ 68544 → within_four_bytes n ≤ most → n ≤ most
at_most most n few h = omega (arith, few, h)

one_more : (test : ℕ → Bool) (n : ℕ) → ((k : ℕ) → k < n → test k ≡ false) → test n ≡ false → (k : ℕ) → k < suc n → test k ≡ false
one_more test n before here k lt = elim (cases_lt k n) [
  | inl less ↦ before k less
  | inr le ↦ let e : k ≡ n = omega arith in ap test e ∙ here
]

none_before : (test : ℕ → Bool) (k : ℕ) → k < 0 → test k ≡ false
none_before test k lt = absurd (omega arith)

-- ---- what is within its limit

pub within_0 : (blocks : ℕ) (image : Image) (anchor : Anchor) (c : Counts) → blocks ≤ 2048 → AreCounts blocks image anchor c → c.keys ≤ max_keys_in blocks → length (shown_by image anchor) ≤ max_keys_in blocks
within_0 blocks image anchor c most are h = at_most (max_keys_in blocks) (length (shown_by image anchor)) (omega arith) (omega (arith, are.keys, h))

pub within_upper : (blocks : ℕ) (image : Image) (anchor : Anchor) (c : Counts) → blocks ≤ 2048 → AreCounts blocks image anchor c → c.upper ≤ max_keys_in blocks → keys_from_level image anchor 1 ≤ max_keys_in blocks
within_upper blocks image anchor c most are h = at_most (max_keys_in blocks) (keys_from_level image anchor 1) (omega arith) (omega (arith, are.upper, h))

pub within_levels : (blocks : ℕ) (image : Image) (anchor : Anchor) (c : Counts) → blocks ≤ 2048 → AreCounts blocks image anchor c → c.levels ≤ max_keys_in blocks → keys_from_level image anchor 0 ≤ max_keys_in blocks
within_levels blocks image anchor c most are h = at_most (max_keys_in blocks) (keys_from_level image anchor 0) (omega arith) (omega (arith, are.levels, h))

pub within_base : (blocks : ℕ) (image : Image) (anchor : Anchor) (c : Counts) → blocks ≤ 2048 → AreCounts blocks image anchor c → c.base ≤ max_keys_in blocks → keys_from_level image anchor 2 ≤ max_keys_in blocks
within_base blocks image anchor c most are h = at_most (max_keys_in blocks) (keys_from_level image anchor 2) (omega arith) (omega (arith, are.base, h))

-- ---- the first that is passed

clear_0 : (blocks : ℕ) (image : Image) (anchor : Anchor) (c : Counts) → blocks ≤ 2048 → AreCounts blocks image anchor c → c.keys ≤ max_keys_in blocks → is_passed blocks image anchor 0 ≡ false
unfolding is_passed
clear_0 blocks image anchor c most are h = le-ltb _ _ (within_0 blocks image anchor c most are h)

clear_1 : (blocks : ℕ) (image : Image) (anchor : Anchor) (c : Counts) → blocks ≤ 2048 → AreCounts blocks image anchor c → c.upper ≤ max_keys_in blocks → c.levels ≤ max_keys_in blocks → is_passed blocks image anchor 1 ≡ false
unfolding is_passed
clear_1 blocks image anchor c most are h g = or_from _ _ (le-ltb _ _ (within_upper blocks image anchor c most are h)) (le-ltb _ _ (within_levels blocks image anchor c most are g))

clear_2 : (blocks : ℕ) (image : Image) (anchor : Anchor) (c : Counts) → blocks ≤ 2048 → AreCounts blocks image anchor c → c.base ≤ max_keys_in blocks → is_passed blocks image anchor 2 ≡ false
unfolding is_passed
clear_2 blocks image anchor c most are h = le-ltb _ _ (within_base blocks image anchor c most are h)

clear_3 : (blocks : ℕ) (image : Image) (anchor : Anchor) (c : Counts) → AreCounts blocks image anchor c → c.pages ≤ max_pages_in blocks → is_passed blocks image anchor 3 ≡ false
unfolding is_passed
clear_3 blocks image anchor c are h = le-ltb _ _ (omega_le (max_pages_in blocks) c.pages (length (pages_named (shown_by image anchor))) are.pages h)
  where
    omega_le : (most n m : ℕ) → n ≡ m → n ≤ most → m ≤ most
    omega_le most n m e le = omega (arith, e, le)

pub first_0 : (blocks : ℕ) (image : Image) (anchor : Anchor) (c : Counts) → AreCounts blocks image anchor c → max_keys_in blocks < c.keys → IsFirst (is_passed blocks image anchor) 0
unfolding is_passed
first_0 blocks image anchor c are h = record {
  here = over (max_keys_in blocks) (length (shown_by image anchor)) (omega (arith, are.keys, h));
  earlier = none_before (is_passed blocks image anchor);
}

passed_1 : (blocks : ℕ) (image : Image) (anchor : Anchor) (c : Counts) → AreCounts blocks image anchor c → (max_keys_in blocks < c.upper) ⊎ (max_keys_in blocks < c.levels) → is_passed blocks image anchor 1 ≡ true
unfolding is_passed
passed_1 blocks image anchor c are h = elim h [
  | inl lt ↦ left _ _ (over (max_keys_in blocks) (keys_from_level image anchor 1) (omega (arith, are.upper, lt)))
  | inr lt ↦ right _ _ (over (max_keys_in blocks) (keys_from_level image anchor 0) (omega (arith, are.levels, lt)))
]
  where
    left : (x y : Bool) → x ≡ true → (x || y) ≡ true
    left true y e = refl
    left false y e = absurd cc

    right : (x y : Bool) → y ≡ true → (x || y) ≡ true
    right true y e = refl
    right false y e = e

pub first_1 : (blocks : ℕ) (image : Image) (anchor : Anchor) (c : Counts) → blocks ≤ 2048 → AreCounts blocks image anchor c → c.keys ≤ max_keys_in blocks → (max_keys_in blocks < c.upper) ⊎ (max_keys_in blocks < c.levels) → IsFirst (is_passed blocks image anchor) 1
first_1 blocks image anchor c most are keys h =
    let test = is_passed blocks image anchor in
    record { here = passed_1 blocks image anchor c are h; earlier = one_more test 0 (none_before test) (clear_0 blocks image anchor c most are keys) }

passed_2 : (blocks : ℕ) (image : Image) (anchor : Anchor) (c : Counts) → AreCounts blocks image anchor c → max_keys_in blocks < c.base → is_passed blocks image anchor 2 ≡ true
unfolding is_passed
passed_2 blocks image anchor c are h = over (max_keys_in blocks) (keys_from_level image anchor 2) (omega (arith, are.base, h))

before_2 : (blocks : ℕ) (image : Image) (anchor : Anchor) (c : Counts) → blocks ≤ 2048 → AreCounts blocks image anchor c → c.keys ≤ max_keys_in blocks → c.upper ≤ max_keys_in blocks → c.levels ≤ max_keys_in blocks → (k : ℕ) → k < 2 → is_passed blocks image anchor k ≡ false
before_2 blocks image anchor c most are keys upper levels =
    let test = is_passed blocks image anchor in
    one_more test 1 (one_more test 0 (none_before test) (clear_0 blocks image anchor c most are keys)) (clear_1 blocks image anchor c most are upper levels)

pub first_2 : (blocks : ℕ) (image : Image) (anchor : Anchor) (c : Counts) → blocks ≤ 2048 → AreCounts blocks image anchor c → c.keys ≤ max_keys_in blocks → c.upper ≤ max_keys_in blocks → c.levels ≤ max_keys_in blocks → max_keys_in blocks < c.base → IsFirst (is_passed blocks image anchor) 2
first_2 blocks image anchor c most are keys upper levels h = record { here = passed_2 blocks image anchor c are h; earlier = before_2 blocks image anchor c most are keys upper levels }

passed_3 : (blocks : ℕ) (image : Image) (anchor : Anchor) (c : Counts) → AreCounts blocks image anchor c → max_pages_in blocks < c.pages → is_passed blocks image anchor 3 ≡ true
unfolding is_passed
passed_3 blocks image anchor c are h = lt-ltb _ _ (omega_lt (max_pages_in blocks) c.pages (length (pages_named (shown_by image anchor))) are.pages h)
  where
    omega_lt : (most n m : ℕ) → n ≡ m → most < n → most < m
    omega_lt most n m e lt = omega (arith, e, lt)

pub first_3 : (blocks : ℕ) (image : Image) (anchor : Anchor) (c : Counts) → blocks ≤ 2048 → AreCounts blocks image anchor c → c.keys ≤ max_keys_in blocks → c.upper ≤ max_keys_in blocks → c.levels ≤ max_keys_in blocks → c.base ≤ max_keys_in blocks → max_pages_in blocks < c.pages → IsFirst (is_passed blocks image anchor) 3
first_3 blocks image anchor c most are keys upper levels base h =
    let test = is_passed blocks image anchor in
    record { here = passed_3 blocks image anchor c are h; earlier = one_more test 2 (before_2 blocks image anchor c most are keys upper levels) (clear_2 blocks image anchor c most are base) }

spare_is : (blocks : ℕ) (image : Image) (anchor : Anchor) (c : Counts) → AreCounts blocks image anchor c → c.is_spare ≡ leaves_a_block blocks (shown_by image anchor)
unfolding leaves_a_block
spare_is blocks image anchor c are = are.spare

passed_4 : (blocks : ℕ) (image : Image) (anchor : Anchor) (c : Counts) → AreCounts blocks image anchor c → c.is_spare ≡ false → is_passed blocks image anchor 4 ≡ true
unfolding is_passed
passed_4 blocks image anchor c are h = ap not (sym (spare_is blocks image anchor c are) ∙ h)

pub first_4 : (blocks : ℕ) (image : Image) (anchor : Anchor) (c : Counts) → blocks ≤ 2048 → AreCounts blocks image anchor c → c.keys ≤ max_keys_in blocks → c.upper ≤ max_keys_in blocks → c.levels ≤ max_keys_in blocks → c.base ≤ max_keys_in blocks → c.pages ≤ max_pages_in blocks → c.is_spare ≡ false → IsFirst (is_passed blocks image anchor) 4
first_4 blocks image anchor c most are keys upper levels base pages h =
    let test = is_passed blocks image anchor in
    record { here = passed_4 blocks image anchor c are h; earlier = one_more test 3 (one_more test 2 (before_2 blocks image anchor c most are keys upper levels) (clear_2 blocks image anchor c most are base)) (clear_3 blocks image anchor c are pages) }

pub none_is_passed : (blocks : ℕ) (image : Image) (anchor : Anchor) (c : Counts) → blocks ≤ 2048 → AreCounts blocks image anchor c → c.keys ≤ max_keys_in blocks → c.upper ≤ max_keys_in blocks → c.levels ≤ max_keys_in blocks → c.base ≤ max_keys_in blocks → c.pages ≤ max_pages_in blocks → c.is_spare ≡ true → (limit : ℕ) → is_passed blocks image anchor limit ≡ false
none_is_passed blocks image anchor c most are keys upper levels base pages spare limit =
    let room : HasRoom blocks image anchor = record {
      keys = within_0 blocks image anchor c most are keys;
      levels = within_levels blocks image anchor c most are levels;
      upper = within_upper blocks image anchor c most are upper;
      base = within_base blocks image anchor c most are base;
      pages = subst (λ (n : ℕ). n ≤ max_pages_in blocks) are.pages pages;
    } in
    none_passed blocks image (record { page = 0; anchor = anchor }) limit room (sym (spare_is blocks image anchor c are) ∙ spare)
