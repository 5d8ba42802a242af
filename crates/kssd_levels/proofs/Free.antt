-- The blocks of runs that no run has.
use Rattle.std.proofs.Common.{◌≡◌, ◌∙◌, ℕ, zero, suc, ◌+◌, ◌-◌, ◌<◌, ◌≤◌, Bool, true, false, cond, not, ◌||◌, ltb, List, [], ◌∷◌, ◌++◌, length, take, refl, sym, ap, arith}
use Rattle.std.specs.Prelude.{nat_eq, filter}
use Rattle.std.specs.List.{All, AllByRecursion, IsDistinct, list_any, range_with_len}
use Rattle.std.proofs.lemmas.Bool.{ne_eqb, eqb-true, le-ltb, lt-ltb}
use Rattle.std.proofs.lemmas.List.{take_all, take_at, length-take}
use Rattle.std.proofs.lemmas.List.Elements.{All-filter, filter-append}
use Rattle.std.proofs.lemmas.List.FromFn.{length-range_with_len, get_or-range_with_len}
use Rattle.kssd_layout.specs.Numbers.{region_in, run_blocks_in, first_value_block_in}
use Rattle.kssd_layout.specs.declared.region.Region.TheVariants.{Anchor, Log, Run, Value}
use Rattle.kssd_model.specs.RunPages.{AreRunBlocks}
use Rattle.kssd_run.proofs.RunBlocks.{first_run_blocks}
use Rattle.kssd_levels.specs.Runs.{has_block}

-- the free blocks of these
abbrev pub free_in : List ℕ → List ℕ → List ℕ
free_in named blocks = filter (λ block. not (has_block named block)) blocks

pub range_split : (a n m : ℕ) → range_with_len a (n + m) ≡ range_with_len a n ++ range_with_len (a + n) m
range_split a zero m =
    let e : 0 + m ≡ m = omega arith in
    let f : a + 0 ≡ a = omega arith in
    ap (range_with_len a) e ∙ ap (λ (b : ℕ). range_with_len b m) (sym f)
range_split a (suc n) m =
    let e : suc n + m ≡ suc (n + m) = omega arith in
    let f : a + 1 + n ≡ a + suc n = omega arith in
    ap (range_with_len a) e
    ∙ ap (λ (xs : List ℕ). a ∷ xs) (range_split (a + 1) n m)
    ∙ ap (λ (b : ℕ). a ∷ (range_with_len (a + 1) n ++ range_with_len b m)) f

-- one block more was looked at
pub free_more : (named : List ℕ) (n block : ℕ) → block ≡ 20 + n → free_in named (range_with_len 20 (n + 1)) ≡ free_in named (range_with_len 20 n) ++ cond (not (has_block named block)) (block ∷ []) []
free_more named n block e =
    ap (free_in named) (range_split 20 n 1)
    ∙ filter-append (λ (b : ℕ). not (has_block named b)) (range_with_len 20 n) (range_with_len (20 + n) 1)
    ∙ ap (λ (b : ℕ). free_in named (range_with_len 20 n) ++ cond (not (has_block named b)) (b ∷ []) []) (sym e)

-- those of the first blocks are the first
pub free_first : (named : List ℕ) (n m count : ℕ) (blocks : List ℕ) → n ≤ m → blocks ≡ free_in named (range_with_len 20 n) → length blocks ≡ count → blocks ≡ take count (free_in named (range_with_len 20 m))
free_first named n m count blocks le is len =
    let e : n + (m - n) ≡ m = omega arith in
    sym (
    ap (λ (k : ℕ). take count (free_in named (range_with_len 20 k))) (sym e)
    ∙ ap (λ (xs : List ℕ). take count (free_in named xs)) (range_split 20 n (m - n))
    ∙ ap (take count) (filter-append (λ (b : ℕ). not (has_block named b)) (range_with_len 20 n) (range_with_len (20 + n) (m - n)))
    ∙ ap (λ (xs : List ℕ). take count (xs ++ free_in named (range_with_len (20 + n) (m - n)))) (sym is)
    ∙ take_at blocks (free_in named (range_with_len (20 + n) (m - n))) count len
    )

pub all_free : (named : List ℕ) (m count : ℕ) (blocks : List ℕ) → blocks ≡ free_in named (range_with_len 20 m) → length blocks ≤ count → blocks ≡ take count (free_in named (range_with_len 20 m))
all_free named m count blocks is le = is ∙ sym (take_all count (free_in named (range_with_len 20 m)) (omega (arith, ap length is)))

-- ---- what holds of them

all_above : (a k n : ℕ) → a < k → AllByRecursion (λ y. nat_eq a y ≡ false) (range_with_len k n)
all_above a k zero lt = tt
all_above a k (suc n) lt = (ne_eqb a k (λ e. omega arith), all_above a (k + 1) n (omega arith))

all_kept : (P : ℕ → Type 0) (p : ℕ → Bool) (xs : List ℕ) → AllByRecursion P xs → AllByRecursion P (filter p xs)
all_kept P p [] h = tt
all_kept P p (x ∷ xs) h = by (p x) (all_kept P p xs h.1)
  where
    by : (b : Bool) → AllByRecursion P (filter p xs) → AllByRecursion P (cond b (x ∷ filter p xs) (filter p xs))
    by true rest = (h.0, rest)
    by false rest = rest

distinct_kept : (p : ℕ → Bool) (a n : ℕ) → IsDistinct nat_eq (filter p (range_with_len a n))
unfolding IsDistinct
distinct_kept p a zero = tt
distinct_kept p a (suc n) = by (p a) (distinct_kept p (a + 1) n)
  where
    by : (b : Bool) → IsDistinct nat_eq (filter p (range_with_len (a + 1) n)) → IsDistinct nat_eq (cond b (a ∷ filter p (range_with_len (a + 1) n)) (filter p (range_with_len (a + 1) n)))
    by true rest = (all_kept (λ y. nat_eq a y ≡ false) p (range_with_len (a + 1) n) (all_above a (a + 1) n (omega arith)), rest)
    by false rest = rest

pub in_region : (device block : ℕ) → 20 ≤ block → block < first_value_block_in device → region_in device block ≡ Run
in_region device block least most =
    let p : ltb block 2 ≡ false = le-ltb block 2 (omega arith) in
    let q : ltb block 20 ≡ false = le-ltb block 20 least in
    let r : ltb block (first_value_block_in device) ≡ true = lt-ltb block (first_value_block_in device) most in
    λ i. cond (p i) Anchor (cond (q i) Log (cond (r i) Run Value))

range_region : (device : ℕ) → All (λ block. region_in device block ≡ Run) (range_with_len 20 (run_blocks_in device))
range_region device k d lt =
    let within : k < run_blocks_in device = omega (arith, length-range_with_len 20 (run_blocks_in device)) in
    ap (region_in device) (get_or-range_with_len 20 (run_blocks_in device) k d within)
    ∙ in_region device (20 + k) (omega arith) (omega arith)

pub free_run_blocks : (device count : ℕ) (named : List ℕ) → AreRunBlocks device (take count (free_in named (range_with_len 20 (run_blocks_in device))))
free_run_blocks device count named =
    first_run_blocks device count (free_in named (range_with_len 20 (run_blocks_in device))) (record {
      distinct = distinct_kept (λ block. not (has_block named block)) 20 (run_blocks_in device);
      region = λ i lt. All-filter (λ block. not (has_block named block)) (λ block. region_in device block ≡ Run) (range_with_len 20 (run_blocks_in device)) (range_region device) i 0 lt;
    })

pub any_taken : (q : ℕ → Bool) (n : ℕ) (xs : List ℕ) → list_any q (take n xs) ≡ true → list_any q xs ≡ true
any_taken q zero xs h = absurd cc
any_taken q (suc n) [] h = absurd cc
any_taken q (suc n) (x ∷ xs) h = by (any_taken q n xs) (q x) h
  where
    by : (list_any q (take n xs) ≡ true → list_any q xs ≡ true) → (b : Bool) → (b || list_any q (take n xs)) ≡ true → (b || list_any q xs) ≡ true
    by rest true h = refl
    by rest false h = rest h

passes : (p : ℕ → Bool) (b : ℕ) (xs : List ℕ) → list_any (nat_eq b) (filter p xs) ≡ true → p b ≡ true
passes p b [] h = absurd cc
passes p b (x ∷ xs) h = by (passes p b xs) (p x) refl h
  where
    one : (list_any (nat_eq b) (filter p xs) ≡ true → p b ≡ true) → (t : Bool) → nat_eq b x ≡ t → p x ≡ true → (t || list_any (nat_eq b) (filter p xs)) ≡ true → p b ≡ true
    one rest true same e h = ap p (eqb-true b x same) ∙ e
    one rest false same e h = rest h

    by : (list_any (nat_eq b) (filter p xs) ≡ true → p b ≡ true) → (t : Bool) → p x ≡ t → list_any (nat_eq b) (cond t (x ∷ filter p xs) (filter p xs)) ≡ true → p b ≡ true
    by rest true e h = one rest (nat_eq b x) refl e h
    by rest false e h = rest h

none_of : (b : Bool) → not b ≡ true → b ≡ false
none_of true h = absurd cc
none_of false h = refl

pub free_apart : (named blocks : List ℕ) (count block : ℕ) → has_block (take count (free_in named blocks)) block ≡ true → has_block named block ≡ false
free_apart named blocks count block h = none_of _ (passes (λ b. not (has_block named b)) block blocks (any_taken (nat_eq block) count (free_in named blocks) h))

-- ---- enough are free

pub free_length : (named blocks : List ℕ) (count : ℕ) → count ≤ length (free_in named blocks) → length (take count (free_in named blocks)) ≡ count
free_length named blocks count le = omega (arith, length-take count (free_in named blocks))
