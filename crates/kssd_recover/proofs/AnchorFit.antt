-- The tests of an anchor say what a mount demands of it.
use Rattle.std.proofs.Common.{◌≡◌, ◌∙◌, ◌↔◌, ℕ, suc, ◌<◌, ◌≤◌, ◌^◌, Bool, true, false, not, ◌&&◌, cond, eqb, List, [], ◌∷◌, refl, sym, ap, arith}
use Rattle.std.specs.Prelude.{nat_eq, nat_le, nat_lt, IsTrue}
use Rattle.std.specs.List.{All, AllPairs, AllByRecursion, IsDistinct, list_all, list_any}
use Rattle.std.proofs.lemmas.Bool.{and_parts, and_from, or_parts, or_from, not-true, leb-true, le-leb, ltb-true, lt-ltb, eqb-true, eq-eqb}
use Rattle.std.proofs.lemmas.Bool.Decides.{nat_tests}
use Rattle.std.proofs.lemmas.List.Elements.{All-nil, All-cons, All-head, All-tail}
use Rattle.std.proofs.lemmas.List.Kept.{AllPairs-cons}
use Rattle.kssd_layout.specs.declared.region.Region.TheVariants.{Anchor, Log, Run, Value}
use Rattle.kssd_layout.specs.Numbers.{region_in, first_value_block_in}
use Rattle.kssd_model.specs.declared.runs.RunInfo.{RunInfo}
use Rattle.kssd_model.specs.declared.anchor.Anchor as model
use Rattle.kssd_levels.proofs.Free.{in_region}
use Rattle.kssd_image.specs.AnchorForm.{IsRunForm, AreOnLevels, count_on, run_numbers, blocks_of, greatest, HasLowNumbers}
use Rattle.kssd_image.specs.Damages.{IsAnchorFit}
use Rattle.kssd_recover.specs.Anchor.{are_distinct, is_run_block, has_form, leads, are_in_order, are_on_levels, are_runs_fit, has_low_numbers, has_place, is_fit}

-- ---- each of a list

all_told : {X : Type 0} → (test : X → Bool) (P : X → Type 0) → ((x : X) → test x ≡ true → P x) → (xs : List X) → list_all test xs ≡ true → All P xs
all_told test P told [] h = All-nil P
all_told test P told (x ∷ xs) h = let p = and_parts _ _ h in All-cons P x xs (told x p.0) (all_told test P told xs p.1)

all_again : {X : Type 0} → (test : X → Bool) (P : X → Type 0) → ((x : X) → P x → test x ≡ true) → (xs : List X) → All P xs → list_all test xs ≡ true
all_again test P again [] h = refl
all_again test P again (x ∷ xs) h = and_from _ _ (again x (All-head P x xs h)) (all_again test P again xs (All-tail P x xs h))

-- ---- numbers that differ

apart_told : (n : ℕ) (ns : List ℕ) → list_any (nat_eq n) ns ≡ false → AllByRecursion (λ m. eqb n m ≡ false) ns
apart_told n [] h = tt
apart_told n (m ∷ ns) h = let p = or_parts (eqb n m) (list_any (nat_eq n) ns) h in (p.0, apart_told n ns p.1)

apart_again : (n : ℕ) (ns : List ℕ) → AllByRecursion (λ m. eqb n m ≡ false) ns → list_any (nat_eq n) ns ≡ false
apart_again n [] h = refl
apart_again n (m ∷ ns) h = or_from _ _ h.0 (apart_again n ns h.1)

distinct_told : (ns : List ℕ) → are_distinct ns ≡ true → IsDistinct nat_eq ns
unfolding IsDistinct
distinct_told [] h = tt
distinct_told (n ∷ ns) h = let p = and_parts _ _ h in (apart_told n ns (not-true _ p.0), distinct_told ns p.1)

distinct_again : (ns : List ℕ) → IsDistinct nat_eq ns → are_distinct ns ≡ true
unfolding IsDistinct
distinct_again [] h = refl
distinct_again (n ∷ ns) h = and_from _ _ (ap not (apart_again n ns h.0)) (distinct_again ns h.1)

-- ---- a run

run_block_told : (blocks block : ℕ) → is_run_block blocks block ≡ true → region_in blocks block ≡ Run
run_block_told blocks block h = let p = and_parts _ _ h in in_region blocks block (leb-true _ _ p.0) (ltb-true _ _ p.1)

run_block_again : (blocks block : ℕ) → region_in blocks block ≡ Run → is_run_block blocks block ≡ true
run_block_again blocks block h = by (nat_lt block 2) (nat_lt block 20) (nat_lt block (first_value_block_in blocks)) refl refl h
  where
    by : (anchor log run : Bool) → nat_lt block 20 ≡ log → nat_lt block (first_value_block_in blocks) ≡ run → cond anchor Anchor (cond log Log (cond run Run Value)) ≡ Run → is_run_block blocks block ≡ true
    by true log run ring runs e = absurd cc
    by false true run ring runs e = absurd cc
    by false false false ring runs e = absurd cc
    by false false true ring runs e = and_from _ _ (grind (arith, nat_tests)) runs

form_told : (blocks : ℕ) (run : RunInfo) → has_form blocks run ≡ true → IsRunForm blocks run
form_told blocks run h =
    let a = and_parts _ _ h in
    let b = and_parts _ _ a.1 in
    let c = and_parts _ _ b.1 in
    let d = and_parts _ _ c.1 in
    let e = and_parts _ _ d.1 in
    record {
      entries_some = leb-true _ _ a.0;
      entries_most = leb-true _ _ b.0;
      pages_some = leb-true _ _ c.0;
      pages_most = leb-true _ _ d.0;
      block_count = eqb-true _ _ e.0;
      region = all_told (is_run_block blocks) (λ block. region_in blocks block ≡ Run) (run_block_told blocks) run.blocks e.1;
    }

form_again : (blocks : ℕ) (run : RunInfo) → IsRunForm blocks run → has_form blocks run ≡ true
form_again blocks run f =
    and_from _ _ (le-leb _ _ f.entries_some) (and_from _ _ (le-leb _ _ f.entries_most) (and_from _ _ (le-leb _ _ f.pages_some) (and_from _ _ (le-leb _ _ f.pages_most)
    (and_from _ _ (eq-eqb _ _ f.block_count) (all_again (is_run_block blocks) (λ block. region_in blocks block ≡ Run) (run_block_again blocks) run.blocks f.region)))))

-- ---- levels

abbrev Precedes : RunInfo → RunInfo → Type 0
Precedes run later = run.level ≤ later.level

known_told : (runs : List RunInfo) → are_in_order runs ≡ true → All (λ run. run.level ≤ 2) runs
known_told [] h = All-nil (λ run. run.level ≤ 2)
known_told (run ∷ runs) h =
    let p = and_parts (leads run runs) (are_in_order runs) h in
    All-cons (λ run. run.level ≤ 2) run runs (leb-true _ _ (and_parts _ _ p.0).0) (known_told runs p.1)

order_told : (runs : List RunInfo) → are_in_order runs ≡ true → AllPairs Precedes runs
order_told [] h = λ i j d less lt. absurd (omega arith)
order_told (run ∷ runs) h =
    let p = and_parts (leads run runs) (are_in_order runs) h in
    AllPairs-cons Precedes run runs (all_told (λ other. nat_le run.level other.level) (Precedes run) (λ other e. leb-true _ _ e) runs (and_parts _ _ p.0).1) (order_told runs p.1)

order_again : (runs : List RunInfo) → All (λ run. run.level ≤ 2) runs → AllPairs Precedes runs → are_in_order runs ≡ true
order_again [] known order = refl
order_again (run ∷ runs) known order =
    let first : All (Precedes run) runs = λ k d lt. order 0 (suc k) d (omega arith) (omega arith) in
    and_from (leads run runs) (are_in_order runs)
    (and_from _ _ (le-leb _ _ (All-head (λ run. run.level ≤ 2) run runs known)) (all_again (λ other. nat_le run.level other.level) (Precedes run) (λ other e. le-leb _ _ e) runs first))
    (order_again runs (All-tail (λ run. run.level ≤ 2) run runs known) (λ i j d less lt. order (suc i) (suc j) d (omega arith) (omega arith)))

levels_told : (runs : List RunInfo) → are_on_levels runs ≡ true → AreOnLevels runs
levels_told runs h =
    let a = and_parts (are_in_order runs) _ h in
    let b = and_parts (nat_le (count_on 0 runs) 4) _ a.1 in
    let c = and_parts (nat_le (count_on 1 runs) 1) _ b.1 in
    record { known = known_told runs a.0; order = order_told runs a.0; level_0 = leb-true _ _ b.0; level_1 = leb-true _ _ c.0; base = leb-true _ _ c.1 }

levels_again : (runs : List RunInfo) → AreOnLevels runs → are_on_levels runs ≡ true
levels_again runs l =
    and_from (are_in_order runs) _ (order_again runs l.known l.order) (and_from _ _ (le-leb _ _ l.level_0) (and_from _ _ (le-leb _ _ l.level_1) (le-leb _ _ l.base)))

-- ---- numbers

greatest_below : (limit : ℕ) (ns : List ℕ) → 0 < limit → All (λ n. n < limit) ns → greatest ns < limit
greatest_below limit [] some all = some
greatest_below limit (n ∷ ns) some all =
    let first = All-head (λ n. n < limit) n ns all in
    let rest = greatest_below limit ns some (All-tail (λ n. n < limit) n ns all) in
    omega (arith, first, rest)

all_below : (next limit : ℕ) (ns : List ℕ) → next < limit → All (λ n. n < next) ns → All (λ n. n < limit) ns
all_below next limit ns lt all = λ k d within. omega (arith, lt, all k d within)

low_told : (anchor : model.Anchor) → has_low_numbers anchor ≡ true → HasLowNumbers anchor × All (λ number. number < anchor.next_run) (run_numbers anchor.runs)
low_told anchor h =
    let a = and_parts (nat_lt anchor.number (2 ^ 62)) _ h in
    let b = and_parts (nat_lt anchor.next_run (2 ^ 62)) _ a.1 in
    let c = and_parts (nat_lt anchor.log_seq (2 ^ 62)) _ b.1 in
    let number = ltb-true _ _ a.0 in
    let next = ltb-true _ _ b.0 in
    let seq = ltb-true _ _ c.0 in
    let numbers = all_told (λ number. nat_lt number anchor.next_run) (λ number. number < anchor.next_run) (λ n e. ltb-true _ _ e) (run_numbers anchor.runs) c.1 in
    let rest = greatest_below (2 ^ 62) (run_numbers anchor.runs) (omega arith) (all_below anchor.next_run (2 ^ 62) (run_numbers anchor.runs) next numbers) in
    (omega (arith, number, next, seq, rest), numbers)

low_again : (anchor : model.Anchor) → HasLowNumbers anchor → All (λ number. number < anchor.next_run) (run_numbers anchor.runs) → has_low_numbers anchor ≡ true
low_again anchor low numbers =
    let number : anchor.number < 2 ^ 62 = omega (arith, low) in
    let next : anchor.next_run < 2 ^ 62 = omega (arith, low) in
    let seq : anchor.log_seq < 2 ^ 62 = omega (arith, low) in
    and_from _ _ (lt-ltb _ _ number) (and_from _ _ (lt-ltb _ _ next) (and_from _ _ (lt-ltb _ _ seq)
    (all_again (λ number. nat_lt number anchor.next_run) (λ number. number < anchor.next_run) (λ n e. lt-ltb _ _ e) (run_numbers anchor.runs) numbers)))

-- ---- the anchor

pub fit_told : (blocks : ℕ) (anchor : model.Anchor) → is_fit blocks anchor ≡ true → IsAnchorFit blocks anchor
unfolding is_fit
fit_told blocks anchor h =
    let a = and_parts (has_place blocks anchor && (has_low_numbers anchor && are_runs_fit blocks anchor.runs)) _ h in
    let b = and_parts (has_place blocks anchor) _ a.0 in
    let c = and_parts (has_low_numbers anchor) _ b.1 in
    let d = and_parts (are_distinct (run_numbers anchor.runs)) _ a.1 in
    let place = and_parts _ _ b.0 in
    let ring = and_parts _ _ place.1 in
    let low = low_told anchor c.0 in
    let runs = and_parts (are_on_levels anchor.runs) _ c.1 in
    record {
      form = record {
        device = eqb-true _ _ place.0;
        log_low = leb-true _ _ ring.0;
        log_high = leb-true _ _ ring.1;
        levels = levels_told anchor.runs runs.0;
        runs = all_told (has_form blocks) (IsRunForm blocks) (form_told blocks) anchor.runs runs.1;
        blocks_differ = distinct_told (blocks_of anchor.runs) d.1;
        numbers_differ = distinct_told (run_numbers anchor.runs) d.0;
        numbers_low = low.1;
      };
      numbers = low.0;
    }

pub fit_again : (blocks : ℕ) (anchor : model.Anchor) → IsAnchorFit blocks anchor → is_fit blocks anchor ≡ true
unfolding is_fit
fit_again blocks anchor fit =
    let f = fit.form in
    and_from _ _
    (and_from _ _ (and_from _ _ (eq-eqb _ _ f.device) (and_from _ _ (le-leb _ _ f.log_low) (le-leb _ _ f.log_high)))
    (and_from _ _ (low_again anchor fit.numbers f.numbers_low)
    (and_from _ _ (levels_again anchor.runs f.levels) (all_again (has_form blocks) (IsRunForm blocks) (form_again blocks) anchor.runs f.runs))))
    (and_from _ _ (distinct_again (run_numbers anchor.runs) f.numbers_differ) (distinct_again (blocks_of anchor.runs) f.blocks_differ))

-- the test tells exactly whether the anchor is fit
pub fit_is : (blocks : ℕ) (anchor : model.Anchor) (fit : Bool) → fit ≡ is_fit blocks anchor → IsTrue fit ↔ IsAnchorFit blocks anchor
fit_is blocks anchor fit is = (λ e. fit_told blocks anchor (sym is ∙ e), λ f. is ∙ fit_again blocks anchor f)
