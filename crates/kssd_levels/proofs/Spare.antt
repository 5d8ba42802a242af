-- Enough blocks are free for each job.
use Rattle.std.proofs.Common.{◌≡◌, ◌∙◌, ℕ, zero, suc, ◌+◌, ◌*◌, ◌<◌, ◌≤◌, Bool, true, false, cond, not, ◌||◌, List, [], ◌∷◌, ◌++◌, length, refl, sym, ap, subst, arith, length-append}
use Rattle.std.specs.Prelude.{nat_eq}
use Rattle.std.specs.List.{All, range_with_len}
use Rattle.std.proofs.lemmas.Bool.{ne_eqb, eqb-true}
use Rattle.std.proofs.lemmas.List.{map-append}
use Rattle.std.proofs.lemmas.List.Sums.{sum_by-append}
use Rattle.kssd_layout.specs.Numbers.{run_blocks_in, max_keys_in}
use Rattle.kssd_layout.specs.Laws.{blocks_for}
use Rattle.kssd_image.specs.AnchorForm.{IsRunForm, most_entries}
use Rattle.kssd_run.specs.declared.reader.Run.{Run}
use Rattle.kssd_run.specs.Run.{run_info}
use Rattle.kssd_levels.specs.declared.levels.Levels.{Levels}
use Rattle.kssd_levels.specs.Runs.{infos_in, blocks_in, has_block}
use Rattle.kssd_levels.specs.Levels.{first_entries, named_blocks}
use Rattle.kssd_levels.specs.Laws.{entries_in, JobBlocksSuffice}
use Rattle.kssd_levels.proofs.Free.{free_in}
use Rattle.kssd_levels.proofs.Installing.{Facts, facts_first, facts_second}

-- ---- how many are free

step : (b : Bool) (x : ℕ) (xs : List ℕ) → length (cond b (x ∷ xs) xs) ≡ cond b 1 0 + length xs
step true x xs = let e : suc (length xs) ≡ 1 + length xs = omega arith in e
step false x xs = let e : length xs ≡ 0 + length xs = omega arith in e

-- above a block that is named, nothing is lost by it
none_lost : (x a n : ℕ) (named : List ℕ) → x < a → length (free_in (x ∷ named) (range_with_len a n)) ≡ length (free_in named (range_with_len a n))
none_lost x a zero named lt = refl
none_lost x a (suc n) named lt =
    let here : (not (nat_eq a x || has_block named a)) ≡ not (has_block named a) = ap (λ b. not (b || has_block named a)) (ne_eqb a x (λ e. omega arith)) in
    step (not (nat_eq a x || has_block named a)) a (free_in (x ∷ named) (range_with_len (a + 1) n))
    ∙ ap (λ b. cond b 1 0 + length (free_in (x ∷ named) (range_with_len (a + 1) n))) here
    ∙ ap (λ (k : ℕ). cond (not (has_block named a)) 1 0 + k) (none_lost x (a + 1) n named (omega arith))
    ∙ sym (step (not (has_block named a)) a (free_in named (range_with_len (a + 1) n)))

at_most_one : (b : Bool) → cond b 1 0 ≤ 1
at_most_one true = omega arith
at_most_one false = omega arith

-- at most one block is lost by one that is named
one_lost : (x a n : ℕ) (named : List ℕ) → length (free_in named (range_with_len a n)) ≤ length (free_in (x ∷ named) (range_with_len a n)) + 1
one_lost x a zero named = omega arith
one_lost x a (suc n) named = by (one_lost x (a + 1) n named) (nat_eq a x) refl
  where
    later : List ℕ
    later = free_in named (range_with_len (a + 1) n)

    fewer : List ℕ
    fewer = free_in (x ∷ named) (range_with_len (a + 1) n)

    by : length later ≤ length fewer + 1 → (b : Bool) → nat_eq a x ≡ b → length (cond (not (has_block named a)) (a ∷ later) later) ≤ length (cond (not (nat_eq a x || has_block named a)) (a ∷ fewer) fewer) + 1
    by rest true e =
        let same : length fewer ≡ length later = none_lost x (a + 1) n named (let f = eqb-true a x e in omega arith) in
        omega (arith, step (not (has_block named a)) a later, at_most_one (not (has_block named a)), ap (λ b. length (cond (not (b || has_block named a)) (a ∷ fewer) fewer)) e, same)
    by rest false e =
        omega (arith, step (not (has_block named a)) a later, ap (λ b. length (cond (not (b || has_block named a)) (a ∷ fewer) fewer)) e, step (not (has_block named a)) a fewer, rest)

none_named : (a n : ℕ) → length (free_in [] (range_with_len a n)) ≡ n
none_named a zero = refl
none_named a (suc n) = ap suc (none_named (a + 1) n)

pub free_many : (a n : ℕ) (named : List ℕ) → n ≤ length (free_in named (range_with_len a n)) + length named
free_many a n [] = omega (arith, none_named a n)
free_many a n (x ∷ named) = omega (arith, free_many a n named, one_lost x a n named)

-- ---- how many are named

blocks_more : (run : Run) (runs : List Run) → length (blocks_in (run ∷ runs)) ≡ length (run_info run).blocks + length (blocks_in runs)
blocks_more run runs = length-append (run_info run).blocks (blocks_in runs)

entries_join : (xs ys : List Run) → entries_in (xs ++ ys) ≡ entries_in xs + entries_in ys
entries_join xs ys = sum_by-append (λ (run : Run). (run_info run).entries) xs ys

entries_more : (run : Run) (runs : List Run) → entries_in (run ∷ runs) ≡ (run_info run).entries + entries_in runs
entries_more run runs = entries_join (run ∷ []) runs ∙ ap (λ (n : ℕ). n + entries_in runs) (let e : 0 + (run_info run).entries ≡ (run_info run).entries = omega arith in e)

-- the runs are in form, and of this level
pub record AreFormed (device level : ℕ) (runs : List Run) : Type 0 where
  pub forms : All (IsRunForm device) (infos_in runs)
  pub levels : All (λ info. info.level ≡ level) (infos_in runs)

formed_rest : (device level : ℕ) (run : Run) (runs : List Run) → AreFormed device level (run ∷ runs) → AreFormed device level runs
formed_rest device level run runs h = record { forms = λ k d lt. h.forms (suc k) d (omega arith); levels = λ k d lt. h.levels (suc k) d (omega arith) }

-- the most entries of the first
most_first : (device level most : ℕ) (run : Run) (runs : List Run) → AreFormed device level (run ∷ runs) → most_entries device level ≡ most → (run_info run).entries ≤ most
most_first device level most run runs h e =
    let form = h.forms 0 (run_info run) (omega arith) in
    let same = ap (most_entries device) (h.levels 0 (run_info run) (omega arith)) in
    omega (arith, form.entries_most, same, e)

blocks_first : (device level : ℕ) (run : Run) (runs : List Run) → AreFormed device level (run ∷ runs) → length (run_info run).blocks ≤ blocks_for (run_info run).entries
blocks_first device level run runs h =
    let form = h.forms 0 (run_info run) (omega arith) in
    omega (arith, form.block_count, form.pages_most)

-- four runs of level 0
zero_blocks : (device : ℕ) (runs : List Run) → AreFormed device 0 runs → length (blocks_in runs) ≤ 8 * length runs
zero_blocks device [] h = omega arith
zero_blocks device (run ∷ runs) h = omega (arith, blocks_more run runs, blocks_first device 0 run runs h, most_first device 0 2048 run runs h refl, zero_blocks device runs (formed_rest device 0 run runs h))

zero_entries : (device : ℕ) (runs : List Run) → AreFormed device 0 runs → entries_in runs ≤ 2048 * length runs
zero_entries device [] h = omega arith
zero_entries device (run ∷ runs) h = omega (arith, entries_more run runs, most_first device 0 2048 run runs h refl, zero_entries device runs (formed_rest device 0 run runs h))

-- at most one run
single_blocks : (device level : ℕ) (runs : List Run) → AreFormed device level runs → length runs ≤ 1 → length (blocks_in runs) ≤ blocks_for (first_entries runs)
single_blocks device level [] h few = omega arith
single_blocks device level (run ∷ []) h few = omega (arith, blocks_more run [], blocks_first device level run [] h)
single_blocks device level (run ∷ other ∷ runs) h few = absurd (omega arith)

single_entries : (runs : List Run) → length runs ≤ 1 → entries_in runs ≡ first_entries runs
single_entries [] few = refl
single_entries (run ∷ []) few = let e : 0 + (run_info run).entries ≡ (run_info run).entries = omega arith in e
single_entries (run ∷ other ∷ runs) few = absurd (omega arith)

single_most : (device level most : ℕ) (runs : List Run) → AreFormed device level runs → most_entries device level ≡ most → first_entries runs ≤ most
single_most device level most [] h e = omega arith
single_most device level most (run ∷ runs) h e = most_first device level most run runs h e

-- ---- the law

levels_facts : (levels : Levels) → Facts levels.layout.blocks (infos_in (levels.zero ++ (levels.one ++ levels.base)))
levels_facts levels = record { runs = levels.sound.runs; blocks = levels.sound.blocks_differ; numbers = levels.sound.numbers_differ }

lower_facts : (levels : Levels) → Facts levels.layout.blocks (infos_in (levels.one ++ levels.base))
lower_facts levels = facts_second levels.layout.blocks (infos_in levels.zero) (infos_in (levels.one ++ levels.base)) (subst (Facts levels.layout.blocks) (map-append run_info levels.zero (levels.one ++ levels.base)) (levels_facts levels))

top_formed : (levels : Levels) → AreFormed levels.layout.blocks 0 levels.zero
top_formed levels = record {
  forms = (facts_first levels.layout.blocks (infos_in levels.zero) (infos_in (levels.one ++ levels.base)) (subst (Facts levels.layout.blocks) (map-append run_info levels.zero (levels.one ++ levels.base)) (levels_facts levels))).runs;
  levels = levels.sound.zero_level;
}

mid_formed : (levels : Levels) → AreFormed levels.layout.blocks 1 levels.one
mid_formed levels = record {
  forms = (facts_first levels.layout.blocks (infos_in levels.one) (infos_in levels.base) (subst (Facts levels.layout.blocks) (map-append run_info levels.one levels.base) (lower_facts levels))).runs;
  levels = levels.sound.one_level;
}

base_formed : (levels : Levels) → AreFormed levels.layout.blocks 2 levels.base
base_formed levels = record {
  forms = (facts_second levels.layout.blocks (infos_in levels.one) (infos_in levels.base) (subst (Facts levels.layout.blocks) (map-append run_info levels.one levels.base) (lower_facts levels))).runs;
  levels = levels.sound.base_level;
}

blocks_join : (xs ys : List Run) → length (blocks_in (xs ++ ys)) ≡ length (blocks_in xs) + length (blocks_in ys)
blocks_join [] ys = let e : length (blocks_in ys) ≡ 0 + length (blocks_in ys) = omega arith in e
blocks_join (run ∷ xs) ys = omega (arith, blocks_more run (xs ++ ys), blocks_more run xs, blocks_join xs ys)

-- the counts of levels
pub record AreCounted (levels : Levels) : Type 0 where
  pub free : run_blocks_in levels.layout.blocks ≤ length (free_in (named_blocks levels) (range_with_len 20 (run_blocks_in levels.layout.blocks))) + length (named_blocks levels)
  pub named : length (named_blocks levels) ≤ 8 * length levels.zero + (blocks_for (first_entries levels.one) + blocks_for (first_entries levels.base))
  pub zero_entries : entries_in levels.zero ≤ 2048 * length levels.zero
  pub one_entries : entries_in levels.one ≡ first_entries levels.one
  pub base_entries : entries_in levels.base ≡ first_entries levels.base
  pub one_most : first_entries levels.one ≤ 12288
  pub base_most : first_entries levels.base ≤ max_keys_in levels.layout.blocks

counted : (levels : Levels) → AreCounted levels
counted levels =
    let device = levels.layout.blocks in
    record {
      free = free_many 20 (run_blocks_in device) (named_blocks levels);
      named = omega (arith, blocks_join levels.zero (levels.one ++ levels.base), blocks_join levels.one levels.base, zero_blocks device levels.zero (top_formed levels), single_blocks device 1 levels.one (mid_formed levels) levels.sound.one_few, single_blocks device 2 levels.base (base_formed levels) levels.sound.base_few);
      zero_entries = zero_entries device levels.zero (top_formed levels);
      one_entries = single_entries levels.one levels.sound.one_few;
      base_entries = single_entries levels.base levels.sound.base_few;
      one_most = single_most device 1 12288 levels.one (mid_formed levels) refl;
      base_most = single_most device 2 (max_keys_in device) levels.base (base_formed levels) refl;
    }

pub job_blocks_suffice : JobBlocksSuffice
job_blocks_suffice levels =
    let h = counted levels in
    let few = levels.sound.zero_few in
    let upper = entries_join levels.zero levels.one in
    let lower = entries_join levels.one levels.base in
    record {
      flush = λ room entries most. omega (arith, h.free, h.named, h.one_most, h.base_most);
      zero_most = λ most. omega (arith, upper, h.zero_entries, h.one_entries);
      zero = λ most. omega (arith, upper, h.zero_entries, h.one_entries, h.free, h.named, h.base_most);
      one_most = omega (arith, lower, h.one_entries, h.base_entries, h.one_most, h.base_most);
      one = omega (arith, lower, h.one_entries, h.base_entries, h.one_most, h.base_most, h.free, h.named);
    }
