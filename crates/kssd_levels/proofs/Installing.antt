-- A job's run in place of what the job read.
use Rattle.std.proofs.Common.{◌≡◌, ◌∙◌, ℕ, ◌+◌, ◌<◌, ◌≤◌, ◌==◌, Bool, true, false, cond, ◌||◌, List, [], ◌∷◌, ◌++◌, length, refl, sym, ap, subst, arith, length-append}
use Rattle.std.specs.Prelude.{nat_eq}
use Rattle.std.specs.List.{All, IsDistinct}
use Rattle.std.proofs.lemmas.Bool.{eqb-true, eqb-false}
use Rattle.std.proofs.lemmas.List.{map-append, append-nil, get_or_append_left, get_or-append-add}
use Rattle.std.proofs.lemmas.List.Concat.{flat_map-append}
use Rattle.std.proofs.lemmas.List.Elements.{All-append, All-cons}
use Rattle.kssd_model.specs.declared.runs.RunInfo.{RunInfo}
use Rattle.kssd_image.specs.AnchorForm.{IsRunForm, blocks_of, run_numbers}
use Rattle.kssd_run.specs.declared.reader.Run.{Run}
use Rattle.kssd_run.specs.Run.{run_info}
use Rattle.kssd_levels.specs.Runs.{infos_in, has_block}
use Rattle.kssd_levels.specs.Written.{written}
use Rattle.kssd_levels.specs.Sound.{AreLevels}
use Rattle.kssd_levels.proofs.Distinct.{other_than_all, distinct_first, distinct_second, distinct_join, apart_back}

-- the run with entries, or nothing
pub written_cases : (run : Run) (P : List Run → Type 0) → ((run_info run).entries ≡ 0 → P []) → (0 < (run_info run).entries → P (run ∷ [])) → P (written run)
written_cases run P none some = by ((run_info run).entries == 0) refl
  where
    by : (b : Bool) → ((run_info run).entries == 0) ≡ b → P (cond b [] (run ∷ []))
    by true e = none (eqb-true (run_info run).entries 0 e)
    by false e = let ne = eqb-false (run_info run).entries 0 e in some (omega arith)

-- what an anchor asks of runs apart from their levels
pub record Facts (device : ℕ) (infos : List RunInfo) : Type 0 where
  pub runs : All (IsRunForm device) infos
  pub blocks : IsDistinct nat_eq (blocks_of infos)
  pub numbers : IsDistinct nat_eq (run_numbers infos)

-- a run of which neither is known
pub record IsFresh (device : ℕ) (info : RunInfo) (infos : List RunInfo) : Type 0 where
  pub form : IsRunForm device info
  pub differ : IsDistinct nat_eq info.blocks
  pub blocks : (block : ℕ) → has_block info.blocks block ≡ true → has_block (blocks_of infos) block ≡ false
  pub number : has_block (run_numbers infos) info.number ≡ false

blocks_join : (xs ys : List RunInfo) → blocks_of (xs ++ ys) ≡ blocks_of xs ++ blocks_of ys
blocks_join xs ys = flat_map-append (λ (info : RunInfo). info.blocks) xs ys

numbers_join : (xs ys : List RunInfo) → run_numbers (xs ++ ys) ≡ run_numbers xs ++ run_numbers ys
numbers_join xs ys = map-append (λ (info : RunInfo). info.number) xs ys

pub facts_first : (device : ℕ) (xs ys : List RunInfo) → Facts device (xs ++ ys) → Facts device xs
facts_first device xs ys h = record {
  runs = λ k d lt. subst (IsRunForm device) (get_or_append_left xs ys d k lt) (h.runs k d (omega (arith, length-append xs ys)));
  blocks = distinct_first (blocks_of xs) (blocks_of ys) (subst (IsDistinct nat_eq) (blocks_join xs ys) h.blocks);
  numbers = distinct_first (run_numbers xs) (run_numbers ys) (subst (IsDistinct nat_eq) (numbers_join xs ys) h.numbers);
}

pub facts_second : (device : ℕ) (xs ys : List RunInfo) → Facts device (xs ++ ys) → Facts device ys
facts_second device xs ys h = record {
  runs = λ k d lt. subst (IsRunForm device) (get_or-append-add xs ys k d) (h.runs (length xs + k) d (omega (arith, length-append xs ys)));
  blocks = distinct_second (blocks_of xs) (blocks_of ys) (subst (IsDistinct nat_eq) (blocks_join xs ys) h.blocks);
  numbers = distinct_second (run_numbers xs) (run_numbers ys) (subst (IsDistinct nat_eq) (numbers_join xs ys) h.numbers);
}

none_first : (a b : Bool) → (a || b) ≡ false → a ≡ false
none_first true b h = absurd cc
none_first false b h = refl

none_second : (a b : Bool) → (a || b) ≡ false → b ≡ false
none_second true b h = absurd cc
none_second false b h = h

has_first : (xs ys : List ℕ) (x : ℕ) → has_block (xs ++ ys) x ≡ false → has_block xs x ≡ false
has_first [] ys x h = refl
has_first (y ∷ xs) ys x h = ap (λ b. b || has_block xs x) (none_first _ _ h) ∙ has_first xs ys x (none_second _ _ h)

has_second : (xs ys : List ℕ) (x : ℕ) → has_block (xs ++ ys) x ≡ false → has_block ys x ≡ false
has_second [] ys x h = h
has_second (y ∷ xs) ys x h = has_second xs ys x (none_second _ _ h)

pub fresh_first : (device : ℕ) (info : RunInfo) (xs ys : List RunInfo) → IsFresh device info (xs ++ ys) → IsFresh device info xs
fresh_first device info xs ys h = record {
  form = h.form;
  differ = h.differ;
  blocks = λ block has. has_first (blocks_of xs) (blocks_of ys) block (ap (λ (bs : List ℕ). has_block bs block) (sym (blocks_join xs ys)) ∙ h.blocks block has);
  number = has_first (run_numbers xs) (run_numbers ys) info.number (ap (λ (ns : List ℕ). has_block ns info.number) (sym (numbers_join xs ys)) ∙ h.number);
}

pub fresh_second : (device : ℕ) (info : RunInfo) (xs ys : List RunInfo) → IsFresh device info (xs ++ ys) → IsFresh device info ys
fresh_second device info xs ys h = record {
  form = h.form;
  differ = h.differ;
  blocks = λ block has. has_second (blocks_of xs) (blocks_of ys) block (ap (λ (bs : List ℕ). has_block bs block) (sym (blocks_join xs ys)) ∙ h.blocks block has);
  number = has_second (run_numbers xs) (run_numbers ys) info.number (ap (λ (ns : List ℕ). has_block ns info.number) (sym (numbers_join xs ys)) ∙ h.number);
}

-- a fresh run before others
pub facts_before : (device : ℕ) (info : RunInfo) (xs : List RunInfo) → IsFresh device info xs → Facts device xs → Facts device (info ∷ xs)
unfolding IsDistinct
facts_before device info xs fresh h = record {
  runs = All-cons (IsRunForm device) info xs fresh.form h.runs;
  blocks = distinct_join info.blocks (blocks_of xs) fresh.differ h.blocks fresh.blocks;
  numbers = (other_than_all info.number (run_numbers xs) fresh.number, h.numbers);
}

single : (number : ℕ) (numbers : List ℕ) → has_block numbers number ≡ false → (x : ℕ) → has_block (number ∷ []) x ≡ true → has_block numbers x ≡ false
single number numbers h x has = ap (has_block numbers) (eqb-true x number (one (nat_eq x number) has)) ∙ h
  where
    one : (b : Bool) → (b || false) ≡ true → b ≡ true
    one true h = refl
    one false h = h

-- a fresh run after others
pub facts_after : (device : ℕ) (info : RunInfo) (xs : List RunInfo) → IsFresh device info xs → Facts device xs → Facts device (xs ++ info ∷ [])
unfolding IsDistinct
facts_after device info xs fresh h =
    let own : info.blocks ++ [] ≡ info.blocks = append-nil info.blocks in
    record {
      runs = All-append (IsRunForm device) xs (info ∷ []) h.runs (All-cons (IsRunForm device) info [] fresh.form (λ k d lt. absurd (omega arith)));
      blocks = subst (IsDistinct nat_eq) (ap (λ (bs : List ℕ). blocks_of xs ++ bs) (sym own) ∙ sym (blocks_join xs (info ∷ []))) (distinct_join (blocks_of xs) info.blocks h.blocks fresh.differ (apart_back info.blocks (blocks_of xs) fresh.blocks));
      numbers = subst (IsDistinct nat_eq) (sym (numbers_join xs (info ∷ []))) (distinct_join (run_numbers xs) (info.number ∷ []) h.numbers (tt, tt) (apart_back (info.number ∷ []) (run_numbers xs) (single info.number (run_numbers xs) fresh.number)));
    }

-- ---- the levels after a job

facts_of : (device : ℕ) (top mid base : List Run) → AreLevels device top mid base → Facts device (infos_in (top ++ (mid ++ base)))
facts_of device top mid base h = record { runs = h.runs; blocks = h.blocks_differ; numbers = h.numbers_differ }

pub after_flush : (device : ℕ) (run : Run) (top mid base : List Run) → AreLevels device top mid base → (run_info run).level ≡ 0 → length top ≤ 3 → IsFresh device (run_info run) (infos_in (top ++ (mid ++ base))) → AreLevels device (run ∷ top) mid base
after_flush device run top mid base h level few fresh =
    let facts = facts_before device (run_info run) (infos_in (top ++ (mid ++ base))) fresh (facts_of device top mid base h) in
    record {
      zero_level = All-cons (λ (info : RunInfo). info.level ≡ 0) (run_info run) (infos_in top) level h.zero_level;
      one_level = h.one_level;
      base_level = h.base_level;
      zero_few = omega arith;
      one_few = h.one_few;
      base_few = h.base_few;
      runs = facts.runs;
      blocks_differ = facts.blocks;
      numbers_differ = facts.numbers;
    }

base_facts : (device : ℕ) (top mid base : List Run) → Facts device (infos_in (top ++ (mid ++ base))) → Facts device (infos_in base)
base_facts device top mid base h =
    facts_second device (infos_in mid) (infos_in base) (subst (Facts device) (map-append run_info mid base)
    (facts_second device (infos_in top) (infos_in (mid ++ base)) (subst (Facts device) (map-append run_info top (mid ++ base)) h)))

base_fresh : (device : ℕ) (info : RunInfo) (top mid base : List Run) → IsFresh device info (infos_in (top ++ (mid ++ base))) → IsFresh device info (infos_in base)
base_fresh device info top mid base h =
    fresh_second device info (infos_in mid) (infos_in base) (subst (IsFresh device info) (map-append run_info mid base)
    (fresh_second device info (infos_in top) (infos_in (mid ++ base)) (subst (IsFresh device info) (map-append run_info top (mid ++ base)) h)))

pub after_zero : (device : ℕ) (run : Run) (top mid base : List Run) → AreLevels device top mid base → (run_info run).level ≡ 1 → (0 < (run_info run).entries → IsFresh device (run_info run) (infos_in (top ++ (mid ++ base)))) → AreLevels device [] (written run) base
after_zero device run top mid base h level fresh = written_cases run (λ runs. AreLevels device [] runs base)
    (λ none. make [] (λ k d lt. absurd (omega arith)) (omega arith) (base_facts device top mid base (facts_of device top mid base h)))
    (λ some. make (run ∷ []) (All-cons (λ (info : RunInfo). info.level ≡ 1) (run_info run) [] level (λ k d lt. absurd (omega arith))) (omega arith)
    (facts_before device (run_info run) (infos_in base) (base_fresh device (run_info run) top mid base (fresh some)) (base_facts device top mid base (facts_of device top mid base h))))
  where
    make : (runs : List Run) → All (λ (info : RunInfo). info.level ≡ 1) (infos_in runs) → length runs ≤ 1 → Facts device (infos_in (runs ++ base)) → AreLevels device [] runs base
    make runs are few facts = record {
      zero_level = λ k d lt. absurd (omega arith);
      one_level = are;
      base_level = h.base_level;
      zero_few = omega arith;
      one_few = few;
      base_few = h.base_few;
      runs = facts.runs;
      blocks_differ = facts.blocks;
      numbers_differ = facts.numbers;
    }

top_facts : (device : ℕ) (top mid base : List Run) → Facts device (infos_in (top ++ (mid ++ base))) → Facts device (infos_in top)
top_facts device top mid base h = facts_first device (infos_in top) (infos_in (mid ++ base)) (subst (Facts device) (map-append run_info top (mid ++ base)) h)

top_fresh : (device : ℕ) (info : RunInfo) (top mid base : List Run) → IsFresh device info (infos_in (top ++ (mid ++ base))) → IsFresh device info (infos_in top)
top_fresh device info top mid base h = fresh_first device info (infos_in top) (infos_in (mid ++ base)) (subst (IsFresh device info) (map-append run_info top (mid ++ base)) h)

pub after_one : (device : ℕ) (run : Run) (top mid base : List Run) → AreLevels device top mid base → (run_info run).level ≡ 2 → (0 < (run_info run).entries → IsFresh device (run_info run) (infos_in (top ++ (mid ++ base)))) → AreLevels device top [] (written run)
after_one device run top mid base h level fresh = written_cases run (λ runs. AreLevels device top [] runs)
    (λ none. make [] (λ k d lt. absurd (omega arith)) (omega arith) (subst (λ (runs : List Run). Facts device (infos_in runs)) (sym (append-nil top)) (top_facts device top mid base (facts_of device top mid base h))))
    (λ some. make (run ∷ []) (All-cons (λ (info : RunInfo). info.level ≡ 2) (run_info run) [] level (λ k d lt. absurd (omega arith))) (omega arith)
    (subst (Facts device) (sym (map-append run_info top (run ∷ []))) (facts_after device (run_info run) (infos_in top) (top_fresh device (run_info run) top mid base (fresh some)) (top_facts device top mid base (facts_of device top mid base h)))))
  where
    make : (runs : List Run) → All (λ (info : RunInfo). info.level ≡ 2) (infos_in runs) → length runs ≤ 1 → Facts device (infos_in (top ++ runs)) → AreLevels device top [] runs
    make runs are few facts = record {
      zero_level = h.zero_level;
      one_level = λ k d lt. absurd (omega arith);
      base_level = are;
      zero_few = h.zero_few;
      one_few = omega arith;
      base_few = few;
      runs = facts.runs;
      blocks_differ = facts.blocks;
      numbers_differ = facts.numbers;
    }
