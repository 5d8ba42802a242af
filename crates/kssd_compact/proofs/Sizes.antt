-- How many entries there are.
use Rattle.std.proofs.Common.{◌≡◌, ◌∙◌, ℕ, suc, ◌+◌, ◌<◌, ◌≤◌, Bool, true, false, cond, not, List, [], ◌∷◌, length, get_or, take, drop, refl, sym, ap, arith, zero-add}
use Rattle.std.specs.declared.cmp.Ordering.{Ordering}
use Rattle.std.specs.declared.cmp.Ordering.TheVariants.{Less, Equal, Greater}
use Rattle.std.proofs.lemmas.List.{take_more, take-append-drop}
use Rattle.std.proofs.lemmas.List.Sums.{sum_by-append}
use Rattle.kv_nand.specs.Flash.{Image}
use Rattle.kssd_entry.specs.declared.entry.Entry.{Entry}
use Rattle.kssd_entry.specs.Spelling.{key_of}
use Rattle.kssd_model.specs.Rising.{is_rising, is_gone, key_cmp, by_order, put_entry, merged}
use Rattle.kssd_model.specs.RunPages.{run_entries}
use Rattle.kssd_model.proofs.RisingEntries.{merged_newer}
use Rattle.kssd_image.specs.Stages.{runs_map, without_marks}
use Rattle.kssd_run.specs.declared.reader.Run.{Run}
use Rattle.kssd_run.specs.Run.{run_info}
use Rattle.kssd_levels.specs.Runs.{infos_in, StandRuns}
use Rattle.kssd_levels.specs.Laws.{entries_in}

pub entries_at : (runs : List Run) (i : ℕ) (run : Run) → i < length runs → run ≡ get_or runs i run → entries_in (take (i + 1) runs) ≡ entries_in (take i runs) + (run_info run).entries
entries_at runs i run lt e =
    ap entries_in (take_more runs i run lt)
    ∙ sum_by-append (λ (r : Run). (run_info r).entries) (take i runs) (get_or runs i run ∷ [])
    ∙ ap (λ (n : ℕ). entries_in (take i runs) + n) (zero-add (run_info (get_or runs i run)).entries ∙ ap (λ (r : Run). (run_info r).entries) (sym e))

pub entries_upto : (runs : List Run) (i : ℕ) → entries_in (take i runs) ≤ entries_in runs
entries_upto runs i = omega (arith, sum_by-append (λ (r : Run). (run_info r).entries) (take i runs) (drop i runs), ap entries_in (take-append-drop i runs))

put_length : (xs : List Entry) (e : Entry) → length (put_entry xs e) ≤ length xs + 1
put_length [] e = omega arith
put_length (x ∷ xs) e = by (put_length xs e) (key_cmp (key_of e) (key_of x))
  where
    by : length (put_entry xs e) ≤ length xs + 1 → (o : Ordering) → length (by_order o (e ∷ x ∷ xs) (e ∷ xs) (x ∷ put_entry xs e)) ≤ suc (length xs) + 1
    by rest Less = omega arith
    by rest Equal = omega arith
    by rest Greater = omega arith

merged_length : (newer older : List Entry) → length (merged newer older) ≤ length newer + length older
merged_length [] older = omega arith
merged_length (x ∷ newer) older = omega (arith, merged_length newer (put_entry older x), put_length older x)

-- of runs there are no more newest entries than entries
pub runs_length : (runs : List Run) (device : ℕ) (image : Image) → StandRuns runs device image → length (runs_map image (infos_in runs)) ≤ entries_in runs
runs_length [] device image h = omega arith
runs_length (run ∷ runs) device image h =
    let more : entries_in (run ∷ runs) ≡ (run_info run).entries + entries_in runs = sum_by-append (λ (r : Run). (run_info r).entries) (run ∷ []) runs ∙ ap (λ (n : ℕ). n + entries_in runs) (zero-add (run_info run).entries) in
    omega (arith, more, merged_length (run_entries image (run_info run)) (runs_map image (infos_in runs)), runs_length runs device image h.1, h.0.run_in.count)

pub kept_length : (xs : List Entry) → length (without_marks xs) ≤ length xs
kept_length [] = omega arith
kept_length (x ∷ xs) = by (kept_length xs) (not (is_gone x))
  where
    by : length (without_marks xs) ≤ length xs → (b : Bool) → length (cond b (x ∷ without_marks xs) (without_marks xs)) ≤ suc (length xs)
    by rest true = omega arith
    by rest false = omega arith

-- entries over nothing are themselves
pub merged_nothing : (xs : List Entry) → is_rising xs ≡ true → merged xs [] ≡ xs
merged_nothing [] rising = refl
merged_nothing (x ∷ xs) rising = merged_newer x xs [] rising refl ∙ ap (λ (t : List Entry). x ∷ t) (merged_nothing xs (Rattle.std.proofs.lemmas.Bool.and_parts _ _ rising).1)
