-- The entries of a log over levels, read as one.
use Rattle.std.proofs.Common.{◌≡◌, ◌∙◌, ℕ, suc, ◌≤◌, Bool, true, false, cond, List, [], ◌∷◌, ◌++◌, length, filter, None, refl, sym, ap, subst, arith, append_assoc, length-append}
use Rattle.std.specs.Prelude.{nat_le}
use Rattle.std.proofs.lemmas.List.Elements.{filter-append}
use Rattle.kv_nand.specs.Flash.{Image}
use Rattle.kssd_entry.specs.declared.entry.Entry.{Entry}
use Rattle.kssd_model.specs.declared.runs.RunInfo.{RunInfo}
use Rattle.kssd_model.specs.Rising.{merged}
use Rattle.kssd_model.specs.RunPages.{run_entries}
use Rattle.kssd_image.specs.Stages.{runs_map}
use Rattle.kssd_run.specs.declared.reader.Run.{Run}
use Rattle.kssd_run.specs.Run.{run_info}
use Rattle.kssd_levels.specs.declared.levels.Levels.{Levels}
use Rattle.kssd_levels.specs.Runs.{infos_in, StandRuns}
use Rattle.kssd_levels.specs.Levels.{all_runs, infos_of, levels_map, StandLevels}
use Rattle.kssd_levels.specs.Over.{over}
use Rattle.kssd_recover.specs.Walk.{key_count}

-- runs over nothing, whole, are their map
over_whole : (image : Image) (runs : List Run) → over image None runs [] ≡ runs_map image (infos_in runs)
over_whole image [] = refl
over_whole image (run ∷ runs) = ap (merged (run_entries image (run_info run))) (over_whole image runs)

-- what is still to come of a stream that was just opened
pub stream_is : (image now : Image) (rest : Image → List Entry) (entries log : List Entry) (runs : List Run) (levels : Levels) → now ≡ image → rest image ≡ merged entries (over image None runs []) → entries ≡ log → runs ≡ all_runs levels → rest now ≡ merged log (levels_map levels image)
stream_is image now rest entries log runs levels same is copied are =
    ap rest same ∙ is ∙ (λ i. merged (copied i) (over image None (are i) [])) ∙ ap (merged log) (over_whole image (all_runs levels))

-- ---- the runs from a level on

pub infos_filter : (least : ℕ) (runs : List Run) → infos_in (filter (λ run. nat_le least (run_info run).level) runs) ≡ filter (λ run. nat_le least run.level) (infos_in runs)
infos_filter least [] = refl
infos_filter least (run ∷ runs) = by (nat_le least (run_info run).level) (infos_filter least runs)
  where
    by : (b : Bool) → infos_in (filter (λ run. nat_le least (run_info run).level) runs) ≡ filter (λ run. nat_le least run.level) (infos_in runs)
        → infos_in (cond b (run ∷ filter (λ run. nat_le least (run_info run).level) runs) (filter (λ run. nat_le least (run_info run).level) runs)) ≡ cond b (run_info run ∷ filter (λ run. nat_le least run.level) (infos_in runs)) (filter (λ run. nat_le least run.level) (infos_in runs))
    by true rest = ap (λ (xs : List RunInfo). run_info run ∷ xs) rest
    by false rest = rest

stand_filter : (test : Run → Bool) (device : ℕ) (image : Image) (runs : List Run) → StandRuns runs device image → StandRuns (filter test runs) device image
stand_filter test device image [] h = tt
stand_filter test device image (run ∷ runs) h = by (test run) (stand_filter test device image runs h.1)
  where
    by : (b : Bool) → StandRuns (filter test runs) device image → StandRuns (cond b (run ∷ filter test runs) (filter test runs)) device image
    by true rest = (h.0, rest)
    by false rest = rest

length_filter : (test : Run → Bool) (runs : List Run) → length (filter test runs) ≤ length runs
length_filter test [] = omega arith
length_filter test (run ∷ runs) = by (test run) (length_filter test runs)
  where
    by : (b : Bool) → length (filter test runs) ≤ length runs → length (cond b (run ∷ filter test runs) (filter test runs)) ≤ suc (length runs)
    by true rest = omega arith
    by false rest = omega arith

pub filter_all : (test : Run → Bool) (levels : Levels) → (([] ++ filter test levels.zero) ++ filter test levels.one) ++ filter test levels.base ≡ filter test (all_runs levels)
filter_all test levels =
    append_assoc (filter test levels.zero) (filter test levels.one) (filter test levels.base)
    ∙ ap (λ (xs : List Run). filter test levels.zero ++ xs) (sym (filter-append test levels.one levels.base)) ∙ sym (filter-append test levels.zero (levels.one ++ levels.base))

pub few_filtered : (test : Run → Bool) (levels : Levels) (runs : List Run) → runs ≡ filter test (all_runs levels) → length levels.zero ≤ 4 → length levels.one ≤ 1 → length levels.base ≤ 1 → length runs ≤ 6
few_filtered test levels runs are zero one base =
    omega (arith, ap length are, length_filter test (all_runs levels), length-append levels.zero (levels.one ++ levels.base), length-append levels.one levels.base, zero, one, base)

stand_both : (device : ℕ) (image : Image) (newer older : List Run) → StandRuns newer device image → StandRuns older device image → StandRuns (newer ++ older) device image
stand_both device image [] older h g = g
stand_both device image (run ∷ runs) older h g = (h.0, stand_both device image runs older h.1 g)

pub stand_from : (test : Run → Bool) (device : ℕ) (image : Image) (levels : Levels) (runs : List Run) → runs ≡ filter test (all_runs levels) → StandLevels levels device image → StandRuns runs device image
stand_from test device image levels runs are h =
    subst (λ (xs : List Run). StandRuns xs device image) (sym are)
    (stand_filter test device image (all_runs levels) (stand_both device image levels.zero (levels.one ++ levels.base) h.zero (stand_both device image levels.one levels.base h.one h.base)))

pub count_is : (image now : Image) (rest : Image → List Entry) (entries : List Entry) (runs : List Run) (levels : Levels) (least count : ℕ) → now ≡ image → rest image ≡ merged entries (over image None runs []) → entries ≡ [] → runs ≡ filter (λ run. nat_le least (run_info run).level) (all_runs levels) → count ≡ key_count (rest now) → count ≡ key_count (runs_map image (filter (λ run. nat_le least run.level) (infos_of levels)))
count_is image now rest entries runs levels least count same is none are counted =
    let read : rest now ≡ over image None runs [] = ap rest same ∙ is ∙ ap (λ (xs : List Entry). merged xs (over image None runs [])) none in
    let runs_are : over image None runs [] ≡ runs_map image (filter (λ run. nat_le least run.level) (infos_of levels)) = over_whole image runs ∙ ap (runs_map image) (ap infos_in are ∙ infos_filter least (all_runs levels)) in
    counted ∙ ap key_count (read ∙ runs_are)
