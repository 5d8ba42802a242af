-- Looking a key up in one run after the other.
use Rattle.std.proofs.Common.{◌≡◌, ◌∙◌, ℕ, zero, suc, ◌+◌, ◌<◌, true, false, List, [], ◌∷◌, length, get_or, drop, Option, Some, None, refl, sym, ap, subst, arith}
use Rattle.std.specs.Prelude.{is_some, nat_eq}
use Rattle.std.proofs.lemmas.List.Folds.{list_any-append}
use Rattle.std.proofs.lemmas.List.{drop_more}
use Rattle.kv_nand.specs.Flash.{Image}
use Rattle.kssd_entry.specs.declared.entry.Entry.{Entry}
use Rattle.kssd_model.specs.Rising.{find_entry, first_of, merged}
use Rattle.kssd_model.specs.RunPages.{run_entries}
use Rattle.kssd_model.proofs.RisingEntries.{find-merged}
use Rattle.kssd_image.specs.Stages.{runs_map}
use Rattle.kssd_run.specs.declared.reader.Run.{Run}
use Rattle.kssd_run.specs.Run.{run_info, StandsRun}
use Rattle.kssd_levels.specs.Runs.{infos_in, blocks_in, has_block, StandRuns}
use Rattle.kssd_levels.specs.TwoLaws.{or_left, or_right}

-- the first of those left stands
pub stands_at : (runs : List Run) (i : ℕ) (run : Run) (device : ℕ) (image : Image) → i < length runs → run ≡ get_or runs i run → StandRuns (drop i runs) device image → StandsRun run device image × StandRuns (drop (i + 1) runs) device image
stands_at runs i run device image lt is h =
    let h = subst (λ (xs : List Run). StandRuns xs device image) (drop_more runs i run lt) h in
    (subst (λ (r : Run). StandsRun r device image) (sym is) h.0, h.1)

-- a key is in the first run, or in those after it
pub found_first : (runs : List Run) (i : ℕ) (run : Run) (device : ℕ) (image : Image) (key : List ℕ) → i < length runs → run ≡ get_or runs i run → StandsRun run device image → find_entry (runs_map image (infos_in (drop i runs))) key ≡ first_of (find_entry (run_entries image (run_info run)) key) (find_entry (runs_map image (infos_in (drop (i + 1) runs))) key)
found_first runs i run device image key lt is h =
    ap (λ (xs : List Run). find_entry (runs_map image (infos_in xs)) key) (drop_more runs i run lt)
    ∙ ap (λ (r : Run). find_entry (merged (run_entries image (run_info r)) (runs_map image (infos_in (drop (i + 1) runs)))) key) (sym is)
    ∙ find-merged (run_entries image (run_info run)) (runs_map image (infos_in (drop (i + 1) runs))) key h.run_in.rising

pub first_is : (o later : Option Entry) → is_some o ≡ true → o ≡ first_of o later
first_is None later h = absurd cc
first_is (Some e) later h = refl

pub first_none : (o later : Option Entry) → is_some o ≡ false → first_of o later ≡ later
first_none None later h = refl
first_none (Some e) later h = absurd cc

-- a block of one run is a block of all
pub names_at : (runs : List Run) (i : ℕ) (run : Run) (block : ℕ) → i < length runs → run ≡ get_or runs i run → has_block (run_info run).blocks block ≡ true → has_block (blocks_in runs) block ≡ true
names_at [] i run block lt is h = absurd (omega arith)
names_at (r ∷ runs) zero run block lt is h =
    list_any-append (nat_eq block) (run_info r).blocks (blocks_in runs)
    ∙ or_left _ _ (ap (λ (x : Run). has_block (run_info x).blocks block) (sym is) ∙ h)
names_at (r ∷ runs) (suc i) run block lt is h =
    list_any-append (nat_eq block) (run_info r).blocks (blocks_in runs)
    ∙ or_right _ _ (names_at runs i run block (omega arith) is h)
