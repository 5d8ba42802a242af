-- The keys of the levels after a job.
use Rattle.std.proofs.Common.{◌≡◌, ◌∙◌, ℕ, List, [], ◌∷◌, ◌++◌, Option, Some, None, Result, Ok, Err, OnOk, OnErr, refl, sym, ap, subst, append_assoc}
use Rattle.std.proofs.lemmas.List.{nil_from_length}
use Rattle.kv_nand.specs.Flash.{Image}
use Rattle.kssd_layout.specs.declared.layout.Layout.{Layout}
use Rattle.kssd_entry.specs.declared.entry.Entry.{Entry}
use Rattle.kssd_model.specs.Rising.{find_entry, first_of}
use Rattle.kssd_model.specs.RunPages.{run_entries}
use Rattle.kssd_model.proofs.RisingEntries.{find-merged}
use Rattle.kssd_image.specs.Stages.{runs_map}
use Rattle.kssd_run.specs.declared.reader.Run.{Run}
use Rattle.kssd_run.specs.Run.{run_info, StandsRun}
use Rattle.kssd_levels.specs.declared.kind.JobKind.{JobKind}
use Rattle.kssd_levels.specs.declared.kind.JobKind.TheVariants.{Flush, Zero, One}
use Rattle.kssd_levels.specs.declared.levels.Levels.{Levels}
use Rattle.kssd_levels.specs.Runs.{infos_in, StandRuns}
use Rattle.kssd_levels.specs.Written.{written}
use Rattle.kssd_levels.specs.Levels.{StandLevels, levels_map, all_runs, Keeps, unmarked}
use Rattle.kssd_levels.proofs.Layers.{stand_join}
use Rattle.kssd_levels.proofs.Lookups.{find_over, find_unmarked, unmarked_first, rising_runs}
use Rattle.kssd_levels.proofs.Installing.{written_cases}

pub either : {E A B C : Type 0} (r : Result (Unit {0}) E) → OnOk r A → OnErr r B → (A → C) → (B → C) → C
either (Ok x) a b f g = f a
either (Err e) a b f g = g b

pub at_kind : (kind is : JobKind) (run : Run) (old new : Levels) → kind ≡ is → Keeps is run old new → Keeps kind run old new
at_kind kind is run old new e h = subst (λ (k : JobKind). Keeps k run old new) (sym e) h

-- levels are so in their parts
pub record HasParts (levels : Levels) (layout : Layout) (top mid base : List Run) : Type 0 where
  pub layout_is : levels.layout ≡ layout
  pub top_is : levels.zero ≡ top
  pub mid_is : levels.one ≡ mid
  pub base_is : levels.base ≡ base

all_are : (levels : Levels) (layout : Layout) (top mid base : List Run) → HasParts levels layout top mid base → all_runs levels ≡ top ++ (mid ++ base)
all_are levels layout top mid base h =
    ap (λ (xs : List Run). xs ++ (levels.one ++ levels.base)) h.top_is
    ∙ ap (λ (xs : List Run). top ++ (xs ++ levels.base)) h.mid_is
    ∙ ap (λ (xs : List Run). top ++ (mid ++ xs)) h.base_is

map_is : (levels : Levels) (layout : Layout) (top mid base : List Run) (image : Image) → HasParts levels layout top mid base → levels_map levels image ≡ runs_map image (infos_in (top ++ (mid ++ base)))
map_is levels layout top mid base image h = ap (λ (xs : List Run). runs_map image (infos_in xs)) (all_are levels layout top mid base h)

stand_parts : (old levels : Levels) (top mid base : List Run) (device : ℕ) (image : Image) → HasParts levels old.layout top mid base → StandLevels old device image → StandRuns top device image → StandRuns mid device image → StandRuns base device image → StandLevels levels device image
stand_parts old levels top mid base device image h stand a b c = record {
  device_is = stand.device_is ∙ sym (ap (λ (layout : Layout). layout.blocks) h.layout_is);
  zero = subst (λ (xs : List Run). StandRuns xs device image) (sym h.top_is) a;
  one = subst (λ (xs : List Run). StandRuns xs device image) (sym h.mid_is) b;
  base = subst (λ (xs : List Run). StandRuns xs device image) (sym h.base_is) c;
}

-- a run without entries has none
none_found : (run : Run) (device : ℕ) (image : Image) (key : List ℕ) → StandsRun run device image → (run_info run).entries ≡ 0 → find_entry (run_entries image (run_info run)) key ≡ None
none_found run device image key h e = ap (λ (xs : List Entry). find_entry xs key) (nil_from_length (run_entries image (run_info run)) (h.run_in.count ∙ e))

alone : (o : Option Entry) → first_of o None ≡ o
alone None = refl
alone (Some e) = refl

stand_written : (run : Run) (device : ℕ) (image : Image) → StandsRun run device image → StandRuns (written run) device image
stand_written run device image h = written_cases run (λ runs. StandRuns runs device image) (λ none. tt) (λ some. (h, tt))

find_written : (run : Run) (device : ℕ) (image : Image) (key : List ℕ) → StandsRun run device image → find_entry (runs_map image (infos_in (written run))) key ≡ find_entry (run_entries image (run_info run)) key
find_written run device image key h = written_cases run (λ runs. find_entry (runs_map image (infos_in runs)) key ≡ find_entry (run_entries image (run_info run)) key)
    (λ none. sym (none_found run device image key h none))
    (λ some. find-merged (run_entries image (run_info run)) [] key h.run_in.rising ∙ alone _)

-- ---- a flush

pub flush_keeps : (run : Run) (old new : Levels) → HasParts new old.layout (run ∷ old.zero) old.one old.base → Keeps Flush run old new
flush_keeps run old new parts device image stand h = (
  stand_parts old new (run ∷ old.zero) old.one old.base device image parts stand (h, stand.zero) stand.one stand.base,
  λ key. ap (λ (xs : List Entry). find_entry xs key) (map_is new old.layout (run ∷ old.zero) old.one old.base image parts) ∙ find-merged (run_entries image (run_info run)) (levels_map old image) key h.run_in.rising,
)

pub flush_nothing : (run : Run) (old : Levels) → (run_info run).entries ≡ 0 → Keeps Flush run old old
flush_nothing run old none device image stand h = (stand, λ key. sym (ap (λ (o : Option Entry). first_of o (find_entry (levels_map old image) key)) (none_found run device image key h none)))

-- ---- the merges

pub zero_keeps : (run : Run) (old new : Levels) → HasParts new old.layout [] (written run) old.base → Keeps Zero run old new
zero_keeps run old new parts device image stand h = (
  stand_parts old new [] (written run) old.base device image parts stand tt (stand_written run device image h) stand.base,
  λ e key.
      let base = find_entry (runs_map image (infos_in old.base)) key in
      ap (λ (xs : List Entry). find_entry xs key) (map_is new old.layout [] (written run) old.base image parts)
      ∙ find_over (written run) old.base device image key (stand_written run device image h)
      ∙ ap (λ (o : Option Entry). first_of o base) (find_written run device image key h ∙ ap (λ (xs : List Entry). find_entry xs key) e)
      ∙ sym (find_over (old.zero ++ old.one) old.base device image key (stand_join old.zero old.one device image stand.zero stand.one))
      ∙ ap (λ (xs : List Run). find_entry (runs_map image (infos_in xs)) key) (append_assoc old.zero old.one old.base),
)

pub one_keeps : (run : Run) (old new : Levels) → HasParts new old.layout old.zero [] (written run) → Keeps One run old new
one_keeps run old new parts device image stand h = (
  stand_parts old new old.zero [] (written run) device image parts stand stand.zero tt (stand_written run device image h),
  λ e key.
      let top = find_entry (runs_map image (infos_in old.zero)) key in
      let lower = runs_map image (infos_in (old.one ++ old.base)) in
      ap unmarked (
      ap (λ (xs : List Entry). find_entry xs key) (map_is new old.layout old.zero [] (written run) image parts)
      ∙ find_over old.zero (written run) device image key stand.zero
      ∙ ap (first_of top) (find_written run device image key h ∙ ap (λ (xs : List Entry). find_entry xs key) e ∙ find_unmarked lower key (rising_runs (old.one ++ old.base) device image (stand_join old.one old.base device image stand.one stand.base)))
      )
      ∙ unmarked_first top (find_entry lower key)
      ∙ ap unmarked (sym (find_over old.zero (old.one ++ old.base) device image key stand.zero)),
)
