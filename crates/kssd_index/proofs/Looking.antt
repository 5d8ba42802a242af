-- Looking for visible entries.
use Rattle.std.proofs.Common.{true, false, ◌≡◌, ◌∙◌, ℕ, ◌*◌, ◌≤◌, Bool, not, cond, List, [], ◌∷◌, ◌++◌, length, take, Option, Some, None, refl, sym, ap, subst, arith}
use Rattle.std.specs.Prelude.{IsSome}
use Rattle.std.proofs.lemmas.List.{take_all}
use Rattle.kv_nand.specs.Flash.{Image}
use Rattle.kssd_entry.specs.declared.entry.Entry.{Entry}
use Rattle.kssd_model.specs.Rising.{is_gone, is_below, is_rising, find_entry, entries_from, merged, first_of}
use Rattle.kssd_model.proofs.RisingEntries.{find-merged, is_rising-merged}
use Rattle.kssd_image.specs.Stages.{without_marks, merged_by, shown_by, shown_in, runs_map}
use Rattle.kssd_levels.specs.declared.levels.Levels.{Levels}
use Rattle.kssd_levels.specs.Levels.{levels_map, infos_of, all_runs, StandLevels}
use Rattle.kssd_levels.specs.Runs.{StandRuns}
use Rattle.kssd_levels.specs.Over.{over}
use Rattle.kssd_levels.proofs.FromKey.{from_merged, over_from}
use Rattle.kssd_levels.proofs.Layers.{stand_join}
use Rattle.kssd_frames.specs.Merging.{unmarked}
use Rattle.kssd_frames.proofs.Lookups.{find_unmarked, merge_alone}
use Rattle.kssd_frames.proofs.ShownLaws.{runs_rise}
use Rattle.kssd_index.specs.declared.index.Index.{Index}
use Rattle.kssd_index.specs.Standing.{IsIndex, index_table, older_entries}
use Rattle.kssd_index.proofs.Later.{whole_table, table_rising}
use Rattle.kssd_root.proofs.Anchored.{shown_is}

-- what is shown by an index
pub shown_at : (index : Index) (blocks : ℕ) (image : Image) → IsIndex index blocks image → shown_in image ≡ without_marks (merged (index_table index) (levels_map index.root.levels image))
unfolding shown_by merged_by
shown_at index blocks image h =
    shown_is index.root.page index.root.anchor image h.root.anchored.newest
    ∙ (λ i. without_marks (merged (sym (whole_table index blocks image h) i) (runs_map image (sym h.root.runs.named i))))

-- the entry of a key in the two tables
pub find_both : (index : Index) (blocks : ℕ) (image : Image) (key : List ℕ) → IsIndex index blocks image → find_entry (index_table index) key ≡ first_of (find_entry index.table key) (find_entry (older_entries index.older) key)
find_both index blocks image key h = find-merged index.table (older_entries index.older) key (table_rising index blocks image h)

pub find_shown : (index : Index) (blocks : ℕ) (image : Image) (key : List ℕ) → IsIndex index blocks image
    → unmarked (first_of (first_of (find_entry index.table key) (find_entry (older_entries index.older) key)) (find_entry (levels_map index.root.levels image) key)) ≡ find_entry (shown_in image) key
find_shown index blocks image key h =
    let table = index_table index in
    let levels = levels_map index.root.levels image in
    let rising : is_rising table ≡ true = is_rising-merged index.table (older_entries index.older) h.split.rising in
    let runs = runs_rise image (infos_of index.root.levels) in
    ap (λ (o : Option Entry). unmarked (first_of o (find_entry levels key))) (sym (find_both index blocks image key h))
    ∙ ap unmarked (sym (find-merged table levels key rising))
    ∙ sym (find_unmarked (merged table levels) key (is_rising-merged table levels runs))
    ∙ ap (λ (es : List Entry). find_entry es key) (sym (shown_at index blocks image h))

-- what is found without a mark was found
pub found_before : (shown found : Option Entry) → shown ≡ unmarked found → IsSome shown → IsSome found
found_before shown None is some = subst (λ (o : Option Entry). IsSome o) is some
found_before shown (Some e) is some = refl

-- from a key on, without marks
pub from_unmarked : (xs : List Entry) (key : List ℕ) → without_marks (entries_from xs key) ≡ entries_from (without_marks xs) key
from_unmarked [] key = refl
from_unmarked (x ∷ xs) key = by (is_below key x) (is_gone x) refl refl (from_unmarked xs key)
  where
    low : Bool → List Entry → List Entry
    low b es = cond (not b) (x ∷ es) es

    by : (b g : Bool) → is_below key x ≡ b → is_gone x ≡ g → without_marks (entries_from xs key) ≡ entries_from (without_marks xs) key
        → without_marks (cond (not b) (x ∷ entries_from xs key) (entries_from xs key)) ≡ entries_from (cond (not g) (x ∷ without_marks xs) (without_marks xs)) key
    by true true e f rest = rest
    by true false e f rest = rest ∙ sym (ap (λ (b : Bool). cond (not b) (x ∷ entries_from (without_marks xs) key) (entries_from (without_marks xs) key)) e)
    by false true e f rest = ap (λ (g : Bool). cond (not g) (x ∷ without_marks (entries_from xs key)) (without_marks (entries_from xs key))) f ∙ rest
    by false false e f rest =
        ap (λ (g : Bool). cond (not g) (x ∷ without_marks (entries_from xs key)) (without_marks (entries_from xs key))) f
        ∙ ap (λ (es : List Entry). x ∷ es) rest
        ∙ sym (ap (λ (b : Bool). cond (not b) (x ∷ entries_from (without_marks xs) key) (entries_from (without_marks xs) key)) e)

pub page_shown : (index : Index) (blocks : ℕ) (image : Image) (key : List ℕ) → IsIndex index blocks image → without_marks (entries_from (merged (index_table index) (levels_map index.root.levels image)) key) ≡ entries_from (shown_in image) key
page_shown index blocks image key h = from_unmarked (merged (index_table index) (levels_map index.root.levels image)) key ∙ ap (λ (es : List Entry). entries_from es key) (sym (shown_at index blocks image h))

-- ---- a table from a key on over levels

few_from : (xs : List Entry) (key : List ℕ) → length (entries_from xs key) ≤ length xs
few_from [] key = omega arith
few_from (x ∷ xs) key = by (is_below key x) (few_from xs key)
  where
    by : (b : Bool) → length (entries_from xs key) ≤ length xs → length (cond (not b) (x ∷ entries_from xs key) (entries_from xs key)) ≤ Rattle.std.proofs.Common.suc (length xs)
    by true rest = omega arith
    by false rest = omega arith

all_stand : (levels : Levels) (blocks : ℕ) (image : Image) → StandLevels levels blocks image → StandRuns (all_runs levels) blocks image
all_stand levels blocks image h = stand_join levels.zero _ blocks image h.zero (stand_join levels.one levels.base blocks image h.one h.base)

-- all entries of a table from a key on
pub all_from : (table entries : List Entry) (key : List ℕ) (most : ℕ) → most ≡ length table → entries ≡ take most (entries_from table key) → entries ≡ entries_from table key
all_from table entries key most len is = is ∙ take_all most (entries_from table key) (omega (arith, few_from table key, len))

pub from_few : (table entries : List Entry) (key : List ℕ) → entries ≡ entries_from table key → length table ≤ 1024 → length entries ≤ 1024
from_few table entries key is few = omega (arith, ap (λ (es : List Entry). length es) is, few_from table key, few)

pub stream_rests : (newer older entries rest : List Entry) (levels : Levels) (blocks : ℕ) (image : Image) (key : List ℕ) (runs : List Rattle.kssd_run.specs.declared.reader.Run.Run) → StandLevels levels blocks image → is_rising older ≡ true → entries ≡ merged (entries_from newer key) (entries_from older key) → runs ≡ all_runs levels
    → rest ≡ merged entries (over image (Some key) runs []) → rest ≡ entries_from (merged (merged newer older) (levels_map levels image)) key
stream_rests newer older entries rest levels blocks image key runs stand rising is runs_are given =
    let table = merged newer older in
    let all : entries ≡ entries_from table key = is ∙ sym (from_merged newer older key rising) in
    given
    ∙ (λ i. merged (all i) (over image (Some key) (runs_are i) []))
    ∙ ap (merged (entries_from table key)) (over_from (all_runs levels) key blocks image (all_stand levels blocks image stand))
    ∙ sym (from_merged table (levels_map levels image) key (runs_rise image (infos_of levels)))

pub put_over_is : (newer older first all copies : List Entry) → is_rising older ≡ true → first ≡ merged older [] → all ≡ merged newer first → copies ≡ all → copies ≡ merged newer older
put_over_is newer older first all copies rising first_is all_is is = is ∙ all_is ∙ ap (merged newer) (first_is ∙ merge_alone older rising)
