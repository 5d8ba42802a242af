-- Looking keys up in runs over runs.
use Rattle.std.proofs.Common.{◌≡◌, ◌∙◌, ℕ, Bool, true, false, cond, not, List, [], ◌∷◌, ◌++◌, Option, Some, None, refl, sym, ap}
use Rattle.std.proofs.lemmas.Bool.{and_parts}
use Rattle.std.specs.declared.cmp.Ordering.TheVariants.{Equal}
use Rattle.kv_nand.specs.Flash.{Image}
use Rattle.kssd_entry.specs.declared.entry.Entry.{Entry}
use Rattle.kssd_entry.specs.declared.entry.Entry.TheVariants.{Put, At, Gone}
use Rattle.kssd_entry.specs.Spelling.{key_of}
use Rattle.kssd_model.specs.Rising.{is_rising, is_gone, has_key, find_entry, first_of}
use Rattle.kssd_model.specs.RunPages.{run_entries}
use Rattle.kssd_model.proofs.RisingEntries.{find-merged, is_rising-merged, find_above, above_same, has_key_equal, turned}
use Rattle.kssd_image.specs.Stages.{runs_map, without_marks}
use Rattle.kssd_run.specs.declared.reader.Run.{Run}
use Rattle.kssd_run.specs.Run.{run_info}
use Rattle.kssd_levels.specs.Runs.{infos_in, StandRuns}
use Rattle.kssd_levels.specs.Levels.{unmarked}

-- the newest entries of these runs rise
pub rising_runs : (runs : List Run) (device : ℕ) (image : Image) → StandRuns runs device image → is_rising (runs_map image (infos_in runs)) ≡ true
rising_runs [] device image h = refl
rising_runs (run ∷ runs) device image h = is_rising-merged (run_entries image (run_info run)) (runs_map image (infos_in runs)) (rising_runs runs device image h.1)

first_then : (a b c : Option Entry) → first_of a (first_of b c) ≡ first_of (first_of a b) c
first_then None b c = refl
first_then (Some e) b c = refl

-- a key is in the newer runs, or else in the older ones
pub find_over : (newer older : List Run) (device : ℕ) (image : Image) (key : List ℕ) → StandRuns newer device image → find_entry (runs_map image (infos_in (newer ++ older))) key ≡ first_of (find_entry (runs_map image (infos_in newer)) key) (find_entry (runs_map image (infos_in older)) key)
find_over [] older device image key h = refl
find_over (run ∷ newer) older device image key h =
    let entries = run_entries image (run_info run) in
    let a = find_entry entries key in
    let b = find_entry (runs_map image (infos_in newer)) key in
    let c = find_entry (runs_map image (infos_in older)) key in
    find-merged entries (runs_map image (infos_in (newer ++ older))) key h.0.run_in.rising
    ∙ ap (first_of a) (find_over newer older device image key h.1)
    ∙ first_then a b c
    ∙ ap (λ (o : Option Entry). first_of o c) (sym (find-merged entries (runs_map image (infos_in newer)) key h.0.run_in.rising))

-- on which level a key is
pub find_levels : (zero one base : List Run) (device : ℕ) (image : Image) (key : List ℕ) → StandRuns zero device image → StandRuns one device image → find_entry (runs_map image (infos_in (zero ++ (one ++ base)))) key ≡ first_of (find_entry (runs_map image (infos_in zero)) key) (first_of (find_entry (runs_map image (infos_in one)) key) (find_entry (runs_map image (infos_in base)) key))
find_levels zero one base device image key h g =
    find_over zero (one ++ base) device image key h
    ∙ ap (first_of (find_entry (runs_map image (infos_in zero)) key)) (find_over one base device image key g)

by_mark : (x : Entry) (xs : List Entry) (key : List ℕ) (rest later : Option Entry) → rest ≡ unmarked later → (has_key key x ≡ true → later ≡ None) → (found : Bool) → has_key key x ≡ found → (o : Option Entry) → (is_gone x ≡ true → o ≡ rest) → (is_gone x ≡ false → o ≡ cond found (Some x) rest) → o ≡ unmarked (cond found (Some x) later)
by_mark (Put k v) xs key rest later e none true h o gone kept = kept refl
by_mark (Put k v) xs key rest later e none false h o gone kept = kept refl ∙ e
by_mark (At k p n) xs key rest later e none true h o gone kept = kept refl
by_mark (At k p n) xs key rest later e none false h o gone kept = kept refl ∙ e
by_mark (Gone k) xs key rest later e none true h o gone kept = gone refl ∙ e ∙ ap unmarked (none h)
by_mark (Gone k) xs key rest later e none false h o gone kept = gone refl ∙ e

gone_first : (x : Entry) (xs : List Entry) (key : List ℕ) → is_gone x ≡ true → find_entry (without_marks (x ∷ xs)) key ≡ find_entry (without_marks xs) key
gone_first x xs key h = ap (λ b. find_entry (cond (not b) (x ∷ without_marks xs) (without_marks xs)) key) h

kept_first : (x : Entry) (xs : List Entry) (key : List ℕ) → is_gone x ≡ false → find_entry (without_marks (x ∷ xs)) key ≡ cond (has_key key x) (Some x) (find_entry (without_marks xs) key)
kept_first x xs key h = ap (λ b. find_entry (cond (not b) (x ∷ without_marks xs) (without_marks xs)) key) h

-- without deletion marks a key has its entry, unless that was a mark
pub find_unmarked : (entries : List Entry) (key : List ℕ) → is_rising entries ≡ true → find_entry (without_marks entries) key ≡ unmarked (find_entry entries key)
find_unmarked [] key rising = refl
find_unmarked (x ∷ xs) key rising =
    let p = and_parts _ _ rising in
    by_mark x xs key (find_entry (without_marks xs) key) (find_entry xs key) (find_unmarked xs key p.1)
    (λ has. find_above key xs (above_same key (key_of x) xs (turned (key_of x) key Equal (has_key_equal key x has)) p.0))
    (has_key key x) refl (find_entry (without_marks (x ∷ xs)) key) (gone_first x xs key) (kept_first x xs key)

pub unmarked_twice : (o : Option Entry) → unmarked (unmarked o) ≡ unmarked o
unmarked_twice None = refl
unmarked_twice (Some (Put k v)) = refl
unmarked_twice (Some (At k p n)) = refl
unmarked_twice (Some (Gone k)) = refl

-- marks of the older one don't matter where marks don't
pub unmarked_first : (a b : Option Entry) → unmarked (first_of a (unmarked b)) ≡ unmarked (first_of a b)
unmarked_first None b = unmarked_twice b
unmarked_first (Some e) b = refl
