-- The entries from a key on, of runs over runs.
use Rattle.std.proofs.Common.{◌≡◌, ◌∙◌, ℕ, Bool, true, false, cond, not, List, [], ◌∷◌, Some, None, refl, sym, ap}
use Rattle.std.proofs.lemmas.Bool.{and_parts, and_from, false≢true}
use Rattle.std.specs.Ordering.{is_lt}
use Rattle.std.specs.declared.cmp.Ordering.{Ordering}
use Rattle.std.specs.declared.cmp.Ordering.TheVariants.{Less, Equal, Greater}
use Rattle.kv_nand.specs.Flash.{Image}
use Rattle.kssd_entry.specs.declared.entry.Entry.{Entry}
use Rattle.kssd_entry.specs.Spelling.{key_of}
use Rattle.kssd_model.specs.Rising.{is_rising, is_below, key_cmp, by_order, put_entry, merged, entries_from}
use Rattle.kssd_model.specs.RunPages.{run_entries}
use Rattle.kssd_model.proofs.RisingEntries.{is_above_all, above_first, is_rising-put, same_left}
use Rattle.kssd_image.specs.Stages.{runs_map}
use Rattle.kssd_run.specs.declared.reader.Run.{Run}
use Rattle.kssd_run.specs.Run.{run_info}
use Rattle.kssd_levels.specs.Runs.{infos_in, StandRuns}
use Rattle.kssd_levels.specs.Over.{over}
use Rattle.kssd_levels.proofs.Lookups.{rising_runs}

less : (o : Ordering) → is_lt o ≡ true → o ≡ Less
less Less h = refl
less Equal h = absurd (false≢true h)
less Greater h = absurd (false≢true h)

-- an entry below all others comes first
put_first : (e : Entry) (xs : List Entry) → is_above_all (key_of e) xs ≡ true → put_entry xs e ≡ e ∷ xs
put_first e [] h = refl
put_first e (x ∷ xs) h = ap (λ (o : Ordering). by_order o (e ∷ x ∷ xs) (e ∷ xs) (x ∷ put_entry xs e)) (less _ (and_parts _ _ h).0)

above_kept : (key from : List ℕ) (xs : List Entry) → is_above_all key xs ≡ true → is_above_all key (entries_from xs from) ≡ true
above_kept key from [] h = refl
above_kept key from (x ∷ xs) h = by (not (is_below from x)) (above_kept key from xs (and_parts _ _ h).1)
  where
    by : (b : Bool) → is_above_all key (entries_from xs from) ≡ true → is_above_all key (cond b (x ∷ entries_from xs from) (entries_from xs from)) ≡ true
    by true rest = and_from _ _ (and_parts _ _ h).0 rest
    by false rest = rest

from_put : (xs : List Entry) (e : Entry) (key : List ℕ) → is_rising xs ≡ true → entries_from (put_entry xs e) key ≡ cond (not (is_below key e)) (put_entry (entries_from xs key) e) (entries_from xs key)
from_put [] e key rising = refl
from_put (x ∷ xs) e key rising = by (from_put xs e key (and_parts _ _ rising).1) (key_cmp (key_of e) (key_of x)) refl
  where
    kept : List Entry
    kept = entries_from xs key

    -- with and without the first, and the entry put
    at : Bool → Bool → List Entry
    at b c = cond c (put_entry (cond b (x ∷ kept) kept) e) (cond b (x ∷ kept) kept)

    first : (c : Bool) → is_above_all (key_of e) (entries_from (x ∷ xs) key) ≡ true → cond c (e ∷ entries_from (x ∷ xs) key) (entries_from (x ∷ xs) key) ≡ cond c (put_entry (entries_from (x ∷ xs) key) e) (entries_from (x ∷ xs) key)
    first true h = sym (put_first e (entries_from (x ∷ xs) key) h)
    first false h = refl

    same : (b : Bool) → key_cmp (key_of e) (key_of x) ≡ Equal → cond b (e ∷ kept) kept ≡ cond b (put_entry (cond b (x ∷ kept) kept) e) (cond b (x ∷ kept) kept)
    same true h = sym (ap (λ (o : Ordering). by_order o (e ∷ x ∷ kept) (e ∷ kept) (x ∷ put_entry kept e)) h)
    same false h = refl

    later : (b c : Bool) (rest : List Entry) → key_cmp (key_of e) (key_of x) ≡ Greater → rest ≡ cond c (put_entry kept e) kept → cond b (x ∷ rest) rest ≡ cond c (put_entry (cond b (x ∷ kept) kept) e) (cond b (x ∷ kept) kept)
    later true true rest h is = ap (λ (t : List Entry). x ∷ t) is ∙ sym (ap (λ (o : Ordering). by_order o (e ∷ x ∷ kept) (e ∷ kept) (x ∷ put_entry kept e)) h)
    later true false rest h is = ap (λ (t : List Entry). x ∷ t) is
    later false true rest h is = is
    later false false rest h is = is

    by : entries_from (put_entry xs e) key ≡ cond (not (is_below key e)) (put_entry (entries_from xs key) e) (entries_from xs key) → (o : Ordering) → key_cmp (key_of e) (key_of x) ≡ o → entries_from (by_order o (e ∷ x ∷ xs) (e ∷ xs) (x ∷ put_entry xs e)) key ≡ cond (not (is_below key e)) (put_entry (entries_from (x ∷ xs) key) e) (entries_from (x ∷ xs) key)
    by ih Less h = first (not (is_below key e)) (above_kept (key_of e) key (x ∷ xs) (above_first (key_of e) x xs rising h))
    by ih Equal h =
        same (not (is_below key e)) h
        ∙ ap (λ (o : Ordering). cond (not (is_below key e)) (put_entry (cond (not (is_lt o)) (x ∷ kept) kept) e) (cond (not (is_lt o)) (x ∷ kept) kept)) (same_left (key_of e) (key_of x) key h)
    by ih Greater h = later (not (is_below key x)) (not (is_below key e)) (entries_from (put_entry xs e) key) h ih

pub from_merged : (newer older : List Entry) (key : List ℕ) → is_rising older ≡ true → entries_from (merged newer older) key ≡ merged (entries_from newer key) (entries_from older key)
from_merged [] older key rising = refl
from_merged (a ∷ newer) older key rising =
    from_merged newer (put_entry older a) key (is_rising-put older a rising)
    ∙ ap (merged (entries_from newer key)) (from_put older a key rising)
    ∙ by (not (is_below key a))
  where
    by : (b : Bool) → merged (entries_from newer key) (cond b (put_entry (entries_from older key) a) (entries_from older key)) ≡ merged (cond b (a ∷ entries_from newer key) (entries_from newer key)) (entries_from older key)
    by true = refl
    by false = refl

-- runs from a key on over nothing are the newest entries from there
pub over_from : (runs : List Run) (key : List ℕ) (device : ℕ) (image : Image) → StandRuns runs device image → over image (Some key) runs [] ≡ entries_from (runs_map image (infos_in runs)) key
over_from [] key device image h = refl
over_from (run ∷ runs) key device image h =
    ap (merged (entries_from (run_entries image (run_info run)) key)) (over_from runs key device image h.1)
    ∙ sym (from_merged (run_entries image (run_info run)) (runs_map image (infos_in runs)) key (rising_runs runs device image h.1))

-- whole runs over nothing are the newest entries
pub over_all : (runs : List Run) (image : Image) → over image None runs [] ≡ runs_map image (infos_in runs)
over_all [] image = refl
over_all (run ∷ runs) image = ap (merged (run_entries image (run_info run))) (over_all runs image)
