-- Reading on: a run page by page, and two sources as one.
use Rattle.std.proofs.Common.{◌≡◌, ◌≢◌, ◌∙◌, ℕ, zero, suc, ◌+◌, ◌-◌, ◌<◌, ◌≤◌, true, List, [], ◌∷◌, ◌++◌, length, drop, Option, Some, None, refl, sym, ap, subst, arith, inl, inr}
use Rattle.std.proofs.lemmas.Bool.{cases_lt}
use Rattle.std.specs.Prelude.{take, slice_get}
use Rattle.std.proofs.lemmas.List.{drop_all, take_all, take_at, append-nil}
use Rattle.kv_nand.specs.Flash.{Image}
use Rattle.kssd_entry.specs.declared.entry.Entry.{Entry}
use Rattle.kssd_model.specs.Rising.{is_rising, is_below}
use Rattle.kssd_model.specs.RunPages.{joined, page_entries, run_entries}
use Rattle.kssd_model.proofs.RisingEntries.{is_rising-drop, is_rising-filter}
use Rattle.kssd_merge.specs.Merge.{IsNext}
use Rattle.kssd_run.specs.declared.reader.Run.{Run}
use Rattle.kssd_run.specs.Run.{run_info}
use Rattle.kssd_run.specs.Pages.{pages_behind}
use Rattle.kssd_run.proofs.Seeking.{behind_first}
use Rattle.kssd_levels.specs.declared.reader.RunReader.{RunReader}
use Rattle.kssd_levels.specs.Reader.{behind_in, reader_rest, StandsIn, StandsReader, entries_at}
use Rattle.kssd_levels.specs.Two.{with_next}
use Rattle.kssd_levels.specs.First.{AreFirst}

-- ---- two sources

pub next_rest : (before after : List Entry) (next : Option Entry) → IsNext before next after → with_next next after ≡ before
next_rest before after None h = h.1 ∙ sym h.0
next_rest before after (Some e) h = sym h

pub next_ended : (before after : List Entry) (next : Option Entry) → IsNext before next after → next ≡ None → after ≡ []
next_ended before after None h e = h.1
next_ended before after (Some x) h e = absurd cc

-- what is behind the next entry, when it is passed
pub passed_next : (next : Option Entry) (later : List Entry) → (next ≡ None → later ≡ []) → with_next next later ≢ [] → later ≡ drop 1 (with_next next later)
passed_next None later ended some = absurd (some (ended refl))
passed_next (Some e) later ended some = refl

-- ---- a run

-- the next page and those behind it
pub page_first : (page : ℕ → List Entry) (next pages : ℕ) → next < pages → page next ++ pages_behind page (next + 1) (pages - (next + 1)) ≡ pages_behind page next (pages - next)
page_first page next pages lt =
    let e : pages - next ≡ suc (pages - (next + 1)) = omega arith in
    sym (behind_first page next (pages - (next + 1))) ∙ sym (ap (pages_behind page next) e)

pub loaded_page : (image : Image) (o : Option Run) (run : Run) (next : ℕ) (page : List Entry) → o ≡ Some run → next < (run_info run).pages → page ≡ page_entries image (run_info run).number (run_info run).blocks next → page ++ behind_in image o (next + 1) ≡ behind_in image o next
loaded_page image o run next page e lt is =
    ap (λ (xs : List Entry). xs ++ behind_in image o (next + 1)) is
    ∙ ap (λ (p : Option Run). page_entries image (run_info run).number (run_info run).blocks next ++ behind_in image p (next + 1)) e
    ∙ page_first (page_entries image (run_info run).number (run_info run).blocks) next (run_info run).pages lt
    ∙ sym (ap (λ (p : Option Run). behind_in image p next) e)

all_pages : (page : ℕ → List Entry) (n : ℕ) → pages_behind page 0 n ≡ joined page n
all_pages page zero = refl
all_pages page (suc n) = let e : 0 + n ≡ n = omega arith in ap (λ (xs : List Entry). xs ++ page (0 + n)) (all_pages page n) ∙ ap (λ (i : ℕ). joined page n ++ page i) e

-- all pages of a run are its entries
pub all_behind : (image : Image) (o : Option Run) → behind_in image o 0 ≡ entries_at image None o
all_behind image None = refl
all_behind image (Some run) =
    let e : (run_info run).pages - 0 ≡ (run_info run).pages = omega arith in
    ap (pages_behind (page_entries image (run_info run).number (run_info run).blocks) 0) e ∙ all_pages (page_entries image (run_info run).number (run_info run).blocks) (run_info run).pages

-- the entries of a run rise, from a key on too
pub rises_at : (image : Image) (device : ℕ) (from : Option (List ℕ)) (o : Option Run) → StandsIn o device image → is_rising (entries_at image from o) ≡ true
rises_at image device None None h = refl
rises_at image device (Some key) None h = refl
rises_at image device None (Some run) h = h.run_in.rising
rises_at image device (Some key) (Some run) h = is_rising-filter (λ e. Rattle.std.specs.Prelude.not (is_below key e)) (run_entries image (run_info run)) h.run_in.rising

-- a reader that was opened
pub opened : (image : Image) (device : ℕ) (from : Option (List ℕ)) (o : Option Run) (reader : RunReader) → StandsIn o device image → reader.run ≡ o → (drop reader.passed reader.page ≡ [] → behind_in image reader.run reader.next ≡ []) → reader_rest reader image ≡ entries_at image from o → StandsReader reader device image
opened image device from o reader h same loaded rest = record {
  run = subst (λ (p : Option Run). StandsIn p device image) (sym same) h;
  loaded = loaded;
  rising = ap is_rising rest ∙ rises_at image device from o h;
}

-- there is an entry in the page where there is any
pub within_page : (reader : RunReader) (device : ℕ) (image : Image) → StandsReader reader device image → reader_rest reader image ≢ [] → reader.passed < length reader.page
within_page reader device image h some =
    elim (cases_lt reader.passed (length reader.page)) [
      | inl lt ↦ lt
      | inr le ↦
          let none : drop reader.passed reader.page ≡ [] = drop_all reader.passed reader.page le in
          absurd (some (ap (λ (xs : List Entry). xs ++ behind_in image reader.run reader.next) none ∙ h.loaded none))
    ]

drop_front : (xs ys : List Entry) (i : ℕ) → i < length xs → drop 1 (drop i xs ++ ys) ≡ drop (i + 1) xs ++ ys
drop_front [] ys i lt = absurd (omega arith)
drop_front (x ∷ xs) ys zero lt = refl
drop_front (x ∷ xs) ys (suc i) lt = let e : suc i + 1 ≡ suc (i + 1) = omega arith in drop_front xs ys i (omega arith) ∙ ap (λ (n : ℕ). drop n (x ∷ xs) ++ ys) (sym e)

-- the entry passed was not the last of its page
pub passed_in_page : (reader : RunReader) (image : Image) → reader.passed < length reader.page → drop (reader.passed + 1) reader.page ++ behind_in image reader.run reader.next ≡ drop 1 (reader_rest reader image)
passed_in_page reader image lt = sym (drop_front reader.page (behind_in image reader.run reader.next) reader.passed lt)

-- it was
pub passed_last : (reader : RunReader) (image : Image) → reader.passed < length reader.page → length reader.page ≤ reader.passed + 1 → behind_in image reader.run reader.next ≡ drop 1 (reader_rest reader image)
passed_last reader image lt le =
    sym (ap (λ (xs : List Entry). xs ++ behind_in image reader.run reader.next) (drop_all (reader.passed + 1) reader.page le))
    ∙ passed_in_page reader image lt

some_left : (xs : List Entry) (i : ℕ) → i < length xs → drop i xs ≡ [] → ⊥
some_left [] i lt e = omega arith
some_left (x ∷ xs) zero lt e = cc
some_left (x ∷ xs) (suc i) lt e = some_left xs i (omega arith) e

-- a reader whose page has more
pub passes_in_page : (reader : RunReader) (device : ℕ) (image : Image) → StandsReader reader device image → reader.passed + 1 < length reader.page → StandsReader (record reader { passed = reader.passed + 1 }) device image
passes_in_page reader device image h lt = record {
  run = h.run;
  loaded = λ e. absurd (some_left reader.page (reader.passed + 1) lt e);
  rising = ap is_rising (passed_in_page reader image (omega arith)) ∙ is_rising-drop 1 (reader_rest reader image) h.rising;
}

-- a reader that read its next page
pub passes_page : (old new : RunReader) (device : ℕ) (image : Image) → StandsReader old device image → new.run ≡ old.run → (drop new.passed new.page ≡ [] → behind_in image new.run new.next ≡ []) → reader_rest new image ≡ drop 1 (reader_rest old image) → StandsReader new device image
passes_page old new device image h same loaded rest = record {
  run = subst (λ (p : Option Run). StandsIn p device image) (sym same) h.run;
  loaded = loaded;
  rising = ap is_rising rest ∙ is_rising-drop 1 (reader_rest old image) h.rising;
}

-- ---- the first entries of a source

-- the end has come
pub all_first : (all found rest : List Entry) → all ≡ found ++ rest → slice_get rest 0 ≡ None → AreFirst found all
all_first all found [] is h =
    let same : all ≡ found = is ∙ append-nil found in
    record {
      front = sym (take_all (length found) all (omega (arith, ap length same)) ∙ same);
      some = λ e. same ∙ e;
    }
all_first all found (x ∷ rest) is h = absurd cc

-- there are some
pub some_first : (all found rest : List Entry) → all ≡ found ++ rest → 0 < length found → AreFirst found all
some_first all found rest is some = record {
  front = sym (ap (take (length found)) is ∙ take_at found rest (length found) refl);
  some = λ e. absurd (omega (arith, ap length e));
}
