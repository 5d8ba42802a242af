-- A writer that takes an entry.
use Rattle.std.proofs.Common.{◌≡◌, ◌∙◌, ℕ, ◌+◌, ◌*◌, ◌<◌, ◌≤◌, Bool, true, false, List, [], ◌∷◌, ◌++◌, length, get_or, refl, sym, ap, subst, arith, length-append, append_assoc}
use Rattle.std.specs.List.{AllByRecursion}
use Rattle.std.proofs.lemmas.List.{append-nil, length_push}
use Rattle.std.proofs.lemmas.List.Concat.{flat_map-append}
use Rattle.kssd_entry.specs.declared.entry.Entry.{Entry}
use Rattle.kssd_entry.specs.declared.entry.Entry.TheVariants.{Put, At, Gone}
use Rattle.kssd_entry.specs.declared.packer.Offer.{Offer}
use Rattle.kssd_entry.specs.declared.packer.Offer.TheVariants.{Taken, NoRoom}
use Rattle.kssd_entry.specs.Packing.{Packed, packed, with_entry, OfferIs}
use Rattle.kssd_entry.specs.Spelling.{size_of, entry_bytes, entries_bytes, FitsEntry}
use Rattle.kssd_entry.proofs.Filling.{length-entry_bytes}
use Rattle.kssd_model.specs.declared.runs.RunInfo.{RunInfo}
use Rattle.kssd_run.specs.Write.{IsWriter, TakesEntry, waiting_pages}
use Rattle.kssd_run.specs.Writing.{Writes, AreWaiting, IsFullFor, AreFullPages}
use Rattle.kssd_run.specs.declared.writer.RunWriter.{RunWriter}
use Rattle.kv_nand.specs.Flash.{Image, Erased}
use Rattle.kssd_model.specs.Rising.{is_rising}
use Rattle.kssd_model.specs.RunPages.{run_page, page_of_run, page_entries, joined, first_key}
use Rattle.std.specs.Prelude.{is_some}

fits_size : (e : Entry) → FitsEntry e → (1 ≤ size_of e) × (size_of e ≤ 396)
fits_size (Put key value) h = (omega arith, omega (arith, h.0.0, h.0.1, h.1))
fits_size (At key page n) h = (omega arith, omega (arith, h.0.0, h.0.1))
fits_size (Gone key) h = (omega arith, omega (arith, h.0, h.1))

pub entry_size : (e : Entry) → FitsEntry e → (1 ≤ length (entry_bytes e)) × (length (entry_bytes e) ≤ 396)
entry_size e h = let p = fits_size e h in (omega (arith, length-entry_bytes e, p.0), omega (arith, length-entry_bytes e, p.1))

abbrev nothing : Packed
nothing = record { bytes = []; count = 0 }

-- an entry fits into a page without entries
pub first_fits : (before after : Packed) (e : Entry) (offer : Offer) → before ≡ nothing → FitsEntry e → OfferIs before e offer after → after ≡ with_entry nothing e
first_fits before after e Taken none fits h = h.1 ∙ ap (λ (p : Packed). with_entry p e) none
first_fits before after e NoRoom none fits h = absurd (omega (arith, h.0, ap (λ (p : Packed). length p.bytes) none, (entry_size e fits).1))

-- the numbers of the writer
pub writer_takes : (info new_info : RunInfo) (firsts : List (List ℕ)) (waiting filling new_waiting new_filling : Packed) (begun : ℕ) (e : Entry) (closes : Bool) (waits closed : Bool) → IsWriter info firsts waiting filling waits closed begun → waits ≡ false → closed ≡ false → FitsEntry e
    → TakesEntry waiting filling e closes new_waiting new_filling → new_info ≡ record info { entries = info.entries + 1 } → IsWriter new_info firsts new_waiting new_filling closes closed begun
writer_takes info new_info firsts waiting filling new_waiting new_filling begun e closes waits closed h w o fits takes is =
    subst (λ (i : RunInfo). IsWriter i firsts new_waiting new_filling closes closed begun) (sym is) (by closes takes)
  where
    size : (1 ≤ length (entry_bytes e)) × (length (entry_bytes e) ≤ 396)
    size = entry_size e fits

    none : waiting_pages waits ≡ 0
    none = ap waiting_pages w

    by : (closes : Bool) → TakesEntry waiting filling e closes new_waiting new_filling → IsWriter (record info { entries = info.entries + 1 }) firsts new_waiting new_filling closes closed begun
    by false t =
        let count : new_filling.count ≡ filling.count + 1 = ap (λ (p : Packed). p.count) t.2 in
        let bytes : length new_filling.bytes ≡ length filling.bytes + length (entry_bytes e) = ap (λ (p : Packed). length p.bytes) t.2 ∙ length-append filling.bytes (entry_bytes e) in
        record {
          counted = h.counted;
          number = h.number;
          begun_first = h.begun_first;
          begun_last = h.begun_last;
          housed = h.housed;
          few = h.few;
          fill_size = omega (arith, count, bytes, h.fill_size, size.1);
          fill_count = omega (arith, count, bytes, h.fill_count, size.0);
          fill_room = omega (arith, bytes, t.0);
          most = omega (arith, count, h.most, none);
          least = omega (arith, count, h.full o, none);
          full = λ _. omega (arith, count, h.full o, none);
          some = λ _ _. omega (arith, count);
          shut = λ c. absurd (let e : true ≡ false = sym c ∙ o in cc);
        }
    by true t =
        let count : new_filling.count ≡ 1 = ap (λ (p : Packed). p.count) t.2 in
        let bytes : length new_filling.bytes ≡ length (entry_bytes e) = ap (λ (p : Packed). length p.bytes) t.2 in
        record {
          counted = h.counted;
          number = h.number;
          begun_first = h.begun_first;
          begun_last = h.begun_last;
          housed = h.housed;
          few = h.few;
          fill_size = omega (arith, count, bytes, size.1);
          fill_count = omega (arith, count, bytes, size.0);
          fill_room = omega (arith, bytes, size.1);
          most = omega (arith, count, h.most, none, h.fill_count, h.fill_room);
          least = omega (arith, count, h.full o, none, h.fill_size, t.0, size.1);
          full = λ _. omega (arith, count, h.full o, none, h.fill_size, t.0, size.1);
          some = λ _ _. omega (arith, count);
          shut = λ c. absurd (let e : true ≡ false = sym c ∙ o in cc);
        }

packed_nothing : packed [] ≡ nothing
packed_nothing = refl

packed-push : (entries : List Entry) (e : Entry) → with_entry (packed entries) e ≡ packed (entries ++ e ∷ [])
packed-push entries e = λ i. record { bytes = bytes i; count = count i }
  where
    bytes : entries_bytes entries ++ entry_bytes e ≡ entries_bytes (entries ++ e ∷ [])
    bytes = ap (λ (b : List ℕ). entries_bytes entries ++ b) (sym (append-nil (entry_bytes e))) ∙ sym (flat_map-append entry_bytes entries (e ∷ []))

    count : length entries + 1 ≡ length (entries ++ e ∷ [])
    count = sym (length_push entries e)

fits_push : (entries : List Entry) (e : Entry) → AllByRecursion FitsEntry entries → FitsEntry e → AllByRecursion FitsEntry (entries ++ e ∷ [])
fits_push [] e h f = (f, tt)
fits_push (x ∷ entries) e h f = (h.0, fits_push entries e h.1 f)

pub nothing_waits : (waits : Bool) (packer : Packed) (entries : List Entry) → AreWaiting waits packer entries → waits ≡ false → entries ≡ []
nothing_waits true packer entries h e = absurd cc
nothing_waits false packer entries h e = h

-- a page that has no room for the first of some entries has none either when more are behind it
pub full_for_more : (page xs ys : List Entry) → 0 < length xs → IsFullFor page xs → IsFullFor page (xs ++ ys)
full_for_more page [] ys some h = absurd (omega (arith, some))
full_for_more page (x ∷ xs) ys some h = h

-- what the writer stands for
pub writes_takes : (old new : RunWriter) (image : Image) (fed : List Entry) (e : Entry) → Writes old image fed → old.waits ≡ false → old.closed ≡ false → FitsEntry e → TakesEntry old.waiting old.filling e new.waits new.waiting new.filling → is_rising (fed ++ e ∷ []) ≡ true
    → new.info ≡ record (old.info) { entries = old.info.entries + 1 } → new.firsts ≡ old.firsts → new.begun ≡ old.begun → Writes new image (fed ++ e ∷ [])
writes_takes old new image fed e h w o fits takes rising info firsts begun = by new.waits takes refl
  where
    none : h.waiting ≡ []
    none = nothing_waits old.waits old.waiting h.waiting h.waits w

    front_is : joined (page_entries image new.info.number new.info.blocks) new.info.pages ≡ joined (page_entries image old.info.number old.info.blocks) old.info.pages
    front_is = λ i. joined (page_entries image (info i).number (info i).blocks) (info i).pages

    fed_is : fed ≡ joined (page_entries image old.info.number old.info.blocks) old.info.pages ++ h.filling
    fed_is = h.parts ∙ ap (λ (ws : List Entry). joined (page_entries image old.info.number old.info.blocks) old.info.pages ++ (ws ++ h.filling)) none

    joined_up : fed ++ e ∷ [] ≡ joined (page_entries image new.info.number new.info.blocks) new.info.pages ++ (h.filling ++ e ∷ [])
    joined_up =
        ap (λ (xs : List Entry). xs ++ e ∷ []) fed_is
        ∙ append_assoc (joined (page_entries image old.info.number old.info.blocks) old.info.pages) h.filling (e ∷ [])
        ∙ ap (λ (xs : List Entry). xs ++ (h.filling ++ e ∷ [])) (sym front_is)

    count : length (fed ++ e ∷ []) ≡ new.info.entries
    count = length_push fed e ∙ ap (λ (n : ℕ). n + 1) h.count ∙ sym (ap (λ (i : RunInfo). i.entries) info)

    pages_stand : (i : ℕ) → i < new.info.pages → is_some (page_of_run image new.info.number new.info.blocks i) ≡ true
    pages_stand = subst (λ (f : RunInfo). (i : ℕ) → i < f.pages → is_some (page_of_run image f.number f.blocks i) ≡ true) (sym info) h.pages

    filled : (i : ℕ) → i < new.info.pages → 0 < length (page_entries image new.info.number new.info.blocks i)
    filled = subst (λ (f : RunInfo). (i : ℕ) → i < f.pages → 0 < length (page_entries image f.number f.blocks i)) (sym info) h.filled

    first_keys : (i : ℕ) → i < new.info.pages → get_or new.firsts i [] ≡ first_key (page_entries image new.info.number new.info.blocks i)
    first_keys = subst (λ (f : RunInfo). (i : ℕ) → i < f.pages → get_or new.firsts i [] ≡ first_key (page_entries image f.number f.blocks i)) (sym info) (λ i lt. ap (λ (ks : List (List ℕ)). get_or ks i []) firsts ∙ h.firsts i lt)

    later : (i : ℕ) → new.info.pages ≤ i → i < 32 * new.begun → image (run_page new.info.blocks i) ≡ Erased
    later = subst (λ (f : RunInfo). (i : ℕ) → f.pages ≤ i → i < 32 * new.begun → image (run_page f.blocks i) ≡ Erased) (sym info) (λ i le lt. h.later i le (omega (arith, begun)))

    full : AreFullPages (page_entries image new.info.number new.info.blocks) new.info.pages
    full = subst (λ (f : RunInfo). AreFullPages (page_entries image f.number f.blocks) f.pages) (sym info) h.full

    -- once a page was programmed, the page that is filled has entries
    fills_some : 0 < old.info.pages → 0 < length h.filling
    fills_some lt = omega (arith, lt, old.sound.some o (omega (arith, lt, old.sound.full o)), ap (λ (p : Packed). p.count) h.fills)

    last : (i : ℕ) → i + 1 ≡ old.info.pages → IsFullFor (page_entries image old.info.number old.info.blocks i) (h.filling ++ e ∷ [])
    last i is =
        full_for_more (page_entries image old.info.number old.info.blocks i) h.filling (e ∷ []) (fills_some (omega (arith, is)))
        (subst (λ (ws : List Entry). IsFullFor (page_entries image old.info.number old.info.blocks i) (ws ++ h.filling)) none (h.full_last i is))

    full_last : (i : ℕ) → i + 1 ≡ new.info.pages → IsFullFor (page_entries image new.info.number new.info.blocks i) (h.filling ++ e ∷ [])
    full_last = subst (λ (f : RunInfo). (i : ℕ) → i + 1 ≡ f.pages → IsFullFor (page_entries image f.number f.blocks i) (h.filling ++ e ∷ [])) (sym info) last

    bytes_are : length old.filling.bytes ≡ length (entries_bytes h.filling)
    bytes_are = ap (λ (p : Packed). length p.bytes) h.fills

    some : 4096 < length old.filling.bytes + length (entry_bytes e) → 0 < length h.filling
    some long = omega (arith, long, (entry_size e fits).1, old.sound.fill_size, ap (λ (p : Packed). p.count) h.fills)

    pack : with_entry old.filling e ≡ packed (h.filling ++ e ∷ [])
    pack = ap (λ (p : Packed). with_entry p e) h.fills ∙ packed-push h.filling e

    by : (closes : Bool) → TakesEntry old.waiting old.filling e closes new.waiting new.filling → new.waits ≡ closes → Writes new image (fed ++ e ∷ [])
    by false t is = record {
      waiting = [];
      filling = h.filling ++ e ∷ [];
      parts = joined_up;
      waits = subst (λ (b : Bool). AreWaiting b new.waiting []) (sym is) refl;
      fills = t.2 ∙ pack;
      fits = fits_push h.filling e h.fits fits;
      rising = rising;
      count = count;
      pages = pages_stand;
      filled = filled;
      firsts = first_keys;
      later = later;
      full = full;
      full_last = full_last;
      full_waiting = λ waits. absurd (let b : true ≡ false = sym waits ∙ is in cc);
    }
    by true t is = record {
      waiting = h.filling;
      filling = e ∷ [];
      parts = joined_up;
      waits = subst (λ (b : Bool). AreWaiting b new.waiting h.filling) (sym is) (t.1 ∙ h.fills, some t.0, omega (arith, bytes_are, old.sound.fill_room), h.fits);
      fills = t.2 ∙ packed-push [] e;
      fits = (fits, tt);
      rising = rising;
      count = count;
      pages = pages_stand;
      filled = filled;
      firsts = first_keys;
      later = later;
      full = full;
      full_last = full_last;
      full_waiting = λ _. omega (arith, bytes_are, t.0);
    }

-- what a writer without entries stands for
pub writes_nothing : (writer : RunWriter) (image : Image) → writer.info.pages ≡ 0 → writer.info.entries ≡ 0 → writer.begun ≡ 0 → writer.waits ≡ false → writer.filling ≡ packed [] → Writes writer image []
writes_nothing writer image pages entries begun waits filling = record {
  waiting = [];
  filling = [];
  parts = sym (ap (λ (n : ℕ). joined (page_entries image writer.info.number writer.info.blocks) n ++ ([] ++ [])) pages);
  waits = subst (λ (b : Bool). AreWaiting b writer.waiting []) (sym waits) refl;
  fills = filling;
  fits = tt;
  rising = refl;
  count = sym entries;
  pages = λ i lt. absurd (omega (arith, lt, pages));
  filled = λ i lt. absurd (omega (arith, lt, pages));
  firsts = λ i lt. absurd (omega (arith, lt, pages));
  later = λ i le lt. absurd (omega (arith, lt, begun));
  full = λ i lt. absurd (omega (arith, lt, pages));
  full_last = λ i e. absurd (omega (arith, e, pages));
  full_waiting = λ _. tt;
}

-- what a writer stands for once its last page is closed
pub writes_closes : (old new : RunWriter) (image : Image) (fed : List Entry) → Writes old image fed → old.waits ≡ false → 0 < old.filling.count → new.info ≡ old.info → new.firsts ≡ old.firsts → new.begun ≡ old.begun → new.waiting ≡ old.filling → new.filling ≡ packed [] → new.waits ≡ true → Writes new image fed
writes_closes old new image fed h w some info firsts begun waiting filling waits = record {
  waiting = h.filling;
  filling = [];
  parts = fed_is;
  waits = subst (λ (b : Bool). AreWaiting b new.waiting h.filling) (sym waits) (waiting ∙ h.fills, omega (arith, some, ap (λ (p : Packed). p.count) h.fills), omega (arith, bytes_are, old.sound.fill_room), h.fits);
  fills = filling;
  fits = tt;
  rising = h.rising;
  count = h.count ∙ sym (ap (λ (f : RunInfo). f.entries) info);
  pages = subst (λ (f : RunInfo). (i : ℕ) → i < f.pages → is_some (page_of_run image f.number f.blocks i) ≡ true) (sym info) h.pages;
  filled = subst (λ (f : RunInfo). (i : ℕ) → i < f.pages → 0 < length (page_entries image f.number f.blocks i)) (sym info) h.filled;
  firsts = subst (λ (f : RunInfo). (i : ℕ) → i < f.pages → get_or new.firsts i [] ≡ first_key (page_entries image f.number f.blocks i)) (sym info) (λ i lt. ap (λ (ks : List (List ℕ)). get_or ks i []) firsts ∙ h.firsts i lt);
  later = subst (λ (f : RunInfo). (i : ℕ) → f.pages ≤ i → i < 32 * new.begun → image (run_page f.blocks i) ≡ Erased) (sym info) (λ i le lt. h.later i le (omega (arith, lt, begun)));
  full = subst (λ (f : RunInfo). AreFullPages (page_entries image f.number f.blocks) f.pages) (sym info) h.full;
  full_last = subst (λ (f : RunInfo). (i : ℕ) → i + 1 ≡ f.pages → IsFullFor (page_entries image f.number f.blocks i) (h.filling ++ [])) (sym info) full_last;
  full_waiting = λ _. tt;
}
  where
    last_is : h.waiting ++ h.filling ≡ h.filling ++ []
    last_is = ap (λ (ws : List Entry). ws ++ h.filling) (nothing_waits old.waits old.waiting h.waiting h.waits w) ∙ sym (append-nil h.filling)

    fed_is : fed ≡ joined (page_entries image new.info.number new.info.blocks) new.info.pages ++ (h.filling ++ [])
    fed_is = h.parts ∙ ap (λ (xs : List Entry). joined (page_entries image old.info.number old.info.blocks) old.info.pages ++ xs) last_is ∙ ap (λ (f : RunInfo). joined (page_entries image f.number f.blocks) f.pages ++ (h.filling ++ [])) (sym info)

    bytes_are : length old.filling.bytes ≡ length (entries_bytes h.filling)
    bytes_are = ap (λ (p : Packed). length p.bytes) h.fills

    full_last : (i : ℕ) → i + 1 ≡ old.info.pages → IsFullFor (page_entries image old.info.number old.info.blocks i) (h.filling ++ [])
    full_last i e = subst (λ (xs : List Entry). IsFullFor (page_entries image old.info.number old.info.blocks i) xs) last_is (h.full_last i e)
