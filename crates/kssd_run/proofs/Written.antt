-- The run of what was fed.
use Rattle.std.proofs.Common.{◌≡◌, ◌∙◌, ℕ, zero, suc, ◌+◌, ◌*◌, ◌/◌, ◌%◌, ◌<◌, ◌≤◌, false, List, [], ◌++◌, length, get_or, take, Option, refl, sym, ap, subst, arith}
use Rattle.std.specs.Prelude.{is_some, unwrap_or}
use Rattle.std.proofs.lemmas.Bool.{ltb-false}
use Rattle.std.proofs.lemmas.List.{append-nil, get_or-take, length-take-le, nil_from_length}
use Rattle.kv_nand.specs.Flash.{Image}
use Rattle.kssd_entry.specs.declared.entry.Entry.{Entry}
use Rattle.kssd_entry.specs.Packing.{Packed}
use Rattle.kssd_model.specs.declared.runs.RunInfo.{RunInfo}
use Rattle.kssd_model.specs.Rising.{is_rising}
use Rattle.kssd_model.specs.RunPages.{run_page, run_page_in, page_of_run, page_entries, joined, first_key, run_entries}
use Rattle.kssd_run.specs.declared.writer.RunWriter.{RunWriter}
use Rattle.kssd_run.specs.declared.reader.Run.{Run}
use Rattle.kssd_run.specs.Writing.{Writes, IsWritten, IsFullFor, fills_page}
use Rattle.kssd_run.proofs.Taking.{nothing_waits}

pub joined_same : (f g : ℕ → List Entry) (n : ℕ) → ((i : ℕ) → i < n → f i ≡ g i) → joined f n ≡ joined g n
joined_same f g zero h = refl
joined_same f g (suc n) h = λ t. joined_same f g n (λ i lt. h i (omega arith)) t ++ h n (omega arith) t

run_page-take : (blocks : List ℕ) (n i : ℕ) → i / 32 < n → run_page (take n blocks) i ≡ run_page blocks i
run_page-take blocks n i lt = ap (λ (b : ℕ). 32 * b + i % 32) (get_or-take n blocks (i / 32) 0 lt)

pub is_written : (writer : RunWriter) (run : Run) (n : ℕ) → writer.waits ≡ false → fills_page writer ≡ false → n ≡ (writer.info.pages + 31) / 32 → run.info ≡ record (writer.info) { blocks = take n writer.info.blocks } → run.firsts ≡ writer.firsts → IsWritten writer run
is_written writer run n w f n_is info firsts = record {
  level = ap (λ (r : RunInfo). r.level) info;
  number = ap (λ (r : RunInfo). r.number) info;
  pages = pages_are;
  fed = ap (λ (r : RunInfo). r.entries) info;
  few = omega (arith, writer.sound.least, pages_are, ap (λ (r : RunInfo). r.entries) info);
  housed = ap (λ (r : RunInfo). length r.blocks) info ∙ length-take-le n writer.info.blocks housed ∙ n_is ∙ ap (λ (p : ℕ). (p + 31) / 32) (sym pages_are);
  blocks = ap (λ (r : RunInfo). r.blocks) info ∙ ap (λ (k : ℕ). take k writer.info.blocks) (n_is ∙ ap (λ (p : ℕ). (p + 31) / 32) (sym pages_are));
  entries = λ image fed h. whole image ∙ sym (fed_is image fed h);
  full = λ image fed h i lt. subst (λ (es : List Entry). IsFullFor (page_entries image run.info.number run.info.blocks i) es) (sym (same_entries image (i + 1) (omega (arith, lt, pages_are)))) (subst (λ (es : List Entry). IsFullFor es (page_entries image writer.info.number writer.info.blocks (i + 1))) (sym (same_entries image i (omega (arith, lt, pages_are)))) (h.full i (omega (arith, lt, pages_are))));
  stands = λ device image fed h near. record {
    run_in = record {
      pages = λ i lt. ap is_some (ap (λ (r : RunInfo). page_of_run image r.number r.blocks i) info ∙ same_page image i (omega (arith, pages_are))) ∙ h.pages i (omega (arith, pages_are));
      filled = λ i lt. subst (λ (es : List Entry). 0 < length es) (sym (same_entries image i (omega (arith, pages_are)))) (h.filled i (omega (arith, pages_are)));
      within = λ i lt. subst (λ (p : ℕ). p < 32 * device) (sym (ap (λ (r : RunInfo). run_page r.blocks i) info ∙ run_page-take writer.info.blocks n i (omega (arith, pages_are, n_is)))) (near i (omega (arith, pages_are)));
      rising = ap is_rising (whole image ∙ sym (fed_is image fed h)) ∙ h.rising;
      count = ap length (whole image ∙ sym (fed_is image fed h)) ∙ h.count ∙ sym (ap (λ (r : RunInfo). r.entries) info);
    };
    firsts = λ i lt. ap (λ (ks : List (List ℕ)). get_or ks i []) firsts ∙ h.firsts i (omega (arith, pages_are)) ∙ ap first_key (sym (same_entries image i (omega (arith, pages_are))));
  };
}
  where
    pages_are : run.info.pages ≡ writer.info.pages
    pages_are = ap (λ (r : RunInfo). r.pages) info

    housed : n ≤ length writer.info.blocks
    housed = omega (arith, n_is, writer.sound.begun_first, writer.sound.housed)

    same_page : (image : Image) (i : ℕ) → i < writer.info.pages → page_of_run image writer.info.number (take n writer.info.blocks) i ≡ page_of_run image writer.info.number writer.info.blocks i
    same_page image i lt = ap (λ (p : ℕ). run_page_in writer.info.number i (image p)) (run_page-take writer.info.blocks n i (omega (arith, n_is)))

    same_entries : (image : Image) (i : ℕ) → i < writer.info.pages → page_entries image run.info.number run.info.blocks i ≡ page_entries image writer.info.number writer.info.blocks i
    same_entries image i lt = ap (λ (r : RunInfo). page_entries image r.number r.blocks i) info ∙ ap (λ (o : Option (List Entry)). unwrap_or o []) (same_page image i lt)

    whole : (image : Image) → run_entries image run.info ≡ joined (page_entries image writer.info.number writer.info.blocks) writer.info.pages
    whole image =
        ap (λ (p : ℕ). joined (page_entries image run.info.number run.info.blocks) p) pages_are
        ∙ joined_same (page_entries image run.info.number run.info.blocks) (page_entries image writer.info.number writer.info.blocks) writer.info.pages (same_entries image)

    fed_is : (image : Image) (fed : List Entry) → Writes writer image fed → fed ≡ joined (page_entries image writer.info.number writer.info.blocks) writer.info.pages
    fed_is image fed h =
        let none : h.waiting ≡ [] = nothing_waits writer.waits writer.waiting h.waiting h.waits w in
        let count : writer.filling.count ≤ 0 = ltb-false 0 writer.filling.count f in
        let empty : h.filling ≡ [] = nil_from_length h.filling (omega (arith, count, ap (λ (p : Packed). p.count) h.fills)) in
        h.parts ∙ (λ t. joined (page_entries image writer.info.number writer.info.blocks) writer.info.pages ++ (none t ++ empty t)) ∙ append-nil (joined (page_entries image writer.info.number writer.info.blocks) writer.info.pages)
