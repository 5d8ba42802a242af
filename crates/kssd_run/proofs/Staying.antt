-- What a run in memory keeps where its pages are as they are, and how its counts follow from one another.
use Rattle.std.proofs.Common.{◌≡◌, ◌∙◌, ℕ, ◌+◌, ◌<◌, ◌≤◌, true, List, [], ◌++◌, length, Option, zero, suc, false, inl, inr, sym, ap, subst, arith}
use Rattle.std.specs.Prelude.{is_some, unwrap_or, not, nat_eq, ◌&&◌}
use Rattle.std.specs.List.{list_any}
use Rattle.std.proofs.lemmas.Bool.{and_from, and_left, and_right, or_parts, not_from_false, cases_eq, ne_eqb}
use Rattle.std.proofs.lemmas.List.Folds.{list_any-append}
use Rattle.kv_nand.specs.Flash.{Image}
use Rattle.kssd_entry.specs.declared.entry.Entry.{Entry}
use Rattle.kssd_model.specs.declared.runs.RunInfo.{RunInfo}
use Rattle.kssd_model.specs.Rising.{is_rising, is_gone}
use Rattle.kssd_model.specs.RunPages.{run_page_in, page_of_run, page_entries, joined, first_key, run_entries, is_good_page}
use Rattle.kssd_run.specs.Run.{SamePages, RunStays, GoodRunsStay, StandingRunsAreGood}
use Rattle.kssd_run.specs.Writing.{IsFullFor, WritesStay, WriterCounts}
use Rattle.kssd_run.proofs.GoingOn.{rising_first}
use Rattle.kssd_run.proofs.Written.{joined_same}

-- ---- one page

same_page : (number : ℕ) (blocks : List ℕ) (pages : ℕ) (old new : Image) → SamePages blocks pages old new → (i : ℕ) → i < pages → page_of_run new number blocks i ≡ page_of_run old number blocks i
same_page number blocks pages old new same i lt = ap (run_page_in number i) (same i lt)

same_entries : (number : ℕ) (blocks : List ℕ) (pages : ℕ) (old new : Image) → SamePages blocks pages old new → (i : ℕ) → i < pages → page_entries new number blocks i ≡ page_entries old number blocks i
same_entries number blocks pages old new same i lt = ap (λ (o : Option (List Entry)). unwrap_or o []) (same_page number blocks pages old new same i lt)

-- a run has its entries wherever its pages are as they are
pub entries_stay : (info : RunInfo) (old new : Image) → SamePages info.blocks info.pages old new → run_entries new info ≡ run_entries old info
entries_stay info old new same = joined_same (page_entries new info.number info.blocks) (page_entries old info.number info.blocks) info.pages (same_entries info.number info.blocks info.pages old new same)

-- ---- runs

pub run_stays : RunStays
run_stays run device old new same h = (
  record {
    run_in = record {
      pages = λ i lt. ap is_some (same_page run.info.number run.info.blocks run.info.pages old new same i lt) ∙ h.run_in.pages i lt;
      filled = λ i lt. subst (λ (es : List Entry). 0 < length es) (sym (same_entries run.info.number run.info.blocks run.info.pages old new same i lt)) (h.run_in.filled i lt);
      within = h.run_in.within;
      rising = ap is_rising (entries_stay run.info old new same) ∙ h.run_in.rising;
      count = ap length (entries_stay run.info old new same) ∙ h.run_in.count;
    };
    firsts = λ i lt. h.firsts i lt ∙ ap first_key (sym (same_entries run.info.number run.info.blocks run.info.pages old new same i lt));
  },
  entries_stay run.info old new same,
)

pub good_runs_stay : GoodRunsStay
good_runs_stay info old new same h = record { pages = λ i lt. good i lt ∙ h.pages i lt; count = ap length (entries_stay info old new same) ∙ h.count }
  where
    entries : (i : ℕ) → i < info.pages → page_entries new info.number info.blocks i ≡ page_entries old info.number info.blocks i
    entries = same_entries info.number info.blocks info.pages old new same

    rises : (i : ℕ) → i < info.pages → is_rising (joined (page_entries new info.number info.blocks) (i + 1)) ≡ is_rising (joined (page_entries old info.number info.blocks) (i + 1))
    rises i lt = ap is_rising (joined_same (page_entries new info.number info.blocks) (page_entries old info.number info.blocks) (i + 1) (λ j less. entries j (omega (arith, lt, less))))

    good : (i : ℕ) → i < info.pages → is_good_page new info i ≡ is_good_page old info i
    good i lt = λ t. is_some (same_page info.number info.blocks info.pages old new same i lt t) && (rises i lt t && not (nat_eq info.level 2 && list_any is_gone (entries i lt t)))

rising_pages : (page : ℕ → List Entry) (n i : ℕ) → i ≤ n → is_rising (joined page n) ≡ true → is_rising (joined page i) ≡ true
rising_pages page zero i le h = subst (λ (k : ℕ). is_rising (joined page k) ≡ true) (let e : 0 ≡ i = omega arith in e) h
rising_pages page (suc n) i le h = elim (cases_eq i (suc n)) [
  | inl e ↦ subst (λ (k : ℕ). is_rising (joined page k) ≡ true) (sym e) h
  | inr ne ↦ rising_pages page n i (omega arith) (rising_first (joined page n) (page n) h)
]

no_mark : (page : ℕ → List Entry) (n i : ℕ) → i < n → list_any is_gone (joined page n) ≡ false → list_any is_gone (page i) ≡ false
no_mark page zero i lt h = absurd (omega arith)
no_mark page (suc n) i lt h =
    let both = or_parts _ _ (sym (list_any-append is_gone (joined page n) (page n)) ∙ h) in
    elim (cases_eq i n) [
      | inl e ↦ ap (λ (k : ℕ). list_any is_gone (page k)) e ∙ both.1
      | inr ne ↦ no_mark page n i (omega arith) both.0
    ]

pub standing_runs_are_good : StandingRunsAreGood
standing_runs_are_good info device image h marks = record {
  pages = λ i lt.
      and_from _ _ (h.pages i lt)
      (and_from _ _ (rising_pages (page_entries image info.number info.blocks) info.pages (i + 1) (omega arith) h.rising)
      (not_from_false _ (elim (cases_eq info.level 2) [
        | inl base ↦ and_right _ _ (no_mark (page_entries image info.number info.blocks) info.pages i lt (marks base))
        | inr other ↦ and_left _ _ (ne_eqb _ _ other)
      ])));
  count = h.count;
}

-- ---- runs that are half written

pub writes_stay : WritesStay
writes_stay writer old new fed same h = record {
  waiting = h.waiting;
  filling = h.filling;
  parts = h.parts ∙ ap (λ (xs : List Entry). xs ++ (h.waiting ++ h.filling)) (sym joined_is);
  waits = h.waits;
  fills = h.fills;
  fits = h.fits;
  rising = h.rising;
  count = h.count;
  pages = λ i lt. ap is_some (page i lt) ∙ h.pages i lt;
  filled = λ i lt. subst (λ (es : List Entry). 0 < length es) (sym (entries i lt)) (h.filled i lt);
  firsts = λ i lt. h.firsts i lt ∙ ap first_key (sym (entries i lt));
  later = λ i le lt. same i lt ∙ h.later i le lt;
  full = λ i lt.
      subst (λ (es : List Entry). IsFullFor (page_entries new writer.info.number writer.info.blocks i) es) (sym (entries (i + 1) lt))
      (subst (λ (es : List Entry). IsFullFor es (page_entries old writer.info.number writer.info.blocks (i + 1))) (sym (entries i (omega (arith, lt)))) (h.full i lt));
  full_last = λ i e. subst (λ (es : List Entry). IsFullFor es (h.waiting ++ h.filling)) (sym (entries i (omega (arith, e)))) (h.full_last i e);
  full_waiting = h.full_waiting;
}
  where
    written : SamePages writer.info.blocks writer.info.pages old new
    written i lt = same i (omega (arith, lt, writer.sound.begun_first))

    page : (i : ℕ) → i < writer.info.pages → page_of_run new writer.info.number writer.info.blocks i ≡ page_of_run old writer.info.number writer.info.blocks i
    page = same_page writer.info.number writer.info.blocks writer.info.pages old new written

    entries : (i : ℕ) → i < writer.info.pages → page_entries new writer.info.number writer.info.blocks i ≡ page_entries old writer.info.number writer.info.blocks i
    entries = same_entries writer.info.number writer.info.blocks writer.info.pages old new written

    joined_is : joined (page_entries new writer.info.number writer.info.blocks) writer.info.pages ≡ joined (page_entries old writer.info.number writer.info.blocks) writer.info.pages
    joined_is = joined_same (page_entries new writer.info.number writer.info.blocks) (page_entries old writer.info.number writer.info.blocks) writer.info.pages entries

-- ---- counts

pub writer_counts : WriterCounts
writer_counts writer = record { pages = writer.sound.least; begun = writer.sound.begun_last; housed = (writer.sound.begun_first, writer.sound.housed) }
