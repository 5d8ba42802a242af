-- One more page of a run that is opened.
use Rattle.std.proofs.Common.{◌≡◌, ◌∙◌, ℕ, suc, ◌+◌, ◌-◌, ◌*◌, ◌/◌, ◌<◌, ◌≤◌, Bool, true, false, ◌&&◌, not, List, [], ◌∷◌, ◌++◌, length, get_or, Option, Some, None, refl, sym, ap, subst, arith, inl, inr, eqb, ltb, cond, length-append, add-one}
use Rattle.std.specs.Prelude.{is_some, unwrap_or, slice_get}
use Rattle.std.specs.List.{list_any}
use Rattle.std.proofs.lemmas.Bool.{and_parts, cases_lt, or_cases, eqb-true, ltb-true, false≢true}
use Rattle.std.proofs.lemmas.List.{get_or_append_left, get_or_push, length_push}
use Rattle.std.proofs.lemmas.Map.Steps.{length-le_from_distinct_below}
use Rattle.kv_nand.specs.Flash.{Image, Flash}
use Rattle.kssd_entry.specs.declared.entry.Entry.{Entry}
use Rattle.kssd_model.specs.declared.runs.RunInfo.{RunInfo}
use Rattle.kssd_model.specs.Rising.{is_rising, is_gone}
use Rattle.kssd_model.specs.RunPages.{run_page, page_of_run, page_entries, joined, first_key, is_good_page, AreRunBlocks, IsFirstBad}
use Rattle.kssd_model.specs.OnlyReading.{OnlyReads}
use Rattle.kssd_model.proofs.ReadingOn.{reads_image, reads_then_reads, reads_then_stops}
use Rattle.kssd_layout.specs.Numbers.{region_in}
use Rattle.kssd_layout.specs.declared.region.Region.TheVariants.{Anchor, Log, Run, Value}
use Rattle.kv_nand.specs.declared.fault.FlashFault.TheVariants as flash_faults
use Rattle.kssd_entry.specs.Spelling.{key_of}
use Rattle.kssd_run.specs.declared.reader.Reading.{Reading}
use Rattle.kssd_run.specs.declared.fault.RunFault.{RunFault}
use Rattle.kssd_run.specs.declared.fault.RunFault.TheVariants as faults
use Rattle.kssd_run.specs.Judging.{goes_on}
use Rattle.kssd_run.specs.Opening.{IsNextPage, is_next, NextFails, AddFails, EndFails, OpenFails}
use Rattle.kssd_run.specs.Read.{IsReading}
use Rattle.kssd_run.proofs.GoingOn.{is_rising-append, last_of, last_of-append}

-- a page is good exactly where it goes on behind the pages before it
good_is : (info : RunInfo) (image : Image) (i : ℕ) (reading : Reading) → IsReading info image i reading → (o : Option (List Entry)) → page_of_run image info.number info.blocks i ≡ o
    → is_good_page image info i ≡ is_next o reading.before (eqb info.level 2)
good_is info image i reading h None e =
    λ t. is_some (e t) && (is_rising (joined (page_entries image info.number info.blocks) (i + 1)) && not (eqb info.level 2 && list_any is_gone (page_entries image info.number info.blocks i)))
good_is info image i reading h (Some entries) e =
    λ t. is_some (e t) && (rising t && not (eqb info.level 2 && list_any is_gone (unwrap_or (e t) [])))
  where
    page : ℕ → List Entry
    page = page_entries image info.number info.blocks

    rising : is_rising (joined (page_entries image info.number info.blocks) (i + 1)) ≡ (is_rising entries && goes_on reading.before entries)
    rising =
        ap (λ (n : ℕ). is_rising (joined (page_entries image info.number info.blocks) n)) (add-one i)
        ∙ (λ t. is_rising (joined (page_entries image info.number info.blocks) i ++ unwrap_or (e t) []))
        ∙ h.goes entries

-- it was taken
pub reading_more : (info : RunInfo) (image : Image) (i : ℕ) (old new : Reading) (entries : List Entry) → IsReading info image i old → IsNextPage (page_of_run image info.number info.blocks i) old.before (eqb info.level 2) entries
    → new.firsts ≡ old.firsts ++ first_key entries ∷ [] → new.before ≡ entries → new.count ≡ old.count + length entries → IsReading info image (i + 1) new
reading_more info image i old new entries h next firsts before count = subst (λ (n : ℕ). IsReading info image n new) (sym (add-one i)) (record {
  counted = omega (arith, ap length firsts, length_push old.firsts (first_key entries), h.counted);
  firsts = first_is;
  filled = filled_is;
  good = λ j lt. elim (cases_lt j i) [
    | inl less ↦ h.good j less
    | inr more ↦ let e : i ≡ j = omega arith in subst (λ (k : ℕ). is_good_page image info k ≡ true) e (good_is info image i old h (Some entries) next.is ∙ next.good)
  ];
  rising = rising_is;
  goes = λ ys.
      is_rising-append (joined (page_entries image info.number info.blocks) (suc i)) entries ys rising_is
      (ap (λ (es : List Entry). last_of (joined (page_entries image info.number info.blocks) i ++ es)) page_is ∙ last_of-append (joined (page_entries image info.number info.blocks) i) entries next.some.some)
      ∙ ap (λ (b : List Entry). is_rising ys && goes_on b ys) (sym before);
  count = omega (arith, count, h.count, length-append (joined (page_entries image info.number info.blocks) i) (page_entries image info.number info.blocks i), ap length page_is);
  few = omega (arith, count, h.few, next.some.few);
})
  where
    page_is : page_entries image info.number info.blocks i ≡ entries
    page_is = ap (λ (o : Option (List Entry)). unwrap_or o []) next.is

    rising_is : is_rising (joined (page_entries image info.number info.blocks) (suc i)) ≡ true
    rising_is =
        ap (λ (es : List Entry). is_rising (joined (page_entries image info.number info.blocks) i ++ es)) page_is
        ∙ h.goes entries ∙ (and_parts _ _ next.good).0

    filled_is : (j : ℕ) → j < suc i → 0 < length (page_entries image info.number info.blocks j)
    filled_is j lt = elim (cases_lt j i) [
      | inl less ↦ h.filled j less
      | inr more ↦ let e : i ≡ j = omega arith in subst (λ (k : ℕ). 0 < length (page_entries image info.number info.blocks k)) e (omega (arith, ap length page_is, next.some.some))
    ]

    first_is : (j : ℕ) → j < suc i → get_or new.firsts j [] ≡ first_key (page_entries image info.number info.blocks j)
    first_is j lt =
        ap (λ (ks : List (List ℕ)). get_or ks j []) firsts
        ∙ elim (cases_lt j i) [
          | inl less ↦ get_or_append_left old.firsts (first_key entries ∷ []) [] j (omega (arith, h.counted)) ∙ h.firsts j less
          | inr more ↦
              let e : i ≡ j = omega arith in
              get_or_push old.firsts (first_key entries) [] j (h.counted ∙ e) ∙ ap first_key (sym page_is) ∙ ap (λ (k : ℕ). first_key (page_entries image info.number info.blocks k)) e
        ]

-- it was refused
pub reading_fails : (info : RunInfo) (i : ℕ) (old new : Flash) (reading : Reading) (fault : RunFault) → i < info.pages → IsReading info old.image i reading
    → NextFails (page_of_run old.image info.number info.blocks i) reading.before (eqb info.level 2) (run_page info.blocks i) old fault new → AddFails info i old fault new
reading_fails info i old new reading (faults.Bad at) lt h p = (
  record { within = lt; earlier = h.good; bad = good_is info old.image i reading h (page_of_run old.image info.number info.blocks i) refl ∙ p.0; place = p.1 },
  p.2,
)
reading_fails info i old new reading faults.Off lt h p = p
reading_fails info i old new reading faults.Failed lt h p = p
reading_fails info i old new reading faults.Memory lt h p = p

first_is_key : (es : List Entry) (e : Entry) → slice_get es 0 ≡ Some e → first_key es ≡ key_of e
first_is_key [] e h = absurd cc
first_is_key (x ∷ es) e h = let same : x ≡ e = cc in ap key_of same

-- it was taken, with its first key
pub reading_on : (info : RunInfo) (image : Image) (i : ℕ) (old new : Reading) (entries : List Entry) (e : Entry) (key : List ℕ) → IsReading info image i old → IsNextPage (page_of_run image info.number info.blocks i) old.before (eqb info.level 2) entries
    → slice_get entries 0 ≡ Some e → key ≡ key_of e → new.firsts ≡ old.firsts ++ key ∷ [] → new.before ≡ entries → new.count ≡ old.count + length entries → IsReading info image (i + 1) new
reading_on info image i old new entries e key h next first key_is firsts before count =
    reading_more info image i old new entries h next (firsts ∙ ap (λ (k : List ℕ). old.firsts ++ k ∷ []) (key_is ∙ sym (first_is_key entries e first))) before count

-- ---- a whole run

members : (xs : List ℕ) (n : ℕ) → ((i : ℕ) → i < length xs → get_or xs i 0 < n) → (q : ℕ) → list_any (eqb q) xs ≡ true → q < n
members [] n h q m = absurd (false≢true m)
members (x ∷ xs) n h q m =
    elim (or_cases (eqb q x) (list_any (eqb q) xs) m) [
      | inl here ↦ omega (arith, eqb-true q x here, h 0 (omega arith))
      | inr there ↦ members xs n (λ i lt. h (suc i) (omega arith)) q there
    ]

third : (p q r : Bool) → cond p Anchor (cond q Log (cond r Run Value)) ≡ Run → r ≡ true
third true q r h = absurd cc
third false true r h = absurd cc
third false false true h = refl
third false false false h = absurd cc

-- a block of runs is a block of the device
pub run_block_below : (device block : ℕ) → 256 ≤ device → device ≤ 2048 → region_in device block ≡ Run → block < device
run_block_below device block least most h =
    omega (arith, ltb-true block (20 + (118 + 2 * ((device - 138) / 8))) (third (ltb block 2) (ltb block 20) (ltb block (20 + (118 + 2 * ((device - 138) / 8)))) h))

-- blocks of runs that differ are no more than those of a device
pub few_blocks : (device : ℕ) (blocks : List ℕ) → 256 ≤ device → device ≤ 2048 → AreRunBlocks device blocks → length blocks ≤ 2048
few_blocks device blocks least most h =
    length-le_from_distinct_below blocks 2048 h.distinct (members blocks 2048 (λ i lt. omega (arith, run_block_below device (get_or blocks i 0) least most (h.region i lt))))

pub place_within : (device i : ℕ) (blocks : List ℕ) → 256 ≤ device → device ≤ 2048 → AreRunBlocks device blocks → i / 32 < length blocks → run_page blocks i < 32 * device
place_within device i blocks least most h lt = omega (arith, run_block_below device (get_or blocks (i / 32) 0) least most (h.region (i / 32) lt))

pub opening_fails : (info : RunInfo) (i : ℕ) (a b c : Flash) (fault : RunFault) → OnlyReads a b → AddFails info i b fault c → OpenFails info a fault c
opening_fails info i a b c (faults.Bad at) r p = (inl (i, subst (λ (im : Image). IsFirstBad im info i at) (reads_image a b r) p.0), reads_then_reads a b c r p.1)
opening_fails info i a b c faults.Off r p = reads_then_stops a b c flash_faults.Off r p
opening_fails info i a b c faults.Failed r p = reads_then_stops a b c flash_faults.Failed r p
opening_fails info i a b c faults.Memory r p = reads_then_stops a b c flash_faults.Memory r p

pub ending_fails : (info : RunInfo) (a b : Flash) (fault : RunFault) → OnlyReads a b → EndFails info a.image fault → OpenFails info a fault b
ending_fails info a b (faults.Bad at) r p = (inr p, r)
ending_fails info a b faults.Off r p = absurd p
ending_fails info a b faults.Failed r p = absurd p
ending_fails info a b faults.Memory r p = record { after = r.after; more = r.more }
