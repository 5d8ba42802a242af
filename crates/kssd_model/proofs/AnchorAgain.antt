-- An anchor's page reads as the anchor, and what reads is spelled so.
use Rattle.std.proofs.Common.{◌≡◌, ◌∙◌, ℕ, suc, ◌+◌, ◌-◌, ◌^◌, ◌<◌, ◌≤◌, Bool, true, false, ltb, cond, ◌&&◌, List, [], ◌∷◌, ◌++◌, length, take, drop, replicate, Option, Some, None, refl, sym, ap, append_assoc, arith, length-append, subst}
use Rattle.std.specs.Prelude.{sum_by}
use Rattle.std.specs.List.{list_all}
use Rattle.std.specs.Int.{w16, w32, w64, to_be_bytes}
use Rattle.std.specs.Str.{bytes_eq}
use Rattle.std.proofs.lemmas.Bool.{le-ltb, ltb-true, lt-ltb}
use Rattle.std.proofs.lemmas.List.{take_at, drop_at}
use Rattle.std.proofs.lemmas.List.Concat.{flat_map-cons}
use Rattle.std.proofs.lemmas.List.Sums.{sum_by-cons, list_all-from_AllPass}
use Rattle.std.proofs.lemmas.Nat.{from_be_bytes-to_be_bytes_2, from_be_bytes-to_be_bytes_4, from_be_bytes-to_be_bytes_8}
use Rattle.std.proofs.lemmas.Slice.Eq.{bytes_eq-Decides}
use Rattle.kssd_entry.specs.Spelling.{filled, spare_bytes, page_bytes}
use Rattle.kssd_entry.specs.Reading.{head_in}
use Rattle.kssd_model.specs.declared.runs.RunInfo.{RunInfo}
use Rattle.kssd_model.specs.declared.anchor.Anchor.{Anchor}
use Rattle.kssd_model.specs.AnchorSpelling.{blocks_bytes, run_bytes, runs_bytes, run_size, anchor_bytes, anchor_head, anchor_page, fits_run, fits_anchor, is_low, has_spelling, HasSpelling, IsSpelled}
use Rattle.kssd_model.specs.AnchorReading.{◌>>=◌, number_at, many_at, run_at, data_at, said_in, is_spelling, checked, anchor_at}
use Rattle.kssd_model.proofs.AnchorSizes.{length-anchor_bytes, length-filled, few_runs}
use Rattle.kssd_model.proofs.AnchorTests.{and_true, spelling_is, is_spelling_of}

abbrev read : {A : Type 0} → A → List ℕ → Option (A × List ℕ)
read x rest = Some (x, rest)

number16_again : (n : ℕ) (rest : List ℕ) → n < 2 ^ 16 → number_at w16 (to_be_bytes w16 n ++ rest) ≡ Some (n, rest)
number16_again n rest lt =
    let long : ltb (length (to_be_bytes w16 n ++ rest)) 2 ≡ false = le-ltb _ _ (omega (arith, length-append (to_be_bytes w16 n) rest)) in
    rw long (ap (λ m. read m rest) (from_be_bytes-to_be_bytes_2 n lt))

number32_again : (n : ℕ) (rest : List ℕ) → n < 2 ^ 32 → number_at w32 (to_be_bytes w32 n ++ rest) ≡ Some (n, rest)
number32_again n rest lt =
    let long : ltb (length (to_be_bytes w32 n ++ rest)) 4 ≡ false = le-ltb _ _ (omega (arith, length-append (to_be_bytes w32 n) rest)) in
    rw long (ap (λ m. read m rest) (from_be_bytes-to_be_bytes_4 n lt))

number64_again : (n : ℕ) (rest : List ℕ) → n < 2 ^ 64 → number_at w64 (to_be_bytes w64 n ++ rest) ≡ Some (n, rest)
number64_again n rest lt =
    let long : ltb (length (to_be_bytes w64 n ++ rest)) 8 ≡ false = le-ltb _ _ (omega (arith, length-append (to_be_bytes w64 n) rest)) in
    rw long (ap (λ m. read m rest) (from_be_bytes-to_be_bytes_8 n lt))

blocks_again : (blocks rest : List ℕ) → list_all (λ block. ltb block (2 ^ 16)) blocks ≡ true → many_at (number_at w16) (length blocks) (blocks_bytes blocks ++ rest) ≡ Some (blocks, rest)
unfolding many_at
blocks_again [] rest h = refl
blocks_again (b ∷ blocks) rest h =
    let both = and_true _ _ h in
    let first : number_at w16 (to_be_bytes w16 b ++ (blocks_bytes blocks ++ rest)) ≡ Some (b, blocks_bytes blocks ++ rest) = number16_again b (blocks_bytes blocks ++ rest) (ltb-true _ _ both.0) in
    rw (first, blocks_again blocks rest both.1) refl

run_again : (run : RunInfo) (rest : List ℕ) → fits_run run ≡ true → is_low run ≡ true → length run.blocks < 2 ^ 16 → run_at (run_bytes run ++ rest) ≡ Some (run, rest)
unfolding run_at run_bytes fits_run
run_again run rest fits low few =
    let one = and_true _ _ fits in
    let two = and_true _ _ one.1 in
    let three = and_true _ _ two.1 in
    let number : run.number < 2 ^ 64 = omega (arith, ltb-true _ _ low) in
    let behind = blocks_bytes run.blocks ++ rest in
    let count = number16_again (length run.blocks) behind few in
    let pages = number32_again run.pages (to_be_bytes w16 (length run.blocks) ++ behind) (ltb-true _ _ three.0) in
    let entries = number32_again run.entries (to_be_bytes w32 run.pages ++ (to_be_bytes w16 (length run.blocks) ++ behind)) (ltb-true _ _ two.0) in
    let first = number64_again run.number (to_be_bytes w32 run.entries ++ (to_be_bytes w32 run.pages ++ (to_be_bytes w16 (length run.blocks) ++ behind))) number in
    rw (first, entries, pages, count, blocks_again run.blocks rest three.1) refl

runs_again : (runs : List RunInfo) (rest : List ℕ) → list_all fits_run runs ≡ true → list_all is_low runs ≡ true → sum_by run_size runs ≤ 4096 → many_at run_at (length runs) (runs_bytes runs ++ rest) ≡ Some (runs, rest)
unfolding many_at
runs_again [] rest fits low size = refl
runs_again (r ∷ runs) rest fits low size =
    let fit = and_true _ _ fits in
    let lows = and_true _ _ low in
    let size_is : sum_by run_size (r ∷ runs) ≡ run_size r + sum_by run_size runs = sum_by-cons run_size r runs in
    let regrouped : runs_bytes (r ∷ runs) ++ rest ≡ run_bytes r ++ (runs_bytes runs ++ rest) = ap (λ (x : List ℕ). x ++ rest) (flat_map-cons run_bytes r runs) ∙ append_assoc (run_bytes r) (runs_bytes runs) rest in
    ap (many_at run_at (suc (length runs))) regrouped ∙ rw (run_again r (runs_bytes runs ++ rest) fit.0 lows.0 (omega (arith, size_is)), runs_again runs rest fit.1 lows.1 (omega (arith, size_is))) refl

data_again : (a : Anchor) (rest : List ℕ) → fits_anchor a ≡ true → HasSpelling a → data_at a.number (anchor_bytes a ++ rest) ≡ Some a
unfolding data_at anchor_bytes fits_anchor
data_again a rest fits spelling =
    let one = and_true _ _ fits in
    let two = and_true _ _ one.1 in
    let behind = runs_bytes a.runs ++ rest in
    let low : list_all is_low a.runs ≡ true = list_all-from_AllPass is_low a.runs (λ k d lt. lt-ltb _ _ (spelling.runs k d lt)) in
    let few : length a.runs < 2 ^ 16 = omega (arith, few_runs a.runs, spelling.room) in
    let runs = runs_again a.runs rest two.1 low (omega (arith, spelling.room)) in
    let count = number16_again (length a.runs) behind few in
    let log_seq = number64_again a.log_seq (to_be_bytes w16 (length a.runs) ++ behind) (omega (arith, spelling.log_seq)) in
    let log_block = number16_again a.log_block (to_be_bytes w64 a.log_seq ++ (to_be_bytes w16 (length a.runs) ++ behind)) (ltb-true _ _ two.0) in
    let next_run = number64_again a.next_run (to_be_bytes w16 a.log_block ++ (to_be_bytes w64 a.log_seq ++ (to_be_bytes w16 (length a.runs) ++ behind))) (omega (arith, spelling.next_run)) in
    let blocks = number16_again a.blocks (to_be_bytes w64 a.next_run ++ (to_be_bytes w16 a.log_block ++ (to_be_bytes w64 a.log_seq ++ (to_be_bytes w16 (length a.runs) ++ behind)))) (ltb-true _ _ one.0) in
    rw (blocks, next_run, log_block, log_seq, count, runs) refl

number_again : (number : ℕ) → number < 2 ^ 64 → (head_in (filled 64 (spare_bytes (anchor_head number) 0))).number ≡ number
unfolding filled
number_again number h = from_be_bytes-to_be_bytes_8 number h

said_again : (a : Anchor) → fits_anchor a ≡ true → HasSpelling a → said_in (anchor_page a) ≡ Some a
unfolding anchor_page page_bytes filled
said_again a fits spelling =
    let body = filled 4096 (anchor_bytes a) in
    let spare = filled 64 (spare_bytes (anchor_head a.number) 0) in
    let len : length body ≡ 4096 = length-filled 4096 (anchor_bytes a) (omega (arith, length-anchor_bytes a, spelling.room)) in
    let front : take 4096 (body ++ spare) ≡ body = take_at body spare 4096 len in
    let back : drop 4096 (body ++ spare) ≡ spare = drop_at body spare 4096 len in
    let number : (head_in spare).number ≡ a.number = number_again a.number (omega (arith, spelling.number)) in
    (λ i. data_at (head_in (back i)).number (front i)) ∙ (λ i. data_at (number i) body) ∙ data_again a (replicate (4096 - length (anchor_bytes a)) 0) fits spelling

-- what is spelled is read again
pub spelled_reads : (bytes : List ℕ) (a : Anchor) → IsSpelled bytes a → anchor_at bytes ≡ Some a
unfolding anchor_at is_spelling
spelled_reads bytes a h =
    let said : said_in bytes ≡ Some a = ap said_in h.page ∙ said_again a h.fits h.spelling in
    let same : bytes_eq (anchor_page a) bytes ≡ true = (bytes_eq-Decides (anchor_page a) bytes).1 (sym h.page) in
    rw (said, h.fits, is_spelling_of a h.spelling, same) refl

if_some : {A : Type 0} (b : Bool) (x y : A) → (let r : Option A = cond b (Some x) None in r) ≡ Some y → (b ≡ true) × (x ≡ y)
if_some true x y e = (refl, cc)
if_some false x y e = absurd cc

-- what is read is spelled so
pub reads_spelled : (bytes : List ℕ) (a : Anchor) → anchor_at bytes ≡ Some a → IsSpelled bytes a
unfolding anchor_at is_spelling
reads_spelled bytes a e = by (said_in bytes) e
  where
    by : (said : Option Anchor) → (said >>= checked bytes) ≡ Some a → IsSpelled bytes a
    by None e = absurd cc
    by (Some b) e =
        let g = if_some (is_spelling bytes b) b a e in
        let one = and_true (fits_anchor b) (has_spelling b && bytes_eq (anchor_page b) bytes) g.0 in
        let two = and_true (has_spelling b) (bytes_eq (anchor_page b) bytes) one.1 in
        subst (IsSpelled bytes) g.1 (record {
          page = sym ((bytes_eq-Decides (anchor_page b) bytes).0 two.1);
          fits = one.0;
          spelling = spelling_is b two.0;
        })
