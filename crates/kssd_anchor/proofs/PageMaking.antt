-- The page of an anchor, put together on a page of zeros, and the tests of its fields.
use Rattle.std.proofs.Common.{◌≡◌, ◌∙◌, ℕ, ◌+◌, ◌-◌, ◌<◌, ◌≤◌, ◌^◌, true, ltb, List, [], ◌∷◌, ◌++◌, length, take, drop, get_or, replicate, refl, sym, ap, append_assoc, arith, length-append, suc}
use Rattle.std.specs.List.{list_all}
use Rattle.std.specs.Int.{w64, to_be_bytes}
use Rattle.std.proofs.Math.Seq.{drop-append-add}
use Rattle.std.proofs.lemmas.Bool.{lt-ltb}
use Rattle.std.proofs.lemmas.List.{take_at, drop-replicate, replicate-append-replicate}
use Rattle.kv_base.specs.Sizes.{blank, written}
use Rattle.kssd_entry.specs.Spelling.{filled, page_bytes, spare_bytes}
use Rattle.kssd_entry.proofs.Again.{kind_of_page}
use Rattle.kssd_model.specs.Ranges.{AreBlocks}
use Rattle.kssd_model.specs.declared.runs.RunInfo.{RunInfo}
use Rattle.kssd_model.specs.declared.anchor.Anchor.{Anchor}
use Rattle.kssd_model.specs.AnchorSpelling.{anchor_bytes, anchor_size, anchor_head, anchor_page, fits_run}
use Rattle.kssd_model.proofs.AnchorSizes.{length-anchor_bytes, length-filled}
use Rattle.kssd_model.proofs.AnchorTests.{and_both}

written_on : (front x : List ℕ) (place m : ℕ) → length front ≡ place → written (front ++ replicate m 0) place x ≡ (front ++ x) ++ replicate (m - length x) 0
written_on front x place m e =
    let before : take place (front ++ replicate m 0) ≡ front = take_at front (replicate m 0) place e in
    let behind : drop (place + length x) (front ++ replicate m 0) ≡ replicate (m - length x) 0 = ap (λ n. drop (n + length x) (front ++ replicate m 0)) (sym e) ∙ drop-append-add front (replicate m 0) (length x) ∙ drop-replicate (length x) m 0 in
    λ i. (before i ++ x) ++ behind i

-- data, two bytes and a number on a page of m data bytes and 64 spare bytes
made : (m n : ℕ) (page front head number : List ℕ) → page ≡ replicate n 0 → n ≡ m + 64 → length front ≤ m → length head ≡ 2 → length number ≡ 8
    → written (written (written page 0 front) m head) (m + 2) number ≡ filled m front ++ (head ++ (number ++ replicate 54 0))
unfolding filled
made m n page front head number is size few two eight =
    let zeros : replicate (n - length front) 0 ≡ replicate (m - length front) 0 ++ replicate 64 0 = ap (λ k. replicate k 0) (let e : n - length front ≡ (m - length front) + 64 = omega arith in e) ∙ sym (replicate-append-replicate (m - length front) 64 0) in
    let body : List ℕ = front ++ replicate (m - length front) 0 in
    let first : written page 0 front ≡ body ++ replicate 64 0 = ap (λ (p : List ℕ). written p 0 front) is ∙ written_on [] front 0 n refl ∙ ap (λ (z : List ℕ). front ++ z) zeros ∙ sym (append_assoc front (replicate (m - length front) 0) (replicate 64 0)) in
    let whole : length body ≡ m = length-filled m front few in
    let second : written (body ++ replicate 64 0) m head ≡ (body ++ head) ++ replicate 62 0 = written_on body head m 64 whole ∙ ap (λ k. (body ++ head) ++ replicate k 0) (let e : 64 - length head ≡ 62 = omega arith in e) in
    let third : written ((body ++ head) ++ replicate 62 0) (m + 2) number ≡ ((body ++ head) ++ number) ++ replicate 54 0 = written_on (body ++ head) number (m + 2) 62 (omega (arith, length-append body head)) ∙ ap (λ k. ((body ++ head) ++ number) ++ replicate k 0) (let e : 62 - length number ≡ 54 = omega arith in e) in
    ap (λ (p : List ℕ). written (written p m head) (m + 2) number) first
    ∙ ap (λ (p : List ℕ). written p (m + 2) number) second
    ∙ third
    ∙ append_assoc (body ++ head) number (replicate 54 0)
    ∙ append_assoc body head (number ++ replicate 54 0)

spare_is : (number : ℕ) → filled 64 (spare_bytes (anchor_head number) 0) ≡ (1 ∷ 0 ∷ []) ++ (to_be_bytes w64 number ++ replicate 54 0)
unfolding filled
spare_is number = refl

pub page_made : (a : Anchor) (page : List ℕ) → page ≡ blank → anchor_size a ≤ 4096 → written (written (written page 0 (anchor_bytes a)) 4096 (1 ∷ 0 ∷ [])) 4098 (to_be_bytes w64 a.number) ≡ anchor_page a
unfolding blank anchor_page page_bytes
page_made a page is size =
    made 4096 4160 page (anchor_bytes a) (1 ∷ 0 ∷ []) (to_be_bytes w64 a.number) is (omega arith) (omega (arith, length-anchor_bytes a)) refl refl
    ∙ ap (λ (s : List ℕ). filled 4096 (anchor_bytes a) ++ s) (sym (spare_is a.number))

-- ---- fields

pub blocks_fit : (blocks : List ℕ) → AreBlocks blocks → list_all (λ block. ltb block (2 ^ 16)) blocks ≡ true
blocks_fit [] h = refl
blocks_fit (b ∷ blocks) h = and_both _ _ (lt-ltb _ _ (h 0)) (blocks_fit blocks (λ i. h (suc i)))

pub run_fits : (run : RunInfo) → run.level < 256 → run.entries < 2 ^ 32 → run.pages < 2 ^ 32 → AreBlocks run.blocks → fits_run run ≡ true
unfolding fits_run
run_fits run level entries pages blocks = and_both _ _ (lt-ltb _ _ level) (and_both _ _ (lt-ltb _ _ entries) (and_both _ _ (lt-ltb _ _ pages) (blocks_fit run.blocks blocks)))

-- bytes behind one another
pub run_grouped : (old : List ℕ) (level : ℕ) (a b c d e : List ℕ) → (((((old ++ level ∷ []) ++ a) ++ b) ++ c) ++ d) ++ e ≡ old ++ (level ∷ (a ++ (b ++ (c ++ (d ++ e)))))
run_grouped old level a b c d e = simp append_assoc refl

-- the kind of an anchor's page
pub kind_there : (a : Anchor) → anchor_size a ≤ 4096 → get_or (anchor_page a) 4096 0 ≡ 1
unfolding anchor_page
kind_there a size = kind_of_page (anchor_head a.number) (anchor_bytes a) 0 (omega (arith, length-anchor_bytes a))
