-- Sources one after the other, and their copies.
use Rattle.std.proofs.Common.{◌≡◌, ◌∙◌, ℕ, ◌+◌, ◌*◌, ◌/◌, ◌%◌, ◌<◌, ◌≤◌, Bool, true, false, cond, List, [], ◌∷◌, ◌++◌, length, get_or, take, map, refl, sym, ap, subst, arith, inl, inr}
use Rattle.std.specs.Prelude.{filter}
use Rattle.std.proofs.lemmas.Bool.{cases_lt}
use Rattle.std.proofs.lemmas.List.{get_or_append_left, get_or_push, take_more, length_push, map-append}
use Rattle.kssd_entry.specs.declared.entry.Entry.{Entry}
use Rattle.kssd_values.specs.declared.values.Values.{Values}
use Rattle.kssd_values.specs.Blocks.{mark_at, is_live_at}
use Rattle.kssd_reclaim.specs.declared.copies.CopyOf.{CopyOf}
use Rattle.kssd_reclaim.specs.declared.reclaim.Reclaim.{Reclaim}
use Rattle.kssd_reclaim.specs.Sources.{AreSources, is_visible, move_of}
use Rattle.kssd_reclaim.specs.Reclaim.{block_of, next_of, IsNext, AllCopied}

-- a page by its block and its place there
page_by : (page block : ℕ) → page / 32 ≡ block → page ≡ 32 * block + page % 32
page_by page block e = omega arith

-- the pages looked at so far aren't live
abbrev pub NoneBelow : Values → ℕ → ℕ → ℕ → Type 0
NoneBelow v block next place = (k : ℕ) → next ≤ k → k < place → is_live_at v (32 * block + k) ≡ false

pub is_next : (r : Reclaim) (v : Values) (place : ℕ) → NoneBelow v (block_of r) (next_of r) place → next_of r ≤ place → place < 32 → is_live_at v (32 * block_of r + place) ≡ true → IsNext r v (32 * block_of r + place)
is_next r v place none from low live = record {
  ahead = record { block_is = omega arith; from = omega arith };
  live = live;
  first = λ other ahead lt.
      ap (is_live_at v) (page_by other (block_of r) ahead.block_is) ∙ none (other % 32) ahead.from (omega (arith, ahead.block_is));
}

pub all_copied : (r : Reclaim) (v : Values) (place : ℕ) → NoneBelow v (block_of r) (next_of r) place → 32 ≤ place → AllCopied r v
all_copied r v place none all page ahead =
    ap (is_live_at v) (page_by page (block_of r) ahead.block_is) ∙ none (page % 32) ahead.from (omega arith)

-- ---- one more copy

pushed_at : (copies : List CopyOf) (c d : CopyOf) (i : ℕ) → i < length copies → get_or (copies ++ c ∷ []) i d ≡ get_or copies i d
pushed_at copies c d i low = get_or_append_left copies (c ∷ []) d i low

sources_pushed : (block next : ℕ) (copies : List CopyOf) (c : CopyOf) → AreSources block next copies → c.source / 32 ≡ block → next ≤ c.source % 32 → AreSources block (c.source % 32 + 1) (copies ++ c ∷ [])
sources_pushed block next copies c h here from = record {
  within = omega arith;
  block_is = λ i d lt. elim (cases_lt i (length copies)) [
    | inl low ↦ ap (λ (x : CopyOf). x.source / 32) (pushed_at copies c d i low) ∙ h.block_is i d low
    | inr past ↦ ap (λ (x : CopyOf). x.source / 32) (get_or_push copies c d i (last i lt past)) ∙ here
  ];
  below = λ i d lt. elim (cases_lt i (length copies)) [
    | inl low ↦ let b = h.below i d low in let s = ap (λ (x : CopyOf). x.source % 32) (pushed_at copies c d i low) in omega arith
    | inr past ↦ let s = ap (λ (x : CopyOf). x.source % 32) (get_or_push copies c d i (last i lt past)) in omega arith
  ];
  rising = λ i j d lt within. elim (cases_lt j (length copies)) [
    | inl low ↦
        let s = ap (λ (x : CopyOf). x.source) (pushed_at copies c d j low) in
        let t = ap (λ (x : CopyOf). x.source) (pushed_at copies c d i (omega arith)) in
        let r = h.rising i j d lt low in omega arith
    | inr past ↦
        let e : length copies ≡ j = last j within past in
        let low : i < length copies = omega arith in
        let s = ap (λ (x : CopyOf). x.source) (get_or_push copies c d j e) in
        let t = ap (λ (x : CopyOf). x.source) (pushed_at copies c d i low) in
        let b = h.block_is i d low in
        let m = h.below i d low in omega arith
  ];
}
  where
    last : (i : ℕ) → i < length (copies ++ c ∷ []) → length copies ≤ i → length copies ≡ i
    last i lt past = omega (arith, length_push copies c)

pub sources_more : (block next : ℕ) (copies after : List CopyOf) (c : CopyOf) → AreSources block next copies → c.source / 32 ≡ block → next ≤ c.source % 32 → after ≡ copies ++ c ∷ [] → AreSources block (c.source % 32 + 1) after
sources_more block next copies after c h here from e =
    subst (λ (xs : List CopyOf). AreSources block (c.source % 32 + 1) xs) (sym e) (sources_pushed block next copies c h here from)

-- ---- moves

filter-append : (p : CopyOf → Bool) (xs ys : List CopyOf) → filter p (xs ++ ys) ≡ filter p xs ++ filter p ys
filter-append p [] ys = refl
filter-append p (x ∷ xs) ys = by (p x) (filter-append p xs ys)
  where
    by : (b : Bool) → filter p (xs ++ ys) ≡ filter p xs ++ filter p ys → cond b (x ∷ filter p (xs ++ ys)) (filter p (xs ++ ys)) ≡ cond b (x ∷ filter p xs) (filter p xs) ++ filter p ys
    by true e = ap (λ (r : List CopyOf). x ∷ r) e
    by false e = e

-- the moves of the first copies
abbrev pub moves_in : Values → List CopyOf → List Entry
moves_in v copies = map move_of (filter (λ copy. is_visible (mark_at v copy.source)) copies)

pub moves_more : (v : Values) (copies : List CopyOf) (i : ℕ) (c : CopyOf) (b : Bool) → i < length copies → c ≡ get_or copies i c → is_visible (mark_at v c.source) ≡ b → moves_in v (take (i + 1) copies) ≡ moves_in v (take i copies) ++ cond b (move_of c ∷ []) []
moves_more v copies i c b low is e =
    let p : CopyOf → Bool = λ copy. is_visible (mark_at v copy.source) in
    ap (λ (xs : List CopyOf). map move_of (filter p xs)) (take_more copies i c low ∙ ap (λ (x : CopyOf). take i copies ++ x ∷ []) (sym is))
    ∙ ap (map move_of) (filter-append p (take i copies) (c ∷ []))
    ∙ map-append move_of (filter p (take i copies)) (filter p (c ∷ []))
    ∙ ap (λ (r : List Entry). moves_in v (take i copies) ++ r) (one b e)
  where
    one : (b : Bool) → is_visible (mark_at v c.source) ≡ b → map move_of (cond (is_visible (mark_at v c.source)) (c ∷ []) []) ≡ cond b (move_of c ∷ []) []
    one true e = ap (λ x. map move_of (cond x (c ∷ []) [])) e
    one false e = ap (λ x. map move_of (cond x (c ∷ []) [])) e
