-- Blocks that are filled, and what stays of the pages.
use Rattle.std.proofs.Common.{◌≡◌, ◌≢◌, ◌∙◌, ℕ, ◌+◌, ◌*◌, ◌/◌, ◌%◌, ◌<◌, false, cond, List, Option, Some, None, refl, sym, ap, subst, arith, inl, inr}
use Rattle.std.specs.Prelude.{eqb, nat_lt}
use Rattle.std.proofs.lemmas.Bool.{cases_eq, true≢false, eq-eqb, ne_eqb, or_from, and_left}
use Rattle.kv_nand.specs.Flash.{Image, PageState, Erased, Whole, with_page, with_erased, MayProgram, LeftByProgram, LeftByErase}
use Rattle.kssd_values.specs.declared.filling.Filling.{Filling}
use Rattle.kssd_values.specs.declared.values.Values.{Values}
use Rattle.kssd_values.specs.Places.{IsValueBlock, is_in, is_below_in}
use Rattle.kssd_values.specs.Blocks.{device_of, is_live_at, is_filled}
use Rattle.kssd_values.specs.Pages.{FillsBlock, FillsIn, KeepsPages}

-- ---- filling

-- a page's block and its place within it
pub block_of : (block next : ℕ) → next < 32 → ((32 * block + next) / 32 ≡ block) × ((32 * block + next) % 32 ≡ next)
block_of block next h = (omega arith, omega arith)

pub may_fill : (f : Filling) (image : Image) → FillsBlock f image → f.next < 32 → MayProgram image (32 * f.block + f.next)
may_fill f image fills room =
    let at = block_of f.block f.next room in
    record {
      here = fills.behind (32 * f.block + f.next) at.0 (omega (arith, at.1));
      earlier = λ q e lt. fills.below q (e ∙ at.0) (omega arith);
      later = λ q e lt. fills.behind q (e ∙ at.0) (omega arith);
    }

pub with_page-other : (image : Image) (page q : ℕ) (state : PageState) → (q ≡ page → ⊥) → with_page image page state q ≡ image q
with_page-other image page q state ne = ap (λ b. cond b state (image q)) (ne_eqb q page ne)

pub with_page-same : (image : Image) (page q : ℕ) (state : PageState) → q ≡ page → with_page image page state q ≡ state
with_page-same image page q state e = ap (λ b. cond b state (image q)) (eq-eqb q page e)

pub with_erased-other : (image : Image) (block q : ℕ) → (q / 32 ≡ block → ⊥) → with_erased image block q ≡ image q
with_erased-other image block q ne = ap (λ b. cond b Erased (image q)) (ne_eqb (q / 32) block ne)

pub with_erased-same : (image : Image) (block q : ℕ) → q / 32 ≡ block → with_erased image block q ≡ Erased
with_erased-same image block q e = ap (λ b. cond b Erased (image q)) (eq-eqb (q / 32) block e)

whole≢erased : (bytes : List ℕ) → Whole bytes ≢ Erased
whole≢erased bytes e = absurd cc

-- the next page was programmed
pub fills_more : (f : Filling) (g : Filling) (image : Image) (bytes : List ℕ) → FillsBlock f image → f.next < 32 → g ≡ record { block = f.block; next = f.next + 1 } → FillsBlock g (with_page image (32 * f.block + f.next) (Whole bytes))
fills_more f g image bytes fills room e =
    let after = with_page image (32 * f.block + f.next) (Whole bytes) in
    let at = block_of f.block f.next room in
    let more : FillsBlock (record { block = f.block; next = f.next + 1 }) after = record {
      below = λ q b lt. elim (cases_eq q (32 * f.block + f.next)) [
        | inl same ↦ λ x. whole≢erased bytes (sym (with_page-same image (32 * f.block + f.next) q (Whole bytes) same) ∙ x)
        | inr ne ↦ λ x. fills.below q b (let less : q % 32 < f.next = omega arith in less) (sym (with_page-other image (32 * f.block + f.next) q (Whole bytes) ne) ∙ x)
      ];
      behind = λ q b le. let ne : q ≡ 32 * f.block + f.next → ⊥ = omega arith in with_page-other image (32 * f.block + f.next) q (Whole bytes) ne ∙ fills.behind q b (omega arith);
    } in
    subst (λ (x : Filling). FillsBlock x after) (sym e) more

-- a block whose pages are the same
pub fills_same : (f : Filling) (before after : Image) → FillsBlock f before → ((q : ℕ) → q / 32 ≡ f.block → after q ≡ before q) → FillsBlock f after
fills_same f before after fills same = record {
  below = λ q b lt x. fills.below q b lt (sym (same q b) ∙ x);
  behind = λ q b le. same q b ∙ fills.behind q b le;
}

pub in_same : (o : Option Filling) (before after : Image) → FillsIn o before → ((f : Filling) → o ≡ Some f → (q : ℕ) → q / 32 ≡ f.block → after q ≡ before q) → FillsIn o after
in_same None before after fills same = tt
in_same (Some f) before after fills same = fills_same f before after fills (same f refl)

-- an erased block, of which page 0 is the next
pub fills_none : (f : Filling) (image : Image) → f.next ≡ 0 → FillsBlock f (with_erased image f.block)
fills_none f image e = record {
  below = λ q b lt. absurd (omega arith);
  behind = λ q b le. with_erased-same image f.block q b;
}

-- an erase leaves another block
pub in_other : (o : Option Filling) (image : Image) (block : ℕ) → is_in o block ≡ false → FillsIn o image → FillsIn o (with_erased image block)
in_other None image block h fills = tt
in_other (Some f) image block h fills =
    fills_same f image (with_erased image block) fills (λ q b. with_erased-other image block q (λ e. true≢false (sym (eq-eqb f.block block (sym b ∙ e)) ∙ h)))

-- a program in another block
pub in_apart : (o : Option Filling) (image : Image) (page : ℕ) (state : PageState) → is_in o (page / 32) ≡ false → FillsIn o image → FillsIn o (with_page image page state)
in_apart None image page state h fills = tt
in_apart (Some f) image page state h fills =
    fills_same f image (with_page image page state) fills
    (λ q b. with_page-other image page q state (λ e. true≢false (sym (eq-eqb f.block (page / 32) (sym b ∙ ap (λ n. n / 32) e)) ∙ h)))

-- ---- what stays

pub keeps_still : (v : Values) (image : Image) → KeepsPages v image image
keeps_still v image = record { outside = λ q h. refl; live = λ q l n. refl; filled = λ q h. refl }

pub keeps_then : (v : Values) (a b c : Image) → KeepsPages v a b → KeepsPages v b c → KeepsPages v a c
keeps_then v a b c ab bc = record {
  outside = λ q h. bc.outside q h ∙ ab.outside q h;
  live = λ q l n. bc.live q l (λ e. n (sym (ab.live q l n) ∙ e)) ∙ ab.live q l n;
  filled = λ q h. bc.filled q h ∙ ab.filled q h;
}

-- an Erased page of a value block that isn't filled was programmed, or was to be
pub keeps_program : (v : Values) (before after : Image) (page : ℕ) (bytes : List ℕ) → LeftByProgram before page bytes after → IsValueBlock (device_of v) (page / 32) → before page ≡ Erased → is_filled v page ≡ false → KeepsPages v before after
keeps_program v before after page bytes left value was free = record {
  outside = λ q h. left.elsewhere q (λ e. h (subst (λ n. IsValueBlock (device_of v) (n / 32)) (sym e) value));
  live = λ q l n. left.elsewhere q (λ e. n (ap before e ∙ was));
  filled = λ q h. left.elsewhere q (λ e. true≢false (sym h ∙ (ap (is_filled v) e ∙ free)));
}

-- a value block without live and filled pages was erased, or was to be
pub keeps_erase : (v : Values) (before after : Image) (block : ℕ) → LeftByErase before block after → IsValueBlock (device_of v) block → ((q : ℕ) → q / 32 ≡ block → is_live_at v q ≡ false) → ((q : ℕ) → q / 32 ≡ block → is_filled v q ≡ false) → KeepsPages v before after
keeps_erase v before after block left value dead free = record {
  outside = λ q h. left.elsewhere q (λ e. h (subst (IsValueBlock (device_of v)) (sym e) value));
  live = λ q l n. left.elsewhere q (λ e. true≢false (sym l ∙ dead q e));
  filled = λ q h. left.elsewhere q (λ e. true≢false (sym h ∙ free q e));
}

-- a page of a block that isn't filled isn't below its next page
pub not_below : (o : Option Filling) (q block : ℕ) → q / 32 ≡ block → is_in o block ≡ false → is_below_in o q ≡ false
not_below None q block e h = refl
not_below (Some f) q block e h = and_left (eqb (q / 32) f.block) (nat_lt (q % 32) f.next) (ne_eqb (q / 32) f.block (λ x. true≢false (sym (eq-eqb f.block block (sym x ∙ e)) ∙ h)))

pub not_filled : (v : Values) (q block : ℕ) → q / 32 ≡ block → is_in v.opened block ≡ false → is_in v.target block ≡ false → is_filled v q ≡ false
not_filled v q block e o t = or_from (is_below_in v.opened q) (is_below_in v.target q) (not_below v.opened q block e o) (not_below v.target q block e t)
