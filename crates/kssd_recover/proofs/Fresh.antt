-- A device is fresh where the first anchor was written into erased blocks.
use Rattle.std.proofs.Common.{◌≡◌, ◌∙◌, ℕ, ◌<◌, ◌≤◌, cond, eqb, None, ap, arith, inl}
use Rattle.std.proofs.lemmas.Bool.Decides.{nat_tests}
use Rattle.kv_nand.specs.Flash.{Image, PageState, Erased, Whole, with_page}
use Rattle.kssd_model.specs.declared.anchor.Anchor.{Anchor}
use Rattle.kssd_model.specs.AnchorSpelling.{anchor_page}
use Rattle.kssd_anchor.specs.Places.{IsWritten}
use Rattle.kssd_image.specs.Worked.{first_anchor}
use Rattle.kssd_image.proofs.Blank.{formatted_empty}
use Rattle.kssd_recover.specs.Formatting.{IsErasedBelow, IsFresh}

at_page : (q : ℕ) (a b : PageState) → q ≡ 0 → cond (eqb q 0) a b ≡ a
at_page q a b e = grind (arith, nat_tests)

elsewhere : (q : ℕ) (a b : PageState) → 1 ≤ q → cond (eqb q 0) a b ≡ b
elsewhere q a b lt = grind (arith, nat_tests)

pub fresh : (blocks page : ℕ) (old mid new : Image) (a : Anchor) → 256 ≤ blocks → blocks ≤ 2048 → IsErasedBelow 96 old mid → a ≡ first_anchor blocks → IsWritten mid None a page new → IsFresh blocks old new
fresh blocks page old mid new a least most front is written =
    let first = Whole (anchor_page (first_anchor blocks)) in
    let at : new ≡ with_page mid 0 first = written.after ∙ (λ i. with_page (written.place.1 i) (written.place.0 i) (Whole (anchor_page (is i)))) in
    let anchor : new 0 ≡ first = ap (λ (image : Image). image 0) at in
    let same : (q : ℕ) → 1 ≤ q → new q ≡ mid q = λ q lt. ap (λ (image : Image). image q) at ∙ elsewhere q first (mid q) lt in
    let erased : (q : ℕ) → 1 ≤ q → q < 96 → new q ≡ Erased = λ q lt below. same q lt ∙ front.erased q below in
    record {
      anchor = anchor;
      erased = erased;
      others = λ q le. same q (omega arith) ∙ front.others q le;
      empty = formatted_empty blocks new least most (record { anchor = anchor; blank = λ q lt below. inl (erased q lt below) });
    }
