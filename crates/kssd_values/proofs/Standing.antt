-- Live pages stand as values, from one call to the next.
use Rattle.std.proofs.Common.{◌≡◌, ◌≢◌, ◌∙◌, ℕ, ◌≤◌, Bool, true, false, cond, List, length, drop, refl, sym, ap, subst, inl, inr}
use Rattle.std.specs.Prelude.{eqb}
use Rattle.std.proofs.lemmas.Bool.{cases_eq, false≢true, eq-eqb, ne_eqb}
use Rattle.kv_nand.specs.Flash.{Image, PageState, Erased, Whole}
use Rattle.kssd_entry.specs.Reading.{count_in}
use Rattle.kssd_image.specs.ValuePages.{value_page, key_in_page, has_value, HoldsValue}
use Rattle.kssd_image.proofs.ValuePages.{key_read, count_read, holds_again}
use Rattle.kssd_values.specs.declared.mark.Mark.{Mark}
use Rattle.kssd_values.specs.declared.values.Values.{Values}
use Rattle.kssd_values.specs.Marks.{is_live}
use Rattle.kssd_values.specs.Blocks.{mark_at, is_live_at}
use Rattle.kssd_values.specs.Pages.{is_value, key_in, size_in, KeepsPages, LiveStand}

-- what a page of a value names: its key and the length of its value
pub held_key : (key value : List ℕ) (state : PageState) → HoldsValue key value state → key_in state ≡ key
held_key key value state h = ap key_in h.page ∙ key_read key value h.fits

pub held_size : (key value : List ℕ) (state : PageState) → HoldsValue key value state → size_in state ≡ length value
held_size key value state h = ap size_in h.page ∙ count_read key value h.fits

pub held_value : (key value : List ℕ) (state : PageState) → HoldsValue key value state → is_value state ≡ true
held_value key value state h =
    (λ i. has_value (held_key key value state h i) (held_size key value state h i) state) ∙ (holds_again key value state h).0

-- a value's page isn't Erased
pub not_erased : (state : PageState) → is_value state ≡ true → state ≢ Erased
not_erased state h e = false≢true (sym (ap is_value e) ∙ h)

-- a call that makes no page live
pub live_stays : (v w : Values) (before after : Image) → LiveStand v before → KeepsPages v before after → ((q : ℕ) → is_live_at w q ≡ true → is_live_at v q ≡ true) → LiveStand w after
live_stays v w before after h keeps back = record {
  each = λ q l. let was = back q l in let value = h.each q was in ap is_value (keeps.live q was (not_erased (before q) value)) ∙ value;
}

-- a page that is marked
pub live_marked : (v w : Values) (image : Image) (page : ℕ) (mark : Mark) → LiveStand v image → ((q : ℕ) → mark_at w q ≡ cond (eqb q page) mark (mark_at v q)) → (is_live mark ≡ true → is_value (image page) ≡ true) → LiveStand w image
live_marked v w image page mark h marks value = record {
  each = λ q l. elim (cases_eq q page) [
    | inl e ↦ ap (λ k. is_value (image k)) e ∙ value (sym (ap is_live (marks q ∙ ap (λ b. cond b mark (mark_at v q)) (eq-eqb q page e))) ∙ l)
    | inr ne ↦ h.each q (sym (ap is_live (marks q ∙ ap (λ b. cond b mark (mark_at v q)) (ne_eqb q page ne))) ∙ l)
  ];
}
