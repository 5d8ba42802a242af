-- Entries without deletion marks.
use Rattle.std.proofs.Common.{true, false, ◌≡◌, ◌∙◌, Bool, not, cond, List, [], ◌∷◌, refl, ap}
use Rattle.std.specs.List.{list_any}
use Rattle.kssd_entry.specs.declared.entry.Entry.{Entry}
use Rattle.kssd_model.specs.Rising.{is_gone}
use Rattle.kssd_image.specs.Stages.{without_marks}

pub unmarked_again : (xs : List Entry) → without_marks (without_marks xs) ≡ without_marks xs
unmarked_again [] = refl
unmarked_again (x ∷ xs) = by (is_gone x) refl (unmarked_again xs)
  where
    by : (b : Bool) → is_gone x ≡ b → without_marks (without_marks xs) ≡ without_marks xs → without_marks (cond (not b) (x ∷ without_marks xs) (without_marks xs)) ≡ cond (not b) (x ∷ without_marks xs) (without_marks xs)
    by true e rest = rest
    by false e rest = ap (λ (b : Bool). cond (not b) (x ∷ without_marks (without_marks xs)) (without_marks (without_marks xs))) e ∙ ap (λ (es : List Entry). x ∷ es) rest

pub no_marks : (xs : List Entry) → list_any is_gone (without_marks xs) ≡ false
no_marks [] = refl
no_marks (x ∷ xs) = by (is_gone x) refl (no_marks xs)
  where
    by : (b : Bool) → is_gone x ≡ b → list_any is_gone (without_marks xs) ≡ false → list_any is_gone (cond (not b) (x ∷ without_marks xs) (without_marks xs)) ≡ false
    by true e rest = rest
    by false e rest = (λ i. Rattle.std.specs.Prelude.◌||◌ (e i) (list_any is_gone (without_marks xs))) ∙ rest
