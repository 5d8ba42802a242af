-- What is read of two sources stays where their blocks stay.
use Rattle.std.proofs.Common.{◌≡◌, ◌∙◌, ℕ, ◌/◌, Bool, true, false, ◌||◌, List, ◌++◌, refl, ap}
use Rattle.std.specs.Prelude.{nat_eq}
use Rattle.std.proofs.lemmas.List.Folds.{list_any-append}
use Rattle.kv_nand.specs.Flash.{Image}
use Rattle.kssd_entry.specs.declared.entry.Entry.{Entry}
use Rattle.kssd_model.specs.Rising.{is_rising, merged}
use Rattle.kssd_merge.specs.Same.{AreSameIn}
use Rattle.kssd_levels.specs.declared.two.Two.{Two}
use Rattle.kssd_levels.specs.Two.{with_next, two_rest, StandsTwo}

pub or_left : (a b : Bool) → a ≡ true → (a || b) ≡ true
or_left true b h = refl
or_left false b h = absurd cc

pub or_right : (a b : Bool) → b ≡ true → (a || b) ≡ true
or_right true b h = refl
or_right false b h = h

pub same_first : (xs ys : List ℕ) (old new : Image) → AreSameIn (xs ++ ys) old new → AreSameIn xs old new
same_first xs ys old new same page h = same page (list_any-append (nat_eq (page / 32)) xs ys ∙ or_left _ _ h)

pub same_second : (xs ys : List ℕ) (old new : Image) → AreSameIn (xs ++ ys) old new → AreSameIn ys old new
same_second xs ys old new same page h = same page (list_any-append (nat_eq (page / 32)) xs ys ∙ or_right _ _ h)

-- the two sources are as they were
pub two_stays : {A B : Type 0} (newer : A → Image → List Entry) (older : B → Image → List Entry) (Newer : A → ℕ → Image → Type 0) (Older : B → ℕ → Image → Type 0) (two : Two A B) (device : ℕ) (old new : Image) → Newer two.newer device new × (newer two.newer new ≡ newer two.newer old) → Older two.older device new × (older two.older new ≡ older two.older old) → StandsTwo newer older Newer Older two device old → StandsTwo newer older Newer Older two device new × (two_rest newer older two new ≡ two_rest newer older two old)
two_stays newer older Newer Older two device old new p q h =
    let both : merged (newer two.newer new) (older two.older new) ≡ merged (newer two.newer old) (older two.older old) = ap (λ (xs : List Entry). merged xs (older two.older new)) p.1 ∙ ap (merged (newer two.newer old)) q.1 in
    let rest : two_rest newer older two new ≡ two_rest newer older two old = ap (with_next two.next) both in (
      record {
        newer_stands = p.0;
        older_stands = q.0;
        rising = ap is_rising rest ∙ h.rising;
        ended = λ e. both ∙ h.ended e;
      },
      rest,
    )
