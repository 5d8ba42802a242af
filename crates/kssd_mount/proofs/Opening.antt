-- Values of which none is open.
use Rattle.std.proofs.Common.{◌≡◌, ◌∙◌, ℕ, ◌/◌, Bool, true, false, cond, eqb, get_or, List, Option, Some, None, refl, sym, ap, subst}
use Rattle.std.specs.Prelude.{is_some}
use Rattle.std.specs.List.{list_any}
use Rattle.std.proofs.lemmas.Bool.{eq-eqb}
use Rattle.kv_nand.specs.Flash.{Image}
use Rattle.kssd_values.specs.declared.filling.Filling.{Filling}
use Rattle.kssd_values.specs.declared.values.Values.{Values}
use Rattle.kssd_values.specs.Places.{IsValueBlock, is_in}
use Rattle.kssd_values.specs.Blocks.{BlockState, Free, Open, Closed, Target, device_of, state_at, has_target}
use Rattle.kssd_values.specs.Pages.{FillsIn, Fills}

abbrev is_open : BlockState → Bool
is_open Free = false
is_open Open = true
is_open Closed = false
is_open Target = false

-- blocks with one of these pages are closed, and the others free
abbrev AreAtRest : Values → List ℕ → Type 0
AreAtRest v pages = (block : ℕ) → IsValueBlock (device_of v) block → state_at v block ≡ cond (list_any (λ q. eqb (q / 32) block) pages) Closed Free

not_open : (b : Bool) → is_open (cond b Closed Free) ≡ false
not_open true = refl
not_open false = refl

none_open : (v : Values) (pages : List ℕ) → AreAtRest v pages → v.opened ≡ None
none_open v pages states = by v.opened refl
  where
    by : (o : Option Filling) → v.opened ≡ o → v.opened ≡ None
    by None is = is
    by (Some f) is =
        let here : is_in v.opened f.block ≡ true = ap (λ o. is_in o f.block) is ∙ eq-eqb f.block f.block refl in
        let open_ : is_open (state_at v f.block) ≡ true = ap (λ b. is_open (cond b Open (cond (is_in v.target f.block) Target (cond (get_or v.free.items f.block false) Free Closed)))) here in
        let rest = ap is_open (states f.block (v.sound.opened_is f is).value) ∙ not_open _ in
        absurd (let e : true ≡ false = sym open_ ∙ rest in cc)

none_copied : (o : Option Filling) (image : Image) → is_some o ≡ false → FillsIn o image
none_copied None image none = tt
none_copied (Some f) image none = absurd cc

pub fills_none : (v : Values) (pages : List ℕ) (image : Image) → AreAtRest v pages → has_target v ≡ false → Fills v image
fills_none v pages image states none = record {
  opened = subst (λ (o : Option Filling). FillsIn o image) (sym (none_open v pages states)) tt;
  target = none_copied v.target image none;
}
