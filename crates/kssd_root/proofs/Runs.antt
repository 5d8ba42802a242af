-- Runs stand where their pages stay.
use Rattle.std.proofs.Common.{true, ◌≡◌, ◌∙◌, ℕ, ◌/◌, List, [], ◌∷◌, sym, ap, subst, arith, inl, inr}
use Rattle.std.specs.Prelude.{nat_eq}
use Rattle.std.specs.List.{All, list_any}
use Rattle.std.proofs.lemmas.Bool.{or_cases, eqb-true, false≢true}
use Rattle.std.proofs.lemmas.List.Folds.{list_any-append}
use Rattle.std.proofs.lemmas.List.Elements.{All-head, All-tail}
use Rattle.kv_nand.specs.Flash.{Image}
use Rattle.kssd_layout.specs.Numbers.{region_in}
use Rattle.kssd_layout.specs.declared.region.Region.TheVariants.{Run}
use Rattle.kssd_model.specs.declared.anchor.Anchor.{Anchor}
use Rattle.kssd_model.specs.declared.runs.RunInfo.{RunInfo}
use Rattle.kssd_image.specs.AnchorForm.{IsAnchorForm, IsRunForm, blocks_of}
use Rattle.kssd_merge.specs.Same.{AreSameIn}
use Rattle.kssd_levels.specs.declared.levels.Levels.{Levels}
use Rattle.kssd_levels.proofs.Staying.{levels_stay}
use Rattle.kssd_log.specs.Append.{StaysOutside}
use Rattle.kssd_frames.proofs.Places.{run_is_behind}
use Rattle.kssd_root.specs.Standing.{AreRuns}

pub in_region : (blocks b : ℕ) (bs : List ℕ) → All (λ block. region_in blocks block ≡ Run) bs → list_any (nat_eq b) bs ≡ true → region_in blocks b ≡ Run
in_region blocks b [] all h = absurd (false≢true h)
in_region blocks b (x ∷ xs) all h = elim (or_cases (nat_eq b x) (list_any (nat_eq b) xs) h) [
  | inl here ↦ ap (region_in blocks) (eqb-true b x here) ∙ All-head (λ block. region_in blocks block ≡ Run) x xs all
  | inr later ↦ in_region blocks b xs (All-tail (λ block. region_in blocks block ≡ Run) x xs all) later
]

pub named_is_run : (blocks b : ℕ) (runs : List RunInfo) → All (IsRunForm blocks) runs → list_any (nat_eq b) (blocks_of runs) ≡ true → region_in blocks b ≡ Run
named_is_run blocks b [] forms h = absurd (false≢true h)
named_is_run blocks b (r ∷ rs) forms h = elim (or_cases (list_any (nat_eq b) r.blocks) (list_any (nat_eq b) (blocks_of rs)) (sym (list_any-append (nat_eq b) r.blocks (blocks_of rs)) ∙ h)) [
  | inl here ↦ in_region blocks b r.blocks (All-head (IsRunForm blocks) r rs forms).region here
  | inr later ↦ named_is_run blocks b rs (All-tail (IsRunForm blocks) r rs forms) later
]

pub runs_stand : (levels : Levels) (anchor : Anchor) (blocks : ℕ) (old new : Image) → AreSameIn (blocks_of anchor.runs) old new → AreRuns levels anchor blocks old → AreRuns levels anchor blocks new
runs_stand levels anchor blocks old new same h = record {
  named = h.named;
  stand = (levels_stay levels blocks old new (subst (λ (infos : List RunInfo). AreSameIn (blocks_of infos) old new) (sym h.named) same) h.stand).0;
}

pub pages_outside : (blocks : ℕ) (old new : Image) (anchor : Anchor) → IsAnchorForm blocks anchor → StaysOutside old new → AreSameIn (blocks_of anchor.runs) old new
pages_outside blocks old new anchor form outside page named =
    let low = run_is_behind blocks (page / 32) (named_is_run blocks (page / 32) anchor.runs form.runs named) in
    outside page (inr (omega arith))
