-- Runs over one another.
use Rattle.std.proofs.Common.{◌≡◌, ◌∙◌, ℕ, ◌-◌, List, [], ◌∷◌, ◌++◌, length, Option, Some, None, refl, sym, ap, subst, arith, append_assoc, length-append}
use Rattle.std.proofs.lemmas.List.{append-nil, nil_from_length}
use Rattle.kv_nand.specs.Flash.{Image}
use Rattle.kssd_entry.specs.declared.entry.Entry.{Entry}
use Rattle.kssd_model.specs.Rising.{merged}
use Rattle.kssd_run.specs.declared.reader.Run.{Run}
use Rattle.kssd_run.specs.Run.{run_info}
use Rattle.kssd_levels.specs.Runs.{blocks_in, StandRuns}
use Rattle.kssd_levels.specs.Reader.{StandsIn, entries_at, houses_of}
use Rattle.kssd_levels.specs.Over.{over}

-- the last of a list was taken, if there was one
pub record IsPopped (o : Option Run) (old new : List Run) : Type 0 where
  pub none : o ≡ None → (old ≡ []) × (new ≡ [])
  pub some : (run : Run) → o ≡ Some run → old ≡ new ++ run ∷ []

pub stand_split : (xs ys : List Run) (device : ℕ) (image : Image) → StandRuns (xs ++ ys) device image → StandRuns xs device image × StandRuns ys device image
stand_split [] ys device image h = (tt, h)
stand_split (x ∷ xs) ys device image h = let p = stand_split xs ys device image h.1 in ((h.0, p.0), p.1)

pub stand_join : (xs ys : List Run) (device : ℕ) (image : Image) → StandRuns xs device image → StandRuns ys device image → StandRuns (xs ++ ys) device image
stand_join [] ys device image h g = g
stand_join (x ∷ xs) ys device image h g = (h.0, stand_join xs ys device image h.1 g)

pub popped_stands : (o : Option Run) (old new : List Run) (device : ℕ) (image : Image) → IsPopped o old new → StandRuns old device image → StandsIn o device image × StandRuns new device image
popped_stands None old new device image p h = (tt, subst (λ (xs : List Run). StandRuns xs device image) (sym (p.none refl).1) tt)
popped_stands (Some run) old new device image p h =
    let q = stand_split new (run ∷ []) device image (subst (λ (xs : List Run). StandRuns xs device image) (p.some run refl) h) in
    (q.1.0, q.0)

over_last : (image : Image) (from : Option (List ℕ)) (runs : List Run) (run : Run) (later : List Entry) → over image from (runs ++ run ∷ []) later ≡ over image from runs (merged (entries_at image from (Some run)) later)
over_last image from [] run later = refl
over_last image from (r ∷ runs) run later = ap (merged (entries_at image from (Some r))) (over_last image from runs run later)

pub popped_over : (image : Image) (from : Option (List ℕ)) (o : Option Run) (old new : List Run) (later : List Entry) → IsPopped o old new → over image from new (merged (entries_at image from o) later) ≡ over image from old later
popped_over image from None old new later p = ap (λ (xs : List Run). over image from xs later) ((p.none refl).1 ∙ sym (p.none refl).0)
popped_over image from (Some run) old new later p = sym (over_last image from new run later) ∙ ap (λ (xs : List Run). over image from xs later) (sym (p.some run refl))

blocks_last : (runs : List Run) (run : Run) → blocks_in (runs ++ run ∷ []) ≡ blocks_in runs ++ (run_info run).blocks
blocks_last [] run = append-nil (run_info run).blocks
blocks_last (r ∷ runs) run = ap (λ (xs : List ℕ). (run_info r).blocks ++ xs) (blocks_last runs run) ∙ sym (append_assoc (run_info r).blocks (blocks_in runs) (run_info run).blocks)

pub popped_blocks : (o : Option Run) (old new : List Run) (later : List ℕ) → IsPopped o old new → blocks_in new ++ (houses_of o ++ later) ≡ blocks_in old ++ later
popped_blocks None old new later p = ap (λ (xs : List Run). blocks_in xs ++ later) ((p.none refl).1 ∙ sym (p.none refl).0)
popped_blocks (Some run) old new later p =
    sym (append_assoc (blocks_in new) (run_info run).blocks later)
    ∙ ap (λ (xs : List ℕ). xs ++ later) (sym (blocks_last new run) ∙ ap blocks_in (sym (p.some run refl)))

pub popped_length : (o : Option Run) (old new : List Run) → IsPopped o old new → length new ≡ length old - 1
popped_length None old new p = omega (arith, ap length (p.none refl).0, ap length (p.none refl).1)
popped_length (Some run) old new p = omega (arith, ap length (p.some run refl), length-append new (run ∷ []))

-- no run is left of at most none
pub none_left : (image : Image) (from : Option (List ℕ)) (runs : List Run) (later : List Entry) → length runs ≡ 0 → over image from runs later ≡ later
none_left image from runs later e = ap (λ (xs : List Run). over image from xs later) (nil_from_length runs e)

pub no_blocks_left : (runs : List Run) (later : List ℕ) → length runs ≡ 0 → blocks_in runs ++ later ≡ later
no_blocks_left runs later e = ap (λ (xs : List Run). blocks_in xs ++ later) (nil_from_length runs e)
