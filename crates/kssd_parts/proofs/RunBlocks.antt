-- Blocks of runs of the smallest device.
use Rattle.std.proofs.Common.{◌≡◌, ℕ, zero, suc, ◌<◌, ◌≤◌, true, false, [], ◌∷◌, get_or, cond, ltb, arith}
use Rattle.std.specs.Prelude.{nat_eq}
use Rattle.std.specs.List.{IsDistinct}
use Rattle.std.proofs.lemmas.Bool.{le-ltb, lt-ltb}
use Rattle.kssd_layout.specs.Numbers.{region_in}
use Rattle.kssd_layout.specs.declared.region.Region.TheVariants.{Anchor, Log, Run, Value}
use Rattle.kssd_model.specs.RunPages.{AreRunBlocks}

run_block : (block : ℕ) → 20 ≤ block → block < 166 → region_in 256 block ≡ Run
run_block block least most =
    let p : ltb block 2 ≡ false = le-ltb block 2 (omega arith) in
    let q : ltb block 20 ≡ false = le-ltb block 20 least in
    let r : ltb block 166 ≡ true = lt-ltb block 166 most in
    λ i. cond (p i) Anchor (cond (q i) Log (cond (r i) Run Value))

-- one block of the smallest device
pub one_run_block : (block : ℕ) → 20 ≤ block → block < 166 → AreRunBlocks 256 (block ∷ [])
unfolding IsDistinct
one_run_block block least most = record { distinct = (tt, tt); region = here }
  where
    here : (i : ℕ) → i < 1 → region_in 256 (get_or (block ∷ []) i 0) ≡ Run
    here zero lt = run_block block least most
    here (suc i) lt = absurd (omega arith)

-- two of them
pub two_run_blocks : (a b : ℕ) → 20 ≤ a → a < 166 → 20 ≤ b → b < 166 → nat_eq a b ≡ false → AreRunBlocks 256 (a ∷ b ∷ [])
unfolding IsDistinct
two_run_blocks a b la ma lb mb ne = record { distinct = ((ne, tt), (tt, tt)); region = here }
  where
    here : (i : ℕ) → i < 2 → region_in 256 (get_or (a ∷ b ∷ []) i 0) ≡ Run
    here zero lt = run_block a la ma
    here (suc zero) lt = run_block b lb mb
    here (suc (suc i)) lt = absurd (omega arith)
