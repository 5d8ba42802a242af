-- How many bytes an anchor has.
use Rattle.std.proofs.Common.{◌≡◌, ℕ, ◌-◌, ◌*◌, ◌≤◌, List, [], ◌∷◌, length, replicate, refl, arith, length-append, ap}
use Rattle.std.proofs.lemmas.List.{length-replicate}
use Rattle.std.proofs.lemmas.List.Concat.{flat_map-cons}
use Rattle.std.proofs.lemmas.List.Sums.{sum_by-cons}
use Rattle.std.specs.Prelude.{sum_by}
use Rattle.std.specs.Int.{w16, to_be_bytes}
use Rattle.kssd_entry.specs.Spelling.{filled, spare_bytes, page_bytes}
use Rattle.kssd_model.specs.declared.runs.RunInfo.{RunInfo}
use Rattle.kssd_model.specs.declared.anchor.Anchor.{Anchor}
use Rattle.kssd_model.specs.AnchorSpelling.{blocks_bytes, run_bytes, runs_bytes, run_size, anchor_bytes, anchor_size, anchor_head, anchor_page}

pub length-blocks_bytes : (blocks : List ℕ) → length (blocks_bytes blocks) ≡ 2 * length blocks
length-blocks_bytes [] = refl
length-blocks_bytes (b ∷ blocks) = omega (arith, length-blocks_bytes blocks, ap length (flat_map-cons (to_be_bytes w16) b blocks), length-append (to_be_bytes w16 b) (blocks_bytes blocks))

pub length-run_bytes : (run : RunInfo) → length (run_bytes run) ≡ run_size run
unfolding run_bytes
length-run_bytes run = omega (arith, length-blocks_bytes run.blocks)

pub length-runs_bytes : (runs : List RunInfo) → length (runs_bytes runs) ≡ sum_by run_size runs
length-runs_bytes [] = refl
length-runs_bytes (r ∷ runs) = omega (arith, length-runs_bytes runs, length-run_bytes r, sum_by-cons run_size r runs, ap length (flat_map-cons run_bytes r runs), length-append (run_bytes r) (runs_bytes runs))

pub length-anchor_bytes : (a : Anchor) → length (anchor_bytes a) ≡ anchor_size a
unfolding anchor_bytes
length-anchor_bytes a = omega (arith, length-runs_bytes a.runs)

pub length-filled : (n : ℕ) (bytes : List ℕ) → length bytes ≤ n → length (filled n bytes) ≡ n
unfolding filled
length-filled n bytes h = omega (arith, length-append bytes (replicate (n - length bytes) 0), length-replicate {A = ℕ} (n - length bytes) 0)

pub length-anchor_page : (a : Anchor) → anchor_size a ≤ 4096 → length (anchor_page a) ≡ 4160
unfolding anchor_page page_bytes
length-anchor_page a h =
    omega (arith, length-append (filled 4096 (anchor_bytes a)) (filled 64 (spare_bytes (anchor_head a.number) 0)), length-filled 4096 (anchor_bytes a) (omega (arith, length-anchor_bytes a)), length-filled 64 (spare_bytes (anchor_head a.number) 0) (omega arith))

-- each run has at least 19 bytes, and 2 for each block
pub few_runs : (runs : List RunInfo) → 19 * length runs ≤ sum_by run_size runs
few_runs [] = omega arith
few_runs (r ∷ runs) = omega (arith, few_runs runs, sum_by-cons run_size r runs)
