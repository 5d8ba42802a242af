-- Cuts and operations have their numbers.
use Rattle.std.proofs.Common.{ℕ, zero, suc, ◌≡◌, ◌≤◌, refl, ap, ◌∙◌, arith, Some}
use Rattle.kv_nand.specs.Planned.{Planned, with_cut, with_fault}
use Rattle.kv_device.specs.Asked.{asks_cut, asks_fault}
use Rattle.kssd_engine.specs.Plans.{outcome_of, operation_of, how_of, kind_of, asked_by}

how_of-outcome_of : (how : ℕ) → how ≤ 3 → how_of (outcome_of how) ≡ how
how_of-outcome_of zero h = refl
how_of-outcome_of (suc zero) h = refl
how_of-outcome_of (suc (suc zero)) h = refl
how_of-outcome_of (suc (suc (suc zero))) h = refl
how_of-outcome_of (suc (suc (suc (suc n)))) h = absurd (omega arith)

kind_of-operation_of : (kind : ℕ) → kind ≤ 2 → kind_of (operation_of kind) ≡ kind
kind_of-operation_of zero h = refl
kind_of-operation_of (suc zero) h = refl
kind_of-operation_of (suc (suc zero)) h = refl
kind_of-operation_of (suc (suc (suc n))) h = absurd (omega arith)

-- a cut that is planned for the flash is one that the device was asked for
pub cut_asked : (old new : Planned) (work n how : ℕ) → how ≤ 3 → new ≡ with_cut old n (outcome_of how) → asked_by new work ≡ asks_cut (asked_by old work) n how
cut_asked old new work n how h is =
    ap (λ p. asked_by p work) is ∙ ap (λ k. record (asked_by old work) { cut = Some (n, k) }) (how_of-outcome_of how h)

-- and so is a fault
pub fault_asked : (old new : Planned) (work kind n : ℕ) → kind ≤ 2 → new ≡ with_fault old (operation_of kind) n → asked_by new work ≡ asks_fault (asked_by old work) kind n
fault_asked old new work kind n h is =
    ap (λ p. asked_by p work) is ∙ ap (λ k. record (asked_by old work) { fault = Some (k, n) }) (kind_of-operation_of kind h)
