-- What a flash is told of when power is cut and when an operation fails.
use Rattle.std.specs.Prelude.{ℕ, Option, Some}
use Rattle.kv_nand.specs.declared.nand.OpKind.{OpKind}
use Rattle.kv_nand.specs.declared.nand.Outcome.{Outcome}

-- the n-th program or erase is cut, and leaves this
pub record PlannedCut : Type 0 where
  pub n : ℕ
  pub outcome : Outcome

-- the n-th operation of this kind fails
pub record PlannedFault : Type 0 where
  pub kind : OpKind
  pub n : ℕ

-- the cut and the fault that are planned
pub record Planned : Type 0 where
  pub cut : Option PlannedCut
  pub fault : Option PlannedFault

-- a cut is planned, in the place of the old one
abbrev pub with_cut : Planned → ℕ → Outcome → Planned
with_cut p n outcome = record p { cut = Some (record { n = n; outcome = outcome }) }

-- a fault is planned, in the place of the old one of any kind
abbrev pub with_fault : Planned → OpKind → ℕ → Planned
with_fault p kind n = record p { fault = Some (record { kind = kind; n = n }) }
