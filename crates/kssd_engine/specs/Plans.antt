-- Cuts and operations by their numbers.
use Rattle.std.specs.Prelude.{ℕ, ◌==◌, if◌then◌else◌, option_map}
use Rattle.kv_nand.specs.declared.nand.Outcome.{Outcome}
use Rattle.kv_nand.specs.declared.nand.Outcome.TheVariants as outcomes
use Rattle.kv_nand.specs.declared.nand.OpKind.{OpKind}
use Rattle.kv_nand.specs.declared.nand.OpKind.TheVariants as kinds
use Rattle.kv_nand.specs.Planned.{Planned, PlannedCut, PlannedFault}
use Rattle.kv_device.specs.Asked.{Asked}

-- what a cut leaves of its operation: nothing done, cut pages, an erase half done, or all done
abbrev pub outcome_of : ℕ → Outcome
outcome_of how = if how == 0 then outcomes.None else (if how == 1 then outcomes.Part else (if how == 2 then outcomes.Mix else outcomes.All))

-- reading, programming, erasing
abbrev pub operation_of : ℕ → OpKind
operation_of kind = if kind == 0 then kinds.Read else (if kind == 1 then kinds.Program else kinds.Erase)

-- their numbers
abbrev pub how_of : Outcome → ℕ
how_of outcomes.None = 0
how_of outcomes.Part = 1
how_of outcomes.Mix = 2
how_of outcomes.All = 3

abbrev pub kind_of : OpKind → ℕ
kind_of kinds.Read = 0
kind_of kinds.Program = 1
kind_of kinds.Erase = 2

-- what a device on flash was asked for: what is planned for its flash, and the last work
abbrev pub asked_by : Planned → ℕ → Asked
asked_by planned work = record {
  cut = option_map (λ (cut : PlannedCut). (cut.n, how_of cut.outcome)) planned.cut;
  fault = option_map (λ (fault : PlannedFault). (kind_of fault.kind, fault.n)) planned.fault;
  work = work;
}
