-- Plans of a cut and of a fault.
use Rattle.std.specs.Prelude.{◌-◌, Bool, true, false, not, ◌&&◌, nat_le, Option, Some, None, if◌then◌else◌, option_map}
use Rattle.kv_nand.specs.declared.nand.OpKind.{OpKind}
use Rattle.kv_nand.specs.declared.nand.OpKind.TheVariants.{Read, Program, Erase}
use Rattle.kv_nand.specs.Planned.{Planned, PlannedCut, PlannedFault}
use Rattle.nand_mem.specs.declared.plan.CutPlan.{CutPlan}
use Rattle.nand_mem.specs.declared.plan.FailPlan.{FailPlan}
use Rattle.nand_mem.specs.declared.plan.Fate.{Fate}
use Rattle.nand_mem.specs.declared.plan.Fate.TheVariants.{Done, Cut, Fails}

-- whether two kinds of operation are the same
abbrev pub same_kind : OpKind → OpKind → Bool
same_kind Read Read = true
same_kind Program Program = true
same_kind Erase Erase = true
same_kind Read Program = false
same_kind Read Erase = false
same_kind Program Read = false
same_kind Program Erase = false
same_kind Erase Read = false
same_kind Erase Program = false

-- whether the plan of a fault meets the next operation of this kind
abbrev pub fails_now : OpKind → Option FailPlan → Bool
fails_now kind None = false
fails_now kind (Some plan) = same_kind plan.kind kind && nat_le plan.n 1

-- what a plan of a fault makes of the next operation of this kind
abbrev pub fate_without_cut : OpKind → Option FailPlan → Fate
fate_without_cut kind fail = if fails_now kind fail then Fails else Done

-- what plans make of the next operation of this kind: a cut comes before a fault
abbrev pub fate_of : OpKind → Option CutPlan → Option FailPlan → Fate
fate_of kind None fail = fate_without_cut kind fail
fate_of kind (Some plan) fail = if nat_le plan.n 1 then Cut plan.outcome else fate_without_cut kind fail

-- the plan of a cut after one more program or erase
abbrev pub cut_after : Option CutPlan → Option CutPlan
cut_after None = None
cut_after (Some plan) = if nat_le plan.n 1 then None else Some (record { n = plan.n - 1; outcome = plan.outcome })

-- the plan of a fault after one more operation of this kind
abbrev pub fail_after : OpKind → Option FailPlan → Option FailPlan
fail_after kind None = None
fail_after kind (Some plan) =
    if not (same_kind plan.kind kind) then Some plan else (if nat_le plan.n 1 then None else Some (record { kind = plan.kind; n = plan.n - 1 }))

abbrev pub cut_in : CutPlan → PlannedCut
cut_in plan = record { n = plan.n; outcome = plan.outcome }

abbrev pub fault_in : FailPlan → PlannedFault
fault_in plan = record { kind = plan.kind; n = plan.n }

-- what is planned, as any flash tells it
abbrev pub planned_by : Option CutPlan → Option FailPlan → Planned
planned_by cut fail = record { cut = option_map cut_in cut; fault = option_map fault_in fail }
