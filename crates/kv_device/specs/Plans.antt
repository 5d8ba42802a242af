-- Planned failures of a device in memory, and which call of `end` each strikes.
use Rattle.std.specs.Prelude.{◌≡◌, ℕ, ◌-◌, ◌≤◌, ◌⊎◌, Bool, true, false, nat_le, nat_lt, nat_eq, not, ◌&&◌, Option, Some, None, unwrap_or, if◌then◌else◌}
use Rattle.kv_base.specs.Counts.{one_more}
use Rattle.std.specs.FinMap as objects
use Rattle.kv_device.specs.declared.fault.DeviceFault.{DeviceFault}
use Rattle.kv_device.specs.declared.fault.DeviceFault.TheVariants.{Off, Failed, Memory}
use Rattle.kv_device.specs.declared.plans.CutPlan.{CutPlan}
use Rattle.kv_device.specs.declared.plans.FaultPlan.{FaultPlan}
use Rattle.kv_device.specs.declared.plans.Plans.{Plans}
use Rattle.kv_device.specs.declared.plans.Strike.{Strike}
use Rattle.kv_device.specs.declared.plans.Strike.TheVariants.{Cut, Fault}
use Rattle.kv_device.specs.Machine.{Machine, view, is_open, changes_of}
use Rattle.kv_device.specs.Calls.{has_room}

-- ---- one more end that counts

abbrev pub cut_after : Option CutPlan → Option CutPlan
cut_after None = None
cut_after (Some plan) = if nat_lt 1 plan.left then Some (record { left = plan.left - 1; how = plan.how }) else None

-- only a fault of kind 1 counts
abbrev pub fault_after : Option FaultPlan → Option FaultPlan
fault_after None = None
fault_after (Some plan) =
    if not (nat_eq plan.kind 1) then Some plan else (if nat_lt 1 plan.left then Some (record { kind = plan.kind; left = plan.left - 1 }) else None)

abbrev pub passed : Plans → Plans
passed p = record { cut = cut_after p.cut; fault = fault_after p.fault }

-- a planned fault of kind 1 strikes at its last end
abbrev pub fault_strike : Option FaultPlan → Option Strike
fault_strike None = None
fault_strike (Some plan) = if nat_eq plan.kind 1 && nat_le plan.left 1 then Some Fault else None

-- a planned cut strikes at its last end, and comes before a fault there
abbrev pub strike_by : Option CutPlan → Option FaultPlan → Option Strike
strike_by None fault = fault_strike fault
strike_by (Some plan) fault = if nat_le plan.left 1 then Some (Cut (nat_eq plan.how 3)) else fault_strike fault

abbrev pub strike_of : Plans → Option Strike
strike_of p = strike_by p.cut p.fault

-- ---- new plans

-- nothing planned
abbrev pub unplanned : Plans
unplanned = record { cut = None; fault = None }

-- a new cut, in the place of the old one
abbrev pub with_cut : Plans → ℕ → ℕ → Plans
with_cut p n how = record { cut = Some (record { left = n; how = how }); fault = p.fault }

-- a new fault, in the place of the old one
abbrev pub with_fault : Plans → ℕ → ℕ → Plans
with_fault p kind n = record { cut = p.cut; fault = Some (record { kind = kind; left = n }) }

-- ---- what an end answers

-- the bounds leave room for the strike, whose plan is over
abbrev pub StrikeFits : Option Strike → Machine → Plans → Type 0
StrikeFits None m p = Unit {0}
StrikeFits (Some Fault) m p = (one_more m.faults ≤ m.most_faults) × (p.fault ≡ None)
StrikeFits (Some (Cut keeps)) m p = (one_more m.cuts ≤ m.most_cuts) × (p.cut ≡ None)

-- it has changes, and isn't refused
abbrev pub is_counted : Machine → ℕ → Bool
is_counted m tx = m.up && is_open m tx && has_room m (view m tx) && nat_lt 0 (objects.len (unwrap_or (changes_of m tx) objects.empty))

-- the plans after it
abbrev pub plans_after : Plans → Machine → ℕ → Plans
plans_after p m tx = if is_counted m tx then passed p else p

-- what strikes it
abbrev pub strike_at : Plans → Machine → ℕ → Option Strike
strike_at p m tx = if is_counted m tx then strike_of p else None

-- its error: with a planned strike that one, else none that raises a count
abbrev pub IsStruck : Option Strike → Machine → ℕ → DeviceFault → Machine → Type 0
IsStruck None old tx fault new = (new.cuts ≡ old.cuts) × (new.faults ≡ old.faults)
IsStruck (Some Fault) old tx fault new = (fault ≡ Failed) × (new.stable ≡ old.stable)
IsStruck (Some (Cut true)) old tx fault new = ((fault ≡ Off) × (new.stable ≡ view old tx)) ⊎ (fault ≡ Memory)
IsStruck (Some (Cut false)) old tx fault new = (fault ≡ Off) × (new.stable ≡ old.stable)
