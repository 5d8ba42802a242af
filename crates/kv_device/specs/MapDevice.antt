-- What a device in memory is as a machine.
use Rattle.std.specs.Prelude.{ℕ, List, Option, map, option_map}
use Rattle.kv_device.specs.Asked.{Asked}
use Rattle.kv_device.specs.Machine.{Machine, Transactions}
use Rattle.kv_device.specs.declared.map_device.MapDevice.{MapDevice}
use Rattle.kv_device.specs.declared.changes.Open.{Open}
use Rattle.kv_device.specs.declared.plans.CutPlan.{CutPlan}
use Rattle.kv_device.specs.declared.plans.FaultPlan.{FaultPlan}
use Rattle.kv_device.specs.declared.plans.Plans.{Plans}
use Rattle.kv_device.specs.Calls.{IsSound}
use Rattle.std.proofs.Common.{arith}
use Rattle.std.proofs.lemmas.List.{length-map}

abbrev pub shown : List (Option Open) → Transactions
shown pending = map (option_map (λ (t : Open). t.changes)) pending

abbrev pub machine_of : MapDevice → Machine
machine_of d = record {
  up = d.up;
  stable = d.stable.map;
  pending = shown d.pending;
  cuts = d.cuts;
  faults = d.faults;
  most_cuts = d.most_cuts;
  most_faults = d.most_faults;
  room_keys = d.room_keys;
  room_pages = d.room_pages;
}

-- what is planned
abbrev pub plans_of : MapDevice → Plans
plans_of d = d.plans

-- what it was asked for, as any device tells it
abbrev pub asked_of : MapDevice → Asked
asked_of d = record {
  cut = option_map (λ (plan : CutPlan). (plan.left, plan.how)) d.plans.cut;
  fault = option_map (λ (plan : FaultPlan). (plan.kind, plan.left)) d.plans.fault;
  work = d.operations;
}

-- how often it failed, and what is planned
pub record Marks : Type 0 where
  pub cuts : ℕ
  pub faults : ℕ
  pub plans : Plans

abbrev pub marks_of : MapDevice → Marks
marks_of d = record { cuts = d.cuts; faults = d.faults; plans = d.plans }

pub machine_of-sound : (d : MapDevice) → IsSound (machine_of d)
machine_of-sound d = record {
  keys = d.has_room;
  pages = d.has_pages;
  cuts = d.counted;
  faults = d.failed;
  four = simp length-map d.four;
  held = record {
    key_sizes = λ key value there. (d.stable.held key value there).0.0;
    keys = λ key value there. (d.stable.held key value there).0.1;
    sizes = λ key value there. (d.stable.held key value there).1.0;
    values = λ key value there. (d.stable.held key value there).1.1;
    few = omega (arith, d.has_room, d.small);
  };
}
