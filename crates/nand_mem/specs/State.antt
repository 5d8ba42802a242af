-- The machine that a state in memory is.
use Rattle.std.specs.Prelude.{◌≡◌, ◌<◌, ◌≤◌, ◌*◌, ◌^◌, length, Some}
use Rattle.std.specs.Option.{ForSome}
use Rattle.kv_nand.specs.Flash.{Flash}
use Rattle.kv_base.specs.Counts.{one_more}
use Rattle.nand_mem.specs.declared.state.State.{State}
use Rattle.nand_mem.specs.Slots.{image_of}
use Rattle.nand_mem.specs.Machine.{Mem}

-- the flash that it is
abbrev pub flash_of : State → Flash
flash_of m = record {
  image = image_of m.slots.items;
  blocks = m.blocks;
  powered = m.powered;
  cuts = m.cuts;
  faults = m.faults;
  reads = m.reads;
  ops = m.ops;
  most_cuts = m.most_cuts;
  most_faults = m.most_faults;
  fails = m.fails;
}

-- the flash with its plans
abbrev pub mem_of : State → Mem
mem_of m = record { flash = flash_of m; cut = m.cut; fail = m.fail }

-- what holds of each state: a place for each page, and room in the bounds for what is planned
pub record IsMem (m : State) : Type 0 where
  pub size : length m.slots.items ≡ 32 * m.blocks
  pub blocks : m.blocks < 2 ^ 16
  pub least : 256 ≤ m.blocks
  pub most : m.blocks ≤ 2048
  pub cuts : m.cuts ≤ m.most_cuts
  pub faults : m.faults ≤ m.most_faults
  pub reads : m.reads < 2 ^ 64
  pub ops : m.ops < 2 ^ 64
  pub most_cuts : m.most_cuts < 2 ^ 64
  pub most_faults : m.most_faults < 2 ^ 64
  pub cut_armed : ForSome m.cut (λ _. one_more m.cuts ≤ m.most_cuts)
  pub fail_armed : ForSome m.fail (λ _. one_more m.faults ≤ m.most_faults)
  pub kind_armed : ForSome m.fail (λ plan. m.fails ≡ Some plan.kind)
