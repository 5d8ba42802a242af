-- How many operations the calls of a device take.
use Rattle.std.specs.Prelude.{◌≡◌, ◌≤◌, ◌+◌, ◌*◌, ℕ, true, List, [], Option, None, Some}
use Rattle.kv_nand.specs.Flash.{Flash}
use Rattle.kssd_layout.specs.Numbers.{run_blocks_in}
use Rattle.kssd_entry.specs.declared.entry.Entry.{Entry}
use Rattle.kssd_tx.specs.Lists.{changes_of}
use Rattle.kssd_index.specs.Costs.{zero_runs_in, takes_group, group_cost_in}
use Rattle.kssd_mounted.specs.declared.mounted.Mounted.{Mounted}

-- at most so many operations in every case, on so many blocks: a page and an erase for all run blocks, and a few
abbrev pub worst_cost : ℕ → ℕ
worst_cost blocks = 32 * run_blocks_in blocks + 128

-- at most so many where level 0 has place for a run more
abbrev pub usual_cost : ℕ
usual_cost = 512

-- the worst bound is kept
abbrev pub IsWithinWorst : Flash → Flash → Type 0
IsWithinWorst old new = new.ops ≤ old.ops + worst_cost old.blocks

-- and the usual one, where the image's level 0 has at most 3 runs
abbrev pub IsWithinUsual : Flash → Flash → Type 0
IsWithinUsual old new = zero_runs_in old.image ≤ 3 → new.ops ≤ old.ops + usual_cost

-- the changes of an open transaction as entries by rising keys, which its end writes as one group
abbrev pub group_of : Option Mounted → ℕ → List Entry
group_of None tx = []
group_of (Some m) tx = changes_of m.changes tx

-- where the image's log takes this group, no more operations were begun than its pages and two for each turn
abbrev pub IsWithinGroup : List Entry → Flash → Flash → Type 0
IsWithinGroup group old new = takes_group old.image group ≡ true → new.ops ≤ old.ops + group_cost_in old.image group
