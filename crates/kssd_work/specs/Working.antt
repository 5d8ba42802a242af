-- What is due between calls, and when work is done.
use Rattle.std.specs.Prelude.{◌≡◌, ◌⊎◌, ◌≤◌, ◌+◌, ◌-◌, ◌*◌, ℕ, false, Option, Some, None}
use Rattle.kv_nand.specs.Flash.{Flash}
use Rattle.kv_nand.specs.Working.{ops_more}
use Rattle.kssd_values.specs.declared.values.Values.{Values}
use Rattle.kssd_values.specs.Blocks.{has_target, free_count}
use Rattle.kssd_levels.specs.declared.kind.JobKind.{JobKind}
use Rattle.kssd_levels.specs.declared.kind.JobKind.TheVariants.{Flush, Zero, One, Collect}
use Rattle.kssd_layout.specs.Numbers.{base_blocks_in}
use Rattle.kssd_root.specs.Costs.{merge_cost}
use Rattle.kssd_index.specs.Standing.{index_root}
use Rattle.kssd_index.specs.Working.{due_in, work_ahead}
use Rattle.kssd_mounted.specs.declared.mounted.Mounted.{Mounted}
use Rattle.kssd_collect.specs.Due.{MayBegin, IsCollectionDue}

-- the job that is due: that of the index, where it has one; else a collection, or none
abbrev pub IsDue : Mounted → Option JobKind → Type 0
IsDue m None = (due_in m.index ≡ None) × (IsCollectionDue m → ⊥)
IsDue m (Some Flush) = due_in m.index ≡ Some Flush
IsDue m (Some Zero) = due_in m.index ≡ Some Zero
IsDue m (Some One) = due_in m.index ≡ Some One
IsDue m (Some Collect) = (due_in m.index ≡ None) × IsCollectionDue m

-- all of so many operations were done, but for a few at most
abbrev pub HasDone : Flash → ℕ → ℕ → Flash → Type 0
HasDone old operations few new = (done : ℕ) × (new.ops ≡ ops_more old done) × (operations ≤ done + few)

-- nothing is due any more; or all operations were done but for 4 at most
abbrev pub IsWorked : Flash → ℕ → Mounted → Flash → Type 0
IsWorked old operations m new = IsDue m None ⊎ HasDone old operations 4 new

-- of so many operations these are left, and the others were done, all of them; or but for 3 at most, and no collection is due any more
abbrev pub IsCounted : Flash → ℕ → ℕ → Mounted → Flash → Type 0
IsCounted old operations left m new = (new.ops ≡ ops_more old (operations - left)) ⊎ ((IsCollectionDue m → ⊥) × HasDone old (operations - left) 3 new)

-- nothing has changed
pub record IsAsBefore (m : Mounted) (old : Flash) (n : Mounted) (new : Flash) : Type 0 where
  pub mounted : n ≡ m
  pub flash : new ≡ old

-- no collection is under way, and where one may begin no block was copied into and one more is free
pub record IsFreed (v : Values) (n : Mounted) : Type 0 where
  pub over : n.collection ≡ None
  pub free : MayBegin n.values → (has_target v ≡ false) × (free_count n.values ≡ free_count v + 1)

-- a collection has ended: none is under way, and where none was before, one might begin, and one more block is free
pub record HasEnded (old new : Mounted) : Type 0 where
  pub over : new.collection ≡ None
  pub began : old.collection ≡ None → MayBegin old.values
  pub free : MayBegin new.values → old.collection ≡ None → free_count new.values ≡ free_count old.values + 1

-- ---- how many operations do all that is due

-- so many operations are enough, whatever is due
abbrev pub enough_work : ℕ → ℕ
enough_work blocks = 64 * (118 + 2 * base_blocks_in blocks) + 256

-- what one job of each kind takes that writes a run
abbrev pub each_once : ℕ → ℕ
each_once blocks = merge_cost Flush blocks + merge_cost Zero blocks + merge_cost One blocks

-- a collection that has ended left the index as it was; or its root, and no collection is due
abbrev pub LeavesIndex : Mounted → Mounted → Type 0
LeavesIndex old new = (new.index ≡ old.index) ⊎ ((IsCollectionDue new → ⊥) × (index_root new.index ≡ index_root old.index))

-- a round took what was ahead and 37 operations at most; or no collection is due, and at most one job of each kind is ahead beyond that
abbrev pub IsPaid : Mounted → ℕ → ℕ → ℕ → Mounted → Type 0
IsPaid old blocks operations left new =
    ((operations - left) + work_ahead new.index blocks ≤ work_ahead old.index blocks + 37)
    ⊎ ((IsCollectionDue new → ⊥) × ((operations - left) + work_ahead new.index blocks ≤ work_ahead old.index blocks + 37 + each_once blocks))
