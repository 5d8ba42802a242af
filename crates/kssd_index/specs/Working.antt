-- The jobs that are due, and what is done of them.
use Rattle.std.specs.Prelude.{◌≡◌, ◌≤◌, ◌+◌, ◌-◌, ◌^◌, ◌&&◌, ℕ, Bool, nat_lt, nat_le, length, Option, Some, is_some, if◌then◌else◌}
use Rattle.kv_nand.specs.Flash.{Flash}
use Rattle.kv_nand.specs.Working.{Works, ops_more}
use Rattle.kssd_levels.specs.declared.kind.JobKind.{JobKind}
use Rattle.kssd_levels.specs.declared.kind.JobKind.TheVariants.{Flush, Zero, One, Collect}
use Rattle.kssd_levels.specs.Levels.{first_entries, due_of}
use Rattle.kssd_root.specs.Mapping.{IsKept}
use Rattle.kssd_root.specs.Costs.{merge_cost}
use Rattle.kssd_index.specs.declared.index.Index.{Index}
use Rattle.kssd_index.specs.Standing.{IsIndex}

-- the job that is due: the flush of the older table where level 0 has place for a run more; else a merge of level 0 where it has none and level 1 isn't above 4,096 entries, and one of level 1 where it is
abbrev pub due_in : Index → Option JobKind
due_in index = if is_some index.older && nat_lt (length index.root.levels.zero) 4 then Some Flush else due_of index.root.levels

-- what jobs come to that count so much each: a flush where a table is frozen, a merge of level 1 where it isn't low, and where level 0 has no place a merge of it, by which level 1 may have to be merged once more
abbrev pub sum_of : ℕ → ℕ → ℕ → Bool → Bool → Bool → ℕ
sum_of flush upper lower frozen low place = (if frozen then flush else 0) + ((if low then 0 else lower) + (if place then 0 else upper + lower))

-- what the jobs come to at most that are due one after the other: level 0 has to have place for the run of a frozen table, too
abbrev pub sum_ahead : ℕ → ℕ → ℕ → Index → ℕ
sum_ahead flush upper lower index =
    sum_of flush upper lower (is_some index.older) (nat_le (first_entries index.root.levels.one) 4096)
    (nat_lt (length index.root.levels.zero + (if is_some index.older then 1 else 0)) 4)

-- at most so many jobs are due one after the other
abbrev pub jobs_ahead : Index → ℕ
jobs_ahead index = sum_ahead 1 1 1 index

-- and they take at most so many operations
abbrev pub work_ahead : Index → ℕ → ℕ
work_ahead index blocks = sum_ahead (merge_cost Flush blocks) (merge_cost Zero blocks) (merge_cost One blocks) index

-- what a job of each kind counts
abbrev pub count_of : ℕ → ℕ → ℕ → JobKind → ℕ
count_of flush upper lower Flush = flush
count_of flush upper lower Zero = upper
count_of flush upper lower One = lower
count_of flush upper lower Collect = 0

-- a job of this kind is ahead no more, whatever each counts
abbrev pub IsOneFewer : JobKind → Index → Index → Type 0
IsOneFewer kind old new = (flush upper lower : ℕ) → sum_ahead flush upper lower new + count_of flush upper lower kind ≤ sum_ahead flush upper lower old

-- of so many operations these are left, the others were done, and the index stands as before
pub record WorksOn (most left : ℕ) (before : Flash) (index : Index) (after : Flash) : Type 0 where
  pub stands : IsIndex index after.blocks after.image
  pub kept : IsKept before.blocks before.image after.image
  pub few : left ≤ most
  pub works : Works before after (most - left) (2 ^ 64)
  pub exact : after.ops ≡ ops_more before (most - left)
