-- The objects in memory: what they hold, and which of their calls fail.
use Rattle.std.specs.Prelude.{ℕ, ◌-◌, ◌==◌, ◌&&◌, ◌||◌, ◌++◌, min, nat_lt, Bool, List, length, take, drop, if◌then◌else◌}
use Rattle.std.specs.List.{list_any}
use Rattle.kv_base.specs.Counts.{one_more}
use Rattle.kfs_runner.specs.declared.memory.Failing.{Failing}
use Rattle.kfs_runner.specs.declared.memory.MemShelf.{MemShelf}
use Rattle.kfs_runner.specs.declared.memory.MemSource.{MemSource}
use Rattle.kfs_runner.specs.declared.memory.MemSink.{MemSink}

-- an object's calls so far, its faults, and the numbers of the calls that fail, from 1
pub record Plan : Type 0 where
  pub calls : ℕ
  pub faults : ℕ
  pub fails : List ℕ

abbrev pub plan_of : Failing → Plan
plan_of f = record { calls = f.calls; faults = f.faults; fails = f.fails.items }

-- no call so far
abbrev pub first_plan : List ℕ → Plan
first_plan fails = record { calls = 0; faults = 0; fails = fails }

-- whether the call that begins is one that fails
abbrev pub is_struck : Plan → Bool
is_struck p = list_any (λ n. n == one_more p.calls) p.fails

-- a call began
abbrev pub called : Plan → Plan
called p = record p { calls = one_more p.calls }

-- a fault is counted
abbrev pub failed : Plan → Plan
failed p = record p { faults = one_more p.faults }

-- a call began, and failed or not
abbrev pub after_call : Plan → Bool → Plan
after_call p fails = if fails then failed (called p) else called p

-- ---- a shelf

pub record ShelfState : Type 0 where
  pub bytes : List ℕ
  pub room : ℕ
  pub plan : Plan

abbrev pub shelf_of : MemShelf → ShelfState
shelf_of s = record { bytes = s.held.items; room = s.room; plan = plan_of s.failing }

abbrev pub after_take : ShelfState → ShelfState
after_take s = record s { plan = after_call s.plan (is_struck s.plan) }

-- a put fails where it is planned, and where there is no room
abbrev pub refuses_put : ShelfState → List ℕ → Bool
refuses_put s bytes = is_struck s.plan || nat_lt s.room (length bytes)

abbrev pub after_put : ShelfState → List ℕ → ShelfState
after_put s bytes = record {
  bytes = if refuses_put s bytes then s.bytes else bytes;
  room = s.room;
  plan = after_call s.plan (refuses_put s bytes);
}

-- ---- a source

pub record SourceState : Type 0 where
  pub left : List ℕ
  pub plan : Plan

abbrev pub source_of : MemSource → SourceState
source_of s = record { left = drop s.at s.bytes.items; plan = plan_of s.failing }

-- as many bytes as are left and as fit
abbrev pub count_read : SourceState → ℕ → ℕ
count_read s most = min most (length s.left)

abbrev pub after_read : SourceState → ℕ → SourceState
after_read s most = record {
  left = if is_struck s.plan then s.left else drop (count_read s most) s.left;
  plan = after_call s.plan (is_struck s.plan);
}

-- ---- a sink

pub record SinkState : Type 0 where
  pub got : List ℕ
  pub room : ℕ
  pub plan : Plan

abbrev pub sink_of : MemSink → SinkState
sink_of s = record { got = s.got.items; room = s.room; plan = plan_of s.failing }

-- as many bytes as there is room for
abbrev pub count_written : SinkState → List ℕ → ℕ
count_written s bytes = min (length bytes) (s.room - length s.got)

-- a write fails where it is planned, and where it takes nothing of some bytes
abbrev pub fails_to_write : SinkState → List ℕ → Bool
fails_to_write s bytes = is_struck s.plan || (count_written s bytes == 0 && nat_lt 0 (length bytes))

abbrev pub after_write : SinkState → List ℕ → SinkState
after_write s bytes = record {
  got = if is_struck s.plan then s.got else s.got ++ take (count_written s bytes) bytes;
  room = s.room;
  plan = after_call s.plan (fails_to_write s bytes);
}
