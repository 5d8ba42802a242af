-- What setting a value takes, and the marks that it leaves.
use Rattle.std.specs.Prelude.{◌+◌, ◌^◌, ◌==◌, ℕ, List, length, Option, nat_lt, if◌then◌else◌}
use Rattle.kssd_values.specs.declared.mark.Mark.{Mark}
use Rattle.kssd_values.specs.declared.mark.Mark.TheVariants.{Pending, Dead}
use Rattle.kssd_mounted.specs.Marking.{is_page}
use Rattle.kssd_collect.specs.Costs.{most_collect_cost, usual_collect_cost}

-- by how much setting a value may raise the numbers of the device: one of at most 128 bytes writes nothing
abbrev pub set_rise : List ℕ → ℕ
set_rise value = if nat_lt 128 (length value) then 2 ^ 11 else 0

-- at most so many operations set a value: those of a collection, an erase and a page
abbrev pub most_set_cost : ℕ → ℕ
most_set_cost blocks = most_collect_cost blocks + 2

-- and so many where level 0 has place for a run more
abbrev pub usual_set_cost : ℕ
usual_set_cost = usual_collect_cost + 2

-- the marks after a page became pending, and then the older page of its key died, if it had one
abbrev pub marks_after : (ℕ → Mark) → ℕ → Option ℕ → ℕ → Mark
marks_after before page older q = if is_page q older then Dead else (if q == page then Pending else before q)
