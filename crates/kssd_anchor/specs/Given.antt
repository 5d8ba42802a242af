-- What a reading function answers, beside what reading gives.
use Rattle.std.specs.Prelude.{◌≡◌, Option, Some, None, Result, Ok, Err}
use Rattle.kssd_anchor.specs.declared.reading.Unread.{Unread}
use Rattle.kssd_anchor.specs.declared.reading.Unread.TheVariants.{Short, Memory}

-- nothing was read: the bytes end too early, or memory ran out
abbrev pub Unreads : {Y : Type 0} → Unread → Option Y → Type 0
Unreads Short read = read ≡ None
Unreads Memory read = Unit {0}

-- what a function returned, seen by view, is what reading gives
abbrev pub Gives : {X Y : Type 0} → (X → Y) → Result X Unread → Option Y → Type 0
Gives view (Ok x) read = read ≡ Some (view x)
Gives view (Err e) read = Unreads e read
