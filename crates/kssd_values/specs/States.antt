-- The states of pages, by tests.
use Rattle.std.specs.Prelude.{Bool, true, false}
use Rattle.kv_nand.specs.Flash.{PageState, Erased, Whole, Cut}

-- whether a page is Whole
abbrev pub is_whole : PageState → Bool
is_whole Erased = false
is_whole (Whole bytes) = true
is_whole Cut = false
