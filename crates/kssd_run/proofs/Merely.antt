-- Facts that have one proof at most.
use Rattle.std.proofs.Common.{ℕ}
use Rattle.std.proofs.Props.{props}
use Rattle.kv_nand.specs.Flash.{Image, MayProgram}

pub may_program-prop : (image : Image) (page : ℕ) → IsProp (MayProgram image page)
may_program-prop image page = Prim.hlevel props
