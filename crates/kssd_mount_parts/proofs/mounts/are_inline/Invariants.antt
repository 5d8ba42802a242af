use Rattle.std.proofs.Common.{◌≡◌, take, []}
use Rattle.kssd_image.specs.Whole.{pages_named}
use Rattle.kssd_mount_parts.proofs.mounts.are_inline.Given as goal

abbrev pub invariant-loop-entry : goal.invariant-loop-entry
invariant-loop-entry l = pages_named (take l.entry-index l.entries) ≡ []
