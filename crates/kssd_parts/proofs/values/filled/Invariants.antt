use Rattle.std.proofs.Common.{◌≡◌, ◌/◌}
use Rattle.kssd_values.specs.Places.{IsValueBlock}
use Rattle.kssd_values.specs.Blocks.{device_of, copied}
use Rattle.kssd_values.specs.Pages.{StandsIn}
use Rattle.kssd_parts.proofs.values.filled.Given as goal

abbrev pub invariant-loop-number : goal.invariant-loop-number
invariant-loop-number g l = record {
  stands : StandsIn l.values (g.N.Nand.flash l.nand);
  value : IsValueBlock (device_of l.values) (l.first / 32);
  copied_is : copied l.values ≡ copied l.fn.values;
}
