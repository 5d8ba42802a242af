use Rattle.std.proofs.Common.{◌≡◌, ◌≤◌, ◌+◌, length}
use Rattle.std.specs.FinMap as objects
use Rattle.kv_device.specs.Sizes.{one, large, new_total, old_total}
use Rattle.kv_device.proofs.key_map.KeyMap+Option+Value.sizes.Given as goal

-- the sums so far, and those of the changes that are left
abbrev pub invariant-loop-key : goal.invariant-loop-key
invariant-loop-key l = record {
  new_keys : l.put.keys + new_total one l.key-iterator ≡ new_total one (objects.entries l.self);
  new_pages : l.put.pages + new_total large l.key-iterator ≡ new_total large (objects.entries l.self);
  old_keys : l.gone.keys + old_total one l.stable l.key-iterator ≡ old_total one l.stable (objects.entries l.self);
  old_pages : l.gone.pages + old_total large l.stable l.key-iterator ≡ old_total large l.stable (objects.entries l.self);
  few : (l.put.keys + length l.key-iterator ≤ 640) × (l.put.pages + length l.key-iterator ≤ 640) × (l.gone.keys + length l.key-iterator ≤ 640) × (l.gone.pages + length l.key-iterator ≤ 640);
}
