use Rattle.std.proofs.Common.{◌∙◌, ◌≡◌, sym, ap, arith, length}
use Rattle.std.specs.FinMap as objects
use Rattle.kv_device.specs.Sizes.{one, large, new_total, old_total}
use Rattle.kv_device.proofs.KeyMapLaws.{entries_shown}
use Rattle.kv_device.proofs.key_map.KeyMap+Option+Value.sizes.Goals as goal

pub loop-key-init : goal.loop-key-init
loop-key-init c =
    let iter = c.into_iter-key-iterator.ensures.into_iter_gives in
    let all : c.into_iter-key-iterator.result ≡ objects.entries c.args.self.now = iter.0 ∙ sym (entries_shown c.self.inside.map.entries c.args.self.now iter.5 c.self.view_is) in
    let len = objects.len-entries c.args.self.now in
    let same = ap length all in
    record {
      new_keys = let e = ap (new_total one) all in omega arith;
      new_pages = let e = ap (new_total large) all in omega arith;
      old_keys = let e = ap (old_total one c.args.stable.now) all in omega arith;
      old_pages = let e = ap (old_total large c.args.stable.now) all in omega arith;
      few = (omega arith, omega arith, omega arith, omega arith);
    }
