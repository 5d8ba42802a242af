use Rattle.kfs_cache.proofs.Faults.{set_left}
use Rattle.kfs_cache.proofs.cached.CachedDevice.set.Goals as goal

pub invariant_of-self-in-Err : goal.invariant_of-self-in-Err
invariant_of-self-in-Err g c = record { fits = c.fail.ensures (g.D.Device.machine c.args.self.now.device) (g.D.Device.machine c.set.new.self) (c.touch.ensures.same _ c.args.self.now.fits) (set_left _ c.args.tx.0 c.args.key.now c.args.value.now _ _ c.in-Err.ensures.err) }
