use Rattle.kfs_cache.proofs.Faults.{delete_left}
use Rattle.kfs_cache.proofs.cached.CachedDevice.delete.Goals as goal

pub invariant_of-self-in-Err : goal.invariant_of-self-in-Err
invariant_of-self-in-Err g c = record { fits = c.fail.ensures (g.D.Device.machine c.args.self.now.device) (g.D.Device.machine c.delete.new.self) (c.touch.ensures.same _ c.args.self.now.fits) (delete_left _ c.args.tx.0 c.args.key.now _ _ c.in-Err.ensures.err) }
