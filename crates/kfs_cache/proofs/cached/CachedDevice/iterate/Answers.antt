use Rattle.kfs_cache.proofs.Faults.{read_left}
use Rattle.kfs_cache.proofs.cached.CachedDevice.iterate.Goals as goal

pub invariant_of-self-in-Err : goal.invariant_of-self-in-Err
invariant_of-self-in-Err g c = record { fits = c.fail.ensures (g.D.Device.machine c.args.self.now.device) (g.D.Device.machine c.iterate.new.self) c.args.self.now.fits (read_left _ c.args.tx.0 _ _ c.in-Err.ensures.err) }
