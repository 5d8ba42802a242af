use Rattle.kfs_cache.proofs.Faults.{work_left}
use Rattle.kfs_cache.proofs.cached.CachedDevice.work.Goals as goal

pub invariant_of-self-in-Err : goal.invariant_of-self-in-Err
invariant_of-self-in-Err g c = record { fits = c.fail.ensures (g.D.Device.machine c.args.self.now.device) (g.D.Device.machine c.work.new.self) c.args.self.now.fits (work_left _ _ _ c.in-Err.ensures.err) }
