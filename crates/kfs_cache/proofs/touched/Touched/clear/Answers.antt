use Rattle.kfs_cache.proofs.Touching.{none_has}
use Rattle.kfs_cache.proofs.touched.Touched.clear.Goals as goal

pub returns : goal.returns
returns c = none_has c.new.result c.new.ensures
