use Rattle.kfs_cache.proofs.Touching.{put_has, put_keeps}
use Rattle.kfs_cache.proofs.touched.Touched.insert.Goals as goal

pub returns-clause-added : goal.returns-clause-added
returns-clause-added c = put_has c.args.self.now.all c.args.self.now.keys c.insert.new.self _ c.args.key.now tt c.in_ok-insert.ensures.ok c.in_ok-copy.ensures

pub returns-clause-others : goal.returns-clause-others
returns-clause-others c other = put_keeps c.args.self.now.all c.args.self.now.keys c.insert.new.self _ other tt c.in_ok-insert.ensures.ok
