use Rattle.std.proofs.Common.{◌+◌, subst, sym}
use Rattle.std.proofs.lemmas.Result.{IfErr-weaker}
use Rattle.kfs_objects.specs.Keys.{orphan_key}
use Rattle.kfs_objects.specs.Records.{orphan_value}
use Rattle.kfs_file.specs.Contents.{FailsWithin}
use Rattle.kfs_core.specs.Removing.{chunks_lost}
use Rattle.kfs_core.proofs.Naming.{put_fails, orphan_small}
use Rattle.kfs_core.proofs.removing.lose_name.Goals as goal

pub returns-then-open_now-clause-err : goal.returns-then-open_now-clause-err
returns-then-open_now-clause-err g c = IfErr-weaker c.put_orphan.result _ _
    (λ fault h. subst (λ b. FailsWithin c.args.running.now.tx (1 + chunks_lost c.args.size b) fault c.put_orphan.new.running.tx.machine) (sym c.if-open_now.true)
    (put_fails c.args.running.now.tx (orphan_key c.args.node) orphan_value fault c.put_orphan.new.running.tx.machine orphan_small h)) c.put_orphan.ensures.err
