use Rattle.std.proofs.Common.{◌≡◌, vec_len}
use Rattle.kfs_model.specs.Tree.{all_put}
use Rattle.kfs_plain.proofs.Putting.{put_over}
use Rattle.kfs_plain.proofs.removing.all_put.Given as goal

-- those that are left, put over the names so far
abbrev pub invariant-loop-place : goal.invariant-loop-place
invariant-loop-place l = put_over l.left.items l.names.entries ≡ all_put l.fn.entries.items

abbrev pub decreases-loop-place : goal.decreases-loop-place
decreases-loop-place l = vec_len l.left
