-- What a session asks its device for.
use Rattle.std.proofs.Common.{ℕ, ◌≡◌}
use Rattle.kv_device.specs.Asked.{Asked}
use Rattle.kfs_path.specs.declared.call.Reply.{Reply}
use Rattle.kfs_path.specs.declared.call.Reply.TheVariants.{Off}
use Rattle.kfs_posix.specs.Answering.{AsksWork}

-- the work was asked for, whatever the answer is
pub work_asked : (operations : ℕ) (reply : Reply) (asked : Asked) → asked.work ≡ operations → AsksWork operations reply asked
work_asked operations Off asked h = tt
work_asked operations reply asked h = h
