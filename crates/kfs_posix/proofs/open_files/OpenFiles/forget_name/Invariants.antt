use Rattle.kfs_posix.proofs.Forgetting.{Forgot}
use Rattle.kfs_posix.proofs.open_files.OpenFiles.forget_name.Given as goal

-- the numbers so far were passed
abbrev pub invariant-loop-number : goal.invariant-loop-number
invariant-loop-number l = Forgot l.node l.number-end l.number l.fn.self.opens l.self.opens
