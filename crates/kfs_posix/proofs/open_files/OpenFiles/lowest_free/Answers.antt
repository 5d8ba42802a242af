use Rattle.std.proofs.Common.{◌≡◌, ℕ, ◌<◌, Option, Some, None, sym}
use Rattle.std.specs.Prelude.{IfSome}
use Rattle.kfs_model.specs.Desk.{Desk, lowest_free}
use Rattle.kfs_laws.proofs.Desks.{lowest_is}
use Rattle.kfs_posix.specs.Opens.{desk_of}
use Rattle.kfs_posix.proofs.open_files.OpenFiles.lowest_free.Goals as goal

low : (desk : Desk) (o : Option ℕ) → o ≡ lowest_free desk → IfSome o (λ fd. fd < 64)
low desk None e = tt
low desk (Some fd) e = (lowest_is desk fd (sym e)).1

pub returns-clause-lowest : goal.returns-clause-lowest
unfolding lowest_free
returns-clause-lowest c = c.free_below.ensures

pub returns-clause-low : goal.returns-clause-low
unfolding lowest_free
returns-clause-low c = low (desk_of c.args.self.now.opens) c.free_below.result c.free_below.ensures
