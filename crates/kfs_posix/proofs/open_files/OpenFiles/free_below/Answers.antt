use Rattle.std.proofs.Common.{◌≡◌, ℕ, suc, ◌+◌, ◌-◌, ◌<◌, true, cond, Some, ap, sym, ◌∙◌, arith, add-one, is_some, rules}
use Rattle.std.specs.Ordering.{nat_cmp}
use Rattle.std.specs.FinMap.{find}
use Rattle.kfs_model.specs.Desk.{free_from, Desk}
use Rattle.kfs_posix.specs.Opens.{desk_of}
use Rattle.kfs_posix.proofs.open_files.OpenFiles.free_below.Goals as goal

-- a descriptor that is open is passed over
passed : (desk : Desk) (fd limit : ℕ) → fd < limit → is_some (find nat_cmp fd desk.descriptors) ≡ true → free_from desk (fd + 1) (limit - (fd + 1)) ≡ free_from desk fd (limit - fd)
passed desk fd limit lt there =
    let e : limit - fd ≡ suc (limit - (fd + 1)) = omega arith in
    sym (ap (free_from desk fd) e ∙ ap (λ b. cond b (free_from desk (suc fd) (limit - (fd + 1))) (Some fd)) there ∙ ap (λ n. free_from desk n (limit - (fd + 1))) (sym (add-one fd)))

pub loop-fd-preserved : goal.loop-fd-preserved
loop-fd-preserved c = passed (desk_of c.args.self.now.opens) c.loop-fd.fd c.args.limit c.loop-fd-test.true (search rules) ∙ c.loop-fd.invariant
