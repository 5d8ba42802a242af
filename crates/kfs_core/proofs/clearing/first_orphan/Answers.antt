use Rattle.std.proofs.Common.{List, ℕ, take, ◌∙◌, sym, ap, subst, IsSome, [], ◌∷◌}
use Rattle.std.specs.FinMap as objects
use Rattle.kv_device.specs.Objects.{pairs_from}
use Rattle.kfs_tx.specs.Tx.{seen}
use Rattle.kfs_core.specs.Clearing.{IsOrphanFronted}
use Rattle.kfs_core.proofs.Orphans.{first_there, first_wanted, none_there}
use Rattle.kfs_core.proofs.clearing.first_orphan.Goals as goal

pub returns-then-len-eq0-clause-none : goal.returns-then-len-eq0-clause-none
returns-then-len-eq0-clause-none g c =
    let m = seen c.args.running.now.tx in
    none_there m c.in_ok-pairs.pairs (sym c.len.ensures ∙ c.if-len-eq0.true)
    (c.in_ok-pairs.ensures.found ∙ ap (λ (k : List ℕ). take 1 (pairs_from m k k)) c.in_ok-prefix.ensures)

pub returns-clause-some : goal.returns-clause-some
returns-clause-some g c =
    let m = seen c.args.running.now.tx in
    subst (λ (k : List ℕ). IsSome (objects.get m k)) (sym c.in_ok-copy.ensures)
    (first_there m (111 ∷ []) c.in_ok-pairs.pairs c.get.result.now (c.in_ok-pairs.ensures.found ∙ ap (λ (k : List ℕ). take 1 (pairs_from m k k)) c.in_ok-prefix.ensures) c.get.ensures)

pub returns-clause-front : goal.returns-clause-front
returns-clause-front g c =
    let m = seen c.args.running.now.tx in
    subst IsOrphanFronted (sym c.in_ok-copy.ensures)
    (first_wanted m (111 ∷ []) c.in_ok-pairs.pairs c.get.result.now (c.in_ok-pairs.ensures.found ∙ ap (λ (k : List ℕ). take 1 (pairs_from m k k)) c.in_ok-prefix.ensures) c.get.ensures)
