use Rattle.std.proofs.Common.{sym, subst}
use Rattle.kfs_objects.specs.Keys.{IsNamed}
use Rattle.kfs_core.specs.Removing.{Leaf}
use Rattle.kfs_laws.proofs.Walking.{neither_dots}
use Rattle.kfs_core.proofs.removing.empty_directory.Goals as goal

pub leaf_at-requires : goal.leaf_at-requires
leaf_at-requires g c = c.in_ok-spot.ensures.below (neither_dots c.items-pieces.result.now (sym c.if-ends_in_dot.ensures) (sym c.if-ends_in_dot_dot.ensures)) (sym c.if-is_root.ensures)

pub returns-else-not-branch-clause-named : goal.returns-else-not-branch-clause-named
returns-else-not-branch-clause-named g c = subst (λ (leaf : Leaf). IsNamed leaf.name) (sym c.leaf_at.ensures)
    (c.in_ok-spot.ensures.named (neither_dots c.items-pieces.result.now (sym c.if-ends_in_dot.ensures) (sym c.if-ends_in_dot_dot.ensures)) (sym c.if-is_root.ensures))
