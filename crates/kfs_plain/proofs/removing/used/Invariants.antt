use Rattle.std.proofs.Common.{◌≡◌, ◌||◌, ℕ}
use Rattle.std.specs.Prelude.{◌==◌}
use Rattle.std.specs.Ordering.{nat_cmp}
use Rattle.std.specs.BTreeSet.{contains}
use Rattle.std.specs.List.{list_any}
use Rattle.kfs_plain.proofs.removing.used.Given as goal

-- the numbers so far, and those of the places that are left
abbrev pub invariant-loop-n : goal.invariant-loop-n
invariant-loop-n l = (q : ℕ) → (contains nat_cmp l.used q || list_any (λ e. e.1 == q) l.n-iterator) ≡ list_any (λ e. e.1 == q) l.names.entries

-- the same of the descriptions
abbrev pub invariant-loop-it : goal.invariant-loop-it
invariant-loop-it l = (q : ℕ) → (contains nat_cmp l.used q || list_any (λ e. e.1.node == q) l.it-iterator) ≡ (list_any (λ e. e.1 == q) l.names.entries || list_any (λ e. e.1.node == q) l.descriptions.entries)
