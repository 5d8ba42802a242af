use Rattle.std.proofs.Common.{◌≡◌, ◌++◌, refl, ◌∙◌, subst, arith, List, [], ◌∷◌, length, map, reverse}
use Rattle.kfs_tx.specs.Tx.{Tx, seen}
use Rattle.kfs_core.specs.Flat.{inode_in}
use Rattle.kfs_core.specs.Listing.{at_of, item_at, right_below}
use Rattle.kfs_core.proofs.Telling.{leads_end, leads_on}
use Rattle.kfs_core.proofs.tree.list_all.Goals as goal

no_length : {A : Type 0} (xs : List A) → length xs ≡ 0 → xs ≡ []
no_length [] e = refl
no_length (x ∷ xs) e = absurd (omega arith)

pub returns-in_default-clause-lists : goal.returns-in_default-clause-lists
returns-in_default-clause-lists g c =
    leads_end (seen c.args.running.now.tx) c.places.list c.places.todo.items
    (no_length c.places.todo.items (omega (arith, c.places.todo.ok.0, c.in_default.ensures.cases.0))) c.places.invariant.leads

pub places-preserved : goal.places-preserved
places-preserved g c =
    let first = c.places.invariant.age in
    let then = c.in_ok-visit.ensures.age in
    let next = c.in-Some.next in
    let rest = c.pop.new.self.items in
    let is = c.places.invariant.same in
    let below = subst (λ (r : Tx). map at_of c.visit.new.todo.items ≡ map at_of rest ++ reverse (right_below (seen r) (at_of next))) is c.in_ok-visit.ensures.below in
    let told = subst (λ (r : Tx). c.in_ok-visit.field-0 ≡ item_at next.path (inode_in (seen r) next.node)) is c.in_ok-visit.ensures.told in
    record {
      same = c.in_ok-visit.ensures.same ∙ is;
      leads = leads_on (seen c.args.running.now.tx) c.places.list c.push-in-places.new.self c.places.todo.items rest c.visit.new.todo.items next c.in_ok-visit.field-0
          c.in-Some.ensures.items below told c.in_ok-push-2.ensures.ok c.places.invariant.leads;
      age = record {
        device = record { later = omega (arith, first.device.later, then.device.later); bounded = omega (arith, first.device.bounded, then.device.bounded) };
        whole = record { later = omega (arith, first.whole.later, then.whole.later); bounded = omega (arith, first.whole.bounded, then.whole.bounded) };
      };
    }
