-- The bounds of a device's calls, by those of what it keeps in memory.
use Rattle.std.proofs.Common.{◌≡◌, ◌≤◌, ◌+◌, ℕ, true, List, [], Option, Some, None, refl, sym, subst, arith}
use Rattle.std.specs.Prelude.{unwrap_or}
use Rattle.std.specs.Option.{option_and_then}
use Rattle.kv_nand.specs.Flash.{Flash}
use Rattle.kssd_entry.specs.declared.entry.Entry.{Entry}
use Rattle.kssd_model.specs.Rising.{find_entry}
use Rattle.kssd_tx.specs.Lists.{Transactions, list_of, changes_of, change_of}
use Rattle.kssd_index.specs.Standing.{IsIndex, index_table}
use Rattle.kssd_index.specs.Costs.{zero_runs, logged_in, has_place_in, group_cost}
use Rattle.kssd_index.proofs.Bounds.{zero_runs_are, logged_are, takes_place, group_costs}
use Rattle.kssd_mounted.specs.declared.mounted.Mounted.{Mounted}
use Rattle.kssd_engine.specs.Keeping.{IsKept}
use Rattle.kssd_engine.specs.Bounds.{usual_cost, group_of, IsWithinUsual, IsWithinGroup}

index_stands : (flash : Flash) (mounted : Option Mounted) (m : Mounted) (age : ℕ) → mounted ≡ Some m → IsKept flash mounted age → IsIndex m.index flash.blocks flash.image
index_stands flash mounted m age is kept = (kept.stands m is).index

-- few operations where level 0 has place
pub usual_by : (old new : Flash) (mounted : Option Mounted) (m : Mounted) (age cost : ℕ) → mounted ≡ Some m → IsKept old mounted age → cost ≤ usual_cost → (zero_runs m.index ≤ 3 → new.ops ≤ old.ops + cost) → IsWithinUsual old new
usual_by old new mounted m age cost is kept few bound low =
    let same = zero_runs_are m.index old.blocks old.image (index_stands old mounted m age is kept) in
    omega (arith, few, bound (omega (arith, same, low)))

-- no more than the group's where it has place
pub group_by : (old new : Flash) (mounted : Option Mounted) (m : Mounted) (age tx : ℕ) → mounted ≡ Some m → IsKept old mounted age
    → (has_place_in m.index (changes_of m.changes tx) ≡ true → new.ops ≤ old.ops + group_cost m.index (changes_of m.changes tx)) → IsWithinGroup (group_of mounted tx) old new
group_by old new mounted m age tx is kept bound =
    subst (λ (o : Option Mounted). IsWithinGroup (group_of o tx) old new) (sym is) (λ takes.
    let h = index_stands old mounted m age is kept in
    omega (arith, group_costs m.index old.blocks old.image (changes_of m.changes tx) h, bound (takes_place m.index old.blocks old.image (changes_of m.changes tx) h takes)))

unchanged : (lists : Transactions) (tx : ℕ) (key : List ℕ) → find_entry (changes_of lists tx) key ≡ None → change_of lists tx key ≡ None
unchanged lists tx key = by (list_of lists tx)
  where
    by : (list : Option (List Entry)) → find_entry (unwrap_or list []) key ≡ None → option_and_then (λ entries. find_entry entries key) list ≡ None
    by None none = refl
    by (Some entries) none = none

-- what is neither changed nor logged is below the log
pub below_by : (flash : Flash) (mounted : Option Mounted) (m : Mounted) (age tx : ℕ) (key : List ℕ) (reads : Type 0) → mounted ≡ Some m → IsKept flash mounted age
    → find_entry (group_of mounted tx) key ≡ None → find_entry (logged_in flash.image) key ≡ None → (change_of m.changes tx key ≡ None → find_entry (index_table m.index) key ≡ None → reads) → reads
below_by flash mounted m age tx key reads is kept own logged said =
    let mine = subst (λ (o : Option Mounted). find_entry (group_of o tx) key ≡ None) is own in
    let same = logged_are m.index flash.blocks flash.image (index_stands flash mounted m age is kept) in
    said (unchanged m.changes tx key mine) (subst (λ (es : List Entry). find_entry es key ≡ None) (sym same) logged)
