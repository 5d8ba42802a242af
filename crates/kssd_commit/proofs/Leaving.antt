-- What an end leaves where it begins no operation.
use Rattle.std.proofs.Common.{◌≡◌, ℕ, ◌≤◌, true, List, [], ◌∷◌, length, Option, Some, None, is_some, unwrap_or, refl, sym, ap, subst, arith}
use Rattle.kv_nand.specs.Flash.{Flash, IsSound}
use Rattle.kv_device.specs.Calls.{EndDone}
use Rattle.kssd_entry.specs.declared.entry.Entry.{Entry}
use Rattle.kssd_tx.specs.Lists.{Transactions, list_of, changes_of, with_list}
use Rattle.kssd_machine.specs.Machines.{machine_of}
use Rattle.kssd_machine.proofs.Finishing.{idle}
use Rattle.kssd_mounted.specs.declared.mounted.Mounted.{Mounted}
use Rattle.kssd_mounted.specs.Standing.{Stands, Leaves, mounted_age, machine_at}
use Rattle.kssd_mounted.proofs.Staying.{leaves_image}
use Rattle.kssd_mounted.proofs.Changing.{same_places, abort_stands}

pub left_within : (old new : Flash) (age most : ℕ) → Leaves old age new → age ≤ most → Leaves old most new
left_within old new age most left high = record { blocks = left.blocks; whole = left.whole; age_is = omega (arith, left.age_is) }

pub left_still : (m : Mounted) (flash : Flash) (age : ℕ) → Stands m flash → mounted_age m ≤ age → Leaves flash age flash
left_still m flash age stands high = left_within flash flash (mounted_age m) age (leaves_image m flash flash refl refl stands) high

-- ---- without changes

-- an open transaction that has changed nothing
pub nothing_in : (lists : Transactions) (tx : ℕ) → is_some (list_of lists tx) ≡ true → length (changes_of lists tx) ≡ 0 → list_of lists tx ≡ Some []
nothing_in lists tx open_ none = by (list_of lists tx) open_ none
  where
    empty : (es : List Entry) → length es ≡ 0 → es ≡ []
    empty [] h = refl
    empty (e ∷ es) h = absurd (omega arith)

    by : (o : Option (List Entry)) → is_some o ≡ true → length (unwrap_or o []) ≡ 0 → o ≡ Some []
    by None h n = absurd cc
    by (Some es) h n = ap Some (empty es n)

module _ (m : Mounted) (flash : Flash) (tx : ℕ) (stands : Stands m flash) (lists : Transactions) (closed : lists ≡ with_list m.changes tx None) (nothing : list_of m.changes tx ≡ Some []) where
  pub idle_done : IsSound flash → EndDone (machine_at flash m) tx (machine_of flash true lists)
  idle_done sound = subst (λ (l : Transactions). EndDone (machine_at flash m) tx (machine_of flash true l)) (sym closed) (idle flash m.changes tx sound stands.whole nothing)

  pub idle_stands : Stands (record m { changes = lists }) flash
  idle_stands = abort_stands m flash tx [] m.values lists stands (sym (ap (λ o. unwrap_or o []) nothing)) (λ page. refl) (same_places m.values) closed
