-- What holds of a device after a call, and what it is as a machine.
use Rattle.std.proofs.Common.{◌≡◌, ◌∙◌, ℕ, ◌≤◌, ◌+◌, ◌^◌, max, Bool, true, false, cond, length, List, Option, Some, None, refl, sym, ap, subst, arith, nat_lt}
use Rattle.kv_nand.specs.Flash.{Flash}
use Rattle.kv_device.specs.Machine.{Machine}
use Rattle.kv_device.specs.Calls.{Ages, set_ages}
use Rattle.kv_device.specs.declared.fault.DeviceFault.{DeviceFault}
use Rattle.std.specs.FinMap as objects
use Rattle.kssd_frames.proofs.ShownLaws.{objects_len}
use Rattle.kssd_index.proofs.Anchored.{aged_still}
use Rattle.kssd_index.specs.declared.index.Index as lent
use Rattle.kssd_index.specs.Standing.{index_age}
use Rattle.kssd_machine.specs.Machines.{resting}
use Rattle.kssd_mounted.specs.declared.mounted.Mounted.{Mounted}
use Rattle.kssd_mounted.specs.Standing.{Stands, Leaves, mounted_age, machine_at, machine_after, takes_down}
use Rattle.kssd_store.specs.Setting.{set_rise}
use Rattle.kssd_engine.specs.Keeping.{IsKept, machine_in, mounted_after, age_after}

-- ---- the machine

after_by : (flash : Flash) (m : Mounted) (down : Bool) → machine_in flash (cond down None (Some m)) ≡ (cond down (resting flash) (machine_at flash m))
after_by flash m true = refl
after_by flash m false = refl

-- what is said of the machine after a fault of a device that was up
pub fallen : (P : Machine → Machine → Type 0) (fault : DeviceFault) (old new : Flash) (mounted left : Option Mounted) (m n : Mounted) → mounted ≡ Some m → left ≡ mounted_after fault (Some n)
    → P (machine_at old m) (machine_after fault new n) → P (machine_in old mounted) (machine_in new left)
fallen P fault old new mounted left m n is fell said =
    subst (λ o. P (machine_in old o) (machine_in new left)) (sym is)
    (subst (λ o. P (machine_at old m) (machine_in new o)) (sym fell) (subst (P (machine_at old m)) (sym (after_by new n (takes_down fault))) said))

-- what is said of the machine of a device that is up
pub done : (P : Machine → Type 0) (flash : Flash) (mounted : Option Mounted) (m : Mounted) → mounted ≡ Some m → P (machine_at flash m) → P (machine_in flash mounted)
done P flash mounted m is = subst (λ o. P (machine_in flash o)) (sym is)

-- ---- what it keeps

-- a device in memory that is some one is that one
same_one : (n x : Mounted) → ◌≡◌ {A = Option Mounted} (Some n) (Some x) → n ≡ x
same_one n x is = cc

-- so it does where it stands on the flash and no number is above the age
pub up_kept : (flash : Flash) (n : Mounted) (age : ℕ) → Stands n flash → mounted_age n ≤ age → IsKept flash (Some n) age
up_kept flash n age up low = record {
  least = up.least;
  most = up.most;
  whole = up.whole;
  numbers = omega (arith, aged_still n.index flash.blocks flash.image up.index);
  stands = λ x is. subst (λ o. Stands o flash) (same_one n x is) up;
  ages = λ x is. subst (λ (o : Mounted). mounted_age o ≤ age) (same_one n x is) low;
}

-- what a device keeps while it is up holds after it wrote
pub kept_up : (flash : Flash) (n : Mounted) (before age : ℕ) → Stands n flash → age ≡ max before (mounted_age n) → IsKept flash (Some n) age
kept_up flash n before age up is = up_kept flash n age up (omega arith)

down_kept : (old new : Flash) (m : Mounted) (age rise written : ℕ) → IsKept old (Some m) age → Leaves old (mounted_age m + written) new → written ≤ rise → IsKept new None (age + rise)
down_kept old new m age rise written kept leaves within = record {
  least = subst (λ b. 256 ≤ b) (sym leaves.blocks) kept.least;
  most = subst (λ b. b ≤ 2048) (sym leaves.blocks) kept.most;
  whole = leaves.whole;
  numbers = omega (arith, leaves.age_is, kept.ages m refl);
  stands = λ x is. absurd (cc);
  ages = λ x is. absurd (cc);
}

kept_by : (old new : Flash) (m n : Mounted) (age rise written : ℕ) (down : Bool) → IsKept old (Some m) age → Leaves old (mounted_age m + written) new → written ≤ rise
    → (down ≡ false → Stands n new) → IsKept new (cond down None (Some n)) (age_after (cond down None (Some n)) age rise)
kept_by old new m n age rise written true kept leaves within stands = down_kept old new m age rise written kept leaves within
kept_by old new m n age rise written false kept leaves within stands = up_kept new n (max age (mounted_age n)) (stands refl) (omega arith)

-- what a device keeps holds after a fault, where a mount takes what is left, and what is in memory still stands while it is up
pub kept_after : (fault : DeviceFault) (old new : Flash) (mounted left : Option Mounted) (m n : Mounted) (before age rise written : ℕ) → mounted ≡ Some m → IsKept old mounted before → Leaves old (mounted_age m + written) new → written ≤ rise
    → (takes_down fault ≡ false → Stands n new) → left ≡ mounted_after fault (Some n) → age ≡ age_after left before rise → IsKept new left age
kept_after fault old new mounted left m n before age rise written is kept leaves within stands fell aged =
    let after = kept_by old new m n before rise written (takes_down fault) (subst (λ o. IsKept old o before) is kept) leaves within stands in
    subst (IsKept new left) (sym aged) (subst (λ o. IsKept new o (age_after o before rise)) (sym fell) after)

-- what a device keeps while it is up holds after a call that did nothing to the flash and to the index
pub up_still : (flash : Flash) (mounted : Option Mounted) (m n : Mounted) (age : ℕ) → mounted ≡ Some m → IsKept flash mounted age → Stands n flash → n.index ≡ m.index → IsKept flash (Some n) age
up_still flash mounted m n age is kept up same = up_kept flash n age up (omega (arith, kept.ages m is, ap (λ (i : lent.Index). index_age i) same))

still_by : (flash : Flash) (m n : Mounted) (age : ℕ) (down : Bool) → IsKept flash (Some m) age → Stands n flash → n.index ≡ m.index → IsKept flash (cond down None (Some n)) age
still_by flash m n age true kept up same = record {
  least = kept.least;
  most = kept.most;
  whole = kept.whole;
  numbers = kept.numbers;
  stands = λ x is. absurd (cc);
  ages = λ x is. absurd (cc);
}
still_by flash m n age false kept up same = up_kept flash n age up (omega (arith, kept.ages m refl, ap (λ (i : lent.Index). index_age i) same))

-- so it does after a fault of a call that did nothing to the flash and to the index
pub kept_still : (fault : DeviceFault) (flash : Flash) (mounted left : Option Mounted) (m n : Mounted) (age : ℕ) → mounted ≡ Some m → IsKept flash mounted age → Stands n flash → n.index ≡ m.index
    → left ≡ mounted_after fault (Some n) → IsKept flash left age
kept_still fault flash mounted left m n age is kept up same fell =
    subst (λ o. IsKept flash o age) (sym fell) (still_by flash m n age (takes_down fault) (subst (λ o. IsKept flash o age) is kept) up same)

-- what a device keeps holds after a call that only read
pub kept_read : (old new : Flash) (mounted : Option Mounted) (m : Mounted) (age : ℕ) → mounted ≡ Some m → IsKept old mounted age → Stands m new → IsKept new mounted age
kept_read old new mounted m age is kept up = subst (λ o. IsKept new o age) (sym is) (up_kept new m age up (kept.ages m is))

read_by : (old new : Flash) (m : Mounted) (age : ℕ) (down : Bool) → IsKept old (Some m) age → Leaves old (mounted_age m) new → (down ≡ false → Stands m new) → IsKept new (cond down None (Some m)) age
read_by old new m age true kept leaves stands = record {
  least = subst (λ b. 256 ≤ b) (sym leaves.blocks) kept.least;
  most = subst (λ b. b ≤ 2048) (sym leaves.blocks) kept.most;
  whole = leaves.whole;
  numbers = omega (arith, leaves.age_is, kept.ages m refl);
  stands = λ x is. absurd (cc);
  ages = λ x is. absurd (cc);
}
read_by old new m age false kept leaves stands = up_kept new m age (stands refl) (kept.ages m refl)

-- and so it does after its fault
pub kept_fallen : (fault : DeviceFault) (old new : Flash) (mounted left : Option Mounted) (m : Mounted) (age : ℕ) → mounted ≡ Some m → IsKept old mounted age → Leaves old (mounted_age m) new
    → (takes_down fault ≡ false → Stands m new) → left ≡ mounted_after fault mounted → IsKept new left age
kept_fallen fault old new mounted left m age is kept leaves stands fell =
    subst (λ o. IsKept new o age) (sym (subst (λ o. left ≡ mounted_after fault o) is fell)) (read_by old new m age (takes_down fault) (subst (λ o. IsKept old o age) is kept) leaves stands)

-- ---- the age

aged_by : (n : Mounted) (before rise most : ℕ) (down : Bool) → (down ≡ false → mounted_age n ≤ before + rise) → rise ≤ most → Ages before (age_after (cond down None (Some n)) before rise) most
aged_by n before rise most true low within = record { later = omega arith; bounded = omega arith }
aged_by n before rise most false low within = let up = low refl in record { later = omega arith; bounded = omega arith }

-- the age doesn't fall by a fault, and rises by no more than the call may raise numbers
pub aged_after : (fault : DeviceFault) (left : Option Mounted) (n : Mounted) (before age rise most : ℕ) → (takes_down fault ≡ false → mounted_age n ≤ before + rise) → rise ≤ most
    → left ≡ mounted_after fault (Some n) → age ≡ age_after left before rise → Ages before age most
aged_after fault left n before age rise most low within fell aged =
    subst (λ a. Ages before a most) (sym aged) (subst (λ o. Ages before (age_after o before rise) most) (sym fell) (aged_by n before rise most (takes_down fault) low within))

-- and so it does without a fault
pub aged_up : (n : Mounted) (before age rise most : ℕ) → mounted_age n ≤ before + rise → rise ≤ most → age ≡ max before (mounted_age n) → Ages before age most
aged_up n before age rise most low within aged = record { later = omega arith; bounded = omega arith }

-- setting a value raises numbers by no more than a device may
pub set_within : (value : List ℕ) → set_rise value ≤ set_ages value
set_within value = by_size (nat_lt 128 (length value))
  where
    by_size : (large : Bool) → cond large (2 ^ 11) 0 ≤ cond large (2 ^ 16) 0
    by_size true = omega arith
    by_size false = omega arith

-- it raises them by little
pub set_little : (value : List ℕ) → set_rise value ≤ 2 ^ 11
set_little value = by_size (nat_lt 128 (length value))
  where
    by_size : (large : Bool) → cond large (2 ^ 11) 0 ≤ 2 ^ 11
    by_size true = omega arith
    by_size false = omega arith

-- ---- how much there is

-- a device that is up counts its objects
pub counted_keys : (flash : Flash) (mounted : Option Mounted) (m : Mounted) (age : ℕ) → mounted ≡ Some m → IsKept flash mounted age → m.keys ≡ objects.len (machine_in flash mounted).stable
counted_keys flash mounted m age is kept =
    subst (λ o. m.keys ≡ objects.len (machine_in flash o).stable) (sym is) ((kept.stands m is).keys ∙ sym (objects_len flash.image))
