-- The refusals that never reach a ready tx; what is left are the outside causes.
use Rattle.std.proofs.Common.{◌≡◌, ℕ, ◌<◌, ◌+◌, ◌⊎◌, ◌&&◌, ◌||◌, inl, inr, not, true, false, cond, Bool, refl, sym, ◌∙◌, ap, subst, arith, List, [], ◌∷◌, length, Option, Some, None, is_none, unwrap_or, nat_lt, nat_le}
use Rattle.std.specs.List.{list_all}
use Rattle.std.specs.FinMap as objects
use Rattle.std.proofs.lemmas.Bool.Decides.{nat_tests}
use Rattle.std.proofs.lemmas.List.Sums.{sum_by-cons}
use Rattle.kv_device.specs.Bytes.{bytes_cmp}
use Rattle.kv_device.specs.declared.fault.DeviceFault.{DeviceFault}
use Rattle.kv_device.specs.declared.fault.DeviceFault.TheVariants.{NoTx, Busy, TxFull, Full, BadSize, Off, Failed, Memory}
use Rattle.kv_device.specs.Objects.{Changes}
use Rattle.kv_device.specs.Machine.{Machine, Transactions, changes_of, change_count}
use Rattle.kv_device.specs.Calls.{ReadFault, SetFault, EndFault, first_of, set_refusal, delete_refusal, is_tx_full, has_room, DeleteFault, IsFault, Falls, FallsReading, FallsEnding}
use Rattle.kfs_tx.specs.Tx.{Tx, IsReady, is_full, seen, changed_keys, counted, with_super, PutFault, GetFault, CommitFault, ChangeFault, Fallen, SameBounds}
use Rattle.kfs_objects.specs.Keys.{super_key}
use Rattle.kfs_objects.specs.Records.{super_value}
use Rattle.kfs_tx.proofs.Alone.{alone_is}
use Rattle.kfs_tx.proofs.Seeing.{ready_open, ready_put}

none_counted : (rest : Transactions) → list_all is_none rest ≡ true → change_count rest ≡ 0
unfolding change_count
none_counted [] e = refl
none_counted (None ∷ rest) e = sum_by-cons _ None rest ∙ (let zero' : objects.len (objects.empty {X = Option (List ℕ)} {R = bytes_cmp}) ≡ 0 = objects.len-empty bytes_cmp _ in let more = none_counted rest e in omega arith)
none_counted (Some c ∷ rest) e = absurd (cc)

first_counted : (c : Changes) (rest : Transactions) → list_all is_none rest ≡ true → change_count (Some c ∷ rest) ≡ objects.len c
unfolding change_count
first_counted c rest e = sum_by-cons _ (Some c) rest ∙ (let more = none_counted rest e in omega arith)

few_test : (b c d : Bool) → c ≡ false → d ≡ false → (b && (c || d)) ≡ false
few_test true c d e f = (λ i. e i || f i)
few_test false c d e f = refl

-- a tx with room in its transaction
not_full : (r : Tx) (key : List ℕ) → IsReady r → changed_keys r < 640 → is_tx_full r.machine r.id key ≡ false
unfolding is_tx_full
not_full r key ready few =
    let a = alone_is r.machine.pending r.id ready.alone in
    let n = changed_keys r in
    let same : change_count r.machine.pending ≡ n = ap change_count a.is ∙ first_counted a.changes a.rest a.none ∙ sym (λ i. objects.len (unwrap_or (changes_of (record r.machine { pending = a.is i }) (a.first i)) objects.empty)) in
    few_test (not (objects.contains_key (unwrap_or (changes_of r.machine r.id) objects.empty) key)) (nat_le 640 n) (nat_le 1280 (change_count r.machine.pending)) (grind (arith, nat_tests)) (grind (arith, nat_tests))

reads_allowed : (r : Tx) → IsReady r → first_of r.machine r.id None ≡ None
reads_allowed r ready = λ i. cond (not (ready.up i)) (Some Off) (cond (not (ready_open r ready i)) (Some NoTx) None)

set_allowed : (r : Tx) (key value : List ℕ) → IsReady r → changed_keys r < 640 → (nat_lt 128 (length value) && nat_lt 32 (length key)) ≡ false → set_refusal r.machine r.id key value ≡ None
set_allowed r key value ready few small = λ i. cond (not (ready.up i)) (Some Off) (cond (not (ready_open r ready i)) (Some NoTx) (cond (small i) (Some BadSize) (cond (not_full r key ready few i) (Some TxFull) None)))

delete_allowed : (r : Tx) (key : List ℕ) → IsReady r → changed_keys r < 640 → delete_refusal r.machine r.id key ≡ None
delete_allowed r key ready few = λ i. cond (not (ready.up i)) (Some Off) (cond (not (ready_open r ready i)) (Some NoTx) (cond (not_full r key ready few i) (Some TxFull) None))

bounds_of : (m x new : Machine) → new ≡ x → SameBounds m x → SameBounds m new
bounds_of m x new e b = subst (SameBounds m) (sym e) b

kept_bounds : (m x : Machine) → x.most_cuts ≡ m.most_cuts → x.most_faults ≡ m.most_faults → x.room_keys ≡ m.room_keys → x.room_pages ≡ m.room_pages → SameBounds m x
kept_bounds m x a b c d = record { most_cuts = a; most_faults = b; room_keys = c; room_pages = d }

bounds_along : (m new : Machine) (x : Machine) → new ≡ x → x.most_cuts ≡ m.most_cuts → x.most_faults ≡ m.most_faults → x.room_keys ≡ m.room_keys → x.room_pages ≡ m.room_pages → SameBounds m new
bounds_along m new x e a b c d = bounds_of m x new e (kept_bounds m x a b c d)

falls : (m : Machine) (fault : DeviceFault) (new : Machine) → Falls m fault new → Fallen m fault m.stable new
falls m NoTx new h = absurd h
falls m Busy new h = absurd h
falls m TxFull new h = absurd h
falls m (Full k p) new h = absurd h
falls m BadSize new h = absurd h
falls m Off new h = record { cause = (h.0, ap (λ (x : Machine). x.faults) h.1); stable = ap (λ (x : Machine). x.stable) h.1; bounds = bounds_along _ _ _ h.1 refl refl refl refl }
falls m Failed new h = record { cause = (h.0, ap (λ (x : Machine). x.cuts) h.1); stable = ap (λ (x : Machine). x.stable) h.1; bounds = bounds_along _ _ _ h.1 refl refl refl refl }
falls m Memory new h = record { cause = (ap (λ (x : Machine). x.cuts) h, ap (λ (x : Machine). x.faults) h); stable = ap (λ (x : Machine). x.stable) h; bounds = bounds_along _ _ _ h refl refl refl refl }

falls_reading : (m : Machine) (fault : DeviceFault) (new : Machine) → FallsReading m fault new → Falls m fault new
falls_reading m NoTx new h = h
falls_reading m Busy new h = h
falls_reading m TxFull new h = h
falls_reading m (Full k p) new h = h
falls_reading m BadSize new h = h
falls_reading m Off new h = absurd h
falls_reading m Failed new h = h
falls_reading m Memory new h = h

pub only_memory : (m new : Machine) (fault : DeviceFault) → fault ≡ Memory → new ≡ m → Fallen m fault m.stable new
only_memory m new fault e same = subst (λ f. Fallen m f m.stable new) (sym e) (record { cause = (ap (λ (x : Machine). x.cuts) same, ap (λ (x : Machine). x.faults) same); stable = ap (λ (x : Machine). x.stable) same; bounds = bounds_along _ _ _ same refl refl refl refl })

-- a call that only reads
pub read_falls : (r : Tx) (fault : DeviceFault) (new : Machine) → IsReady r → ReadFault r.machine r.id fault new → Fallen r.machine fault r.machine.stable new
read_falls r fault new ready h = falls r.machine fault new (falls_reading r.machine fault new (subst (λ o. IsFault o FallsReading r.machine fault new) (reads_allowed r ready) h))

pub only_memory_falls : (r : Tx) (new : Machine) (fault : DeviceFault) → fault ≡ Memory → new ≡ r.machine → Fallen r.machine fault r.machine.stable new
only_memory_falls r new fault e same = only_memory r.machine new fault e same

pub get_falls : (r : Tx) (fault : DeviceFault) (new : Machine) → IsReady r → GetFault r fault new → Fallen r.machine fault r.machine.stable new
get_falls r fault new ready (inl h, _) = only_memory r.machine new fault h.0 h.1
get_falls r fault new ready (inr h, _) = read_falls r fault new ready h

pub set_falls : (r : Tx) (key value : List ℕ) (fault : DeviceFault) (new : Machine) → IsReady r → changed_keys r < 640 → (nat_lt 128 (length value) && nat_lt 32 (length key)) ≡ false → SetFault r.machine r.id key value fault new → Fallen r.machine fault r.machine.stable new
set_falls r key value fault new ready few small h = falls r.machine fault new (subst (λ o. IsFault o Falls r.machine fault new) (set_allowed r key value ready few small) h)

pub put_falls : (r : Tx) (key value : List ℕ) (fault : DeviceFault) (new : Machine) → IsReady r → changed_keys r < 640 → (nat_lt 128 (length value) && nat_lt 32 (length key)) ≡ false → PutFault r key value fault new → Fallen r.machine fault r.machine.stable new
put_falls r key value fault new ready few small (inl h, _) = only_memory r.machine new fault h.0 h.1
put_falls r key value fault new ready few small (inr h, _) = set_falls r key value fault new ready few small h

pub delete_falls : (r : Tx) (key : List ℕ) (fault : DeviceFault) (new : Machine) → IsReady r → changed_keys r < 640 → DeleteFault r.machine r.id key fault new → Fallen r.machine fault r.machine.stable new
delete_falls r key fault new ready few h = falls r.machine fault new (falls_reading r.machine fault new (subst (λ o. IsFault o FallsReading r.machine fault new) (delete_allowed r key ready few) h))

-- as before, or as after the end
ends : (r : Tx) (fault : DeviceFault) (new : Machine) → has_room r.machine (seen r) ≡ true → FallsEnding (seen r) r.machine fault new → Fallen r.machine fault r.machine.stable new ⊎ Fallen r.machine fault (seen r) new
ends r NoTx new room h = absurd (elim h [ inl a ↦ a | inr a ↦ a.1 ])
ends r Busy new room h = absurd (elim h [ inl a ↦ a | inr a ↦ a.1 ])
ends r TxFull new room h = absurd (elim h [ inl a ↦ a | inr a ↦ a.1 ])
ends r BadSize new room h = absurd (elim h [ inl a ↦ a | inr a ↦ a.1 ])
ends r (Full k p) new room h = absurd (let e : true ≡ false = sym room ∙ h.0 in cc)
ends r Off new room h = elim (h.1) [
  | inl a ↦ inl (falls r.machine Off new a)
  | inr a ↦ inr (record { cause = (a.0, ap (λ (x : Machine). x.faults) a.1); stable = ap (λ (x : Machine). x.stable) a.1; bounds = bounds_along _ _ _ a.1 refl refl refl refl })
]
ends r Failed new room h = elim h [
  | inl a ↦ inl (falls r.machine Failed new a)
  | inr a ↦ inr (record { cause = (a.1.0, ap (λ (x : Machine). x.cuts) a.1.1); stable = ap (λ (x : Machine). x.stable) a.1.1; bounds = bounds_along _ _ _ a.1.1 refl refl refl refl })
]
ends r Memory new room h = elim h [
  | inl a ↦ inl (falls r.machine Memory new a)
  | inr a ↦ inr (record { cause = (ap (λ (x : Machine). x.cuts) a.1, ap (λ (x : Machine). x.faults) a.1); stable = ap (λ (x : Machine). x.stable) a.1; bounds = bounds_along _ _ _ a.1 refl refl refl refl })
]

pub end_falls : (r : Tx) (fault : DeviceFault) (new : Machine) → IsReady r → has_room r.machine (seen r) ≡ true → EndFault r.machine r.id fault new → Fallen r.machine fault r.machine.stable new ⊎ Fallen r.machine fault (seen r) new
end_falls r fault new ready room h = ends r fault new room (subst (λ o. IsFault o (FallsEnding (seen r)) r.machine fault new) (reads_allowed r ready) h)

pub commit_falls : (r : Tx) (fault : DeviceFault) (new : Machine) → IsReady r → has_room r.machine (seen r) ≡ true → CommitFault r fault new → Fallen r.machine fault r.machine.stable new ⊎ Fallen r.machine fault (seen r) new
commit_falls r fault new ready room h = end_falls r fault new ready room h.0

super_small : (k n : ℕ) → (nat_lt 128 (length (super_value k n)) && nat_lt 32 (length super_key)) ≡ false
super_small k n = both_false (nat_lt 128 (length (super_value k n)))
  where
    both_false : (b : Bool) → (b && false) ≡ false
    both_false true = refl
    both_false false = refl

-- one change: as before, or at a boundary as after it
pub change_falls : (r : Tx) (weight next : ℕ) (fault : DeviceFault) (new : Machine) → IsReady r → changed_keys r < 640 → has_room r.machine (seen (with_super r next)) ≡ true → ChangeFault r weight next fault new
    → Fallen r.machine fault r.machine.stable new ⊎ ((is_full (r.since + 1) (r.weight + weight) ≡ true) × Fallen r.machine fault (seen (with_super r next)) new)
change_falls r weight next fault new ready few room (inl h) = inl (put_falls r super_key (super_value (r.changes + 1) next) fault new ready few (super_small (r.changes + 1) next) h)
change_falls r weight next fault new ready few room (inr h) = elim (commit_falls (counted r weight next) fault new (record { up = ready'.up; alone = ready'.alone }) room h.1) [
  | inl a ↦ inl (record { cause = a.cause; stable = a.stable; bounds = record { most_cuts = a.bounds.most_cuts; most_faults = a.bounds.most_faults; room_keys = a.bounds.room_keys; room_pages = a.bounds.room_pages } })
  | inr a ↦ inr (h.0, record { cause = a.cause; stable = a.stable; bounds = record { most_cuts = a.bounds.most_cuts; most_faults = a.bounds.most_faults; room_keys = a.bounds.room_keys; room_pages = a.bounds.room_pages } })
]
  where
    ready' : IsReady (with_super r next)
    ready' = ready_put r super_key (super_value (r.changes + 1) next) ready

-- a call that only reads meets no cut
pub get_not_off : (r : Tx) (new : Machine) → IsReady r → GetFault r Off new → ⊥
get_not_off r new ready (inl h, _) = absurd (let bad : Off ≡ Memory = h.0 in cc)
get_not_off r new ready (inr h, _) = let f : IsFault None FallsReading r.machine Off new = subst (λ o. IsFault o FallsReading r.machine Off new) (reads_allowed r ready) h in absurd f
