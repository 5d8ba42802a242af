-- What the calls of an exchange leave, one after another.
use Rattle.std.proofs.Common.{◌≡◌, ℕ, ◌≤◌, ◌⊎◌, inl, inr, ◌&&◌, ◌||◌, nat_le, not, Bool, true, false, refl, sym, ◌∙◌, ap, subst, List, [], ◌∷◌, cond, Option, Some, None, Result, Ok, Err, OnOk, IfErr, arith}
use Rattle.std.proofs.lemmas.Bool.Decides.{nat_tests}
use Rattle.std.specs.FinMap as objects
use Rattle.kv_base.specs.declared.pairs.Pair.{Pair}
use Rattle.kv_device.specs.Bytes.{bytes_cmp}
use Rattle.kv_device.specs.declared.fault.DeviceFault.{DeviceFault}
use Rattle.kv_device.specs.declared.fault.DeviceFault.TheVariants.{NoTx, Busy, TxFull, Full, BadSize, Off, Failed, Memory}
use Rattle.kv_device.specs.Objects.{Objects, Changes, page_count, changed}
use Rattle.kv_device.specs.Machine.{Machine, change_count, free_number, none_open, begun, ended, aborted, view}
use Rattle.kv_device.specs.Calls.{first_of, is_tx_full, has_room, IsFault, Never, Falls, FallsReading, FallsEnding, SetFault, DeleteFault, AbortDone, AbortFault}
use Rattle.kv_device.specs.Exchange.{exchanged, with_stable, is_misfit, ExchangeFault, filled, FillFault}
use Rattle.kv_device.proofs.Lens.{len-empty-le, len-insert-le}
use Rattle.kv_device.proofs.ViewLaws.{seen_through-insert, seen_through-none}

-- up, with no transaction open
abbrev pub idle : Machine → Machine
idle m = record m { up = true; pending = none_open }

pub idle_is : (m : Machine) → m.up ≡ true → m.pending ≡ none_open → idle m ≡ m
idle_is m up none = λ i. record m { up = sym up i; pending = sym none i }

-- up, with one transaction open
abbrev pub with_open : Machine → Changes → Machine
with_open m c = record m { up = true; pending = Some c ∷ None ∷ None ∷ None ∷ [] }

-- an error of the calls in it
abbrev pub OpenFault : Machine → Bool → Objects → DeviceFault → Machine → Type 0
OpenFault m misfit after NoTx f = ⊥
OpenFault m misfit after Busy f = ⊥
OpenFault m misfit after TxFull f = ⊥
OpenFault m misfit after BadSize f = (misfit ≡ true) × ((c : Changes) × (f ≡ with_open m c))
OpenFault m misfit after (Full keys pages) f = (has_room m after ≡ false) × (keys ≡ objects.len after) × (pages ≡ page_count after) × ((c : Changes) × (f ≡ with_open m c))
OpenFault m misfit after fault f = Falls m fault f ⊎ Falls (with_stable m after) fault f

and_false : (b : Bool) → (b && false) ≡ false
and_false true = refl
and_false false = refl

-- three changes never fill it
tx_open : (m : Machine) (c : Changes) (key : List ℕ) → objects.len c ≤ 2 → is_tx_full (with_open m c) 0 key ≡ false
unfolding is_tx_full change_count
tx_open m c key few =
    let none = objects.len-empty bytes_cmp (Option (List ℕ)) in
    let first : nat_le 640 (objects.len c) ≡ false = grind (arith, nat_tests) in
    let second : nat_le 1280 (change_count (Some c ∷ None ∷ None ∷ None ∷ [])) ≡ false = grind (arith, nat_tests, none) in
    ap (λ b. not_in && b) (λ i. first i || second i) ∙ and_false not_in
  where
    not_in : Bool
    not_in = not (objects.contains_key c key)

falls : (m : Machine) (c : Changes) (misfit : Bool) (after : Objects) (fault : DeviceFault) (f : Machine) → Falls (with_open m c) fault f → OpenFault m misfit after fault f
falls m c misfit after NoTx f h = h
falls m c misfit after Busy f h = h
falls m c misfit after TxFull f h = h
falls m c misfit after (Full k p) f h = absurd h
falls m c misfit after BadSize f h = absurd h
falls m c misfit after Off f h = inl h
falls m c misfit after Failed f h = inl h
falls m c misfit after Memory f h = inl h

falls_reading : (m : Machine) (c : Changes) (misfit : Bool) (after : Objects) (fault : DeviceFault) (f : Machine) → FallsReading (with_open m c) fault f → OpenFault m misfit after fault f
falls_reading m c misfit after NoTx f h = h
falls_reading m c misfit after Busy f h = h
falls_reading m c misfit after TxFull f h = h
falls_reading m c misfit after (Full k p) f h = absurd h
falls_reading m c misfit after BadSize f h = absurd h
falls_reading m c misfit after Off f h = absurd h
falls_reading m c misfit after Failed f h = inl h
falls_reading m c misfit after Memory f h = inl h

falls_ending : (m : Machine) (c : Changes) (misfit : Bool) (after : Objects) (fault : DeviceFault) (f : Machine) → FallsEnding after (with_open m c) fault f → OpenFault m misfit after fault f
falls_ending m c misfit after NoTx f h = elim h [ inl a ↦ a | inr a ↦ a.1 ]
falls_ending m c misfit after Busy f h = elim h [ inl a ↦ a | inr a ↦ a.1 ]
falls_ending m c misfit after TxFull f h = elim h [ inl a ↦ a | inr a ↦ a.1 ]
falls_ending m c misfit after (Full k p) f h = (h.0, h.1, h.2, (c, h.3))
falls_ending m c misfit after BadSize f h = absurd (elim h [ inl a ↦ a | inr a ↦ a.1 ])
falls_ending m c misfit after Off f h = h.1
falls_ending m c misfit after Failed f h = elim h [ inl a ↦ inl a | inr a ↦ inr a.1 ]
falls_ending m c misfit after Memory f h = elim h [ inl a ↦ inl a | inr a ↦ inr a.1 ]

set_refused : (m : Machine) (c : Changes) (misfit : Bool) (after : Objects) (b : Bool) (fault : DeviceFault) (f : Machine) → (b ≡ true → misfit ≡ true)
    → IsFault (cond b (Some BadSize) None) Falls (with_open m c) fault f → OpenFault m misfit after fault f
set_refused m c misfit after true fault f big h = subst (λ x. OpenFault m misfit after x f) (sym h.0) (big refl, (c, h.1))
set_refused m c misfit after false fault f big h = falls m c misfit after fault f h

set_open : (m : Machine) (c : Changes) (pair : Pair) (misfit : Bool) (after : Objects) (fault : DeviceFault) (f : Machine) → objects.len c ≤ 2 → (is_misfit pair ≡ true → misfit ≡ true)
    → SetFault (with_open m c) 0 pair.key pair.value fault f → OpenFault m misfit after fault f
set_open m c pair misfit after fault f few big h =
    set_refused m c misfit after (is_misfit pair) fault f big
    (subst (λ b. IsFault (cond (is_misfit pair) (Some BadSize) (cond b (Some TxFull) None)) Falls (with_open m c) fault f) (tx_open m c pair.key few) h)

delete_open : (m : Machine) (c : Changes) (key : List ℕ) (misfit : Bool) (after : Objects) (fault : DeviceFault) (f : Machine) → objects.len c ≤ 2
    → DeleteFault (with_open m c) 0 key fault f → OpenFault m misfit after fault f
delete_open m c key misfit after fault f few h =
    falls_reading m c misfit after fault f (subst (λ b. IsFault (cond b (Some TxFull) None) FallsReading (with_open m c) fault f) (tx_open m c key few) h)

-- ---- the changes

abbrev pub one_change : Pair → Changes
one_change first = objects.insert objects.empty first.key (Some first.value)

abbrev pub two_changes : Pair → Pair → Changes
two_changes first second = objects.insert (one_change first) second.key (Some second.value)

abbrev pub three_changes : Pair → Pair → List ℕ → Changes
three_changes first second gone = objects.insert (two_changes first second) gone None

len_one : (first : Pair) → objects.len (one_change first) ≤ 1
len_one first = len-insert-le objects.empty first.key (Some first.value) 1 (len-empty-le (Option (List ℕ)) 1) (λ _. let none = len-empty-le (Option (List ℕ)) 0 in omega arith)

len_two : (first second : Pair) → objects.len (two_changes first second) ≤ 2
len_two first second = let one = len_one first in len-insert-le (one_change first) second.key (Some second.value) 2 (omega arith) (λ _. omega arith)

-- what they make
three_made : (m : Machine) (first second : Pair) (gone : List ℕ) → view (with_open m (three_changes first second gone)) 0 ≡ exchanged m.stable first second gone
unfolding view
three_made m first second gone =
    seen_through-insert (two_changes first second) m.stable gone None
    ∙ ap (λ o. changed o (gone, None)) (seen_through-insert (one_change first) m.stable second.key (Some second.value)
    ∙ ap (λ o. changed o (second.key, Some second.value)) (seen_through-insert objects.empty m.stable first.key (Some first.value)
    ∙ ap (λ o. changed o (first.key, Some first.value)) (seen_through-none objects.empty m.stable (objects.len-empty bytes_cmp (Option (List ℕ))))))

or_left : (a b : Bool) → a ≡ true → (a || b) ≡ true
or_left true b e = refl
or_left false b e = cc

or_right : (a b : Bool) → b ≡ true → (a || b) ≡ true
or_right true b e = refl
or_right false b e = e

fill_open : (m : Machine) (first second : Pair) (gone : List ℕ) (fault : DeviceFault) (f : Machine) → FillFault (with_open m objects.empty) 0 first second gone fault f
    → OpenFault m (is_misfit first || is_misfit second) (exchanged m.stable first second gone) fault f
fill_open m first second gone fault f h =
    let misfit = is_misfit first || is_misfit second in
    let after = exchanged m.stable first second gone in
    elim h [
      | inl a ↦ set_open m objects.empty first misfit after fault f (len-empty-le (Option (List ℕ)) 2) (or_left (is_misfit first) (is_misfit second)) a
      | inr rest ↦ elim rest [
        | inl a ↦ let one = len_one first in set_open m (one_change first) second misfit after fault f (omega arith) (or_right (is_misfit first) (is_misfit second)) a
        | inr rest ↦ elim rest [
          | inl a ↦ delete_open m (two_changes first second) gone misfit after fault f (len_two first second) a
          | inr a ↦ falls_ending m (three_changes first second gone) misfit after fault f
              (subst (λ o. FallsEnding o (with_open m (three_changes first second gone)) fault f) (three_made m first second gone) a)
        ]
      ]
    ]

-- ---- the abort after an error

abort_open : {A : Type 0} (m f new : Machine) (c : Changes) (r : Result A DeviceFault) → f ≡ with_open m c → OnOk r (AbortDone f 0 new) → IfErr r (λ e. AbortFault f 0 e new) → new ≡ idle m
abort_open m f new c (Ok a) is ok err = ok.after ∙ ap (λ x. aborted x 0) is
abort_open m f new c (Err e) is ok err = absurd (subst (λ x. AbortFault x 0 e new) is err)

abort_down : {A : Type 0} (f new : Machine) (r : Result A DeviceFault) → f.up ≡ false → OnOk r (AbortDone f 0 new) → IfErr r (λ e. AbortFault f 0 e new) → new ≡ f
abort_down f new (Ok a) down ok err =
    let off : Some Off ≡ None = (λ i. cond (not (sym down i)) (Some Off) (first_of (record f { up = true }) 0 None)) ∙ ok.allowed in cc
abort_down f new (Err e) down ok err =
    let fault : IsFault (Some Off) Never f e new = subst (λ b. IsFault (cond (not b) (Some Off) (first_of (record f { up = true }) 0 None)) Never f e new) down err in fault.1

fallen : (m f : Machine) (fault : DeviceFault) → Falls m fault f → f.up ≡ false
fallen m f NoTx h = absurd h
fallen m f Busy h = absurd h
fallen m f TxFull h = absurd h
fallen m f (Full k p) h = absurd h
fallen m f BadSize h = absurd h
fallen m f Off h = ap (λ x. x.up) h.1
fallen m f Failed h = ap (λ x. x.up) h.1
fallen m f Memory h = ap (λ x. x.up) h

stays : {A : Type 0} (m f new : Machine) (fault : DeviceFault) (r : Result A DeviceFault) → Falls m fault f → OnOk r (AbortDone f 0 new) → IfErr r (λ e. AbortFault f 0 e new) → Falls m fault new
stays m f new fault r h ok err = subst (λ x. Falls m fault x) (sym (abort_down f new r (fallen m f fault h) ok err)) h

either : {A : Type 0} (m : Machine) (after : Objects) (f new : Machine) (fault : DeviceFault) (r : Result A DeviceFault) → Falls m fault f ⊎ Falls (with_stable m after) fault f
    → OnOk r (AbortDone f 0 new) → IfErr r (λ e. AbortFault f 0 e new) → Falls m fault new ⊎ Falls (with_stable m after) fault new
either m after f new fault r h ok err = elim h [ inl a ↦ inl (stays m f new fault r a ok err) | inr a ↦ inr (stays (with_stable m after) f new fault r a ok err) ]

closed : {A : Type 0} (m : Machine) (misfit : Bool) (after : Objects) (fault : DeviceFault) (f new : Machine) (r : Result A DeviceFault) → OpenFault m misfit after fault f
    → OnOk r (AbortDone f 0 new) → IfErr r (λ e. AbortFault f 0 e new) → ExchangeFault (idle m) misfit after fault new
closed m misfit after NoTx f new r h ok err = h
closed m misfit after Busy f new r h ok err = h
closed m misfit after TxFull f new r h ok err = h
closed m misfit after BadSize f new r h ok err = (h.0, abort_open m f new h.1.0 r h.1.1 ok err)
closed m misfit after (Full k p) f new r h ok err = (h.0, h.1, h.2, abort_open m f new h.3.0 r h.3.1 ok err)
closed m misfit after Off f new r h ok err = either m after f new Off r h ok err
closed m misfit after Failed f new r h ok err = either m after f new Failed r h ok err
closed m misfit after Memory f new r h ok err = either m after f new Memory r h ok err

-- ---- the same from what the calls ensure

first_number : (old : Machine) (tx : ℕ) → old.pending ≡ none_open → free_number old.pending ≡ Some tx → tx ≡ 0
first_number old tx none f = let e : Some 0 ≡ Some tx = sym (ap free_number none) ∙ f in cc

begun_is : (old m1 : Machine) (tx : ℕ) → old.up ≡ true → old.pending ≡ none_open → free_number old.pending ≡ Some tx → m1 ≡ begun old tx → ◌≡◌ {A = Machine × ℕ} (m1, tx) (with_open old objects.empty, 0)
begun_is old m1 tx up none f e =
    let t = first_number old tx none f in
    λ i. ((e ∙ (λ j. begun (sym (idle_is old up none) j) (t j))) i, t i)

pub exchange_done : (old m1 new : Machine) (tx : ℕ) (first second : Pair) (gone : List ℕ) → old.up ≡ true → old.pending ≡ none_open → free_number old.pending ≡ Some tx → m1 ≡ begun old tx
    → new ≡ ended (filled m1 tx first second gone) tx → new ≡ with_stable old (exchanged old.stable first second gone)
exchange_done old m1 new tx first second gone up none f e h =
    let p = begun_is old m1 tx up none f e in
    h ∙ (λ i. ended (filled (p i).0 (p i).1 first second gone) (p i).1)
    ∙ (λ i. record (idle old) { stable = three_made old first second gone i })
    ∙ (λ i. with_stable (idle_is old up none i) (exchanged old.stable first second gone))

pub exchange_fault : {A : Type 0} (old m1 mid new : Machine) (tx : ℕ) (first second : Pair) (gone : List ℕ) (fault : DeviceFault) (r : Result A DeviceFault)
    → old.up ≡ true → old.pending ≡ none_open → free_number old.pending ≡ Some tx → m1 ≡ begun old tx → FillFault m1 tx first second gone fault mid
    → OnOk r (AbortDone mid tx new) → IfErr r (λ e. AbortFault mid tx e new)
    → ExchangeFault old (is_misfit first || is_misfit second) (exchanged old.stable first second gone) fault new
exchange_fault old m1 mid new tx first second gone fault r up none f e h ok err =
    let p = begun_is old m1 tx up none f e in
    let misfit = is_misfit first || is_misfit second in
    let after = exchanged old.stable first second gone in
    let opened = fill_open old first second gone fault mid (subst (λ (x : Machine × ℕ). FillFault x.0 x.1 first second gone fault mid) p h) in
    let t = first_number old tx none f in
    subst (λ o. ExchangeFault o misfit after fault new) (idle_is old up none)
    (closed old misfit after fault mid new r opened (subst (λ n. OnOk r (AbortDone mid n new)) t ok) (subst (λ n. IfErr r (λ e. AbortFault mid n e new)) t err))
