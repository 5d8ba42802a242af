-- One transaction that writes two objects on an empty device.
use Rattle.std.proofs.Common.{◌≡◌, ℕ, ◌≤◌, ◌&&◌, inl, inr, true, false, Bool, not, cond, refl, sym, ◌∙◌, ap, subst, arith, List, length, Some, None, is_some, unwrap_or, slice_set, nat_lt, nat_le}
use Rattle.std.specs.FinMap as objects
use Rattle.std.proofs.lemmas.Bool.Decides.{nat_tests}
use Rattle.kv_device.specs.declared.fault.DeviceFault.{DeviceFault}
use Rattle.kv_device.specs.declared.fault.DeviceFault.TheVariants.{NoTx, Busy, TxFull, Full, BadSize, Off, Failed, Memory}
use Rattle.kv_device.specs.Objects.{page_count}
use Rattle.kv_device.specs.Machine.{Machine, none_open, free_number, begun, with_change, ended, view, changes_of}
use Rattle.kv_device.specs.Calls.{BeginDone, SetDone, EndDone, SetFault, EndFault, begin_refusal, has_room}
use Rattle.kfs_objects.specs.Keys.{super_key, inode_key, be64}
use Rattle.kfs_objects.specs.Records.{super_value, inode_value}
use Rattle.kfs_model.specs.Tree.{root_alone}
use Rattle.kfs_shows.proofs.Fresh.{root_is_tree, first_shows}
use Rattle.kfs_shows.proofs.Counting.{few_objects, few_pages}
use Rattle.kfs_tx.specs.Tx.{Tx, IsReady, HasCause, CausedAlone, Fallen, started, seen, changed_keys, put_in}
use Rattle.kfs_tx.proofs.Seeing.{ready_put, seen_put, keys_put}
use Rattle.kfs_tx.proofs.Opening.{ready, sees_stable, first_number, none_changed}
use Rattle.kfs_tx.proofs.Falling.{set_falls, end_falls}
use Rattle.kfs_core.specs.Starting.{formatted, first_objects, NotFormatted}

up_of : (m : Machine) (b : Bool) → m.up ≡ b → begin_refusal m ≡ None → m.up ≡ true
up_of m true e none = e
up_of m false e none = absurd (let bad : Some Off ≡ None = (λ i. cond (not (sym e i)) (Some Off) (cond (is_some (free_number m.pending)) None (Some Busy))) ∙ none in cc)

pub formats : (m0 m1 m2 m3 m4 : Machine) (tx : ℕ) → m0.pending ≡ none_open → m0.stable ≡ objects.empty → BeginDone m0 tx m1 → SetDone m1 tx (inode_key 1) (inode_value 1 0) m2 → SetDone m2 tx super_key (super_value 0 2) m3 → EndDone m3 tx m4
    → (m4 ≡ formatted m0) × (m0.up ≡ true)
formats m0 m1 m2 m3 m4 tx idle empty begin one two end =
    let up = up_of m0 m0.up refl begin.allowed in
    let zero' = first_number m0 up idle tx begin.lowest in
    let r0 : Tx = record { machine = begun m0 0; id = 0; changes = 0; next = 0; since = 0; weight = 0 } in
    let r1 = put_in r0 (inode_key 1) (inode_value 1 0) in
    let r2 = put_in r1 super_key (super_value 0 2) in
    let h0 = ready m0 up idle 0 0 in
    let h1 = ready_put r0 (inode_key 1) (inode_value 1 0) h0 in
    let m3_is : m3 ≡ r2.machine = two.after ∙ (λ i. with_change ((one.after ∙ (λ j. with_change ((begin.after ∙ ap (begun m0) zero') j) (zero' j) (inode_key 1) (Some (inode_value 1 0)))) i) (zero' i) super_key (Some (super_value 0 2))) in
    let sees : view r2.machine 0 ≡ first_objects =
    seen_put r1 super_key (super_value 0 2) h1 ∙ ap (λ m. objects.insert m super_key (super_value 0 2)) (seen_put r0 (inode_key 1) (inode_value 1 0) h0 ∙ ap (λ m. objects.insert m (inode_key 1) (inode_value 1 0)) (sees_stable m0 up idle ∙ empty)) in
    (end.after ∙ (λ i. ended (m3_is i) (zero' i)) ∙ (λ i. record (ended r2.machine 0) { stable = sees i }) ∙ closed m0 idle, up)
  where
    closed : (m0 : Machine) → m0.pending ≡ none_open → ◌≡◌ {A = Machine} (record (ended (put_in (put_in (record { machine = begun m0 0; id = 0; changes = 0; next = 0; since = 0; weight = 0 }) (inode_key 1) (inode_value 1 0)) super_key (super_value 0 2)).machine 0) { stable = first_objects }) (formatted m0)
    closed m0 idle =
        let first = objects.insert (unwrap_or (changes_of (begun m0 0) 0) objects.empty) (inode_key 1) (Some (inode_value 1 0)) in
        let both = objects.insert (unwrap_or (changes_of (with_change (begun m0 0) 0 (inode_key 1) (Some (inode_value 1 0))) 0) objects.empty) super_key (Some (super_value 0 2)) in
        λ i. record m0 { stable = first_objects; pending = slice_set (slice_set (slice_set (slice_set (idle i) 0 (Some objects.empty)) 0 (Some first)) 0 (Some both)) 0 None }

-- the same at the keys and values as the code has them
pub formats_by : (m0 m1 m2 m3 m4 : Machine) (tx : ℕ) (k v j w : List ℕ) → k ≡ inode_key 1 → v ≡ inode_value 1 0 → j ≡ super_key → w ≡ super_value 0 2
    → m0.pending ≡ none_open → m0.stable ≡ objects.empty → BeginDone m0 tx m1 → SetDone m1 tx k v m2 → SetDone m2 tx j w m3 → EndDone m3 tx m4 → (m4 ≡ formatted m0) × (m0.up ≡ true)
formats_by m0 m1 m2 m3 m4 tx k v j w ke ve je we idle empty begin one two end =
    formats m0 m1 m2 m3 m4 tx idle empty begin (subst (λ k. SetDone m1 tx k (inode_value 1 0) m2) ke (subst (λ v. SetDone m1 tx k v m2) ve one)) (subst (λ j. SetDone m2 tx j (super_value 0 2) m3) je (subst (λ w. SetDone m2 tx j w m3) we two)) end

-- ---- a format that fails

alone_cause : (old : Machine) (fault : DeviceFault) (new : Machine) → HasCause old fault new → CausedAlone old fault new
alone_cause old NoTx new h = absurd h
alone_cause old Busy new h = absurd h
alone_cause old TxFull new h = absurd h
alone_cause old (Full k p) new h = absurd h
alone_cause old BadSize new h = absurd h
alone_cause old Off new h = inr h
alone_cause old Failed new h = h
alone_cause old Memory new h = h

small_inode : (key : List ℕ) → (nat_lt 128 (length (inode_value 1 0)) && nat_lt 32 (length key)) ≡ false
unfolding be64
small_inode key = refl

small_super : (key : List ℕ) → (nat_lt 128 (length (super_value 0 2)) && nat_lt 32 (length key)) ≡ false
unfolding be64
small_super key = refl

-- a root alone has room
first_room : (m : Machine) → 3 ≤ m.room_keys → has_room m first_objects ≡ true
first_room m three =
    let a = few_objects first_objects root_alone root_is_tree first_shows.tree (omega arith) in
    let b = few_pages first_objects root_alone 0 root_is_tree first_shows (omega arith) in
    let f : nat_le (objects.len first_objects) m.room_keys ≡ true = grind (arith, nat_tests) in
    let g : nat_le (page_count first_objects) m.room_pages ≡ true = grind (arith, nat_tests) in
    λ i. (f i && g i)

module _ (m0 : Machine) (idle : m0.pending ≡ none_open) (empty : m0.stable ≡ objects.empty) (m1 : Machine) (tx : ℕ) (begin : BeginDone m0 tx m1) where
  up' : m0.up ≡ true
  up' = up_of m0 m0.up refl begin.allowed

  zero' : tx ≡ 0
  zero' = first_number m0 up' idle tx begin.lowest

  abbrev r0 : Tx
  r0 = started m0 0 0

  abbrev r1 : Tx
  r1 = put_in r0 (inode_key 1) (inode_value 1 0)

  abbrev r2 : Tx
  r2 = put_in r1 super_key (super_value 0 2)

  ready1 : IsReady r1
  ready1 = ready_put r0 (inode_key 1) (inode_value 1 0) (ready m0 up' idle 0 0)

  ready2 : IsReady r2
  ready2 = ready_put r1 super_key (super_value 0 2) ready1

  few0 : changed_keys r0 ≡ 0
  few0 = none_changed m0 up' idle 0 0

  few1 : changed_keys r1 ≤ 1
  few1 = let h = keys_put r0 (inode_key 1) (inode_value 1 0) (ready m0 up' idle 0 0) in let z = few0 in omega arith

  -- it ended with nothing stored
  nothing : (fault : DeviceFault) (new : Machine) → Fallen m0 fault m0.stable new → NotFormatted m0 fault new
  nothing fault new f = record { cause = alone_cause m0 fault new f.cause; stable = inl (f.stable ∙ empty); bounds = f.bounds }

  pub first_met : (k v : List ℕ) (fault : DeviceFault) (new : Machine) → k ≡ inode_key 1 → v ≡ inode_value 1 0 → SetFault m1 tx k v fault new → NotFormatted m0 fault new
  first_met k v fault new ke ve h =
      let h1 = subst (λ v. SetFault m1 tx k v fault new) ve h in
      let h2 = subst (λ k. SetFault m1 tx k (inode_value 1 0) fault new) ke h1 in
      let h3 = subst (λ t. SetFault m1 t (inode_key 1) (inode_value 1 0) fault new) zero' h2 in
      let h4 = subst (λ m. SetFault m 0 (inode_key 1) (inode_value 1 0) fault new) (begin.after ∙ ap (begun m0) zero') h3 in
      let f = set_falls r0 (inode_key 1) (inode_value 1 0) fault new (ready m0 up' idle 0 0) (let z = few0 in omega arith) (small_inode (inode_key 1)) h4 in
      nothing fault new (record { cause = f.cause; stable = f.stable; bounds = record { most_cuts = f.bounds.most_cuts; most_faults = f.bounds.most_faults; room_keys = f.bounds.room_keys; room_pages = f.bounds.room_pages } })

  module _ (k v : List ℕ) (m2 : Machine) (ke : k ≡ inode_key 1) (ve : v ≡ inode_value 1 0) (one : SetDone m1 tx k v m2) where
    m2_is : m2 ≡ r1.machine
    m2_is = one.after ∙ (λ i. with_change ((begin.after ∙ ap (begun m0) zero') i) (zero' i) (ke i) (Some (ve i)))

    pub second_met : (j w : List ℕ) (fault : DeviceFault) (new : Machine) → j ≡ super_key → w ≡ super_value 0 2 → SetFault m2 tx j w fault new → NotFormatted m0 fault new
    second_met j w fault new je we h =
        let h1 = subst (λ w. SetFault m2 tx j w fault new) we h in
        let h2 = subst (λ j. SetFault m2 tx j (super_value 0 2) fault new) je h1 in
        let h3 = subst (λ t. SetFault m2 t super_key (super_value 0 2) fault new) zero' h2 in
        let h4 = subst (λ m. SetFault m 0 super_key (super_value 0 2) fault new) m2_is h3 in
        let f = set_falls r1 super_key (super_value 0 2) fault new ready1 (let z = few1 in omega arith) (small_super super_key) h4 in
        nothing fault new (record { cause = f.cause; stable = f.stable; bounds = record { most_cuts = f.bounds.most_cuts; most_faults = f.bounds.most_faults; room_keys = f.bounds.room_keys; room_pages = f.bounds.room_pages } })

    module _ (j w : List ℕ) (m3 : Machine) (je : j ≡ super_key) (we : w ≡ super_value 0 2) (two : SetDone m2 tx j w m3) (three : 3 ≤ m0.room_keys) where
      m3_is : m3 ≡ r2.machine
      m3_is = two.after ∙ (λ i. with_change (m2_is i) (zero' i) (je i) (Some (we i)))

      sees : seen r2 ≡ first_objects
      sees = seen_put r1 super_key (super_value 0 2) ready1 ∙ ap (λ m. objects.insert m super_key (super_value 0 2)) (seen_put r0 (inode_key 1) (inode_value 1 0) (ready m0 up' idle 0 0) ∙ ap (λ m. objects.insert m (inode_key 1) (inode_value 1 0)) (sees_stable m0 up' idle ∙ empty))

      pub end_met : (fault : DeviceFault) (new : Machine) → EndFault m3 tx fault new → NotFormatted m0 fault new
      end_met fault new h =
          let h1 = subst (λ t. EndFault m3 t fault new) zero' h in
          let h2 = subst (λ m. EndFault m 0 fault new) m3_is h1 in
          elim (end_falls r2 fault new ready2 (ap (has_room r2.machine) sees ∙ first_room m0 three) h2) [
            | inl f ↦ nothing fault new (record { cause = f.cause; stable = f.stable; bounds = record { most_cuts = f.bounds.most_cuts; most_faults = f.bounds.most_faults; room_keys = f.bounds.room_keys; room_pages = f.bounds.room_pages } })
            | inr f ↦ record { cause = alone_cause m0 fault new f.cause; stable = inr (f.stable ∙ sees); bounds = record { most_cuts = f.bounds.most_cuts; most_faults = f.bounds.most_faults; room_keys = f.bounds.room_keys; room_pages = f.bounds.room_pages } }
          ]
