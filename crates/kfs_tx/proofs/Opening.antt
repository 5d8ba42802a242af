-- The first transaction of a device that has none open.
use Rattle.std.proofs.Common.{◌≡◌, ℕ, true, not, cond, sym, ◌∙◌, ap, subst, List, Option, Some, None, is_some, unwrap_or, option_and_then, slice_get, slice_set}
use Rattle.std.specs.FinMap as objects
use Rattle.kv_device.specs.Bytes.{bytes_cmp}
use Rattle.kv_device.specs.declared.fault.DeviceFault.{DeviceFault}
use Rattle.kv_device.specs.declared.fault.DeviceFault.TheVariants.{NoTx, Busy, Off}
use Rattle.kv_device.specs.Objects.{seen_through}
use Rattle.kv_device.specs.Machine.{Machine, none_open, free_number, begun, aborted, view, changes_of}
use Rattle.kv_device.specs.Calls.{BeginDone, GetDone, AbortDone, BeginFault, AbortFault, ReadFault, IsFault, Never, begin_refusal, first_of}
use Rattle.kfs_tx.specs.Tx.{IsReady, Fallen, is_alone, started, changed_keys}
use Rattle.kfs_tx.proofs.Seeing.{seen_nothing}
use Rattle.kfs_tx.proofs.Falling.{read_falls}

module _ (old : Machine) (up : old.up ≡ true) (idle : old.pending ≡ none_open) where
  changes_none : changes_of (begun old 0) 0 ≡ Some objects.empty
  changes_none = λ i. option_and_then (λ t. t) (slice_get (slice_set (idle i) 0 (Some objects.empty)) 0)

  pub ready : (changes next : ℕ) → IsReady (started old changes next)
  ready changes next = record { up = up; alone = λ i. is_alone (slice_set (idle i) 0 (Some objects.empty)) 0 }

  pub sees_stable : view (begun old 0) 0 ≡ old.stable
  unfolding view
  sees_stable = ap (λ c. seen_through (unwrap_or c objects.empty) old.stable) changes_none ∙ seen_nothing old.stable

  pub none_changed : (changes next : ℕ) → changed_keys (started old changes next) ≡ 0
  none_changed changes next = ap (λ c. objects.len (unwrap_or c objects.empty)) changes_none ∙ objects.len-empty bytes_cmp _

  pub first_number : (tx : ℕ) → free_number old.pending ≡ Some tx → tx ≡ 0
  first_number tx f = let e : Some 0 ≡ Some tx = sym (ap free_number idle) ∙ f in cc

  begun_is : (tx : ℕ) (m : Machine) → BeginDone old tx m → m ≡ begun old 0
  begun_is tx m h = h.after ∙ ap (begun old) (first_number tx h.lowest)

  -- a value that is read in a transaction of its own
  pub read_alone : (tx : ℕ) (m1 m2 m3 : Machine) (key : List ℕ) (value : Option (List ℕ)) → BeginDone old tx m1 → GetDone m1 tx key value m2 → AbortDone m2 tx m3 → (value ≡ objects.get old.stable key) × (m3 ≡ old)
  read_alone tx m1 m2 m3 key value begin get abort =
      let zero' = first_number tx begin.lowest in
      let is = begun_is tx m1 begin in (
        get.found ∙ (λ i. objects.get (view (is i) (zero' i)) key) ∙ ap (λ m. objects.get m key) sees_stable,
        abort.after ∙ (λ i. aborted ((get.after ∙ is) i) (zero' i)) ∙ (λ i. record old { pending = slice_set (slice_set (idle i) 0 (Some objects.empty)) 0 None }) ∙ (λ i. record old { pending = sym idle i }),
      )
