-- A running transaction with nothing in it, and after a commit another one.
use Rattle.std.proofs.Common.{◌≡◌, ℕ, suc, ◌⊎◌, inl, inr, true, refl, sym, ◌∙◌, ap, subst, arith, not, cond, [], ◌∷◌, length, Some, None, is_none, unwrap_or, option_and_then, slice_get, slice_set}
use Rattle.std.specs.List.{list_all}
use Rattle.std.specs.FinMap as objects
use Rattle.kv_device.specs.Bytes.{bytes_cmp}
use Rattle.kv_device.specs.declared.fault.DeviceFault.{DeviceFault}
use Rattle.kv_device.specs.declared.fault.DeviceFault.TheVariants.{NoTx, Busy, TxFull, Full, BadSize, Off, Failed, Memory}
use Rattle.kv_device.specs.Objects.{Objects, seen_through}
use Rattle.kv_device.specs.Machine.{Machine, Transactions, changes_of, view, none_open}
use Rattle.kv_device.specs.Calls.{FallsEnding, IsFault, first_of}
use Rattle.kfs_tx.specs.Tx.{Tx, IsReady, SameBounds, CommitFault, seen, changed_keys, committed, is_alone, started}
use Rattle.kfs_tx.proofs.Seeing.{ready_open, seen_nothing}
use Rattle.kfs_tx.proofs.Alone.{alone_is}
use Rattle.kfs_core.specs.Clearing.{IsFresh, with_stable}
use Rattle.kfs_core.proofs.Dropped.{Follows}

none_changed_of : (r : Tx) → IsFresh r → changes_of r.machine r.id ≡ Some objects.empty
none_changed_of r fresh = λ i. option_and_then (λ t. t) (slice_get (fresh.pending i) (fresh.id i))

pub fresh_ready : (r : Tx) → IsFresh r → IsReady r
fresh_ready r fresh = record { up = fresh.up; alone = λ i. is_alone (fresh.pending i) (fresh.id i) }

pub fresh_seen : (r : Tx) → IsFresh r → seen r ≡ r.machine.stable
unfolding view
fresh_seen r fresh = ap (λ c. seen_through (unwrap_or c objects.empty) r.machine.stable) (none_changed_of r fresh) ∙ seen_nothing r.machine.stable

pub fresh_keys : (r : Tx) → IsFresh r → changed_keys r ≡ 0
fresh_keys r fresh = ap (λ c. objects.len (unwrap_or c objects.empty)) (none_changed_of r fresh) ∙ objects.len-empty bytes_cmp _

-- what is stored makes no difference
pub fresh_over : (r : Tx) (now : Objects) → IsFresh r → IsFresh (with_stable r now)
fresh_over r now fresh = record { up = fresh.up; pending = fresh.pending; id = fresh.id; since = fresh.since; weight = fresh.weight }

pub fresh_started : (m : Machine) (changes next : ℕ) → m.up ≡ true → m.pending ≡ none_open → IsFresh (started m changes next)
fresh_started m changes next up idle = record { up = up; pending = ap (λ p. slice_set p 0 (Some objects.empty)) idle; id = refl; since = refl; weight = refl }

three : (ts : Transactions) → list_all is_none ts ≡ true → length ts ≡ 3 → ts ≡ None ∷ None ∷ None ∷ []
three [] a l = absurd (omega arith)
three (Some c ∷ ts) a l = absurd (cc)
three (None ∷ []) a l = absurd (omega arith)
three (None ∷ Some c ∷ ts) a l = absurd (cc)
three (None ∷ None ∷ []) a l = absurd (omega arith)
three (None ∷ None ∷ Some c ∷ ts) a l = absurd (cc)
three (None ∷ None ∷ None ∷ []) a l = refl
three (None ∷ None ∷ None ∷ t ∷ ts) a l = absurd (omega arith)

-- after a commit nothing but what is stored is another
pub committed_fresh : (old r : Tx) (most : ℕ) → IsFresh old → Follows old r most → committed r ≡ with_stable old (seen r)
committed_fresh old r most fresh follows =
    let ready = follows.ready (fresh_ready old fresh) in
    let a = alone_is r.machine.pending r.id ready.alone in
    let four : length old.machine.pending ≡ 4 = ap (λ (p : Transactions). length p) fresh.pending in
    let long : length r.machine.pending ≡ suc (length a.rest) = ap (λ (p : Transactions). length p) a.is in
    let slots = follows.slots in
    let rest = three a.rest a.none (omega arith) in
    let pending : slice_set (slice_set r.machine.pending r.id None) 0 (Some objects.empty) ≡ old.machine.pending =
    (λ i. slice_set (slice_set (a.is i) (a.first i) None) 0 (Some objects.empty)) ∙ (λ i. Some objects.empty ∷ rest i) ∙ sym fresh.pending in
    let same = follows.same in
    λ i. record {
      machine = record (same i).machine { stable = seen r; pending = pending i };
      id = sym fresh.id i;
      changes = (same i).changes;
      next = (same i).next;
      since = sym fresh.since i;
      weight = sym fresh.weight i;
    }

bounds_to : (m x new : Machine) → new ≡ x → x.most_cuts ≡ m.most_cuts → x.most_faults ≡ m.most_faults → x.room_keys ≡ m.room_keys → x.room_pages ≡ m.room_pages → SameBounds m new
bounds_to m x new e a b c d = record {
  most_cuts = ap (λ (y : Machine). y.most_cuts) e ∙ a;
  most_faults = ap (λ (y : Machine). y.most_faults) e ∙ b;
  room_keys = ap (λ (y : Machine). y.room_keys) e ∙ c;
  room_pages = ap (λ (y : Machine). y.room_pages) e ∙ d;
}

-- what stands where an end failed: the objects before, or those after
abbrev pub Either : Machine → Objects → Machine → Type 0
Either m after new = ((new.stable ≡ m.stable) ⊎ (new.stable ≡ after)) × SameBounds m new

before : (m x new : Machine) (after : Objects) → new ≡ x → x.stable ≡ m.stable → SameBounds m new → Either m after new
before m x new after e s b = (inl (ap (λ (y : Machine). y.stable) e ∙ s), b)

past : (m x new : Machine) (after : Objects) → new ≡ x → x.stable ≡ after → SameBounds m new → Either m after new
past m x new after e s b = (inr (ap (λ (y : Machine). y.stable) e ∙ s), b)

ends_at : (m : Machine) (after : Objects) (fault : DeviceFault) (new : Machine) → FallsEnding after m fault new → Either m after new
ends_at m after NoTx new h = absurd (elim h [ inl a ↦ a | inr a ↦ a.1 ])
ends_at m after Busy new h = absurd (elim h [ inl a ↦ a | inr a ↦ a.1 ])
ends_at m after TxFull new h = absurd (elim h [ inl a ↦ a | inr a ↦ a.1 ])
ends_at m after BadSize new h = absurd (elim h [ inl a ↦ a | inr a ↦ a.1 ])
ends_at m after (Full k p) new h = before m _ new after h.3 refl (bounds_to m _ new h.3 refl refl refl refl)
ends_at m after Off new h = elim (h.1) [
  | inl a ↦ before m _ new after a.1 refl (bounds_to m _ new a.1 refl refl refl refl)
  | inr a ↦ past m _ new after a.1 refl (bounds_to m _ new a.1 refl refl refl refl)
]
ends_at m after Failed new h = elim h [
  | inl a ↦ before m _ new after a.1 refl (bounds_to m _ new a.1 refl refl refl refl)
  | inr a ↦ past m _ new after a.1.1 refl (bounds_to m _ new a.1.1 refl refl refl refl)
]
ends_at m after Memory new h = elim h [
  | inl a ↦ before m _ new after a refl (bounds_to m _ new a refl refl refl refl)
  | inr a ↦ past m _ new after a.1 refl (bounds_to m _ new a.1 refl refl refl refl)
]

pub commit_either : (r : Tx) (fault : DeviceFault) (new : Machine) → IsReady r → CommitFault r fault new → Either r.machine (seen r) new
commit_either r fault new ready h =
    let allowed : first_of r.machine r.id None ≡ None = λ i. cond (not (ready.up i)) (Some Off) (cond (not (ready_open r ready i)) (Some NoTx) None) in
    ends_at r.machine (seen r) fault new (subst (λ o. IsFault o (FallsEnding (seen r)) r.machine fault new) allowed h.0)
