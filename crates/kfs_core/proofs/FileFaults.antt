-- What a write that failed leaves.
use Rattle.std.proofs.Common.{◌≡◌, ℕ, ◌<◌, ◌≤◌, ◌+◌, ◌&&◌, ◌⊎◌, inl, inr, true, false, sym, ◌∙◌, ap, subst, arith, List, length, nat_lt}
use Rattle.std.proofs.lemmas.Bool.Decides.{nat_tests}
use Rattle.kv_device.specs.declared.fault.DeviceFault.{DeviceFault}
use Rattle.kv_device.specs.Calls.{has_room}
use Rattle.kv_device.specs.Machine.{Machine}
use Rattle.kv_device.specs.Objects.{Objects}
use Rattle.kfs_objects.specs.Keys.{inode_key}
use Rattle.kfs_objects.specs.Records.{inode_value}
use Rattle.kfs_objects.proofs.KeyLaws.{length_be64}
use Rattle.kfs_model.specs.Tree.{greatest_length}
use Rattle.kfs_model.specs.Change.{spanned}
use Rattle.kfs_tx.specs.Tx.{Tx, IsReady, SameBounds, Caused, HasCause, Fallen, seen, changed_keys, is_full, with_super}
use Rattle.kfs_tx.proofs.Falling.{put_falls, change_falls}
use Rattle.kfs_file.specs.Contents.{touched, pending_of}
use Rattle.kfs_file.proofs.Failing.{cause_before}
use Rattle.kfs_core.specs.Files.{PutsBytes, WriteFault, with_length}
use Rattle.kfs_core.specs.Room.{grown}
use Rattle.kfs_core.proofs.FileEffects.{put_ready, length_ready, length_keys, put_numbers}

-- a cause after the bytes are put is one from the beginning on
caused_from : (old put : Tx) (fault : DeviceFault) (new : Machine) → put ≡ pending_of put old → Caused put.machine fault new → Caused old.machine fault new
caused_from old put fault new same h = cause_before old.machine put.machine.pending fault new (subst (λ (r : Tx). Caused r.machine fault new) same h)

pub write_caused : (old : Tx) (n size p : ℕ) (given : List ℕ) (fault : DeviceFault) (new : Machine) → WriteFault old n size p given fault new → Caused old.machine fault new
write_caused old n size p given fault new (inl h) = h.cause
write_caused old n size p given fault new (inr (put, puts, inl h)) = caused_from old put fault new puts.writes.same h.1
write_caused old n size p given fault new (inr (put, puts, inr (inl h))) = caused_from old put fault new puts.writes.same h.1
write_caused old n size p given fault new (inr (put, puts, inr (inr h))) = caused_from old put fault new puts.writes.same h.1.1

-- so is what stands
fallen_from : (old put : Tx) (fault : DeviceFault) (stands : Objects) (new : Machine) → put ≡ pending_of put old → HasCause put.machine fault new → new.stable ≡ stands → SameBounds put.machine new → Fallen old.machine fault stands new
fallen_from old put fault stands new same cause is bounds = record {
  cause = by fault (subst (λ (r : Tx). HasCause r.machine fault new) same cause);
  stable = is;
  bounds = record {
    most_cuts = bounds.most_cuts ∙ ap (λ (r : Tx). r.machine.most_cuts) same;
    most_faults = bounds.most_faults ∙ ap (λ (r : Tx). r.machine.most_faults) same;
    room_keys = bounds.room_keys ∙ ap (λ (r : Tx). r.machine.room_keys) same;
    room_pages = bounds.room_pages ∙ ap (λ (r : Tx). r.machine.room_pages) same;
  };
}
  where
    by : (fault : DeviceFault) → HasCause (pending_of put old).machine fault new → HasCause old.machine fault new
    by fault h = h

small_inode : (size : ℕ) (key : List ℕ) → (nat_lt 128 (length (inode_value 2 size)) && nat_lt 32 (length key)) ≡ false
small_inode size key = let h = length_be64 size in let f : nat_lt 128 (length (inode_value 2 size)) ≡ false = grind (arith, nat_tests) in ap (λ b. b && nat_lt 32 (length key)) f

few_touched : (p j : ℕ) → p + j ≤ greatest_length → touched p j ≤ 257
few_touched p j le = omega arith

module _ (old : Tx) (n size p : ℕ) (given : List ℕ) (fault : DeviceFault) (new : Machine) (ready : IsReady old) (light : changed_keys old < 256) (fits : p + length given ≤ greatest_length) where
  abbrev pub last : Tx → Tx
  last put = with_length put n (grown size p (length given))

  -- nothing of the write stands, or all of it, where a boundary fell
  pub write_falls : ((put : Tx) → PutsBytes old n p given put → has_room old.machine (seen (with_super (last put) put.next)) ≡ true) → WriteFault old n size p given fault new
      → Fallen old.machine fault old.machine.stable new
      ⊎ ((put : Tx) × PutsBytes old n p given put × (is_full (old.since + 1) (old.weight + (2 + spanned p (length given))) ≡ true) × Fallen old.machine fault (seen (with_super (last put) put.next)) new)
  write_falls room (inl h) = inl (h.fallen ready (let t = few_touched p (length given) fits in omega arith))
  write_falls room (inr (put, puts, inl h)) =
      let keys = puts.keys ready in
      let t = few_touched p (length given) fits in
      let f = put_falls put (inode_key n) (inode_value 2 (grown size p (length given))) fault new (put_ready old put n p given puts ready) (omega arith) (small_inode (grown size p (length given)) (inode_key n)) h in
      inl (fallen_from old put fault old.machine.stable new puts.writes.same f.cause (f.stable ∙ ap (λ (r : Tx). r.machine.stable) puts.writes.same) f.bounds)
  write_falls room (inr (put, puts, inr h)) =
      let keys = length_keys old put n p given puts ready (grown size p (length given)) in
      let t = few_touched p (length given) fits in
      let numbers = put_numbers old put n p given puts (grown size p (length given)) in
      let enough : has_room (last put).machine (seen (with_super (last put) put.next)) ≡ true = by_room put puts (room put puts) in
      elim (change_falls (last put) (2 + spanned p (length given)) put.next fault new (length_ready old put n p given puts ready (grown size p (length given))) (omega arith) enough h) [
        | inl f ↦ inl (fallen_from old put fault old.machine.stable new puts.writes.same f.cause (f.stable ∙ numbers.stable) (record { most_cuts = f.bounds.most_cuts; most_faults = f.bounds.most_faults; room_keys = f.bounds.room_keys; room_pages = f.bounds.room_pages }))
        | inr (full, f) ↦ inr (
          put,
          puts,
          (λ i. is_full (sym numbers.since i + 1) (sym numbers.weight i + (2 + spanned p (length given)))) ∙ full,
          fallen_from old put fault (seen (with_super (last put) put.next)) new puts.writes.same f.cause f.stable (record { most_cuts = f.bounds.most_cuts; most_faults = f.bounds.most_faults; room_keys = f.bounds.room_keys; room_pages = f.bounds.room_pages }),
        )
      ]
    where
      by_room : (put : Tx) → PutsBytes old n p given put → has_room old.machine (seen (with_super (last put) put.next)) ≡ true → has_room (last put).machine (seen (with_super (last put) put.next)) ≡ true
      by_room put puts h = subst (λ (r : Tx). has_room r.machine (seen (with_super (last put) put.next)) ≡ true) (sym puts.writes.same) h
