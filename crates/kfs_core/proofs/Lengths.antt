-- The keys that a new length changes.
use Rattle.std.proofs.Common.{◌≡◌, ℕ, ◌<◌, ◌≤◌, ◌+◌, ◌-◌, ◌/◌, true, false, cond, ◌==◌, inr, sym, ◌∙◌, ap, subst, arith, Ok, nat_lt}
use Rattle.std.proofs.lemmas.Bool.Decides.{nat_tests}
use Rattle.kv_device.specs.declared.fault.DeviceFault.{DeviceFault}
use Rattle.kv_device.specs.Machine.{Machine}
use Rattle.kfs_tx.specs.Tx.{Tx, seen}
use Rattle.kfs_file.specs.Contents.{ResizesFile, ChangesAtMost, FailsWithin, touched}
use Rattle.kfs_file.proofs.Resizing.{resizes_longer}
use Rattle.kfs_core.specs.declared.fault.CoreFault.TheVariants.{Device}
use Rattle.kfs_core.specs.declared.room.Space.{Space}
use Rattle.kfs_core.specs.Core.{KfsState, tx_in, Stays}
use Rattle.kfs_core.specs.Room.{space_in}
use Rattle.kfs_core.specs.Resizing.{PutsLength, Resizes, ResizesTo, Regrows, ResizeFault, ResizeFails, keys_cut, resize_in}

cut_is : (size length : ℕ) → length < size → touched length (size - length) ≡ keys_cut size length
cut_is size length lt =
    let test : nat_lt length size ≡ true = grind (arith, nat_tests) in
    let whole : length + (size - length) ≡ size = omega arith in
    ap (λ n. (n + 4095) / 4096 - length / 4096) whole ∙ sym (ap (λ b. cond b ((size + 4095) / 4096 - length / 4096) 0) test)

pub puts_cut : (old new : Tx) (node size length : ℕ) → length < size → ResizesFile old node size length new → ChangesAtMost old (touched length (size - length)) new → PutsLength old node size length new
puts_cut old new node size length lt h keys = record { resizes = h; keys = subst (λ n. ChangesAtMost old n new) (cut_is size length lt) keys }

pub puts_none : (r : Tx) (node size length : ℕ) → size ≤ length → PutsLength r node size length r
puts_none r node size length le = record { resizes = resizes_longer r node size length le; keys = λ ready. omega arith }

pub cut_fails : (old : Tx) (size length : ℕ) (fault : DeviceFault) (new : Machine) → length < size → FailsWithin old (touched length (size - length)) fault new → FailsWithin old (keys_cut size length) fault new
cut_fails old size length fault new lt h = subst (λ n. FailsWithin old n fault new) (cut_is size length lt) h

-- ---- as the call tells it

module _ (old new : KfsState) (r mid : Tx) (space : Space) (node size length : ℕ) (spaced : space ≡ space_in old) (is : r ≡ tx_in old) (leaves : mid ≡ r) (gives : resize_in (seen r) space node length ≡ Ok size) (apart : (size == length) ≡ false) where
  judged : resize_in (seen (tx_in old)) (space_in old) node length ≡ Ok size
  judged = (λ i. resize_in (seen (sym is i)) (sym spaced i) node length) ∙ gives

  pub resized_done : Resizes mid node size length (tx_in new) → Regrows old size length new → (x : ℕ) × (resize_in (seen (tx_in old)) (space_in old) node length ≡ Ok x) × ResizesTo (x == length) old node x length new
  resized_done h grows =
      let at = subst (λ (x : Tx). Resizes x node size length (tx_in new)) (leaves ∙ is) h in
      (size, judged, subst (λ b. ResizesTo b old node size length new) (sym apart) (at, grows))

  pub resize_failed : (fault : DeviceFault) → ResizeFault mid node size length fault (tx_in new).machine → Stays old new → ResizeFails old node length (Device fault) new
  resize_failed fault h stays =
      let at = subst (λ (x : Tx). ResizeFault x node size length fault (tx_in new).machine) (leaves ∙ is) h in
      (stays, inr (size, judged, apart, at))
