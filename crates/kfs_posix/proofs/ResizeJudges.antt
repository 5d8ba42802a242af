-- The judge of a file's new length, by its parts.
use Rattle.std.proofs.Common.{◌≡◌, ℕ, ◌==◌, Bool, true, false, refl, sym, ◌∙◌, ap, subst, List, Result, Ok, Err, ℤ}
use lib.Signed.{lt_z}
use Rattle.std.specs.Prelude.{pos, negsuc}
use Rattle.kv_device.specs.Objects.{Objects}
use Rattle.kfs_path.specs.declared.call.Errno.{Errno}
use Rattle.kfs_path.specs.declared.call.Errno.TheVariants.{EINVAL}
use Rattle.kfs_model.specs.Ladder.{◌>>=◌, ◌>>◌, ◌when◌}
use Rattle.kfs_model.specs.Step.{Route, syntax, is_negative, natural}
use Rattle.kfs_tx.specs.Tx.{seen}
use Rattle.kfs_core.specs.declared.fault.CoreFault.{CoreFault}
use Rattle.kfs_core.specs.declared.room.Space.{Space}
use Rattle.kfs_core.specs.declared.fault.CoreFault.TheVariants.{No, Device}
use Rattle.kfs_core.specs.Core.{KfsState, tx_in, Stays, Same}
use Rattle.kfs_core.specs.Resizing.{ResizesTo}
use Rattle.kfs_core.specs.Room.{space_in}
use Rattle.kfs_posix.specs.Opens.{Opens}
use Rattle.kfs_posix.specs.Resizing.{resize_node, named_file_in, truncate_by, LengthDoes}

-- a call that only read changed nothing
pub still : (old mid : KfsState) → Stays old mid → tx_in mid ≡ tx_in old → Same old mid
still old mid rest same = rest ∙ (λ i. record old { running = record mid.running { tx = same i } })

-- the state before, where the device has written and planned what it has now
abbrev pub same_as : KfsState → KfsState → KfsState
same_as old mid = record old { running = record mid.running { tx = tx_in old } }

-- what is said of that is said of the state before
pub resizes_same : (old mid new : KfsState) (node was size : ℕ) (b : Bool) → ResizesTo b (same_as old mid) node was size new → ResizesTo b old node was size new
resizes_same old mid new node was size true h = h
resizes_same old mid new node was size false h = h

length_same : {X : Type 0} (old mid new : KfsState) (o files : Opens) (judged : Result (ℕ × ℕ) Errno) (size : ℕ) (result : Result X CoreFault) → LengthDoes (same_as old mid) o judged size result new files → LengthDoes old o judged size result new files
length_same old mid new o files judged size (Ok x) h = record {
  node = h.node;
  was = h.was;
  judge = h.judge;
  effect = resizes_same old mid new h.node h.was size (h.was == size) h.effect;
  files_are = h.files_are;
}
length_same old mid new o files judged size (Err (No e)) h = h
length_same old mid new o files judged size (Err (Device f)) h = h

pub truncate_judged : (m : Objects) (space : Space) (path : List ℕ) (route : Route) (size : ℤ) (n : ℕ) → is_negative size ≡ false → syntax path ≡ Ok route → named_file_in m route ≡ Ok n → truncate_by m space path size ≡ resize_node m space n (natural size)
truncate_judged m space path route size n plain read named =
    (λ i. (EINVAL when plain i) >> (read i >>= λ route. named_file_in m route >>= λ n. resize_node m space n (natural size)))
    ∙ ap (λ r. r >>= λ n. resize_node m space n (natural size)) named

-- what was done of a node is what was done of the path that names it
pub length_moved : {X : Type 0} (old mid new : KfsState) (o files : Opens) (n l size : ℕ) (result : Result X CoreFault) → Same old mid → l ≡ size → LengthDoes mid o (resize_node (seen (tx_in mid)) (space_in mid) n l) l result new files
    → {judge : Result (ℕ × ℕ) Errno} → judge ≡ resize_node (seen (tx_in old)) (space_in old) n size → LengthDoes old o judge size result new files
length_moved old mid new o files n l size result same is does judged =
    subst (λ j. LengthDoes old o j size result new files) (sym judged)
    (subst (λ s. LengthDoes old o (resize_node (seen (tx_in old)) (space_in old) n s) s result new files) is
    (length_same old mid new o files (resize_node (seen (tx_in old)) (space_in old) n l) l result (subst (λ (k : KfsState). LengthDoes k o (resize_node (seen (tx_in k)) (space_in k) n l) l result new files) same does)))

-- a length that is tested to be no less than zero
pub not_negative : (size : ℤ) → lt_z size (pos 0) ≡ false → is_negative size ≡ false
not_negative (pos n) e = refl
not_negative (negsuc n) e = absurd (cc)
