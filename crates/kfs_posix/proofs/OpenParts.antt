-- What opening did, by what its parts did.
use Rattle.std.proofs.Common.{◌≡◌, ℕ, ◌==◌, inl, inr, true, false, not, Bool, refl, sym, ◌∙◌, ap, subst, Option, None, Result, Ok, Err}
use Rattle.std.specs.Ordering.{nat_cmp}
use Rattle.std.specs.FinMap.{find}
use Rattle.kv_device.specs.Objects.{Objects}
use Rattle.kfs_path.specs.declared.call.Errno.{Errno}
use Rattle.kfs_path.specs.declared.call.Flags.{Flags}
use Rattle.kfs_model.specs.Ladder.{◌>>=◌}
use Rattle.kfs_model.specs.Step.{Route}
use Rattle.kfs_tx.specs.Tx.{seen}
use Rattle.kfs_core.specs.declared.fault.CoreFault.{CoreFault}
use Rattle.kfs_core.specs.declared.fault.CoreFault.TheVariants.{No, Device}
use Rattle.kfs_core.specs.Core.{KfsState, tx_in, Same}
use Rattle.kfs_core.specs.Flat.{reach_in}
use Rattle.kfs_core.specs.Resizing.{resize_in, ResizesTo, ResizeFails}
use Rattle.kfs_core.specs.Room.{space_in}
use Rattle.kfs_posix.specs.declared.open_files.OpenFile.{OpenFile}
use Rattle.kfs_posix.specs.Opens.{Opens, opened_as, relengthed}
use Rattle.kfs_posix.specs.Opening.{Opening, New, There, Cut, opened_file, free_for_in, there_in, open_there_in, open_found, open_at_in, IsOpened, OpenFails, OpenDoes}
use Rattle.kfs_posix.proofs.ResizeJudges.{same_as, resizes_same}

when_not : (b : Bool) → not b ≡ true → b ≡ false
when_not true e = absurd (cc)
when_not false e = refl

when : (b : Bool) → not b ≡ false → b ≡ true
when true e = refl
when false e = absurd (cc)

module _ (k : KfsState) (o mid : Opens) (n kind size : ℕ) (trailing : Bool) (flags : Flags) (fd : ℕ) (free : free_for_in o (kind == 1) trailing flags ≡ Ok fd) (same : mid ≡ o) where
  abbrev file : OpenFile
  file = opened_file n (not (kind == 1)) size flags

  abbrev m : Objects
  m = seen (tx_in k)

  abbrev judge : Result Opening Errno
  judge = open_there_in m (space_in k) o n kind size trailing flags

  judged : (trunc : Bool) → flags.trunc ≡ trunc → judge ≡ there_in m (space_in k) fd file trunc
  judged trunc e = ap (λ r. r >>= λ fd. there_in m (space_in k) fd file flags.trunc) free ∙ ap (there_in m (space_in k) fd file) e

  module _ (new : Opens) (d : ℕ) (put : OpenFile) (none : find nat_cmp d mid.files ≡ None) (put_is : put ≡ file) where
    free_was : find nat_cmp d o.files ≡ None
    free_was = ap (λ (x : Opens). find nat_cmp d x.files) (sym same) ∙ none

    pub there_done : not flags.trunc ≡ true → new ≡ opened_as mid fd d put → (x : Opening) × (judge ≡ Ok x) × IsOpened k o flags x fd k new
    there_done whole is = (There fd file, judged false (when_not flags.trunc whole), (refl, refl, refl, refl, record { number = d; free = free_was; is = is ∙ (λ i. opened_as (same i) fd d (put_is i)) }))

    pub cut_done : not flags.trunc ≡ false → (after : KfsState) (told : Opens) → new ≡ opened_as mid fd d put → told ≡ relengthed new n 0 → (was : ℕ) × (resize_in m (space_in k) n 0 ≡ Ok was) × ResizesTo (was == 0) k n was 0 after
        → (x : Opening) × (judge ≡ Ok x) × IsOpened k o flags x fd after told
    cut_done cut after told is told_is (was, resizes, effect) = (
      Cut fd file was,
      judged true (when flags.trunc cut) ∙ ap (λ r. r >>= λ was. Ok (Cut fd file was)) resizes,
      (refl, effect, record { number = d; free = free_was; is = told_is ∙ ap (λ (x : Opens). relengthed x n 0) (is ∙ (λ i. opened_as (same i) fd d (put_is i))) }),
    )

  pub cut_failed : not flags.trunc ≡ false → (fault : CoreFault) (after : KfsState) → ResizeFails k n 0 fault after → OpenFails k o judge fault after mid
  cut_failed cut (No e) after (denied, rests) =
      (judged true (when flags.trunc cut) ∙ ap (λ r. r >>= λ was. Ok (Cut fd file was)) denied, ap tx_in rests, ap (λ (x : KfsState). x.charge) rests, ap (λ (x : KfsState). x.chunks) rests, same)
  cut_failed cut (Device f) after (stays, inl unread) = (inl unread, ap (λ (x : KfsState). x.charge) stays, ap (λ (x : KfsState). x.chunks) stays, same)
  cut_failed cut (Device f) after (stays, inr (was, resizes, apart, fell)) = (
    inr (inr (fd, file, was, judged true (when flags.trunc cut) ∙ ap (λ r. r >>= λ was. Ok (Cut fd file was)) resizes, apart, fell)),
    ap (λ (x : KfsState). x.charge) stays,
    ap (λ (x : KfsState). x.chunks) stays,
    same,
  )

opened_same : (k mid new : KfsState) (o files : Opens) (flags : Flags) (x : Opening) (fd : ℕ) → IsOpened (same_as k mid) o flags x fd new files → IsOpened k o flags x fd new files
opened_same k mid new o files flags (New w n) fd h = h
opened_same k mid new o files flags (There n found) fd h = h
opened_same k mid new o files flags (Cut n found was) fd h = (h.0, resizes_same k mid new found.it.node was 0 (was == 0) h.1, h.2)

open_same : (k mid new : KfsState) (o files : Opens) (flags : Flags) (judged : Result Opening Errno) (result : Result ℕ CoreFault) → OpenDoes (same_as k mid) o flags judged result new files → OpenDoes k o flags judged result new files
open_same k mid new o files flags judged (Ok fd) h = (h.0, h.1, opened_same k mid new o files flags h.0 fd h.2)
open_same k mid new o files flags judged (Err (No e)) h = h
open_same k mid new o files flags judged (Err (Device f)) h = h

-- what was opened by what a walk found, after a look-up that changed nothing
pub opened_by : (k mid new : KfsState) (o files : Opens) (flags : Flags) (route : Route) (found : Option (ℕ × ℕ × ℕ)) (result : Result ℕ CoreFault) → Same k mid → reach_in (seen (tx_in k)) route ≡ Ok found
    → OpenDoes mid o flags (open_found (seen (tx_in mid)) (space_in mid) o route flags found) result new files → OpenDoes k o flags (open_at_in (seen (tx_in k)) (space_in k) o route flags) result new files
opened_by k mid new o files flags route found result same reach does =
    subst (λ j. OpenDoes k o flags j result new files) (sym (ap (λ r. r >>= λ found. open_found (seen (tx_in k)) (space_in k) o route flags found) reach))
    (open_same k mid new o files flags (open_found (seen (tx_in k)) (space_in k) o route flags found) result
    (subst (λ (x : KfsState). OpenDoes x o flags (open_found (seen (tx_in x)) (space_in x) o route flags found) result new files) same does))
