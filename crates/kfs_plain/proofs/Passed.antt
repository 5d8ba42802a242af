-- An error on the way is the answer.
use Rattle.std.proofs.Common.{◌≡◌, Result, Ok, Err, refl, ap, sym, subst, ◌∙◌}
use Rattle.std.specs.Prelude.{IsErrAnd}
use Rattle.kfs_path.specs.declared.call.Errno.{Errno}
use Rattle.kfs_path.specs.declared.call.Reply.{Reply}
use Rattle.kfs_model.specs.Ladder.{◌>>=◌}
use Rattle.kfs_model.specs.Step.{World, After}
use Rattle.kfs_plain.specs.declared.fault.Fault.{Fault}
use Rattle.kfs_plain.specs.declared.fault.Fault.TheVariants.{Memory, No}
use Rattle.kfs_plain.specs.Answers.{ErrsAs, Does}

-- what comes after an error is not done
pub does_fault : {Y : Type 0} (w : World) (e : Fault) (given : Result After Errno) (r : Result Y Errno) (f : Y → Result After Errno) → given ≡ (r >>= f) → ErrsAs e r → Does w w (Err e) given
does_fault w Memory given r f is h = refl
does_fault w (No e) given r f is h = (is ∙ ap (λ s. s >>= f) h, refl)

-- an error that was passed on
pub does_passed : {Y : Type 0} (w : World) (e : Fault) (given : Result After Errno) (r : Result Y Errno) (f : Y → Result After Errno) (result : Result Reply Fault) → IsErrAnd result (λ x. x ≡ e) → given ≡ (r >>= f) → ErrsAs e r → Does w w result given
does_passed w e given r f (Ok x) same is h = absurd same
does_passed w e given r f (Err x) same is h = subst (λ y. Does w w (Err y) given) (sym same) (does_fault w e given r f is h)
