-- Laws of runs.
use Rattle.std.proofs.Common.{subst, refl, List, [], ◌∷◌, ◌++◌, Result}
use Rattle.kv_device.specs.declared.fault.DeviceFault.{DeviceFault}
use Rattle.kv_device.specs.Machine.{Machine}
use Rattle.kv_device.specs.declared.run.Command.{Command}
use Rattle.kv_device.specs.declared.run.Reply.{Reply}
use Rattle.kv_device.specs.Run.{Step, Run}

-- a run goes on by one step
pub Run-more : (old mid new : Machine) (commands : List Command) (answers : List (Result Reply DeviceFault)) (command : Command) (answer : Result Reply DeviceFault)
    → Run old commands answers mid → Step mid command answer new → Run old (commands ++ command ∷ []) (answers ++ answer ∷ []) new
Run-more old mid new [] [] command answer r s = (new, subst (λ m. Step m command answer new) r s, refl)
Run-more old mid new [] (a ∷ answers) command answer r s = absurd r
Run-more old mid new (c ∷ commands) [] command answer r s = absurd r
Run-more old mid new (c ∷ commands) (a ∷ answers) command answer r s = (r.0, r.1, Run-more r.0 mid new commands answers command answer r.2 s)
