-- Runs of the machine.
use Rattle.std.specs.Prelude.{◌≡◌, ℕ, List, [], ◌∷◌, take, Result, Ok, Err}
use Rattle.kv_device.specs.declared.fault.DeviceFault.{DeviceFault}
use Rattle.kv_device.specs.Machine.{Machine}
use Rattle.kv_device.specs.Calls.{BeginDone, BeginFault, GetDone, ReadFault, SetDone, SetFault, DeleteDone, DeleteFault, IterateDone, EndDone, EndFault, AbortDone, AbortFault, WorkDone, WorkFault}
use Rattle.kv_device.specs.declared.run.Command.{Command}
use Rattle.kv_device.specs.declared.run.Command.TheVariants.{Begin, Get, Set, Delete, Iterate, End, Abort, Work}
use Rattle.kv_device.specs.declared.run.Reply.{Reply}
use Rattle.kv_device.specs.declared.run.Reply.TheVariants.{Begun, Got, Pairs, Done}

-- From old, the device may answer so and go on to new.
abbrev pub Step : Machine → Command → Result Reply DeviceFault → Machine → Type 0
Step old Begin (Ok (Begun tx)) new = BeginDone old tx.0 new
Step old Begin (Ok reply) new = ⊥
Step old Begin (Err fault) new = BeginFault old fault new
Step old (Get tx key) (Ok (Got value)) new = GetDone old tx.0 key value new
Step old (Get tx key) (Ok reply) new = ⊥
Step old (Get tx key) (Err fault) new = ReadFault old tx.0 fault new
Step old (Set tx key value) (Ok Done) new = SetDone old tx.0 key value new
Step old (Set tx key value) (Ok reply) new = ⊥
Step old (Set tx key value) (Err fault) new = SetFault old tx.0 key value fault new
Step old (Delete tx key) (Ok Done) new = DeleteDone old tx.0 key new
Step old (Delete tx key) (Ok reply) new = ⊥
Step old (Delete tx key) (Err fault) new = DeleteFault old tx.0 key fault new
Step old (Iterate tx from prefix at_most) (Ok (Pairs pairs)) new = IterateDone old tx.0 from prefix at_most pairs new
Step old (Iterate tx from prefix at_most) (Ok reply) new = ⊥
Step old (Iterate tx from prefix at_most) (Err fault) new = ReadFault old tx.0 fault new
Step old (End tx) (Ok Done) new = EndDone old tx.0 new
Step old (End tx) (Ok reply) new = ⊥
Step old (End tx) (Err fault) new = EndFault old tx.0 fault new
Step old (Abort tx) (Ok Done) new = AbortDone old tx.0 new
Step old (Abort tx) (Ok reply) new = ⊥
Step old (Abort tx) (Err fault) new = AbortFault old tx.0 fault new
Step old (Work operations) (Ok Done) new = WorkDone old new
Step old (Work operations) (Ok reply) new = ⊥
Step old (Work operations) (Err fault) new = WorkFault old fault new

-- It may answer these commands so, one after another.
abbrev pub Run : Machine → List Command → List (Result Reply DeviceFault) → Machine → Type 0
Run old [] [] new = new ≡ old
Run old (command ∷ commands) (answer ∷ answers) new = (mid : Machine) × Step old command answer mid × Run mid commands answers new
Run old [] (answer ∷ answers) new = ⊥
Run old (command ∷ commands) [] new = ⊥

-- some first ones of these commands were answered, and no other was asked
abbrev pub RunsPart : Machine → List Command → Machine → Type 0
RunsPart old commands new = (count : ℕ) × (answers : List (Result Reply DeviceFault)) × Run old (take count commands) answers new
