-- What a function returned is what a definition gives, unless memory ran out.
use Rattle.std.specs.Prelude.{◌≡◌, Result, Ok, Err}
use Rattle.kfs_path.specs.declared.call.Errno.{Errno}
use Rattle.kfs_path.specs.declared.call.Reply.{Reply}
use Rattle.kfs_model.specs.Step.{World, After}
use Rattle.kfs_plain.specs.declared.fault.Fault.{Fault}
use Rattle.kfs_plain.specs.declared.fault.Fault.TheVariants.{Memory, No}

-- an error is the definition's; want of memory says nothing
abbrev pub ErrsAs : {Y : Type 0} → Fault → Result Y Errno → Type 0
ErrsAs Memory given = Unit {0}
ErrsAs (No e) given = given ≡ Err e

-- the value, seen by view, is the definition's
abbrev pub AnswersAs : {X Y : Type 0} → (X → Y) → Result X Fault → Result Y Errno → Type 0
AnswersAs view (Ok x) given = given ≡ Ok (view x)
AnswersAs view (Err e) given = ErrsAs e given

-- A call that answered so, and left new, did what the definition gives. An error or want of memory
-- changes nothing.
abbrev pub Does : World → World → Result Reply Fault → Result After Errno → Type 0
Does old new (Ok reply) given = given ≡ Ok (record { world = new; reply = reply })
Does old new (Err (No e)) given = (given ≡ Err e) × (new ≡ old)
Does old new (Err Memory) given = new ≡ old
