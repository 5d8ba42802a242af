-- What reading a script to its end gives.
use Rattle.std.specs.Prelude.{ℕ, ◌≡◌, ◌<◌, List, length, Option}
use Rattle.kfs_runner.specs.declared.reading.Unread.{Unread}
use Rattle.kfs_runner.specs.declared.reading.Unread.TheVariants.{Failed, TooLong, Memory}
use Rattle.kfs_runner.specs.declared.outside.OutsideFault.{OutsideFault}
use Rattle.kfs_runner.specs.declared.outside.OutsideFault.TheVariants as faults
use Rattle.kfs_runner.specs.Outside.{HasRisen, Gives}

-- the greatest number of bytes of a script
abbrev pub script_limit : ℕ
script_limit = 16777216

-- what the source gave is longer than a script may be
abbrev pub GivesTooMuch : Option (List ℕ) → Option (List ℕ) → Type 0
GivesTooMuch before now = (given : List ℕ) × Gives before given now × (script_limit < length given)

-- why the script was not read to its end: the source's bytes and faults before, the cause, and both now; the
-- source failed exactly where that is told
abbrev pub StopsReading : Option (List ℕ) → ℕ → Unread → Option (List ℕ) → ℕ → Type 0
StopsReading before count Failed now count_now = HasRisen count count_now
StopsReading before count TooLong now count_now = GivesTooMuch before now × (count_now ≡ count)
StopsReading before count Memory now count_now = count_now ≡ count

abbrev pub unread_of : OutsideFault → Unread
unread_of faults.Failed = Failed
unread_of faults.Memory = Memory
