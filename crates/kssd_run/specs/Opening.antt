-- Opening a run page by page.
use Rattle.std.specs.Prelude.{◌≡◌, ℕ, Bool, true, false, List, Option, None, Some}
use Rattle.kv_nand.specs.Flash.{Flash, Image}
use Rattle.kv_nand.specs.declared.fault.FlashFault.TheVariants as flash
use Rattle.kssd_entry.specs.declared.entry.Entry.{Entry}
use Rattle.kssd_model.specs.declared.runs.RunInfo.{RunInfo}
use Rattle.kssd_model.specs.OnlyReading.{OnlyReads, StopsReading}
use Rattle.kssd_model.specs.RunPages.{IsBadRunAt, IsFirstBad, IsMiscounted}
use Rattle.kssd_run.specs.declared.fault.RunFault.{RunFault}
use Rattle.kssd_run.specs.declared.fault.RunFault.TheVariants as run
use Rattle.kssd_run.specs.Judging.{is_good_after}
use Rattle.kssd_run.specs.Page.{HasEntries}

-- what a page says is there, and isn't damaged behind the entries before it
pub record IsNextPage (page : Option (List Entry)) (before : List Entry) (in_base : Bool) (entries : List Entry) : Type 0 where
  pub is : page ≡ Some entries
  pub good : is_good_after before entries in_base ≡ true
  pub some : HasEntries entries

-- whether it is there and isn't damaged
abbrev pub is_next : Option (List Entry) → List Entry → Bool → Bool
is_next None before in_base = false
is_next (Some entries) before in_base = is_good_after before entries in_base

-- a fault of the flash or of memory, or the page is damaged
abbrev pub NextFails : Option (List Entry) → List Entry → Bool → ℕ → Flash → RunFault → Flash → Type 0
NextFails page before in_base place old (run.Bad at) new = (is_next page before in_base ≡ false) × (at ≡ place) × OnlyReads old new
NextFails page before in_base place old run.Off new = StopsReading old flash.Off new
NextFails page before in_base place old run.Failed new = StopsReading old flash.Failed new
NextFails page before in_base place old run.Memory new = StopsReading old flash.Memory new

-- why a run isn't opened
abbrev pub OpenFails : RunInfo → Flash → RunFault → Flash → Type 0
OpenFails info old (run.Bad at) new = IsBadRunAt old.image info at × OnlyReads old new
OpenFails info old run.Off new = StopsReading old flash.Off new
OpenFails info old run.Failed new = StopsReading old flash.Failed new
OpenFails info old run.Memory new = StopsReading old flash.Memory new

-- why page i isn't taken
abbrev pub AddFails : RunInfo → ℕ → Flash → RunFault → Flash → Type 0
AddFails info i old (run.Bad at) new = IsFirstBad old.image info i at × OnlyReads old new
AddFails info i old run.Off new = StopsReading old flash.Off new
AddFails info i old run.Failed new = StopsReading old flash.Failed new
AddFails info i old run.Memory new = StopsReading old flash.Memory new

-- the entries differ in number, or memory ran out
abbrev pub EndFails : RunInfo → Image → RunFault → Type 0
EndFails info image (run.Bad at) = IsMiscounted image info at
EndFails info image run.Off = ⊥
EndFails info image run.Failed = ⊥
EndFails info image run.Memory = Unit {0}
