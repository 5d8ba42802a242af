-- What a scan of the log answers.
use Rattle.std.specs.Prelude.{◌≡◌, ◌≤◌, ◌<◌, ◌+◌, ◌*◌, ◌%◌, ◌/◌, ◌==◌, ℕ, List, [], length, if◌then◌else◌}
use Rattle.kv_nand.specs.Flash.{Image, Flash}
use Rattle.kv_nand.specs.Working.{Works, Stops}
use Rattle.kv_nand.specs.declared.fault.FlashFault.TheVariants as flash_faults
use Rattle.kssd_entry.specs.declared.entry.Entry.{Entry}
use Rattle.kssd_entry.specs.declared.page.PageEntries.{PageEntries}
use Rattle.kssd_entry.specs.Spelling.{IsPageOf}
use Rattle.kssd_log.specs.declared.scanning.Look.{Look}
use Rattle.kssd_log.specs.declared.scanning.Look.TheVariants as looks
use Rattle.kssd_log.specs.declared.found.Scan.{Scan}
use Rattle.kssd_log.specs.declared.fault.ScanFault.{ScanFault}
use Rattle.kssd_log.specs.declared.fault.ScanFault.TheVariants as scans
use Rattle.kssd_model.specs.Groups.{LogPage, LogSeen, Ends, Holds, Broken, next_block, Path, HasLog, turn_count, groups_from, rest_from, groups_in, log_head, log_bytes, Stands, StandAll, logged, key_set, AreAllowed, IsDamaged}

-- a page that was read, as a page of the log
abbrev pub log_page : PageEntries → LogPage
log_page p = record { flags = p.head.flags; entries = p.entries }

-- what was found in a page, as it is seen there
abbrev pub look_seen : Look → LogSeen
look_seen looks.Ends = Ends
look_seen (looks.Holds p) = Holds (log_page p)
look_seen looks.Broken = Broken

-- what was read of a page that the log has is what stands there in its spelling
abbrev pub LookStands : Image → ℕ → ℕ → Look → Type 0
LookStands image page number (looks.Holds p) = Stands image page number (log_page p)
LookStands image page number looks.Ends = Unit {0}
LookStands image page number looks.Broken = Unit {0}

-- the same of the bytes of a page
abbrev pub LookSpelled : ℕ → ℕ → List ℕ → Look → Type 0
LookSpelled page number bytes (looks.Holds p) = (bytes ≡ log_bytes number (log_page p)) × IsPageOf 2 (log_head p.head.flags number) p.entries × (page % 32 ≡ 31 → p.head.flags ≡ 2)
LookSpelled page number bytes looks.Ends = Unit {0}
LookSpelled page number bytes looks.Broken = Unit {0}

-- how many turn pages a page of these flags is
abbrev pub turns_of : ℕ → ℕ
turns_of flags = if flags == 2 then 1 else 0

-- where the log goes on behind a page of these flags
abbrev pub place_behind : ℕ → ℕ → ℕ
place_behind page flags = if flags == 2 then 32 * next_block (page / 32) else page + 1

-- the log that stands there, with nothing for a mount to refuse, and what the scan says of it
pub record IsScan (image : Image) (page number : ℕ) (s : Scan) : Type 0 where
  pub rest : List Entry
  pub turns : ℕ
  pub end : ℕ
  pub log : HasLog image page number s.groups rest turns end s.next_seq
  pub allowed : AreAllowed log.pages
  pub groups : s.groups ≡ groups_in image page number
  pub block : s.last_block ≡ end / 32
  pub counted : s.next_seq ≡ number + length log.pages

-- why a scan answers a fault, and what it leaves of the flash; it reads 513 pages at most, those of 16 blocks and one more
abbrev pub FailsScanning : Flash → ℕ → ℕ → ScanFault → Flash → Type 0
FailsScanning old page number (scans.Bad at) new = IsDamaged old.image page number at × Works old new 0 513
FailsScanning old page number scans.Off new = Stops old flash_faults.Off new 0 513
FailsScanning old page number scans.Failed new = Stops old flash_faults.Failed new 0 513
FailsScanning old page number scans.Memory new = Stops old flash_faults.Memory new 0 513

-- the pages read so far hold these groups, entries and keys
pub record IsScanning (image : Image) (page number : ℕ) (groups : List (List Entry)) (rest : List Entry) (keys : List (List ℕ)) (turns at next : ℕ) : Type 0 where
  pub pages : List LogPage
  pub path : Path image page number pages at next
  pub groups_are : groups_from [] pages ≡ groups
  pub rest_is : rest_from [] pages ≡ rest
  pub keys_are : key_set [] (logged pages) ≡ keys
  pub turns_are : turn_count pages ≡ turns
  pub allowed : AreAllowed pages
  pub stand : StandAll image page number pages
  pub low : 64 ≤ at
  pub high : at < 640
  pub few : turns ≤ 16
  pub last : turns ≡ 16 → at % 32 ≡ 0
  pub least : number ≤ next
  pub counted : next ≤ number + 32 * turns + at % 32
