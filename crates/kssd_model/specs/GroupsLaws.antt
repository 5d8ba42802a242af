-- Laws on the log: its pages and their spelling, its groups as a function, and what a mount refuses of it.
use Rattle.std.specs.Prelude.{◌≡◌, ◌/◌, ◌*◌, ◌≤◌, ◌+◌, ◌<◌, ◌^◌, ℕ, List, length}
use Rattle.kv_nand.specs.Flash.{Image, Erased, Whole, MayProgram}
use Rattle.kssd_entry.specs.declared.entry.Entry.{Entry}
use Rattle.kssd_entry.specs.Reading.{AreBytes}
use Rattle.kssd_model.specs.Groups.{LogPage, Holds, seen, Path, HasLog, log_in, groups_in, Stands, StandAll, AreAllowed, IsDamaged}

-- each whole page has its 4,160 bytes
abbrev pub HasBytes : Image → Type 0
HasBytes image = (q : ℕ) (bytes : List ℕ) → image q ≡ Whole bytes → (length bytes ≡ 4160) × AreBytes bytes

-- pages of the log are seen exactly where they stand in their spelling
pub record PagesStandInTheirSpelling : Type 0 where
  pub seen_again : (image : Image) (page number : ℕ) (x : LogPage) → Stands image page number x → seen page number (image page) ≡ Holds x
  pub spelled : (image : Image) (page number : ℕ) (x : LogPage) → HasBytes image → seen page number (image page) ≡ Holds x → Stands image page number x
  pub path_spelled : (image : Image) (page number : ℕ) (pages : List LogPage) (end next : ℕ) → HasBytes image → Path image page number pages end next → StandAll image page number pages

-- a log whose numbers have 64 bits is the only one from its place on, has the groups that the image has, and its number rises by one for each page
pub record GroupsAreThoseOfTheLog : Type 0 where
  pub groups : (image : Image) (page number : ℕ) (groups : List (List Entry)) (rest : List Entry) (turns end next : ℕ) → HasLog image page number groups rest turns end next → next < 2 ^ 64 → groups_in image page number ≡ groups
  pub numbers : (image : Image) (page number : ℕ) (pages : List LogPage) (end next : ℕ) → Path image page number pages end next → number + length pages ≡ next

-- the page before which a log ends may be programmed where it and those behind it in its block are Erased
abbrev pub LogsGoOn : Type 0
LogsGoOn = (image : Image) (block number : ℕ) (pages : List LogPage) (end next : ℕ) → Path image (32 * block) number pages end next → ((q : ℕ) → q / 32 ≡ end / 32 → end ≤ q → image q ≡ Erased) → MayProgram image end

-- a log depends on the pages of the ring alone
abbrev pub LogsStayInTheRing : Type 0
LogsStayInTheRing = (old new : Image) (page number : ℕ) → ((q : ℕ) → 64 ≤ q → q < 640 → new q ≡ old q) → 64 ≤ page → page < 640 → log_in new page number ≡ log_in old page number

-- a mount refuses at most one page of a log, and none of a log that it takes
pub record DamageIsOnePage : Type 0 where
  pub one : (image : Image) (page number first second : ℕ) → IsDamaged image page number first → IsDamaged image page number second → first ≡ second
  pub none : (image : Image) (page number at : ℕ) (groups : List (List Entry)) (rest : List Entry) (turns end next : ℕ) → (log : HasLog image page number groups rest turns end next) → AreAllowed log.pages → IsDamaged image page number at → ⊥
