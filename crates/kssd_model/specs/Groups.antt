-- The log on the flash: its pages from a place on, and the groups that they hold.
use Rattle.std.specs.Prelude.{◌≡◌, ◌≢◌, ◌⊎◌, ◌+◌, ◌*◌, ◌/◌, ◌%◌, ◌==◌, ◌^◌, ◌<◌, ◌≤◌, ℕ, zero, suc, Bool, not, ◌&&◌, List, [], ◌∷◌, ◌++◌, drop, length, Result, Ok, Err, if◌then◌else◌}
use Rattle.std.specs.List.{flat_map}
use Rattle.std.specs.Ordering.{nat_cmp}
use Rattle.std.specs.Cmp.Lexicographic.{slice_cmp}
use Rattle.std.specs.BTreeSet.{insert_key}
use Rattle.kv_nand.specs.Flash.{Image, PageState, Erased, Whole, Cut}
use Rattle.kssd_entry.specs.declared.entry.Entry.{Entry}
use Rattle.kssd_entry.specs.declared.fault.PageFault.{PageFault}
use Rattle.kssd_entry.specs.declared.packer.PageHead.{PageHead}
use Rattle.kssd_entry.specs.Spelling.{key_of, page_of, IsPageOf}
use Rattle.kssd_entry.specs.Reading.{head_in, page_at}

-- a page of the log: flags 0 inside a group, 1 for its last page, 2 for a turn page
pub record LogPage : Type 0 where
  pub flags : ℕ
  pub entries : List Entry

-- what stands where the page of a number is looked for
pub data LogSeen : Type 0 where
  Ends : LogSeen
  Holds : LogPage → LogSeen
  Broken : LogSeen

-- in page 31 of a block a page that is no turn page is outside the format
abbrev pub seen_in : ℕ → Result (PageHead × List Entry) PageFault → LogSeen
seen_in page (Err fault) = Broken
seen_in page (Ok x) = if (page % 32 == 31) && not (x.0.flags == 2) then Broken else Holds (record { flags = x.0.flags; entries = x.1 })

-- whether a whole page is a log page of this number, in the format or not
abbrev pub is_numbered : ℕ → List ℕ → Bool
is_numbered number bytes = ((head_in (drop 4096 bytes)).kind == 2) && ((head_in (drop 4096 bytes)).number == number)

-- a page that isn't a whole log page of this number ends the log
abbrev pub seen : ℕ → ℕ → PageState → LogSeen
seen page number Erased = Ends
seen page number Cut = Ends
seen page number (Whole bytes) = if is_numbered number bytes then seen_in page (page_at 2 bytes) else Ends

-- after ring block 19 comes block 2
abbrev pub next_block : ℕ → ℕ
next_block block = if block == 19 then 2 else block + 1

-- where the log goes on: behind a turn page in page 0 of the next ring block
abbrev pub next_place : ℕ → LogPage → ℕ
next_place page x = if x.flags == 2 then 32 * next_block (page / 32) else page + 1

-- from a page and a number on the log has these pages, and comes to that page and that number, which rises by one for each page
abbrev pub Path : Image → ℕ → ℕ → List LogPage → ℕ → ℕ → Type 0
Path image page number [] end next = (end ≡ page) × (next ≡ number)
Path image page number (x ∷ xs) end next = (seen page number (image page) ≡ Holds x) × Path image (next_place page x) (number + 1) xs end next

-- the groups whose last page is there, oldest first, where entries of a group under way come before
abbrev pub groups_from : List Entry → List LogPage → List (List Entry)
groups_from pending [] = []
groups_from pending (x ∷ xs) = if x.flags == 1 then (pending ++ x.entries) ∷ groups_from [] xs else groups_from (pending ++ x.entries) xs

-- the entries behind the last whole group
abbrev pub rest_from : List Entry → List LogPage → List Entry
rest_from pending [] = pending
rest_from pending (x ∷ xs) = if x.flags == 1 then rest_from [] xs else rest_from (pending ++ x.entries) xs

-- how many turn pages there are
abbrev pub turn_count : List LogPage → ℕ
turn_count [] = 0
turn_count (x ∷ xs) = (if x.flags == 2 then 1 else 0) + turn_count xs

-- the spare bytes of a page of the log
abbrev pub log_head : ℕ → ℕ → PageHead
log_head flags number = record { kind = 2; flags = flags; number = number; index = 0 }

-- the one spelling of a page of the log
abbrev pub log_bytes : ℕ → LogPage → List ℕ
log_bytes number x = page_of (log_head x.flags number) x.entries

-- this page stands there in its spelling
pub record Stands (image : Image) (page number : ℕ) (x : LogPage) : Type 0 where
  pub bytes : image page ≡ Whole (log_bytes number x)
  pub form : IsPageOf 2 (log_head x.flags number) x.entries
  pub turns : page % 32 ≡ 31 → x.flags ≡ 2

-- these pages stand one after the other in their spelling
abbrev pub StandAll : Image → ℕ → ℕ → List LogPage → Type 0
StandAll image page number [] = Unit {0}
StandAll image page number (x ∷ xs) = Stands image page number x × StandAll image (next_place page x) (number + 1) xs

-- the log from a page and a number on, page by page in its spelling: its whole groups, the entries behind the last of them, its turn pages, and the page and number before which it ends
pub record HasLog (image : Image) (page number : ℕ) (groups : List (List Entry)) (rest : List Entry) (turns end next : ℕ) : Type 0 where
  pub pages : List LogPage
  pub path : Path image page number pages end next
  pub stand : StandAll image page number pages
  pub ends : seen end next (image end) ≡ Ends
  pub groups_are : groups_from [] pages ≡ groups
  pub rest_is : rest_from [] pages ≡ rest
  pub turns_are : turn_count pages ≡ turns

-- no page of the log lies in this block
abbrev pub Avoids : ℕ → ℕ → List LogPage → Type 0
Avoids block page [] = Unit {0}
Avoids block page (x ∷ xs) = (page / 32 ≢ block) × Avoids block (next_place page x) xs

-- ---- the same as functions of the image

-- the pages of a log, and the page and the number before which it ends
pub record Walk : Type 0 where
  pub pages : List LogPage
  pub end : ℕ
  pub next : ℕ

-- a log without pages
abbrev pub stop : ℕ → ℕ → Walk
stop page number = record { pages = []; end = page; next = number }

-- a log with one page before
abbrev pub with_first : LogPage → Walk → Walk
with_first x w = record { pages = x ∷ w.pages; end = w.end; next = w.next }

-- at most so many pages of the log
unfoldable pub walk : ℕ → Image → ℕ → ℕ → Walk
walk zero image page number = stop page number
walk (suc most) image page number = elim (seen page number (image page)) [
  | Ends ↦ stop page number
  | Broken ↦ stop page number
  | Holds x ↦ with_first x (walk most image (next_place page x) (number + 1))
]

-- all of them, since no number has more than 64 bits
unfoldable pub log_in : Image → ℕ → ℕ → Walk
log_in image page number = walk (2 ^ 64) image page number

-- the whole groups from a page and a number on, oldest first
abbrev pub groups_in : Image → ℕ → ℕ → List (List Entry)
groups_in image page number = groups_from [] (log_in image page number).pages

-- ---- what a mount refuses of a log

-- all entries of these pages
abbrev pub logged : List LogPage → List Entry
logged xs = flat_map (λ x. x.entries) xs

-- these keys and those of the entries, each once and in order
abbrev pub key_set : List (List ℕ) → List Entry → List (List ℕ)
key_set keys [] = keys
key_set keys (e ∷ es) = key_set (insert_key (slice_cmp nat_cmp) keys (key_of e)) es

-- how many different keys the entries of these pages have
abbrev pub different_keys : List LogPage → ℕ
different_keys xs = length (key_set [] (logged xs))

-- behind so many turns, each of these pages stands within the log's first 16 blocks
abbrev pub WithinBlocks : ℕ → List LogPage → Type 0
WithinBlocks turns [] = Unit {0}
WithinBlocks turns (x ∷ xs) = (turns < 16) × WithinBlocks (turns + (if x.flags == 2 then 1 else 0)) xs

-- pages that a mount takes: within 16 blocks, and with at most 2,048 different keys
pub record AreAllowed (pages : List LogPage) : Type 0 where
  pub blocks : WithinBlocks 0 pages
  pub keys : different_keys pages ≤ 2048

-- why a mount refuses the page behind these: it is outside the format, past the log's 16 blocks, or brings the different keys above 2,048
abbrev pub IsRefused : ℕ → List LogPage → LogSeen → Type 0
IsRefused turns pages Ends = ⊥
IsRefused turns pages Broken = Unit {0}
IsRefused turns pages (Holds x) = (16 ≤ turns) ⊎ (2048 < different_keys (pages ++ x ∷ []))

-- the first page of a log that a mount refuses
pub record IsDamaged (image : Image) (page number at : ℕ) : Type 0 where
  pub pages : List LogPage
  pub next : ℕ
  pub path : Path image page number pages at next
  pub before : AreAllowed pages
  pub cause : IsRefused (turn_count pages) pages (seen at next (image at))
