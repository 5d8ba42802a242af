-- Adding a group to the log, and turning.
use Rattle.std.specs.Prelude.{◌≡◌, ◌⊎◌, ◌+◌, ◌*◌, ◌/◌, ◌<◌, ◌≤◌, ℕ, suc, List, [], ◌∷◌, ◌++◌, nat_lt, if◌then◌else◌}
use Rattle.std.specs.List.{AllByRecursion}
use Rattle.kv_nand.specs.Flash.{Image, Flash, MayProgram}
use Rattle.kv_nand.specs.Working.{Works, ops_more}
use Rattle.kssd_entry.specs.declared.entry.Entry.{Entry}
use Rattle.kssd_entry.specs.Spelling.{size_of, FitsEntry}
use Rattle.kssd_entry.specs.Packing.{Packed, packed}
use Rattle.kssd_model.specs.Groups.{HasLog}
use Rattle.kssd_log.specs.declared.place.Place.{Place}
use Rattle.kssd_log.specs.Ring.{IsRingPage, IsBehind}

-- so many pages more are begun for these entries, where so many bytes stand in the page that is open
unfoldable pub pages_more : ℕ → List Entry → ℕ
pages_more used [] = 0
pages_more used (e ∷ es) = if nat_lt 4096 (used + size_of e) then suc (pages_more (size_of e) es) else pages_more (used + size_of e) es

-- how many pages a group of these entries fills: each page is closed when the next entry doesn't fit
abbrev pub pages_of : List Entry → ℕ
pages_of entries = pages_more 4096 entries

-- the pages of the block from the place on are Erased, and those before it aren't, as it is where a log ends here; the device has the ring's blocks
pub record IsLogPlace (flash : Flash) (place : Place) : Type 0 where
  pub free : MayProgram flash.image place.page
  pub blocks : 256 ≤ flash.blocks

-- from a page and a number on the image has these groups and then these entries of a group that isn't whole, by so many turns and up to that number at most
pub record HasGroups (image : Image) (page number : ℕ) (groups : List (List Entry)) (rest : List Entry) (most_turns most_next : ℕ) : Type 0 where
  pub turns : ℕ
  pub end : ℕ
  pub next : ℕ
  pub log : HasLog image page number groups rest turns end next
  pub few_turns : turns ≤ most_turns
  pub next_fits : next ≤ most_next

-- each log that ended at the one place ends at the other, so many turns later, with these entries of the group under way. It begins in the ring, and has no page in the blocks that were erased for the turns, since the ring has 18 blocks
abbrev pub Carries : ℕ → Image → Place → List Entry → Image → Place → List Entry → Type 0
Carries moved old place before now after rest =
    (page number turns : ℕ) (groups : List (List Entry)) → IsRingPage page → turns + moved ≤ 17 → HasLog old page number groups before turns place.page place.seq
    → HasLog now page number groups rest (turns + moved) after.page after.seq

-- each log that ended at this place has its groups as before
abbrev pub KeepsGroups : ℕ → ℕ → Image → Place → List Entry → Image → Type 0
KeepsGroups moved pages old place before new =
    (page number turns : ℕ) (groups : List (List Entry)) → IsRingPage page → turns + moved ≤ 17 → HasLog old page number groups before turns place.page place.seq
    → HasGroups new page number groups before (turns + moved) (place.seq + pages + moved)

-- each log that ended at this place without a group under way has this group as its last, and ends at the other place
abbrev pub Appends : ℕ → Image → Place → List Entry → Image → Place → Type 0
Appends moved old place entries new after =
    (page number turns : ℕ) (groups : List (List Entry)) → IsRingPage page → turns + moved ≤ 17 → HasLog old page number groups [] turns place.page place.seq
    → HasLog new page number (groups ++ entries ∷ []) [] (turns + moved) after.page after.seq

-- the group isn't there, though first entries of it may stand behind the others
pub record IsTorn (image : Image) (page number : ℕ) (groups : List (List Entry)) (entries : List Entry) (most_turns most_next : ℕ) : Type 0 where
  pub first : List Entry
  pub others : List Entry
  pub all : first ++ others ≡ entries
  pub has : HasGroups image page number groups first most_turns most_next

-- each log that ended at this place without a group under way has this group as its last, or has its groups as before
abbrev pub MayAppend : ℕ → ℕ → Image → Place → List Entry → Image → Type 0
MayAppend moved pages old place entries new =
    (page number turns : ℕ) (groups : List (List Entry)) → IsRingPage page → turns + moved ≤ 17 → HasLog old page number groups [] turns place.page place.seq
    → IsTorn new page number groups entries (turns + moved) (place.seq + pages + moved)
    ⊎ HasGroups new page number (groups ++ entries ∷ []) [] (turns + moved) (place.seq + pages + moved)

-- pages outside the ring stay
abbrev pub StaysOutside : Image → Image → Type 0
StaysOutside old new = (q : ℕ) → (q < 64) ⊎ (640 ≤ q) → new q ≡ old q

-- a group is under way: some of the entries taken are on the flash, the others in the packer
pub record IsUnderWay (old : Flash) (place : Place) (now : Flash) (at : Place) (packer : Packed) (taken : List Entry) : Type 0 where
  pub done : List Entry
  pub open_ : List Entry
  pub pages : ℕ
  pub moved : ℕ
  pub all : done ++ open_ ≡ taken
  pub packed_is : packer ≡ packed open_
  pub fits : AllByRecursion FitsEntry open_
  pub log : Carries moved old.image place [] now.image at done
  pub outside : StaysOutside old.image now.image
  pub place_is : IsLogPlace now at
  pub behind : IsBehind place pages moved at
  pub works : Works old now (pages + 2 * moved) 0
  pub exact : now.ops ≡ ops_more old (pages + 2 * moved)

-- each log that ends in this block, after at most so many turns that its next block isn't its own, is as before, entries of a group that isn't whole included
abbrev pub KeepsLogs : ℕ → Image → Image → Type 0
KeepsLogs block old new =
    (page number turns end next : ℕ) (groups : List (List Entry)) (rest : List Entry) → IsRingPage page → turns ≤ 16 → end / 32 ≡ block → HasLog old page number groups rest turns end next
    → HasLog new page number groups rest turns end next
