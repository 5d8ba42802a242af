-- What operations on the ring leave.
use Rattle.std.specs.Prelude.{◌≡◌, ◌⊎◌, ◌<◌, ◌≤◌, ◌-◌, ◌*◌, ◌^◌, ℕ, max, List, [], ◌∷◌, ◌++◌, length}
use Rattle.kv_nand.specs.Flash.{Image}
use Rattle.kv_device.specs.Objects.{seen_through}
use Rattle.kssd_layout.specs.Numbers.{max_keys_in, max_pages_in}
use Rattle.kssd_entry.specs.declared.entry.Entry.{Entry}
use Rattle.kssd_model.specs.declared.anchor.Anchor.{Anchor}
use Rattle.kssd_model.specs.Anchors.{newest_in}
use Rattle.kssd_model.specs.Groups.{HasLog, log_in, groups_in, rest_from, turn_count, key_set}
use Rattle.kssd_model.specs.GroupsLaws.{HasBytes}
use Rattle.kssd_model.specs.Rising.{merged}
use Rattle.kssd_image.specs.Stages.{the_anchor, entries_of, log_map, without_marks, merged_by, shown_in, objects_in, changes_of}
use Rattle.kssd_image.specs.AnchorForm.{anchor_age}
use Rattle.kssd_image.specs.Whole.{log_of, IsLogWhole, pages_named, IsIndexOf, AreValuesWhole, IsWhole, age_in}
use Rattle.kssd_frames.specs.Same.{Stays}

-- the groups of an anchor's log
abbrev pub groups_by : Image → Anchor → List (List Entry)
groups_by image anchor = groups_in image (32 * anchor.log_block) anchor.log_seq

-- only pages of the ring may differ, and the newest anchor's log now has these groups, and behind them these entries of a group that isn't whole; it is within its blocks and has few enough keys
pub record HasLogNow (old new : Image) (groups : List (List Entry)) (rest : List Entry) (next : ℕ) : Type 0 where
  pub outside : (page : ℕ) → (page < 64) ⊎ (640 ≤ page) → new page ≡ old page
  pub turns : ℕ
  pub end : ℕ
  pub log : HasLog new (32 * (the_anchor old).log_block) (the_anchor old).log_seq groups rest turns end next
  pub few : turns ≤ 15
  pub numbers : next < 2 ^ 64
  pub keys : length (key_set [] (entries_of groups ++ rest)) ≤ 2048

-- the age of an image whose log ends with this number as the next
abbrev pub aged : Image → ℕ → ℕ
aged image next = max (anchor_age (the_anchor image)) (next - 1)

-- the visible entries after a group of these
abbrev pub shown_after : Image → List Entry → List Entry
shown_after image entries = without_marks (merged entries (shown_in image))

-- what a mount demands of them
pub record IsRoomAfter (blocks : ℕ) (image : Image) (entries : List Entry) : Type 0 where
  pub keys : length (shown_after image entries) ≤ max_keys_in blocks
  pub pages : length (pages_named (shown_after image entries)) ≤ max_pages_in blocks
  pub values : AreValuesWhole blocks image (shown_after image entries)

-- the objects are those before with the changes that the entries make, and a mount takes the image
pub record IsAfter (blocks : ℕ) (old new : Image) (entries : List Entry) : Type 0 where
  pub objects : objects_in new ≡ seen_through (changes_of old entries) (objects_in old)
  pub whole : IsWhole blocks new

-- a group of these entries is in the log
pub record Appends (blocks : ℕ) (old new : Image) (entries : List Entry) (age : ℕ) : Type 0 where
  pub newest : newest_in new ≡ newest_in old
  pub merged_is : merged_by new (the_anchor new) ≡ merged entries (merged_by old (the_anchor old))
  pub shown : shown_in new ≡ shown_after old entries
  pub age_is : age_in new ≡ age
  pub after : IsRoomAfter blocks old entries → IsAfter blocks old new entries

-- where the log has the groups that it had, the objects stay, whatever else the ring holds; where it has one more, they are those after it
pub record LogsTellTheObjects : Type 0 where
  pub same : (blocks : ℕ) (old new : Image) (rest : List Entry) (next : ℕ) → IsWhole blocks old → HasLogNow old new (groups_by old (the_anchor old)) rest next → Stays blocks old new (aged old next)
  pub more : (blocks : ℕ) (old new : Image) (entries rest : List Entry) (next : ℕ) → IsWhole blocks old → HasLogNow old new (groups_by old (the_anchor old) ++ entries ∷ []) rest next → Appends blocks old new entries (aged old next)
  pub stands : (blocks : ℕ) (image : Image) (anchor : Anchor) → HasBytes image → IsIndexOf blocks image anchor
      → HasLog image (32 * anchor.log_block) anchor.log_seq (groups_by image anchor) (rest_from [] (log_of image anchor).pages) (turn_count (log_of image anchor).pages) (log_of image anchor).end (log_of image anchor).next
  pub keys : (blocks : ℕ) (image : Image) (anchor : Anchor) → IsIndexOf blocks image anchor → length (key_set [] (entries_of (groups_by image anchor) ++ rest_from [] (log_of image anchor).pages)) ≤ 2048

-- what a log has, as equations on functions of the image
pub record IsLogOf (image : Image) (page number : ℕ) (groups : List (List Entry)) (rest : List Entry) (turns end next : ℕ) : Type 0 where
  pub groups_are : groups_in image page number ≡ groups
  pub rest_is : rest_from [] (log_in image page number).pages ≡ rest
  pub turns_are : turn_count (log_in image page number).pages ≡ turns
  pub end_is : (log_in image page number).end ≡ end
  pub next_is : (log_in image page number).next ≡ next
  pub map_is : log_map image page number ≡ merged (entries_of groups) []

-- each log is so; a mount takes it where it has few turns and keys; and the map of later groups stands over that of earlier ones
pub record LogsAreMaps : Type 0 where
  pub is : (image : Image) (page number : ℕ) (groups : List (List Entry)) (rest : List Entry) (turns end next : ℕ) → HasLog image page number groups rest turns end next → next < 2 ^ 64 → IsLogOf image page number groups rest turns end next
  pub whole : (image : Image) (page number : ℕ) (groups : List (List Entry)) (rest : List Entry) (turns end next : ℕ) → HasLog image page number groups rest turns end next → turns ≤ 15 → next < 2 ^ 64 → length (key_set [] (entries_of groups ++ rest)) ≤ 2048 → IsLogWhole image (log_in image page number)
  pub over : (early late : List (List Entry)) → merged (entries_of (early ++ late)) [] ≡ merged (merged (entries_of late) []) (merged (entries_of early) [])

-- as many different keys as entries when they are put in order over nothing, and no more in the first of them than in all
pub record KeysAreCounted : Type 0 where
  pub entries : (entries : List Entry) → length (key_set [] entries) ≡ length (merged entries [])
  pub first : (xs ys : List Entry) → length (key_set [] xs) ≤ length (key_set [] (xs ++ ys))
