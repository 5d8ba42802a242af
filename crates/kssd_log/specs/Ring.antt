-- The place in the ring where the log goes on.
use Rattle.std.specs.Prelude.{◌≡◌, ◌+◌, ◌-◌, ◌*◌, ◌/◌, ◌%◌, ◌<◌, ◌≤◌, ◌==◌, ℕ, if◌then◌else◌}
use Rattle.kssd_log.specs.declared.place.Place.{Place}
use Rattle.kssd_model.specs.Groups.{next_block}

-- a page of the ring's blocks, which are 2 to 19
pub record IsRingPage (page : ℕ) : Type 0 where
  pub low : 64 ≤ page
  pub high : page < 640

-- what holds of each place: its page lies in the ring, and at most 8 blocks are left
pub record IsInRing (place : Place) : Type 0 where
  pub page : IsRingPage place.page
  pub few : place.blocks ≤ 8

-- page 0 of a block, with 8 blocks left, the first of which is this one
abbrev pub begun : ℕ → ℕ → Place
begun block seq = record { page = 32 * block; seq = seq; blocks = 8 }

-- how many pages of groups fit into the blocks that are left: page 31 of each is for a turn
abbrev pub room_of : Place → ℕ
room_of place = 31 * place.blocks - place.page % 32

-- the place behind a page of a group
abbrev pub paged : Place → Place
paged place = record { page = place.page + 1; seq = place.seq + 1; blocks = place.blocks }

-- the place behind a turn page: page 0 of the next ring block
abbrev pub turned : Place → Place
turned place = record { page = 32 * next_block (place.page / 32); seq = place.seq + 1; blocks = place.blocks - 1 }

-- a turn is due where page 31 is next
abbrev pub turns_due : Place → ℕ
turns_due place = if place.page % 32 == 31 then 1 else 0

-- how many turns come before and among so many pages of a group
abbrev pub turns_for : Place → ℕ → ℕ
turns_for place pages = (place.page % 32 + pages - 1) / 31

-- a place is behind another one by so many pages and turns
pub record IsBehind (old : Place) (pages turns : ℕ) (new : Place) : Type 0 where
  pub room : room_of new + pages ≡ room_of old
  pub blocks : new.blocks + turns ≡ old.blocks
  pub number : new.seq ≡ old.seq + pages + turns
