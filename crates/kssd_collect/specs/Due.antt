-- When a collection is due between calls.
use Rattle.std.specs.Prelude.{◌≡◌, ◌⊎◌, ◌<◌, ℕ, true, is_some}
use Rattle.kssd_values.specs.declared.values.Values.{Values}
use Rattle.kssd_values.specs.Blocks.{open_room, free_count, live_in, IsClosed}
use Rattle.kssd_mounted.specs.declared.mounted.Mounted.{Mounted}

-- a closed block has a dead page
abbrev pub HasVictim : Values → Type 0
HasVictim v = ((block : ℕ) → IsClosed v block → live_in v block ≡ 32) → ⊥

-- one may begin: fewer than three blocks are free, no page of an open block is Erased, and a closed block has a dead page
pub record MayBegin (v : Values) : Type 0 where
  pub few : free_count v < 3
  pub full : open_room v ≡ 0
  pub victim : HasVictim v

-- one is under way, or one may begin
abbrev pub IsCollectionDue : Mounted → Type 0
IsCollectionDue m = (is_some m.collection ≡ true) ⊎ MayBegin m.values
