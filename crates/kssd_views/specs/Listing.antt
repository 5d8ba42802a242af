-- Pairs that are listed from two sources of entries by rising keys.
use Rattle.std.specs.Prelude.{◌≡◌, ℕ, Bool, not, ◌&&◌, nat_eq, List, [], ◌∷◌, map, Option, Some, None}
use Rattle.std.specs.List.{starts_with}
use Rattle.std.specs.Ordering.{is_lt}
use Rattle.kv_base.specs.declared.pairs.Pair.{Pair}
use Rattle.kv_nand.specs.Flash.{Image}
use Rattle.kv_device.specs.Objects.{pair_of}
use Rattle.kssd_entry.specs.declared.entry.Entry.{Entry}
use Rattle.kssd_model.specs.Rising.{key_cmp, merged}
use Rattle.kssd_image.specs.Stages.{without_marks, object_in}
use Rattle.kssd_merge.specs.declared.listed.Listed.{Listed}
use Rattle.kssd_merge.specs.Listed.{listed_rest}
use Rattle.kssd_levels.specs.declared.stream.Stream.{Stream}
use Rattle.kssd_levels.specs.Streams.{stream_rest}
use Rattle.kssd_machine.specs.Viewing.{with_prefix}

-- the entries that are still to come, own ones over those of the index, without marks
abbrev pub left_in : Image → Listed → Stream → List Entry
left_in image own shown = without_marks (merged (listed_rest own) (stream_rest shown image))

-- a key is behind all keys that begin with the prefix
abbrev pub is_past : List ℕ → List ℕ → Bool
is_past prefix key = is_lt (key_cmp prefix key) && not (starts_with nat_eq key prefix)

-- the first entry and those that are left; nothing where there were none
abbrev pub IsFirst : List Entry → Option Entry → List Entry → Type 0
IsFirst before None after = before ≡ []
IsFirst before (Some e) after = before ≡ e ∷ after

-- their keys with their values, of those with a prefix
abbrev pub pairs_left : Image → List ℕ → List Entry → List (List ℕ × List ℕ)
pairs_left image prefix entries = map (object_in image) (with_prefix prefix entries)

-- the first pair and those that are left; nothing where there were none
abbrev pub IsFirstPair : List (List ℕ × List ℕ) → Option Pair → List (List ℕ × List ℕ) → Type 0
IsFirstPair before None after = before ≡ []
IsFirstPair before (Some pair) after = before ≡ pair_of pair ∷ after
