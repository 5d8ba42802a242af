-- What is seen of entries.
use Rattle.std.specs.Prelude.{ℕ, List, Option, option_map}
use Rattle.kv_nand.specs.Flash.{Image}
use Rattle.kssd_entry.specs.declared.entry.Entry.{Entry}
use Rattle.kssd_frames.specs.Merging.{unmarked}
use Rattle.kssd_image.specs.Stages.{value_in}

-- the value of an entry that was found, none of a deletion mark
abbrev pub seen_value : Image → Option Entry → Option (List ℕ)
seen_value image found = option_map (value_in image) (unmarked found)
