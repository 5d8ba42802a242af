-- A list in memory and runs that are read as one.
use Rattle.std.specs.Prelude.{ℕ, List, [], ◌++◌}
use Rattle.kv_nand.specs.Flash.{Image}
use Rattle.kssd_entry.specs.declared.entry.Entry.{Entry}
use Rattle.kssd_levels.specs.declared.stream.Stream.{Stream}
use Rattle.kssd_levels.specs.Two.{two_rest, StandsTwo}
use Rattle.kssd_levels.specs.Six.{list_rest, list_stands, rest_of_six, six_stand, six_houses}

-- the entries still to come, by the pages of an image
abbrev pub stream_rest : Stream → Image → List Entry
stream_rest stream image = two_rest list_rest rest_of_six stream.nest image

-- the pages that are yet to be read stand in an image of so many blocks
abbrev pub StandsStream : Stream → ℕ → Image → Type 0
StandsStream stream device image = StandsTwo list_rest rest_of_six list_stands six_stand stream.nest device image

-- the blocks in which they stand
abbrev pub stream_houses : Stream → List ℕ
stream_houses stream = [] ++ six_houses stream.nest.older
