-- What a job reads.
use Rattle.std.specs.Prelude.{ℕ, List}
use Rattle.kv_nand.specs.Flash.{Image}
use Rattle.kssd_entry.specs.declared.entry.Entry.{Entry}
use Rattle.kssd_levels.specs.Runs.{blocks_in}
use Rattle.kssd_levels.specs.Streams.{stream_rest, StandsStream, stream_houses}
use Rattle.kssd_compact.specs.declared.source.Source.{Source}
use Rattle.kssd_compact.specs.declared.source.Source.TheVariants as source
use Rattle.kssd_compact.specs.Inputs.{inputs_rest, StandInputs}

-- the entries still to come
abbrev pub source_rest : Source → Image → List Entry
source_rest (source.Inputs inputs) image = inputs_rest inputs image
source_rest (source.Stream stream) image = stream_rest stream image

-- what is yet to be read stands
abbrev pub StandsSource : Source → ℕ → Image → Type 0
StandsSource (source.Inputs inputs) device image = StandInputs inputs device image
StandsSource (source.Stream stream) device image = StandsStream stream device image

-- the blocks in which it stands
abbrev pub source_houses : Source → List ℕ
source_houses (source.Inputs inputs) = blocks_in inputs.runs
source_houses (source.Stream stream) = stream_houses stream
