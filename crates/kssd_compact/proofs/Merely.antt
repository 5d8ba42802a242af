-- Facts that have one proof at most.
use Rattle.std.proofs.Common.{◌≡◌, ℕ, Bool, List, Option, Some, None}
use Rattle.std.specs.List.{AllByRecursion-prop, IsDistinct-prop}
use Rattle.std.specs.Coded.{Unit-prop}
use Rattle.std.proofs.Props.{props}
use Rattle.kv_nand.specs.Flash.{Image}
use Rattle.kssd_entry.specs.declared.entry.Entry.{Entry}
use Rattle.kssd_model.specs.RunPages.{AreRunBlocks}
use Rattle.kssd_merge.specs.declared.listed.Listed.{Listed}
use Rattle.kssd_run.specs.declared.reader.Run.{Run}
use Rattle.kssd_run.specs.Run.{StandsRun}
use Rattle.kssd_levels.specs.declared.reader.RunReader.{RunReader}
use Rattle.kssd_levels.specs.declared.two.Two.{Two}
use Rattle.kssd_levels.specs.declared.stream.Stream.{Stream}
use Rattle.kssd_levels.specs.Runs.{StandRuns}
use Rattle.kssd_levels.specs.Reader.{StandsIn, StandsReader, reader_rest}
use Rattle.kssd_levels.specs.Two.{StandsTwo}
use Rattle.kssd_levels.specs.Six.{list_rest, list_stands, OneRun, TwoRuns, ThreeRuns, FourRuns, FiveRuns, SixRuns, rest_of_one, rest_of_two, rest_of_three, rest_of_four, rest_of_five, rest_of_six, one_stand, two_stand, three_stand, four_stand, five_stand, six_stand}
use Rattle.kssd_levels.specs.Streams.{StandsStream}
use Rattle.kssd_compact.specs.declared.source.Source.{Source}
use Rattle.kssd_compact.specs.declared.source.Source.TheVariants as source
use Rattle.kssd_compact.specs.Source.{StandsSource}

pub entries-prop : (xs ys : List Entry) → IsProp (xs ≡ ys)
entries-prop xs ys = Prim.hlevel props

pub bools-prop : (a b : Bool) → IsProp (a ≡ b)
bools-prop a b = Prim.hlevel props

pub run-prop : (run : Run) (device : ℕ) (image : Image) → IsProp (StandsRun run device image)
run-prop run device image = Prim.hlevel props

pub run_blocks-prop : (device : ℕ) (blocks : List ℕ) → IsProp (AreRunBlocks device blocks)
run_blocks-prop device blocks = Prim.hlevel (props, IsDistinct-prop)

runs-prop : (runs : List Run) (device : ℕ) (image : Image) → IsProp (StandRuns runs device image)
runs-prop runs device image = AllByRecursion-prop (λ run. StandsRun run device image) (λ run. run-prop run device image) runs

in-prop : (run : Option Run) (device : ℕ) (image : Image) → IsProp (StandsIn run device image)
in-prop None device image = Unit-prop
in-prop (Some run) device image = run-prop run device image

reader-prop : (reader : RunReader) (device : ℕ) (image : Image) → IsProp (StandsReader reader device image)
reader-prop reader device image = Prim.hlevel (props, in-prop, entries-prop)

two-prop : {A B : Type 0} (newer : A → Image → List Entry) (older : B → Image → List Entry) (Newer : A → ℕ → Image → Type 0) (Older : B → ℕ → Image → Type 0) (p : (source : A) (device : ℕ) (image : Image) → IsProp (Newer source device image)) (q : (source : B) (device : ℕ) (image : Image) → IsProp (Older source device image)) (two : Two A B) (device : ℕ) (image : Image) → IsProp (StandsTwo newer older Newer Older two device image)
two-prop newer older Newer Older p q two device image = Prim.hlevel (props, p, q, entries-prop)

list-prop : (source : Listed) (device : ℕ) (image : Image) → IsProp (list_stands source device image)
list-prop source device image = Unit-prop

one-prop : (source : OneRun) (device : ℕ) (image : Image) → IsProp (one_stand source device image)
one-prop = two-prop reader_rest list_rest StandsReader list_stands reader-prop list-prop

two_runs-prop : (source : TwoRuns) (device : ℕ) (image : Image) → IsProp (two_stand source device image)
two_runs-prop = two-prop reader_rest rest_of_one StandsReader one_stand reader-prop one-prop

three-prop : (source : ThreeRuns) (device : ℕ) (image : Image) → IsProp (three_stand source device image)
three-prop = two-prop reader_rest rest_of_two StandsReader two_stand reader-prop two_runs-prop

four-prop : (source : FourRuns) (device : ℕ) (image : Image) → IsProp (four_stand source device image)
four-prop = two-prop reader_rest rest_of_three StandsReader three_stand reader-prop three-prop

five-prop : (source : FiveRuns) (device : ℕ) (image : Image) → IsProp (five_stand source device image)
five-prop = two-prop reader_rest rest_of_four StandsReader four_stand reader-prop four-prop

six-prop : (source : SixRuns) (device : ℕ) (image : Image) → IsProp (six_stand source device image)
six-prop = two-prop reader_rest rest_of_five StandsReader five_stand reader-prop five-prop

stream-prop : (stream : Stream) (device : ℕ) (image : Image) → IsProp (StandsStream stream device image)
stream-prop stream device image = two-prop list_rest rest_of_six list_stands six_stand list-prop six-prop stream.nest device image

-- what a job reads stands in one way
pub source-prop : (s : Source) (device : ℕ) (image : Image) → IsProp (StandsSource s device image)
source-prop (source.Inputs inputs) device image = Prim.hlevel (props, runs-prop)
source-prop (source.Stream stream) device image = stream-prop stream device image
