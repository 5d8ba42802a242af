-- What is read of a stream stays where the blocks of its runs stay.
use Rattle.std.proofs.Common.{◌≡◌, ℕ, [], refl}
use Rattle.kv_nand.specs.Flash.{Image}
use Rattle.kssd_merge.specs.Same.{AreSameIn}
use Rattle.kssd_levels.specs.declared.stream.Stream.{Stream}
use Rattle.kssd_levels.specs.Reader.{reader_rest, houses_of, StandsReader}
use Rattle.kssd_levels.specs.ReaderLaws.{reader_stays}
use Rattle.kssd_levels.specs.TwoLaws.{two_stays, same_first, same_second}
use Rattle.kssd_levels.specs.Six.{list_rest, list_stands, OneRun, TwoRuns, ThreeRuns, FourRuns, FiveRuns, SixRuns, rest_of_one, rest_of_two, rest_of_three, rest_of_four, rest_of_five, rest_of_six, one_stand, two_stand, three_stand, four_stand, five_stand, six_stand, one_houses, two_houses, three_houses, four_houses, five_houses, six_houses}
use Rattle.kssd_levels.specs.Streams.{stream_rest, StandsStream, stream_houses}

one_runs_stay : (source : OneRun) (device : ℕ) (old new : Image) → AreSameIn (one_houses source) old new → one_stand source device old → one_stand source device new × (rest_of_one source new ≡ rest_of_one source old)
one_runs_stay source device old new same h =
    two_stays reader_rest list_rest StandsReader list_stands source device old new
    (reader_stays source.newer device old new (same_first (houses_of source.newer.run) [] old new same) h.newer_stands)
    (tt, refl) h

two_runs_stay : (source : TwoRuns) (device : ℕ) (old new : Image) → AreSameIn (two_houses source) old new → two_stand source device old → two_stand source device new × (rest_of_two source new ≡ rest_of_two source old)
two_runs_stay source device old new same h =
    two_stays reader_rest rest_of_one StandsReader one_stand source device old new
    (reader_stays source.newer device old new (same_first (houses_of source.newer.run) (one_houses source.older) old new same) h.newer_stands)
    (one_runs_stay source.older device old new (same_second (houses_of source.newer.run) (one_houses source.older) old new same) h.older_stands) h

three_runs_stay : (source : ThreeRuns) (device : ℕ) (old new : Image) → AreSameIn (three_houses source) old new → three_stand source device old → three_stand source device new × (rest_of_three source new ≡ rest_of_three source old)
three_runs_stay source device old new same h =
    two_stays reader_rest rest_of_two StandsReader two_stand source device old new
    (reader_stays source.newer device old new (same_first (houses_of source.newer.run) (two_houses source.older) old new same) h.newer_stands)
    (two_runs_stay source.older device old new (same_second (houses_of source.newer.run) (two_houses source.older) old new same) h.older_stands) h

four_runs_stay : (source : FourRuns) (device : ℕ) (old new : Image) → AreSameIn (four_houses source) old new → four_stand source device old → four_stand source device new × (rest_of_four source new ≡ rest_of_four source old)
four_runs_stay source device old new same h =
    two_stays reader_rest rest_of_three StandsReader three_stand source device old new
    (reader_stays source.newer device old new (same_first (houses_of source.newer.run) (three_houses source.older) old new same) h.newer_stands)
    (three_runs_stay source.older device old new (same_second (houses_of source.newer.run) (three_houses source.older) old new same) h.older_stands) h

five_runs_stay : (source : FiveRuns) (device : ℕ) (old new : Image) → AreSameIn (five_houses source) old new → five_stand source device old → five_stand source device new × (rest_of_five source new ≡ rest_of_five source old)
five_runs_stay source device old new same h =
    two_stays reader_rest rest_of_four StandsReader four_stand source device old new
    (reader_stays source.newer device old new (same_first (houses_of source.newer.run) (four_houses source.older) old new same) h.newer_stands)
    (four_runs_stay source.older device old new (same_second (houses_of source.newer.run) (four_houses source.older) old new same) h.older_stands) h

six_runs_stay : (source : SixRuns) (device : ℕ) (old new : Image) → AreSameIn (six_houses source) old new → six_stand source device old → six_stand source device new × (rest_of_six source new ≡ rest_of_six source old)
six_runs_stay source device old new same h =
    two_stays reader_rest rest_of_five StandsReader five_stand source device old new
    (reader_stays source.newer device old new (same_first (houses_of source.newer.run) (five_houses source.older) old new same) h.newer_stands)
    (five_runs_stay source.older device old new (same_second (houses_of source.newer.run) (five_houses source.older) old new same) h.older_stands) h

pub stream_stays : (stream : Stream) (device : ℕ) (old new : Image) → AreSameIn (stream_houses stream) old new → StandsStream stream device old → StandsStream stream device new × (stream_rest stream new ≡ stream_rest stream old)
stream_stays stream device old new same h =
    two_stays list_rest rest_of_six list_stands six_stand stream.nest device old new (tt, refl) (six_runs_stay stream.nest.older device old new same h.older_stands) h
