-- At most six runs that are read as one.
use Rattle.std.specs.Prelude.{ℕ, List, [], ◌++◌}
use Rattle.kv_nand.specs.Flash.{Image}
use Rattle.kssd_entry.specs.declared.entry.Entry.{Entry}
use Rattle.kssd_merge.specs.declared.listed.Listed.{Listed}
use Rattle.kssd_merge.specs.Listed.{listed_rest}
use Rattle.kssd_levels.specs.declared.reader.RunReader.{RunReader}
use Rattle.kssd_levels.specs.declared.two.Two.{Two}
use Rattle.kssd_levels.specs.Reader.{reader_rest, houses_of, StandsReader}
use Rattle.kssd_levels.specs.Two.{two_rest, StandsTwo}

-- what a list in memory has left, whatever the image
abbrev pub list_rest : Listed → Image → List Entry
list_rest source image = listed_rest source

abbrev pub list_stands : Listed → ℕ → Image → Type 0
list_stands source device image = Unit {0}

abbrev pub OneRun : Type 0
OneRun = Two RunReader Listed

abbrev pub rest_of_one : OneRun → Image → List Entry
rest_of_one source image = two_rest reader_rest list_rest source image

abbrev pub one_stand : OneRun → ℕ → Image → Type 0
one_stand source device image = StandsTwo reader_rest list_rest StandsReader list_stands source device image

abbrev pub one_houses : OneRun → List ℕ
one_houses source = houses_of source.newer.run ++ []

abbrev pub TwoRuns : Type 0
TwoRuns = Two RunReader OneRun

abbrev pub rest_of_two : TwoRuns → Image → List Entry
rest_of_two source image = two_rest reader_rest rest_of_one source image

abbrev pub two_stand : TwoRuns → ℕ → Image → Type 0
two_stand source device image = StandsTwo reader_rest rest_of_one StandsReader one_stand source device image

abbrev pub two_houses : TwoRuns → List ℕ
two_houses source = houses_of source.newer.run ++ one_houses source.older

abbrev pub ThreeRuns : Type 0
ThreeRuns = Two RunReader TwoRuns

abbrev pub rest_of_three : ThreeRuns → Image → List Entry
rest_of_three source image = two_rest reader_rest rest_of_two source image

abbrev pub three_stand : ThreeRuns → ℕ → Image → Type 0
three_stand source device image = StandsTwo reader_rest rest_of_two StandsReader two_stand source device image

abbrev pub three_houses : ThreeRuns → List ℕ
three_houses source = houses_of source.newer.run ++ two_houses source.older

abbrev pub FourRuns : Type 0
FourRuns = Two RunReader ThreeRuns

abbrev pub rest_of_four : FourRuns → Image → List Entry
rest_of_four source image = two_rest reader_rest rest_of_three source image

abbrev pub four_stand : FourRuns → ℕ → Image → Type 0
four_stand source device image = StandsTwo reader_rest rest_of_three StandsReader three_stand source device image

abbrev pub four_houses : FourRuns → List ℕ
four_houses source = houses_of source.newer.run ++ three_houses source.older

abbrev pub FiveRuns : Type 0
FiveRuns = Two RunReader FourRuns

abbrev pub rest_of_five : FiveRuns → Image → List Entry
rest_of_five source image = two_rest reader_rest rest_of_four source image

abbrev pub five_stand : FiveRuns → ℕ → Image → Type 0
five_stand source device image = StandsTwo reader_rest rest_of_four StandsReader four_stand source device image

abbrev pub five_houses : FiveRuns → List ℕ
five_houses source = houses_of source.newer.run ++ four_houses source.older

abbrev pub SixRuns : Type 0
SixRuns = Two RunReader FiveRuns

abbrev pub rest_of_six : SixRuns → Image → List Entry
rest_of_six source image = two_rest reader_rest rest_of_five source image

abbrev pub six_stand : SixRuns → ℕ → Image → Type 0
six_stand source device image = StandsTwo reader_rest rest_of_five StandsReader five_stand source device image

abbrev pub six_houses : SixRuns → List ℕ
six_houses source = houses_of source.newer.run ++ five_houses source.older
