-- A run that is read page by page.
use Rattle.std.specs.Prelude.{◌≡◌, ◌-◌, ℕ, true, List, [], ◌++◌, drop, Option, Some, None}
use Rattle.kv_nand.specs.Flash.{Image}
use Rattle.kssd_entry.specs.declared.entry.Entry.{Entry}
use Rattle.kssd_model.specs.Rising.{is_rising, entries_from}
use Rattle.kssd_model.specs.RunPages.{page_entries, run_entries}
use Rattle.kssd_run.specs.declared.reader.Run.{Run}
use Rattle.kssd_run.specs.Run.{run_info, StandsRun}
use Rattle.kssd_run.specs.Pages.{pages_behind}
use Rattle.kssd_levels.specs.declared.reader.RunReader.{RunReader}

-- the entries of a run's pages from one on, none where there is no run
abbrev pub behind_in : Image → Option Run → ℕ → List Entry
behind_in image None next = []
behind_in image (Some run) next = pages_behind (page_entries image (run_info run).number (run_info run).blocks) next ((run_info run).pages - next)

-- those of the page that was read, and of the pages behind it
abbrev pub reader_rest : RunReader → Image → List Entry
reader_rest reader image = drop reader.passed reader.page ++ behind_in image reader.run reader.next

-- the run, if there is one, stands
abbrev pub StandsIn : Option Run → ℕ → Image → Type 0
StandsIn None device image = Unit {0}
StandsIn (Some run) device image = StandsRun run device image

-- where its pages stand
abbrev pub houses_of : Option Run → List ℕ
houses_of None = []
houses_of (Some run) = (run_info run).blocks

-- the run stands; what is left of a page is read, where anything is left; and the keys rise
pub record StandsReader (reader : RunReader) (device : ℕ) (image : Image) : Type 0 where
  pub run : StandsIn reader.run device image
  pub loaded : drop reader.passed reader.page ≡ [] → behind_in image reader.run reader.next ≡ []
  pub rising : is_rising (reader_rest reader image) ≡ true

-- the entries of a run from a key on, or all; none where there is no run
abbrev pub entries_at : Image → Option (List ℕ) → Option Run → List Entry
entries_at image from None = []
entries_at image None (Some run) = run_entries image (run_info run)
entries_at image (Some key) (Some run) = entries_from (run_entries image (run_info run)) key
