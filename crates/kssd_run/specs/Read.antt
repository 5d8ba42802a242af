-- A run of which the first pages were read.
use Rattle.std.specs.Prelude.{◌≡◌, ◌<◌, ◌≤◌, ◌*◌, ◌&&◌, ℕ, true, List, [], ◌++◌, length, get_or}
use Rattle.kv_nand.specs.Flash.{Image}
use Rattle.kssd_entry.specs.declared.entry.Entry.{Entry}
use Rattle.kssd_model.specs.declared.runs.RunInfo.{RunInfo}
use Rattle.kssd_model.specs.Rising.{is_rising}
use Rattle.kssd_model.specs.RunPages.{page_entries, joined, first_key, AreGoodPages}
use Rattle.kssd_run.specs.declared.reader.Reading.{Reading}
use Rattle.kssd_run.specs.Judging.{goes_on}

-- so many pages aren't damaged, and this is known of them
pub record IsReading (info : RunInfo) (image : Image) (pages : ℕ) (reading : Reading) : Type 0 where
  pub counted : length reading.firsts ≡ pages
  pub firsts : (i : ℕ) → i < pages → get_or reading.firsts i [] ≡ first_key (page_entries image info.number info.blocks i)
  pub filled : (i : ℕ) → i < pages → 0 < length (page_entries image info.number info.blocks i)
  pub good : AreGoodPages image info pages
  pub rising : is_rising (joined (page_entries image info.number info.blocks) pages) ≡ true
  pub goes : (entries : List Entry) → is_rising (joined (page_entries image info.number info.blocks) pages ++ entries) ≡ (is_rising entries && goes_on reading.before entries)
  pub count : reading.count ≡ length (joined (page_entries image info.number info.blocks) pages)
  pub few : reading.count ≤ 4096 * pages
