-- What is known of a run that stands.
use Rattle.std.proofs.Common.{ℕ, List}
use Rattle.kv_nand.specs.Flash.{Image}
use Rattle.kssd_entry.specs.declared.entry.Entry.{Entry}
use Rattle.kssd_model.specs.RunPages.{page_entries}
use Rattle.kssd_run.specs.declared.reader.Run.{Run}
use Rattle.kssd_run.specs.Index.{IsPageOfKey, RisingKeys}
use Rattle.kssd_run.specs.Run.{StandsRun}
use Rattle.kssd_run.proofs.Paging.{ArePages, IsPageBehind, first_keys_rise, page_behind}

abbrev pub page_in : Run → Image → ℕ → List Entry
page_in run image = page_entries image run.info.number run.info.blocks

pub stands_pages : (run : Run) (device : ℕ) (image : Image) → StandsRun run device image → ArePages (page_in run image) run.info.pages
stands_pages run device image h = record { filled = h.run_in.filled; rising = h.run_in.rising }

pub stands_keys : (run : Run) (device : ℕ) (image : Image) → StandsRun run device image → RisingKeys run.firsts
stands_keys run device image h = first_keys_rise (page_in run image) run.info.pages run.firsts (stands_pages run device image h) run.counted h.firsts

pub stands_behind : (run : Run) (device : ℕ) (image : Image) (key : List ℕ) (k : ℕ) → StandsRun run device image → IsPageOfKey run.firsts key k → IsPageBehind (page_in run image) run.info.pages key k
stands_behind run device image key k h is = page_behind (page_in run image) run.info.pages run.firsts key k run.counted h.firsts is
