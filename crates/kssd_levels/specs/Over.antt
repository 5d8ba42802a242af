-- Runs that are read as one.
use Rattle.std.specs.Prelude.{ℕ, List, [], ◌∷◌, Option, Some}
use Rattle.kv_nand.specs.Flash.{Image}
use Rattle.kssd_entry.specs.declared.entry.Entry.{Entry}
use Rattle.kssd_model.specs.Rising.{merged}
use Rattle.kssd_run.specs.declared.reader.Run.{Run}
use Rattle.kssd_levels.specs.Reader.{entries_at}

-- runs, newest first, from a key on or whole, over later entries
abbrev pub over : Image → Option (List ℕ) → List Run → List Entry → List Entry
over image from [] later = later
over image from (run ∷ runs) later = merged (entries_at image from (Some run)) (over image from runs later)
