-- When a group has place, and how many operations calls take.
use Rattle.std.specs.Prelude.{◌+◌, ◌-◌, ◌*◌, ◌/◌, ◌%◌, ◌==◌, ℕ, Bool, ◌&&◌, nat_le, List, length, Option, None, Some}
use Rattle.std.specs.List.{count_by}
use Rattle.kv_nand.specs.Flash.{Image}
use Rattle.kssd_entry.specs.declared.entry.Entry.{Entry}
use Rattle.kssd_model.specs.declared.runs.RunInfo.{RunInfo}
use Rattle.kssd_model.specs.Rising.{merged}
use Rattle.kssd_model.specs.Groups.{turn_count}
use Rattle.kssd_image.specs.Stages.{the_anchor, log_map}
use Rattle.kssd_image.specs.Whole.{log_of}
use Rattle.kssd_log.specs.Ring.{room_of, turns_for}
use Rattle.kssd_log.specs.Append.{pages_of}
use Rattle.kssd_layout.specs.Numbers.{base_blocks_in}
use Rattle.kssd_index.specs.declared.index.Older.{Older}
use Rattle.kssd_index.specs.declared.index.Index.{Index}

-- whether a group of these entries has place: the table has at most 1,024 with them, and the pages fit into the log's 8 blocks
abbrev pub has_place_in : Index → List Entry → Bool
has_place_in index entries = nat_le (length (merged entries index.table)) 1024 && nat_le (pages_of entries) (room_of index.ring)

-- at most so many operations write an older table, if there is one: those of two merges and a flush with an anchor each
abbrev pub flush_cost : Option Older → ℕ → ℕ
flush_cost None blocks = 0
flush_cost (Some older) blocks = 33 * base_blocks_in blocks + 3060

-- at most so many operations make place: those, and the two of a turn
abbrev pub place_cost : Index → ℕ → ℕ
place_cost index blocks = flush_cost index.older blocks + 2

-- how many operations a group takes: one a page, and two for each turn
abbrev pub group_cost : Index → List Entry → ℕ
group_cost index entries = pages_of entries + 2 * turns_for index.ring (pages_of entries)

-- how many runs level 0 has
abbrev pub zero_runs : Index → ℕ
zero_runs index = length index.root.levels.zero

-- ---- the same of an image

-- how many of these runs are on level 0
abbrev pub runs_on_zero : List RunInfo → ℕ
runs_on_zero runs = count_by (λ run. run.level == 0) runs

-- how many runs the newest anchor has on level 0
abbrev pub zero_runs_in : Image → ℕ
zero_runs_in image = runs_on_zero (the_anchor image).runs

-- the newest entry of each key in the groups of its log, deletion marks too
abbrev pub logged_in : Image → List Entry
logged_in image = log_map image (32 * (the_anchor image).log_block) (the_anchor image).log_seq

-- how many turns so many pages take behind the end of its log
abbrev pub turns_in : Image → ℕ → ℕ
turns_in image pages = ((log_of image (the_anchor image)).end % 32 + pages - 1) / 31

-- how many ring blocks its log fills with so many pages more: the first, and one for each turn
abbrev pub blocks_filled : Image → ℕ → ℕ
blocks_filled image pages = 1 + turn_count (log_of image (the_anchor image)).pages + turns_in image pages

-- whether the log has at most 1,024 different keys with a group of these entries, and fills at most 8 ring blocks
abbrev pub takes_group : Image → List Entry → Bool
takes_group image entries = nat_le (length (merged entries (logged_in image))) 1024 && nat_le (blocks_filled image (pages_of entries)) 8

-- how many operations a group takes there: one a page, and two for each turn
abbrev pub group_cost_in : Image → List Entry → ℕ
group_cost_in image entries = pages_of entries + 2 * turns_in image (pages_of entries)
