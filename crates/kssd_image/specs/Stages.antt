-- From an image to the objects that it holds, by stages, each a function of those before.
use Rattle.std.specs.Prelude.{ℕ, ◌*◌, List, [], ◌∷◌, not, map, filter, Option, Some, None, if◌then◌else◌}
use Rattle.std.specs.List.{flat_map}
use Rattle.std.specs.FinMap as objects
use Rattle.kv_nand.specs.Flash.{Image}
use Rattle.kv_device.specs.Objects.{Objects, Changes}
use Rattle.kssd_entry.specs.declared.entry.Entry.{Entry}
use Rattle.kssd_entry.specs.declared.entry.Entry.TheVariants.{Put, At, Gone}
use Rattle.kssd_entry.specs.Spelling.{key_of}
use Rattle.kssd_model.specs.declared.runs.RunInfo.{RunInfo}
use Rattle.kssd_model.specs.declared.anchor.Anchor.{Anchor}
use Rattle.kssd_model.specs.declared.anchor.Found.{Found}
use Rattle.kssd_model.specs.Anchors.{newest_in}
use Rattle.kssd_model.specs.RunPages.{run_entries}
use Rattle.kssd_model.specs.Groups.{groups_in}
use Rattle.kssd_model.specs.Rising.{is_gone, merged}
use Rattle.kssd_image.specs.ValuePages.{first_bytes}

-- an anchor that names nothing
abbrev pub no_anchor : Anchor
no_anchor = record { number = 0; blocks = 0; next_run = 0; log_block = 0; log_seq = 0; runs = [] }

-- the anchor that was found, if any
abbrev pub anchor_of : Option Found → Anchor
anchor_of None = no_anchor
anchor_of (Some found) = found.anchor

-- the newest anchor, and one that names nothing where there is none
unfoldable pub the_anchor : Image → Anchor
the_anchor image = anchor_of (newest_in image)

-- for each key the newest entry of these runs, of which the newest comes first; deletion marks are entries too
abbrev pub runs_map : Image → List RunInfo → List Entry
runs_map image [] = []
runs_map image (run ∷ runs) = merged (run_entries image run) (runs_map image runs)

-- all entries of these groups, the oldest first
abbrev pub entries_of : List (List Entry) → List Entry
entries_of groups = flat_map (λ group. group) groups

-- for each key the last entry of the log that begins in this page with this number: all entries of its groups, in order, put over nothing
unfoldable pub log_map : Image → ℕ → ℕ → List Entry
log_map image page number = merged (entries_of (groups_in image page number)) []

-- without deletion marks
abbrev pub without_marks : List Entry → List Entry
without_marks entries = filter (λ entry. not (is_gone entry)) entries

-- for each key the newest entry, marks included, by an anchor: that of its log, else that of its runs
unfoldable pub merged_by : Image → Anchor → List Entry
merged_by image anchor = merged (log_map image (32 * anchor.log_block) anchor.log_seq) (runs_map image anchor.runs)

-- the visible entries by an anchor: the newest of each key, where it is no deletion mark
unfoldable pub shown_by : Image → Anchor → List Entry
shown_by image anchor = without_marks (merged_by image anchor)

-- the visible entries by the newest anchor
unfoldable pub shown_in : Image → List Entry
shown_in image = shown_by image (the_anchor image)

-- the value of an entry: it stands in the entry, or it is the first data bytes of its page
abbrev pub value_in : Image → Entry → List ℕ
value_in image (Put key value) = value
value_in image (At key page size) = first_bytes size (image page)
value_in image (Gone key) = []

-- a key with its value
abbrev pub object_in : Image → Entry → List ℕ × List ℕ
object_in image entry = (key_of entry, value_in image entry)

-- the objects that an image holds: each visible entry's key with its value
unfoldable pub objects_in : Image → Objects
objects_in image = objects.from_sorted (map (object_in image) (shown_in image))

-- what an entry makes of its key's value: another one, or none
abbrev pub change_in : Image → Entry → List ℕ × Option (List ℕ)
change_in image entry = (key_of entry, if is_gone entry then None else Some (value_in image entry))

-- the changes that entries make, one after the other: for each key the last
unfoldable pub changes_of : Image → List Entry → Changes
changes_of image entries = objects.from_sorted (map (change_in image) (merged entries []))
