-- What an index and the parts of one say of an image.
use Rattle.std.specs.Prelude.{◌≡◌, ◌≤◌, ◌+◌, ◌/◌, ℕ, Bool, true, List, [], length, Option, None, Some, is_some}
use Rattle.kv_nand.specs.Flash.{Image, Erased}
use Rattle.kssd_entry.specs.declared.entry.Entry.{Entry}
use Rattle.kssd_model.specs.declared.anchor.Anchor.{Anchor}
use Rattle.kssd_model.specs.Rising.{merged}
use Rattle.kssd_model.specs.Groups.{rest_from, turn_count}
use Rattle.kssd_log.specs.declared.place.Place.{Place}
use Rattle.kssd_image.specs.Damages.{IsAnchorFit}
use Rattle.kssd_image.specs.Whole.{log_of, age_by}
use Rattle.kssd_levels.specs.declared.kind.JobKind.{JobKind}
use Rattle.kssd_levels.specs.declared.kind.JobKind.TheVariants.{Flush, Zero, One, Collect}
use Rattle.kssd_compact.specs.declared.job.Job.{Job}
use Rattle.kssd_compact.specs.Job.{job_kind}
use Rattle.kssd_root.specs.declared.root.Root.{Root}
use Rattle.kssd_root.specs.Standing.{IsAnchored, AreRuns, IsRoot, EndsAt, table_of}
use Rattle.kssd_root.specs.Following.{with_log, IsSplit}
use Rattle.kssd_root.specs.UnderWay.{IsUnderWay}
use Rattle.kssd_index.specs.declared.index.Older.{Older}
use Rattle.kssd_index.specs.declared.index.Index.{Index}
use Rattle.kssd_index.specs.declared.parts.IndexParts.{IndexParts}

-- ---- the older table

-- the entries of the older table, if there is one
abbrev pub older_entries : Option Older → List Entry
older_entries None = []
older_entries (Some older) = older.table

-- the anchor with the part of its log behind the older table alone, which is the whole log where there is none
abbrev pub later_anchor : Anchor → Option Older → Anchor
later_anchor anchor None = anchor
later_anchor anchor (Some older) = with_log anchor older.log_block older.log_seq

-- whether there is an older table
abbrev pub has_frozen : Index → Bool
has_frozen index = is_some index.older

abbrev pub later_of : Index → Anchor
later_of index = later_anchor index.root.anchor index.older

-- the anchor's log ends at this place behind its last whole group; with the blocks that are left it fills at least 8 and at most 16
pub record EndsWithin (place : Place) (anchor : Anchor) (image : Image) : Type 0 where
  pub page : (log_of image anchor).end ≡ place.page
  pub number : (log_of image anchor).next ≡ place.seq
  pub whole : rest_from [] (log_of image anchor).pages ≡ []
  pub least : 8 ≤ turn_count (log_of image anchor).pages + place.blocks
  pub blocks : turn_count (log_of image anchor).pages + place.blocks ≤ 16

-- ---- the job under way

-- the entries that a job of this kind writes beside what it merges: those of the older table at a flush
abbrev pub job_table : JobKind → Option Older → List Entry
job_table Flush older = older_entries older
job_table Zero older = []
job_table One older = []
job_table Collect older = []

-- a job that is under way stands over the levels of this root, and a flush over the older table, which is there
pub record IsRunning (job : Job) (older : Option Older) (root : Root) (blocks : ℕ) (image : Image) : Type 0 where
  pub way : IsUnderWay (job_kind job) job (job_table (job_kind job) older) root blocks image
  pub frozen : job_kind job ≡ Flush → is_some older ≡ true

abbrev pub StandsOver : Option Job → Option Older → Root → ℕ → Image → Type 0
StandsOver None older root blocks image = Unit {0}
StandsOver (Some job) older root blocks image = IsRunning job older root blocks image

-- ---- the standing fact

-- an index stands in an image of so many blocks: its root does, the anchor's log ends at the ring's place, the older table has the newest entry of each key of its earlier part and the table that of each key of the later one, at most 1,024 each, no number is above its age, and a job that is under way stands
pub record IsIndex (index : Index) (blocks : ℕ) (image : Image) : Type 0 where
  pub root : IsRoot index.root blocks image
  pub split : IsSplit (older_entries index.older) (later_of index) index.root blocks image
  pub log : EndsAt index.ring (later_of index) image
  pub long : EndsWithin index.ring index.root.anchor image
  pub left : 1 ≤ index.ring.blocks
  pub table : index.table ≡ table_of image (later_of index)
  pub few : length index.table ≤ 1024
  pub older_few : length (older_entries index.older) ≤ 1024
  pub numbers : age_by image index.root.anchor ≤ index.age
  pub job : StandsOver index.job index.older index.root blocks image

-- at least the greatest number of eight bytes in the newest anchor and in the pages of its log
abbrev pub index_age : Index → ℕ
index_age index = index.age

-- where its log goes on, and the newest entry of each key of that log
abbrev pub index_ring : Index → Place
index_ring index = index.ring

-- the newest anchor and its runs
abbrev pub index_root : Index → Root
index_root index = index.root

abbrev pub index_table : Index → List Entry
index_table index = merged index.table (older_entries index.older)

-- the parts are those of the index of an image: its newest anchor, the runs of that, its log's newest entries, and where the log ends
pub record AreParts (parts : IndexParts) (blocks : ℕ) (image : Image) : Type 0 where
  pub device : parts.layout.blocks ≡ blocks
  pub anchored : IsAnchored parts.page parts.anchor blocks image
  pub runs : AreRuns parts.levels parts.anchor blocks image
  pub log : parts.log ≡ table_of image parts.anchor
  pub last : parts.last_block ≡ (log_of image parts.anchor).end / 32
  pub next : parts.next_seq ≡ (log_of image parts.anchor).next
  pub clean : parts.clean ≡ true → (q : ℕ) → q / 32 ≡ parts.anchor.log_block → image q ≡ Erased

-- whether the block is clean in which the log begins
abbrev pub is_clean : IndexParts → Bool
is_clean parts = parts.clean

-- nothing is wrong with the anchor's own fields
abbrev pub IsFit : IndexParts → Type 0
IsFit parts = IsAnchorFit parts.layout.blocks parts.anchor
