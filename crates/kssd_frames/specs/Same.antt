-- Images that are alike where it counts.
use Rattle.std.specs.Prelude.{◌≡◌, ◌<◌, ◌≤◌, ℕ, List, map}
use Rattle.std.specs.List.{All}
use Rattle.kv_nand.specs.Flash.{Image, PageState, Erased, Whole, Cut}
use Rattle.kssd_entry.specs.declared.entry.Entry.{Entry}
use Rattle.kssd_model.specs.declared.anchor.Anchor.{Anchor}
use Rattle.kssd_model.specs.Anchors.{newest_in}
use Rattle.kssd_model.specs.RunPages.{run_page}
use Rattle.kssd_image.specs.Stages.{the_anchor, merged_by, shown_by, shown_in, object_in, objects_in}
use Rattle.kssd_image.specs.Whole.{log_of, pages_named, IsIndexOf, AreValuesWhole, IsWhole, age_in}

-- a page as it counts: one whose program was cut is as one that is Erased
abbrev pub as_counted : PageState → PageState
as_counted Erased = Erased
as_counted (Whole bytes) = Whole bytes
as_counted Cut = Erased

-- a page counts for the same in both images
abbrev pub IsSameAt : Image → Image → ℕ → Type 0
IsSameAt old new page = as_counted (new page) ≡ as_counted (old page)

-- the pages of the ring and of the runs that an anchor names count for the same
pub record IsSameIndex (old new : Image) (anchor : Anchor) : Type 0 where
  pub ring : (page : ℕ) → 64 ≤ page → page < 640 → IsSameAt old new page
  pub runs : All (λ run. (i : ℕ) → i < run.pages → IsSameAt old new (run_page run.blocks i)) anchor.runs

-- the pages that entries name for their values count for the same
abbrev pub AreSameValues : Image → Image → List Entry → Type 0
AreSameValues old new entries = All (IsSameAt old new) (pages_named entries)

-- ---- what stays

-- what an anchor names is the same
pub record StaysBy (blocks : ℕ) (old new : Image) (anchor : Anchor) : Type 0 where
  pub log : log_of new anchor ≡ log_of old anchor
  pub merged : merged_by new anchor ≡ merged_by old anchor
  pub shown : shown_by new anchor ≡ shown_by old anchor
  pub index : IsIndexOf blocks new anchor

-- the visible entries and the objects are the same, and a mount still takes the image
pub record KeepsObjects (blocks : ℕ) (old new : Image) : Type 0 where
  pub shown : shown_in new ≡ shown_in old
  pub objects : objects_in new ≡ objects_in old
  pub whole : IsWhole blocks new

-- and so are the newest anchor and all entries, deletion marks included; the image has this age
pub record Stays (blocks : ℕ) (old new : Image) (age : ℕ) : Type 0 where
  pub newest : newest_in new ≡ newest_in old
  pub merged : merged_by new (the_anchor new) ≡ merged_by old (the_anchor old)
  pub keeps : KeepsObjects blocks old new
  pub age_is : age_in new ≡ age

-- the index depends on the pages that it names alone
abbrev pub IndexDependsOnItsPages : Type 0
IndexDependsOnItsPages = (blocks : ℕ) (old new : Image) (anchor : Anchor) → IsIndexOf blocks old anchor → IsSameIndex old new anchor → StaysBy blocks old new anchor

-- values depend on the pages that are named for them alone
pub record ValuesDependOnTheirPages : Type 0 where
  pub objects : (old new : Image) (entries : List Entry) → AreSameValues old new entries → map (object_in new) entries ≡ map (object_in old) entries
  pub whole : (blocks : ℕ) (old new : Image) (entries : List Entry) → AreSameValues old new entries → AreValuesWhole blocks old entries → AreValuesWhole blocks new entries

-- an image depends on the newest anchor, its index and its values alone
abbrev pub ImagesDependOnNamedPages : Type 0
ImagesDependOnNamedPages = (blocks : ℕ) (old new : Image) → IsWhole blocks old → newest_in new ≡ newest_in old → IsSameIndex old new (the_anchor old) → AreSameValues old new (shown_in old) → Stays blocks old new (age_in old)

-- a page that a cut left counts as Erased
abbrev pub CutPagesCountForNothing : Type 0
CutPagesCountForNothing = (blocks : ℕ) (old new : Image) → IsWhole blocks old → ((page : ℕ) → IsSameAt old new page) → Stays blocks old new (age_in old)
