-- Images that are worked out: a fresh one, one just formatted, and pages that a cut left.
use Rattle.std.specs.Prelude.{◌≡◌, ◌⊎◌, ◌<◌, ◌≤◌, ◌≢◌, ℕ, List, [], Some, None}
use Rattle.std.specs.FinMap as objects
use Rattle.kv_nand.specs.Flash.{Image, PageState, Erased, Whole, Cut}
use Rattle.kssd_model.specs.declared.anchor.Anchor.{Anchor}
use Rattle.kssd_model.specs.AnchorSpelling.{anchor_page}
use Rattle.kssd_model.specs.Anchors.{StandsAt, newest_in}
use Rattle.kssd_model.specs.Groups.{LogPage, Path, AreAllowed, IsDamaged, log_in, groups_in}
use Rattle.kssd_image.specs.Stages.{objects_in}
use Rattle.kssd_image.specs.Whole.{IsLogWhole, Sound, age_in}

-- a page that was never programmed since its erase, or was cut while it was
abbrev pub IsBlank : PageState → Type 0
IsBlank state = (state ≡ Erased) ⊎ (state ≡ Cut)

-- the anchor with which a device begins
abbrev pub first_anchor : ℕ → Anchor
first_anchor blocks = record { number = 1; blocks = blocks; next_run = 1; log_block = 2; log_seq = 1; runs = [] }

-- the first anchor stands in page 0, and the other pages of its blocks and those of the log's first block are blank
pub record IsFormatted (blocks : ℕ) (image : Image) : Type 0 where
  pub anchor : image 0 ≡ Whole (anchor_page (first_anchor blocks))
  pub blank : (page : ℕ) → 1 ≤ page → page < 96 → IsBlank (image page)

-- the first anchor is the newest, and there are no groups and no objects; a mount takes the image
pub record IsEmpty (blocks : ℕ) (image : Image) : Type 0 where
  pub newest : newest_in image ≡ Some (record { page = 0; anchor = first_anchor blocks })
  pub groups : groups_in image 64 1 ≡ []
  pub none : objects_in image ≡ objects.empty
  pub sound : Sound blocks image
  pub age : age_in image ≡ 1

-- without a Whole page in blocks 0 and 1 there is no anchor; a formatted device is empty
pub record FormattedIsEmpty : Type 0 where
  pub fresh : (image : Image) → ((page : ℕ) → page < 64 → IsBlank (image page)) → newest_in image ≡ None
  pub formatted : (blocks : ℕ) (image : Image) → 256 ≤ blocks → blocks ≤ 2048 → IsFormatted blocks image → IsEmpty blocks image

-- where a cut left the page of the next anchor blank, the older one is the newest
abbrev pub CutAnchorIsNone : Type 0
CutAnchorIsNone = (image : Image) (page : ℕ) (anchor : Anchor) → page < 64 → StandsAt image page anchor → ((other : ℕ) → other < 64 → other ≢ page → IsBlank (image other)) → newest_in image ≡ Some (record { page = page; anchor = anchor })

-- a log that comes to a blank page ends before it, and has nothing to refuse where its pages are allowed
pub record EndsBefore (image : Image) (page number : ℕ) (pages : List LogPage) (end next : ℕ) : Type 0 where
  pub log : log_in image page number ≡ record { pages = pages; end = end; next = next }
  pub whole : IsLogWhole image (log_in image page number)
  pub taken : (at : ℕ) → IsDamaged image page number at → ⊥

-- so it is where a cut left its next page blank, also the last of a block
abbrev pub CutPageEndsTheLog : Type 0
CutPageEndsTheLog = (image : Image) (page number : ℕ) (pages : List LogPage) (end next : ℕ) → Path image page number pages end next → AreAllowed pages → IsBlank (image end) → EndsBefore image page number pages end next
