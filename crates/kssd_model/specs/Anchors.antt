-- The newest anchor of an image: of the Whole pages of blocks 0 and 1 that read as anchors, the one with the greatest number, the lowest page among equals.
use Rattle.std.specs.Prelude.{◌≡◌, ◌≢◌, ◌⊎◌, ◌↔◌, ◌<◌, ◌≤◌, ◌/◌, ℕ, zero, suc, nat_lt, true, List, Option, Some, None, MatchOption, if◌then◌else◌}
use Rattle.kv_nand.specs.Flash.{Image, PageState, Erased, Whole, Cut, LeftByProgram, LeftByErase}
use Rattle.kssd_model.specs.declared.anchor.Anchor.{Anchor}
use Rattle.kssd_model.specs.declared.anchor.Found.{Found}
use Rattle.kssd_model.specs.AnchorSpelling.{anchor_page, fits_anchor, HasSpelling, IsSpelled}
use Rattle.kssd_model.specs.AnchorReading.{anchor_at}

-- an anchor with its page
abbrev pub at_page : ℕ → Option Anchor → Option Found
at_page page None = None
at_page page (Some a) = Some (record { page = page; anchor = a })

-- what stands in a page of this state
abbrev pub found_at : ℕ → PageState → Option Found
found_at page Erased = None
found_at page (Whole bytes) = at_page page (anchor_at bytes)
found_at page Cut = None

-- the earlier one, unless the later has a greater number
abbrev pub better : Option Found → Option Found → Option Found
better None later = later
better (Some f) None = Some f
better (Some f) (Some l) = if nat_lt f.anchor.number l.anchor.number then Some l else Some f

-- the newest of the first so many pages
unfoldable pub newest_of : Image → ℕ → Option Found
newest_of image zero = None
newest_of image (suc n) = better (newest_of image n) (found_at n (image n))

-- the newest anchor, over the pages of blocks 0 and 1
abbrev pub newest_in : Image → Option Found
newest_in image = newest_of image 64

-- in bytes: the page is Whole with the anchor's spelling
pub record StandsAt (image : Image) (page : ℕ) (a : Anchor) : Type 0 where
  pub state : image page ≡ Whole (anchor_page a)
  pub fits : fits_anchor a ≡ true
  pub spelling : HasSpelling a

-- the anchor in page p comes before the one in page q: a greater number, or the same number in a lower page
abbrev pub ComesFirst : ℕ → Anchor → ℕ → Anchor → Type 0
ComesFirst p a q b = (b.number < a.number) ⊎ ((b.number ≡ a.number) × (p ≤ q))

-- in bytes: the newest of the first so many pages
pub record IsNewest (image : Image) (pages : ℕ) (f : Found) : Type 0 where
  pub place : f.page < pages
  pub stands : StandsAt image f.page f.anchor
  pub first : (page : ℕ) (a : Anchor) → page < pages → StandsAt image page a → ComesFirst f.page f.anchor page a

-- in bytes: no page of the first so many holds an anchor
abbrev pub HasNone : Image → ℕ → Type 0
HasNone image pages = (page : ℕ) (a : Anchor) → page < pages → StandsAt image page a → ⊥

-- in bytes: the newest of blocks 0 and 1, or none where no page holds an anchor
abbrev pub IsNewestOrNone : Image → Option Found → Type 0
IsNewestOrNone image found = MatchOption found (HasNone image 64) (IsNewest image 64)

-- where there is a newest, its number is below this one
abbrev pub AreOlder : Option Found → ℕ → Type 0
AreOlder found number = MatchOption found (Unit {0}) (λ f. f.anchor.number < number)

-- both say the same of every image
pub record NewestIsIts (image : Image) : Type 0 where
  pub reads : IsNewestOrNone image (newest_in image)
  pub only : (f : Found) → IsNewest image 64 f → newest_in image ≡ Some f
  pub nothing : HasNone image 64 → newest_in image ≡ None

-- a page reads as an anchor exactly where it is the anchor's spelling
abbrev pub AnchorsAreSpelled : Type 0
AnchorsAreSpelled = (bytes : List ℕ) (a : Anchor) → (anchor_at bytes ≡ Some a) ↔ IsSpelled bytes a

-- the newest by reading is the newest by the bytes
abbrev pub NewestIsSpelled : Type 0
NewestIsSpelled = (image : Image) → NewestIsIts image

-- whatever an erase of a block leaves that doesn't hold the newest, the newest is as it was
abbrev pub EraseKeepsNewest : Type 0
EraseKeepsNewest = (old new : Image) (block : ℕ) → LeftByErase old block new → MatchOption (newest_in old) (Unit {0}) (λ f. f.page / 32 ≢ block) → newest_in new ≡ newest_in old

-- whatever the program of an anchor with a greater number leaves, the newest is as it was or the one given
abbrev pub ProgramKeepsNewest : Type 0
ProgramKeepsNewest =
    (old new : Image) (page : ℕ) (a : Anchor) → LeftByProgram old page (anchor_page a) new → old page ≡ Erased → page < 64 → fits_anchor a ≡ true → HasSpelling a → AreOlder (newest_in old) a.number
    → (newest_in new ≡ newest_in old) ⊎ (newest_in new ≡ Some (record { page = page; anchor = a }))

-- only the pages of blocks 0 and 1 count
abbrev pub NewestIsBelow64 : Type 0
NewestIsBelow64 = (old new : Image) → ((page : ℕ) → page < 64 → new page ≡ old page) → newest_in new ≡ newest_in old
