-- Where an anchor is written, and what stands afterwards.
use Rattle.std.specs.Prelude.{◌≡◌, ◌≢◌, ◌⊎◌, ◌<◌, ◌≤◌, ◌+◌, ◌-◌, ◌*◌, ◌/◌, ◌&&◌, ℕ, zero, suc, Bool, true, false, Option, Some, None, MatchOption, IsSomeAnd, if◌then◌else◌}
use Rattle.kv_nand.specs.Flash.{Image, PageState, Erased, Whole, Cut, MayProgram, LeftByErase, with_page, with_erased}
use Rattle.kssd_model.specs.declared.anchor.Anchor.{Anchor}
use Rattle.kssd_model.specs.AnchorSpelling.{anchor_page}
use Rattle.kssd_model.specs.Anchors.{newest_in}

-- the first Erased page of the block, where all behind it are Erased too; `None` where there is no such page
abbrev pub IsFree : Image → ℕ → Option ℕ → Type 0
IsFree image block free = MatchOption free ((q : ℕ) → q / 32 ≡ block → MayProgram image q → ⊥) (λ page. (page / 32 ≡ block) × MayProgram image page)

-- block 1 beside block 0, and the other way round
abbrev pub other_block : ℕ → ℕ
other_block block = 1 - block

-- the next page, and the image in which it is programmed: behind the last anchor in its block, or page 0 of the other block, erased before; without a last anchor page 0
abbrev pub IsAnchorPlace : Image → Option ℕ → ℕ → Image → Type 0
IsAnchorPlace old None page ready = (page ≡ 0) × (ready ≡ old)
IsAnchorPlace old (Some last) page ready =
    ((page / 32 ≡ last / 32) × MayProgram old page × (ready ≡ old))
    ⊎ (((q : ℕ) → q / 32 ≡ last / 32 → MayProgram old q → ⊥) × (page ≡ 32 * other_block (last / 32)) × (ready ≡ with_erased old (other_block (last / 32))))

-- the last anchor is the newest and has a lower number, or there is none and both blocks are erased
abbrev pub CanFollow : Image → Option ℕ → Anchor → Type 0
CanFollow image None anchor = (page : ℕ) → page < 64 → image page ≡ Erased
CanFollow image (Some last) anchor = IsSomeAnd (newest_in image) (λ found. (found.page ≡ last) × (found.anchor.number < anchor.number))

-- the newest anchor has this page and this number
abbrev pub IsLast : Image → ℕ → ℕ → Type 0
IsLast image page number = IsSomeAnd (newest_in image) (λ found. (found.page ≡ page) × (found.anchor.number ≡ number))

-- the anchor stands in its place and is the newest
pub record IsWritten (old : Image) (last : Option ℕ) (anchor : Anchor) (page : ℕ) (new : Image) : Type 0 where
  pub ready : Image
  pub place : IsAnchorPlace old last page ready
  pub after : new ≡ with_page ready page (Whole (anchor_page anchor))
  pub newest : newest_in new ≡ Some (record { page = page; anchor = anchor })

-- the newest is as it was, or the one given
abbrev pub IsOldOrGiven : Image → Anchor → Image → Type 0
IsOldOrGiven old anchor new = (newest_in new ≡ newest_in old) ⊎ ((page : ℕ) × (newest_in new ≡ Some (record { page = page; anchor = anchor })))

-- nothing but pages of blocks 0 and 1 changed
abbrev pub SameBehind : Image → Image → Type 0
SameBehind old new = (q : ℕ) → 64 ≤ q → new q ≡ old q

-- what the search for a place may leave: the image as it was, or the other block erased or half erased
abbrev pub IsLeftByPlace : Image → Option ℕ → Image → Type 0
IsLeftByPlace old None new = new ≡ old
IsLeftByPlace old (Some last) new = (new ≡ old) ⊎ LeftByErase old (other_block (last / 32)) new

-- of the pages from the first up to this one: where one is Erased, the first such page and all behind it are, else none is
abbrev pub IsFreeSoFar : Image → ℕ → ℕ → Option ℕ → Type 0
IsFreeSoFar image first page free =
    MatchOption free ((q : ℕ) → first ≤ q → q < page → image q ≢ Erased)
    (λ f. (first ≤ f) × (f < page) × (image f ≡ Erased) × ((q : ℕ) → first ≤ q → q < f → image q ≢ Erased) × ((q : ℕ) → f < q → q < page → image q ≡ Erased))

-- whether a page is Erased
abbrev pub is_erased : PageState → Bool
is_erased Erased = true
is_erased (Whole bytes) = false
is_erased Cut = false

-- whether so many pages, from this one on, are all Erased
unfoldable pub are_erased : Image → ℕ → ℕ → Bool
are_erased image page zero = true
are_erased image page (suc n) = is_erased (image page) && are_erased image (page + 1) n

-- whether of so many pages, from this one on, one is Erased, and all behind the first such page are too
unfoldable pub has_free : Image → ℕ → ℕ → Bool
has_free image page zero = false
has_free image page (suc n) = if is_erased (image page) then are_erased image (page + 1) n else has_free image (page + 1) n

-- how many erases come before the next anchor: one where the block of the last has no page for it
abbrev pub erases_before : Image → Option ℕ → ℕ
erases_before image None = 0
erases_before image (Some last) = if has_free image (32 * (last / 32)) 32 then 0 else 1

-- how many operations the next anchor takes
abbrev pub write_cost : Image → Option ℕ → ℕ
write_cost image last = 1 + erases_before image last
