-- What a format leaves.
use Rattle.std.specs.Prelude.{◌≡◌, ◌<◌, ◌≤◌, ℕ}
use Rattle.kv_nand.specs.Flash.{Image, Erased, Whole}
use Rattle.kssd_model.specs.AnchorSpelling.{anchor_page}
use Rattle.kssd_image.specs.Worked.{first_anchor, IsEmpty}

-- the pages below this one are Erased, and the others are as before
pub record IsErasedBelow (page : ℕ) (old new : Image) : Type 0 where
  pub erased : (q : ℕ) → q < page → new q ≡ Erased
  pub others : (q : ℕ) → page ≤ q → new q ≡ old q

-- nothing behind the first three blocks changed
abbrev pub StaysBehind : Image → Image → Type 0
StaysBehind old new = (q : ℕ) → 96 ≤ q → new q ≡ old q

-- the first anchor stands in page 0 of a device of so many blocks, the other pages of its first three blocks are Erased, and those behind are as before: it is sound and holds no objects
pub record IsFresh (blocks : ℕ) (old new : Image) : Type 0 where
  pub anchor : new 0 ≡ Whole (anchor_page (first_anchor blocks))
  pub erased : (q : ℕ) → 1 ≤ q → q < 96 → new q ≡ Erased
  pub others : (q : ℕ) → 96 ≤ q → new q ≡ old q
  pub empty : IsEmpty blocks new
