-- The flash as a state, and what a cut may leave of it.
use Rattle.std.specs.Prelude.{◌≡◌, ◌≢◌, ◌⊎◌, ◌<◌, ◌≤◌, ◌/◌, ◌==◌, ◌^◌, ℕ, Bool, List, length, get_or, Option, if◌then◌else◌}
use Rattle.kv_nand.specs.declared.nand.OpKind.{OpKind}

pub data PageState : Type 0 where
  Erased : PageState
  Whole : List ℕ → PageState
  Cut : PageState

-- every page's state, by its number
abbrev pub Image : Type 0
Image = ℕ → PageState

-- an image with its power, the counts so far, their bounds, and the kind of the last planned fault
pub record Flash : Type 0 where
  pub image : Image
  pub blocks : ℕ
  pub powered : Bool
  pub cuts : ℕ
  pub faults : ℕ
  pub reads : ℕ
  pub ops : ℕ
  pub most_cuts : ℕ
  pub most_faults : ℕ
  pub fails : Option OpKind

-- one page is put in another state
abbrev pub with_page : Image → ℕ → PageState → Image
with_page image page state q = if q == page then state else image q

-- a block is erased
abbrev pub with_erased : Image → ℕ → Image
with_erased image block q = if q / 32 == block then Erased else image q

-- the page is Erased, earlier ones of its block aren't, later ones are
pub record MayProgram (image : Image) (page : ℕ) : Type 0 where
  pub here : image page ≡ Erased
  pub earlier : (q : ℕ) → q / 32 ≡ page / 32 → q < page → image q ≢ Erased
  pub later : (q : ℕ) → q / 32 ≡ page / 32 → page < q → image q ≡ Erased

-- a program of these bytes may leave: at most this page differs, and is Erased, Cut or Whole
pub record LeftByProgram (old : Image) (page : ℕ) (bytes : List ℕ) (new : Image) : Type 0 where
  pub elsewhere : (q : ℕ) → q ≢ page → new q ≡ old q
  pub here : (new page ≡ Erased) ⊎ ((new page ≡ Cut) ⊎ (new page ≡ Whole bytes))

-- an erase may leave: each page of the block is as it was, Erased or Cut
pub record LeftByErase (old : Image) (block : ℕ) (new : Image) : Type 0 where
  pub elsewhere : (q : ℕ) → q / 32 ≢ block → new q ≡ old q
  pub here : (q : ℕ) → q / 32 ≡ block → (new q ≡ old q) ⊎ ((new q ≡ Erased) ⊎ (new q ≡ Cut))

-- each number is a byte
abbrev pub AreBytes : List ℕ → Type 0
AreBytes bytes = (i : ℕ) → get_or bytes i 0 < 256

-- a whole page has 4,160 bytes
abbrev pub IsPageState : PageState → Type 0
IsPageState Erased = Unit {0}
IsPageState (Whole bytes) = (length bytes ≡ 4160) × AreBytes bytes
IsPageState Cut = Unit {0}

-- what holds of each flash: whole pages have their bytes, counts within their bounds, and each number within its type
pub record IsSound (f : Flash) : Type 0 where
  pub pages : (page : ℕ) → IsPageState (f.image page)
  pub cuts : f.cuts ≤ f.most_cuts
  pub faults : f.faults ≤ f.most_faults
  pub blocks : f.blocks < 2 ^ 16
  pub reads : f.reads < 2 ^ 64
  pub ops : f.ops < 2 ^ 64
  pub most_cuts : f.most_cuts < 2 ^ 64
  pub most_faults : f.most_faults < 2 ^ 64
