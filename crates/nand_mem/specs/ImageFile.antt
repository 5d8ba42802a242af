-- The file of an image, and why bytes are none.
use Rattle.std.specs.Prelude.{◌≡◌, ◌≢◌, ◌⊎◌, ◌<◌, ◌≤◌, ◌*◌, ℕ, zero, suc, List, [], ◌∷◌, ◌++◌, length}
use Rattle.std.specs.Int.{w16, to_be_bytes}
use Rattle.kv_nand.specs.Flash.{Image, PageState, Erased, Whole, Cut, IsPageState}
use Rattle.nand_mem.specs.declared.fault.ImageFault.{ImageFault}
use Rattle.nand_mem.specs.declared.fault.ImageFault.TheVariants.{BadHeader, BadState, BadLength, Memory}

-- `KEVINSSD`, and version 1 in two bytes
abbrev pub mark : List ℕ
mark = 75 ∷ 69 ∷ 86 ∷ 73 ∷ 78 ∷ 83 ∷ 83 ∷ 68 ∷ 0 ∷ 1 ∷ []

-- the mark and the number of blocks
abbrev pub header : ℕ → List ℕ
header blocks = mark ++ to_be_bytes w16 blocks

-- how many blocks a flash may have
abbrev pub IsBlocks : ℕ → Type 0
IsBlocks blocks = (256 ≤ blocks) × (blocks ≤ 2048)

-- a state byte, and behind 1 the bytes of the page
abbrev pub state_bytes : PageState → List ℕ
state_bytes Erased = 0 ∷ []
state_bytes (Whole bytes) = 1 ∷ bytes
state_bytes Cut = 2 ∷ []

-- the pages below a number in their order
unfoldable pub pages_bytes : Image → ℕ → List ℕ
pages_bytes image zero = []
pages_bytes image (suc n) = pages_bytes image n ++ state_bytes (image n)

-- the file of an image with so many blocks
abbrev pub image_bytes : Image → ℕ → List ℕ
image_bytes image blocks = header blocks ++ pages_bytes image (32 * blocks)

-- no header stands at the front
abbrev pub HasNoHeader : List ℕ → Type 0
HasNoHeader bytes = (blocks : ℕ) (rest : List ℕ) → IsBlocks blocks → bytes ≢ header blocks ++ rest

-- the bytes end inside a page
abbrev pub EndsInside : List ℕ → Type 0
EndsInside rest = (rest ≡ []) ⊎ ((bytes : List ℕ) × (rest ≡ 1 ∷ bytes) × (length bytes < 4160))

-- the bytes begin with the pages of an image below a page, and these are left
pub record BeginsWith (bytes : List ℕ) (page : ℕ) (rest : List ℕ) : Type 0 where
  pub image : Image
  pub whole : (q : ℕ) → IsPageState (image q)
  pub parts : bytes ≡ pages_bytes image page ++ rest

-- behind whole pages the state byte of this one is above 2
pub record HasBadState (bytes : List ℕ) (pages page : ℕ) : Type 0 where
  pub state : ℕ
  pub rest : List ℕ
  pub above : 2 < state
  pub inside : page < pages
  pub begins : BeginsWith bytes page (state ∷ rest)

-- the bytes end inside this page
pub record EndsEarly (bytes : List ℕ) (pages page : ℕ) : Type 0 where
  pub rest : List ℕ
  pub ends : EndsInside rest
  pub inside : page < pages
  pub begins : BeginsWith bytes page rest

-- bytes follow the last page
pub record GoesOn (bytes : List ℕ) (pages : ℕ) : Type 0 where
  pub rest : List ℕ
  pub some : rest ≢ []
  pub begins : BeginsWith bytes pages rest

-- why bytes aren't so many pages
abbrev pub RefusesPages : List ℕ → ℕ → ImageFault → Type 0
RefusesPages bytes pages BadHeader = ⊥
RefusesPages bytes pages (BadState page) = HasBadState bytes pages page
RefusesPages bytes pages BadLength = GoesOn bytes pages ⊎ ((page : ℕ) × EndsEarly bytes pages page)
RefusesPages bytes pages Memory = Unit {0}

-- behind a header of so many blocks the bytes aren't their pages
pub record RefusesBody (bytes : List ℕ) (fault : ImageFault) : Type 0 where
  pub blocks : ℕ
  pub body : List ℕ
  pub range : IsBlocks blocks
  pub parts : bytes ≡ header blocks ++ body
  pub refuses : RefusesPages body (32 * blocks) fault

-- why bytes are no image file: the first fault from left to right
abbrev pub Refuses : List ℕ → ImageFault → Type 0
Refuses bytes BadHeader = HasNoHeader bytes
Refuses bytes (BadState page) = RefusesBody bytes (BadState page)
Refuses bytes BadLength = RefusesBody bytes BadLength
Refuses bytes Memory = Unit {0}
