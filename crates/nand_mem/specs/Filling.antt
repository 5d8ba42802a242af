-- Why the bytes at the front are no page.
use Rattle.std.specs.Prelude.{◌≡◌, ◌<◌, ℕ, List, ◌∷◌}
use Rattle.nand_mem.specs.declared.fault.ImageFault.{ImageFault}
use Rattle.nand_mem.specs.declared.fault.ImageFault.TheVariants.{BadHeader, BadState, BadLength, Memory}
use Rattle.nand_mem.specs.ImageFile.{EndsInside}

-- a state byte above 2 stands there
pub record BeginsBadly (bytes : List ℕ) : Type 0 where
  pub state : ℕ
  pub rest : List ℕ
  pub above : 2 < state
  pub parts : bytes ≡ state ∷ rest

-- why the bytes don't begin with the page of this number
abbrev pub RefusesPage : ℕ → List ℕ → ImageFault → Type 0
RefusesPage page bytes BadHeader = ⊥
RefusesPage page bytes (BadState bad) = (bad ≡ page) × BeginsBadly bytes
RefusesPage page bytes BadLength = EndsInside bytes
RefusesPage page bytes Memory = ⊥
