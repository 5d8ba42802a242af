-- What a device was asked for, in the words of those that ask.
use Rattle.std.specs.Prelude.{ℕ, Option, Some}

-- the cut that is planned, by its number and how it leaves its operation, the fault that is planned,
-- by its kind and its number, and how many operations the last work was asked for
pub record Asked : Type 0 where
  pub cut : Option (ℕ × ℕ)
  pub fault : Option (ℕ × ℕ)
  pub work : ℕ

-- a cut is planned, in the place of the old one
abbrev pub asks_cut : Asked → ℕ → ℕ → Asked
asks_cut a n how = record a { cut = Some (n, how) }

-- a fault is planned, in the place of the old one of any kind
abbrev pub asks_fault : Asked → ℕ → ℕ → Asked
asks_fault a kind n = record a { fault = Some (kind, n) }
