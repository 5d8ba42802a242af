-- What the outside of the program gives and takes.
use Rattle.std.specs.Prelude.{ℕ, ◌≡◌, ◌≤◌, List, [], ◌++◌, Option, Some, IfSome}
use Rattle.kv_base.specs.Counts.{one_more}

-- what an end of the program tells: its bytes, where it tells them, and how often it failed
pub record Side : Type 0 where
  pub bytes : Option (List ℕ)
  pub faults : ℕ

-- a count of faults rose; at its greatest it stays
abbrev pub HasRisen : ℕ → ℕ → Type 0
HasRisen before now = one_more before ≤ now

-- the bytes given are the first of those that were left, and the others are left now
abbrev pub Gives : Option (List ℕ) → List ℕ → Option (List ℕ) → Type 0
Gives before given now = IfSome before (λ all. (rest : List ℕ) × (now ≡ Some rest) × (all ≡ given ++ rest))

-- nothing is left
abbrev pub IsAtEnd : Option (List ℕ) → Type 0
IsAtEnd left = IfSome left (λ bytes. bytes ≡ [])

-- nothing is left of the bytes that were left
abbrev pub IsReadOut : Option (List ℕ) → Option (List ℕ) → Type 0
IsReadOut before now = IfSome before (λ _. now ≡ Some [])

-- all the bytes that were left are given, and nothing is left
abbrev pub GivesAll : Option (List ℕ) → List ℕ → Option (List ℕ) → Type 0
GivesAll before given now = IfSome before (λ all. (all ≡ given) × (now ≡ Some []))

-- the bytes taken stand behind those that were there
abbrev pub Takes : Option (List ℕ) → List ℕ → Option (List ℕ) → Type 0
Takes before taken now = IfSome before (λ got. now ≡ Some (got ++ taken))

-- some first bytes of a text were taken
abbrev pub TakesSome : Option (List ℕ) → List ℕ → Option (List ℕ) → Type 0
TakesSome before text now = (taken : List ℕ) × (rest : List ℕ) × (text ≡ taken ++ rest) × Takes before taken now
