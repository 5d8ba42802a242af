-- Descriptors and descriptions.
use Rattle.std.specs.Prelude.{ℕ, suc, zero, Bool, ◌==◌, List, [], Option, Some, None, is_some, if◌then◌else◌}
use Rattle.std.specs.Ordering.{nat_cmp}
use Rattle.std.specs.List.{list_any}
use Rattle.std.specs.Option.{option_map, option_and_then}
use Rattle.std.specs.FinMap.{find, put}
pub use Rattle.kfs_model.specs.declared.Description.{Description}

-- the descriptors with the numbers of their descriptions, and these by their numbers
pub record Desk : Type 0 where
  pub descriptors : List (ℕ × ℕ)
  pub descriptions : List (ℕ × Description)

-- nothing is open
abbrev pub empty_desk : Desk
empty_desk = record { descriptors = []; descriptions = [] }

-- the description that a descriptor has, and its number
abbrev pub opened : Desk → ℕ → Option (ℕ × Description)
opened desk fd = option_and_then (λ d. option_map (λ it. (d, it)) (find nat_cmp d desk.descriptions)) (find nat_cmp fd desk.descriptors)

-- the lowest descriptor from fd on that isn't open, among so many
abbrev pub free_from : Desk → ℕ → ℕ → Option ℕ
free_from desk fd zero = None
free_from desk fd (suc more) = if is_some (find nat_cmp fd desk.descriptors) then free_from desk (suc fd) more else Some fd

-- the lowest of the 64 descriptors that isn't open
unfoldable pub lowest_free : Desk → Option ℕ
lowest_free desk = free_from desk 0 64

-- whether a description has the node
abbrev pub is_open : Desk → ℕ → Bool
is_open desk n = list_any (λ e. e.1.node == n) desk.descriptions

-- a description under its number, in the place of an older one
abbrev pub with_description : Desk → ℕ → Description → Desk
with_description desk d it = record { descriptors = desk.descriptors; descriptions = put nat_cmp d it desk.descriptions }
