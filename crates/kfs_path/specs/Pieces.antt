-- The pieces of a path.
use Rattle.std.specs.Prelude.{ℕ, Bool, false, not, ◌||◌, ◌==◌, nat_lt, List, [], ◌∷◌, length, filter, Result, Ok, Err, if◌then◌else◌, ◌≡◌, ◌++◌, ◌-◌, slice_get}
use Rattle.std.specs.Option.{option_map_or}
use Rattle.std.specs.List.{slice_split, list_any}
use Rattle.kfs_path.specs.declared.path.PathFault.{PathFault}
use Rattle.kfs_path.specs.declared.path.PathFault.TheVariants.{NoEntry, NameTooLong, Memory}

-- the byte `/`
abbrev pub is_slash : ℕ → Bool
is_slash b = b == 47

abbrev pub is_empty : List ℕ → Bool
is_empty piece = length piece == 0

-- the names, and the piece unless it is empty
abbrev pub closed : List (List ℕ) → List ℕ → List (List ℕ)
closed names piece = if is_empty piece then names else names ++ piece ∷ []

-- the pieces between slashes that aren't empty
abbrev pub pieces_of : List ℕ → List (List ℕ)
pieces_of bytes = filter (λ piece. not (is_empty piece)) (slice_split is_slash bytes)

-- whether the last byte is a slash
abbrev pub ends_in_slash : List ℕ → Bool
ends_in_slash bytes = option_map_or is_slash (slice_get bytes (length bytes - 1)) false

-- a piece of more than 255 bytes
abbrev pub has_long : List (List ℕ) → Bool
has_long pieces = list_any (λ piece. nat_lt 255 (length piece)) pieces

-- more than 1,024 bytes, or a piece of more than 255
abbrev pub is_too_long : List ℕ → Bool
is_too_long bytes = nat_lt 1024 (length bytes) || has_long (pieces_of bytes)

-- the first of the path's answers that applies
abbrev pub path_of : List ℕ → Result (List (List ℕ) × Bool) PathFault
path_of bytes =
    if is_empty bytes then Err NoEntry else
    if is_too_long bytes then Err NameTooLong else
    Ok (pieces_of bytes, ends_in_slash bytes)

-- What a function returned, seen by view, is what reading gives, unless memory ran out.
abbrev pub ReadsPath : {X Y : Type 0} → (X → Y) → Result X PathFault → Result Y PathFault → Type 0
ReadsPath view (Ok x) read = read ≡ Ok (view x)
ReadsPath view (Err Memory) read = Unit {0}
ReadsPath view (Err NoEntry) read = read ≡ Err NoEntry
ReadsPath view (Err NameTooLong) read = read ≡ Err NameTooLong
