-- The names of pairs, and the age after an entry is set.
use Rattle.std.proofs.Common.{◌≡◌, ℕ, zero, suc, refl, ap, ◌∙◌, List, [], ◌∷◌, map, take, drop}
use Rattle.kv_base.specs.declared.pairs.Pair.{Pair}
use Rattle.kv_device.specs.Objects.{Objects, pairs_from, pair_of}
use Rattle.kv_device.specs.Calls.{set_ages}
use Rattle.kfs_objects.specs.Keys.{be64, entry_key}
use Rattle.kfs_objects.specs.Records.{entry_value}
use Rattle.kfs_dir.specs.Directory.{names_under}

map_take : {X Y : Type 0} (f : X → Y) (n : ℕ) (xs : List X) → map f (take n xs) ≡ take n (map f xs)
map_take f zero xs = refl
map_take f (suc n) [] = refl
map_take f (suc n) (x ∷ xs) = ap (λ ys. f x ∷ ys) (map_take f n xs)

-- the names of the first pairs are the first names
pub first_names : (m : Objects) (parent most : ℕ) (prefix : List ℕ) (pairs : List Pair) (names : List (List ℕ)) → prefix ≡ entry_key parent [] → map pair_of pairs ≡ take most (pairs_from m prefix prefix) → names ≡ map (λ (e : List ℕ × List ℕ). drop 9 e.0) (map pair_of pairs) → names ≡ take most (names_under m parent)
first_names m parent most prefix pairs names is found made =
    made ∙ ap (map (λ (e : List ℕ × List ℕ). drop 9 e.0)) (found ∙ ap (λ (k : List ℕ). take most (pairs_from m k k)) is)
    ∙ map_take (λ (e : List ℕ × List ℕ). drop 9 e.0) most (pairs_from m (entry_key parent []) (entry_key parent []))

-- setting an entry writes nothing
pub entry_ages : (n : ℕ) → set_ages (entry_value n) ≡ 0
unfolding be64
entry_ages n = refl
