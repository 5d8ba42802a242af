-- Objects: a finite map from keys to values, both lists of bytes, and changes of them.
use Rattle.std.specs.Prelude.{◌≡◌, ◌≤◌, ◌^◌, ℕ, Bool, not, ◌&&◌, nat_lt, nat_eq, List, [], ◌∷◌, length, count_by, filter, Option, Some, None}
use Rattle.std.specs.Ordering.{is_gt}
use Rattle.std.specs.List.{starts_with}
use Rattle.std.specs.Option.{ForSome}
use Rattle.std.specs.FinMap as objects
use Rattle.std.specs.FinMap.{FinMap}
use Rattle.kv_base.specs.Sizes.{IsKey, IsValue}
use Rattle.kv_base.specs.declared.pairs.Pair.{Pair}
use Rattle.kv_device.specs.Bytes.{bytes_cmp, AreBytes}

abbrev pub Objects : Type 0
Objects = FinMap bytes_cmp (List ℕ)

-- a transaction's changed keys: the new value, or nothing for a deletion
abbrev pub Changes : Type 0
Changes = FinMap bytes_cmp (Option (List ℕ))

-- the objects with one key changed
abbrev pub changed : Objects → List ℕ × Option (List ℕ) → Objects
changed m (key, Some value) = objects.insert m key value
changed m (key, None) = objects.remove m key

-- the objects with each of these changes made, the first of them first
abbrev pub changed_all : List (List ℕ × Option (List ℕ)) → Objects → Objects
changed_all [] m = m
changed_all (change ∷ changes) m = changed_all changes (changed m change)

-- the objects as a transaction with these changes sees them
unfoldable pub seen_through : Changes → Objects → Objects
seen_through changes m = changed_all (objects.entries changes) m

-- how many values need a page of their own
unfoldable pub page_count : Objects → ℕ
page_count m = count_by (λ v. nat_lt 128 (length v)) (objects.values m)

-- the key is at least from, and begins with the prefix
abbrev pub is_wanted : List ℕ → List ℕ → List ℕ → Bool
is_wanted from prefix key = not (is_gt (bytes_cmp from key)) && starts_with nat_eq key prefix

-- the pairs from a key on whose keys have a prefix
unfoldable pub pairs_from : Objects → List ℕ → List ℕ → List (List ℕ × List ℕ)
pairs_from m from prefix = filter (λ e. is_wanted from prefix e.0) (objects.entries m)

-- the objects from a key on whose keys have a prefix
abbrev pub wanted_of : Objects → List ℕ → List ℕ → Objects
wanted_of m from prefix = objects.retain_keys m (is_wanted from prefix)

abbrev pub pair_of : Pair → List ℕ × List ℕ
pair_of pair = (pair.key, pair.value)

-- ---- what a device can hold

-- keys have 1 to 264 bytes, values at most 4,096, and the keys can be counted
pub record IsHeld (m : Objects) : Type 0 where
  pub key_sizes : (key value : List ℕ) → objects.get m key ≡ Some value → IsKey key
  pub keys : (key value : List ℕ) → objects.get m key ≡ Some value → AreBytes key
  pub sizes : (key value : List ℕ) → objects.get m key ≡ Some value → IsValue value
  pub values : (key value : List ℕ) → objects.get m key ≡ Some value → AreBytes value
  pub few : objects.len m ≤ 2 ^ 64

-- what can be a key, and what can be a value
abbrev pub IsHeldKey : List ℕ → Type 0
IsHeldKey key = IsKey key × AreBytes key

abbrev pub IsHeldValue : List ℕ → Type 0
IsHeldValue value = IsValue value × AreBytes value

-- each key of the objects and each value can be one
abbrev pub AreHeld : Objects → Type 0
AreHeld m = (key value : List ℕ) → objects.get m key ≡ Some value → IsHeldKey key × IsHeldValue value

-- the same of the keys and the new values of changes
abbrev pub AreHeldChanges : Changes → Type 0
AreHeldChanges changes = (key : List ℕ) (change : Option (List ℕ)) → objects.get changes key ≡ Some change → IsHeldKey key × ForSome change IsHeldValue
