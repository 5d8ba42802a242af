-- The page of a run that may have a key.
use Rattle.std.specs.Prelude.{◌≡◌, ◌<◌, ◌≤◌, ℕ, List, true, false, length, get_or}
use Rattle.std.specs.Ordering.{is_le, is_lt}
use Rattle.kssd_model.specs.Rising.{key_cmp}

-- the keys rise
abbrev pub RisingKeys : List (List ℕ) → Type 0
RisingKeys keys = (i j : ℕ) (d : List ℕ) → i < j → j < length keys → is_lt (key_cmp (get_or keys i d) (get_or keys j d)) ≡ true

-- so many keys are at or below this one, and all others above it
pub record IsPageOfKey (keys : List (List ℕ)) (key : List ℕ) (n : ℕ) : Type 0 where
  pub within : n ≤ length keys
  pub upto : (i : ℕ) (d : List ℕ) → i < n → is_le (key_cmp (get_or keys i d) key) ≡ true
  pub above : (i : ℕ) (d : List ℕ) → n ≤ i → i < length keys → is_le (key_cmp (get_or keys i d) key) ≡ false
