-- Pages of values: the one spelling of a value under its key.
use Rattle.std.specs.Prelude.{◌≡◌, ◌≤◌, ℕ, Bool, true, false, ◌&&◌, nat_le, List, [], ◌∷◌, ◌++◌, length, take, drop, get_or}
use Rattle.std.specs.Str.{bytes_eq}
use Rattle.kv_nand.specs.Flash.{PageState, Erased, Whole, Cut}
use Rattle.kssd_entry.specs.declared.packer.PageHead.{PageHead}
use Rattle.kssd_entry.specs.Spelling.{filled, spare_bytes}

-- the spare bytes of a value's page: kind 4, and no flags, number or index
abbrev pub value_head : PageHead
value_head = record { kind = 4; flags = 0; number = 0; index = 0 }

-- the named spare bytes: the head with the value's length, and the key behind its length
abbrev pub value_spare : List ℕ → ℕ → List ℕ
value_spare key size = spare_bytes value_head size ++ length key ∷ key

-- the page of a value under its key: the value, and zero where nothing stands
unfoldable pub value_page : List ℕ → List ℕ → List ℕ
value_page key value = filled 4096 value ++ filled 64 (value_spare key (length value))

-- the first so many data bytes of a page
abbrev pub first_bytes : ℕ → PageState → List ℕ
first_bytes size Erased = []
first_bytes size (Whole bytes) = take size bytes
first_bytes size Cut = []

-- whether a key and the length of a value may have a page: 1 to 32 bytes, and 129 to 4,096
abbrev pub may_have_page : List ℕ → ℕ → Bool
may_have_page key size = (nat_le 1 (length key) && nat_le (length key) 32) && (nat_le 129 size && nat_le size 4096)

-- whether bytes are the page of a value of this length under this key
unfoldable pub is_value_page : List ℕ → ℕ → List ℕ → Bool
is_value_page key size bytes = may_have_page key size && bytes_eq (value_page key (take size bytes)) bytes

-- whether a page is Whole and is that page
abbrev pub has_value : List ℕ → ℕ → PageState → Bool
has_value key size Erased = false
has_value key size (Whole bytes) = is_value_page key size bytes
has_value key size Cut = false

-- the key of which the spare bytes say that its value stands in the page
abbrev pub key_in_page : List ℕ → List ℕ
key_in_page bytes = take (get_or bytes 4112 0) (drop 4113 bytes)

-- the page is Whole and holds this value of this key
pub record HoldsValue (key value : List ℕ) (state : PageState) : Type 0 where
  pub page : state ≡ Whole (value_page key value)
  pub key_some : 1 ≤ length key
  pub key_short : length key ≤ 32
  pub large : 129 ≤ length value
  pub fits : length value ≤ 4096

-- the test and the facts say the same; a page has one key and one value, and both can be read from its bytes
pub record ValuePagesAreSpelled : Type 0 where
  pub holds : (key : List ℕ) (size : ℕ) (state : PageState) → has_value key size state ≡ true → HoldsValue key (first_bytes size state) state × (length (first_bytes size state) ≡ size)
  pub again : (key value : List ℕ) (state : PageState) → HoldsValue key value state → (has_value key (length value) state ≡ true) × (first_bytes (length value) state ≡ value)
  pub key_read : (key value : List ℕ) → length value ≤ 4096 → key_in_page (value_page key value) ≡ key
  pub size : (key value : List ℕ) → length key ≤ 32 → length value ≤ 4096 → length (value_page key value) ≡ 4160
  pub one_key : (key other : List ℕ) (size most : ℕ) (state : PageState) → has_value key size state ≡ true → has_value other most state ≡ true → (key ≡ other) × (size ≡ most)
