-- A value's page says its key and its length.
use Rattle.std.proofs.Common.{◌≡◌, ◌∙◌, ℕ, ◌-◌, ◌<◌, ◌≤◌, ◌^◌, true, List, ◌++◌, length, take, drop, get_or, replicate, append_assoc, length-take, refl, sym, ap, arith, length-append}
use Rattle.std.specs.Str.{bytes_eq}
use Rattle.std.proofs.lemmas.List.{take_at, drop_at, drop-drop, length-take-le, length-replicate, get_or-append_right}
use Rattle.std.proofs.lemmas.Bool.{and_parts, and_from, leb-true, le-leb}
use Rattle.std.proofs.lemmas.Slice.Eq.{bytes_eq-Decides}
use Rattle.std.proofs.lemmas.Nat.{from_be_bytes-to_be_bytes_2}
use Rattle.kv_nand.specs.Flash.{PageState, Erased, Whole, Cut}
use Rattle.kssd_entry.specs.Spelling.{filled}
use Rattle.kssd_entry.specs.Reading.{count_in}
use Rattle.kssd_image.specs.ValuePages.{value_spare, value_page, first_bytes, may_have_page, is_value_page, has_value, key_in_page, HoldsValue}

length-filled : (n : ℕ) (bytes : List ℕ) → length bytes ≤ n → length (filled n bytes) ≡ n
unfolding filled
length-filled n bytes h = omega (arith, length-append bytes (replicate (n - length bytes) 0), length-replicate {A = ℕ} (n - length bytes) 0)

-- the spare bytes
spare_of : (key value : List ℕ) → length value ≤ 4096 → drop 4096 (value_page key value) ≡ filled 64 (value_spare key (length value))
unfolding value_page
spare_of key value h = drop_at (filled 4096 value) (filled 64 (value_spare key (length value))) 4096 (length-filled 4096 value h)

length_at : (key : List ℕ) (n : ℕ) → get_or (filled 64 (value_spare key n)) 16 0 ≡ length key
unfolding filled
length_at key n = refl

key_at : (key : List ℕ) (n : ℕ) → take (length key) (drop 17 (filled 64 (value_spare key n))) ≡ key
unfolding filled
key_at key n = take_at key (replicate (64 - length (value_spare key n)) 0) (length key) refl

count_at : (key : List ℕ) (n : ℕ) → n < 2 ^ 16 → count_in (filled 64 (value_spare key n)) ≡ n
unfolding filled
count_at key n h = from_be_bytes-to_be_bytes_2 n h

pub key_read : (key value : List ℕ) → length value ≤ 4096 → key_in_page (value_page key value) ≡ key
unfolding value_page
key_read key value h =
    let spare = filled 64 (value_spare key (length value)) in
    let at : get_or (value_page key value) 4112 0 ≡ length key = get_or-append_right (filled 4096 value) spare 4096 4112 0 (length-filled 4096 value h) (omega arith) ∙ length_at key (length value) in
    let behind : drop 4113 (value_page key value) ≡ drop 17 spare = sym (drop-drop 17 4096 (value_page key value)) ∙ ap (drop 17) (spare_of key value h) in
    (λ i. take (at i) (behind i)) ∙ key_at key (length value)

pub count_read : (key value : List ℕ) → length value ≤ 4096 → count_in (drop 4096 (value_page key value)) ≡ length value
count_read key value h = ap count_in (spare_of key value h) ∙ count_at key (length value) (omega arith)

pub size_of_page : (key value : List ℕ) → length key ≤ 32 → length value ≤ 4096 → length (value_page key value) ≡ 4160
unfolding value_page
size_of_page key value short fits =
    let spare : length (filled 64 (value_spare key (length value))) ≡ 64 = length-filled 64 (value_spare key (length value)) (omega arith) in
    omega (arith, length-append (filled 4096 value) (filled 64 (value_spare key (length value))), length-filled 4096 value fits)

pub value_read : (key value : List ℕ) → length value ≤ 4096 → take (length value) (value_page key value) ≡ value
unfolding value_page filled
value_read key value h =
    let spare = filled 64 (value_spare key (length value)) in
    let zeros = replicate (4096 - length value) 0 in
    ap (take (length value)) (append_assoc value zeros spare) ∙ take_at value (zeros ++ spare) (length value) refl

-- what the test says
pub record Sizes (key : List ℕ) (size : ℕ) : Type 0 where
  pub some : 1 ≤ length key
  pub short : length key ≤ 32
  pub large : 129 ≤ size
  pub fits : size ≤ 4096

pub sizes_from : (key : List ℕ) (size : ℕ) → may_have_page key size ≡ true → Sizes key size
sizes_from key size h =
    let p = and_parts _ _ h in
    let k = and_parts _ _ p.0 in
    let n = and_parts _ _ p.1 in
    record { some = leb-true _ _ k.0; short = leb-true _ _ k.1; large = leb-true _ _ n.0; fits = leb-true _ _ n.1 }

pub may_from : (key : List ℕ) (size : ℕ) → Sizes key size → may_have_page key size ≡ true
may_from key size s = and_from _ _ (and_from _ _ (le-leb _ _ s.some) (le-leb _ _ s.short)) (and_from _ _ (le-leb _ _ s.large) (le-leb _ _ s.fits))

pub record Said (key : List ℕ) (size : ℕ) (bytes : List ℕ) : Type 0 where
  pub sizes : Sizes key size
  pub page : bytes ≡ value_page key (take size bytes)
  pub length_is : length (take size bytes) ≡ size

pub is_said : (key : List ℕ) (size : ℕ) (bytes : List ℕ) → is_value_page key size bytes ≡ true → Said key size bytes
unfolding is_value_page
is_said key size bytes h =
    let p = and_parts _ _ h in
    let s = sizes_from key size p.0 in
    let page : value_page key (take size bytes) ≡ bytes = (bytes_eq-Decides (value_page key (take size bytes)) bytes).0 p.1 in
    let few : length (take size bytes) ≤ size = omega (arith, length-take size bytes) in
    let all : length bytes ≡ 4160 = sym (ap length page) ∙ size_of_page key (take size bytes) s.short (omega (arith, few, s.fits)) in
    record { sizes = s; page = sym page; length_is = length-take-le size bytes (omega (arith, s.fits)) }

pub holds_from : (key : List ℕ) (size : ℕ) (state : PageState) → has_value key size state ≡ true → HoldsValue key (first_bytes size state) state × (length (first_bytes size state) ≡ size)
holds_from key size Erased h = absurd cc
holds_from key size Cut h = absurd cc
holds_from key size (Whole bytes) h =
    let s = is_said key size bytes h in
    (record { page = ap Whole s.page; key_some = s.sizes.some; key_short = s.sizes.short; large = omega (arith, s.length_is, s.sizes.large); fits = omega (arith, s.length_is, s.sizes.fits) }, s.length_is)

pub holds_again : (key value : List ℕ) (state : PageState) → HoldsValue key value state → (has_value key (length value) state ≡ true) × (first_bytes (length value) state ≡ value)
unfolding is_value_page
holds_again key value state h =
    let read = value_read key value h.fits in
    let same : bytes_eq (value_page key (take (length value) (value_page key value))) (value_page key value) ≡ true = (bytes_eq-Decides _ _).1 (ap (value_page key) read) in
    let may = may_from key (length value) (record { some = h.key_some; short = h.key_short; large = h.large; fits = h.fits }) in
    (ap (has_value key (length value)) h.page ∙ and_from _ _ may same, ap (first_bytes (length value)) h.page ∙ read)

pub one_key : (key other : List ℕ) (size most : ℕ) (state : PageState) → has_value key size state ≡ true → has_value other most state ≡ true → (key ≡ other) × (size ≡ most)
one_key key other size most Erased h g = absurd cc
one_key key other size most Cut h g = absurd cc
one_key key other size most (Whole bytes) h g =
    let s = is_said key size bytes h in
    let t = is_said other most bytes g in
    let small : length (take size bytes) ≤ 4096 = omega (arith, s.length_is, s.sizes.fits) in
    let few : length (take most bytes) ≤ 4096 = omega (arith, t.length_is, t.sizes.fits) in
    let same : value_page key (take size bytes) ≡ value_page other (take most bytes) = sym s.page ∙ t.page in (
      sym (key_read key (take size bytes) small) ∙ ap key_in_page same ∙ key_read other (take most bytes) few,
      sym s.length_is ∙ sym (count_read key (take size bytes) small) ∙ ap (λ (b : List ℕ). count_in (drop 4096 b)) same ∙ count_read other (take most bytes) few ∙ t.length_is,
    )
