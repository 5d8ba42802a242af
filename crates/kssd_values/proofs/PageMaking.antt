-- The page of a value, put together on a page of zeros, and what it names.
use Rattle.std.proofs.Common.{◌≡◌, ◌∙◌, ℕ, ◌+◌, ◌-◌, ◌<◌, ◌≤◌, true, List, [], ◌∷◌, ◌++◌, length, take, drop, get_or, replicate, refl, sym, ap, append_assoc, arith, length-append, length-take, length-drop}
use Rattle.std.specs.Int.{w16, from_be_bytes}
use Rattle.std.proofs.Math.Seq.{drop-append-add}
use Rattle.std.proofs.lemmas.List.{take_at, drop-drop, drop-replicate, replicate-append-replicate, length-replicate, get_or-append_right}
use Rattle.kv_base.specs.Sizes.{blank, written}
use Rattle.kv_nand.specs.Flash.{Whole}
use Rattle.kssd_entry.specs.Sizes.{IsPageLength}
use Rattle.kssd_entry.specs.Spelling.{filled, spare_bytes}
use Rattle.kssd_image.specs.ValuePages.{value_head, value_spare, value_page, key_in_page, is_value_page}
use Rattle.kssd_image.proofs.ValuePages.{is_said}
use Rattle.kssd_values.specs.Pages.{size_in}

length-filled : (n : ℕ) (bytes : List ℕ) → length bytes ≤ n → length (filled n bytes) ≡ n
unfolding filled
length-filled n bytes h = omega (arith, length-append bytes (replicate (n - length bytes) 0), length-replicate {A = ℕ} (n - length bytes) 0)

written_on : (front x : List ℕ) (place m : ℕ) → length front ≡ place → written (front ++ replicate m 0) place x ≡ (front ++ x) ++ replicate (m - length x) 0
written_on front x place m e =
    let before : take place (front ++ replicate m 0) ≡ front = take_at front (replicate m 0) place e in
    let behind : drop (place + length x) (front ++ replicate m 0) ≡ replicate (m - length x) 0 = ap (λ n. drop (n + length x) (front ++ replicate m 0)) (sym e) ∙ drop-append-add front (replicate m 0) (length x) ∙ drop-replicate (length x) m 0 in
    λ i. (before i ++ x) ++ behind i

-- data, so many named bytes and more behind them, on a page of m data bytes and 64 spare bytes
made : (m n named : ℕ) (page front head more : List ℕ) → page ≡ replicate n 0 → n ≡ m + 64 → length front ≤ m → length head ≡ named → named + length more ≤ 64
    → written (written (written page 0 front) m head) (m + named) more ≡ filled m front ++ filled 64 (head ++ more)
unfolding filled
made m n named page front head more is size few len fits =
    let zeros : replicate (n - length front) 0 ≡ replicate (m - length front) 0 ++ replicate 64 0 = ap (λ k. replicate k 0) (let e : n - length front ≡ (m - length front) + 64 = omega arith in e) ∙ sym (replicate-append-replicate (m - length front) 64 0) in
    let body : List ℕ = front ++ replicate (m - length front) 0 in
    let first : written page 0 front ≡ body ++ replicate 64 0 = ap (λ (p : List ℕ). written p 0 front) is ∙ written_on [] front 0 n refl ∙ ap (λ (z : List ℕ). front ++ z) zeros ∙ sym (append_assoc front (replicate (m - length front) 0) (replicate 64 0)) in
    let whole : length body ≡ m = length-filled m front few in
    let second : written (body ++ replicate 64 0) m head ≡ (body ++ head) ++ replicate (64 - length head) 0 = written_on body head m 64 whole in
    let third : written ((body ++ head) ++ replicate (64 - length head) 0) (m + named) more ≡ ((body ++ head) ++ more) ++ replicate ((64 - length head) - length more) 0 =
    written_on (body ++ head) more (m + named) (64 - length head) (omega (arith, length-append body head)) in
    let left : replicate ((64 - length head) - length more) 0 ≡ replicate (64 - length (head ++ more)) 0 = ap (λ k. replicate k 0) (let e : (64 - length head) - length more ≡ 64 - length (head ++ more) = omega (arith, length-append head more) in e) in
    ap (λ (p : List ℕ). written (written p m head) (m + named) more) first
    ∙ ap (λ (p : List ℕ). written p (m + named) more) second
    ∙ third
    ∙ ap (λ (z : List ℕ). ((body ++ head) ++ more) ++ z) left
    ∙ ap (λ (z : List ℕ). z ++ replicate (64 - length (head ++ more)) 0) (append_assoc body head more)
    ∙ append_assoc body (head ++ more) (replicate (64 - length (head ++ more)) 0)

pub page_made : (key value page spare : List ℕ) → page ≡ blank → length key ≤ 32 → length value ≤ 4096 → spare ≡ spare_bytes value_head (length value) ++ length key ∷ []
    → written (written (written page 0 value) 4096 spare) 4113 key ≡ value_page key value
unfolding blank value_page
page_made key value page spare is short fits e =
    let size : length spare ≡ 17 = ap length e in
    made 4096 4160 17 page value spare key is (omega arith) fits size (omega arith)
    ∙ ap (λ (s : List ℕ). filled 4096 value ++ filled 64 (s ++ key)) e

first_spare : (key : List ℕ) (n : ℕ) → get_or (filled 64 (value_spare key n)) (4096 - 4096) 0 ≡ 4
unfolding filled
first_spare key n = refl

pub kind_there : (key value : List ℕ) → length value ≤ 4096 → get_or (value_page key value) 4096 0 ≡ 4
unfolding value_page
kind_there key value fits =
    get_or-append_right (filled 4096 value) (filled 64 (value_spare key (length value))) 4096 4096 0 (length-filled 4096 value fits) (omega arith) ∙ first_spare key (length value)

-- ---- what a page names

size_there : (bytes : List ℕ) → from_be_bytes w16 (take 2 (drop 4106 bytes)) ≡ size_in (Whole bytes)
size_there bytes = ap (λ (b : List ℕ). from_be_bytes w16 (take 2 b)) (sym (drop-drop 10 4096 bytes))

pub size_read : (bytes page : List ℕ) (n : ℕ) → n ≡ from_be_bytes w16 (take 2 (drop 4106 bytes)) → bytes ≡ page → n ≡ size_in (Whole page)
size_read bytes page n is same = is ∙ ap (λ (b : List ℕ). from_be_bytes w16 (take 2 (drop 4106 b))) same ∙ size_there page

-- the sizes of what a value's page names
pub record AreNamed (bytes : List ℕ) : Type 0 where
  pub length_is : IsPageLength (size_in (Whole bytes))
  pub key_length : get_or bytes 4112 0 ≤ 32
  pub key_some : 0 < length (key_in_page bytes)
  pub key_short : length (key_in_page bytes) ≤ 264

pub are_named : (bytes : List ℕ) → length bytes ≡ 4160 → is_value_page (key_in_page bytes) (size_in (Whole bytes)) bytes ≡ true → AreNamed bytes
are_named bytes whole h =
    let said = is_said (key_in_page bytes) (size_in (Whole bytes)) bytes h in
    let cut = length-take (get_or bytes 4112 0) (drop 4113 bytes) in
    record {
      length_is = (said.sizes.large, said.sizes.fits);
      key_length = omega (arith, cut, said.sizes.short, length-drop 4113 bytes);
      key_some = omega (arith, said.sizes.some);
      key_short = omega (arith, said.sizes.short);
    }
