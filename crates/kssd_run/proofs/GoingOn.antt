-- Entries by rising keys, one list behind another.
use Rattle.std.proofs.Common.{◌≡◌, ◌∙◌, ℕ, suc, ◌+◌, ◌-◌, ◌<◌, Bool, true, false, ◌&&◌, List, [], ◌∷◌, ◌++◌, length, get_or, take, Option, Some, None, refl, sym, ap, arith}
use Rattle.std.specs.Prelude.{slice_get}
use Rattle.std.specs.Ordering.{is_lt}
use Rattle.std.specs.declared.cmp.Ordering.{Ordering}
use Rattle.std.specs.declared.cmp.Ordering.TheVariants.{Less, Equal, Greater}
use Rattle.std.proofs.lemmas.Bool.{and_parts, and_from, true≢false, false≢true, false_from_ne_true}
use Rattle.std.proofs.lemmas.List.{take_more, get_or_default}
use Rattle.kssd_entry.specs.declared.entry.Entry.{Entry}
use Rattle.kssd_entry.specs.Spelling.{key_of}
use Rattle.kssd_model.specs.Rising.{key_cmp, is_rising}
use Rattle.kssd_model.proofs.RisingEntries.{above_first, rising_at, above_split}
use Rattle.kssd_run.specs.Judging.{are_apart, goes_on}

-- the last entry
abbrev pub last_of : List Entry → Option Entry
last_of [] = None
last_of (x ∷ []) = Some x
last_of (x ∷ (y ∷ ys)) = last_of (y ∷ ys)

pub last_is : (xs : List Entry) → slice_get xs (length xs - 1) ≡ last_of xs
last_is [] = refl
last_is (x ∷ []) = refl
last_is (x ∷ (y ∷ ys)) =
    let e : length (x ∷ (y ∷ ys)) - 1 ≡ suc (length (y ∷ ys) - 1) = omega arith in
    ap (slice_get (x ∷ (y ∷ ys))) e ∙ last_is (y ∷ ys)

pub last_of-push : (xs : List Entry) (y : Entry) → last_of (xs ++ y ∷ []) ≡ Some y
last_of-push [] y = refl
last_of-push (x ∷ []) y = refl
last_of-push (x ∷ (z ∷ zs)) y = last_of-push (z ∷ zs) y

-- what is not empty has the last
pub last_of-append : (xs ys : List Entry) → 0 < length ys → last_of (xs ++ ys) ≡ last_of ys
last_of-append [] ys some = refl
last_of-append (x ∷ []) [] some = absurd (omega arith)
last_of-append (x ∷ []) (y ∷ ys) some = refl
last_of-append (x ∷ (z ∷ zs)) ys some = last_of-append (z ∷ zs) ys some

less : (o : Ordering) → is_lt o ≡ true → o ≡ Less
less Less h = refl
less Equal h = absurd (false≢true h)
less Greater h = absurd (false≢true h)

pub rising_append : (xs ys : List Entry) → is_rising xs ≡ true → is_rising ys ≡ true → are_apart (last_of xs) (slice_get ys 0) ≡ true → is_rising (xs ++ ys) ≡ true
rising_append [] ys h g a = g
rising_append (x ∷ []) [] h g a = refl
rising_append (x ∷ []) (y ∷ ys) h g a = and_from _ _ (above_first (key_of x) y ys g (less _ a)) g
rising_append (x ∷ (z ∷ zs)) ys h g a =
    let p = and_parts _ _ h in
    let rest = rising_append (z ∷ zs) ys p.1 g a in
    and_from _ _ (above_first (key_of x) z (zs ++ ys) rest (less _ (and_parts _ _ p.0).0)) rest

pub rising_second : (xs ys : List Entry) → is_rising (xs ++ ys) ≡ true → is_rising ys ≡ true
rising_second [] ys h = h
rising_second (x ∷ xs) ys h = rising_second xs ys (and_parts _ _ h).1

pub rising_first : (xs ys : List Entry) → is_rising (xs ++ ys) ≡ true → is_rising xs ≡ true
rising_first [] ys h = refl
rising_first (x ∷ xs) ys h =
    let p = and_parts _ _ h in
    and_from _ _ (above_split (key_of x) xs ys p.0).0 (rising_first xs ys p.1)

pub rising_apart : (xs ys : List Entry) → is_rising (xs ++ ys) ≡ true → are_apart (last_of xs) (slice_get ys 0) ≡ true
rising_apart [] ys h = refl
rising_apart (x ∷ []) [] h = refl
rising_apart (x ∷ []) (y ∷ ys) h = (and_parts _ _ (and_parts _ _ h).0).0
rising_apart (x ∷ (z ∷ zs)) ys h = rising_apart (z ∷ zs) ys (and_parts _ _ h).1

same_bool : (a b : Bool) → (a ≡ true → b ≡ true) → (b ≡ true → a ≡ true) → a ≡ b
same_bool true b f g = sym (f refl)
same_bool false true f g = g refl
same_bool false false f g = refl

-- behind entries that rise, others go on rising exactly where they rise and begin above the last
pub is_rising-append : (xs before ys : List Entry) → is_rising xs ≡ true → last_of xs ≡ last_of before → is_rising (xs ++ ys) ≡ (is_rising ys && goes_on before ys)
is_rising-append xs before ys h last =
    same_bool _ _
    (λ r. and_from _ _ (rising_second xs ys r) (sym (apart ys) ∙ rising_apart xs ys r))
    (λ r. let p = and_parts _ _ r in rising_append xs ys h p.0 (apart ys ∙ p.1))
  where
    apart : (ys : List Entry) → are_apart (last_of xs) (slice_get ys 0) ≡ goes_on before ys
    apart ys = ap (λ (o : Option Entry). are_apart o (slice_get ys 0)) (last ∙ sym (last_is before))

-- one more entry of a list
pub rising_more : (xs : List Entry) (i : ℕ) (x y : Entry) → 0 < i → i < length xs → is_rising (take i xs) ≡ true → x ≡ get_or xs (i - 1) x → y ≡ get_or xs i y → is_lt (key_cmp (key_of x) (key_of y)) ≡ true → is_rising (take (i + 1) xs) ≡ true
rising_more xs i x y pos within h x_is y_is lt =
    ap is_rising (take_more xs i y within ∙ ap (λ (e : Entry). take i xs ++ e ∷ []) (sym y_is))
    ∙ rising_append (take i xs) (y ∷ []) h refl (ap (λ (o : Option Entry). are_apart o (Some y)) last ∙ lt)
  where
    last : last_of (take i xs) ≡ Some x
    last =
        let e : i ≡ i - 1 + 1 = omega arith in
        ap (λ (k : ℕ). last_of (take k xs)) e ∙ ap last_of (take_more xs (i - 1) x (omega arith)) ∙ last_of-push (take (i - 1) xs) (get_or xs (i - 1) x) ∙ ap Some (sym x_is)

pub rising_one : (xs : List Entry) → is_rising (take 1 xs) ≡ true
rising_one [] = refl
rising_one (x ∷ xs) = refl

-- neighbours that don't rise
pub not_rising : (xs : List Entry) (i : ℕ) (x y : Entry) → 0 < i → i < length xs → x ≡ get_or xs (i - 1) x → y ≡ get_or xs i y → is_lt (key_cmp (key_of x) (key_of y)) ≡ false → is_rising xs ≡ false
not_rising xs i x y pos within x_is y_is ge = false_from_ne_true (is_rising xs) (λ h. true≢false (sym (lt h) ∙ ge))
  where
    lt : is_rising xs ≡ true → is_lt (key_cmp (key_of x) (key_of y)) ≡ true
    lt h =
        ap (λ (e : Entry). is_lt (key_cmp (key_of e) (key_of y))) (x_is ∙ default)
        ∙ ap (λ (e : Entry). is_lt (key_cmp (key_of (get_or xs (i - 1) y)) (key_of e))) y_is
        ∙ ap is_lt (rising_at xs (i - 1) i y h (omega arith) within)
      where
        default : get_or xs (i - 1) x ≡ get_or xs (i - 1) y
        default = get_or_default xs (i - 1) x y (omega arith)
