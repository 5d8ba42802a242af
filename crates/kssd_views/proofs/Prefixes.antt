-- Keys behind a prefix.
use Rattle.std.proofs.Common.{◌≡◌, ◌∙◌, ℕ, ◌<◌, Bool, true, false, cond, not, ◌&&◌, eqb, ltb, List, [], ◌∷◌, length, take, refl, sym, ap, arith}
use Rattle.std.specs.Prelude.{nat_eq}
use Rattle.std.specs.List.{list_all, starts_with}
use Rattle.std.specs.Ordering.{is_lt, nat_cmp, ordering_then}
use Rattle.std.specs.Cmp.Lexicographic.{pointwise, slice_cmp}
use Rattle.std.specs.declared.cmp.Ordering.{Ordering}
use Rattle.std.specs.declared.cmp.Ordering.TheVariants.{Less, Equal, Greater}
use Rattle.std.proofs.lemmas.Bool.{and_parts, ltb-true, ne_eqb}
use Rattle.std.proofs.lemmas.Map.Lookups.{exact_unsigned}
use Rattle.kssd_entry.specs.declared.entry.Entry.{Entry}
use Rattle.kssd_entry.specs.Spelling.{key_of}
use Rattle.kssd_model.specs.Rising.{key_cmp, is_rising}
use Rattle.kssd_machine.specs.Viewing.{with_prefix}
use Rattle.kssd_views.specs.Listing.{is_past}

no_less : (o : Ordering) → o ≡ Less → is_lt o ≡ false → ⊥
no_less o h k = let e : true ≡ false = sym (ap is_lt h) ∙ k in absurd cc

less_from : (a b : ℕ) → nat_cmp a b ≡ Less → a < b
less_from a b h = by (ltb a b) (eqb a b) refl h
  where
    by : (l e : Bool) → ltb a b ≡ l → cond l Less (cond e Equal Greater) ≡ Less → a < b
    by true e k h = ltb-true a b k
    by false true k h = absurd (no_less Equal h refl)
    by false false k h = absurd (no_less Greater h refl)

differ : (a b : ℕ) → a < b → eqb a b ≡ false
differ a b h = ne_eqb a b (λ e. omega arith)

and_none : (b c : Bool) → c ≡ false → (b && c) ≡ false
and_none true c h = h
and_none false c h = refl

same_eqb : (a b : ℕ) → a ≡ b → eqb a b ≡ true
same_eqb a b h = ap (λ n. eqb a n) (sym h) ∙ own a
  where
    own : (n : ℕ) → eqb n n ≡ true
    own n = search (Rattle.std.proofs.Common.rules)

-- behind a key that is behind all keys with the prefix there is none with it
pub none_later : (prefix next key : List ℕ) → is_lt (key_cmp prefix next) ≡ true → starts_with nat_eq next prefix ≡ false → is_lt (key_cmp next key) ≡ true → starts_with nat_eq key prefix ≡ false
none_later [] [] key low other high = absurd (let e : true ≡ false = other in cc)
none_later [] (n ∷ ns) key low other high = absurd (let e : true ≡ false = other in cc)
none_later (p ∷ ps) [] key low other high = absurd (let e : false ≡ true = low in cc)
none_later (p ∷ ps) (n ∷ ns) [] low other high = absurd (let e : false ≡ true = high in cc)
none_later (p ∷ ps) (n ∷ ns) (q ∷ qs) low other high = by (nat_cmp p n) (nat_cmp n q) refl refl low high (none_later ps ns qs)
  where
    rest : List ℕ → Bool
    rest ks = pointwise nat_eq ps (take (length ps) ks)

    by : (a b : Ordering) → nat_cmp p n ≡ a → nat_cmp n q ≡ b → is_lt (ordering_then a (slice_cmp nat_cmp ps ns)) ≡ true → is_lt (ordering_then b (slice_cmp nat_cmp ns qs)) ≡ true
        → (is_lt (key_cmp ps ns) ≡ true → starts_with nat_eq ns ps ≡ false → is_lt (key_cmp ns qs) ≡ true → starts_with nat_eq qs ps ≡ false)
        → starts_with nat_eq (q ∷ qs) (p ∷ ps) ≡ false
    by Less Less h k low high again = let lt : p < q = omega (arith, less_from p n h, less_from n q k) in ap (λ b. b && pointwise nat_eq ps (take (length ps) qs)) (differ p q lt)
    by Less Equal h k low high again = let lt : p < q = omega (arith, less_from p n h, exact_unsigned n q k) in ap (λ b. b && pointwise nat_eq ps (take (length ps) qs)) (differ p q lt)
    by Equal Less h k low high again = let lt : p < q = omega (arith, exact_unsigned p n h, less_from n q k) in ap (λ b. b && pointwise nat_eq ps (take (length ps) qs)) (differ p q lt)
    by Equal Equal h k low high again =
        let same : eqb p n ≡ true = same_eqb p n (exact_unsigned p n h) in
        let behind : starts_with nat_eq ns ps ≡ false = sym (ap (λ b. b && pointwise nat_eq ps (take (length ps) ns)) same) ∙ other in
        and_none (eqb p q) (starts_with nat_eq qs ps) (again low behind high)
    by Greater b h k low high again = absurd (let e : false ≡ true = low in cc)
    by Less Greater h k low high again = absurd (let e : false ≡ true = high in cc)
    by Equal Greater h k low high again = absurd (let e : false ≡ true = high in cc)

-- so there is no entry with the prefix from a key behind it on
pub none_past : (prefix : List ℕ) (e : Entry) (es : List Entry) → is_past prefix (key_of e) ≡ true → is_rising (e ∷ es) ≡ true → with_prefix prefix (e ∷ es) ≡ []
none_past prefix e es past rising =
    let both = and_parts _ _ past in
    let other = not_true (starts_with nat_eq (key_of e) prefix) both.1 in
    ap (λ b. cond b (e ∷ with_prefix prefix es) (with_prefix prefix es)) other ∙ later es (and_parts _ _ rising).0 both.0 other
  where
    not_true : (b : Bool) → not b ≡ true → b ≡ false
    not_true true h = absurd (let e : false ≡ true = h in cc)
    not_true false h = refl

    later : (es : List Entry) → list_all (λ f. is_lt (key_cmp (key_of e) (key_of f))) es ≡ true → is_lt (key_cmp prefix (key_of e)) ≡ true → starts_with nat_eq (key_of e) prefix ≡ false → with_prefix prefix es ≡ []
    later [] all low other = refl
    later (f ∷ fs) all low other =
        let both = and_parts _ _ all in
        ap (λ b. cond b (f ∷ with_prefix prefix fs) (with_prefix prefix fs)) (none_later prefix (key_of e) (key_of f) low other both.0) ∙ later fs both.1 low other
