-- The objects by the first bytes of their keys.
use Rattle.std.proofs.Common.{◌≡◌, ℕ, ◌+◌, ◌<◌, ◌⊎◌, inl, inr, ◌&&◌, not, true, false, cond, Bool, T, refl, sym, ◌∙◌, ap, subst, arith, List, [], ◌∷◌, ◌++◌, length, filter, get_or, nat_eq, nat_lt, None}
use Rattle.std.specs.Prelude.{◌==◌, nat_le}
use Rattle.std.specs.List.{list_all}
use Rattle.std.specs.Ordering.{nat_cmp, is_gt, is_lt, ordering_then}
use Rattle.std.specs.declared.cmp.Ordering.{Ordering}
use Rattle.std.specs.declared.cmp.Ordering.TheVariants.{Less, Equal, Greater}
use Rattle.std.specs.Cmp.Lexicographic.{slice_cmp, nat_list_cmp_total}
use Rattle.std.specs.FinMap as objects
use Rattle.std.specs.FinMap.Entries.{below_all, is_sorted, is_sorted-where_key, find-where_key, same_entries}
use Rattle.std.proofs.lemmas.Bool.Decides.{nat_tests}
use Rattle.kv_device.specs.Bytes.{bytes_cmp}
use Rattle.kv_device.specs.Objects.{Objects, pairs_from, is_wanted}
use Rattle.kfs_shows.proofs.Lookups.{same_bytes}
use Rattle.kfs_judge.specs.declared.row.Row.{Row}
use Rattle.kfs_judge.specs.Judging.{is_key, heard}
use Rattle.kfs_judge.specs.Rows.{AreRows}
use Rattle.kfs_judge.proofs.Hearing.{get_heard}

-- the first byte, and 256 where there is none
abbrev pub front_of : List ℕ × List ℕ → ℕ
front_of e = get_or e.0 0 256

abbrev pub is_below : ℕ → List ℕ × List ℕ → Bool
is_below b e = nat_lt (front_of e) b

abbrev pub is_at : ℕ → List ℕ × List ℕ → Bool
is_at b e = front_of e == b

not_less : (x b : ℕ) (r : Ordering) → x < b → T (is_lt (ordering_then (nat_cmp b x) r)) → ⊥
not_less x b r lt h =
    let e : nat_cmp b x ≡ Greater = ap (λ t. cond t Less (cond (b == x) Equal Greater)) (let a : nat_lt b x ≡ false = grind (arith, nat_tests) in a) ∙ ap (λ t. cond t Equal Greater) (let a : (b == x) ≡ false = grind (arith, nat_tests) in a) in
    subst (λ o. T (is_lt (ordering_then o r))) e h

no_less : (key : List ℕ) (b x : ℕ) (xs : List ℕ) → get_or key 0 256 ≡ b → b < 256 → T (is_lt (bytes_cmp key (x ∷ xs))) → x < b → ⊥
no_less [] b x xs is low h lt = absurd (omega arith)
no_less (y ∷ ys) b x xs is low h lt = not_less x y (slice_cmp nat_cmp ys xs) (omega arith) h

none_empty : (key : List ℕ) (b : ℕ) → get_or key 0 256 ≡ b → b < 256 → T (is_lt (bytes_cmp key [])) → ⊥
none_empty [] b is low h = omega arith
none_empty (y ∷ ys) b is low h = h

left_of : (a b : Bool) → T (a && b) → T a
left_of true b h = tt
left_of false b h = h

right_of : (a b : Bool) → T (a && b) → T b
right_of true b h = h
right_of false b h = absurd h

later : (key : List ℕ) (e : List ℕ × List ℕ) (b : ℕ) → get_or key 0 256 ≡ b → b < 256 → T (is_lt (bytes_cmp key e.0)) → is_below b e ≡ false
later key e b is low h = by e.0 h
  where
    by : (q : List ℕ) → T (is_lt (bytes_cmp key q)) → nat_lt (get_or q 0 256) b ≡ false
    by [] h = absurd (none_empty key b is low h)
    by (x ∷ xs) h = test (nat_lt x b) refl
      where
        test : (t : Bool) → nat_lt x b ≡ t → nat_lt x b ≡ false
        test false t = t
        test true t = absurd (no_less key b x xs is low h (grind (arith, nat_tests)))

none_below : (key : List ℕ) (es : List (List ℕ × List ℕ)) (b : ℕ) → get_or key 0 256 ≡ b → b < 256 → T (below_all bytes_cmp key es) → filter (is_below b) es ≡ []
none_below key [] b is low h = refl
none_below key (e ∷ es) b is low h = ap (λ t. cond t (e ∷ filter (is_below b) es) (filter (is_below b) es)) (later key e b is low (left_of _ _ h)) ∙ none_below key es b is low (right_of _ _ h)

abbrev Sides : ℕ → ℕ → Type 0
Sides x b = ((nat_lt x b ≡ true) × ((x == b) ≡ false) × (nat_lt x (b + 1) ≡ true)) ⊎ (((nat_lt x b ≡ false) × ((x == b) ≡ true) × (nat_lt x (b + 1) ≡ true) × (x ≡ b)) ⊎ ((nat_lt x b ≡ false) × ((x == b) ≡ false) × (nat_lt x (b + 1) ≡ false)))

sides : (x b : ℕ) → Sides x b
sides x b = by (nat_lt x b) (x == b) refl refl
  where
    by : (s t : Bool) → nat_lt x b ≡ s → (x == b) ≡ t → Sides x b
    by true true s t = absurd (grind (arith, nat_tests))
    by true false s t = inl (s, t, grind (arith, nat_tests))
    by false true s t = inr (inl (s, t, grind (arith, nat_tests), grind (arith, nat_tests)))
    by false false s t = inr (inr (s, t, grind (arith, nat_tests)))

-- those of one more first byte
pub next_front : (es : List (List ℕ × List ℕ)) (b : ℕ) → b < 256 → T (is_sorted bytes_cmp es) → filter (is_below b) es ++ filter (is_at b) es ≡ filter (is_below (b + 1)) es
next_front [] b low s = refl
next_front (e ∷ es) b low s =
    let rest = next_front es b low (right_of _ _ s) in
    elim (sides (front_of e) b) [
      | inl h ↦ (λ i. cond (h.0 i) (e ∷ filter (is_below b) es) (filter (is_below b) es) ++ cond (h.1 i) (e ∷ filter (is_at b) es) (filter (is_at b) es))
          ∙ ap (λ l. e ∷ l) rest ∙ sym (λ i. cond (h.2 i) (e ∷ filter (is_below (b + 1)) es) (filter (is_below (b + 1)) es))
      | inr f ↦ elim f [
        | inl h ↦
            let none = none_below e.0 es b h.3 low (left_of _ _ s) in
            (λ i. cond (h.0 i) (e ∷ filter (is_below b) es) (filter (is_below b) es) ++ cond (h.1 i) (e ∷ filter (is_at b) es) (filter (is_at b) es))
            ∙ ap (λ l. l ++ e ∷ filter (is_at b) es) none ∙ ap (λ l. e ∷ l) (sym (ap (λ l. l ++ filter (is_at b) es) none) ∙ rest)
            ∙ sym (λ i. cond (h.2 i) (e ∷ filter (is_below (b + 1)) es) (filter (is_below (b + 1)) es))
        | inr h ↦ (λ i. cond (h.0 i) (e ∷ filter (is_below b) es) (filter (is_below b) es) ++ cond (h.1 i) (e ∷ filter (is_at b) es) (filter (is_at b) es))
            ∙ rest ∙ sym (λ i. cond (h.2 i) (e ∷ filter (is_below (b + 1)) es) (filter (is_below (b + 1)) es))
      ]
    ]

-- ---- what is read of one first byte

same_tests : (f g : List ℕ × List ℕ → Bool) → ((e : List ℕ × List ℕ) → f e ≡ g e) → (es : List (List ℕ × List ℕ)) → filter f es ≡ filter g es
same_tests f g same [] = refl
same_tests f g same (e ∷ es) = λ i. cond (same e i) (e ∷ same_tests f g same es i) (same_tests f g same es i)

front_wanted : (b : ℕ) (key : List ℕ) → b < 256 → is_wanted (b ∷ []) (b ∷ []) key ≡ (get_or key 0 256 == b)
front_wanted b [] low = sym (let a : (256 == b) ≡ false = grind (arith, nat_tests) in a)
front_wanted b (x ∷ xs) low = by (x == b) refl
  where
    here : (ys : List ℕ) → not (is_gt (bytes_cmp (b ∷ []) (b ∷ ys))) ≡ true
    here ys = ap (λ o. not (is_gt (ordering_then o (slice_cmp nat_cmp [] ys)))) same ∙ rest ys
      where
        same : nat_cmp b b ≡ Equal
        same = ap (λ t. cond t Less (cond (b == b) Equal Greater)) (let a : nat_lt b b ≡ false = grind (arith, nat_tests) in a) ∙ ap (λ t. cond t Equal Greater) (let a : (b == b) ≡ true = grind (arith, nat_tests) in a)

        rest : (ys : List ℕ) → not (is_gt (slice_cmp nat_cmp [] ys)) ≡ true
        rest [] = refl
        rest (y ∷ ys) = refl

    never : (t : Bool) → (t && false) ≡ false
    never true = refl
    never false = refl

    by : (t : Bool) → (x == b) ≡ t → is_wanted (b ∷ []) (b ∷ []) (x ∷ xs) ≡ (x == b)
    by true t =
        let e : b ≡ x = grind (arith, nat_tests) in
        let a = ap (λ q. not (is_gt (bytes_cmp (b ∷ []) (q ∷ xs)))) (sym e) ∙ here xs in
        let s : nat_eq b x ≡ true = grind (arith, nat_tests) in
        (λ i. a i && (s i && true)) ∙ sym t
    by false t =
        let s : nat_eq b x ≡ false = grind (arith, nat_tests) in
        (λ i. not (is_gt (bytes_cmp (b ∷ []) (x ∷ xs))) && (s i && true)) ∙ never (not (is_gt (bytes_cmp (b ∷ []) (x ∷ xs)))) ∙ sym t

pub front_read : (m : Objects) (b : ℕ) → b < 256 → pairs_from m (b ∷ []) (b ∷ []) ≡ filter (is_at b) (objects.entries m)
unfolding pairs_from
front_read m b low = same_tests (λ e. is_wanted (b ∷ []) (b ∷ []) e.0) (is_at b) (λ e. front_wanted b e.0 low) (objects.entries m)

pub none_yet : (es : List (List ℕ × List ℕ)) → filter (is_below 0) es ≡ []
none_yet [] = refl
none_yet (e ∷ es) = ap (λ t. cond t (e ∷ filter (is_below 0) es) (filter (is_below 0) es)) (let a : is_below 0 e ≡ false = grind (arith, nat_tests) in a) ∙ none_yet es

-- ---- all that a call can name

key_below : (e : List ℕ × List ℕ) → is_key e.0 ≡ true → is_below 256 e ≡ true
key_below e h = by e.0 h
  where
    by : (q : List ℕ) → is_key q ≡ true → nat_lt (get_or q 0 256) 256 ≡ true
    by [] h = absurd (cc)
    by (x ∷ xs) h = first (nat_le 1 (length (x ∷ xs)) && nat_le (length (x ∷ xs)) 264) (nat_lt x 256) (list_all (λ b. nat_lt b 256) xs) h
      where
        first : (a b c : Bool) → (a && (b && c)) ≡ true → b ≡ true
        first true true c e = refl
        first true false c e = e
        first false b c e = absurd (cc)

keys_only : (es : List (List ℕ × List ℕ)) (rows : List Row) → AreRows (filter (is_below 256) es) rows → filter (is_below 256) es ≡ filter (λ e. is_key e.0) es
keys_only [] rows h = refl
keys_only (e ∷ es) rows h = by (is_below 256 e) refl (λ rows h. keys_only es rows h) rows h
  where
    apart : is_below 256 e ≡ false → is_key e.0 ≡ false
    apart other = test (is_key e.0) refl
      where
        test : (t : Bool) → is_key e.0 ≡ t → is_key e.0 ≡ false
        test false t = t
        test true t = let bad = sym other ∙ key_below e t in absurd (cc)

    by : (t : Bool) → is_below 256 e ≡ t → ((rows : List Row) → AreRows (filter (is_below 256) es) rows → filter (is_below 256) es ≡ filter (λ e. is_key e.0) es)
        → (rows : List Row) → AreRows (cond t (e ∷ filter (is_below 256) es) (filter (is_below 256) es)) rows
        → cond t (e ∷ filter (is_below 256) es) (filter (is_below 256) es) ≡ cond (is_key e.0) (e ∷ filter (λ e. is_key e.0) es) (filter (λ e. is_key e.0) es)
    by true t rest [] h = absurd h
    by true t rest (row ∷ rows) h = ap (λ l. e ∷ l) (rest rows h.1) ∙ sym (ap (λ b. cond b (e ∷ filter (λ e. is_key e.0) es) (filter (λ e. is_key e.0) es)) h.0.key)
    by false t rest rows h = rest rows h ∙ sym (ap (λ b. cond b (e ∷ filter (λ e. is_key e.0) es) (filter (λ e. is_key e.0) es)) (apart t))

pub heard_entries : (m : Objects) → objects.entries (heard m) ≡ filter (λ e. is_key e.0) (objects.entries m)
heard_entries m =
    same_entries bytes_cmp nat_list_cmp_total same_bytes _ _ (objects.entries_sorted (heard m)) (is_sorted-where_key bytes_cmp is_key (objects.entries m) (objects.entries_sorted m)) (λ q.
    sym (objects.get-entries (heard m) q) ∙ get_heard m q ∙ ap (λ o. cond (is_key q) o None) (objects.get-entries m q)
    ∙ sym (find-where_key bytes_cmp is_key q (λ x e. ap is_key (sym (same_bytes q x e))) (objects.entries m)))

-- the rows of all first bytes are those of all objects that a call can name
pub all_read : (m : Objects) (rows : List Row) → AreRows (filter (is_below 256) (objects.entries m)) rows → AreRows (objects.entries (heard m)) rows
all_read m rows h = subst (λ es. AreRows es rows) (keys_only (objects.entries m) rows h ∙ sym (heard_entries m)) h
