-- What is reached, edge by edge.
use Rattle.std.proofs.Common.{◌≡◌, ℕ, ◌+◌, ◌<◌, ◌≤◌, ◌⊎◌, inl, inr, ◌||◌, true, false, Bool, refl, sym, ◌∙◌, ap, subst, arith, List, [], ◌∷◌, ◌++◌, length, take, get_or}
use Rattle.std.specs.Prelude.{◌==◌}
use Rattle.std.specs.Ordering.{nat_cmp}
use Rattle.std.specs.BTreeSet.{BTreeSet, contains}
use Rattle.std.proofs.lemmas.Bool.Decides.{nat_tests}
use Rattle.std.proofs.lemmas.List.{append_assoc, append-nil, take_more, take_all, length-append, length-take-le}
use Rattle.kfs_judge.specs.declared.reaching.Edge.{Edge}
use Rattle.kfs_judge.specs.declared.row.Row.{Row}
use Rattle.kfs_judge.specs.Reaching.{edge_of, edge_list, edges_in, IsOf, IsLinked, starts, goes_on, SettlesOne, Settles, AllReached, is_root}
use Rattle.kfs_judge.proofs.Leasts.{get_left, get_end, get_split}

of_left : (xs ys : List Edge) (e : Edge) → IsOf xs e → IsOf (xs ++ ys) e
of_left xs ys e h = record { place = h.place; here = get_left xs ys h.place e h.here }

of_end : (xs : List Edge) (e : Edge) → IsOf (xs ++ e ∷ []) e
of_end xs e = record { place = length xs; here = get_end xs e }

of_split : (xs : List Edge) (y e : Edge) → IsOf (xs ++ y ∷ []) e → IsOf xs e ⊎ (y ≡ e)
of_split xs y e h = elim (get_split xs y h.place e h.here) [ inl old ↦ inl (record { place = h.place; here = old }) | inr new ↦ inr new ]

none_of : (e : Edge) → IsOf [] e → ⊥
none_of e h = let bad = h.here in cc

more_linked : (from : ℕ → Bool) (xs ys : List Edge) (n : ℕ) → IsLinked from xs n → IsLinked from (xs ++ ys) n
more_linked from xs ys _ (starts n e) = starts n e
more_linked from xs ys _ (goes_on edge of h) = goes_on edge (of_left xs ys edge of) (more_linked from xs ys edge.parent h)

-- nothing is settled yet
pub settles_none : (s : BTreeSet ℕ) → Settles s [] [] s
settles_none s = record {
  keeps = λ n h. h;
  linked = λ n h. starts n h;
  settled = λ e h. absurd (none_of e h);
  left_of = λ e h. h;
  still = λ h n. refl;
  apart = λ h e of. absurd (none_of e of);
}

either_true : (a b : Bool) → (a || b) ≡ true → (a ≡ true) ⊎ (b ≡ true)
either_true true b h = inl refl
either_true false b h = inr h

right_true : (a b : Bool) → b ≡ true → (a || b) ≡ true
right_true true b h = refl
right_true false b h = h

same_number : (n k : ℕ) → (n == k) ≡ true → n ≡ k
same_number n k e = grind (arith, nat_tests)

own_number : (n : ℕ) → (n == n) ≡ true
own_number n = grind (arith, nat_tests)

not_both : (b : Bool) → b ≡ true → b ≡ false → ⊥
not_both b t f = let bad : true ≡ false = sym t ∙ f in cc

-- one more edge
settles_push : (old mid new : BTreeSet ℕ) (xs left left' : List Edge) (e : Edge) → length left ≤ length xs → Settles old xs left mid → SettlesOne mid left e left' new → Settles old (xs ++ e ∷ []) left' new
settles_push old mid new xs left left' e few h (inl s) = record {
  keeps = λ n k. s.1 n ∙ right_true (e.child == n) (contains nat_cmp mid n) (h.keeps n k);
  linked = linked;
  settled = λ f of. elim (of_split xs e f of) [
    | inl o ↦ elim (h.settled f o) [ inl c ↦ inl (s.1 f.child ∙ right_true (e.child == f.child) (contains nat_cmp mid f.child) c) | inr l ↦ inr (subst (λ l. IsOf l f) (sym s.2) l) ]
    | inr same ↦ inl (s.1 f.child ∙ ap (λ b. b || contains nat_cmp mid f.child) (ap (λ (x : Edge). x.child == f.child) same ∙ own_number f.child))
  ];
  left_of = λ f of. of_left xs (e ∷ []) f (h.left_of f (subst (λ l. IsOf l f) s.2 of));
  still = λ long. absurd (never long);
  apart = λ long. absurd (never long);
}
  where
    never : length left' ≡ length (xs ++ e ∷ []) → ⊥
    never long = let a = ap (λ (l : List Edge). length l) s.2 in let b = length-append xs (e ∷ []) in omega arith

    linked : (n : ℕ) → contains nat_cmp new n ≡ true → IsLinked (contains nat_cmp old) (xs ++ e ∷ []) n
    linked n k = elim (either_true (e.child == n) (contains nat_cmp mid n) (sym (s.1 n) ∙ k)) [
      | inl is ↦ subst (IsLinked (contains nat_cmp old) (xs ++ e ∷ [])) (same_number e.child n is) (goes_on e (of_end xs e) (more_linked (contains nat_cmp old) xs (e ∷ []) e.parent (h.linked e.parent s.0)))
      | inr was ↦ more_linked (contains nat_cmp old) xs (e ∷ []) n (h.linked n was)
    ]
settles_push old mid new xs left left' e few h (inr s) = record {
  keeps = λ n k. s.1 n ∙ h.keeps n k;
  linked = λ n k. more_linked (contains nat_cmp old) xs (e ∷ []) n (h.linked n (sym (s.1 n) ∙ k));
  settled = λ f of. elim (of_split xs e f of) [
    | inl o ↦ elim (h.settled f o) [ inl c ↦ inl (s.1 f.child ∙ c) | inr l ↦ inr (subst (λ l. IsOf l f) (sym s.2) (of_left left (e ∷ []) f l)) ]
    | inr same ↦ inr (subst (λ l. IsOf l f) (sym s.2) (subst (IsOf (left ++ e ∷ [])) same (of_end left e)))
  ];
  left_of = λ f of. elim (of_split left e f (subst (λ l. IsOf l f) s.2 of)) [ inl o ↦ of_left xs (e ∷ []) f (h.left_of f o) | inr same ↦ subst (IsOf (xs ++ e ∷ [])) same (of_end xs e) ];
  still = λ long n. s.1 n ∙ h.still (shorter long) n;
  apart = λ long f of. elim (of_split left e f (subst (λ l. IsOf l f) s.2 of)) [
    | inl o ↦ h.apart (shorter long) f o
    | inr same ↦ subst (λ (x : Edge). contains nat_cmp old x.parent ≡ false) same (sym (h.still (shorter long) e.parent) ∙ s.0)
  ];
}
  where
    shorter : length left' ≡ length (xs ++ e ∷ []) → length left ≡ length xs
    shorter long = let a = ap (λ (l : List Edge). length l) s.2 in let b = length-append xs (e ∷ []) in let c = length-append left (e ∷ []) in omega arith

pub settles_more : (old mid new : BTreeSet ℕ) (all : List Edge) (i : ℕ) (d : Edge) (left left' : List Edge) → i < length all → length left ≤ i → Settles old (take i all) left mid → SettlesOne mid left (get_or all i d) left' new
    → Settles old (take (i + 1) all) left' new
settles_more old mid new all i d left left' lt few h one = let some = length-take-le i all (omega arith) in subst (λ l. Settles old l left' new) (sym (take_more all i d lt)) (settles_push old mid new (take i all) left left' (get_or all i d) (omega arith) h one)

pub one_more_left : (old new : BTreeSet ℕ) (e : Edge) (left left' : List Edge) → SettlesOne old left e left' new → length left' ≤ length left + 1
one_more_left old new e left left' (inl s) = let a = ap (λ (l : List Edge). length l) s.2 in omega arith
one_more_left old new e left left' (inr s) = let a = ap (λ (l : List Edge). length l) s.2 in let b = length-append left (e ∷ []) in omega arith

edges_push : (xs : List Row) (row : Row) → edges_in (xs ++ row ∷ []) ≡ edges_in xs ++ edge_list (edge_of row)
edges_push [] row = append-nil (edge_list (edge_of row))
edges_push (x ∷ xs) row = ap (λ l. edge_list (edge_of x) ++ l) (edges_push xs row) ∙ sym (append_assoc (edge_list (edge_of x)) (edges_in xs) (edge_list (edge_of row)))

pub edges_more : (rows : List Row) (i : ℕ) (d : Row) (old new : List Edge) → i < length rows → old ≡ edges_in (take i rows) → new ≡ old ++ edge_list (edge_of (get_or rows i d)) → new ≡ edges_in (take (i + 1) rows)
edges_more rows i d old new lt h is = is ∙ ap (λ l. l ++ edge_list (edge_of (get_or rows i d))) h ∙ sym (ap edges_in (take_more rows i d lt) ∙ edges_push (take i rows) (get_or rows i d))

-- ---- pass by pass

-- what a pass begins with: all reached is linked to the root, and each edge is done or waits
pub record Passes (edges waiting : List Edge) (reached : BTreeSet ℕ) : Type 0 where
  pub root : contains nat_cmp reached 1 ≡ true
  pub linked : (n : ℕ) → contains nat_cmp reached n ≡ true → IsLinked is_root edges n
  pub settled : (edge : Edge) → IsOf edges edge → (contains nat_cmp reached edge.child ≡ true) ⊎ IsOf waiting edge
  pub waiting_of : (edge : Edge) → IsOf waiting edge → IsOf edges edge

joins : (edges waiting : List Edge) (reached : BTreeSet ℕ) → Passes edges waiting reached → (n : ℕ) → IsLinked (contains nat_cmp reached) waiting n → IsLinked is_root edges n
joins edges waiting reached h _ (starts n e) = h.linked n e
joins edges waiting reached h _ (goes_on edge of l) = goes_on edge (h.waiting_of edge of) (joins edges waiting reached h edge.parent l)

pub passes_more : (edges waiting left : List Edge) (old new : BTreeSet ℕ) → Passes edges waiting old → Settles old waiting left new → Passes edges left new
passes_more edges waiting left old new h s = record {
  root = s.keeps 1 h.root;
  linked = λ n k. joins edges waiting old h n (s.linked n k);
  settled = λ e of. elim (h.settled e of) [ inl c ↦ inl (s.keeps e.child c) | inr w ↦ s.settled e w ];
  waiting_of = λ e of. h.waiting_of e (s.left_of e of);
}

pub passes_end : (edges waiting left : List Edge) (old new : BTreeSet ℕ) → Passes edges waiting old → Settles old waiting left new → length left ≡ length waiting → AllReached edges new
passes_end edges waiting left old new h s long = record { linked = λ n k. joins edges waiting old h n (s.linked n k); all = all }
  where
    one : (edge : Edge) → IsOf edges edge → contains nat_cmp new edge.parent ≡ true → contains nat_cmp new edge.child ≡ true
    one edge of above = elim (h.settled edge of) [
      | inl c ↦ s.keeps edge.child c
      | inr w ↦ elim (s.settled edge w) [
        | inl c ↦ c
        | inr l ↦ absurd (not_both (contains nat_cmp old edge.parent) (sym (s.still long edge.parent) ∙ above) (s.apart long edge l))
      ]
    ]

    all : (n : ℕ) → IsLinked is_root edges n → contains nat_cmp new n ≡ true
    all _ (starts n e) = subst (λ k. contains nat_cmp new k ≡ true) (same_number 1 n e) (s.keeps 1 h.root)
    all _ (goes_on edge of l) = one edge of (all edge.parent l)

pub passes_first : (edges : List Edge) (reached : BTreeSet ℕ) → ((n : ℕ) → contains nat_cmp reached n ≡ (1 == n)) → Passes edges edges reached
passes_first edges reached is = record {
  root = is 1;
  linked = λ n k. starts n (sym (is n) ∙ k);
  settled = λ e of. inr of;
  waiting_of = λ e of. of;
}
