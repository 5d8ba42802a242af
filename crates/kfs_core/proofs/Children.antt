-- The names in a directory, over its entry objects and over the tree.
use Rattle.std.proofs.Common.{◌≡◌, ◌≢◌, ℕ, ◌<◌, ◌≤◌, ◌-◌, ◌^◌, ◌&&◌, inl, inr, not, true, false, cond, Bool, T, refl, sym, ◌∙◌, ap, subst, arith, List, [], ◌∷◌, ◌++◌, length, map, filter, take, drop, Option, Some, None, Ok, append-nil, take-append-drop}
use Rattle.std.proofs.lemmas.Bool.{and_parts}
use Rattle.std.specs.List.{filter_map, cons_option}
use Rattle.std.specs.Option.{option_map, option_and_then}
use Rattle.std.specs.Ordering.{nat_cmp, eq_by_cmp, is_eq, is_gt, ordering_then}
use Rattle.std.specs.declared.cmp.Ordering.{Ordering}
use Rattle.std.specs.declared.cmp.Ordering.TheVariants.{Less, Equal, Greater}
use Rattle.std.specs.Cmp.{IsTotalOrder, tied_itself, nat_cmp_total}
use Rattle.std.specs.Cmp.Lexicographic.{slice_cmp, nat_list_cmp_total}
use Rattle.std.specs.FinMap as objects
use Rattle.std.specs.FinMap.{find, is_sorted}
use Rattle.std.specs.FinMap.Entries.{below_all, same_entries, is_sorted-where_key, find-where_key}
use Rattle.std.specs.Str.{bytes_eq}
use Rattle.std.proofs.lemmas.Map.Text.{is_eq-slice_cmp}
use Rattle.std.proofs.lemmas.List.{take_all, length-map}
use Rattle.std.proofs.lemmas.Option.{same_Some}
use Rattle.kv_device.specs.Bytes.{bytes_cmp}
use Rattle.kv_device.specs.Objects.{Objects, pairs_from, is_wanted}
use Rattle.kfs_objects.specs.Keys.{be64, entry_key, IsNamed, IsObjectKey, is_super, is_inode, is_entry, is_chunk, is_orphan}
use Rattle.kfs_objects.specs.Records.{entry_value}
use Rattle.kfs_model.specs.Tree.{Place, Name, Tree, place_cmp, below, child, only_name, names_in, IsTree, number_at, node_of}
use Rattle.kfs_shows.specs.Shows.{ShowsTree}
use Rattle.kfs_shows.proofs.Lookups.{same_bytes, same_places, places_total, decide_bytes, tie_test, apart_test}
use Rattle.kfs_shows.proofs.KeysApart.{kinds, same_name}
use Rattle.std.specs.Prelude.{is_some}
use Rattle.kfs_path.specs.declared.call.Errno.TheVariants.{ENOENT, ENOTDIR}
use Rattle.kfs_path.specs.declared.call.Reply.TheVariants as replies
use Rattle.kfs_model.specs.declared.Node.{Node}
use Rattle.kfs_model.specs.declared.Node.TheVariants.{Dir, File}
use Rattle.kfs_model.specs.Ladder.{◌>>◌, ◌when◌}
use Rattle.kfs_model.specs.Tree.{entry_at}
use Rattle.kfs_model.specs.Step.{list_of, is_there, is_file, has_file}
use Rattle.kfs_model.proofs.Tests.{lower, is_lower, both, first_of, second_of}
use Rattle.kfs_dir.specs.Directory.{names_under}
use Rattle.kfs_core.specs.Stands.{Stands}
use Rattle.kfs_core.specs.Flat.{found_in, listed_in, list_in}
use Rattle.kfs_core.proofs.Ways.{bytes_eq_refl}
use Rattle.kfs_core.proofs.Judges.{walked, found_at, seen_as}
use Rattle.kfs_core.specs.Flat.{names_of}

-- ---- the child of a place

is_equal : (r : Ordering) → is_eq r ≡ true → r ≡ Equal
is_equal Less e = absurd (cc)
is_equal Equal e = refl
is_equal Greater e = absurd (cc)

from_eq : (a b : List ℕ) → bytes_eq a b ≡ true → a ≡ b
from_eq a b e = same_bytes a b (is_equal (bytes_cmp a b) (is_eq-slice_cmp a b ∙ e))

only_is : (q : Place) (x : Name) → only_name q ≡ Some x → q ≡ x ∷ []
only_is [] x e = absurd (cc)
only_is (y ∷ []) x e = ap (λ z. z ∷ []) (same_Some y x e)
only_is (y ∷ z ∷ q) x e = absurd (cc)

pub child_is : (place q : Place) (x : Name) → child place q ≡ Some x → q ≡ place ++ x ∷ []
child_is [] q x e = only_is q x e
child_is (n ∷ place) [] x e = absurd (cc)
child_is (n ∷ place) (f ∷ q) x e = by (bytes_eq n f) refl (child_is place q x) e
  where
    by : (b : Bool) → bytes_eq n f ≡ b → (child place q ≡ Some x → q ≡ place ++ x ∷ []) → option_and_then only_name (cond b (below place q) None) ≡ Some x → f ∷ q ≡ n ∷ (place ++ x ∷ [])
    by true is rest e = λ i. sym (from_eq n f is) i ∷ rest e i
    by false is rest e = absurd (cc)

pub child_of : (place : Place) (x : Name) → child place (place ++ x ∷ []) ≡ Some x
child_of [] x = refl
child_of (n ∷ place) x = ap (λ b. option_and_then only_name (cond b (below place (place ++ x ∷ [])) None)) (bytes_eq_refl n) ∙ child_of place x

-- ---- orders behind a common front

front_cmp : {A : Type 0} (R : A → A → Ordering) → IsTotalOrder R → (p xs ys : List A) → slice_cmp R (p ++ xs) (p ++ ys) ≡ slice_cmp R xs ys
front_cmp R o [] xs ys = refl
front_cmp R o (a ∷ p) xs ys = ap (λ r. ordering_then r (slice_cmp R (p ++ xs) (p ++ ys))) (tied_itself o a) ∙ front_cmp R o p xs ys

then_equal : (r : Ordering) → ordering_then r Equal ≡ r
then_equal Less = refl
then_equal Equal = refl
then_equal Greater = refl

last_cmp : (place : Place) (x y : Name) → place_cmp (place ++ x ∷ []) (place ++ y ∷ []) ≡ bytes_cmp x y
last_cmp place x y = front_cmp bytes_cmp nat_list_cmp_total place (x ∷ []) (y ∷ []) ∙ then_equal (bytes_cmp x y)

entry_cmp : (n : ℕ) (x y : Name) → bytes_cmp (entry_key n x) (entry_key n y) ≡ bytes_cmp x y
entry_cmp n x y = front_cmp nat_cmp nat_cmp_total (101 ∷ be64 n) x y

-- ---- the entries of a directory, from the names of the tree

abbrev pub kid : ℕ → Place → Place × ℕ → Option (List ℕ × List ℕ)
kid n place e = option_map (λ x. (entry_key n x, entry_value e.1)) (child place e.0)

abbrev pub kids : ℕ → Place → List (Place × ℕ) → List (List ℕ × List ℕ)
kids n place es = filter_map (kid n place) es

name_of_entry : (n : ℕ) (x : Name) → drop 9 (entry_key n x) ≡ x
unfolding be64
name_of_entry n x = refl

pub kids_names : (n : ℕ) (place : Place) (es : List (Place × ℕ)) → map (λ e. drop 9 e.0) (kids n place es) ≡ filter_map (λ e. child place e.0) es
kids_names n place [] = refl
kids_names n place (e ∷ es) = by (child place e.0) (kids_names n place es)
  where
    by : (o : Option Name) → map (λ e. drop 9 e.0) (kids n place es) ≡ filter_map (λ e. child place e.0) es → map (λ e. drop 9 e.0) (cons_option (option_map (λ x. (entry_key n x, entry_value e.1)) o) (kids n place es)) ≡ cons_option o (filter_map (λ e. child place e.0) es)
    by None rest = rest
    by (Some x) rest = λ i. name_of_entry n x i ∷ rest i

kids_below : (n : ℕ) (place : Place) (x : Name) (es : List (Place × ℕ)) → T (below_all place_cmp (place ++ x ∷ []) es) → T (below_all bytes_cmp (entry_key n x) (kids n place es))
kids_below n place x [] h = tt
kids_below n place x (e ∷ es) h = by (child place e.0) refl (kids_below n place x es (second_of _ _ h))
  where
    by : (o : Option Name) → child place e.0 ≡ o → T (below_all bytes_cmp (entry_key n x) (kids n place es)) → T (below_all bytes_cmp (entry_key n x) (cons_option (option_map (λ x. (entry_key n x, entry_value e.1)) o) (kids n place es)))
    by None is rest = rest
    by (Some y) is rest = both _ _ (is_lower _ (entry_cmp n x y ∙ sym (last_cmp place x y) ∙ ap (place_cmp (place ++ x ∷ [])) (sym (child_is place e.0 y is)) ∙ lower _ (first_of _ _ h))) rest

kids_sorted : (n : ℕ) (place : Place) (es : List (Place × ℕ)) → T (is_sorted place_cmp es) → T (is_sorted bytes_cmp (kids n place es))
kids_sorted n place [] h = tt
kids_sorted n place (e ∷ es) h = by (child place e.0) refl (kids_sorted n place es (second_of _ _ h))
  where
    by : (o : Option Name) → child place e.0 ≡ o → T (is_sorted bytes_cmp (kids n place es)) → T (is_sorted bytes_cmp (cons_option (option_map (λ x. (entry_key n x, entry_value e.1)) o) (kids n place es)))
    by None is rest = rest
    by (Some x) is rest = both _ _ (kids_below n place x es (subst (λ q. T (below_all place_cmp q es)) (child_is place e.0 x is) (first_of _ _ h))) rest

kids_find : (n : ℕ) (place : Place) (x : Name) (es : List (Place × ℕ)) → find bytes_cmp (entry_key n x) (kids n place es) ≡ option_map entry_value (find place_cmp (place ++ x ∷ []) es)
kids_find n place x [] = refl
kids_find n place x (e ∷ es) = by (child place e.0) refl (kids_find n place x es)
  where
    new : Place
    new = place ++ x ∷ []

    by : (o : Option Name) → child place e.0 ≡ o → find bytes_cmp (entry_key n x) (kids n place es) ≡ option_map entry_value (find place_cmp new es)
        → find bytes_cmp (entry_key n x) (cons_option (option_map (λ x. (entry_key n x, entry_value e.1)) o) (kids n place es)) ≡ option_map entry_value (cond (eq_by_cmp place_cmp new e.0) (Some e.1) (find place_cmp new es))
    by None is rest = rest ∙ sym (ap (λ b. option_map entry_value (cond b (Some e.1) (find place_cmp new es))) (apart_test places_total same_places new e.0 (λ same. let bad : Some x ≡ None = sym (child_of place x) ∙ ap (child place) same ∙ is in cc)))
    by (Some y) is rest = elim (decide_bytes x y) [
      | inl same ↦
          ap (λ b. cond b (Some (entry_value e.1)) (find bytes_cmp (entry_key n x) (kids n place es))) (ap (λ k. eq_by_cmp bytes_cmp (entry_key n x) (entry_key n k)) (sym same) ∙ tie_test nat_list_cmp_total same_bytes (entry_key n x))
          ∙ sym (ap (λ b. option_map entry_value (cond b (Some e.1) (find place_cmp new es))) (ap (eq_by_cmp place_cmp new) (child_is place e.0 y is ∙ ap (λ k. place ++ k ∷ []) (sym same)) ∙ tie_test places_total same_places new))
      | inr other ↦
          ap (λ b. cond b (Some (entry_value e.1)) (find bytes_cmp (entry_key n x) (kids n place es))) (apart_test nat_list_cmp_total same_bytes (entry_key n x) (entry_key n y) (λ k. other (same_name n n x y k)))
          ∙ rest
          ∙ sym (ap (λ b. option_map entry_value (cond b (Some e.1) (find place_cmp new es))) (apart_test places_total same_places new e.0 (λ same. other (same_Some x y (sym (child_of place x) ∙ ap (child place) same ∙ is)))))
    ]

kids_only : (n : ℕ) (place : Place) (q : List ℕ) (es : List (Place × ℕ)) → ((x : Name) → q ≢ entry_key n x) → find bytes_cmp q (kids n place es) ≡ None
kids_only n place q [] h = refl
kids_only n place q (e ∷ es) h = by (child place e.0) (kids_only n place q es h)
  where
    by : (o : Option Name) → find bytes_cmp q (kids n place es) ≡ None → find bytes_cmp q (cons_option (option_map (λ x. (entry_key n x, entry_value e.1)) o) (kids n place es)) ≡ None
    by None rest = rest
    by (Some y) rest = ap (λ b. cond b (Some (entry_value e.1)) (find bytes_cmp q (kids n place es))) (apart_test nat_list_cmp_total same_bytes q (entry_key n y) (h y)) ∙ rest

-- ---- what is wanted

abbrev prefix : ℕ → List ℕ
prefix n = entry_key n []

front : (n : ℕ) (x : Name) → take (length (prefix n)) (entry_key n x) ≡ prefix n
unfolding be64
front n x = refl

not_greater : (x : Name) → not (is_gt (bytes_cmp [] x)) ≡ true
not_greater [] = refl
not_greater (b ∷ x) = refl

wanted_entry : (n : ℕ) (x : Name) → is_wanted (prefix n) (prefix n) (entry_key n x) ≡ true
wanted_entry n x = (λ i. not (is_gt (entry_cmp n [] x i)) && bytes_eq (prefix n) (front n x i)) ∙ (λ i. not_greater x i && bytes_eq_refl (prefix n) i)

split_prefix : (n : ℕ) (rest : List ℕ) → prefix n ++ rest ≡ entry_key n rest
split_prefix n rest = ap (λ xs. 101 ∷ (xs ++ rest)) (append-nil (be64 n))

wanted_is : (n : ℕ) (q : List ℕ) → is_wanted (prefix n) (prefix n) q ≡ true → (x : Name) × (q ≡ entry_key n x)
wanted_is n q e =
    let k = length (prefix n) in
    let is : prefix n ≡ take k q = from_eq (prefix n) (take k q) (and_parts _ _ e).1 in
    (drop k q, sym (take-append-drop k q) ∙ ap (λ p. p ++ drop k q) (sym is) ∙ split_prefix n (drop k q))

module _ (m : Objects) (t : Tree) (tree : IsTree t) (shows : ShowsTree m t) (place : Place) (n : ℕ) (at : number_at t place ≡ Some n) where
  abbrev pairs : List (List ℕ × List ℕ)
  pairs = filter (λ e. is_wanted (prefix n) (prefix n) e.0) (objects.entries m)

  short_key : (q : List ℕ) (x : Name) → IsObjectKey q → q ≡ entry_key n x → IsNamed x
  short_key q x is_super e = absurd (kinds 115 101 _ _ (λ e. omega arith) e)
  short_key q x (is_inode p lt) e = absurd (kinds 105 101 _ _ (λ e. omega arith) e)
  short_key q x (is_entry p name lt short) e = subst IsNamed (same_name p n name x e) short
  short_key q x (is_chunk p c lt lc) e = absurd (kinds 100 101 _ _ (λ e. omega arith) e)
  short_key q x (is_orphan p lt) e = absurd (kinds 111 101 _ _ (λ e. omega arith) e)

  entry_same : (x : Name) → objects.get m (entry_key n x) ≡ option_map entry_value (number_at t (place ++ x ∷ []))
  entry_same x = by (objects.get m (entry_key n x)) refl (number_at t (place ++ x ∷ [])) refl
    where
      by : (o : Option (List ℕ)) → objects.get m (entry_key n x) ≡ o → (p : Option ℕ) → number_at t (place ++ x ∷ []) ≡ p → objects.get m (entry_key n x) ≡ option_map entry_value (number_at t (place ++ x ∷ []))
      by (Some v) e p f = shows.entries place n x at (short_key (entry_key n x) x (shows.only (entry_key n x) v e) refl)
      by None e (Some c) f = shows.entries place n x at (tree.names place x c f).short
      by None e None f = e ∙ sym (ap (option_map entry_value) f)

  found_same : (q : List ℕ) → find bytes_cmp q pairs ≡ find bytes_cmp q (kids n place t.names)
  found_same q = find-where_key bytes_cmp (is_wanted (prefix n) (prefix n)) q (λ x e. ap (is_wanted (prefix n) (prefix n)) (sym (same_bytes q x e))) (objects.entries m)
      ∙ ap (λ o. cond (is_wanted (prefix n) (prefix n) q) o None) (sym (objects.get-entries m q)) ∙ by (is_wanted (prefix n) (prefix n) q) refl
    where
      by : (b : Bool) → is_wanted (prefix n) (prefix n) q ≡ b → cond b (objects.get m q) None ≡ find bytes_cmp q (kids n place t.names)
      by true e = let w = wanted_is n q e in ap (objects.get m) w.1 ∙ entry_same w.0 ∙ sym (kids_find n place w.0 t.names) ∙ ap (λ k. find bytes_cmp k (kids n place t.names)) (sym w.1)
      by false e = sym (kids_only n place q t.names (λ x f. let bad : true ≡ false = sym (wanted_entry n x) ∙ ap (is_wanted (prefix n) (prefix n)) (sym f) ∙ e in cc))

  pub pairs_same : pairs_from m (prefix n) (prefix n) ≡ kids n place t.names
  unfolding pairs_from
  pairs_same = same_entries bytes_cmp nat_list_cmp_total same_bytes pairs (kids n place t.names) (is_sorted-where_key bytes_cmp (is_wanted (prefix n) (prefix n)) (objects.entries m) (objects.entries_sorted m)) (kids_sorted n place t.names tree.sorted_names) found_same

  pub few_filter : (p : List ℕ × List ℕ → Bool) (es : List (List ℕ × List ℕ)) → length (filter p es) ≤ length es
  few_filter p [] = omega arith
  few_filter p (e ∷ es) = by (p e) (few_filter p es)
    where
      by : (b : Bool) → length (filter p es) ≤ length es → length (cond b (e ∷ filter p es) (filter p es)) ≤ length (e ∷ es)
      by true h = omega arith
      by false h = omega arith

  few_pairs : length (pairs_from m (prefix n) (prefix n)) ≤ objects.len m
  unfolding pairs_from
  few_pairs = let h = few_filter (λ e. is_wanted (prefix n) (prefix n) e.0) (objects.entries m) in let l = objects.len-entries m in omega arith

  pub names_same : objects.len m < 2 ^ 32 → names_of m n ≡ names_in t place
  names_same few = take_all (2 ^ 32 - 1) (names_under m n) (let h = few_pairs in let l = length-map (pairs_from m (prefix n) (prefix n)) (λ (e : List ℕ × List ℕ). drop 9 e.0) in omega arith) ∙ ap (map (λ e. drop 9 e.0)) pairs_same ∙ kids_names n place t.names

module _ (m : Objects) (t : Tree) (stands : Stands m t) (few : objects.len m < 2 ^ 32) where
  numbered : (place : Place) (o : Option ℕ) (e : ℕ × Node) → option_and_then (λ n. option_map (λ node. (n, node)) (node_of t n)) o ≡ Some e → o ≡ Some e.0
  numbered place None e f = absurd (cc)
  numbered place (Some n) e f = by (node_of t n) f
    where
      by : (x : Option Node) → option_map (λ (node : Node). (n, node)) x ≡ Some e → Some n ≡ Some e.0
      by None f = absurd (cc)
      by (Some x) f = ap (λ (z : ℕ × Node). Some z.0) (same_Some _ _ f)

  pub list_same : (path : List ℕ) → list_of t path ≡ list_in m path
  list_same path = walked m t stands path (λ route place. (ENOENT when not (is_there t place)) >> ((ENOTDIR when is_file t place) >> Ok (replies.Names (names_in t place)))) (λ route w. listed_in m (found_in m w.node))
      (λ route place w spot. by place (entry_at t place) refl ∙ ap (listed_in m) (sym (found_at m t stands place w spot)))
    where
      by : (place : Place) (o : Option (ℕ × Node)) → entry_at t place ≡ o → ((ENOENT when not (is_some o)) >> ((ENOTDIR when has_file o) >> Ok (replies.Names (names_in t place)))) ≡ listed_in m (option_map (seen_as m t stands) o)
      by place None e = refl
      by place (Some (n, Dir)) e = ap (λ names. Ok (replies.Names names)) (sym (names_same m t stands.tree stands.shows place n (numbered place (number_at t place) (n, Dir) e) few))
      by place (Some (n, File bytes)) e = refl
