-- A tree's objects are at most its charge, and its large ones at most its chunks.
use Rattle.std.proofs.Common.{◌≡◌, ◌≢◌, ℕ, suc, zero, ◌<◌, ◌≤◌, ◌+◌, ◌-◌, ◌*◌, ◌^◌, ◌&&◌, ◌||◌, ◌⊎◌, inl, inr, true, false, cond, Bool, T, refl, sym, ◌∙◌, ap, subst, arith, List, [], ◌∷◌, ◌++◌, length, map, take, get_or, sum_by, count_by, filter, Option, Some, None, nat_lt}
use Rattle.std.specs.List.{AllByRecursion, IsDistinct, list_any}
use Rattle.std.specs.Option.{option_map, unwrap_or}
use Rattle.std.specs.Ordering.{nat_cmp, eq_by_cmp, is_lt, is_eq}
use Rattle.std.specs.declared.cmp.Ordering.{Ordering}
use Rattle.std.specs.declared.cmp.Ordering.TheVariants.{Less, Equal, Greater}
use Rattle.std.specs.Cmp.{eq_by_cmp_equiv, nat_cmp_total}
use Rattle.std.specs.Cmp.Lexicographic.{nat_list_cmp_total}
use Rattle.std.specs.FinMap as objects
use Rattle.std.specs.FinMap.{find, is_sorted}
use Rattle.std.specs.FinMap.Entries.{below_all}
use Rattle.std.proofs.lemmas.Bool.Decides.{nat_tests}
use Rattle.std.proofs.lemmas.Map.Made.{length-le_from_is_member}
use Rattle.std.proofs.lemmas.List.{length-append, length_push, take-append-le, take_all, get_or_push}
use Rattle.std.proofs.lemmas.List.Sums.{sum_by-cons}
use Rattle.std.proofs.lemmas.Option.{same_Some}
use Rattle.kv_device.specs.Bytes.{bytes_cmp}
use Rattle.kv_device.specs.Objects.{Objects, page_count}
use Rattle.kfs_objects.specs.Keys.{be64, super_key, inode_key, entry_key, chunk_key, orphan_key, IsObjectKey, is_super, is_inode, is_entry, is_chunk, is_orphan}
use Rattle.kfs_objects.specs.Records.{entry_value, super_value, orphan_value}
use Rattle.kfs_objects.proofs.KeyLaws.{length_be64}
use Rattle.kfs_model.specs.declared.Node.{Node}
use Rattle.kfs_model.specs.declared.Node.TheVariants.{Dir, File}
use Rattle.kfs_model.specs.Tree.{Place, Name, Tree, parent, place_cmp, chunks_of, chunks, charge, IsTree, number_at, node_of}
use Rattle.kfs_model.proofs.Tests.{first_of, second_of, lt_apart}
use Rattle.kfs_shows.specs.Shows.{Shows, ShowsTree, ShowsChunk, inode_of}
use Rattle.kfs_shows.proofs.Lookups.{decide_number, decide_place, tie_test, apart_test, same_bytes, same_places, places_total}

-- ---- lists in the order of their keys have distinct keys

module _ {X : Type 0} (p : List ℕ × X → Bool) where
  abbrev pub kept : List (List ℕ × X) → List (List ℕ)
  kept es = map (λ e. e.0) (filter p es)

  apart_below : (k : List ℕ) (es : List (List ℕ × X)) → T (below_all bytes_cmp k es) → AllByRecursion (λ y. eq_by_cmp bytes_cmp k y ≡ false) (kept es)
  apart_below k [] h = tt
  apart_below k (e ∷ es) h = by (p e) (apart_below k es (second_of _ _ h))
    where
      by : (b : Bool) → AllByRecursion (λ y. eq_by_cmp bytes_cmp k y ≡ false) (kept es) → AllByRecursion (λ y. eq_by_cmp bytes_cmp k y ≡ false) (map (λ e. e.0) (cond b (e ∷ filter p es) (filter p es)))
      by true rest = (lt_apart (bytes_cmp k e.0) (first_of _ _ h), rest)
      by false rest = rest

  distinct : (es : List (List ℕ × X)) → T (is_sorted bytes_cmp es) → IsDistinct (eq_by_cmp bytes_cmp) (kept es)
  unfolding IsDistinct
  distinct [] h = tt
  distinct (e ∷ es) h = by (p e) (distinct es (second_of _ _ h))
    where
      by : (b : Bool) → IsDistinct (eq_by_cmp bytes_cmp) (kept es) → IsDistinct (eq_by_cmp bytes_cmp) (map (λ e. e.0) (cond b (e ∷ filter p es) (filter p es)))
      by true rest = (apart_below e.0 es (first_of _ _ h), rest)
      by false rest = rest

  missing : (k : List ℕ) (ys : List (List ℕ × X)) → T (below_all bytes_cmp k ys) → list_any (eq_by_cmp bytes_cmp k) (kept ys) ≡ false
  missing k [] b = refl
  missing k (y ∷ ys) b = go (p y) (missing k ys (second_of _ _ b))
    where
      go : (c : Bool) → list_any (eq_by_cmp bytes_cmp k) (kept ys) ≡ false → list_any (eq_by_cmp bytes_cmp k) (map (λ e. e.0) (cond c (y ∷ filter p ys) (filter p ys))) ≡ false
      go true rest = λ i. (lt_apart (bytes_cmp k y.0) (first_of _ _ b) i || rest i)
      go false rest = rest

  -- what is kept is found, and passes
  kept_found : (es : List (List ℕ × X)) (q : List ℕ) → T (is_sorted bytes_cmp es) → list_any (eq_by_cmp bytes_cmp q) (kept es) ≡ true → (v : X) × (find bytes_cmp q es ≡ Some v) × (p (q, v) ≡ true)
  kept_found [] q h e = absurd (cc)
  kept_found (x ∷ es) q h e = by (bytes_cmp q x.0) refl (p x) refl (λ rest. kept_found es q (second_of _ _ h) rest) e
    where
      past : (b : Bool) → is_eq (bytes_cmp q x.0) ≡ false → list_any (eq_by_cmp bytes_cmp q) (map (λ e. e.0) (cond b (x ∷ filter p es) (filter p es))) ≡ true → list_any (eq_by_cmp bytes_cmp q) (kept es) ≡ true
      past true apart e = ap (λ c. c || list_any (eq_by_cmp bytes_cmp q) (kept es)) (sym apart) ∙ e
      past false apart e = e

      by : (r : Ordering) → bytes_cmp q x.0 ≡ r → (b : Bool) → p x ≡ b → (list_any (eq_by_cmp bytes_cmp q) (kept es) ≡ true → (v : X) × (find bytes_cmp q es ≡ Some v) × (p (q, v) ≡ true))
          → list_any (eq_by_cmp bytes_cmp q) (map (λ e. e.0) (cond b (x ∷ filter p es) (filter p es))) ≡ true → (v : X) × (find bytes_cmp q (x ∷ es) ≡ Some v) × (p (q, v) ≡ true)
      by Less r b pb rest e = let f = rest (past b (ap is_eq r) e) in (f.0, ap (λ c. cond c (Some x.1) (find bytes_cmp q es)) (ap is_eq r) ∙ f.1, f.2)
      by Greater r b pb rest e = let f = rest (past b (ap is_eq r) e) in (f.0, ap (λ c. cond c (Some x.1) (find bytes_cmp q es)) (ap is_eq r) ∙ f.1, f.2)
      by Equal r true pb rest e = (x.1, ap (λ r. cond (is_eq r) (Some x.1) (find bytes_cmp q es)) r, ap (λ k. p (k, x.1)) (same_bytes q x.0 r) ∙ pb)
      by Equal r false pb rest e = absurd (let bad : true ≡ false = sym e ∙ ap (λ k. list_any (eq_by_cmp bytes_cmp k) (kept es)) (same_bytes q x.0 r) ∙ missing x.0 es (first_of _ _ h) in cc)

-- ---- being in a list

abbrev pub In : List (List ℕ) → List ℕ → Type 0
In [] q = ⊥
In (y ∷ ys) q = (q ≡ y) ⊎ In ys q

any_in : (ys : List (List ℕ)) (q : List ℕ) → In ys q → list_any (eq_by_cmp bytes_cmp q) ys ≡ true
any_in [] q h = absurd h
any_in (y ∷ ys) q (inl e) = ap (λ k. eq_by_cmp bytes_cmp q k || list_any (eq_by_cmp bytes_cmp q) ys) (sym e) ∙ ap (λ b. b || list_any (eq_by_cmp bytes_cmp q) ys) (tie_test nat_list_cmp_total same_bytes q)
any_in (y ∷ ys) q (inr h) = by (eq_by_cmp bytes_cmp q y) (any_in ys q h)
  where
    by : (b : Bool) → list_any (eq_by_cmp bytes_cmp q) ys ≡ true → (b || list_any (eq_by_cmp bytes_cmp q) ys) ≡ true
    by true e = refl
    by false e = e

in_left : (xs ys : List (List ℕ)) (q : List ℕ) → In xs q → In (xs ++ ys) q
in_left [] ys q h = absurd h
in_left (x ∷ xs) ys q (inl e) = inl e
in_left (x ∷ xs) ys q (inr h) = inr (in_left xs ys q h)

in_right : (xs ys : List (List ℕ)) (q : List ℕ) → In ys q → In (xs ++ ys) q
in_right [] ys q h = h
in_right (x ∷ xs) ys q h = inr (in_right xs ys q h)

-- pairs whose keys are all in a list are at most as many
pub few_kept : {X : Type 0} (p : List ℕ × X → Bool) (m : objects.FinMap bytes_cmp X) (ys : List (List ℕ)) → ((q : List ℕ) (v : X) → objects.get m q ≡ Some v → p (q, v) ≡ true → In ys q) → length (kept p (objects.entries m)) ≤ length ys
few_kept p m ys h = length-le_from_is_member (eq_by_cmp_equiv nat_list_cmp_total) (kept p (objects.entries m)) ys (distinct p (objects.entries m) (objects.entries_sorted m))
    (λ q e. let f = kept_found p (objects.entries m) q (objects.entries_sorted m) e in any_in ys q (h q f.0 (objects.get-entries m q ∙ f.1) f.2))

pub kept_all : {X : Type 0} (es : List (List ℕ × X)) → length (kept (λ e. true) es) ≡ length es
kept_all [] = refl
kept_all (e ∷ es) = ap (λ n. suc n) (kept_all es)

-- ---- the keys that a tree has

upto : ℕ → List ℕ
upto zero = []
upto (suc n) = n ∷ upto n

abbrev chunk_keys : ℕ → ℕ → List (List ℕ)
chunk_keys n zero = []
chunk_keys n (suc c) = chunk_key n c ∷ chunk_keys n c

length_chunks : (n c : ℕ) → length (chunk_keys n c) ≡ c
length_chunks n zero = refl
length_chunks n (suc c) = ap (λ k. suc k) (length_chunks n c)

in_chunks : (n c k : ℕ) → c < k → In (chunk_keys n k) (chunk_key n c)
in_chunks n c zero lt = absurd (omega arith)
in_chunks n c (suc k) lt = elim (decide_number c k) [
  | inl e ↦ inl (ap (chunk_key n) e)
  | inr d ↦ inr (in_chunks n c k (grind arith))
]

-- the first place that has a number
abbrev pub place_of : List (Place × ℕ) → ℕ → Option Place
place_of [] n = None
place_of (e ∷ es) n = cond (eq_by_cmp nat_cmp n e.1) (Some e.0) (place_of es n)

-- the entry of a node's name, or its orphan
abbrev second_key : Tree → ℕ → Option Place → List ℕ
second_key t n None = orphan_key n
second_key t n (Some place) = entry_key (unwrap_or (number_at t (parent place)) 0) (get_or place (length place - 1) [])

abbrev node_keys : Tree → ℕ → Node → List (List ℕ)
node_keys t n x = inode_key n ∷ second_key t n (place_of t.names n) ∷ chunk_keys n (chunks_of x)

abbrev all_keys : Tree → List (ℕ × Node) → List (List ℕ)
all_keys t [] = []
all_keys t (e ∷ es) = node_keys t e.0 e.1 ++ all_keys t es

length_all : (t : Tree) (es : List (ℕ × Node)) → length (all_keys t es) ≡ 2 * length es + sum_by (λ e. chunks_of e.1) es
length_all t [] = refl
length_all t (e ∷ es) =
    let a = length-append (node_keys t e.0 e.1) (all_keys t es) in
    let b = length_chunks e.0 (chunks_of e.1) in
    let c = length_all t es in
    a ∙ (let s : suc (suc (length (chunk_keys e.0 (chunks_of e.1)))) + length (all_keys t es) ≡ 2 * suc (length es) + (chunks_of e.1 + sum_by (λ e. chunks_of e.1) es) = omega arith in s)
    ∙ ap (λ k. 2 * suc (length es) + k) (sym (sum_by-cons (λ (e : ℕ × Node). chunks_of e.1) e es))

in_all : (t : Tree) (es : List (ℕ × Node)) (n : ℕ) (x : Node) (q : List ℕ) → find nat_cmp n es ≡ Some x → In (node_keys t n x) q → In (all_keys t es) q
in_all t [] n x q e h = absurd (cc)
in_all t (y ∷ es) n x q e h = by (nat_cmp n y.0) refl (λ e. in_all t es n x q e h) e
  where
    by : (r : Ordering) → nat_cmp n y.0 ≡ r → (find nat_cmp n es ≡ Some x → In (all_keys t es) q) → cond (is_eq r) (Some y.1) (find nat_cmp n es) ≡ Some x → In (all_keys t (y ∷ es)) q
    by Less r later e = in_right (node_keys t y.0 y.1) (all_keys t es) q (later e)
    by Greater r later e = in_right (node_keys t y.0 y.1) (all_keys t es) q (later e)
    by Equal r later e =
        let k = objects.nat_cmp-IsAntisymmetric n y.0 r in
        let v = same_Some _ _ e in
        in_left (node_keys t y.0 y.1) (all_keys t es) q (subst (λ (z : ℕ × Node). In (node_keys t z.0 z.1) q) (λ i. (k i, sym v i)) h)

-- only the chunks
abbrev file_keys : List (ℕ × Node) → List (List ℕ)
file_keys [] = []
file_keys (e ∷ es) = chunk_keys e.0 (chunks_of e.1) ++ file_keys es

length_files : (es : List (ℕ × Node)) → length (file_keys es) ≡ sum_by (λ e. chunks_of e.1) es
length_files [] = refl
length_files (e ∷ es) =
    let a = length-append (chunk_keys e.0 (chunks_of e.1)) (file_keys es) in
    let b = length_chunks e.0 (chunks_of e.1) in
    let c = length_files es in
    a ∙ (let s : length (chunk_keys e.0 (chunks_of e.1)) + length (file_keys es) ≡ chunks_of e.1 + sum_by (λ e. chunks_of e.1) es = omega arith in s)
    ∙ sym (sum_by-cons (λ (e : ℕ × Node). chunks_of e.1) e es)

in_files : (es : List (ℕ × Node)) (n : ℕ) (x : Node) (q : List ℕ) → find nat_cmp n es ≡ Some x → In (chunk_keys n (chunks_of x)) q → In (file_keys es) q
in_files [] n x q e h = absurd (cc)
in_files (y ∷ es) n x q e h = by (nat_cmp n y.0) refl (λ e. in_files es n x q e h) e
  where
    by : (r : Ordering) → nat_cmp n y.0 ≡ r → (find nat_cmp n es ≡ Some x → In (file_keys es) q) → cond (is_eq r) (Some y.1) (find nat_cmp n es) ≡ Some x → In (file_keys (y ∷ es)) q
    by Less r later e = in_right (chunk_keys y.0 (chunks_of y.1)) (file_keys es) q (later e)
    by Greater r later e = in_right (chunk_keys y.0 (chunks_of y.1)) (file_keys es) q (later e)
    by Equal r later e =
        let k = objects.nat_cmp-IsAntisymmetric n y.0 r in
        let v = same_Some _ _ e in
        in_left (chunk_keys y.0 (chunks_of y.1)) (file_keys es) q (subst (λ (z : ℕ × Node). In (chunk_keys z.0 (chunks_of z.1)) q) (λ i. (k i, sym v i)) h)

-- ---- places by their numbers

place_missing : (k : Place) (es : List (Place × ℕ)) → T (below_all place_cmp k es) → find place_cmp k es ≡ None
place_missing k [] h = refl
place_missing k (e ∷ es) h = ap (λ b. cond b (Some e.1) (find place_cmp k es)) (lt_apart (place_cmp k e.0) (first_of _ _ h)) ∙ place_missing k es (second_of _ _ h)

pub place_found : (es : List (Place × ℕ)) (n : ℕ) (place : Place) → T (is_sorted place_cmp es) → place_of es n ≡ Some place → find place_cmp place es ≡ Some n
place_found [] n place h e = absurd (cc)
place_found (x ∷ es) n place h e = by (nat_cmp n x.1) refl (place_found es n place (second_of _ _ h)) e
  where
    later : find place_cmp place es ≡ Some n → find place_cmp place (x ∷ es) ≡ Some n
    later rest =
        elim (decide_place place x.0) [
          | inl is ↦ absurd (let bad : Some n ≡ None = sym rest ∙ ap (λ k. find place_cmp k es) is ∙ place_missing x.0 es (first_of _ _ h) in cc)
          | inr d ↦ ap (λ b. cond b (Some x.1) (find place_cmp place es)) (apart_test places_total same_places place x.0 d) ∙ rest
        ]

    by : (r : Ordering) → nat_cmp n x.1 ≡ r → (place_of es n ≡ Some place → find place_cmp place es ≡ Some n) → cond (is_eq r) (Some x.0) (place_of es n) ≡ Some place → find place_cmp place (x ∷ es) ≡ Some n
    by Less r rest f = later (rest f)
    by Greater r rest f = later (rest f)
    by Equal r rest f = ap (λ k. find place_cmp k (x ∷ es)) (sym (same_Some _ _ f)) ∙ ap (λ b. cond b (Some x.1) (find place_cmp x.0 es)) (tie_test places_total same_places x.0) ∙ ap Some (sym (objects.nat_cmp-IsAntisymmetric n x.1 r))

pub place_none : (es : List (Place × ℕ)) (n : ℕ) (place : Place) → place_of es n ≡ None → find place_cmp place es ≢ Some n
place_none [] n place e f = absurd (cc)
place_none (x ∷ es) n place e f = by (place_cmp place x.0) refl (place_none es n place (rest_none e)) f
  where
    rest_none : cond (eq_by_cmp nat_cmp n x.1) (Some x.0) (place_of es n) ≡ None → place_of es n ≡ None
    rest_none e = elim (eq_by_cmp nat_cmp n x.1) as (λ b. cond b (Some x.0) (place_of es n) ≡ None → place_of es n ≡ None) [ true ↦ λ e. absurd (cc) | false ↦ λ e. e ] e

    by : (r : Ordering) → place_cmp place x.0 ≡ r → find place_cmp place es ≢ Some n → cond (is_eq r) (Some x.1) (find place_cmp place es) ≡ Some n → ⊥
    by Less r later f = later f
    by Greater r later f = later f
    by Equal r later f =
        let is : x.1 ≡ n = same_Some _ _ f in
        let bad : Some x.0 ≡ None = ap (λ b. cond b (Some x.0) (place_of es n)) (sym (ap (eq_by_cmp nat_cmp n) is ∙ tie_test nat_cmp_total objects.nat_cmp-IsAntisymmetric n)) ∙ e in
        cc

module _ (m : Objects) (t : Tree) (tree : IsTree t) (shows : ShowsTree m t) (low : t.next ≤ 2 ^ 63) where
  spelled_some : {A : Type 0} (f : A → List ℕ) (o : Option A) (v : List ℕ) → option_map f o ≡ Some v → (x : A) × (o ≡ Some x)
  spelled_some f None v e = absurd (cc)
  spelled_some f (Some x) v e = (x, refl)

  -- the entry that a name has is the second key of its node
  second_is : (place : Place) (p n : ℕ) (name : Name) → number_at t place ≡ Some p → number_at t (place ++ name ∷ []) ≡ Some n → second_key t n (place_of t.names n) ≡ entry_key p name
  second_is place p n name at e = by (place_of t.names n) refl
    where
      new : Place
      new = place ++ name ∷ []

      long : length new ≡ length place + 1
      long = length_push place name

      up : parent new ≡ place
      up = let l = long in let k : length new - 1 ≡ length place = omega arith in ap (λ i. take i new) k ∙ take-append-le (length place) place (name ∷ []) (let r : length place ≤ length place = omega arith in r) ∙ take_all (length place) place (let r : length place ≤ length place = omega arith in r)

      last : get_or new (length new - 1) [] ≡ name
      last = let l = long in let k : length new - 1 ≡ length place = omega arith in ap (λ i. get_or new i []) k ∙ get_or_push place name [] (length place) refl

      by : (o : Option Place) → place_of t.names n ≡ o → second_key t n o ≡ entry_key p name
      by None f = absurd (place_none t.names n new f e)
      by (Some q) f =
          let is : q ≡ new = tree.apart q new n (place_found t.names n q tree.sorted_names f) e in
          ap (λ k. second_key t n (Some k)) is ∙ (λ i. entry_key (unwrap_or ((ap (number_at t) up ∙ at) i) 0) (last i))

  node_has : (n : ℕ) (o : Option Node) (v chunk : _) → ShowsChunk (Some v) o chunk → node_of t n ≡ o → (bytes : List ℕ) × (node_of t n ≡ Some (File bytes)) × (chunk < chunks_of (File bytes))
  node_has n None v chunk h e = absurd (cc)
  node_has n (Some Dir) v chunk h e = absurd (cc)
  node_has n (Some (File bytes)) v chunk h e = (bytes, e, let w = h.within in let d = w.0 in let l = w.2 in omega arith)

  key_in : (q v : List ℕ) → objects.get m q ≡ Some v → IsObjectKey q → In (super_key ∷ all_keys t t.nodes) q
  key_in q v e is_super = inl refl
  key_in q v e (is_inode n lt) =
      let x = spelled_some inode_of (node_of t n) v (sym (shows.inodes n lt) ∙ e) in
      inr (in_all t t.nodes n x.0 (inode_key n) x.1 (inl refl))
  key_in q v e (is_entry p name lt short) = by (place_of t.names p) refl
    where
      by : (o : Option Place) → place_of t.names p ≡ o → In (super_key ∷ all_keys t t.nodes) (entry_key p name)
      by None f = absurd (let bad : None ≡ Some v = sym (shows.no_entries p name lt short (λ place g. place_none t.names p place f g)) ∙ e in cc)
      by (Some place) f =
          let at = place_found t.names p place tree.sorted_names f in
          let n = spelled_some entry_value (number_at t (place ++ name ∷ [])) v (sym (shows.entries place p name at short) ∙ e) in
          let x = tree.there (place ++ name ∷ []) n.0 n.1 in
          inr (in_all t t.nodes n.0 x.0 (entry_key p name) x.1 (inr (inl (sym (second_is place p n.0 name at n.1)))))
  key_in q v e (is_chunk n chunk lt lc) =
      let h = node_has n (node_of t n) v chunk (subst (λ o. ShowsChunk o (node_of t n) chunk) e (shows.chunks n chunk lt lc)) refl in
      inr (in_all t t.nodes n (File h.0) (chunk_key n chunk) h.1 (inr (inr (in_chunks n chunk (chunks_of (File h.0)) h.2))))
  key_in q v e (is_orphan n lt) = by (node_of t n) refl (place_of t.names n) refl
    where
      by : (o : Option Node) → node_of t n ≡ o → (p : Option Place) → place_of t.names n ≡ p → In (super_key ∷ all_keys t t.nodes) (orphan_key n)
      by None f p g = absurd (let bad : None ≡ Some v = sym (shows.no_orphans n lt f) ∙ e in cc)
      by (Some x) f None g = inr (in_all t t.nodes n x (orphan_key n) f (inr (inl (ap (second_key t n) (sym g)))))
      by (Some x) f (Some place) g = absurd (let bad : None ≡ Some v = sym (shows.named place n (place_found t.names n place tree.sorted_names g)) ∙ e in cc)

  pub few_objects : objects.len m ≤ charge t
  few_objects =
      let h = few_kept (λ e. true) m (super_key ∷ all_keys t t.nodes) (λ q v e _. key_in q v e (shows.only q v e)) in
      let a = kept_all (objects.entries m) in
      let b = length_all t t.nodes in
      let c = objects.len-entries m in
      omega arith

count_kept : {X : Type 0} (f : X → Bool) (es : List (List ℕ × X)) → count_by f (map (λ e. e.1) es) ≡ length (kept (λ e. f e.1) es)
count_kept f [] = refl
count_kept f (e ∷ es) = sum_by-cons (λ x. cond (f x) 1 0) e.1 (map (λ e. e.1) es) ∙ by (f e.1) (count_kept f es)
  where
    by : (b : Bool) → count_by f (map (λ e. e.1) es) ≡ length (kept (λ e. f e.1) es) → cond b 1 0 + count_by f (map (λ e. e.1) es) ≡ length (map (λ e. e.0) (cond b (e ∷ filter (λ e. f e.1) es) (filter (λ e. f e.1) es)))
    by true rest = let r = rest in omega arith
    by false rest = let r = rest in omega arith

module _ (m : Objects) (t : Tree) (k : ℕ) (tree : IsTree t) (shows : Shows m t k) (low : t.next ≤ 2 ^ 63) where
  not_large : (q v w : List ℕ) → objects.get m q ≡ Some v → objects.get m q ≡ Some w → length w ≤ 128 → nat_lt 128 (length v) ≡ true → ⊥
  not_large q v w e f le large = let same = ap length (same_Some _ _ (sym e ∙ f)) in let big : nat_lt 128 (length v) ≡ false = grind (arith, nat_tests) in let bad : true ≡ false = sym large ∙ big in cc

  small_inode : (x : Node) → length (inode_of x) ≤ 128
  small_inode Dir = let h = length_be64 0 in omega arith
  small_inode (File bytes) = let h = length_be64 (length bytes) in omega arith

  option_case : {A : Type 0} (f : A → List ℕ) (o : Option A) (v : List ℕ) → option_map f o ≡ Some v → (x : A) × (option_map f o ≡ Some (f x))
  option_case f None v e = absurd (cc)
  option_case f (Some x) v e = (x, refl)

  large_in : (q v : List ℕ) → objects.get m q ≡ Some v → nat_lt 128 (length v) ≡ true → IsObjectKey q → In (file_keys t.nodes) q
  large_in q v e large is_super = absurd (not_large q v (super_value k t.next) e shows.head (let h = length-append (be64 k) (be64 t.next) in let a = length_be64 k in let b = length_be64 t.next in omega arith) large)
  large_in q v e large (is_inode n lt) =
      let x = option_case inode_of (node_of t n) v (sym (shows.tree.inodes n lt) ∙ e) in
      absurd (not_large (inode_key n) v (inode_of x.0) e (shows.tree.inodes n lt ∙ x.1) (small_inode x.0) large)
  large_in q v e large (is_entry p name lt short) = by (place_of t.names p) refl
    where
      by : (o : Option Place) → place_of t.names p ≡ o → In (file_keys t.nodes) (entry_key p name)
      by None f = absurd (let bad : None ≡ Some v = sym (shows.tree.no_entries p name lt short (λ place g. place_none t.names p place f g)) ∙ e in cc)
      by (Some place) f =
          let at = place_found t.names p place tree.sorted_names f in
          let n = option_case entry_value (number_at t (place ++ name ∷ [])) v (sym (shows.tree.entries place p name at short) ∙ e) in
          absurd (not_large (entry_key p name) v (entry_value n.0) e (shows.tree.entries place p name at short ∙ n.1) (let h = length_be64 n.0 in omega arith) large)
  large_in q v e large (is_chunk n chunk lt lc) =
      let h = node_has m t tree shows.tree low n (node_of t n) v chunk (subst (λ o. ShowsChunk o (node_of t n) chunk) e (shows.tree.chunks n chunk lt lc)) refl in
      in_files t.nodes n (File h.0) (chunk_key n chunk) h.1 (in_chunks n chunk (chunks_of (File h.0)) h.2)
  large_in q v e large (is_orphan n lt) = by (node_of t n) refl (place_of t.names n) refl
    where
      by : (o : Option Node) → node_of t n ≡ o → (p : Option Place) → place_of t.names n ≡ p → In (file_keys t.nodes) (orphan_key n)
      by None f p g = absurd (let bad : None ≡ Some v = sym (shows.tree.no_orphans n lt f) ∙ e in cc)
      by (Some x) f None g = absurd (not_large (orphan_key n) v orphan_value e (shows.tree.orphans n x lt f (λ place h. place_none t.names n place g h)) (omega arith) large)
      by (Some x) f (Some place) g = absurd (let bad : None ≡ Some v = sym (shows.tree.named place n (place_found t.names n place tree.sorted_names g)) ∙ e in cc)

  pub few_pages : page_count m ≤ chunks t
  unfolding page_count
  few_pages =
      let h = few_kept (λ e. nat_lt 128 (length e.1)) m (file_keys t.nodes) (λ q v e large. large_in q v e large (shows.tree.only q v e)) in
      let a = count_kept (λ v. nat_lt 128 (length v)) (objects.entries m) in
      let b = length_files t.nodes in
      omega arith
