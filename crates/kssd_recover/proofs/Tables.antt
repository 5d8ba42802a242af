-- The table of a log: the keys of its groups are among those of its pages.
use Rattle.std.proofs.Common.{◌≡◌, ◌∙◌, ◌⊎◌, ℕ, suc, ◌<◌, ◌≤◌, Bool, true, false, cond, eqb, List, [], ◌∷◌, ◌++◌, length, take, drop, get_or, map, Option, Some, refl, sym, ap, arith, inl, inr, append_assoc, take-append-drop}
use Rattle.std.specs.Prelude.{IsSome}
use Rattle.std.proofs.Math.Seq.{drop-cons}
use Rattle.std.proofs.lemmas.List.{append-nil}
use Rattle.std.proofs.lemmas.List.Concat.{flat_map-append}
use Rattle.std.specs.declared.cmp.Ordering.{Ordering}
use Rattle.std.specs.declared.cmp.Ordering.TheVariants.{Less, Equal, Greater}
use Rattle.std.specs.Ordering.{nat_cmp, match_ordering, is_eq}
use Rattle.std.specs.Cmp.Lexicographic.{slice_cmp}
use Rattle.std.specs.BTreeSet.{insert_key}
use Rattle.std.specs.FinMap.{nat_cmp-IsAntisymmetric, slice_cmp-IsAntisymmetric}
use Rattle.kssd_entry.specs.declared.entry.Entry.{Entry}
use Rattle.kssd_entry.specs.Spelling.{key_of}
use Rattle.kssd_model.specs.Groups.{LogPage, groups_from, rest_from, logged, key_set, AreAllowed}
use Rattle.kssd_model.specs.Rising.{key_cmp, has_key, find_entry, by_order, put_entry, merged}
use Rattle.kssd_model.proofs.RisingEntries.{has_key_is, turned}
use Rattle.kssd_image.specs.Stages.{entries_of}

-- ---- one more entry

found_or : (b : Bool) (x : Entry) (o : Option Entry) → b ≡ true → IsSome (cond b (Some x) o)
found_or true x o e = refl
found_or false x o e = absurd cc

found_behind : (b : Bool) (x : Entry) (o : Option Entry) → IsSome o → IsSome (cond b (Some x) o)
found_behind true x o h = refl
found_behind false x o h = h

-- an entry takes the place of that of its key, or is one more
pub put_counts : (t : List Entry) (e : Entry) → IsSome (find_entry t (key_of e)) ⊎ (length (put_entry t e) ≡ suc (length t))
put_counts [] e = inr refl
put_counts (x ∷ xs) e = by (key_cmp (key_of e) (key_of x)) refl (put_counts xs e)
  where
    by : (o : Ordering) → key_cmp (key_of e) (key_of x) ≡ o → IsSome (find_entry xs (key_of e)) ⊎ (length (put_entry xs e) ≡ suc (length xs)) → IsSome (cond (has_key (key_of e) x) (Some x) (find_entry xs (key_of e))) ⊎ (length (by_order o (e ∷ x ∷ xs) (e ∷ xs) (x ∷ put_entry xs e)) ≡ suc (suc (length xs)))
    by Less is rest = inr refl
    by Equal is rest = inl (found_or _ x _ (has_key_is (key_of e) x ∙ ap is_eq (turned (key_of e) (key_of x) Equal is)))
    by Greater is rest = elim rest [
      | inl some ↦ inl (found_behind (has_key (key_of e) x) x _ some)
      | inr more ↦ inr (ap suc more)
    ]

put_grows : (t : List Entry) (e : Entry) → length t ≤ length (put_entry t e)
put_grows [] e = omega arith
put_grows (x ∷ xs) e = by (key_cmp (key_of e) (key_of x)) (put_grows xs e)
  where
    by : (o : Ordering) → length xs ≤ length (put_entry xs e) → suc (length xs) ≤ length (by_order o (e ∷ x ∷ xs) (e ∷ xs) (x ∷ put_entry xs e))
    by Less rest = omega arith
    by Equal rest = omega arith
    by Greater rest = omega arith

pub merged_grows : (entries older : List Entry) → length older ≤ length (merged entries older)
merged_grows [] older = omega arith
merged_grows (e ∷ es) older = omega (arith, put_grows older e, merged_grows es (put_entry older e))

pub merged_more : (early late older : List Entry) → merged (early ++ late) older ≡ merged late (merged early older)
merged_more [] late older = refl
merged_more (e ∷ early) late older = merged_more early late (put_entry older e)

-- the entry may be put that comes next of those that bring a table to so many keys at most
pub may_put : (entries older table : List Entry) (i most : ℕ) (e copy : Entry) → i < length entries → e ≡ get_or entries i e → copy ≡ e → table ≡ merged (take i entries) older → length (merged entries older) ≤ most → IsSome (find_entry table (key_of copy)) ⊎ (length table < most)
may_put entries older table i most e copy lt is same now fits =
    let parts : take i entries ++ (copy ∷ drop (suc i) entries) ≡ entries =
    ap (λ (x : Entry). take i entries ++ (x ∷ drop (suc i) entries)) (same ∙ is) ∙ ap (λ (xs : List Entry). take i entries ++ xs) (sym (drop-cons entries i e lt)) ∙ take-append-drop i entries in
    let all : merged entries older ≡ merged (drop (suc i) entries) (put_entry table copy) =
    ap (λ (xs : List Entry). merged xs older) (sym parts) ∙ merged_more (take i entries) (copy ∷ drop (suc i) entries) older ∙ ap (λ (t : List Entry). merged (drop (suc i) entries) (put_entry t copy)) (sym now) in
    elim (put_counts table copy) [
      | inl some ↦ inl some
      | inr more ↦ inr (omega (arith, ap length all, merged_grows (drop (suc i) entries) (put_entry table copy)))
    ]

-- ---- one more group

entries_more : (early late : List (List Entry)) → entries_of (early ++ late) ≡ entries_of early ++ entries_of late
entries_more early late = flat_map-append (λ (group : List Entry). group) early late

-- the group may be put that comes next
pub may_put_group : (groups : List (List Entry)) (table group : List Entry) (i most : ℕ) → i < length groups → group ≡ get_or groups i group → table ≡ merged (entries_of (take i groups)) [] → length (merged (entries_of groups) []) ≤ most → length (merged group table) ≤ most
may_put_group groups table group i most lt is now fits =
    let behind = drop (suc i) groups in
    let parts : take i groups ++ (group ∷ behind) ≡ groups =
    ap (λ (x : List Entry). take i groups ++ (x ∷ behind)) is ∙ ap (λ (xs : List (List Entry)). take i groups ++ xs) (sym (drop-cons groups i group lt)) ∙ take-append-drop i groups in
    let all : merged (entries_of groups) [] ≡ merged (entries_of behind) (merged group table) =
    ap (λ (xs : List (List Entry)). merged (entries_of xs) []) (sym parts)
    ∙ ap (λ (xs : List Entry). merged xs []) (entries_more (take i groups) (group ∷ behind))
    ∙ merged_more (entries_of (take i groups)) (group ++ entries_of behind) []
    ∙ merged_more group (entries_of behind) (merged (entries_of (take i groups)) [])
    ∙ ap (λ (t : List Entry). merged (entries_of behind) (merged group t)) (sym now) in
    omega (arith, ap length all, merged_grows (entries_of behind) (merged group table))

-- ---- the keys of a log

-- keys that compare as equal are the same
same_key : (a b : List ℕ) → key_cmp a b ≡ Equal → a ≡ b
same_key = slice_cmp-IsAntisymmetric nat_cmp-IsAntisymmetric

-- a table's keys are those put, each once
keys-put : (t : List Entry) (e : Entry) → map key_of (put_entry t e) ≡ insert_key (slice_cmp nat_cmp) (map key_of t) (key_of e)
keys-put [] e = refl
keys-put (x ∷ xs) e = by (key_cmp (key_of e) (key_of x)) refl (keys-put xs e)
  where
    by : (o : Ordering) → key_cmp (key_of e) (key_of x) ≡ o → map key_of (put_entry xs e) ≡ insert_key (slice_cmp nat_cmp) (map key_of xs) (key_of e) → map key_of (by_order o (e ∷ x ∷ xs) (e ∷ xs) (x ∷ put_entry xs e)) ≡ match_ordering o (key_of e ∷ key_of x ∷ map key_of xs) (key_of x ∷ map key_of xs) (key_of x ∷ insert_key (slice_cmp nat_cmp) (map key_of xs) (key_of e))
    by Less is rest = refl
    by Equal is rest = ap (λ (k : List ℕ). k ∷ map key_of xs) (same_key _ _ is)
    by Greater is rest = ap (λ (ks : List (List ℕ)). key_of x ∷ ks) rest

keys-merged : (entries older : List Entry) → map key_of (merged entries older) ≡ key_set (map key_of older) entries
keys-merged [] older = refl
keys-merged (e ∷ es) older = keys-merged es (put_entry older e) ∙ ap (λ (ks : List (List ℕ)). key_set ks es) (keys-put older e)

length-keys : (entries : List Entry) → length (map key_of entries) ≡ length entries
length-keys [] = refl
length-keys (e ∷ es) = ap suc (length-keys es)

-- the entries of whole groups come first among those of the pages, and then the rest
groups_and_rest : (pending : List Entry) (pages : List LogPage) → entries_of (groups_from pending pages) ++ rest_from pending pages ≡ pending ++ logged pages
groups_and_rest pending [] = sym (append-nil pending)
groups_and_rest pending (x ∷ xs) = by (eqb x.flags 1) (groups_and_rest [] xs) (groups_and_rest (pending ++ x.entries) xs)
  where
    by : (b : Bool) → entries_of (groups_from [] xs) ++ rest_from [] xs ≡ logged xs → entries_of (groups_from (pending ++ x.entries) xs) ++ rest_from (pending ++ x.entries) xs ≡ (pending ++ x.entries) ++ logged xs
        → entries_of (cond b ((pending ++ x.entries) ∷ groups_from [] xs) (groups_from (pending ++ x.entries) xs)) ++ cond b (rest_from [] xs) (rest_from (pending ++ x.entries) xs) ≡ pending ++ (x.entries ++ logged xs)
    by true whole more = append_assoc (pending ++ x.entries) (entries_of (groups_from [] xs)) (rest_from [] xs) ∙ ap (λ (es : List Entry). (pending ++ x.entries) ++ es) whole ∙ append_assoc pending x.entries (logged xs)
    by false whole more = more ∙ append_assoc pending x.entries (logged xs)

-- the groups of a log that a mount takes have at most 2,048 keys
pub few_keys : (pages : List LogPage) → AreAllowed pages → length (merged (entries_of (groups_from [] pages)) []) ≤ 2048
few_keys pages allowed =
    let entries = entries_of (groups_from [] pages) in
    let rest = rest_from [] pages in
    let all : merged rest (merged entries []) ≡ merged (logged pages) [] = sym (merged_more entries rest []) ∙ ap (λ (es : List Entry). merged es []) (groups_and_rest [] pages) in
    let counted : length (merged (logged pages) []) ≡ length (key_set [] (logged pages)) = sym (length-keys (merged (logged pages) [])) ∙ ap length (keys-merged (logged pages) []) in
    omega (arith, merged_grows rest (merged entries []), ap length all, counted, allowed.keys)
