-- Laws of the machine.
use Rattle.std.proofs.Common.{◌≡◌, ℕ, Bool, true, false, refl, sym, ◌∙◌, ap, List, [], ◌∷◌, Option, Some, None, arith, length, T, ◌&&◌, cond, ◌≤◌, ◌+◌, ◌-◌}
use Rattle.std.specs.Ordering.{is_lt, is_eq, eq_by_cmp}
use Rattle.std.specs.declared.cmp.Ordering.{Ordering}
use Rattle.std.specs.declared.cmp.Ordering.TheVariants.{Less, Equal, Greater}
use Rattle.std.specs.FinMap.Entries.{below_all, is_sorted}
use Rattle.std.specs.Cmp.Lexicographic.{nat_list_cmp_total}
use Rattle.std.specs.FinMap as objects
use Rattle.kv_device.specs.Bytes.{bytes_cmp}
use Rattle.kv_device.specs.Machine.{Machine, change_count}
use Rattle.kv_device.specs.Objects.{Objects, Changes, seen_through, changed, changed_all}
use Rattle.kv_device.proofs.KeyMapLaws.{same_keys}
use Rattle.kv_device.specs.Calls.{is_tx_full}

nil_of_length : {A : Type 0} (xs : List A) → length xs ≡ 0 → xs ≡ []
nil_of_length [] e = refl
nil_of_length (x ∷ xs) e = absurd (omega arith)

-- the entries of the empty map
pub entries-empty : (X : Type 0) → objects.entries (objects.empty {X = X} {R = bytes_cmp}) ≡ []
entries-empty X = nil_of_length _ (sym (objects.len-entries (objects.empty {X = X} {R = bytes_cmp})) ∙ objects.len-empty bytes_cmp X)

-- one change
pub seen_through-one : (key : List ℕ) (value : List ℕ) (m : Objects) → seen_through (objects.insert objects.empty key (Some value)) m ≡ objects.insert m key value
unfolding seen_through
seen_through-one key value m =
    ap (λ es. changed_all es m) (objects.entries-insert nat_list_cmp_total objects.empty key (Some value) ∙ ap (objects.put bytes_cmp key (Some value)) (entries-empty (Option (List ℕ))))

-- a transaction that has just begun, alone, has room
pub is_tx_full-begun : (m : Machine) (key : List ℕ) → is_tx_full (record m { pending = Some objects.empty ∷ None ∷ None ∷ None ∷ [] }) 0 key ≡ false
unfolding is_tx_full change_count
is_tx_full-begun m key = simp (objects.get-empty {X = Option (List ℕ)} bytes_cmp, objects.len-empty bytes_cmp (Option (List ℕ)))

-- what is above all has no entry
pub find_below : {X : Type 0} (x : List ℕ) (es : List (List ℕ × X)) → T (below_all bytes_cmp x es) → objects.find bytes_cmp x es ≡ None
find_below x [] h = refl
find_below x (e ∷ es) h = by (bytes_cmp x e.0) h (find_below x es)
  where
    by : (o : Ordering) → T (is_lt o && below_all bytes_cmp x es) → (T (below_all bytes_cmp x es) → objects.find bytes_cmp x es ≡ None) → cond (is_eq o) (Some e.1) (objects.find bytes_cmp x es) ≡ None
    by Less h rest = rest h
    by Equal h rest = absurd h
    by Greater h rest = absurd h

pub rest_sorted : (a b : Bool) → T (a && b) → T b
rest_sorted true b h = h
rest_sorted false b h = absurd h

pub front_below : (a b : Bool) → T (a && b) → T a
front_below true b h = tt
front_below false b h = absurd h

-- a change, where there is one, over what was there
abbrev pub over : Option (Option (List ℕ)) → Option (List ℕ) → Option (List ℕ)
over None o = o
over (Some change) o = change

pub over-cond : (b : Bool) (change : Option (List ℕ)) (f : Option (Option (List ℕ))) (o : Option (List ℕ)) → over (cond b (Some change) f) o ≡ cond b change (over f o)
over-cond true change f o = refl
over-cond false change f o = refl

pub get-changed : (m : Objects) (key : List ℕ) (change : Option (List ℕ)) (q : List ℕ) → objects.get (changed m (key, change)) q ≡ cond (eq_by_cmp bytes_cmp q key) change (objects.get m q)
get-changed m key None q = objects.get-remove nat_list_cmp_total m key q
get-changed m key (Some v) q = objects.get-insert nat_list_cmp_total m key v q

pub get-changed_all : (es : List (List ℕ × Option (List ℕ))) (m : Objects) (q : List ℕ) → T (is_sorted bytes_cmp es) → objects.get (changed_all es m) q ≡ over (objects.find bytes_cmp q es) (objects.get m q)
get-changed_all [] m q s = refl
get-changed_all (e ∷ es) m q s =
    get-changed_all es (changed m e) q (rest_sorted _ _ s)
    ∙ ap (over (objects.find bytes_cmp q es)) (get-changed m e.0 e.1 q)
    ∙ by (bytes_cmp q e.0) refl
  where
    by : (o : Ordering) → bytes_cmp q e.0 ≡ o → over (objects.find bytes_cmp q es) (cond (is_eq o) e.1 (objects.get m q)) ≡ over (cond (is_eq o) (Some e.1) (objects.find bytes_cmp q es)) (objects.get m q)
    by Less r = refl
    by Equal r =
        let none : objects.find bytes_cmp q es ≡ None = ap (λ x. objects.find bytes_cmp x es) (same_keys q e.0 r) ∙ find_below e.0 es (front_below _ _ s) in
        ap (λ f. over f e.1) none
    by Greater r = refl

-- what a transaction sees at a key
pub get-seen_through : (changes : Changes) (m : Objects) (q : List ℕ) → objects.get (seen_through changes m) q ≡ over (objects.get changes q) (objects.get m q)
unfolding seen_through
get-seen_through changes m q = get-changed_all (objects.entries changes) m q (objects.entries_sorted changes) ∙ ap (λ f. over f (objects.get m q)) (sym (objects.get-entries changes q))

-- it has at most as many more keys as there are changes
len-changed : (m : Objects) (key : List ℕ) (change : Option (List ℕ)) → objects.len (changed m (key, change)) ≤ objects.len m + 1
len-changed m key None = rw (objects.len-remove nat_list_cmp_total m key) (by (objects.contains_key m key))
  where
    by : (b : Bool) → cond b (objects.len m - 1) (objects.len m) ≤ objects.len m + 1
    by true = omega arith
    by false = omega arith
len-changed m key (Some v) = rw (objects.len-insert nat_list_cmp_total m key v) (by (objects.contains_key m key))
  where
    by : (b : Bool) → cond b (objects.len m) (objects.len m + 1) ≤ objects.len m + 1
    by true = omega arith
    by false = omega arith

len-changed_all : (es : List (List ℕ × Option (List ℕ))) (m : Objects) → objects.len (changed_all es m) ≤ objects.len m + length es
len-changed_all [] m = omega arith
len-changed_all (e ∷ es) m = omega (arith, len-changed_all es (changed m e), len-changed m e.0 e.1)

pub len-seen_through : (changes : Changes) (m : Objects) → objects.len (seen_through changes m) ≤ objects.len m + objects.len changes
unfolding seen_through
len-seen_through changes m = omega (arith, len-changed_all (objects.entries changes) m, objects.len-entries changes)
