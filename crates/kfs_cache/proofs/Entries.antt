-- The entries of a cache, read as a map.
use Rattle.std.proofs.Common.{◌≡◌, ℕ, arith, length, Bool, true, false, cond, refl, sym, ◌∙◌, ap, List, [], ◌∷◌, map, take, zero, suc, ◌-◌, nat_eq, Option, Some, None}
use Rattle.std.specs.Cmp.{IsEquivalence, on_equiv}
use Rattle.std.specs.Cmp.Lexicographic.{pointwise, bytes_decides, texts_ties, nat_list_eq_equiv, nat_list_cmp_total}
use Rattle.std.specs.List.{IsDistinct, AllByRecursion}
use Rattle.std.specs.Option.{option_map_or}
use Rattle.std.specs.Map.{keys_of, lookup, lookup_entry, remove_entry, AreApart}
use Rattle.std.specs.declared.vec.Vec.{Vec}
use Rattle.std.specs.FinMap as objects
use Rattle.kv_device.specs.Bytes.{bytes_cmp}
use Rattle.kv_device.specs.Objects.{Objects}
use Rattle.kv_device.proofs.KeyMapLaws.{same_keys}
use Rattle.lru.specs.LruCache.{LruCache, promoted, put_entries}
use Rattle.lru.proofs.CallerLemmas.{Contains-lookup_entry, lookup-put_entries}
use Rattle.kfs_cache.specs.Parts.{bytes_pair, shown, IsPart}

either : {P : Type 0} (b : Bool) → (b ≡ true → P) → (b ≡ false → P) → P
either true p q = p refl
either false p q = q refl

abbrev Entries : Type 0 → Type 0
Entries Z = List (Vec ℕ Z × List ℕ)

module _ {Z : Type 0} where
  -- a key has these bytes
  abbrev pub at : List ℕ → Vec ℕ Z → Bool
  at q k = pointwise nat_eq q k.items

  abbrev pub same : Vec ℕ Z → Vec ℕ Z → Bool
  same k l = at k.items l

  pub same_equiv : IsEquivalence same
  same_equiv = on_equiv (λ k. k.items) nat_list_eq_equiv

  found : (es : Entries Z) (q : List ℕ) → objects.find bytes_cmp q (map bytes_pair es) ≡ lookup (at q) es
  found [] q = refl
  found (e ∷ es) q = λ i. cond (sym (texts_ties q e.0.items) i) (Some e.1) (found es q i)

  pub get_shown : (es : Entries Z) (q : List ℕ) → objects.get (shown es) q ≡ lookup (at q) es
  unfolding shown
  get_shown es q = objects.get-from_entries nat_list_cmp_total (map bytes_pair es) q ∙ found es q

  pub shown_alike : (es : Entries Z) (m : Objects) → ((q : List ℕ) → lookup (at q) es ≡ objects.get m q) → shown es ≡ m
  shown_alike es m alike = objects.same_map nat_list_cmp_total same_keys _ _ (λ q. get_shown es q ∙ alike q)

  pub shown_none : (es : Entries Z) → es ≡ [] → shown es ≡ objects.empty
  shown_none es none = ap shown none ∙ shown_alike [] objects.empty (λ q. sym (objects.get-empty bytes_cmp q))

  -- a key with other bytes than these
  apart : (k q : List ℕ) → pointwise nat_eq q k ≡ false → AreApart (at k) (at q)
  apart k q other x hit = ap (λ b. pointwise nat_eq q b) (sym ((bytes_decides k x.items).0 hit)) ∙ other

  -- what is left without a key
  left_apart : (k q : List ℕ) → AreApart (at k) (at q) → (es : Entries Z) → lookup (at q) (remove_entry (at k) es) ≡ lookup (at q) es
  left_apart k q other [] = refl
  left_apart k q other (e ∷ es) = either (at k e.0)
      (λ hit. ap (λ b. lookup (at q) (cond b es (e ∷ remove_entry (at k) es))) hit ∙ sym (ap (λ b. cond b (Some e.1) (lookup (at q) es)) (other e.0 hit)))
      (λ no. ap (λ b. lookup (at q) (cond b es (e ∷ remove_entry (at k) es))) no ∙ ap (cond (at q e.0) (Some e.1)) (left_apart k q other es))

  none_at : (k : Vec ℕ Z) (es : Entries Z) → AllByRecursion (λ x. same k x ≡ false) (keys_of es) → lookup (same k) es ≡ None
  none_at k [] h = refl
  none_at k (e ∷ es) h = ap (λ b. cond b (Some e.1) (lookup (same k) es)) h.0 ∙ none_at k es h.1

  left_same : (k : List ℕ) (es : Entries Z) → IsDistinct same (keys_of es) → lookup (at k) (remove_entry (at k) es) ≡ None
  unfolding IsDistinct
  left_same k [] d = refl
  left_same k (e ∷ es) d = either (at k e.0)
      (λ hit. ap (λ b. lookup (at k) (cond b es (e ∷ remove_entry (at k) es))) hit ∙ ap (λ b. lookup (at b) es) ((bytes_decides k e.0.items).0 hit) ∙ none_at e.0 es d.0)
      (λ no. ap (λ b. lookup (at k) (cond b es (e ∷ remove_entry (at k) es))) no ∙ ap (λ b. cond b (Some e.1) (lookup (at k) (remove_entry (at k) es))) no ∙ left_same k es d.1)

  entry_value : (k : List ℕ) (es : Entries Z) (e : Vec ℕ Z × List ℕ) → lookup_entry (at k) es ≡ Some e → lookup (at k) es ≡ Some e.1
  entry_value k [] e h = cc
  entry_value k (f ∷ es) e h = either (at k f.0)
      (λ hit. let is : f ≡ e = let h' = rw hit at h in cc in ap (λ b. cond b (Some f.1) (lookup (at k) es)) hit ∙ ap (λ x. Some x.1) is)
      (λ no. ap (λ b. cond b (Some f.1) (lookup (at k) es)) no ∙ entry_value k es e (rw no at h))

  -- the entry of a key goes first, with a value
  fronted : (k q : List ℕ) (es : Entries Z) (x : Vec ℕ Z) (v : List ℕ) → at k x ≡ true → pointwise nat_eq q k ≡ false → cond (at q x) (Some v) (lookup (at q) (remove_entry (at k) es)) ≡ lookup (at q) es
  fronted k q es x v hit other = ap (λ b. cond b (Some v) (lookup (at q) (remove_entry (at k) es))) (apart k q other x hit) ∙ left_apart k q (apart k q other) es

  promoted_by : (k q : List ℕ) (es : Entries Z) (o : Option (Vec ℕ Z × List ℕ)) → lookup_entry (at k) es ≡ o → lookup (at q) (option_map_or (λ e. e ∷ remove_entry (at k) es) o es) ≡ lookup (at q) es
  promoted_by k q es None h = refl
  promoted_by k q es (Some e) h =
      let hit = (Contains-lookup_entry (at k) es e h).1 in
      either (pointwise nat_eq q k)
      (λ yes. let is = (bytes_decides q k).0 yes in
      let here : at q e.0 ≡ true = ap (λ b. pointwise nat_eq b e.0.items) is ∙ hit in
      ap (λ b. cond b (Some e.1) (lookup (at q) (remove_entry (at k) es))) here ∙ sym (ap (λ b. lookup (at b) es) is ∙ entry_value k es e h))
      (λ no. fronted k q es e.0 e.1 hit no)

  -- a look-up changes the order alone
  pub shown-promoted : (k : List ℕ) (es : Entries Z) → shown (promoted (at k) es) ≡ shown es
  shown-promoted k es = shown_alike (promoted (at k) es) (shown es) (λ q. promoted_by k q es (lookup_entry (at k) es) refl ∙ sym (get_shown es q))

  -- a key taken away
  pub shown-removed : (k : List ℕ) (es : Entries Z) → IsDistinct same (keys_of es) → shown (remove_entry (at k) es) ≡ objects.remove (shown es) k
  shown-removed k es distinct = shown_alike (remove_entry (at k) es) (objects.remove (shown es) k) (λ q.
      either (pointwise nat_eq q k)
      (λ yes. ap (λ b. lookup (at b) (remove_entry (at k) es)) ((bytes_decides q k).0 yes)
      ∙ left_same k es distinct
      ∙ sym (ap (λ b. cond b None (objects.get (shown es) q)) (sym (texts_ties q k) ∙ yes)))
      (λ no. left_apart k q (apart k q no) es
      ∙ sym (get_shown es q)
      ∙ sym (ap (λ b. cond b None (objects.get (shown es) q)) (sym (texts_ties q k) ∙ no)))
      ∙ sym (objects.get-remove nat_list_cmp_total (shown es) k q))

  taken : (n : ℕ) (q v : List ℕ) (es : Entries Z) → lookup (at q) (take n es) ≡ Some v → lookup (at q) es ≡ Some v
  taken zero q v es h = cc
  taken (suc n) q v [] h = h
  taken (suc n) q v (e ∷ es) h = either (at q e.0)
      (λ hit. ap (λ b. cond b (Some e.1) (lookup (at q) es)) hit ∙ sym (ap (λ b. cond b (Some e.1) (lookup (at q) (take n es))) hit) ∙ h)
      (λ no. ap (λ b. cond b (Some e.1) (lookup (at q) es)) no ∙ taken n q v es (sym (ap (λ b. cond b (Some e.1) (lookup (at q) (take n es))) no) ∙ h))

  put_by : (c : LruCache (Vec ℕ Z) (List ℕ)) (k : Vec ℕ Z) (v q w : List ℕ) (o : Option (Vec ℕ Z × List ℕ)) → pointwise nat_eq q k.items ≡ false → lookup_entry (same k) c.entries ≡ o
      → lookup (at q) (option_map_or (λ e. (e.0, v) ∷ remove_entry (same k) c.entries) o ((k, v) ∷ take (c.cap - 1) c.entries)) ≡ Some w → lookup (at q) c.entries ≡ Some w
  put_by c k v q w None other h hit = taken (c.cap - 1) q w c.entries (sym (ap (λ b. cond b (Some v) (lookup (at q) (take (c.cap - 1) c.entries))) other) ∙ hit)
  put_by c k v q w (Some e) other h hit = sym (fronted k.items q c.entries e.0 v (Contains-lookup_entry (same k) c.entries e h).1 other) ∙ hit

  -- a value put
  pub shown-put : (c : LruCache (Vec ℕ Z) (List ℕ)) (k : Vec ℕ Z) (v : List ℕ) → objects.get (shown (put_entries same c k v)) k.items ≡ Some v
  shown-put c k v = get_shown (put_entries same c k v) k.items ∙ lookup-put_entries same c k v same_equiv

  pub part-put : (c : LruCache (Vec ℕ Z) (List ℕ)) (k : Vec ℕ Z) (v : List ℕ) → IsPart (shown (put_entries same c k v)) (objects.insert (shown c.entries) k.items v)
  part-put c k v q w h =
      objects.get-insert nat_list_cmp_total (shown c.entries) k.items v q
      ∙ either (pointwise nat_eq q k.items)
      (λ yes. ap (λ b. cond b (Some v) (objects.get (shown c.entries) q)) (sym (texts_ties q k.items) ∙ yes)
      ∙ sym (shown-put c k v) ∙ ap (objects.get (shown (put_entries same c k v))) (sym ((bytes_decides q k.items).0 yes)) ∙ h)
      (λ no. ap (λ b. cond b (Some v) (objects.get (shown c.entries) q)) (sym (texts_ties q k.items) ∙ no)
      ∙ get_shown c.entries q
      ∙ put_by c k v q w (lookup_entry (same k) c.entries) no refl (sym (get_shown (put_entries same c k v) q) ∙ h))

  pub put_found : (c : LruCache (Vec ℕ Z) (List ℕ)) (k : Vec ℕ Z) (v key value : List ℕ) (es : Entries Z) → es ≡ put_entries same c k v → k.items ≡ key → v ≡ value → objects.get (shown es) key ≡ Some value
  put_found c k v key value es is name copied = ap (λ e. objects.get (shown e) key) is ∙ ap (objects.get (shown (put_entries same c k v))) (sym name) ∙ shown-put c k v ∙ ap Some copied

  pub put_part : (c : LruCache (Vec ℕ Z) (List ℕ)) (k : Vec ℕ Z) (v key value : List ℕ) (es : Entries Z) (old : Objects) → es ≡ put_entries same c k v → k.items ≡ key → v ≡ value → shown c.entries ≡ old → IsPart (shown es) (objects.insert old key value)
  put_part c k v key value es old is name copied was q w h =
      (λ i. objects.get (objects.insert (sym was i) (sym name i) (sym copied i)) q) ∙ part-put c k v q w (ap (λ e. objects.get (shown e) q) (sym is) ∙ h)

  pub taken_away : (k : List ℕ) (es fs : Entries Z) (old : Objects) → IsDistinct same (keys_of es) → fs ≡ remove_entry (at k) es → shown es ≡ old → shown fs ≡ objects.remove old k
  taken_away k es fs old distinct is was = ap shown is ∙ shown-removed k es distinct ∙ ap (λ m. objects.remove m k) was

  -- nothing is there
  pub nothing_there : (k : List ℕ) (es : Entries Z) (old : Objects) → IsDistinct same (keys_of es) → length es ≡ 0 → shown es ≡ old → old ≡ objects.remove old k
  nothing_there k [] old distinct none was = sym was ∙ shown-removed k [] distinct ∙ ap (λ m. objects.remove m k) was
  nothing_there k (e ∷ es) old distinct none was = absurd (omega arith)

  pub order_alone : (k : List ℕ) (es fs : Entries Z) (old : Objects) → fs ≡ promoted (at k) es → shown es ≡ old → shown fs ≡ old
  order_alone k es fs old is was = ap shown is ∙ shown-promoted k es ∙ was

  pub looked_up : (k key : List ℕ) (es : Entries Z) (old : Objects) → k ≡ key → shown es ≡ old → lookup (at k) es ≡ objects.get old key
  looked_up k key es old is was = sym (get_shown es k) ∙ (λ i. objects.get (was i) (is i))
