-- Nothing is damaged in objects that stand for a tree.
use Rattle.std.proofs.Common.{◌≡◌, ◌≢◌, ℕ, zero, suc, ◌<◌, ◌≤◌, ◌^◌, ◌⊎◌, inl, inr, true, false, T, refl, sym, ◌∙◌, ap, subst, arith, List, [], ◌∷◌, ◌++◌, length, Option, Some, None, nat_le}
use Rattle.std.specs.Prelude.{slice_get, IsSome}
use Rattle.std.specs.Option.{option_map, option_and_then, option_map_or, unwrap_or}
use Rattle.std.specs.FinMap as objects
use Rattle.std.specs.FinMap.{find, is_sorted}
use Rattle.std.specs.Cmp.Lexicographic.{nat_list_cmp_total}
use Rattle.std.proofs.lemmas.Bool.Decides.{nat_tests}
use Rattle.std.proofs.lemmas.List.{same_from_push}
use Rattle.std.proofs.lemmas.Option.{same_Some}
use Rattle.kv_device.specs.Bytes.{bytes_cmp}
use Rattle.kv_device.specs.Objects.{Objects}
use Rattle.kfs_objects.specs.Keys.{inode_key, entry_key, orphan_key}
use Rattle.kfs_objects.specs.Records.{entry_value, orphan_value, read_super, read_inode, read_entry}
use Rattle.kfs_objects.proofs.RecordLaws.{read_super_value, read_entry_value}
use Rattle.kfs_model.specs.declared.Node.{Node}
use Rattle.kfs_model.specs.declared.Node.TheVariants.{Dir, File}
use Rattle.kfs_model.specs.Tree.{Place, Name, Tree, Limits, IsNameless, charge, chunks, named, number_at, node_of}
use Rattle.kfs_shows.specs.Shows.{ShowsTree, ShowsChunk, IsPiece, inode_of}
use Rattle.kfs_shows.proofs.Lookups.{same_bytes}
use Rattle.kfs_shows.proofs.Counting.{place_of, place_found, place_none}
use Rattle.kfs_shows.proofs.Once.{from_end}
use Rattle.kfs_shows.proofs.Fresh.{not_root}
use Rattle.kfs_damages.specs.Damages as damages
use Rattle.kfs_damages.specs.Damages.{IsEntry, IsNamed, IsReached, is_root, is_below, HasHead, IsBadObject, IsBadInode, IsWrong, IsBadEntry, IsWrongChunk, IsBadChunk, IsBadOrphan, HasRoom, IsClear, head_in, next_in, names}
use Rattle.kfs_damages.specs.Laws.{StandFor}
use Rattle.kfs_damages.proofs.Sorted.{second_of, left, right, found_first, found_later}
use Rattle.kfs_damages.proofs.Counts.{kind_of, read_inode_of, charge_named, chunks_named}

-- what stands at a place is found
pub stands_found : (es : List (List ℕ × List ℕ)) (i : ℕ) (key value : List ℕ) → T (is_sorted bytes_cmp es) → slice_get es i ≡ Some (key, value) → find bytes_cmp key es ≡ Some value
stands_found [] i key value h e = absurd (cc)
stands_found (x ∷ es) zero key value h e =
    let is = same_Some _ _ e in
    ap (λ (y : List ℕ × List ℕ). find bytes_cmp y.0 (x ∷ es)) (sym is) ∙ found_first nat_list_cmp_total same_bytes x es ∙ ap (λ (y : List ℕ × List ℕ). Some y.1) is
stands_found (x ∷ es) (suc i) key value h e = found_later nat_list_cmp_total same_bytes x es h key value (stands_found es i key value (second_of _ _ h) e)

-- an entry of the objects, as it lies in the tree
record Lies (t : Tree) (parent : ℕ) (name : Name) (value : List ℕ) : Type 0 where
  place : Place
  at : number_at t place ≡ Some parent
  node : ℕ
  here : number_at t (place ++ name ∷ []) ≡ Some node
  reads : read_entry value ≡ Some node

some_kind : (o : Option Node) (kind size : ℕ) → option_map kind_of o ≡ Some (kind, size) → (x : Node) × (o ≡ Some x) × (kind_of x ≡ (kind, size))
some_kind None kind size e = absurd (cc)
some_kind (Some x) kind size e = (x, refl, same_Some _ _ e)

is_there : {A : Type 0} (f : A → List ℕ) (o : Option A) (p : Option (List ℕ)) → p ≡ option_map f o → IsSome p → (x : A) × (o ≡ Some x)
is_there f None p e some = let bad : false ≡ true = subst IsSome e some in absurd (cc)
is_there f (Some x) p e some = (x, refl)

content_of : (o : Option Node) (value : List ℕ) (chunk : ℕ) → ShowsChunk (Some value) o chunk → (bytes : List ℕ) × (o ≡ Some (File bytes)) × IsPiece (Some value) bytes chunk
content_of None value chunk h = absurd (cc)
content_of (Some Dir) value chunk h = absurd (cc)
content_of (Some (File bytes)) value chunk h = (bytes, refl, h)

not_wrong : (chunk : ℕ) (value bytes : List ℕ) (r : Option (ℕ × ℕ)) → r ≡ Some (2, length bytes) → IsPiece (Some value) bytes chunk → IsWrongChunk chunk value r → ⊥
not_wrong chunk value bytes r e piece damages.nowhere = absurd (cc)
not_wrong chunk value bytes r e piece (damages.kind_is kind size d) = d (ap (λ (p : ℕ × ℕ). p.0) (same_Some _ _ e))
not_wrong chunk value bytes r e piece (damages.empty _ z) = let w = piece.within.0 in absurd (omega arith)
not_wrong chunk value bytes r e piece (damages.past kind size lt) = let w = piece.within.2 in let s : size ≡ length bytes = ap (λ (p : ℕ × ℕ). p.1) (same_Some _ _ e) in absurd (omega arith)

le_of : (a b : ℕ) → nat_le a b ≡ true → a ≤ b
le_of a b e = grind (arith, nat_tests)

module _ (k : Limits) (m : Objects) (t : Tree) (n : ℕ) (s : StandFor k m t n) where
  shows : ShowsTree m t
  shows = s.shows.tree

  node_low : (j : ℕ) (x : Node) → node_of t j ≡ Some x → j < 2 ^ 64
  node_low j x e = let b = (s.tree.numbers j x e).1 in let l = s.low in omega arith

  number_low : (place : Place) (j : ℕ) → number_at t place ≡ Some j → j < 2 ^ 64
  number_low place j e = let x = s.tree.there place j e in node_low j x.0 x.1

  head_is : head_in m ≡ Some (n, t.next)
  head_is = ap (option_and_then read_super) s.shows.head ∙ read_super_value n t.next (let f = s.few in omega arith) (let l = s.low in omega arith)

  next_is : next_in m ≡ t.next
  next_is = ap (λ o. option_map_or (λ (head : ℕ × ℕ). head.1) o 0) head_is

  inode_is : (j : ℕ) → j < 2 ^ 64 → damages.inode_of m j ≡ option_map kind_of (node_of t j)
  inode_is j lt = ap (option_and_then read_inode) (shows.inodes j lt) ∙ by (node_of t j) refl
    where
      by : (o : Option Node) → node_of t j ≡ o → option_and_then read_inode (option_map inode_of o) ≡ option_map kind_of o
      by None e = refl
      by (Some x) e = read_inode_of x (λ bytes f. s.tree.lengths j bytes (e ∙ ap Some f))

  node_there : (j : ℕ) → j < 2 ^ 64 → IsSome (objects.get m (inode_key j)) → (x : Node) × (node_of t j ≡ Some x)
  node_there j lt some = is_there inode_of (node_of t j) (objects.get m (inode_key j)) (shows.inodes j lt) some

  lies : (parent : ℕ) (name : Name) (value : List ℕ) → IsEntry m parent name value → Lies t parent name value
  lies parent name value entry = by (place_of t.names parent) refl
    where
      by : (o : Option Place) → place_of t.names parent ≡ o → Lies t parent name value
      by None f = absurd (let bad : None ≡ Some value = sym (shows.no_entries parent name entry.low entry.short (λ place g. place_none t.names parent place f g)) ∙ entry.there in cc)
      by (Some place) f = there (number_at t (place ++ name ∷ [])) refl
        where
          at : number_at t place ≡ Some parent
          at = place_found t.names parent place s.tree.sorted_names f

          shown : objects.get m (entry_key parent name) ≡ option_map entry_value (number_at t (place ++ name ∷ []))
          shown = shows.entries place parent name at entry.short

          there : (o : Option ℕ) → number_at t (place ++ name ∷ []) ≡ o → Lies t parent name value
          there None g = absurd (let bad : None ≡ Some value = sym (shown ∙ ap (option_map entry_value) g) ∙ entry.there in cc)
          there (Some j) g = record {
            place = place;
            at = at;
            node = j;
            here = g;
            reads = ap read_entry (sym (same_Some _ _ (sym (shown ∙ ap (option_map entry_value) g) ∙ entry.there))) ∙ read_entry_value j (number_low _ j g);
          }

  names_is : (parent : ℕ) (name : Name) (value : List ℕ) (l : Lies t parent name value) → names parent value ≡ l.node
  names_is parent name value l = ap (λ o. unwrap_or o parent) l.reads

  -- the place of a name
  named_at : (j : ℕ) (named : IsNamed m j) → (l : Lies t named.parent named.name named.value) × (number_at t (l.place ++ named.name ∷ []) ≡ Some j)
  named_at j named = let l = lies named.parent named.name named.value named.entry in (l, l.here ∙ ap Some (sym (names_is named.parent named.name named.value l) ∙ named.is))

  -- the name of a place
  entry_there : (place : Place) (name : Name) (j : ℕ) → number_at t (place ++ name ∷ []) ≡ Some j → (parent : ℕ) × (number_at t place ≡ Some parent) × IsEntry m parent name (entry_value j)
  entry_there place name j e =
      let up = s.tree.parents place name j e in
      let short = (s.tree.names place name j e).short in
      (up.0, up.1, record { low = number_low place up.0 up.1; short = short; there = shows.entries place up.0 name up.1 short ∙ ap (option_map entry_value) e })

  reached : (place : Place) (j : ℕ) → number_at t place ≡ Some j → IsReached m j
  reached place = from_end (λ q. (j : ℕ) → number_at t q ≡ Some j → IsReached m j)
      (λ j e. subst (IsReached m) (same_Some _ _ (sym s.tree.root ∙ e)) is_root)
      (λ q x below j e. let up = entry_there q x j e in is_below up.0 x (entry_value j) j (below up.0 up.1) up.2 (read_entry_value j (number_low _ j e)))
      place

  has_head : HasHead m
  has_head = record { changes = n; next = t.next; reads = head_is; few = s.few; low = s.low }

  no_bad_object : (j : ℕ) → IsBadObject m j → ⊥
  no_bad_object j bad = bad.formless (shows.only bad.key bad.value (objects.get-entries m bad.key ∙ stands_found (objects.entries m) j bad.key bad.value (objects.entries_sorted m) bad.here))

  no_bad_inode : (j : ℕ) → j < 2 ^ 64 → IsBadInode m j → ⊥
  no_bad_inode j lt (damages.unread some none) = let x = node_there j lt some in let bad : Some (kind_of x.0) ≡ None = sym (inode_is j lt ∙ ap (option_map kind_of) x.1) ∙ none in absurd (cc)
  no_bad_inode j lt (damages.high some le) = let x = node_there j lt some in let b = (s.tree.numbers j x.0 x.1).1 in let e = next_is in absurd (omega arith)
  no_bad_inode j lt (damages.zero some is) = let x = node_there j lt some in let b = (s.tree.numbers j x.0 x.1).0 in absurd (omega arith)
  no_bad_inode j lt (damages.long kind size e more) = by (some_kind (node_of t j) kind size (sym (inode_is j lt) ∙ e))
    where
      by : (x : Node) × (node_of t j ≡ Some x) × (kind_of x ≡ (kind, size)) → ⊥
      by (Dir, f, g) = let z : 0 ≡ size = ap (λ (p : ℕ × ℕ). p.1) g in absurd (omega arith)
      by (File bytes, f, g) = let z : length bytes ≡ size = ap (λ (p : ℕ × ℕ). p.1) g in let l = s.tree.lengths j bytes f in absurd (omega arith)
  no_bad_inode j lt (damages.root is isnt) = isnt (inode_is 1 (omega arith) ∙ ap (option_map kind_of) s.tree.root_dir)

  not_wrong_entry : (parent : ℕ) (name : Name) (value : List ℕ) → IsEntry m parent name value → IsWrong m parent name value → ⊥
  not_wrong_entry parent name value entry (damages.unread none) = let l = lies parent name value entry in let bad : Some l.node ≡ None = sym l.reads ∙ none in absurd (cc)
  not_wrong_entry parent name value entry (damages.parentless isnt) =
      let l = lies parent name value entry in
      let up = s.tree.parents l.place name l.node l.here in
      let same : up.0 ≡ parent = same_Some _ _ (sym up.1 ∙ l.at) in
      isnt (inode_is parent entry.low ∙ ap (option_map kind_of) (subst (λ j. node_of t j ≡ Some Dir) same up.2))
  not_wrong_entry parent name value entry (damages.nameless isnt) = let l = lies parent name value entry in isnt (s.tree.names l.place name l.node l.here)

  no_bad_entry : (j : ℕ) → j < 2 ^ 64 → IsBadEntry m j → ⊥
  no_bad_entry j lt (damages.wrong parent name value entry is wrong) = not_wrong_entry parent name value entry wrong
  no_bad_entry j lt (damages.missing named none) =
      let at = named_at j named in
      let x = s.tree.there _ j at.1 in
      let bad : Some (inode_of x.0) ≡ None = sym (shows.inodes j lt ∙ ap (option_map inode_of) x.1) ∙ none in
      absurd (cc)
  no_bad_entry j lt (damages.twice one other d) =
      let a = named_at j one in
      let b = named_at j other in
      let same = s.tree.apart _ _ j a.1 b.1 in
      let ends = same_from_push a.0.place b.0.place one.name other.name same in
      d (same_Some _ _ (sym a.0.at ∙ ap (number_at t) ends.0 ∙ b.0.at)) ends.1
  no_bad_entry j lt (damages.root is named) = let at = named_at 1 named in not_root _ _ (s.tree.apart _ _ 1 at.1 s.tree.root)
  no_bad_entry j lt (damages.lost some d none no_orphan) = by (place_of t.names j) refl
    where
      node : (x : Node) × (node_of t j ≡ Some x)
      node = node_there j lt some

      named : (place : Place) → number_at t place ≡ Some j → IsNamed m j
      named place = from_end (λ q. number_at t q ≡ Some j → IsNamed m j)
          (λ e. absurd (d (same_Some _ _ (sym e ∙ s.tree.root))))
          (λ q x _ e. let up = entry_there q x j e in record { parent = up.0; name = x; value = entry_value j; entry = up.2; is = ap (λ o. unwrap_or o up.0) (read_entry_value j lt) })
          place

      by : (o : Option Place) → place_of t.names j ≡ o → ⊥
      by None f = let bad : Some orphan_value ≡ None = sym (shows.orphans j node.0 lt node.1 (λ place g. place_none t.names j place f g)) ∙ no_orphan in absurd (cc)
      by (Some place) f = none (named place (place_found t.names j place s.tree.sorted_names f))
  no_bad_entry j lt (damages.both d named some) = let at = named_at j named in let bad : false ≡ true = subst IsSome (shows.named _ j at.1) some in absurd (cc)
  no_bad_entry j lt (damages.apart named isnt) = let at = named_at j named in isnt (reached _ j at.1)

  no_bad_chunk : (j : ℕ) → j < 2 ^ 64 → IsBadChunk m j → ⊥
  no_bad_chunk j lt bad =
      let c = content_of (node_of t j) bad.value bad.chunk (subst (λ o. ShowsChunk o (node_of t j) bad.chunk) bad.there (shows.chunks j bad.chunk lt bad.low)) in
      not_wrong bad.chunk bad.value c.0 (damages.inode_of m j) (inode_is j lt ∙ ap (option_map kind_of) c.1) c.2 bad.wrong

  orphan_is : (j : ℕ) (value : List ℕ) → j < 2 ^ 64 → objects.get m (orphan_key j) ≡ Some value → (x : Node) × (node_of t j ≡ Some x) × IsNameless t j × (value ≡ orphan_value)
  orphan_is j value lt e = by (node_of t j) refl (place_of t.names j) refl
    where
      by : (o : Option Node) → node_of t j ≡ o → (p : Option Place) → place_of t.names j ≡ p → (x : Node) × (node_of t j ≡ Some x) × IsNameless t j × (value ≡ orphan_value)
      by None f p g = absurd (let bad : None ≡ Some value = sym (shows.no_orphans j lt f) ∙ e in cc)
      by (Some x) f (Some place) g = absurd (let bad : None ≡ Some value = sym (shows.named place j (place_found t.names j place s.tree.sorted_names g)) ∙ e in cc)
      by (Some x) f None g =
          let nameless : IsNameless t j = λ place h. place_none t.names j place g h in
          (x, f, nameless, same_Some _ _ (sym e ∙ shows.orphans j x lt f nameless))

  no_bad_orphan : (j : ℕ) → j < 2 ^ 64 → IsBadOrphan m j → ⊥
  no_bad_orphan j lt bad = by bad.wrong
    where
      is : (x : Node) × (node_of t j ≡ Some x) × IsNameless t j × (bad.value ≡ orphan_value)
      is = orphan_is j bad.value lt bad.there

      by : (bad.value ≢ orphan_value) ⊎ (objects.get m (inode_key j) ≡ None) ⊎ (j ≡ 1) → ⊥
      by (inl d) = d is.3
      by (inr (inl none)) = let f : Some (inode_of is.0) ≡ None = sym (shows.inodes j lt ∙ ap (option_map inode_of) is.1) ∙ none in absurd (cc)
      by (inr (inr one)) = is.2 [] (s.tree.root ∙ ap Some (sym one))

  room : HasRoom k m
  room =
      let a : nat_le (charge (named t)) k.keys ≡ true = left _ _ s.room in
      let b : nat_le (chunks (named t)) k.pages ≡ true = right _ _ s.room in
      record {
        charge = subst (λ c. c ≤ k.keys) (sym (charge_named m t s.tree shows (let l = s.low in omega arith))) (le_of _ _ a);
        chunks = subst (λ c. c ≤ k.pages) (sym (chunks_named m t s.tree shows (let l = s.low in omega arith))) (le_of _ _ b);
      }

  pub standing_is_clear : IsClear k m
  standing_is_clear = record {
    head = has_head;
    objects_are = λ j lt. no_bad_object j;
    inodes = no_bad_inode;
    entries = no_bad_entry;
    chunks = no_bad_chunk;
    orphans = no_bad_orphan;
    room = room;
  }
