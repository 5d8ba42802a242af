-- A new node, under a place that names nothing yet: its objects show the tree with it.
use Rattle.std.proofs.Common.{◌≡◌, ◌≢◌, ℕ, ◌<◌, ◌≤◌, ◌+◌, ◌^◌, ◌⊎◌, inl, inr, refl, sym, ◌∙◌, ap, subst, arith, List, [], ◌∷◌, ◌++◌, length, Option, Some, None}
use Rattle.std.specs.Option.{option_map}
use Rattle.std.specs.Ordering.{nat_cmp}
use Rattle.std.specs.Cmp.{nat_cmp_total}
use Rattle.std.specs.FinMap as objects
use Rattle.std.specs.FinMap.Entries.{is_sorted-put}
use Rattle.std.proofs.lemmas.List.{same_from_push, length_push}
use Rattle.std.proofs.lemmas.Option.{same_Some}
use Rattle.kv_device.specs.Objects.{Objects}
use Rattle.kfs_objects.specs.Keys.{inode_key, entry_key, chunk_key, orphan_key, IsObjectKey, is_inode, is_entry}
use Rattle.kfs_objects.specs.Records.{entry_value}
use Rattle.kfs_model.specs.declared.Node.{Node}
use Rattle.kfs_model.specs.declared.Node.TheVariants.{Dir, File}
use Rattle.kfs_model.specs.Tree.{Place, Name, Tree, with_new, place_cmp, greatest_length, IsTree, IsName, number_at, node_of, IsNameless}
use Rattle.kfs_shows.specs.Named.{AllNamed}
use Rattle.kfs_shows.specs.Shows.{ShowsTree, ShowsChunk, inode_of}
use Rattle.kfs_laws.proofs.Making as laws
pub use Rattle.kfs_laws.proofs.Making.{IsFreePlace}
use Rattle.kfs_shows.proofs.Lookups.{key_put, key_other, decide_place, decide_number, decide_bytes, none_some}
use Rattle.kfs_shows.proofs.KeysApart.{kinds, same_inode, same_parent, same_name}

-- a directory, or a file of no bytes
pub record IsFresh (node : Node) : Type 0 where
  pub chunks : (chunk : ℕ) → ShowsChunk None (Some node) chunk
  pub lengths : (bytes : List ℕ) → node ≡ File bytes → length bytes ≤ greatest_length

pub fresh_dir : IsFresh Dir
fresh_dir = record { chunks = λ chunk. refl; lengths = λ bytes e. absurd (cc) }

pub fresh_file : IsFresh (File [])
fresh_file = record {
  chunks = λ chunk. record { same = λ i lt. refl; within = tt };
  lengths = λ bytes e. let f : [] ≡ bytes = cc in rw (← f) (omega arith);
}

abbrev pub with_objects : Objects → ℕ → ℕ → Name → Node → Objects
with_objects m next p name node = objects.insert (objects.insert m (inode_key next) (inode_of node)) (entry_key p name) (entry_value next)

module _ (t : Tree) (tree : IsTree t) (place : Place) (name : Name) (p : ℕ) (spot : IsFreePlace t place name p) (node : Node) (fresh : IsFresh node) where
  abbrev new : Place
  new = place ++ name ∷ []

  abbrev after : Tree
  after = with_new t new node

  number_new : number_at after new ≡ Some t.next
  number_new = laws.number_new t tree place name p spot node fresh.lengths

  number_old : (q : Place) → q ≢ new → number_at after q ≡ number_at t q
  number_old = laws.number_old t tree place name p spot node fresh.lengths

  named_before : (q : Place) (n : ℕ) → number_at after q ≡ Some n → ((q ≡ new) × (n ≡ t.next)) ⊎ ((q ≢ new) × (number_at t q ≡ Some n))
  named_before = laws.named_before t tree place name p spot node fresh.lengths

  node_new : node_of after t.next ≡ Some node
  node_new = laws.node_new t tree place name p spot node fresh.lengths

  node_old : (n : ℕ) → n ≢ t.next → node_of after n ≡ node_of t n
  node_old = laws.node_old t tree place name p spot node fresh.lengths

  named_below : (q : Place) (n : ℕ) → number_at t q ≡ Some n → n < t.next
  named_below = laws.named_below t tree place name p spot node fresh.lengths

  pub still_tree : IsTree after
  still_tree = laws.new_tree t tree place name p spot node fresh.lengths

  -- where each node was named, each is
  pub still_named : AllNamed t → AllNamed after
  still_named all = λ n x e. elim (decide_number n t.next) [
    | inl is ↦ (new, number_new ∙ ap Some (sym is))
    | inr other ↦ let at = all n x (sym (node_old n other) ∙ e) in (at.0, number_old at.0 (λ g. none_some _ n (ap (number_at t) g ∙ spot.free) at.1) ∙ at.1)
  ]

  module _ (m : Objects) (shows : ShowsTree m t) (reach : t.next < 2 ^ 64) where
    abbrev with : Objects
    with = with_objects m t.next p name node

    low : p < 2 ^ 64
    low = let h = (tree.numbers p Dir spot.dir).1 in omega arith

    at_entry : objects.get with (entry_key p name) ≡ Some (entry_value t.next)
    at_entry = key_put (objects.insert m (inode_key t.next) (inode_of node)) (entry_key p name) (entry_value t.next)

    at_inode : objects.get with (inode_key t.next) ≡ Some (inode_of node)
    at_inode = key_other (objects.insert m (inode_key t.next) (inode_of node)) (entry_key p name) (entry_value t.next) (inode_key t.next) (kinds 105 101 _ _ (λ e. omega arith)) ∙ key_put m (inode_key t.next) (inode_of node)

    elsewhere : (q : List ℕ) → q ≢ entry_key p name → q ≢ inode_key t.next → objects.get with q ≡ objects.get m q
    elsewhere q d e = key_other (objects.insert m (inode_key t.next) (inode_of node)) (entry_key p name) (entry_value t.next) q d ∙ key_other m (inode_key t.next) (inode_of node) q e

    -- no place names the next number yet
    unnamed : IsNameless t t.next
    unnamed q e = let h = named_below q t.next e in absurd (omega arith)

    pub absent : node_of t t.next ≡ None
    absent = by (node_of t t.next) refl
      where
        by : (o : Option Node) → node_of t t.next ≡ o → o ≡ None
        by None e = refl
        by (Some x) e = let h = (tree.numbers t.next x e).1 in absurd (omega arith)

    new_below : (x : Name) → number_at after (new ++ x ∷ []) ≡ None
    new_below x = number_old (new ++ x ∷ []) (λ e. let h : length new + 1 ≡ length new = sym (length_push new x) ∙ ap length e in absurd (omega arith)) ∙ by (number_at t (new ++ x ∷ [])) refl
      where
        by : (o : Option ℕ) → number_at t (new ++ x ∷ []) ≡ o → o ≡ None
        by None e = refl
        by (Some n) e = let up = tree.parents new x n e in absurd (none_some _ up.0 spot.free up.1)

    pub still_shows : ShowsTree with after
    still_shows = record {
      inodes = λ n lt. elim (decide_number n t.next) [
        | inl is ↦ ap (λ k. objects.get with (inode_key k)) is ∙ at_inode ∙ sym (ap (option_map inode_of) (ap (node_of after) is ∙ node_new))
        | inr other ↦ elsewhere (inode_key n) (kinds 105 101 _ _ (λ e. omega arith)) (λ e. other (same_inode n t.next lt reach e)) ∙ shows.inodes n lt ∙ sym (ap (option_map inode_of) (node_old n other))
      ];
      entries = λ q n x e short. elim (named_before q n e) [
        | inl (is, num) ↦ elsewhere (entry_key n x) (λ k. let f = same_parent n p x name (omega arith) low k in let g = named_below place p spot.at in absurd (omega arith)) (kinds 101 105 _ _ (λ e. omega arith))
            ∙ shows.no_entries n x (omega arith) short (subst (IsNameless t) (sym num) unnamed)
            ∙ sym (ap (option_map entry_value) (ap (λ r. number_at after (r ++ x ∷ [])) is ∙ new_below x))
        | inr (_, was) ↦ let lt : n < 2 ^ 64 = let h = named_below q n was in omega arith in elim (decide_place (q ++ x ∷ []) new) [
          | inl is ↦ let f = same_from_push q place x name is in
              let num : n ≡ p = same_Some n p (sym was ∙ ap (number_at t) f.0 ∙ spot.at) in
              ap (objects.get with) (λ i. entry_key (num i) (f.1 i)) ∙ at_entry ∙ sym (ap (option_map entry_value) (ap (number_at after) is ∙ number_new))
          | inr other ↦ elsewhere (entry_key n x) (λ k. other (λ i. tree.apart q place n was (spot.at ∙ ap Some (sym (same_parent n p x name lt low k))) i ++ same_name n p x name k i ∷ [])) (kinds 101 105 _ _ (λ e. omega arith))
              ∙ shows.entries q n x was short ∙ sym (ap (option_map entry_value) (number_old (q ++ x ∷ []) other))
        ]
      ];
      no_entries = λ n x lt short none.
          elsewhere (entry_key n x) (λ k. none place (number_old place (λ e. none_some _ p (ap (number_at t) e ∙ spot.free) spot.at) ∙ spot.at ∙ ap Some (sym (same_parent n p x name lt low k)))) (kinds 101 105 _ _ (λ e. omega arith))
          ∙ shows.no_entries n x lt short (λ q e. none q (number_old q (λ f. none_some _ n (ap (number_at t) f ∙ spot.free) e) ∙ e));
      chunks = λ n chunk lt lc. subst (λ o. ShowsChunk o (node_of after n) chunk) (sym (elsewhere (chunk_key n chunk) (kinds 100 101 _ _ (λ e. omega arith)) (kinds 100 105 _ _ (λ e. omega arith)))) (elim (decide_number n t.next) [
        | inl is ↦ subst (λ o. ShowsChunk (objects.get m (chunk_key n chunk)) o chunk) (sym (ap (node_of after) is ∙ node_new))
            (subst (λ o. ShowsChunk o (Some node) chunk) (sym (subst (λ o. ShowsChunk (objects.get m (chunk_key n chunk)) o chunk) (ap (node_of t) is ∙ absent) (shows.chunks n chunk lt lc))) (fresh.chunks chunk))
        | inr other ↦ subst (λ o. ShowsChunk (objects.get m (chunk_key n chunk)) o chunk) (sym (node_old n other)) (shows.chunks n chunk lt lc)
      ]);
      orphans = λ n x lt there none. elsewhere (orphan_key n) (kinds 111 101 _ _ (λ e. omega arith)) (kinds 111 105 _ _ (λ e. omega arith)) ∙ elim (decide_number n t.next) [
        | inl is ↦ absurd (none new (number_new ∙ ap Some (sym is)))
        | inr other ↦ shows.orphans n x lt (sym (node_old n other) ∙ there) (λ q e. none q (number_old q (λ f. none_some _ n (ap (number_at t) f ∙ spot.free) e) ∙ e))
      ];
      named = λ q n e. elsewhere (orphan_key n) (kinds 111 101 _ _ (λ e. omega arith)) (kinds 111 105 _ _ (λ e. omega arith)) ∙ elim (named_before q n e) [
        | inl (_, is) ↦ shows.no_orphans n (omega arith) (ap (node_of t) is ∙ absent)
        | inr (_, was) ↦ shows.named q n was
      ];
      no_orphans = λ n lt e. elsewhere (orphan_key n) (kinds 111 101 _ _ (λ e. omega arith)) (kinds 111 105 _ _ (λ e. omega arith)) ∙ shows.no_orphans n lt (elim (decide_number n t.next) [
        | inl is ↦ ap (node_of t) is ∙ absent
        | inr other ↦ sym (node_old n other) ∙ e
      ]);
      only = λ key value e. elim (decide_bytes key (entry_key p name)) [
        | inl is ↦ subst IsObjectKey (sym is) (is_entry p name low spot.named.short)
        | inr d ↦ elim (decide_bytes key (inode_key t.next)) [
          | inl is ↦ subst IsObjectKey (sym is) (is_inode t.next reach)
          | inr f ↦ shows.only key value (sym (elsewhere key d f) ∙ e)
        ]
      ];
    }
