-- A place and all below it move: one entry's key goes, one comes, and every other key is as before.
use Rattle.std.proofs.Common.{◌≡◌, ◌≢◌, ℕ, ◌<◌, ◌≤◌, ◌+◌, ◌^◌, inl, inr, refl, sym, ◌∙◌, ap, subst, arith, [], ◌∷◌, ◌++◌, append_assoc, append-nil, length, length-append, Option, Some, None}
use Rattle.std.specs.Option.{option_map}
use Rattle.std.specs.FinMap as objects
use Rattle.std.proofs.lemmas.List.{same_from_push, length_push}
use Rattle.std.proofs.lemmas.Option.{same_Some}
use Rattle.kv_device.specs.Objects.{Objects}
use Rattle.kfs_objects.specs.Keys.{inode_key, entry_key, chunk_key, orphan_key, IsObjectKey, is_entry}
use Rattle.kfs_objects.specs.Records.{entry_value}
use Rattle.kfs_model.specs.Tree.{Place, Name, Tree, below, renamed, IsTree, IsNameless, IsShort, number_at, node_of}
use Rattle.kfs_model.proofs.Renaming.{below-append}
use Rattle.kfs_laws.proofs.Moves.{below_is, below_itself}
use Rattle.kfs_laws.proofs.Renamed.{IsGoal, renamed_tree, number_moved, number_other, number_gone, free_below, place_old, comes, front_of_push}
use Rattle.kfs_shows.specs.Shows.{ShowsTree, ShowsChunk}
use Rattle.kfs_shows.specs.Laws.{MovesEntry}
use Rattle.kfs_shows.proofs.Lookups.{key_put, key_other, key_removed, key_kept, decide_place, decide_bytes, none_some}
use Rattle.kfs_shows.proofs.KeysApart.{kinds, same_parent, same_name}

-- a place one longer that isn't the front itself has no front that the shorter one lacks
no_front : (front r : Place) (x : Name) → below front r ≡ None → r ++ x ∷ [] ≢ front → below front (r ++ x ∷ []) ≡ None
no_front front r x none other = by (below front (r ++ x ∷ [])) refl
  where
    by : (o : Option Place) → below front (r ++ x ∷ []) ≡ o → o ≡ None
    by None is = refl
    by (Some tail) is = elim (front_of_push front r x tail is) [
      | inl same ↦ absurd (other same)
      | inr rest ↦ absurd (none_some (below front r) rest.0 none rest.1)
    ]

module _ (t : Tree) (tree : IsTree t) (up : Place) (was : Name) (place : Place) (name : Name) (p q n : ℕ)
    (above : number_at t up ≡ Some p) (at : number_at t (up ++ was ∷ []) ≡ Some n) (goal : IsGoal t (up ++ was ∷ []) place name q) where
  abbrev old : Place
  old = up ++ was ∷ []

  abbrev new : Place
  new = place ++ name ∷ []

  abbrev now : Tree
  now = renamed t old new

  pub still_tree : IsTree now
  still_tree = renamed_tree t tree old place name q goal

  moved : (tail : Place) → number_at now (new ++ tail) ≡ number_at t (old ++ tail)
  moved tail = number_moved t tree old place name q goal tail

  other : (r : Place) → below old r ≡ None → below new r ≡ None → number_at now r ≡ number_at t r
  other r a b = number_other t tree old place name q goal r a b

  free : (r : Place) (k : ℕ) → number_at t r ≡ Some k → below new r ≡ None
  free r k e = free_below t tree old place name q goal r k e

  number_new : number_at now new ≡ Some n
  number_new = ap (number_at now) (sym (append-nil new)) ∙ moved [] ∙ ap (number_at t) (append-nil old) ∙ at

  number_old : number_at now old ≡ None
  number_old = number_gone t tree old place name q goal old [] (below_itself old) (free old n at)

  -- what is named stays named
  pub named_still : (r : Place) (k : ℕ) → number_at t r ≡ Some k → (s : Place) × (number_at now s ≡ Some k)
  named_still r k e = by (below old r) refl
    where
      by : (o : Option Place) → below old r ≡ o → (s : Place) × (number_at now s ≡ Some k)
      by None is = (r, other r is (free r k e) ∙ e)
      by (Some tail) is = (new ++ tail, moved tail ∙ ap (number_at t) (sym (below_is old r tail is)) ∙ e)

  -- what is named was named
  pub named_before : (r : Place) (k : ℕ) → number_at now r ≡ Some k → (s : Place) × (number_at t s ≡ Some k)
  named_before r k e = elim (comes t tree old place name q goal r k e) [
    | inl from ↦ (old ++ from.0, from.3)
    | inr from ↦ (r, from.2)
  ]

  pub nameless_before : (k : ℕ) → IsNameless now k → IsNameless t k
  nameless_before k none r e = let s = named_still r k e in none s.0 s.1

  -- the directory that had the place lies outside it, and so does the one that gets it
  up_outside : (tail : Place) → up ≢ old ++ tail
  up_outside tail e =
      let h : length up ≡ length up + 1 + length tail = ap length e ∙ length-append old tail ∙ ap (λ j. j + length tail) (length_push up was) in
      absurd (omega arith)

  place_outside : (tail : Place) → place ≢ old ++ tail
  place_outside tail e = none_some (below old place) tail (place_old t tree old place name q goal) (ap (below old) e ∙ below-append old tail)

  named_low : t.next ≤ 2 ^ 64 → (r : Place) (k : ℕ) → number_at t r ≡ Some k → k < 2 ^ 64
  named_low reach r k e = let x = tree.there r k e in let h = (tree.numbers k x.0 x.1).1 in omega arith

  -- the two entries' keys differ
  keys_apart : t.next ≤ 2 ^ 64 → entry_key p was ≢ entry_key q name
  keys_apart reach e =
      let num = same_parent p q was name (named_low reach up p above) (named_low reach place q goal.at) e in
      let same = tree.apart up place q (above ∙ ap Some num) goal.at in
      let both : old ≡ new = λ i. same i ++ same_name p q was name e i ∷ [] in
      none_some (below old new) [] goal.apart (ap (below old) (sym both) ∙ below_itself old)

  pub moves_entry : (m : Objects) → t.next ≤ 2 ^ 64 → MovesEntry m (objects.insert (objects.remove m (entry_key p was)) (entry_key q name) (entry_value n)) p was q name n
  moves_entry m reach =
      let less = objects.remove m (entry_key p was) in
      record {
        gone = key_other less (entry_key q name) (entry_value n) (entry_key p was) (keys_apart reach) ∙ key_removed m (entry_key p was);
        new = key_put less (entry_key q name) (entry_value n);
        others = λ key d e. key_other less (entry_key q name) (entry_value n) key e ∙ key_kept m (entry_key p was) key d;
      }

  module _ (m after : Objects) (shows : ShowsTree m t) (reach : t.next ≤ 2 ^ 64) (moves : MovesEntry m after p was q name n) where
    low_p : p < 2 ^ 64
    low_p = named_low reach up p above

    low_q : q < 2 ^ 64
    low_q = named_low reach place q goal.at

    entry_other : (k : ℕ) (x : Name) → k < 2 ^ 64 → k ≢ p → k ≢ q → objects.get after (entry_key k x) ≡ objects.get m (entry_key k x)
    entry_other k x lt a b = moves.others (entry_key k x) (λ s. a (same_parent k p x was lt low_p s)) (λ s. b (same_parent k q x name lt low_q s))

    orphan_same : (k : ℕ) → objects.get after (orphan_key k) ≡ objects.get m (orphan_key k)
    orphan_same k = moves.others (orphan_key k) (kinds 111 101 _ _ (λ e. omega arith)) (kinds 111 101 _ _ (λ e. omega arith))

    -- what lies in a place that moved
    entries_moved : (r tail : Place) (k : ℕ) (x : Name) → r ≡ new ++ tail → number_at t (old ++ tail) ≡ Some k → IsShort x → objects.get after (entry_key k x) ≡ option_map entry_value (number_at now (r ++ x ∷ []))
    entries_moved r tail k x same src short =
        entry_other k x (named_low reach (old ++ tail) k src)
        (λ s. up_outside tail (tree.apart up (old ++ tail) k (above ∙ ap Some (sym s)) src))
        (λ s. place_outside tail (tree.apart place (old ++ tail) k (goal.at ∙ ap Some (sym s)) src))
        ∙ shows.entries (old ++ tail) k x src short
        ∙ ap (λ s. option_map entry_value (number_at t s)) (append_assoc old tail (x ∷ []))
        ∙ ap (option_map entry_value) (sym (moved (tail ++ x ∷ [])))
        ∙ ap (λ s. option_map entry_value (number_at now s)) (sym (append_assoc new tail (x ∷ [])))
        ∙ ap (λ s. option_map entry_value (number_at now (s ++ x ∷ []))) (sym same)

    -- what lies in a place that stayed
    entries_stayed : (r : Place) (k : ℕ) (x : Name) → below old r ≡ None → below new r ≡ None → number_at t r ≡ Some k → IsShort x → objects.get after (entry_key k x) ≡ option_map entry_value (number_at now (r ++ x ∷ []))
    entries_stayed r k x a b src short = elim (decide_place (r ++ x ∷ []) new) [
      | inl is ↦
          let f = same_from_push r place x name is in
          let num : k ≡ q = same_Some k q (sym src ∙ ap (number_at t) f.0 ∙ goal.at) in
          ap (objects.get after) (λ i. entry_key (num i) (f.1 i)) ∙ moves.new ∙ sym (ap (option_map entry_value) (ap (number_at now) is ∙ number_new))
      | inr fresh ↦ elim (decide_place (r ++ x ∷ []) old) [
        | inl is ↦
            let f = same_from_push r up x was is in
            let num : k ≡ p = same_Some k p (sym src ∙ ap (number_at t) f.0 ∙ above) in
            ap (objects.get after) (λ i. entry_key (num i) (f.1 i)) ∙ moves.gone ∙ sym (ap (option_map entry_value) (ap (number_at now) is ∙ number_old))
        | inr apart ↦
            let lt = named_low reach r k src in
            moves.others (entry_key k x)
            (λ s. apart (λ i. tree.apart r up k src (above ∙ ap Some (sym (same_parent k p x was lt low_p s))) i ++ same_name k p x was s i ∷ []))
            (λ s. fresh (λ i. tree.apart r place k src (goal.at ∙ ap Some (sym (same_parent k q x name lt low_q s))) i ++ same_name k q x name s i ∷ []))
            ∙ shows.entries r k x src short
            ∙ sym (ap (option_map entry_value) (other (r ++ x ∷ []) (no_front old r x a apart) (no_front new r x b fresh)))
      ]
    ]

    pub still_shows : ShowsTree after now
    still_shows = record {
      inodes = λ k lt. moves.others (inode_key k) (kinds 105 101 _ _ (λ e. omega arith)) (kinds 105 101 _ _ (λ e. omega arith)) ∙ shows.inodes k lt;
      entries = λ r k x e short. elim (comes t tree old place name q goal r k e) [
        | inl from ↦ entries_moved r from.0 k x from.2 from.3 short
        | inr from ↦ entries_stayed r k x from.0 from.1 from.2 short
      ];
      no_entries = λ k x lt short none.
          let before = nameless_before k none in
          entry_other k x lt (λ s. before up (above ∙ ap Some (sym s))) (λ s. before place (goal.at ∙ ap Some (sym s))) ∙ shows.no_entries k x lt short before;
      chunks = λ k c lk lc. subst (λ o. ShowsChunk o (node_of t k) c) (sym (moves.others (chunk_key k c) (kinds 100 101 _ _ (λ e. omega arith)) (kinds 100 101 _ _ (λ e. omega arith)))) (shows.chunks k c lk lc);
      orphans = λ k x lt there none. orphan_same k ∙ shows.orphans k x lt there (nameless_before k none);
      named = λ r k e. let s = named_before r k e in orphan_same k ∙ shows.named s.0 k s.1;
      no_orphans = λ k lt e. orphan_same k ∙ shows.no_orphans k lt e;
      only = λ key value e. elim (decide_bytes key (entry_key q name)) [
        | inl is ↦ subst IsObjectKey (sym is) (is_entry q name low_q goal.named.short)
        | inr d ↦ elim (decide_bytes key (entry_key p was)) [
          | inl is ↦ absurd (none_some _ value (ap (objects.get after) is ∙ moves.gone) e)
          | inr f ↦ shows.only key value (sym (moves.others key f d) ∙ e)
        ]
      ];
    }
