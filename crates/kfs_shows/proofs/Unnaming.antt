-- A node loses its name and stays: its entry's key is gone, and an orphan object stands.
use Rattle.std.proofs.Common.{◌≡◌, ◌≢◌, ℕ, ◌<◌, ◌≤◌, ◌+◌, ◌^◌, ◌&&◌, not, cond, true, false, Bool, inl, inr, refl, sym, ◌∙◌, ap, subst, arith, List, [], ◌∷◌, ◌++◌, length, Option, Some, None, is_some}
use Rattle.std.specs.Option.{option_map}
use Rattle.std.specs.FinMap as objects
use Rattle.std.proofs.lemmas.List.{same_from_push, length_push}
use Rattle.std.proofs.lemmas.Option.{same_Some}
use Rattle.kv_device.specs.Objects.{Objects}
use Rattle.kfs_objects.specs.Keys.{inode_key, entry_key, chunk_key, orphan_key, IsObjectKey, is_orphan}
use Rattle.kfs_objects.specs.Records.{entry_value, orphan_value}
use Rattle.kfs_objects.proofs.KeyLaws.{same64}
use Rattle.kfs_model.specs.Tree.{Place, Name, Tree, below, without_place, place_cmp, IsTree, IsNameless, number_at, node_of}
use Rattle.kfs_shows.specs.Shows.{ShowsTree, ShowsChunk}
use Rattle.kfs_laws.proofs.Unnaming as laws
use Rattle.kfs_shows.proofs.Lookups.{key_put, key_other, key_removed, key_kept, decide_place, decide_number, decide_bytes, none_some}
use Rattle.kfs_shows.proofs.KeysApart.{kinds, tails, same_parent, same_name}

module _ (t : Tree) (tree : IsTree t) (place : Place) (name : Name) (p n : ℕ) (up : number_at t place ≡ Some p) (at : number_at t (place ++ name ∷ []) ≡ Some n) (leaf : (x : Name) → number_at t ((place ++ name ∷ []) ++ x ∷ []) ≡ None) where
  abbrev gone : Place
  gone = place ++ name ∷ []

  abbrev now : Tree
  now = without_place t gone

  pub number_gone : number_at now gone ≡ None
  number_gone = laws.number_gone t gone

  pub number_old : (q : Place) → q ≢ gone → number_at now q ≡ number_at t q
  number_old = laws.number_old t gone

  pub named_before : (q : Place) (k : ℕ) → number_at now q ≡ Some k → (q ≢ gone) × (number_at t q ≡ Some k)
  named_before = laws.named_before t gone

  pub nameless : IsNameless now n
  nameless q e = let h = named_before q n e in h.0 (tree.apart q gone n h.1 at)

  pub nameless_before : (k : ℕ) → k ≢ n → IsNameless now k → IsNameless t k
  nameless_before k other none q e = none q (number_old q (λ is. other (same_Some k n (sym e ∙ ap (number_at t) is ∙ at))) ∙ e)

  place_kept : place ≢ gone
  place_kept e = let h : length place + 1 ≡ length place = sym (length_push place name) ∙ sym (ap length e) in absurd (omega arith)

  up_now : number_at now place ≡ Some p
  up_now = number_old place place_kept ∙ up

  pub still_tree : IsTree now
  still_tree = laws.unnamed_tree t gone tree (λ e. let h : length place + 1 ≡ 0 = sym (length_push place name) ∙ ap length e in absurd (omega arith)) leaf

  module _ (m : Objects) (shows : ShowsTree m t) (reach : t.next ≤ 2 ^ 64) where
    abbrev after : Objects
    after = objects.insert (objects.remove m (entry_key p name)) (orphan_key n) orphan_value

    named_low : (q : Place) (k : ℕ) → number_at t q ≡ Some k → k < 2 ^ 64
    named_low q k e = let x = tree.there q k e in let h = (tree.numbers k x.0 x.1).1 in omega arith

    elsewhere : (q : List ℕ) → q ≢ orphan_key n → q ≢ entry_key p name → objects.get after q ≡ objects.get m q
    elsewhere q d e = key_other (objects.remove m (entry_key p name)) (orphan_key n) orphan_value q d ∙ key_kept m (entry_key p name) q e

    entry_gone : objects.get after (entry_key p name) ≡ None
    entry_gone = key_other (objects.remove m (entry_key p name)) (orphan_key n) orphan_value (entry_key p name) (kinds 101 111 _ _ (λ e. omega arith)) ∙ key_removed m (entry_key p name)

    orphan_old : (k : ℕ) → k < 2 ^ 64 → k ≢ n → objects.get after (orphan_key k) ≡ objects.get m (orphan_key k)
    orphan_old k lt other = elsewhere (orphan_key k) (λ e. other (same64 k n lt (named_low gone n at) (tails _ _ _ _ e))) (kinds 111 101 _ _ (λ e. omega arith))

    entry_old : (k : ℕ) (x : Name) → k < 2 ^ 64 → k ≢ p → objects.get after (entry_key k x) ≡ objects.get m (entry_key k x)
    entry_old k x lt other = elsewhere (entry_key k x) (kinds 101 111 _ _ (λ e. omega arith)) (λ e. other (same_parent k p x name lt (named_low place p up) e))

    pub still_shows : ShowsTree after now
    still_shows = record {
      inodes = λ k lt. elsewhere (inode_key k) (kinds 105 111 _ _ (λ e. omega arith)) (kinds 105 101 _ _ (λ e. omega arith)) ∙ shows.inodes k lt;
      entries = λ q k x e short.
          let h = named_before q k e in
          let lt = named_low q k h.1 in
          elim (decide_place (q ++ x ∷ []) gone) [
            | inl is ↦
                let f = same_from_push q place x name is in
                let num : k ≡ p = same_Some k p (sym h.1 ∙ ap (number_at t) f.0 ∙ up) in
                ap (objects.get after) (λ i. entry_key (num i) (f.1 i)) ∙ entry_gone ∙ sym (ap (option_map entry_value) (ap (number_at now) is ∙ number_gone))
            | inr other ↦
                elsewhere (entry_key k x) (kinds 101 111 _ _ (λ e. omega arith)) (λ s. other (λ i. tree.apart q place k h.1 (up ∙ ap Some (sym (same_parent k p x name lt (named_low place p up) s))) i ++ same_name k p x name s i ∷ []))
                ∙ shows.entries q k x h.1 short ∙ sym (ap (option_map entry_value) (number_old (q ++ x ∷ []) other))
          ];
      no_entries = λ k x lt short none. elim (decide_number k n) [
        | inl is ↦
            entry_old k x lt (λ s. none place (up_now ∙ ap Some (sym s)))
            ∙ shows.entries gone k x (at ∙ ap Some (sym is)) short ∙ ap (option_map entry_value) (leaf x)
        | inr other ↦ entry_old k x lt (λ s. none place (up_now ∙ ap Some (sym s))) ∙ shows.no_entries k x lt short (nameless_before k other none)
      ];
      chunks = λ k c lk lc. subst (λ o. ShowsChunk o (node_of t k) c) (sym (elsewhere (chunk_key k c) (kinds 100 111 _ _ (λ e. omega arith)) (kinds 100 101 _ _ (λ e. omega arith)))) (shows.chunks k c lk lc);
      orphans = λ k x lt there none. elim (decide_number k n) [
        | inl is ↦ ap (λ j. objects.get after (orphan_key j)) is ∙ key_put (objects.remove m (entry_key p name)) (orphan_key n) orphan_value
        | inr other ↦ orphan_old k lt other ∙ shows.orphans k x lt there (nameless_before k other none)
      ];
      named = λ q k e. let h = named_before q k e in orphan_old k (named_low q k h.1) (λ s. nameless q (e ∙ ap Some s)) ∙ shows.named q k h.1;
      no_orphans = λ k lt e. orphan_old k lt (λ s. let x = tree.there gone n at in none_some _ x.0 (ap (node_of t) (sym s) ∙ e) x.1) ∙ shows.no_orphans k lt e;
      only = λ key value e. elim (decide_bytes key (orphan_key n)) [
        | inl is ↦ subst IsObjectKey (sym is) (is_orphan n (named_low gone n at))
        | inr d ↦ elim (decide_bytes key (entry_key p name)) [
          | inl is ↦ absurd (none_some _ value (ap (objects.get after) is ∙ entry_gone) e)
          | inr f ↦ shows.only key value (sym (elsewhere key d f) ∙ e)
        ]
      ];
    }
