-- A name that nothing lies below goes together with its node.
use Rattle.std.proofs.Common.{◌≡◌, ℕ, ◌<◌, ◌≤◌, ◌^◌, inl, inr, sym, ◌∙◌, ap, arith, [], ◌∷◌, ◌++◌, Some, None}
use Rattle.std.specs.FinMap as objects
use Rattle.kv_device.specs.Objects.{Objects}
use Rattle.kfs_objects.specs.Keys.{entry_key, orphan_key}
use Rattle.kfs_objects.specs.Records.{orphan_value}
use Rattle.kfs_model.specs.Tree.{Place, Name, Tree, without_place, IsTree, IsNameless, number_at}
use Rattle.kfs_shows.specs.Shows.{ShowsTree}
use Rattle.kfs_shows.specs.Laws.{DropsNamed, DropsNode, without_node}
use Rattle.kfs_shows.proofs.Lookups.{key_other, key_removed, key_kept, decide_bytes}
use Rattle.kfs_shows.proofs.KeysApart.{kinds}
use Rattle.kfs_shows.proofs.Unnaming as unnaming
use Rattle.kfs_shows.proofs.Dropping as dropping

module _ (t : Tree) (tree : IsTree t) (place : Place) (name : Name) (p n : ℕ) (up : number_at t place ≡ Some p) (at : number_at t (place ++ name ∷ []) ≡ Some n) (leaf : (x : Name) → number_at t ((place ++ name ∷ []) ++ x ∷ []) ≡ None) where
  abbrev middle : Tree
  middle = without_place t (place ++ name ∷ [])

  middle_tree : IsTree middle
  middle_tree = unnaming.still_tree t tree place name p n up at leaf

  nameless : IsNameless middle n
  nameless = unnaming.nameless t tree place name p n up at leaf

  pub still_tree : IsTree (without_node middle n)
  still_tree = dropping.still_tree middle middle_tree n nameless

  module _ (m after : Objects) (shows : ShowsTree m t) (reach : t.next ≤ 2 ^ 64) (drops : DropsNamed m after p name n) where
    -- the entry gone, and an orphan object in its place
    abbrev between : Objects
    between = objects.insert (objects.remove m (entry_key p name)) (orphan_key n) orphan_value

    low : n < 2 ^ 64
    low = let x = tree.there (place ++ name ∷ []) n at in let h = (tree.numbers n x.0 x.1).1 in omega arith

    entry_gone : objects.get between (entry_key p name) ≡ None
    entry_gone = key_other (objects.remove m (entry_key p name)) (orphan_key n) orphan_value (entry_key p name) (kinds 101 111 _ _ (λ e. omega arith)) ∙ key_removed m (entry_key p name)

    drops_node : DropsNode between after n
    drops_node = record {
      inode = drops.inode;
      orphan = drops.others (orphan_key n) (kinds 111 101 _ _ (λ e. omega arith)) (kinds 111 105 _ _ (λ e. omega arith)) (λ c lc. kinds 111 100 _ _ (λ e. omega arith)) ∙ shows.named (place ++ name ∷ []) n at;
      chunks = drops.chunks;
      others = λ key d e f. elim (decide_bytes key (entry_key p name)) [
        | inl is ↦ ap (objects.get after) is ∙ drops.entry ∙ sym (ap (objects.get between) is ∙ entry_gone)
        | inr g ↦ drops.others key g d f ∙ sym (key_other (objects.remove m (entry_key p name)) (orphan_key n) orphan_value key e ∙ key_kept m (entry_key p name) key g)
      ];
    }

    pub still_shows : ShowsTree after (without_node middle n)
    still_shows = dropping.still_shows middle middle_tree n nameless between after (unnaming.still_shows t tree place name p n up at leaf m shows reach) low drops_node reach
