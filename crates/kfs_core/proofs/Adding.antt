-- A new node, a directory or a file without bytes: what its objects show, and what it takes.
use Rattle.std.proofs.Common.{◌≡◌, ℕ, ◌<◌, ◌≤◌, ◌+◌, ◌-◌, ◌^◌, sym, ◌∙◌, ap, subst, arith, [], ◌∷◌, ◌++◌, length, take, get_or, None, Some}
use Rattle.std.specs.FinMap as objects
use Rattle.std.specs.Ordering.{nat_cmp}
use Rattle.std.proofs.lemmas.List.{length_push, take-append-le, take_all}
use Rattle.kfs_objects.specs.Keys.{inode_key, entry_key}
use Rattle.kfs_objects.specs.Records.{inode_value, entry_value}
use Rattle.kfs_model.specs.declared.Node.{Node}
use Rattle.kfs_model.specs.Tree.{Place, Name, Tree, with_new, charge, chunks, chunks_of, IsTree, number_at, node_of}
use Rattle.kfs_shows.specs.Shows.{ShowsTree, inode_of}
use Rattle.kfs_shows.proofs.Making.{IsFreePlace, IsFresh, with_objects, still_tree, still_shows, absent}
use Rattle.kfs_shows.proofs.Charging.{sum_by-put, length-put_new}
use Rattle.kfs_tx.specs.Tx.{Tx, IsReady, seen, changed_keys}
use Rattle.kfs_tx.proofs.Seeing.{ready_put, seen_put, keys_put}
use Rattle.kfs_core.specs.Stands.{Stands}
use Rattle.kfs_core.specs.Flat.{Where}
use Rattle.kfs_core.specs.Making.{parent_of, with_inode, with_entry}
use Rattle.kfs_core.proofs.Ways.{IsSpot}

-- a walk that ended in nothing stands at a free place
pub free_place : (t : Tree) (place : Place) (w : Where) → IsSpot t place w → w.node ≡ None → (q : Place) × (place ≡ q ++ w.name ∷ []) × IsFreePlace t q w.name (parent_of w)
free_place t place w spot none =
    let down = spot.name none in
    let q = down.0 in
    let long : length place ≡ length q + 1 = ap length down.1 ∙ length_push q w.name in
    let above = spot.long in
    let last : length w.above - 1 ≡ length q = omega arith in
    let lt : length q < length place = omega arith in
    let front : take (length q) place ≡ q = ap (take (length q)) down.1 ∙ take-append-le (length q) q (w.name ∷ []) (let e : length q ≤ length q = omega arith in e) ∙ take_all (length q) q (let e : length q ≤ length q = omega arith in e) in
    let number : get_or w.above (length q) 0 ≡ parent_of w = ap (λ i. get_or w.above i 0) (sym last) in (
      q,
      down.1,
      record {
        at = sym (ap (number_at t) front) ∙ spot.way (length q) lt ∙ ap Some number;
        dir = ap (node_of t) (sym number) ∙ spot.dirs (length q) lt;
        free = sym (ap (number_at t) down.1) ∙ sym spot.node ∙ none;
        named = down.2;
      },
    )

module _ (old : Tx) (kind p : ℕ) (name : Name) (ready : IsReady old) where
  pub entry_ready : IsReady (with_entry old kind p name)
  entry_ready = ready_put (with_inode old kind) (entry_key p name) (entry_value old.next) (ready_put old (inode_key old.next) (inode_value kind 0) ready)

  pub entry_keys : changed_keys (with_entry old kind p name) ≤ changed_keys old + 2
  entry_keys =
      let a = keys_put old (inode_key old.next) (inode_value kind 0) ready in
      let b = keys_put (with_inode old kind) (entry_key p name) (entry_value old.next) (ready_put old (inode_key old.next) (inode_value kind 0) ready) in
      omega arith

  entry_sees : seen (with_entry old kind p name) ≡ objects.insert (objects.insert (seen old) (inode_key old.next) (inode_value kind 0)) (entry_key p name) (entry_value old.next)
  entry_sees =
      seen_put (with_inode old kind) (entry_key p name) (entry_value old.next) (ready_put old (inode_key old.next) (inode_value kind 0) ready)
      ∙ ap (λ m. objects.insert m (entry_key p name) (entry_value old.next)) (seen_put old (inode_key old.next) (inode_value kind 0) ready)

  module _ (t : Tree) (stands : Stands (seen old) t) (next_is : old.next ≡ t.next) (q : Place) (free : IsFreePlace t q name p) (node : Node) (fresh : IsFresh node) (value_is : inode_of node ≡ inode_value kind 0) (none : chunks_of node ≡ 0) where
    abbrev pub new_tree : Tree
    new_tree = with_new t (q ++ name ∷ []) node

    reach : t.next < 2 ^ 64
    reach = let h = stands.low in omega arith

    unused : node_of t t.next ≡ None
    unused = absent t stands.tree q name p free node fresh (seen old) stands.shows reach

    pub new_is_tree : IsTree new_tree
    new_is_tree = still_tree t stands.tree q name p free node fresh

    pub new_shows : ShowsTree (seen (with_entry old kind p name)) new_tree
    new_shows =
        let same : with_objects (seen old) t.next p name node ≡ seen (with_entry old kind p name) =
        (λ i. objects.insert (objects.insert (seen old) (inode_key (sym next_is i)) (value_is i)) (entry_key p name) (entry_value (sym next_is i))) ∙ sym entry_sees in
        subst (λ m. ShowsTree m new_tree) same (still_shows t stands.tree q name p free node fresh (seen old) stands.shows reach)

    pub new_chunks : chunks new_tree ≡ chunks t
    new_chunks = sum_by-put (λ (e : ℕ × Node). chunks_of e.1) nat_cmp t.next node t.nodes unused ∙ (let s : chunks t + chunks_of node ≡ chunks t = omega arith in s)

    pub new_charge : charge new_tree ≡ charge t + 2
    new_charge = let l = length-put_new nat_cmp t.next node t.nodes unused in let c = new_chunks in omega arith
