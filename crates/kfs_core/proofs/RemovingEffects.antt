-- What removals and renames do to the objects: they show the tree that the definitions leave.
use Rattle.std.proofs.Common.{◌≡◌, ◌≢◌, ℕ, ◌<◌, ◌≤◌, ◌+◌, ◌^◌, true, false, Bool, refl, sym, ◌∙◌, ap, subst, arith, List, [], ◌∷◌, ◌++◌, Option, Some, None}
use Rattle.std.specs.FinMap as objects
use Rattle.std.proofs.lemmas.List.{length-set}
use Rattle.kv_device.specs.Machine.{changes_of}
use Rattle.std.proofs.Common.{unwrap_or}
use Rattle.kfs_objects.specs.Keys.{inode_key, entry_key, chunk_key, orphan_key}
use Rattle.kfs_objects.specs.Records.{entry_value, orphan_value}
use Rattle.kfs_model.specs.declared.Node.{Node}
use Rattle.kfs_model.specs.declared.Node.TheVariants.{Dir, File}
use Rattle.kfs_model.specs.Tree.{Place, Name, Tree, below, without_place, renamed, chunks_of, IsTree, IsNameless, number_at, node_of}
use Rattle.kfs_model.specs.Desk.{is_open}
use Rattle.kfs_model.specs.Step.{World, swept}
use Rattle.kfs_laws.proofs.Renamed.{IsGoal}
use Rattle.kfs_shows.specs.Shows.{ShowsTree}
use Rattle.kfs_shows.specs.Laws.{DropsNamed, MovesEntry, MovesOverKept, MovesOverDropped}
use Rattle.kfs_shows.specs.Sweeping.{OpenBut, ShowsWorld, Frees, KeepsUnnamed, keys_of, with_tree}
use Rattle.kfs_shows.proofs.Lookups.{key_put, key_other, key_removed, key_kept}
use Rattle.kfs_shows.proofs.KeysApart.{kinds}
use Rattle.kfs_shows.proofs.Renaming.{moves_entry}
use Rattle.kfs_shows.proofs.Replacing.{keys_apart}
use Rattle.kfs_shows.proofs.Dropping as dropping
use Rattle.kfs_shows.proofs.Leaving.{leaves_less, unlinked_kept, unlinked_dropped, moved, moved_kept, moved_dropped}
use Rattle.kfs_tx.specs.Tx.{Tx, IsReady, seen, put_in, deleted_in}
use Rattle.kfs_tx.proofs.Seeing.{ready_put, seen_put, keys_put, ready_deleted, seen_deleted}
use Rattle.kfs_file.specs.Contents.{pending_of, ChangesAtMost}
use Rattle.kfs_core.specs.Stands.{Stands}
use Rattle.kfs_core.specs.Removing.{Leaf, Goes, Loses, Unnames, chunks_for, chunks_gone, keys_gone}
use Rattle.kfs_core.specs.Renaming.{Move, Replaces, with_moved, chunks_replaced, keys_replaced}
use Rattle.kfs_core.proofs.Ways.{kind_of, inode_at}
use Rattle.kfs_core.proofs.Dropped.{Follows, follows_deleted, goes_follows, inode_gone, chunk_gone, others_kept, none_past, drops}
use Rattle.kfs_core.proofs.RemovingJudges.{IsLeaf}
use Rattle.kfs_core.proofs.RenamingJudges.{IsMove, IsOver}

-- what a tx keeps where only its transaction's changes are others, at most so many keys more
pub record Rests (old new : Tx) (most : ℕ) : Type 0 where
  pub ready : IsReady old → IsReady new
  pub few : ChangesAtMost old most new
  pub same : new ≡ pending_of new old

-- a tx whose objects show a world, after at most so many keys more were changed, and that takes so many keys and pages less
pub record LeavesWorld (old mid : Tx) (t : Tree) (w : World) (changed keys pages : ℕ) : Type 0 where
  pub rests : Rests old mid changed
  pub shows : ShowsWorld (seen mid) w
  pub frees : Frees t w.tree keys pages

rests_of : (a b : Tx) (m : ℕ) → Follows a b m → Rests a b m
rests_of a b m h = record { ready = h.ready; few = h.few; same = h.same }

follows_none : (r : Tx) → Follows r r 0
follows_none r = record { ready = λ h. h; few = λ h. omega arith; same = refl; slots = refl }

follows_then : (a b c : Tx) (m n : ℕ) → Follows a b m → Follows b c n → Follows a c (m + n)
follows_then a b c m n h g = record {
  ready = λ r. g.ready (h.ready r);
  few = λ r. let x = h.few r in let y = g.few (h.ready r) in omega arith;
  same = g.same ∙ ap (pending_of c) h.same;
  slots = g.slots ∙ h.slots;
}

follows_put : (old mid : Tx) (key value : List ℕ) (most : ℕ) → Follows old mid most → Follows old (put_in mid key value) (most + 1)
follows_put old mid key value most h = record {
  ready = λ r. ready_put mid key value (h.ready r);
  few = λ r. let a = h.few r in let b = keys_put mid key value (h.ready r) in omega arith;
  same = ap (λ (r : Tx). record r { machine = record r.machine { pending = (put_in mid key value).machine.pending } }) h.same;
  slots = length-set mid.machine.pending mid.id (Some (objects.insert (unwrap_or (changes_of mid.machine mid.id) objects.empty) key (Some value))) ∙ h.slots;
}

follows_as : (a b : Tx) (m n : ℕ) → m ≡ n → Follows a b m → Follows a b n
follows_as a b m n e h = subst (Follows a b) e h

follows_within : (a b : Tx) (m n : ℕ) → m ≤ n → Follows a b m → Follows a b n
follows_within a b m n le h = record { ready = h.ready; few = λ r. let x = h.few r in omega arith; same = h.same; slots = h.slots }

-- the chunks of a node, by its length
chunks_are : (node : Node) → chunks_of node ≡ chunks_for (kind_of node).1
chunks_are Dir = refl
chunks_are (File bytes) = refl

-- a tree that the objects show
module _ (r : Tx) (ready : IsReady r) (t : Tree) (tree : IsTree t) (shows : ShowsTree (seen r) t) (low : t.next ≤ 2 ^ 63) where
  stands : Stands (seen r) t
  stands = record { tree = tree; shows = shows; low = low }

  node_low : (n : ℕ) (node : Node) → node_of t n ≡ Some node → n < 2 ^ 64
  node_low n node e = let h = (tree.numbers n node e).1 in omega arith

  short : (n : ℕ) (node : Node) → node_of t n ≡ Some node → (kind_of node).1 ≤ 2 ^ 20
  short n Dir e = omega arith
  short n (File bytes) e = let h = tree.lengths n bytes e in omega arith

  past : (n : ℕ) (node : Node) → node_of t n ≡ Some node → (c : ℕ) → c < 2 ^ 32 → chunks_for (kind_of node).1 ≤ c → objects.get (seen r) (chunk_key n c) ≡ None
  past n node e c lt more = none_past (seen r) t n node (kind_of node).0 (kind_of node).1 c tree shows (node_low n node e) e (inode_at (seen r) t stands n node e) lt more

frees_size : (t u : Tree) (node : Node) (size : ℕ) → size ≡ (kind_of node).1 → Frees t u (keys_of node) (chunks_of node) → Frees t u (2 + chunks_for size) (chunks_for size)
frees_size t u node size is f = subst (λ k. Frees t u (2 + k) k) (chunks_are node ∙ ap chunks_for (sym is)) f

-- a nameless node that is open no more goes with its orphan object
pub releases_leaves : (r : Tx) → IsReady r → (w : World) → IsTree w.tree → ShowsTree (seen r) w.tree → w.tree.next ≤ 2 ^ 63
    → (n : ℕ) (node : Node) → node_of w.tree n ≡ Some node → IsNameless w.tree n → OpenBut w n → is_open w.desk n ≡ false
    → (size : ℕ) → size ≡ (kind_of node).1 → (mid : Tx) → Goes r n size mid
    → LeavesWorld r (deleted_in mid (orphan_key n)) w.tree (swept w) (2 + chunks_for size) (2 + chunks_for size) (chunks_for size)
releases_leaves r ready w tree shows low n node there none but shut size is mid goes =
    let low_n = node_low r ready w.tree tree shows low n node there in
    let few = short r ready w.tree tree shows low n node there in
    let small : size ≤ 2 ^ 20 = omega arith in
    let reach : w.tree.next ≤ 2 ^ 64 = omega arith in
    let after = deleted_in mid (orphan_key n) in
    let gone = drops r mid n size goes ready low_n small (λ c lt more. past r ready w.tree tree shows low n node there c lt (subst (λ s. chunks_for s ≤ c) is more)) in
    let f = leaves_less (seen after) w tree n node there none but shut (dropping.still_shows w.tree tree n none (seen r) (seen after) shows low_n gone reach) in
    record {
      rests = rests_of _ _ _ (follows_as r after (chunks_for size + 1 + 1) (2 + chunks_for size) (omega arith) (follows_deleted r mid (orphan_key n) (chunks_for size + 1) (goes_follows r mid n size goes)));
      shows = f.0;
      frees = frees_size w.tree (swept w).tree node size is f.1;
    }

-- a world that the objects show
module _ (r : Tx) (ready : IsReady r) (w : World) (sh : ShowsWorld (seen r) w) (low : w.tree.next ≤ 2 ^ 63) where
  reach : w.tree.next ≤ 2 ^ 64
  reach = omega arith

  -- an entry deleted, and its node's objects changed
  module _ (p : ℕ) (name : Name) (n : ℕ) (mid : Tx) where
    less_ready : IsReady (deleted_in r (entry_key p name))
    less_ready = ready_deleted r (entry_key p name) ready

    less_seen : seen (deleted_in r (entry_key p name)) ≡ objects.remove (seen r) (entry_key p name)
    less_seen = seen_deleted r (entry_key p name) ready

    less_same : (q : List ℕ) → q ≢ entry_key p name → objects.get (seen (deleted_in r (entry_key p name))) q ≡ objects.get (seen r) q
    less_same q d = ap (λ m. objects.get m q) less_seen ∙ key_kept (seen r) (entry_key p name) q d

    less_gone : objects.get (seen (deleted_in r (entry_key p name))) (entry_key p name) ≡ None
    less_gone = ap (λ m. objects.get m (entry_key p name)) less_seen ∙ key_removed (seen r) (entry_key p name)

    pub keeps : mid ≡ put_in (deleted_in r (entry_key p name)) (orphan_key n) orphan_value → KeepsUnnamed (seen r) (seen mid) p name n
    keeps is = record {
      entry = at (entry_key p name) ∙ key_other (seen (deleted_in r (entry_key p name))) (orphan_key n) orphan_value (entry_key p name) (kinds 101 111 _ _ (λ e. omega arith)) ∙ less_gone;
      orphan = at (orphan_key n) ∙ key_put (seen (deleted_in r (entry_key p name))) (orphan_key n) orphan_value;
      others = λ q d e. at q ∙ key_other (seen (deleted_in r (entry_key p name))) (orphan_key n) orphan_value q e ∙ less_same q d;
    }
      where
        at : (q : List ℕ) → objects.get (seen mid) q ≡ objects.get (objects.insert (seen (deleted_in r (entry_key p name))) (orphan_key n) orphan_value) q
        at q = ap (λ m. objects.get m q) (ap seen is ∙ seen_put (deleted_in r (entry_key p name)) (orphan_key n) orphan_value less_ready)

    pub drops_named : (node : Node) → node_of w.tree n ≡ Some node → (size : ℕ) → size ≡ (kind_of node).1 → Goes (deleted_in r (entry_key p name)) n size mid → DropsNamed (seen r) (seen mid) p name n
    drops_named node there size is goes =
        let low_n = node_low r ready w.tree sh.tree sh.shows low n node there in
        let few = short r ready w.tree sh.tree sh.shows low n node there in
        let small : size ≤ 2 ^ 20 = omega arith in
        record {
          entry = others_kept (deleted_in r (entry_key p name)) mid n size goes less_ready low_n small (entry_key p name) (kinds 101 105 _ _ (λ e. omega arith)) (λ c lt. kinds 101 100 _ _ (λ e. omega arith)) ∙ less_gone;
          inode = inode_gone (deleted_in r (entry_key p name)) mid n size goes less_ready low_n small;
          chunks = λ c lt. chunk_gone (deleted_in r (entry_key p name)) mid n size goes less_ready low_n small c lt
              (λ more. less_same (chunk_key n c) (kinds 100 101 _ _ (λ e. omega arith)) ∙ past r ready w.tree sh.tree sh.shows low n node there c lt (subst (λ s. chunks_for s ≤ c) is more));
          others = λ q d e f. others_kept (deleted_in r (entry_key p name)) mid n size goes less_ready low_n small q e f ∙ less_same q d;
        }

  -- a tx follows the first by the keys of an entry, of an orphan object or an inode, and of the chunks that go
  follows_unnamed : (leaf : Leaf) (open_now : Bool) (mid : Tx) → Unnames r leaf open_now mid → Follows r mid (2 + chunks_gone leaf open_now)
  follows_unnamed leaf true mid is = subst (λ (x : Tx). Follows r x 2) (sym is) (follows_put r (deleted_in r (entry_key leaf.parent leaf.name)) (orphan_key leaf.node) orphan_value 1 (follows_deleted r r (entry_key leaf.parent leaf.name) 0 (follows_none r)))
  follows_unnamed leaf false mid goes =
      follows_as r mid (1 + (chunks_for leaf.size + 1)) (2 + chunks_for leaf.size) (omega arith)
      (follows_then r (deleted_in r (entry_key leaf.parent leaf.name)) mid 1 (chunks_for leaf.size + 1) (follows_deleted r r (entry_key leaf.parent leaf.name) 0 (follows_none r)) (goes_follows (deleted_in r (entry_key leaf.parent leaf.name)) mid leaf.node leaf.size goes))

  pub unnames_leaves : (place : Place) (leaf : Leaf) → IsLeaf w.tree place leaf → (open_now : Bool) → open_now ≡ is_open w.desk leaf.node → (mid : Tx) → Unnames r leaf open_now mid
      → LeavesWorld r mid w.tree (swept (with_tree w (without_place w.tree place))) (2 + chunks_gone leaf open_now) (keys_gone leaf open_now) (chunks_gone leaf open_now)
  unnames_leaves place leaf is open_now same mid does = subst (λ q. LeavesWorld r mid w.tree (swept (with_tree w (without_place w.tree q))) (2 + chunks_gone leaf open_now) (keys_gone leaf open_now) (chunks_gone leaf open_now)) (sym is.is) (by open_now same does)
    where
      at : number_at w.tree (is.up ++ leaf.name ∷ []) ≡ Some leaf.node
      at = ap (number_at w.tree) (sym is.is) ∙ is.at

      leafless : (x : Name) → number_at w.tree ((is.up ++ leaf.name ∷ []) ++ x ∷ []) ≡ None
      leafless x = ap (λ q. number_at w.tree (q ++ x ∷ [])) (sym is.is) ∙ is.empty x

      by : (b : Bool) → b ≡ is_open w.desk leaf.node → Unnames r leaf b mid → LeavesWorld r mid w.tree (swept (with_tree w (without_place w.tree (is.up ++ leaf.name ∷ [])))) (2 + chunks_gone leaf b) (keys_gone leaf b) (chunks_gone leaf b)
      by true e d =
          let f = unlinked_kept (seen r) (seen mid) w sh reach is.up leaf.name leaf.parent leaf.node is.node is.above at is.there leafless (sym e) (keeps leaf.parent leaf.name leaf.node mid d) in
          record { rests = rests_of _ _ _ (follows_unnamed leaf true mid d); shows = f.0; frees = f.1 }
      by false e d =
          let f = unlinked_dropped (seen r) (seen mid) w sh reach is.up leaf.name leaf.parent leaf.node is.node is.above at is.there leafless (sym e) (drops_named leaf.parent leaf.name leaf.node mid is.node is.there leaf.size is.size d) in
          record { rests = rests_of _ _ _ (follows_unnamed leaf false mid d); shows = f.0; frees = frees_size w.tree _ is.node leaf.size is.size f.1 }

  -- an entry moved, after what it replaces lost its name
  module _ (move : Move) (mid : Tx) where
    abbrev old_key : List ℕ
    old_key = entry_key move.parent move.name

    abbrev new_key : List ℕ
    new_key = entry_key move.new_parent move.new_name

    moved_seen : IsReady mid → seen (with_moved mid move) ≡ objects.insert (objects.remove (seen mid) old_key) new_key (entry_value move.node)
    moved_seen h = seen_put (deleted_in mid old_key) new_key (entry_value move.node) (ready_deleted mid old_key h) ∙ ap (λ m. objects.insert m new_key (entry_value move.node)) (seen_deleted mid old_key h)

    follows_moved : (k : ℕ) → Follows r mid k → Follows r (with_moved mid move) (2 + k)
    follows_moved k h = follows_as r (with_moved mid move) (k + 1 + 1) (2 + k) (omega arith) (follows_put r (deleted_in mid old_key) new_key (entry_value move.node) (k + 1) (follows_deleted r mid old_key k h))

    module _ (h : IsReady mid) (apart : new_key ≢ old_key) where
      at : (q : List ℕ) → objects.get (seen (with_moved mid move)) q ≡ objects.get (objects.insert (objects.remove (seen mid) old_key) new_key (entry_value move.node)) q
      at q = ap (λ m. objects.get m q) (moved_seen h)

      gone : objects.get (seen (with_moved mid move)) old_key ≡ None
      gone = at old_key ∙ key_other (objects.remove (seen mid) old_key) new_key (entry_value move.node) old_key (λ e. apart (sym e)) ∙ key_removed (seen mid) old_key

      new : objects.get (seen (with_moved mid move)) new_key ≡ Some (entry_value move.node)
      new = at new_key ∙ key_put (objects.remove (seen mid) old_key) new_key (entry_value move.node)

      other : (q : List ℕ) → q ≢ old_key → q ≢ new_key → objects.get (seen (with_moved mid move)) q ≡ objects.get (seen mid) q
      other q d e = at q ∙ key_other (objects.remove (seen mid) old_key) new_key (entry_value move.node) q e ∙ key_kept (seen mid) old_key q d

      over_kept : (n : ℕ) → mid ≡ put_in r (orphan_key n) orphan_value → MovesOverKept (seen r) (seen (with_moved mid move)) move.parent move.name move.new_parent move.new_name move.node n
      over_kept n is = record {
        gone = gone;
        new = new;
        orphan = other (orphan_key n) (kinds 111 101 _ _ (λ e. omega arith)) (kinds 111 101 _ _ (λ e. omega arith)) ∙ put (orphan_key n) ∙ key_put (seen r) (orphan_key n) orphan_value;
        others = λ q d e f. other q d e ∙ put q ∙ key_other (seen r) (orphan_key n) orphan_value q f;
      }
        where
          put : (q : List ℕ) → objects.get (seen mid) q ≡ objects.get (objects.insert (seen r) (orphan_key n) orphan_value) q
          put q = ap (λ m. objects.get m q) (ap seen is ∙ seen_put r (orphan_key n) orphan_value ready)

      over_dropped : (n : ℕ) (node : Node) → node_of w.tree n ≡ Some node → (size : ℕ) → size ≡ (kind_of node).1 → Goes r n size mid → MovesOverDropped (seen r) (seen (with_moved mid move)) move.parent move.name move.new_parent move.new_name move.node n
      over_dropped n node there size is goes =
          let low_n = node_low r ready w.tree sh.tree sh.shows low n node there in
          let few = short r ready w.tree sh.tree sh.shows low n node there in
          let small : size ≤ 2 ^ 20 = omega arith in
          record {
            gone = gone;
            new = new;
            inode = other (inode_key n) (kinds 105 101 _ _ (λ e. omega arith)) (kinds 105 101 _ _ (λ e. omega arith)) ∙ inode_gone r mid n size goes ready low_n small;
            chunks = λ c lt. other (chunk_key n c) (kinds 100 101 _ _ (λ e. omega arith)) (kinds 100 101 _ _ (λ e. omega arith))
                ∙ chunk_gone r mid n size goes ready low_n small c lt (λ more. past r ready w.tree sh.tree sh.shows low n node there c lt (subst (λ s. chunks_for s ≤ c) is more));
            others = λ q d e f g. other q d e ∙ others_kept r mid n size goes ready low_n small q f g;
          }

  module _ (p q : Place) (move : Move) (is : IsMove w.tree p q move) (open_now : ℕ → Bool) where
    abbrev from : Place
    from = is.up ++ move.name ∷ []

    abbrev onto : Place
    onto = is.to ++ move.new_name ∷ []

    found : number_at w.tree (is.up ++ move.name ∷ []) ≡ Some move.node
    found = ap (number_at w.tree) (sym is.is) ∙ is.at

    apart : below (is.up ++ move.name ∷ []) (is.to ++ move.new_name ∷ []) ≡ None
    apart = (λ i. below (sym is.is i) (sym is.goal i)) ∙ is.apart

    abbrev MovesTo : Place → Place → Option Leaf → Tx → Type 0
    MovesTo p q o mid = LeavesWorld r (with_moved mid move) w.tree (swept (with_tree w (renamed (without_place w.tree q) p q))) (3 + chunks_replaced o open_now) (keys_replaced o open_now) (chunks_replaced o open_now)

    onto_none : (mid : Tx) → mid ≡ r → number_at w.tree (is.to ++ move.new_name ∷ []) ≡ None → MovesTo (is.up ++ move.name ∷ []) (is.to ++ move.new_name ∷ []) None mid
    onto_none mid same free =
        let spot : IsGoal w.tree from is.to move.new_name move.new_parent = record { at = is.under; dir = is.dir; free = free; named = is.named; apart = apart } in
        let entry : MovesEntry (seen r) (seen (with_moved r move)) move.parent move.name move.new_parent move.new_name move.node =
        subst (λ m. MovesEntry (seen r) m move.parent move.name move.new_parent move.new_name move.node) (sym (moved_seen move r ready))
        (moves_entry w.tree sh.tree is.up move.name is.to move.new_name move.parent move.new_parent move.node is.above found spot (seen r) reach) in
        let f = moved (seen r) (seen (with_moved r move)) w sh reach is.up move.name is.to move.new_name move.parent move.new_parent move.node is.above found is.under apart is.dir free is.named entry in
        subst (MovesTo from onto None) (sym same) (record { rests = rests_of _ _ _ (follows_within r (with_moved r move) 2 3 (omega arith) (follows_moved move r 0 (follows_none r))); shows = f.0; frees = f.1 })

    onto_leaf : (mid : Tx) (leaf : Leaf) → IsLeaf w.tree q leaf → (b : Bool) → b ≡ open_now leaf.node → open_now leaf.node ≡ is_open w.desk leaf.node → Loses r leaf.node leaf.size b mid → MovesTo (is.up ++ move.name ∷ []) (is.to ++ move.new_name ∷ []) (Some leaf) mid
    onto_leaf mid leaf over b same opened does = subst (λ b. LeavesWorld r (with_moved mid move) w.tree (swept (with_tree w (renamed (without_place w.tree onto) from onto))) (3 + chunks_gone leaf b) (keys_gone leaf b) (chunks_gone leaf b)) same (by b (same ∙ opened) does)
      where
        over_at : number_at w.tree (is.to ++ move.new_name ∷ []) ≡ Some leaf.node
        over_at = ap (number_at w.tree) (sym is.goal) ∙ over.at

        leafless : (x : Name) → number_at w.tree ((is.to ++ move.new_name ∷ []) ++ x ∷ []) ≡ None
        leafless x = ap (λ s. number_at w.tree (s ++ x ∷ [])) (sym is.goal) ∙ over.empty x

        keys : entry_key move.new_parent move.new_name ≢ entry_key move.parent move.name
        keys = keys_apart w.tree sh.tree is.up move.name is.to move.new_name move.parent move.new_parent move.node leaf.node is.above found is.under over_at leafless apart (seen r) (seen r) sh.shows reach

        by : (c : Bool) → c ≡ is_open w.desk leaf.node → Loses r leaf.node leaf.size c mid → LeavesWorld r (with_moved mid move) w.tree (swept (with_tree w (renamed (without_place w.tree (is.to ++ move.new_name ∷ [])) (is.up ++ move.name ∷ []) (is.to ++ move.new_name ∷ [])))) (3 + chunks_gone leaf c) (keys_gone leaf c) (chunks_gone leaf c)
        by true e d =
            let follows : Follows r mid 1 = subst (λ (x : Tx). Follows r x 1) (sym d) (follows_put r r (orphan_key leaf.node) orphan_value 0 (follows_none r)) in
            let f = moved_kept (seen r) (seen (with_moved mid move)) w sh reach is.up move.name is.to move.new_name move.parent move.new_parent move.node is.above found is.under apart leaf.node over.node over_at over.there leafless (sym e) (over_kept move mid (follows.ready ready) keys leaf.node d) in
            record { rests = rests_of _ _ _ (follows_moved move mid 1 follows); shows = f.0; frees = f.1 }
        by false e d =
            let follows = goes_follows r mid leaf.node leaf.size d in
            let f = moved_dropped (seen r) (seen (with_moved mid move)) w sh reach is.up move.name is.to move.new_name move.parent move.new_parent move.node is.above found is.under apart leaf.node over.node over_at over.there leafless (sym e) (over_dropped move mid (follows.ready ready) keys leaf.node over.node over.there leaf.size over.size d) in
            record {
              rests = rests_of _ _ _ (follows_as r (with_moved mid move) (2 + (chunks_for leaf.size + 1)) (3 + chunks_for leaf.size) (omega arith) (follows_moved move mid (chunks_for leaf.size + 1) follows));
              shows = f.0;
              frees = frees_size w.tree _ over.node leaf.size over.size f.1;
            }

    pub moves_leaves : ((leaf : Leaf) → move.replaced ≡ Some leaf → open_now leaf.node ≡ is_open w.desk leaf.node) → (mid : Tx) → Replaces r move.replaced open_now mid
        → LeavesWorld r (with_moved mid move) w.tree (swept (with_tree w (renamed (without_place w.tree q) p q))) (3 + chunks_replaced move.replaced open_now) (keys_replaced move.replaced open_now) (chunks_replaced move.replaced open_now)
    moves_leaves opened mid does = subst (λ s. MovesTo s q move.replaced mid) (sym is.is) (subst (λ s. MovesTo (is.up ++ move.name ∷ []) s move.replaced mid) (sym is.goal) (by move.replaced refl is.over does))
      where
        by : (o : Option Leaf) → move.replaced ≡ o → IsOver w.tree q move.new_parent move.new_name o → Replaces r o open_now mid → MovesTo (is.up ++ move.name ∷ []) (is.to ++ move.new_name ∷ []) o mid
        by None e over d = onto_none mid d (ap (number_at w.tree) (sym is.goal) ∙ over)
        by (Some leaf) e over d = onto_leaf mid leaf over.0 (open_now leaf.node) refl (opened leaf e) d
