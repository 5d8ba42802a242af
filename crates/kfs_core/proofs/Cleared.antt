-- The nodes without a name go one by one, and the same tree is shown without them.
use Rattle.std.proofs.Common.{◌≡◌, ℕ, ◌<◌, ◌≤◌, ◌+◌, ◌^◌, ◌⊎◌, inl, inr, true, cond, refl, sym, ◌∙◌, ap, subst, arith, List, Option, Some, None, IsSome}
use Rattle.std.specs.Ordering.{nat_cmp}
use Rattle.std.specs.Cmp.{nat_cmp_total}
use Rattle.std.specs.FinMap as objects
use Rattle.std.specs.FinMap.{find, nat_cmp-IsAntisymmetric}
use Rattle.std.specs.FinMap.Entries.{same_entries, find-where_key}
use Rattle.kv_device.specs.declared.fault.DeviceFault.{DeviceFault}
use Rattle.kv_device.specs.declared.fault.DeviceFault.TheVariants.{Memory}
use Rattle.kv_device.specs.declared.fault.DeviceFault.TheVariants as faults
use Rattle.kv_device.specs.Objects.{Objects}
use Rattle.kv_device.specs.Machine.{Machine, Transactions, none_open}
use Rattle.kv_device.specs.Calls.{has_room, DeleteFault}
use Rattle.kfs_objects.specs.Keys.{super_key, orphan_key}
use Rattle.kfs_objects.specs.Records.{orphan_value}
use Rattle.kfs_laws.proofs.Keeping.{named_kept}
use Rattle.kfs_model.specs.declared.Node.{Node}
use Rattle.kfs_model.specs.Tree.{place_cmp, Tree, IsTree, IsKept, IsNameless, named, is_named, node_of}
use Rattle.kfs_shows.specs.Shows.{Shows}
use Rattle.kfs_shows.specs.Laws.{without_node, DropsNode}
use Rattle.kfs_shows.proofs.Dropping.{still_tree, still_shows, is_kept}
use Rattle.kfs_shows.proofs.KeysApart.{kinds}
use Rattle.kfs_shows.proofs.Sweeping.{nameless_test}
use Rattle.kfs_tx.specs.Tx.{Tx, HasCause, Fallen, CommitFault, seen, started, committed, deleted_in}
use Rattle.kfs_tx.proofs.Falling.{commit_falls, delete_falls}
use Rattle.kfs_file.proofs.Failing.{fallen_before}
use Rattle.kfs_file.specs.Contents.{FailsWithin}
use Rattle.kfs_core.specs.Clearing.{Keeps, Cleared, Clears, ClearFails, IsFresh, NoOrphans, with_stable}
use Rattle.kfs_core.specs.Flat.{inode_in}
use Rattle.kfs_core.specs.Removing.{Goes, chunks_for}
use Rattle.kfs_core.proofs.Dropped.{Follows, drops, none_past, goes_follows, follows_deleted}
use Rattle.kfs_core.proofs.Fresh.{fresh_ready, fresh_seen, fresh_keys, fresh_over, fresh_started, committed_fresh, commit_either}

-- ---- kept trees

pub kept_all : (t : Tree) → IsTree t → IsKept t t
kept_all t tree = record { names = refl; next = refl; sorted = tree.sorted_nodes; nodes = λ n. inl refl }

nameless_along : (t kept : Tree) (n : ℕ) → kept.names ≡ t.names → IsNameless kept n → IsNameless t n
nameless_along t kept n same none place e = none place (ap (find place_cmp place) same ∙ e)

pub kept_both : (t u v : Tree) → IsKept t u → IsKept u v → IsKept t v
kept_both t u v a b = record {
  names = b.names ∙ a.names;
  next = b.next ∙ a.next;
  sorted = b.sorted;
  nodes = λ n. elim (b.nodes n) [
    | inl same ↦ elim (a.nodes n) [ inl more ↦ inl (same ∙ more) | inr gone ↦ inr (gone.0, same ∙ gone.1) ]
    | inr gone ↦ inr (nameless_along t u n a.names gone.0, gone.1)
  ];
}

pub keeps_same : (m : Objects) → Keeps m m
keeps_same m = record { each = λ t k tree low shows. (t, kept_all t tree, tree, shows) }

pub keeps_both : (a b c : Objects) → Keeps a b → Keeps b c → Keeps a c
keeps_both a b c first then = record {
  each = λ t k tree low shows.
      let u = first.each t k tree low shows in
      let next = u.1.next in
      let v = then.each u.0 k u.2 (subst (λ n. n ≤ 2 ^ 63) (sym next) low) u.3 in
      (v.0, kept_both t u.0 v.0 u.1 v.1, v.2, v.3);
}

pub keeps_to : (a b c : Objects) → c ≡ b → Keeps a b → Keeps a c
keeps_to a b c e h = subst (Keeps a) (sym e) h

-- ---- one node

module _ (m : Objects) (t : Tree) (k n : ℕ) (tree : IsTree t) (shows : Shows m t k) (low : n < 2 ^ 64) (v : List ℕ) (there : objects.get m (orphan_key n) ≡ Some v) where
  no_name : IsNameless t n
  no_name place e = let bad : Some v ≡ None = sym there ∙ shows.tree.named place n e in cc

  node_there : (x : Node) × (node_of t n ≡ Some x)
  node_there = by (node_of t n) refl
    where
      by : (o : Option Node) → node_of t n ≡ o → (x : Node) × (node_of t n ≡ Some x)
      by None e = let bad : Some v ≡ None = sym there ∙ shows.tree.no_orphans n low e in absurd (cc)
      by (Some x) e = (x, e)

  dropped : (after : Objects) → t.next ≤ 2 ^ 63 → DropsNode m after n → (kept : Tree) × IsKept t kept × IsTree kept × Shows after kept k
  dropped after reach gone = (
    without_node t n,
    is_kept t tree n no_name,
    still_tree t tree n no_name,
    record {
      tree = still_shows t tree n no_name m after shows.tree low gone (omega arith);
      head = gone.others super_key (kinds 115 105 _ _ (λ e. omega arith)) (kinds 115 111 _ _ (λ e. omega arith)) (λ c lt. kinds 115 100 _ _ (λ e. omega arith)) ∙ shows.head;
    },
  )

some_value : (o : Option (List ℕ)) → IsSome o → (v : List ℕ) × (o ≡ Some v)
some_value None h = absurd (cc)
some_value (Some v) h = (v, refl)

cause_either : (old : Machine) (after : Objects) (fault : DeviceFault) (new : Machine) → Fallen old fault old.stable new ⊎ Fallen old fault after new → HasCause old fault new
cause_either old after fault new h = elim h [ inl a ↦ a.cause | inr a ↦ a.cause ]

-- what is pending or stored makes no difference
has_cause_before : (m : Machine) (pending : Transactions) (fault : DeviceFault) (new : Machine) → HasCause (record m { pending = pending }) fault new → HasCause m fault new
has_cause_before m pending faults.NoTx new h = h
has_cause_before m pending faults.Busy new h = h
has_cause_before m pending faults.TxFull new h = h
has_cause_before m pending (faults.Full k q) new h = h
has_cause_before m pending faults.BadSize new h = h
has_cause_before m pending faults.Off new h = h
has_cause_before m pending faults.Failed new h = h
has_cause_before m pending faults.Memory new h = h

module _ (old new : Tx) (key : List ℕ) (node kind size : ℕ) (fresh : IsFresh old) (there : IsSome (objects.get (seen old) key)) (is : key ≡ orphan_key node) (low : node < 2 ^ 64) (inode : inode_in (seen old) node ≡ Some (kind, size)) (short : size ≤ 2 ^ 20) (goes : Goes old node size new) where
  follows : Follows old (deleted_in new key) (chunks_for size + 1 + 1)
  follows = follows_deleted old new key (chunks_for size + 1) (goes_follows old new node size goes)

  one_kept : Keeps old.machine.stable (seen (deleted_in new key))
  one_kept = record {
    each = λ t k tree reach shown.
        let shows = subst (λ m. Shows m t k) (sym (fresh_seen old fresh)) shown in
        let v = some_value _ there in
        let at : objects.get (seen old) (orphan_key node) ≡ Some v.0 = ap (objects.get (seen old)) (sym is) ∙ v.1 in
        let x = node_there (seen old) t k node tree shows low v.0 at in
        let gone = drops old new node size goes (fresh_ready old fresh) low short (λ c lt past. none_past (seen old) t node x.0 kind size c tree shows.tree low x.1 inode lt past) in
        dropped (seen old) t k node tree shows low v.0 at (seen (deleted_in new key)) reach (subst (λ q. DropsNode (seen old) (seen (deleted_in new q)) node) (sym is) gone);
  }

  pub one_cleared : (r : Tx) → r ≡ committed (deleted_in new key) → Clears old r
  one_cleared r done =
      let e : r ≡ with_stable old (seen (deleted_in new key)) = done ∙ committed_fresh old (deleted_in new key) (chunks_for size + 1 + 1) fresh follows in
      let stands : r.machine.stable ≡ seen (deleted_in new key) = ap (λ (x : Tx). x.machine.stable) e in
      record { same = e ∙ ap (with_stable old) (sym stands); keeps = keeps_to _ _ _ stands one_kept }

  pub commit_clears : has_room (deleted_in new key).machine (seen (deleted_in new key)) ≡ true → (fault : DeviceFault) (after : Machine) → CommitFault (deleted_in new key) fault after → ClearFails old fault after
  commit_clears room fault after h =
      let r = deleted_in new key in
      let e = commit_either r fault after (follows.ready (fresh_ready old fresh)) h in
      let same = follows.same in
      record {
        cause = has_cause_before old.machine r.machine.pending fault after (subst (λ (x : Tx). HasCause x.machine fault after) same (cause_either r.machine (seen r) fault after (commit_falls r fault after (follows.ready (fresh_ready old fresh)) room h)));
        keeps = elim (e.0) [
          | inl before ↦ keeps_to _ _ _ (before ∙ ap (λ (x : Tx). x.machine.stable) same) (keeps_same old.machine.stable)
          | inr after' ↦ keeps_to _ _ _ after' one_kept
        ];
        bounds = record {
          most_cuts = e.1.most_cuts ∙ ap (λ (x : Tx). x.machine.most_cuts) same;
          most_faults = e.1.most_faults ∙ ap (λ (x : Tx). x.machine.most_faults) same;
          room_keys = e.1.room_keys ∙ ap (λ (x : Tx). x.machine.room_keys) same;
          room_pages = e.1.room_pages ∙ ap (λ (x : Tx). x.machine.room_pages) same;
        };
      }

-- ---- failures between

pub fell : (old : Tx) (fault : DeviceFault) (new : Machine) → Fallen old.machine fault old.machine.stable new → ClearFails old fault new
fell old fault new f = record { cause = f.cause; keeps = keeps_to _ _ _ f.stable (keeps_same old.machine.stable); bounds = f.bounds }

pub fails_clear : (old : Tx) (keys : ℕ) (fault : DeviceFault) (new : Machine) → IsFresh old → keys ≤ 640 → FailsWithin old keys fault new → ClearFails old fault new
fails_clear old keys fault new fresh few h = fell old fault new (h.fallen (fresh_ready old fresh) (let z = fresh_keys old fresh in omega arith))

-- the deletion of the orphan object failed
pub delete_clears : (old mid : Tx) (node size : ℕ) → Goes old node size mid → IsFresh old → size ≤ 2 ^ 20 → (key : List ℕ) (fault : DeviceFault) (after : Machine) → DeleteFault mid.machine mid.id key fault after → ClearFails old fault after
delete_clears old mid node size goes fresh short key fault after h =
    let follows = goes_follows old mid node size goes in
    let ready = fresh_ready old fresh in
    let few = follows.few ready in
    let none = fresh_keys old fresh in
    let fallen = delete_falls mid key fault after (follows.ready ready) (omega arith) h in
    fell old fault after (fallen_before old.machine mid.machine.pending fault after (subst (λ (x : Tx). Fallen x.machine fault x.machine.stable after) follows.same fallen))

-- ---- one after the other

pub clears_both : (old mid new : Tx) → Clears old mid → Clears mid new → Clears old new
clears_both old mid new a b = record {
  same = b.same ∙ ap (λ (x : Tx). with_stable x new.machine.stable) a.same;
  keeps = keeps_both _ _ _ a.keeps b.keeps;
}

-- a failure after some of them
pub clear_fails_after : (old mid : Tx) (fault : DeviceFault) (new : Machine) → Clears old mid → ClearFails mid fault new → ClearFails old fault new
clear_fails_after old mid fault new a f = record {
  cause = cause_over old.machine mid.machine.stable fault new (subst (λ (x : Tx). HasCause x.machine fault new) a.same f.cause);
  keeps = keeps_both _ _ _ a.keeps f.keeps;
  bounds = record {
    most_cuts = f.bounds.most_cuts ∙ ap (λ (x : Tx). x.machine.most_cuts) a.same;
    most_faults = f.bounds.most_faults ∙ ap (λ (x : Tx). x.machine.most_faults) a.same;
    room_keys = f.bounds.room_keys ∙ ap (λ (x : Tx). x.machine.room_keys) a.same;
    room_pages = f.bounds.room_pages ∙ ap (λ (x : Tx). x.machine.room_pages) a.same;
  };
}
  where
    cause_over : (m : Machine) (s : Objects) (fault : DeviceFault) (new : Machine) → HasCause (record m { stable = s }) fault new → HasCause m fault new
    cause_over m s faults.NoTx new h = h
    cause_over m s faults.Busy new h = h
    cause_over m s faults.TxFull new h = h
    cause_over m s (faults.Full k q) new h = h
    cause_over m s faults.BadSize new h = h
    cause_over m s faults.Off new h = h
    cause_over m s faults.Failed new h = h
    cause_over m s faults.Memory new h = h

-- ---- all of them

module _ (old new : Objects) (kept : Keeps old new) (none : NoOrphans new) where
  has_name : (t : Tree) (k n : ℕ) (x : Node) → Shows new t k → n < 2 ^ 64 → node_of t n ≡ Some x → IsNameless t n → ⊥
  has_name t k n x shows low e nameless = let bad : None ≡ Some orphan_value = sym (none n) ∙ shows.tree.orphans n x low e nameless in absurd (cc)

  nodes_same : (t u : Tree) (k : ℕ) → IsTree t → IsKept t u → IsTree u → Shows new u k → t.next ≤ 2 ^ 63 → (n : ℕ) → node_of u n ≡ node_of (named t) n
  nodes_same t u k tree is good shows low n = elim (is.nodes n) [
    | inl same ↦ elim ((named_kept t tree).nodes n) [
      | inl as_named ↦ same ∙ sym as_named
      | inr gone ↦ by (node_of u n) refl gone
    ]
    | inr gone ↦ gone.1 ∙ sym (node_is ∙ ap (λ b. cond b (node_of t n) None) (nameless_test t tree n gone.0))
  ]
    where
      node_is : node_of (named t) n ≡ cond (is_named t n) (node_of t n) None
      node_is = find-where_key nat_cmp (is_named t) n (λ x e. ap (is_named t) (sym (nat_cmp-IsAntisymmetric n x e))) t.nodes

      by : (o : Option Node) → node_of u n ≡ o → IsNameless t n × (node_of (named t) n ≡ None) → node_of u n ≡ node_of (named t) n
      by None e gone = e ∙ sym gone.1
      by (Some x) e gone =
          let less = (good.numbers n x e).1 in
          let next = is.next in
          absurd (has_name u k n x shows (omega arith) e (nameless_along u t n (sym is.names) gone.0))

  kept_named : (t u : Tree) (k : ℕ) → IsTree t → IsKept t u → IsTree u → Shows new u k → t.next ≤ 2 ^ 63 → u ≡ named t
  kept_named t u k tree is good shows low =
      let nodes = same_entries nat_cmp nat_cmp_total nat_cmp-IsAntisymmetric u.nodes (named t).nodes is.sorted (named_kept t tree).sorted (nodes_same t u k tree is good shows low) in
      λ i. record { names = is.names i; nodes = nodes i; next = is.next i }

  pub all_cleared : Cleared old new
  all_cleared = record {
    each = λ t k tree low shows.
        let u = kept.each t k tree low shows in
        let same = kept_named t u.0 k tree u.1 u.2 u.3 low in
        (subst IsTree same u.2, subst (λ v. Shows new v k) same u.3);
  }

-- ---- a mount

module _ (m : Machine) (changes next : ℕ) (r : Tx) (up : m.up ≡ true) (idle : m.pending ≡ none_open) (clears : Clears (started m changes next) r) where
  pub still_fresh : IsFresh r
  still_fresh = subst IsFresh (sym clears.same) (fresh_over (started m changes next) r.machine.stable (fresh_started m changes next up idle))

  pub sees_now : seen r ≡ r.machine.stable
  sees_now = fresh_seen r still_fresh

  pub now_cleared : NoOrphans (seen r) → Cleared m.stable r.machine.stable
  now_cleared none = all_cleared m.stable r.machine.stable clears.keeps (subst NoOrphans sees_now none)
