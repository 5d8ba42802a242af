-- A mount goes on from what the device holds.
use Rattle.std.specs.List.{list_any}
use Rattle.kfs_laws.proofs.Lookups.{same_numbers}
use Rattle.kfs_shows.proofs.Sweeping.{nameless_test}
use Rattle.kfs_core.proofs.Cleared.{kept_all, kept_both}
use Rattle.std.proofs.Common.{◌≡◌, ℕ, ◌<◌, ◌≤◌, ◌-◌, ◌^◌, ◌&&◌, true, false, cond, Bool, refl, sym, ◌∙◌, ap, subst, arith, lit<, [], ◌∷◌, Some, None, nat_le, unwrap_or, option_and_then, slice_get, inl, inr, ◌==◌}
use Rattle.std.specs.Ordering.{nat_cmp}
use Rattle.std.specs.FinMap as objects
use Rattle.std.specs.FinMap.{nat_cmp-IsAntisymmetric}
use Rattle.std.specs.FinMap.Entries.{find-where_key, is_sorted-where_key}
use Rattle.std.proofs.lemmas.Bool.Decides.{nat_tests}
use Rattle.std.proofs.lemmas.Option.{same_Some}
use Rattle.kv_device.specs.Objects.{Objects, IsHeld}
use Rattle.kv_device.specs.Machine.{Machine, none_open}
use Rattle.kfs_objects.specs.Keys.{super_key}
use Rattle.kfs_objects.specs.Records.{read_super}
use Rattle.kfs_objects.proofs.RecordLaws.{read_super_value}
use Rattle.kfs_model.specs.declared.Node.{Node}
use Rattle.kfs_model.specs.Tree.{Tree, Limits, charge, chunks, is_named, node_of, root_alone, named, IsTree, IsKept}
use Rattle.kfs_model.specs.Life.{Past, tree_at, ended_at, up_at}
use Rattle.kfs_shows.specs.Shows.{Shows}
use Rattle.kfs_shows.proofs.Counting.{few_objects}
use Rattle.kfs_tx.specs.Tx.{Tx}
use Rattle.kfs_tx.proofs.Opening.{ready, sees_stable, none_changed}
use Rattle.kfs_core.specs.Clearing.{Cleared, begun_over, Keeps}
use Rattle.kfs_core.specs.Core.{KfsState, tx_in}
use Rattle.kfs_core.specs.Counted.{charge_in, chunks_in}
use Rattle.kfs_core.specs.Stands.{Stands}
use Rattle.kfs_core.specs.Starting.{Started}
use Rattle.kfs_core.proofs.Charged.{charge_same, chunks_same}
use Rattle.kfs_posix.specs.Opens.{Opens, no_files}
use Rattle.kfs_posix.specs.Volume.{volume_of, Volume}
use Rattle.kfs_posix.specs.Showing.{ShowsLive, IsSaved, IsWhole, IsShowing}
use Rattle.kfs_posix.specs.Mounting.{limits_in, IsStored, Mounts}
use Rattle.kfs_posix.proofs.Held.{nothing_holds}
use Rattle.kfs_posix.proofs.Rooms.{both_true, named_fits}
use Rattle.kfs_judge.specs.Judging.{heard, room_in, AreNameable}
use Rattle.kfs_judge.proofs.Hearing.{all_heard}
use Rattle.kfs_judge.proofs.Spelled.{keyed}
use Rattle.kfs_damages.specs.Damages.{IsClear}
use Rattle.kfs_damages.proofs.Clear.{clear_stands}
use Rattle.std.specs.Option.{unwrap_or}

there : (past : Past) (k : ℕ) → tree_at (ended_at past k) k ≡ named (tree_at past k)
there past k = let zero' : k - k ≡ 0 = omega arith in ap (λ i. unwrap_or (slice_get (ended_at past k).trees i) root_alone) zero'

-- a tree without some of its nameless nodes loses the same nodes
pub named_kept_same : (t kept : Tree) → IsTree t → IsKept t kept → named kept ≡ named t
named_kept_same t kept tree is = λ i. record { names = is.names i; nodes = nodes i; next = is.next i }
  where
    test : (n : ℕ) → is_named kept n ≡ is_named t n
    test n = ap (λ names. list_any (λ e. e.1 == n) names) is.names

    look : (u : Tree) (n : ℕ) → node_of (named u) n ≡ cond (is_named u n) (node_of u n) None
    look u n = find-where_key nat_cmp (is_named u) n (λ x e. ap (is_named u) (sym (nat_cmp-IsAntisymmetric n x e))) u.nodes

    by : (n : ℕ) → node_of (named kept) n ≡ node_of (named t) n
    by n = look kept n ∙ ap (λ b. cond b (node_of kept n) None) (test n) ∙ elim (is.nodes n) [
      | inl same ↦ ap (λ o. cond (is_named t n) o None) same
      | inr gone ↦ ap (λ b. cond b (node_of kept n) None) (nameless_test t tree n gone.0) ∙ sym (ap (λ b. cond b (node_of t n) None) (nameless_test t tree n gone.0))
    ] ∙ sym (look t n)

    nodes : (named kept).nodes ≡ (named t).nodes
    nodes = same_numbers (named kept).nodes (named t).nodes (is_sorted-where_key nat_cmp (is_named kept) kept.nodes is.sorted) (is_sorted-where_key nat_cmp (is_named t) t.nodes tree.sorted_nodes) by

-- what a failed mount leaves is saved still
pub saved_still : (k : Limits) (m now : Objects) (t : Tree) (n : ℕ) → Keeps m now → IsSaved k m t n → IsSaved k now t n
saved_still k m now t n keeps saved =
    let next_kept = saved.is_kept.next in
    let h = saved.next in
    let low : saved.kept.next ≤ 2 ^ 63 = omega arith in
    let u = keeps.each saved.kept n saved.kept_tree low saved.shows in
    record { tree = saved.tree; kept = u.0; is_kept = kept_both t saved.kept u.0 saved.is_kept u.1; kept_tree = u.2; shows = u.3; next = saved.next; count = saved.count; room = saved.room }

-- and each that is left has a name
named_all : (t : Tree) (n : ℕ) (node : Node) → node_of (named t) n ≡ Some node → is_named t n ≡ true
named_all t n node e = by (is_named t n) (sym (find-where_key nat_cmp (is_named t) n (λ x e. ap (is_named t) (sym (nat_cmp-IsAntisymmetric n x e))) t.nodes) ∙ e)
  where
    by : (b : Bool) → cond b (node_of t n) None ≡ Some node → b ≡ true
    by true e = refl
    by false e = absurd (cc)

module _ (old : Machine) (up : old.up ≡ true) (idle : old.pending ≡ none_open) where
  shows_live : (now : Objects) → Cleared old.stable now → (changes next keys pages charged chunked : ℕ) → keys ≡ old.room_keys → pages ≡ old.room_pages → keys < 2 ^ 32
      → option_and_then read_super (objects.get old.stable super_key) ≡ Some (changes, next) → charged ≡ charge_in now → chunked ≡ chunks_in now
      → (past : Past) (k : ℕ) → IsStored old (tree_at past k) k → (changes ≡ k) × ShowsLive (record { tx = begun_over old now changes next; keys = keys; pages = pages; charge = charged; chunks = chunked; files = no_files; down = None }) (up_at past k)
  shows_live now cleared changes next keys pages charged chunked keys_is pages_is small head counted pieces past k before =
      let t = tree_at past k in
      let u = named t in
      let low : t.next ≤ 2 ^ 63 = let h = before.next in omega arith in
      let kept = before.kept in
      let next_kept = before.is_kept.next in
      let few_kept : kept.next < 2 ^ 63 = let h = before.next in omega arith in
      let same = named_kept_same t kept before.tree before.is_kept in
      let got = cleared.each kept k before.kept_tree (omega arith) before.shows in
      let shown : IsTree u × Shows now u k = subst (λ (v : Tree). IsTree v × Shows now v k) same got in
      let e : Some (changes, next) ≡ Some (k, t.next) = sym head ∙ ap (option_and_then read_super) before.shows.head ∙ read_super_value k kept.next before.count few_kept ∙ ap (λ n. Some (k, n)) next_kept in
      let both : (changes, next) ≡ (k, t.next) = same_Some (changes, next) (k, t.next) e in
      let changes_is : changes ≡ k = ap (λ (p : ℕ × ℕ). p.0) both in
      let next_is : next ≡ t.next = ap (λ (p : ℕ × ℕ). p.1) both in
      let few = few_objects now u shown.0 shown.1.tree low in
      let room = before.room in
      let h = both_true (nat_le (charge u) old.room_keys) (nat_le (chunks u) old.room_pages) room in
      let le : charge u ≤ old.room_keys = grind (arith, nat_tests, h.0) in
      let held : objects.len now < 2 ^ 32 = omega arith in
      let over : Machine = record old { stable = now } in
      let stands : Stands now u = record { tree = shown.0; shows = shown.1.tree; low = low } in
      let stored : IsWhole (limits_in old) now u k = record { tree = shown.0; shows = shown.1; next = before.next; count = before.count; room = named_fits (limits_in old) u room } in (
        changes_is,
        record {
          up = refl;
          tree = shown.0;
          low = before.next;
          few_changes = before.count;
          sees = subst (λ m. Shows m u k) (sym (sees_stable over up idle)) shown.1;
          saved = subst (λ v. IsWhole (record { keys = keys; pages = pages }) now v k) (sym (there past k)) (subst (λ l. IsWhole l now u k) (λ i. record { keys = sym keys_is i; pages = sym pages_is i }) stored);
          newest = there past k;
          behind = let e : k ≤ k = omega arith in e;
          desk = refl;
          holds = nothing_holds u (named_all t);
          count = changes_is;
          next = next_is;
          changes = refl;
          weight = refl;
          light = record { ready = ready over up idle changes next; light = lit< tt; few = let z = none_changed over up idle changes next in omega arith };
          keys = keys_is;
          pages = pages_is;
          charged = counted ∙ charge_same now u stands held;
          chunked = pieces ∙ chunks_same now u stands held;
          room = (λ i. nat_le (charge u) (keys_is i) && nat_le (chunks u) (pages_is i)) ∙ room;
        },
      )

  -- a mount that began so
  pub mounted : (kfs : KfsState) (o : Opens) → o ≡ no_files → old.room_keys ≤ 68544 → Started old kfs → Mounts old (volume_of kfs o None)
  mounted kfs o none few h =
      let r = tx_in kfs in
      let now = r.machine.stable in
      subst (λ x. Mounts old (volume_of kfs x None)) (sym none)
      (subst (λ (x : Tx). Mounts old (record { tx = x; keys = kfs.keys; pages = kfs.pages; charge = kfs.charge; chunks = kfs.chunks; files = no_files; down = None })) (sym h.tx)
      (record { each = shows_live now h.cleared r.changes r.next kfs.keys kfs.pages kfs.charge kfs.chunks h.keys h.pages (let e = h.keys in omega arith) h.head h.charge h.chunks }))

-- ---- each session that is mounted shows some live state

-- nothing is removed of what is shown exactly
pub whole_saved : (k : Limits) (m : Objects) (t : Tree) (n : ℕ) → IsWhole k m t n → IsSaved k m t n
whole_saved k m t n whole = record { tree = whole.tree; kept = t; is_kept = kept_all t whole.tree; kept_tree = whole.tree; shows = whole.shows; next = whole.next; count = whole.count; room = whole.room }

-- a call can name each object that a device can hold
pub held_nameable : (m : Objects) → IsHeld m → AreNameable m
held_nameable m held key value there = keyed key key (held.keys key value there) refl (held.key_sizes key value there)

-- the tree alone
abbrev lone : Tree → ℕ → Past
lone t k = record { count = k; trees = t ∷ [] }

lone_there : (t : Tree) (k : ℕ) → tree_at (lone t k) k ≡ t
lone_there t k = let e : k - k ≡ 0 = omega arith in ap (λ i. unwrap_or (slice_get (t ∷ []) i) root_alone) e

-- what isn't damaged stands for a tree, which is mounted
pub mount_showing : (old : Machine) (new : Volume) → IsHeld old.stable → IsClear (room_in old) (heard old.stable) → Mounts old new → IsShowing new
mount_showing old new held clear mounts none =
    let here = subst (IsClear (room_in old)) (all_heard old.stable (held_nameable old.stable held)) clear in
    let it = clear_stands (room_in old) old.stable held here in
    let t = it.0 in
    let k = it.1 in
    let few = it.2.few in
    let low = it.2.low in
    let whole : IsWhole (limits_in old) old.stable t k = record { tree = it.2.tree; shows = it.2.shows; next = omega arith; count = omega arith; room = it.2.room } in
    let stored : IsStored old (tree_at (lone t k) k) k = subst (λ u. IsSaved (limits_in old) old.stable u k) (sym (lone_there t k)) (whole_saved (limits_in old) old.stable t k whole) in
    ∣ (up_at (lone t k) k, (mounts.each (lone t k) k stored).1) ∣₁
