-- What stands while the nodes without a name go.
use Rattle.std.proofs.Common.{◌≡◌, ◌≢◌, ℕ, ◌<◌, ◌≤◌, ◌^◌, inl, inr, true, refl, sym, ◌∙◌, ap, subst, arith, List, ◌∷◌, Option, Some, None, IsSome}
use Rattle.std.specs.Option.{option_and_then}
use Rattle.std.specs.FinMap as objects
use Rattle.kv_device.specs.Objects.{Objects}
use Rattle.kfs_objects.specs.Keys.{inode_key, orphan_key, IsObjectKey}
use Rattle.kfs_objects.specs.Records.{read_inode}
use Rattle.kfs_judge.specs.Judging.{is_key}
use Rattle.kfs_shows.proofs.Lookups.{decide_number, key_removed, key_kept}
use Rattle.kfs_shows.proofs.KeysApart.{kinds, tails, same_inode}
use Rattle.kfs_tx.specs.Tx.{Tx, IsReady, seen, committed, deleted_in}
use Rattle.kfs_tx.proofs.Seeing.{ready_deleted, seen_deleted, seen_committed}
use Rattle.kfs_core.specs.Clearing.{Clears, IsTidy, IsRoomy, Sweeps}
use Rattle.kfs_core.specs.Flat.{inode_in}
use Rattle.kfs_core.specs.Removing.{Goes}
use Rattle.kfs_core.proofs.Dropped.{follows_deleted, goes_follows, inode_gone, others_kept}
use Rattle.kfs_core.proofs.Fewer.{was_there}
use Rattle.kfs_core.proofs.Roomy.{room_left}

-- ---- one after the other

found_none : (m mid : Objects) (key : List ℕ) → ((value : List ℕ) → objects.get m key ≡ Some value → objects.get mid key ≡ Some value) → objects.get mid key ≡ None → objects.get m key ≡ None
found_none m mid key kept none = by (objects.get m key) refl
  where
    by : (o : Option (List ℕ)) → objects.get m key ≡ o → objects.get m key ≡ None
    by None e = e
    by (Some v) e = let bad : Some v ≡ None = sym (kept v e) ∙ none in absurd (cc)

pub sweeps_both : (a b c : Objects) → Sweeps a b → Sweeps b c → Sweeps a c
sweeps_both a b c first then = record {
  kept = λ key value e. first.kept key value (then.kept key value e);
  gone = λ n lt some none. by n lt some none (objects.get b (orphan_key n)) refl;
  stays = λ n value lt e. then.stays n value lt e ∙ first.stays n value lt (then.kept (orphan_key n) value e);
}
  where
    by : (n : ℕ) → n < 2 ^ 64 → objects.get a (orphan_key n) ≢ None → objects.get c (orphan_key n) ≡ None → (o : Option (List ℕ)) → objects.get b (orphan_key n) ≡ o → objects.get c (inode_key n) ≡ None
    by n lt some none None e = found_none c b (inode_key n) (then.kept (inode_key n)) (first.gone n lt some e)
    by n lt some none (Some v) e = then.gone n lt (λ z. let bad : Some v ≡ None = sym e ∙ z in absurd (cc)) none

-- what went leaves the rest tidy
pub tidy_after : (old new : Objects) → Sweeps old new → IsTidy old → IsTidy new
tidy_after old new swept tidy = record {
  forms = λ key value e named. tidy.forms key value (swept.kept key value e) named;
  lengths = λ n kind size lt named e. length_of n kind size lt named e (objects.get new (inode_key n)) refl;
  inodes = λ n value lt named e none. tidy.inodes n value lt named (swept.kept (orphan_key n) value e) (sym (ap (option_and_then read_inode) (swept.stays n value lt e)) ∙ none);
}
  where
    length_of : (n kind size : ℕ) → n < 2 ^ 64 → is_key (inode_key n) ≡ true → inode_in new n ≡ Some (kind, size) → (o : Option (List ℕ)) → objects.get new (inode_key n) ≡ o → size ≤ 1048576
    length_of n kind size lt named e None f = absurd (let bad : Some (kind, size) ≡ None = sym e ∙ ap (option_and_then read_inode) f in cc)
    length_of n kind size lt named e (Some v) f = tidy.lengths n kind size lt named (ap (option_and_then read_inode) (swept.kept (inode_key n) v f ∙ sym f) ∙ e)

-- ---- room

-- where the objects have room, fewer of them have
pub roomy_after : (old new : Tx) → Clears old new → Sweeps (seen old) (seen new) → IsRoomy old → IsRoomy new
roomy_after old new clears swept room =
    room_left old.machine new.machine (seen old) (seen new) (ap (λ (r : Tx). r.machine.room_keys) clears.same) (ap (λ (r : Tx). r.machine.room_pages) clears.same) swept.kept room

-- ---- one node

pub orphan_apart : (n m : ℕ) → n < 2 ^ 64 → m < 2 ^ 64 → n ≢ m → orphan_key n ≢ orphan_key m
orphan_apart n m low lower other e = other (same_inode n m low lower (ap (λ (xs : List ℕ). 105 ∷ xs) (tails 111 111 _ _ e)))

module _ (old new : Tx) (node size : ℕ) (goes : Goes old node size new) (ready : IsReady old) (low : node < 2 ^ 64) (short : size ≤ 2 ^ 20) where
  abbrev after : Objects
  after = objects.remove (seen new) (orphan_key node)

  orphan_none : objects.get after (orphan_key node) ≡ None
  orphan_none = key_removed (seen new) (orphan_key node)

  -- an orphan object of another node
  other_orphan : (n : ℕ) → n < 2 ^ 64 → n ≢ node → objects.get after (orphan_key n) ≡ objects.get (seen old) (orphan_key n)
  other_orphan n lt other =
      key_kept (seen new) (orphan_key node) (orphan_key n) (orphan_apart n node lt low other)
      ∙ others_kept old new node size goes ready low short (orphan_key n) (kinds 111 105 _ _ (λ e. omega arith)) (λ c less. kinds 111 100 _ _ (λ e. omega arith))

  other_inode : (n : ℕ) → n < 2 ^ 64 → n ≢ node → objects.get after (inode_key n) ≡ objects.get (seen old) (inode_key n)
  other_inode n lt other =
      key_kept (seen new) (orphan_key node) (inode_key n) (kinds 105 111 _ _ (λ e. omega arith))
      ∙ others_kept old new node size goes ready low short (inode_key n) (λ e. other (same_inode n node lt low e)) (λ c less. kinds 105 100 _ _ (λ e. omega arith))

  node_gone : objects.get after (inode_key node) ≡ None
  node_gone = key_kept (seen new) (orphan_key node) (inode_key node) (kinds 105 111 _ _ (λ e. omega arith)) ∙ inode_gone old new node size goes ready low short

  left : (key value : List ℕ) → objects.get after key ≡ Some value → objects.get (seen old) key ≡ Some value
  left key value e = was_there old new node size goes ready low short key value (sym (key_kept (seen new) (orphan_key node) key apart) ∙ e)
    where
      apart : key ≢ orphan_key node
      apart same = let bad : Some value ≡ None = sym e ∙ ap (objects.get after) same ∙ orphan_none in absurd (cc)

  one_sweeps : Sweeps (seen old) after
  one_sweeps = record {
    kept = left;
    gone = λ n lt some none. elim (decide_number n node) [
      | inl same ↦ ap (λ k. objects.get after (inode_key k)) same ∙ node_gone
      | inr other ↦ absurd (some (sym (other_orphan n lt other) ∙ none))
    ];
    stays = λ n value lt e. elim (decide_number n node) [
      | inl same ↦ (let bad : Some value ≡ None = sym e ∙ ap (λ k. objects.get after (orphan_key k)) same ∙ orphan_none in absurd (cc))
      | inr other ↦ other_inode n lt other
    ];
  }

  -- a node goes with its orphan object
  pub deleted_sweeps : (key : List ℕ) → key ≡ orphan_key node → Sweeps (seen old) (seen (deleted_in new key))
  deleted_sweeps key is =
      let held = (goes_follows old new node size goes).ready ready in
      let now : seen (deleted_in new key) ≡ after = seen_deleted new key held ∙ ap (objects.remove (seen new)) is in
      subst (Sweeps (seen old)) (sym now) one_sweeps

  -- and has gone after the commit
  pub one_swept : (key : List ℕ) → key ≡ orphan_key node → (r : Tx) → r ≡ committed (deleted_in new key) → Sweeps (seen old) (seen r)
  one_swept key is r done =
      let held = (goes_follows old new node size goes).ready ready in
      let now : seen r ≡ seen (deleted_in new key) = ap seen done ∙ seen_committed (deleted_in new key) (ready_deleted new key held) in
      subst (Sweeps (seen old)) (sym now) (deleted_sweeps key is)

  -- which has room
  pub deleted_roomy : (key : List ℕ) → key ≡ orphan_key node → IsRoomy old → IsRoomy (deleted_in new key)
  deleted_roomy key is room =
      let follows = follows_deleted old new key _ (goes_follows old new node size goes) in
      let same = follows.same in
      room_left old.machine (deleted_in new key).machine (seen old) (seen (deleted_in new key)) (ap (λ (r : Tx). r.machine.room_keys) same) (ap (λ (r : Tx). r.machine.room_pages) same) (deleted_sweeps key is).kept room

-- ---- the key of an orphan object

some_of : (o : Option (List ℕ)) → IsSome o → (v : List ℕ) × (o ≡ Some v)
some_of None h = absurd (cc)
some_of (Some v) h = (v, refl)

-- a key that is there has a form
pub formed : (m : Objects) (key : List ℕ) → IsTidy m → IsSome (objects.get m key) → is_key key ≡ true → IsObjectKey key
formed m key tidy there named = let v = some_of (objects.get m key) there in tidy.forms key v.0 v.1 named

-- the node of an orphan object that is there has an inode
pub inode_stands : (m : Objects) (key : List ℕ) (n : ℕ) → IsTidy m → n < 2 ^ 64 → key ≡ orphan_key n → is_key key ≡ true → IsSome (objects.get m key) → inode_in m n ≢ None
inode_stands m key n tidy lt is named there =
    let v = some_of (objects.get m key) there in
    tidy.inodes n v.0 lt (ap is_key (sym is) ∙ named) (ap (objects.get m) (sym is) ∙ v.1)

-- which isn't too long
pub short_stands : (m : Objects) (key : List ℕ) (n kind size : ℕ) → IsTidy m → n < 2 ^ 64 → key ≡ orphan_key n → is_key key ≡ true → inode_in m n ≡ Some (kind, size) → size ≤ 2 ^ 20
short_stands m key n kind size tidy lt is named e = tidy.lengths n kind size lt (same_named n ∙ ap is_key (sym is) ∙ named) e
  where
    same_named : (n : ℕ) → is_key (inode_key n) ≡ is_key (orphan_key n)
    same_named n = refl
