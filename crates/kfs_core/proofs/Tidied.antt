-- Objects in which nothing is damaged are tidy.
use Rattle.std.proofs.Common.{◌≡◌, ◌≢◌, ℕ, ◌<◌, ◌≤◌, ◌^◌, ◌⊎◌, inl, inr, true, cond, refl, sym, ◌∙◌, ap, subst, arith, List, length, Option, Some, None, IsSome, slice_get}
use Rattle.std.specs.Option.{option_and_then}
use Rattle.std.specs.FinMap as objects
use Rattle.kv_device.specs.Objects.{Objects}
use Rattle.kfs_objects.specs.Keys.{inode_key, orphan_key, IsObjectKey}
use Rattle.kfs_objects.specs.Records.{read_inode}
use Rattle.kfs_model.specs.Tree.{Limits, greatest_length}
use Rattle.kfs_damages.specs.Damages as damages
use Rattle.kfs_damages.specs.Damages.{IsClear}
use Rattle.kfs_damages.proofs.Reading.{decide_key, found_stands}
use Rattle.kfs_judge.specs.Judging.{is_key, heard}
use Rattle.kfs_judge.proofs.Fronts.{heard_entries}
use Rattle.kfs_judge.proofs.Gathered.{fewer}
use Rattle.kfs_judge.proofs.Hearing.{get_heard}
use Rattle.kfs_core.specs.Clearing.{IsTidy}
use Rattle.kfs_core.specs.Flat.{inode_in}

order : (n k : ℕ) → (n < k) ⊎ (k ≤ n)
order n k = grind arith

module _ (k : Limits) (m : Objects) (few : objects.len m < 2 ^ 64) (clear : IsClear k (heard m)) where
  is_heard : (key : List ℕ) → is_key key ≡ true → objects.get (heard m) key ≡ objects.get m key
  is_heard key named = get_heard m key ∙ ap (λ b. cond b (objects.get m key) None) named

  few_heard : length (objects.entries (heard m)) < 2 ^ 64
  few_heard =
      let a = ap (λ (l : List (List ℕ × List ℕ)). length l) (heard_entries m) in
      let b = fewer (λ e. is_key e.0) (objects.entries m) in
      let c = objects.len-entries m in
      omega arith

  has_form : (key value : List ℕ) → objects.get m key ≡ Some value → is_key key ≡ true → IsObjectKey key
  has_form key value e named = elim (decide_key key) [
    | inl is ↦ is
    | inr isnt ↦ absurd (clear.objects_are at.0 low (record { key = key; value = value; here = at.2; formless = isnt }))
  ]
    where
      at : (i : ℕ) × (i < length (objects.entries (heard m))) × (slice_get (objects.entries (heard m)) i ≡ Some (key, value))
      at = found_stands (objects.entries (heard m)) key value (sym (objects.get-entries (heard m) key) ∙ is_heard key named ∙ e)

      low : at.0 < 2 ^ 64
      low = let a = at.1 in let b = few_heard in omega arith

  same_inode_of : (n : ℕ) → is_key (inode_key n) ≡ true → damages.inode_of (heard m) n ≡ inode_in m n
  same_inode_of n named = ap (option_and_then read_inode) (is_heard (inode_key n) named)

  short_inode : (n kind size : ℕ) → n < 2 ^ 64 → is_key (inode_key n) ≡ true → inode_in m n ≡ Some (kind, size) → size ≤ greatest_length
  short_inode n kind size lt named e = elim (order greatest_length size) [
    | inl more ↦ absurd (clear.inodes n lt (damages.long kind size (same_inode_of n named ∙ e) more))
    | inr less ↦ less
  ]

  has_inode : (n : ℕ) (value : List ℕ) → n < 2 ^ 64 → is_key (orphan_key n) ≡ true → objects.get m (orphan_key n) ≡ Some value → inode_in m n ≢ None
  has_inode n value lt named e none = by (objects.get m (inode_key n)) refl
    where
      named' : is_key (inode_key n) ≡ true
      named' = named

      by : (o : Option (List ℕ)) → objects.get m (inode_key n) ≡ o → ⊥
      by None f = clear.orphans n lt (record { value = value; there = is_heard (orphan_key n) named ∙ e; wrong = inr (inl (is_heard (inode_key n) named' ∙ f)) })
      by (Some v) f = clear.inodes n lt (damages.unread (subst IsSome (sym (is_heard (inode_key n) named' ∙ f)) refl) (same_inode_of n named' ∙ none))

  pub clear_tidy : IsTidy m
  clear_tidy = record { forms = has_form; lengths = short_inode; inodes = has_inode }
