-- What is left where the nameless nodes went has the room that was weight.
use Rattle.std.proofs.Common.{◌≡◌, ℕ, ◌<◌, ◌≤◌, ◌+◌, ◌-◌, ◌^◌, true, false, Bool, cond, refl, sym, ◌∙◌, ap, subst, arith, List, [], ◌∷◌, length, filter, take, sum_by, Option, Some, None, is_some}
use Rattle.std.specs.Cmp.Lexicographic.{nat_list_cmp_total}
use Rattle.std.specs.FinMap as objects
use Rattle.std.specs.FinMap.{find}
use Rattle.std.specs.FinMap.Entries.{same_entries, is_sorted-where_key, find-where_key}
use Rattle.std.proofs.lemmas.List.{take_all}
use Rattle.std.proofs.lemmas.List.Sums.{sum_by-cons}
use Rattle.kv_device.specs.Bytes.{bytes_cmp}
use Rattle.kv_device.specs.Objects.{Objects, pairs_from, is_wanted}
use Rattle.kfs_objects.specs.Keys.{inode_front, inode_key, orphan_key}
use Rattle.kfs_objects.specs.Records.{read_inode}
use Rattle.kfs_damages.specs.Damages.{keys_of, chunks_of, is_orphan, sum_named, named_charge, named_chunks}
use Rattle.kfs_judge.specs.Judging.{is_key, heard}
use Rattle.kfs_judge.proofs.Hearing.{get_heard}
use Rattle.kfs_shows.proofs.Lookups.{same_bytes}
use Rattle.kfs_core.specs.Clearing.{IsTidy, Sweeps, AreNodesNamed, NoOrphans}
use Rattle.kfs_core.specs.Counted.{charge_in, chunks_in}
use Rattle.kfs_core.proofs.Listed.{found_front, front_found, front_sorted, few_front, only_inodes}

abbrev Row : Type 0
Row = List ℕ × List ℕ

-- a sum over some of them
some_less : (p : Row → Bool) (f g : Row → ℕ) → ((e : Row) → p e ≡ true → f e ≤ g e) → (es : List Row) → sum_by f (filter p es) ≤ sum_by g es
some_less p f g less [] = omega arith
some_less p f g less (e ∷ es) = by (some_less p f g less es) (p e) refl
  where
    all : sum_by g (e ∷ es) ≡ g e + sum_by g es
    all = sum_by-cons g e es

    by : sum_by f (filter p es) ≤ sum_by g es → (b : Bool) → p e ≡ b → sum_by f (cond b (e ∷ filter p es) (filter p es)) ≤ sum_by g (e ∷ es)
    by rest true is = let here = less e is in let first : sum_by f (e ∷ filter p es) ≡ f e + sum_by f (filter p es) = sum_by-cons f e (filter p es) in let a = all in omega arith
    by rest false is = let a = all in omega arith

one_more : (a b : ℕ) → a ≤ b → 1 + a ≤ 1 + b
one_more a b h = omega arith

short_list : (a n k : ℕ) → a ≤ n → n ≤ 68544 → k ≡ 2 ^ 32 - 1 → a ≤ k
short_list a n k h few e = omega arith

module _ (old new : Objects) (tidy : IsTidy old) (swept : Sweeps old new) (none : NoOrphans new) (named : AreNodesNamed new) where
  abbrev before : List Row
  before = pairs_from (heard old) inode_front inode_front

  abbrev after : List Row
  after = pairs_from new inode_front inode_front

  abbrev is_left : List ℕ → Bool
  is_left q = is_some (find bytes_cmp q after)

  was_before : (q v : List ℕ) → find bytes_cmp q after ≡ Some v → find bytes_cmp q before ≡ Some v
  was_before q v e =
      let there = found_front new inode_front q v e in
      let nameable = named q v there.1 there.0 in
      front_found (heard old) inode_front q v there.0 (get_heard old q ∙ ap (λ b. cond b (objects.get old q) None) nameable ∙ swept.kept q v there.1)

  same_found : (q : List ℕ) → find bytes_cmp q after ≡ find bytes_cmp q (filter (λ e. is_left e.0) before)
  same_found q = by (find bytes_cmp q after) refl ∙ sym (find-where_key bytes_cmp is_left q (λ x e. ap is_left (sym (same_bytes q x e))) before)
    where
      by : (o : Option (List ℕ)) → find bytes_cmp q after ≡ o → find bytes_cmp q after ≡ cond (is_left q) (find bytes_cmp q before) None
      by None e = e ∙ sym (ap (λ o. cond (is_some o) (find bytes_cmp q before) None) e)
      by (Some v) e = e ∙ sym (ap (λ o. cond (is_some o) (find bytes_cmp q before) None) e ∙ was_before q v e)

  left_of : after ≡ filter (λ e. is_left e.0) before
  left_of = same_entries bytes_cmp nat_list_cmp_total same_bytes after (filter (λ e. is_left e.0) before) (front_sorted new inode_front) (is_sorted-where_key bytes_cmp is_left before (front_sorted (heard old) inode_front)) same_found

  -- a node whose inode is left has no orphan object
  no_orphan : (q v : List ℕ) → find bytes_cmp q after ≡ Some v → is_orphan (heard old) q ≡ false
  no_orphan q v e = ap (is_orphan (heard old)) node.1 ∙ ap is_some (get_heard old (orphan_key node.0) ∙ ap (λ o. cond (is_key (orphan_key node.0)) o None) (by (objects.get old (orphan_key node.0)) refl) ∙ nothing (is_key (orphan_key node.0)))
    where
      there : (is_wanted inode_front inode_front q ≡ true) × (objects.get new q ≡ Some v)
      there = found_front new inode_front q v e

      node : (n : ℕ) × (q ≡ inode_key n) × (n < 2 ^ 64)
      node = only_inodes q (tidy.forms q v (swept.kept q v there.1) (named q v there.1 there.0)) there.0

      nothing : (b : Bool) → cond {A = Option (List ℕ)} b None None ≡ None
      nothing true = refl
      nothing false = refl

      by : (o : Option (List ℕ)) → objects.get old (orphan_key node.0) ≡ o → objects.get old (orphan_key node.0) ≡ None
      by None f = f
      by (Some u) f =
          let gone = swept.gone node.0 node.2 (λ z. let bad : Some u ≡ None = sym f ∙ z in absurd (cc)) (none node.0) in
          absurd (let bad : Some v ≡ None = sym there.1 ∙ ap (objects.get new) node.1 ∙ gone in cc)

  module _ (weight : Option (ℕ × ℕ) → ℕ) where
    each : (e : Row) → is_left e.0 ≡ true → weight (read_inode e.1) ≤ cond (is_orphan (heard old) e.0) 0 (weight (read_inode e.1))
    each e is = by (find bytes_cmp e.0 after) refl
      where
        by : (o : Option (List ℕ)) → find bytes_cmp e.0 after ≡ o → weight (read_inode e.1) ≤ cond (is_orphan (heard old) e.0) 0 (weight (read_inode e.1))
        by None f = absurd (let bad : false ≡ true = sym (ap is_some f) ∙ is in cc)
        by (Some v) f =
            let now : cond (is_orphan (heard old) e.0) 0 (weight (read_inode e.1)) ≡ weight (read_inode e.1) = ap (λ b. cond b 0 (weight (read_inode e.1))) (no_orphan e.0 v f) in
            omega arith

    within : objects.len new ≤ 68544 → sum_by (λ e. weight (read_inode e.1)) (take (2 ^ 32 - 1) after) ≤ sum_named weight (heard old)
    within few =
        let whole = take_all (2 ^ 32 - 1) after (short_list (length after) (objects.len new) (2 ^ 32 - 1) (few_front new inode_front) few refl) ∙ left_of in
        subst (λ l. sum_by (λ (e : Row). weight (read_inode e.1)) l ≤ sum_named weight (heard old)) (sym whole)
        (some_less (λ e. is_left e.0) (λ e. weight (read_inode e.1)) (λ e. cond (is_orphan (heard old) e.0) 0 (weight (read_inode e.1))) each before)

  pub charge_within : objects.len new ≤ 68544 → charge_in new ≤ named_charge (heard old)
  unfolding charge_in named_charge
  charge_within few = one_more _ _ (within keys_of few)

  pub chunks_within : objects.len new ≤ 68544 → chunks_in new ≤ named_chunks (heard old)
  unfolding chunks_in named_chunks
  chunks_within few = within chunks_of few
