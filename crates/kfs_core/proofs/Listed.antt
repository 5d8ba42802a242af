-- What a device lists of a front stands in its objects.
use Rattle.std.proofs.Common.{◌≡◌, ℕ, zero, suc, ◌<◌, ◌≤◌, ◌+◌, ◌-◌, ◌^◌, ◌⊎◌, inl, inr, true, false, Bool, T, cond, refl, sym, ◌∙◌, ap, subst, arith, List, [], ◌∷◌, length, map, take, Option, Some, None, IfSome, get_or, slice_get}
use Rattle.std.specs.Option.{option_and_then}
use Rattle.std.specs.FinMap as objects
use Rattle.std.specs.FinMap.{find, is_sorted}
use Rattle.std.specs.FinMap.Entries.{is_sorted-where_key}
use Rattle.std.proofs.lemmas.List.{take_all}
use Rattle.std.proofs.lemmas.Option.{same_Some}
use Rattle.kv_base.specs.declared.pairs.Pair.{Pair}
use Rattle.kv_device.specs.Bytes.{bytes_cmp}
use Rattle.kv_device.specs.Objects.{Objects, pairs_from, is_wanted, pair_of}
use Rattle.kfs_objects.specs.Keys.{inode_front, inode_key, IsObjectKey, is_super, is_inode, is_entry, is_chunk, is_orphan}
use Rattle.kfs_objects.specs.Records.{read_inode}
use Rattle.kfs_damages.proofs.Reading.{found_stands}
use Rattle.kfs_damages.proofs.Standing.{stands_found}
use Rattle.kfs_judge.specs.Judging.{is_key}
use Rattle.kfs_judge.proofs.Gathered.{fewer}
use Rattle.kfs_core.specs.Clearing.{IsTidy, AreNodesNamed}
use Rattle.kfs_core.proofs.Orphans.{found_in_filter}

pub slice_of : {A : Type 0} (xs : List A) (i : ℕ) (x : A) → i < length xs → x ≡ get_or xs i x → slice_get xs i ≡ Some x
slice_of [] i x lt e = absurd (omega arith)
slice_of (y ∷ ys) zero x lt e = ap Some (sym e)
slice_of (y ∷ ys) (suc i) x lt e = slice_of ys i x (omega arith) e

get_map : (pairs : List Pair) (i : ℕ) (pair : Pair) → slice_get pairs i ≡ Some pair → slice_get (map pair_of pairs) i ≡ Some (pair_of pair)
get_map [] i pair e = absurd (cc)
get_map (p ∷ pairs) zero pair e = ap (λ o. Some (pair_of o)) (same_Some _ _ e)
get_map (p ∷ pairs) (suc i) pair e = get_map pairs i pair e

from_map : (pairs : List Pair) (i : ℕ) (key value : List ℕ) → slice_get (map pair_of pairs) i ≡ Some (key, value) → (pair : Pair) × (slice_get pairs i ≡ Some pair) × (pair.key ≡ key)
from_map [] i key value e = absurd (cc)
from_map (p ∷ pairs) zero key value e = (p, refl, ap (λ (x : List ℕ × List ℕ). x.0) (same_Some _ _ e))
from_map (p ∷ pairs) (suc i) key value e = from_map pairs i key value e

get_take : {A : Type 0} (n : ℕ) (xs : List A) (i : ℕ) (x : A) → slice_get (take n xs) i ≡ Some x → slice_get xs i ≡ Some x
get_take zero xs i x e = absurd (cc)
get_take (suc n) [] i x e = absurd (cc)
get_take (suc n) (y ∷ ys) zero x e = e
get_take (suc n) (y ∷ ys) (suc i) x e = get_take n ys i x e

passed_both : (b : Bool) (o : Option (List ℕ)) (v : List ℕ) → cond b o None ≡ Some v → (b ≡ true) × (o ≡ Some v)
passed_both true o v e = (refl, e)
passed_both false o v e = absurd (cc)

-- what is found under a front
pub found_front : (m : Objects) (p q v : List ℕ) → find bytes_cmp q (pairs_from m p p) ≡ Some v → (is_wanted p p q ≡ true) × (objects.get m q ≡ Some v)
unfolding pairs_from
found_front m p q v e = passed_both (is_wanted p p q) (objects.get m q) v (sym (found_in_filter m (λ k. is_wanted p p k) q) ∙ e)

pub front_found : (m : Objects) (p q v : List ℕ) → is_wanted p p q ≡ true → objects.get m q ≡ Some v → find bytes_cmp q (pairs_from m p p) ≡ Some v
unfolding pairs_from
front_found m p q v wanted e = found_in_filter m (λ k. is_wanted p p k) q ∙ ap (λ b. cond b (objects.get m q) None) wanted ∙ e

pub front_sorted : (m : Objects) (p : List ℕ) → T (is_sorted bytes_cmp (pairs_from m p p))
unfolding pairs_from
front_sorted m p = is_sorted-where_key bytes_cmp (λ k. is_wanted p p k) (objects.entries m) (objects.entries_sorted m)

pub few_front : (m : Objects) (p : List ℕ) → length (pairs_from m p p) ≤ objects.len m
unfolding pairs_from
few_front m p = let a = fewer (λ e. is_wanted p p e.0) (objects.entries m) in let b = objects.len-entries m in omega arith

-- a pair that is listed
pub listed : (m : Objects) (p : List ℕ) (n : ℕ) (pairs : List Pair) (i : ℕ) (pair : Pair) → map pair_of pairs ≡ take n (pairs_from m p p) → slice_get pairs i ≡ Some pair → (is_wanted p p pair.key ≡ true) × (objects.get m pair.key ≡ Some pair.value)
listed m p n pairs i pair e at =
    let here : slice_get (take n (pairs_from m p p)) i ≡ Some (pair.key, pair.value) = ap (λ l. slice_get l i) (sym e) ∙ get_map pairs i pair at in
    found_front m p pair.key pair.value (stands_found (pairs_from m p p) i pair.key pair.value (front_sorted m p) (get_take n (pairs_from m p p) i (pair.key, pair.value) here))

-- ---- the inodes

pub only_inodes : (key : List ℕ) → IsObjectKey key → is_wanted inode_front inode_front key ≡ true → (n : ℕ) × (key ≡ inode_key n) × (n < 2 ^ 64)
only_inodes _ is_super wanted = absurd (cc)
only_inodes _ (is_inode n lt) wanted = (n, refl, lt)
only_inodes _ (is_entry n name lt short) wanted = absurd (cc)
only_inodes _ (is_chunk n c lt low) wanted = absurd (cc)
only_inodes _ (is_orphan n lt) wanted = absurd (cc)

short_of : (o : Option (ℕ × ℕ)) → ((kind size : ℕ) → o ≡ Some (kind, size) → size ≤ 2 ^ 20) → IfSome o (λ i. i.1 ≤ 2 ^ 20)
short_of None h = tt
short_of (Some (kind, size)) h = h kind size refl

-- no inode that is listed is longer than a file may be
pub listed_short : (m : Objects) (n : ℕ) (pairs : List Pair) (i : ℕ) (pair : Pair) → IsTidy m → map pair_of pairs ≡ take n (pairs_from m inode_front inode_front) → slice_get pairs i ≡ Some pair → is_key pair.key ≡ true → IfSome (read_inode pair.value) (λ i. i.1 ≤ 2 ^ 20)
listed_short m n pairs i pair tidy e at named =
    let there = listed m inode_front n pairs i pair e at in
    let node = only_inodes pair.key (tidy.forms pair.key pair.value there.1 named) there.0 in
    short_of (read_inode pair.value) (λ kind size reads. tidy.lengths node.0 kind size node.2 (ap is_key (sym node.1) ∙ named)
    (ap (λ k. option_and_then read_inode (objects.get m k)) (sym node.1) ∙ ap (option_and_then read_inode) there.1 ∙ reads))

-- all of them were listed
pub all_named : (m : Objects) (pairs : List Pair) → objects.len m ≤ 68544 → map pair_of pairs ≡ take (2 ^ 32 - 1) (pairs_from m inode_front inode_front) → ((i : ℕ) (pair : Pair) → slice_get pairs i ≡ Some pair → is_key pair.key ≡ true) → AreNodesNamed m
all_named m pairs few e named key value there wanted =
    let es = pairs_from m inode_front inode_front in
    let less = few_front m inode_front in
    let at = found_stands es key value (front_found m inode_front key value wanted there) in
    let whole : map pair_of pairs ≡ es = e ∙ take_all (2 ^ 32 - 1) es (omega arith) in
    let pair = from_map pairs at.0 key value (ap (λ l. slice_get l at.0) whole ∙ at.2) in
    subst (λ k. is_key k ≡ true) pair.2 (named at.0 pair.0 pair.1)

side : (k i : ℕ) → k < i + 1 → (k < i) ⊎ (k ≡ i)
side k i lt = grind arith

-- one more key was named
pub one_more_named : (pairs : List Pair) (i : ℕ) (pair : Pair) → ((k : ℕ) (p : Pair) → k < i → slice_get pairs k ≡ Some p → is_key p.key ≡ true) → slice_get pairs i ≡ Some pair → is_key pair.key ≡ true
    → (k : ℕ) (p : Pair) → k < i + 1 → slice_get pairs k ≡ Some p → is_key p.key ≡ true
one_more_named pairs i pair below at named k p lt e = elim (side k i lt) [
  | inl less ↦ below k p less e
  | inr same ↦ (let is : pair ≡ p = same_Some _ _ (sym at ∙ ap (slice_get pairs) (sym same) ∙ e) in ap (λ (q : Pair). is_key q.key) (sym is) ∙ named)
]

within_length : {A : Type 0} (xs : List A) (i : ℕ) (x : A) → slice_get xs i ≡ Some x → i < length xs
within_length [] i x e = absurd (cc)
within_length (y ∷ ys) zero x e = omega arith
within_length (y ∷ ys) (suc i) x e = let h = within_length ys i x e in omega arith

-- all of a list were named
pub each_named : (pairs items : List Pair) (n : ℕ) → items ≡ pairs → length items ≤ n → ((k : ℕ) (p : Pair) → k < n → slice_get items k ≡ Some p → is_key p.key ≡ true) → (i : ℕ) (pair : Pair) → slice_get pairs i ≡ Some pair → is_key pair.key ≡ true
each_named pairs items n same le named i pair e =
    let at = ap (λ (l : List Pair). slice_get l i) same ∙ e in
    let lt = within_length items i pair at in
    named i pair (omega arith) at
