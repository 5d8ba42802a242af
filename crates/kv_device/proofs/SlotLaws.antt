-- The open transactions of a device in memory, as the machine sees them.
use Rattle.std.proofs.Common.{◌≡◌, ℕ, ◌+◌, ◌≤◌, ◌<◌, ◌&&◌, ◌||◌, Bool, not, refl, sym, ◌∙◌, ap, List, [], ◌∷◌, ◌++◌, length, map, take, get_or, Option, Some, None, unwrap_or, option_map, option_and_then, is_none, is_some, position, sum_by, slice_get, slice_set, arith, cond, true, false, nat_lt, nat_le}
use Rattle.std.proofs.lemmas.Option.{slice_get_past, slice_get-map, slice_get_read}
use Rattle.std.proofs.lemmas.List.{map-set, map-append, take_more, length-map}
use Rattle.std.proofs.lemmas.List.Sums.{sum_by-append, count_by-le-length}
use Rattle.std.specs.List.{prefix_len}
use Rattle.std.specs.FinMap as objects
use Rattle.kv_device.specs.declared.fault.DeviceFault.TheVariants.{Off, NoTx, TxFull}
use Rattle.kv_device.specs.declared.changes.Open.{Open}
use Rattle.kv_device.specs.Machine.{Machine, change_count, changes_of, with_change, begun}
use Rattle.kv_device.specs.Objects.{Objects, Changes, page_count}
use Rattle.kv_device.specs.Calls.{is_tx_full, delete_refusal}
use Rattle.kv_device.specs.MapDevice.{shown}

-- past the last none is open
pub changes-past : (pending : List (Option Open)) (tx : ℕ) → length pending ≤ tx → option_and_then (λ t. t) (slice_get (shown pending) tx) ≡ None
changes-past pending tx h = ap (option_and_then (λ t. t)) (slice_get-map (option_map (λ (t : Open). t.changes)) pending tx ∙ ap (option_map (option_map (λ (t : Open). t.changes))) (slice_get_past pending tx h))

-- what is read at a place
pub changes-read : (pending : List (Option Open)) (tx : ℕ) (x : Option Open) (t : Open) → tx < length pending → x ≡ get_or pending tx x → x ≡ Some t → option_and_then (λ t. t) (slice_get (shown pending) tx) ≡ Some t.changes
changes-read pending tx x t low is e =
    ap (option_and_then (λ t. t)) (slice_get-map (option_map (λ (t : Open). t.changes)) pending tx
    ∙ ap (option_map (option_map (λ (t : Open). t.changes))) (slice_get_read pending (length pending) tx x refl low is ∙ ap Some e))

prefix_len-option_map : {A B : Type 0} (f : A → B) (xs : List (Option A)) → prefix_len (λ x. not (is_none x)) (map (option_map f) xs) ≡ prefix_len (λ x. not (is_none x)) xs
prefix_len-option_map f [] = refl
prefix_len-option_map f (None ∷ xs) = refl
prefix_len-option_map f (Some x ∷ xs) = ap (λ n. 1 + n) (prefix_len-option_map f xs)

position-option_map : {A B : Type 0} (f : A → B) (xs : List (Option A)) → position is_none (map (option_map f) xs) ≡ position is_none xs
position-option_map {A} {B} f xs =
    let same : length (map (option_map f) xs) ≡ length xs = simp length-map in
    λ i. cond (nat_lt (prefix_len-option_map f xs i) (same i)) (Some (prefix_len-option_map f xs i)) None

pub position-shown : (pending : List (Option Open)) → position is_none (shown pending) ≡ position is_none pending
position-shown pending = position-option_map (λ (t : Open). t.changes) pending

pub shown-set : (pending : List (Option Open)) (tx : ℕ) (t : Open) → shown (slice_set pending tx (Some t)) ≡ slice_set (shown pending) tx (Some t.changes)
shown-set pending tx t = map-set (option_map (λ (t : Open). t.changes)) pending tx (Some t)

-- one more transaction
pub change_count-more : (pending : List (Option Open)) (i : ℕ) (x : Option Open) → i < length pending → x ≡ get_or pending i x
    → change_count (shown (take (i + 1) pending)) ≡ change_count (shown (take i pending)) + objects.len (unwrap_or (option_map (λ (t : Open). t.changes) x) objects.empty)
unfolding change_count
change_count-more pending i x low is =
    let g : Option Open → Option Changes = option_map (λ (t : Open). t.changes) in
    let f : Option Changes → ℕ = λ t. objects.len (unwrap_or t objects.empty) in
    ap (λ xs. sum_by f (map g xs)) (take_more pending i x low ∙ ap (λ y. take i pending ++ y ∷ []) (sym is))
    ∙ ap (sum_by f) (map-append g (take i pending) (x ∷ [])) ∙ sum_by-append f (map g (take i pending)) (g x ∷ []) ∙ grind arith

pub is_tx_full-is : (m : Machine) (tx : ℕ) (key : List ℕ) (changes : Changes) (total : ℕ) (b : Bool) → changes_of m tx ≡ Some changes → total ≡ change_count m.pending
    → b ≡ (not (objects.contains_key changes key) && (nat_le 640 (objects.len changes) || nat_le 1280 total)) → is_tx_full m tx key ≡ b
unfolding is_tx_full
is_tx_full-is m tx key changes total b now counted e =
    (λ i. not (objects.contains_key (unwrap_or (now i) objects.empty) key) && (nat_le 640 (objects.len (unwrap_or (now i) objects.empty)) || nat_le 1280 (sym counted i))) ∙ sym e

pub delete_allowed : (m : Machine) (tx : ℕ) (key : List ℕ) (changes : Changes) → m.up ≡ true → changes_of m tx ≡ Some changes → is_tx_full m tx key ≡ false → delete_refusal m tx key ≡ None
delete_allowed m tx key changes up now full = λ i. cond (not (up i)) (Some Off) (cond (not (is_some (now i))) (Some NoTx) (cond (full i) (Some TxFull) None))

-- the machine after a transaction's new changes are written
pub with_change-is : (m : Machine) (pending : List (Option Open)) (tx : ℕ) (key : List ℕ) (change : Option (List ℕ)) (changes : Changes) (t : Open)
    → m.pending ≡ shown pending → changes_of m tx ≡ Some changes → t.changes ≡ objects.insert changes key change
    → ◌≡◌ {A = Machine} (record m { pending = shown (slice_set pending tx (Some t)) }) (with_change m tx key change)
with_change-is m pending tx key change changes t shows now e =
    let same : shown (slice_set pending tx (Some t)) ≡ slice_set m.pending tx (Some (objects.insert (unwrap_or (changes_of m tx) objects.empty) key change)) =
    shown-set pending tx t ∙ (λ i. slice_set (sym shows i) tx (Some ((e ∙ (λ j. objects.insert (unwrap_or (sym now j) objects.empty) key change)) i))) in
    λ i. record m { pending = same i }

pub begun-is : (m : Machine) (pending : List (Option Open)) (tx : ℕ) (t : Open) → m.pending ≡ shown pending → t.changes ≡ objects.empty
    → ◌≡◌ {A = Machine} (record m { pending = shown (slice_set pending tx (Some t)) }) (begun m tx)
begun-is m pending tx t shows e =
    let same : shown (slice_set pending tx (Some t)) ≡ slice_set m.pending tx (Some objects.empty) = shown-set pending tx t ∙ (λ i. slice_set (sym shows i) tx (Some (e i))) in
    λ i. record m { pending = same i }

-- no more pages than keys
pub page_count-le : (m : Objects) → page_count m ≤ objects.len m
unfolding page_count
page_count-le m =
    let few = count_by-le-length (λ v. nat_lt 128 (length v)) (objects.values m) in
    let same : length (objects.values m) ≡ length (objects.entries m) = simp length-map in
    omega (arith, objects.len-entries m)
