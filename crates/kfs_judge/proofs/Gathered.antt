-- The rows of all objects of a device.
use Rattle.std.proofs.Common.{◌≡◌, ℕ, ◌+◌, ◌<◌, ◌≤◌, true, false, cond, Bool, sym, ◌∙◌, ap, subst, arith, List, [], ◌∷◌, ◌++◌, length, filter}
use Rattle.std.specs.FinMap as objects
use Rattle.kv_device.specs.Objects.{Objects, pairs_from}
use Rattle.kv_device.specs.Machine.{Machine, none_open, view, begun}
use Rattle.kv_device.specs.Calls.{BeginDone}
use Rattle.kfs_tx.proofs.Opening.{first_number, sees_stable}
use Rattle.kfs_judge.specs.declared.row.Row.{Row}
use Rattle.kfs_judge.specs.Judging.{is_key, heard}
use Rattle.kfs_judge.specs.Rows.{AreRows, Extends}
use Rattle.kfs_judge.proofs.Fronts.{is_below, next_front, front_read, none_yet, heard_entries}
use Rattle.kfs_judge.proofs.Gathering.{same_length}

pub more_front : (m : Objects) (b : ℕ) (old new : List Row) → b < 256 → AreRows (filter (is_below b) (objects.entries m)) old → Extends (pairs_from m (b ∷ []) (b ∷ [])) old new → AreRows (filter (is_below (b + 1)) (objects.entries m)) new
more_front m b old new low h more =
    let es = objects.entries m in
    subst (λ l. AreRows l new) (ap (λ l. filter (is_below b) es ++ l) (front_read m b low) ∙ next_front es b low (objects.entries_sorted m)) (more (filter (is_below b) es) h)

pub first_front : (m : Objects) (old new : List Row) → old ≡ [] → Extends (pairs_from m (0 ∷ []) (0 ∷ [])) old new → AreRows (filter (is_below 1) (objects.entries m)) new
first_front m old new none more =
    let es = objects.entries m in
    let start : AreRows (filter (is_below 0) es) old = subst (λ r. AreRows (filter (is_below 0) es) r) (sym none) (subst (λ l. AreRows l []) (sym (none_yet es)) tt) in
    more_front m 0 old new (omega arith) start more

pub fewer : (p : List ℕ × List ℕ → Bool) (es : List (List ℕ × List ℕ)) → length (filter p es) ≤ length es
fewer p [] = omega arith
fewer p (e ∷ es) = by (p e) (fewer p es)
  where
    by : (b : Bool) → length (filter p es) ≤ length es → length (cond b (e ∷ filter p es) (filter p es)) ≤ length (e ∷ es)
    by true h = omega arith
    by false h = omega arith

-- no more rows than objects
pub few_rows : (m : Objects) (rows : List Row) → AreRows (objects.entries (heard m)) rows → length rows ≤ objects.len m
few_rows m rows h =
    let a = same_length (objects.entries (heard m)) rows h in
    let b = ap (λ (l : List (List ℕ × List ℕ)). length l) (heard_entries m) in
    let c = fewer (λ e. is_key e.0) (objects.entries m) in
    let d = objects.len-entries m in
    omega arith

pub begun_view : (old : Machine) → old.up ≡ true → old.pending ≡ none_open → (tx : ℕ) (new : Machine) → BeginDone old tx new → view new tx ≡ old.stable
begun_view old up idle tx new h =
    let zero' = first_number old up idle tx h.lowest in
    let is = h.after ∙ ap (begun old) zero' in
    (λ i. view (is i) (zero' i)) ∙ sees_stable old up idle
