-- What a transaction sees after a change of its own.
use Rattle.std.proofs.Common.{◌==◌, arith, ◌≡◌, ℕ, true, cond, sym, ◌∙◌, ap, List, Option, Some, unwrap_or}
use Rattle.std.proofs.lemmas.Bool.Decides.{nat_tests}
use Rattle.std.specs.Ordering.{eq_by_cmp}
use Rattle.std.specs.Cmp.Lexicographic.{nat_list_cmp_total}
use Rattle.std.specs.FinMap as objects
use Rattle.kv_device.specs.Bytes.{bytes_cmp}
use Rattle.kv_device.specs.Objects.{Objects, Changes, seen_through, changed, changed_all}
use Rattle.kv_device.specs.Machine.{Machine, view, changes_of, is_open, with_change, aborted, ended}
use Rattle.kv_device.proofs.KeyMapLaws.{same_keys}
use Rattle.kv_device.proofs.MachineLaws.{get-seen_through, get-changed, over, over-cond, entries-empty}
use Rattle.kv_device.proofs.OpenLaws.{changes_set, open_within}

-- one more change is seen at once, over the changes before it
pub seen_through-insert : (changes : Changes) (m : Objects) (key : List ℕ) (change : Option (List ℕ)) → seen_through (objects.insert changes key change) m ≡ changed (seen_through changes m) (key, change)
seen_through-insert changes m key change = objects.same_map nat_list_cmp_total same_keys _ _ (λ q.
    get-seen_through (objects.insert changes key change) m q
    ∙ ap (λ f. over f (objects.get m q)) (objects.get-insert nat_list_cmp_total changes key change q)
    ∙ over-cond (eq_by_cmp bytes_cmp q key) change (objects.get changes q) (objects.get m q)
    ∙ ap (cond (eq_by_cmp bytes_cmp q key) change) (sym (get-seen_through changes m q))
    ∙ sym (get-changed (seen_through changes m) key change q))

-- the same of the machine
pub view-with_change : (m : Machine) (tx : ℕ) (key : List ℕ) (change : Option (List ℕ)) → is_open m tx ≡ true → view (with_change m tx key change) tx ≡ changed (view m tx) (key, change)
unfolding view
view-with_change m tx key change open_now =
    let changes = unwrap_or (changes_of m tx) objects.empty in
    ap (λ c. seen_through (unwrap_or c objects.empty) m.stable) (changes_set m.pending tx (Some (objects.insert changes key change)) (open_within m.pending tx open_now))
    ∙ seen_through-insert changes m.stable key change

-- without changes it sees what stands
pub seen_through-none : (changes : Changes) (m : Objects) → objects.len changes ≡ 0 → seen_through changes m ≡ m
unfolding seen_through
seen_through-none changes m none = ap (λ c. changed_all (objects.entries c) m) (objects.empty_of_len changes none) ∙ ap (λ es. changed_all es m) (entries-empty (Option (List ℕ)))

zero_of : (n : ℕ) → (n == 0) ≡ true → n ≡ 0
zero_of n e = grind (arith, nat_tests)

-- the end of such a transaction drops nothing
pub idle_end : (m : Machine) (tx : ℕ) → (objects.len (unwrap_or (changes_of m tx) objects.empty) == 0) ≡ true → aborted m tx ≡ ended m tx
unfolding view
idle_end m tx idle =
    let same = seen_through-none (unwrap_or (changes_of m tx) objects.empty) m.stable (zero_of _ idle) in
    λ i. record (aborted m tx) { stable = sym same i }
