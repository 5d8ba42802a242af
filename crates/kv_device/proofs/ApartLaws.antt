-- Transactions beside one another.
use Rattle.std.proofs.Common.{◌≡◌, ◌≢◌, ◌<◌, ◌≤◌, ℕ, refl, sym, ◌∙◌, ap, length, set, Option, Some, None, unwrap_or, option_and_then, slice_get, slice_set, arith, nat_lt, Bool, true, false}
use Rattle.std.proofs.lemmas.Option.{slice_get-get_or, slice_get_past}
use Rattle.std.proofs.lemmas.List.{get_or-set_other, length-set}
use Rattle.std.proofs.lemmas.Bool.Decides.{nat_tests}
use Rattle.std.specs.FinMap as objects
use Rattle.kv_device.specs.Objects.{Changes, seen_through}
use Rattle.kv_device.specs.Machine.{Machine, Transactions, changes_of, view, ended}
use Rattle.kv_device.specs.Apart.{later, OwnChangesSeen, OthersUnseen, LastEndWins}
use Rattle.kv_device.proofs.MachineLaws.{get-seen_through}

-- another place stays
slot_stays : (p : Transactions) (tx other : ℕ) (t : Option Changes) → other ≢ tx → slice_get (slice_set p tx t) other ≡ slice_get p other
slot_stays p tx other t apart = by (nat_lt other (length p)) refl
  where
    long : length (set p tx t) ≡ length p
    long = simp length-set

    by : (b : Bool) → nat_lt other (length p) ≡ b → slice_get (set p tx t) other ≡ slice_get p other
    by true e =
        let low : other < length p = grind (arith, nat_tests) in
        let low_set : other < length (set p tx t) = omega (arith, long) in
        slice_get-get_or (set p tx t) other None low_set ∙ ap Some (get_or-set_other p tx other t None apart) ∙ sym (slice_get-get_or p other None low)
    by false e =
        let past : length p ≤ other = grind (arith, nat_tests) in
        let past_set : length (set p tx t) ≤ other = omega (arith, long) in
        slice_get_past (set p tx t) other past_set ∙ sym (slice_get_past p other past)

pub changes_stay : (m : Machine) (tx other : ℕ) (t : Option Changes) → other ≢ tx → option_and_then (λ t. t) (slice_get (slice_set m.pending tx t) other) ≡ changes_of m other
changes_stay m tx other t apart = ap (option_and_then (λ t. t)) (slot_stays m.pending tx other t apart)

pub own_changes_seen : OwnChangesSeen
unfolding view
own_changes_seen m tx key = get-seen_through (unwrap_or (changes_of m tx) objects.empty) m.stable key

pub others_unseen : OthersUnseen
unfolding view
others_unseen m tx other key change apart =
    ap (λ c. seen_through (unwrap_or c objects.empty) m.stable) (changes_stay m tx other (Some (objects.insert (unwrap_or (changes_of m tx) objects.empty) key change)) apart)

pub last_end_wins : LastEndWins
last_end_wins m tx other key apart =
    own_changes_seen (ended m tx) other key
    ∙ ap (λ c. later (objects.get (unwrap_or c objects.empty) key) (objects.get (ended m tx).stable key)) (changes_stay m tx other None apart)
