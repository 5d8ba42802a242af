-- Rows that are added to rows.
use Rattle.std.proofs.Common.{◌≡◌, ℕ, ◌+◌, ◌<◌, ◌≤◌, suc, refl, sym, ◌∙◌, ap, subst, List, [], ◌∷◌, ◌++◌, length, map, take, get_or}
use Rattle.std.proofs.lemmas.List.{append-nil, append_assoc, map-append, take_more, take_all}
use Rattle.kv_base.specs.declared.pairs.Pair.{Pair}
use Rattle.kv_device.specs.Objects.{pair_of}
use Rattle.kfs_judge.specs.declared.row.Row.{Row}
use Rattle.kfs_judge.specs.Rows.{AreRows, IsRow, Extends}

rows_more : (es fs : List (List ℕ × List ℕ)) (rs ss : List Row) → AreRows es rs → AreRows fs ss → AreRows (es ++ fs) (rs ++ ss)
rows_more [] fs [] ss a b = b
rows_more [] fs (r ∷ rs) ss a b = absurd a
rows_more (e ∷ es) fs [] ss a b = absurd a
rows_more (e ∷ es) fs (r ∷ rs) ss a b = (a.0, rows_more es fs rs ss a.1 b)

pub same_length : (es : List (List ℕ × List ℕ)) (rs : List Row) → AreRows es rs → length rs ≡ length es
same_length [] [] h = refl
same_length [] (r ∷ rs) h = absurd h
same_length (e ∷ es) [] h = absurd h
same_length (e ∷ es) (r ∷ rs) h = ap suc (same_length es rs h.1)

pub extends_both : (es fs : List (List ℕ × List ℕ)) (old mid new : List Row) → Extends es old mid → Extends fs mid new → Extends (es ++ fs) old new
extends_both es fs old mid new a b before h = subst (λ l. AreRows l new) (append_assoc before es fs) (b (before ++ es) (a before h))

pub extends_by : (es fs : List (List ℕ × List ℕ)) (old new : List Row) → es ≡ fs → Extends es old new → Extends fs old new
extends_by es fs old new e h = subst (λ l. Extends l old new) e h

-- one more pair's row
pub extends_one : (pairs : List Pair) (i : ℕ) (d : Pair) (old mid new : List Row) (row : Row) → i < length pairs → Extends (map pair_of (take i pairs)) old mid → IsRow (pair_of (get_or pairs i d)) row → new ≡ mid ++ row ∷ []
    → Extends (map pair_of (take (i + 1) pairs)) old new
extends_one pairs i d old mid new row lt h is grown before start =
    let more = ap (map pair_of) (take_more pairs i d lt) ∙ map-append pair_of (take i pairs) (get_or pairs i d ∷ []) in
    let both = rows_more (before ++ map pair_of (take i pairs)) (pair_of (get_or pairs i d) ∷ []) mid (row ∷ []) (h before start) (is, tt) in
    let there = subst (λ l. AreRows l (mid ++ row ∷ [])) (append_assoc before (map pair_of (take i pairs)) (pair_of (get_or pairs i d) ∷ [])) both in
    subst (λ l. AreRows (before ++ l) new) (sym more) (subst (λ r. AreRows (before ++ (map pair_of (take i pairs) ++ pair_of (get_or pairs i d) ∷ [])) r) (sym grown) there)
