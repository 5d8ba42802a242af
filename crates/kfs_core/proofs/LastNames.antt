-- A walk that ends in a name.
use Rattle.std.proofs.Common.{◌≡◌, ◌<◌, ◌≤◌, ℕ, false, cond, refl, sym, ◌∙◌, ap, subst, arith, List, [], ◌∷◌, ◌++◌, length, drop, Ok}
use Rattle.std.specs.List.{AllByRecursion}
use Rattle.std.proofs.lemmas.List.{length_push, drop_all}
use Rattle.kv_device.specs.Objects.{Objects}
use Rattle.kfs_objects.specs.Keys.{IsNamed}
use Rattle.kfs_model.specs.Ladder.{bind_ok}
use Rattle.kfs_model.specs.Tree.{Name, is_dot, is_dot_dot}
use Rattle.kfs_model.specs.Step.{is_root, ends_in_dots}
use Rattle.kfs_dir.specs.Directory.{node_under}
use Rattle.kfs_core.specs.Flat.{Where, enter_in, further_in, up_from, walk_in}
use Rattle.kfs_core.proofs.Pieces.{ok_is, or_false}

-- it has gone down by a name
last_named : (m : Objects) (w : Where) (pieces : List Name) (v : Where) → AllByRecursion IsNamed pieces → ends_in_dots pieces ≡ false → is_root pieces ≡ false → walk_in m w pieces ≡ Ok v → IsNamed v.name × (0 < length v.above)
last_named m w [] v h plain some e = absurd (cc)
last_named m w (piece ∷ []) v h plain some e =
    let into = bind_ok (enter_in m w.node) (λ n. walk_in m (further_in m w n piece) []) v e in
    let dots = or_false (is_dot piece) (is_dot_dot piece) plain in
    let down : further_in m w into.0 piece ≡ record { above = w.above ++ into.0 ∷ []; node = node_under m into.0 piece; name = piece } =
    λ i. cond (dots.0 i) w (cond (dots.1 i) (up_from w) (record { above = w.above ++ into.0 ∷ []; node = node_under m into.0 piece; name = piece })) in
    subst (λ (x : Where). IsNamed x.name × (0 < length x.above)) (sym down ∙ ok_is (further_in m w into.0 piece) v into.2) (h.0, (let l = length_push w.above into.0 in omega arith))
last_named m w (piece ∷ next ∷ pieces) v h plain some e =
    let into = bind_ok (enter_in m w.node) (λ n. walk_in m (further_in m w n piece) (next ∷ pieces)) v e in
    last_named m (further_in m w into.0 piece) (next ∷ pieces) v h.1 plain refl into.2

-- the same where no piece is left
pub at_end_named : (m : Objects) (w : Where) (pieces : List Name) (v : Where) (n : ℕ) → AllByRecursion IsNamed pieces → ends_in_dots pieces ≡ false → is_root pieces ≡ false → length pieces ≤ n → walk_in m w pieces ≡ walk_in m v (drop n pieces) → IsNamed v.name × (0 < length v.above)
at_end_named m w pieces v n h plain some end rest = last_named m w pieces v h plain some (rest ∙ ap (walk_in m v) (drop_all n pieces end))
