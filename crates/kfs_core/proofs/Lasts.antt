-- A walk whose last piece is a name ends under that name in a directory.
use Rattle.std.proofs.Common.{◌≡◌, ◌≢◌, ◌<◌, ◌≤◌, ◌+◌, ◌-◌, true, false, cond, refl, sym, ◌∙◌, ap, subst, arith, List, [], ◌∷◌, ◌++◌, length, take, get_or, Some, Ok}
use Rattle.std.specs.List.{AllByRecursion}
use Rattle.std.specs.Str.{bytes_eq}
use Rattle.std.proofs.lemmas.List.{length_push, take-append-le, take_all}
use Rattle.kv_device.specs.Objects.{Objects}
use Rattle.kfs_model.specs.declared.Node.TheVariants.{Dir}
use Rattle.kfs_model.specs.Ladder.{bind_ok}
use Rattle.kfs_model.specs.Tree.{Place, Name, Tree, parent, further, entered, entry_at, walk, walk_from, is_dot, is_dot_dot, IsName, number_at, node_of}
use Rattle.kfs_model.specs.Step.{is_root, ends_in_dots}
use Rattle.kfs_dir.specs.Directory.{node_under}
use Rattle.kfs_core.specs.Flat.{Where, at_root, enter_in, up_from, further_in, walk_in}
use Rattle.kfs_core.specs.Making.{parent_of}
use Rattle.kfs_core.proofs.Pieces.{IsPart, ok_is, or_false}
use Rattle.kfs_core.proofs.Ways.{IsSpot, bytes_eq_refl}

-- the directory above, and the name in it
pub record IsLast (t : Tree) (place : Place) (w : Where) : Type 0 where
  pub up : Place
  pub is : place ≡ up ++ w.name ∷ []
  pub named : IsName w.name
  pub above : number_at t up ≡ Some (parent_of w)
  pub dir : node_of t (parent_of w) ≡ Some Dir

abbrev pub last_of : List Name → Name
last_of [] = []
last_of (piece ∷ []) = piece
last_of (piece ∷ next ∷ pieces) = last_of (next ∷ pieces)

not_bytes : (xs ys : Name) → bytes_eq xs ys ≡ false → xs ≢ ys
not_bytes xs ys e f = let bad : true ≡ false = sym (ap (bytes_eq xs) (sym f) ∙ bytes_eq_refl xs) ∙ e in cc

last_named : (pieces : List Name) → AllByRecursion IsPart pieces → ends_in_dots pieces ≡ false → is_root pieces ≡ false → IsName (last_of pieces)
last_named [] parts dots root = absurd (cc)
last_named (piece ∷ []) parts dots root =
    let d = or_false (is_dot piece) (is_dot_dot piece) dots in
    record { short = parts.0.0; slashes = parts.0.1; dot = not_bytes piece (46 ∷ []) d.0; dots = not_bytes piece (46 ∷ 46 ∷ []) d.1 }
last_named (piece ∷ next ∷ pieces) parts dots root = last_named (next ∷ pieces) parts.1 dots refl

module _ (t : Tree) where
  place_last : (place : Place) (pieces : List Name) (q : Place) → ends_in_dots pieces ≡ false → is_root pieces ≡ false → walk_from t place pieces ≡ Ok q → (up : Place) × (q ≡ up ++ last_of pieces ∷ [])
  place_last place [] q dots root e = absurd (cc)
  place_last place (piece ∷ []) q dots root e =
      let into = bind_ok (entered (entry_at t place)) (λ _. walk_from t (further place piece) []) q e in
      let d = or_false (is_dot piece) (is_dot_dot piece) dots in
      (place, sym (ok_is (further place piece) q into.2) ∙ (λ i. cond (d.0 i) place (cond (d.1 i) (parent place) (place ++ piece ∷ []))))
  place_last place (piece ∷ next ∷ pieces) q dots root e =
      let into = bind_ok (entered (entry_at t place)) (λ _. walk_from t (further place piece) (next ∷ pieces)) q e in
      place_last (further place piece) (next ∷ pieces) q dots refl into.2

module _ (m : Objects) where
  name_last : (w : Where) (pieces : List Name) (v : Where) → ends_in_dots pieces ≡ false → is_root pieces ≡ false → walk_in m w pieces ≡ Ok v → v.name ≡ last_of pieces
  name_last w [] v dots root e = absurd (cc)
  name_last w (piece ∷ []) v dots root e =
      let into = bind_ok (enter_in m w.node) (λ n. walk_in m (further_in m w n piece) []) v e in
      let d = or_false (is_dot piece) (is_dot_dot piece) dots in
      let below : Where = record { above = w.above ++ into.0 ∷ []; node = node_under m into.0 piece; name = piece } in
      ap (λ (x : Where). x.name) (sym (ok_is (further_in m w into.0 piece) v into.2) ∙ (λ i. cond (d.0 i) w (cond (d.1 i) (up_from w) below)))
  name_last w (piece ∷ next ∷ pieces) v dots root e =
      let into = bind_ok (enter_in m w.node) (λ n. walk_in m (further_in m w n piece) (next ∷ pieces)) v e in
      name_last (further_in m w into.0 piece) (next ∷ pieces) v dots refl into.2

module _ (t : Tree) (place : Place) (w : Where) (spot : IsSpot t place w) where
  pub last_at : (up : Place) → place ≡ up ++ w.name ∷ [] → IsName w.name → IsLast t place w
  last_at up is named =
      let name = w.name in
      let long : length place ≡ length up + 1 = ap length is ∙ length_push up name in
      let above = spot.long in
      let last : length w.above - 1 ≡ length up = omega arith in
      let lt : length up < length place = omega arith in
      let whole : length up ≤ length up = omega arith in
      let front : take (length up) place ≡ up = ap (take (length up)) is ∙ take-append-le (length up) up (name ∷ []) whole ∙ take_all (length up) up whole in
      let number : get_or w.above (length up) 0 ≡ parent_of w = ap (λ i. get_or w.above i 0) (sym last) in
      record {
        up = up;
        is = is;
        named = named;
        above = sym (ap (number_at t) front) ∙ spot.way (length up) lt ∙ ap Some number;
        dir = ap (node_of t) (sym number) ∙ spot.dirs (length up) lt;
      }

pub walk_last : (m : Objects) (t : Tree) (pieces : List Name) → AllByRecursion IsPart pieces → ends_in_dots pieces ≡ false → is_root pieces ≡ false
    → (place : Place) (w : Where) → walk t pieces ≡ Ok place → walk_in m at_root pieces ≡ Ok w → IsSpot t place w → IsLast t place w
walk_last m t pieces parts dots root place w e f spot =
    let name = name_last m at_root pieces w dots root f in
    let up = place_last t [] pieces place dots root e in
    last_at t place w spot up.0 (up.1 ∙ ap (λ x. up.0 ++ x ∷ []) (sym name)) (subst IsName (sym name) (last_named pieces parts dots root))
