-- What a path names and where a new file goes, over the objects and in the tree.
use Rattle.std.proofs.Common.{◌≡◌, ℕ, ◌+◌, true, false, Bool, refl, List, [], Option, Some, None, is_some, Result, Ok, Err, nat_lt}
use Rattle.std.specs.Option.{option_map}
use Rattle.kv_device.specs.Objects.{Objects}
use Rattle.kfs_path.specs.declared.call.Errno.{Errno}
use Rattle.kfs_path.specs.declared.call.Errno.TheVariants.{ENOENT, EEXIST, ENOSPC}
use Rattle.kfs_model.specs.Ladder.{◌>>=◌, ◌>>◌, ◌when◌}
use Rattle.kfs_model.specs.Tree.{Place, Tree, Limits, entry_at, walk, charge}
use Rattle.kfs_model.specs.Step.{Route, syntax, is_there}
use Rattle.kfs_core.specs.Stands.{Stands}
use Rattle.kfs_core.specs.Flat.{Where, at_root, walk_in, found_in, reach_in, create_in}
use Rattle.kfs_core.proofs.Ways.{IsSpot, Alike, walks, root_spot}
use Rattle.kfs_core.proofs.Judges.{SamePlace, seen_as, found_at, syntax_named, there_same}

-- where a new file goes, in the tree
abbrev pub create_place : Limits → Tree → List ℕ → Result Place Errno
create_place k t path = do
  route ← syntax path
  place ← walk t route.pieces
  EEXIST when is_there t place
  ENOENT when route.trailing
  ENOSPC when nat_lt k.keys (charge t + 2)
  Ok place

module _ (m : Objects) (t : Tree) (stands : Stands m t) where
  -- what a path names, in both
  abbrev pub SameReach : Result Place Errno → Result (Option (ℕ × ℕ × ℕ)) Errno → Type 0
  SameReach (Ok place) (Ok found) = found ≡ option_map (seen_as m t stands) (entry_at t place)
  SameReach (Ok place) (Err f) = ⊥
  SameReach (Err e) (Ok found) = ⊥
  SameReach (Err e) (Err f) = e ≡ f

  pub reach_same : (path : List ℕ) (route : Route) → syntax path ≡ Ok route → SameReach (walk t route.pieces) (reach_in m route)
  reach_same path route is = by (walk t route.pieces) (walk_in m at_root route.pieces) (walks m t stands [] at_root route.pieces (syntax_named path route is) (root_spot m t stands))
    where
      by : (r : Result Place Errno) (s : Result Where Errno) → Alike m t stands r s → SameReach r (s >>= λ w. Ok (found_in m w.node))
      by (Ok place) (Ok w) h = found_at m t stands place w h
      by (Ok place) (Err f) h = h
      by (Err e) (Ok w) h = h
      by (Err e) (Err f) h = h

  pub create_same : (k : Limits) (path : List ℕ) → SamePlace m t stands (create_place k t path) (create_in m k.keys (charge t) path)
  create_same k path = by (syntax path) refl
    where
      full : Bool
      full = nat_lt k.keys (charge t + 2)

      last : (place : Place) (w : Where) → IsSpot t place w → (o : Option ℕ) → w.node ≡ o → (a b c : Bool) → a ≡ is_some o
          → SamePlace m t stands ((EEXIST when a) >> ((ENOENT when b) >> ((ENOSPC when c) >> Ok place))) ((EEXIST when is_some o) >> ((ENOENT when b) >> ((ENOSPC when c) >> Ok w)))
      last place w spot None e true b c f = absurd (cc)
      last place w spot None e false true c f = refl
      last place w spot None e false false true f = refl
      last place w spot None e false false false f = (spot, e)
      last place w spot (Some n) e true b c f = refl
      last place w spot (Some n) e false b c f = absurd (cc)

      then : (trailing : Bool) (r : Result Place Errno) (s : Result Where Errno) → Alike m t stands r s
          → SamePlace m t stands (r >>= λ place. (EEXIST when is_there t place) >> ((ENOENT when trailing) >> ((ENOSPC when full) >> Ok place))) (s >>= λ w. (EEXIST when is_some w.node) >> ((ENOENT when trailing) >> ((ENOSPC when full) >> Ok w)))
      then trailing (Ok place) (Ok w) h = last place w h w.node refl (is_there t place) trailing full (there_same m t stands place w h)
      then trailing (Ok place) (Err e) h = absurd h
      then trailing (Err d) (Ok w) h = absurd h
      then trailing (Err d) (Err e) h = h

      by : (r : Result Route Errno) → syntax path ≡ r
          → SamePlace m t stands (r >>= λ route. walk t route.pieces >>= λ place. (EEXIST when is_there t place) >> ((ENOENT when route.trailing) >> ((ENOSPC when full) >> Ok place)))
          (r >>= λ route. walk_in m at_root route.pieces >>= λ w. (EEXIST when is_some w.node) >> ((ENOENT when route.trailing) >> ((ENOSPC when full) >> Ok w)))
      by (Err e) is = refl
      by (Ok route) is = then route.trailing (walk t route.pieces) (walk_in m at_root route.pieces) (walks m t stands [] at_root route.pieces (syntax_named path route is) (root_spot m t stands))
