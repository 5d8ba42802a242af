-- What the calls answer over the objects is what the tree's definitions say.
use Rattle.std.proofs.Common.{◌≡◌, ℕ, ◌+◌, ◌&&◌, true, false, cond, Bool, refl, sym, ◌∙◌, ap, subst, List, [], length, Option, Some, None, is_some, Result, Ok, Err, nat_lt}
use Rattle.std.specs.List.{AllByRecursion}
use Rattle.std.specs.Option.{option_map, option_and_then}
use Rattle.std.proofs.lemmas.List.Elements.{recursion_from_All}
use Rattle.kv_device.specs.Objects.{Objects}
use Rattle.kfs_objects.specs.Keys.{IsNamed}
use Rattle.kfs_path.specs.declared.call.Errno.{Errno}
use Rattle.kfs_path.specs.declared.call.Errno.TheVariants.{ENOENT, ENOTDIR, EEXIST, ENOSPC, ENAMETOOLONG}
use Rattle.kfs_path.specs.declared.call.Reply.{Reply}
use Rattle.kfs_path.specs.declared.call.Reply.TheVariants as replies
use Rattle.kfs_path.specs.declared.path.PathFault.TheVariants as paths
use Rattle.kfs_path.specs.Pieces.{pieces_of, is_empty, is_too_long, ends_in_slash}
use Rattle.kfs_model.specs.declared.Node.{Node}
use Rattle.kfs_model.specs.declared.Node.TheVariants.{Dir, File}
use Rattle.kfs_model.specs.Ladder.{◌>>=◌, ◌>>◌, ◌when◌}
use Rattle.kfs_model.specs.Tree.{Place, Tree, Limits, entry_at, walk, charge, number_at, node_of}
use Rattle.kfs_model.specs.Step.{Route, syntax, told, is_file, is_there, has_file, stat_of, mkdir_at}
use Rattle.kfs_core.specs.Stands.{Stands}
use Rattle.kfs_core.specs.Flat.{Where, at_root, walk_in, found_in, told_in, stat_in, place_in}
use Rattle.kfs_core.proofs.Pieces.{IsPart, path_named, path_parts, ok_is}
use Rattle.kfs_core.proofs.Ways.{IsSpot, Alike, entry_of, kind_of, inode_at, walks, root_spot}

pub syntax_named : (bytes : List ℕ) (route : Route) → syntax bytes ≡ Ok route → AllByRecursion IsPart route.pieces
syntax_named bytes route e = by (is_empty bytes) (is_too_long bytes) refl refl e
  where
    by : (a b : Bool) → is_empty bytes ≡ a → is_too_long bytes ≡ b → (ENOENT when a) >> ((ENAMETOOLONG when b) >> Ok (record { pieces = pieces_of bytes; trailing = ends_in_slash bytes })) ≡ Ok route → AllByRecursion IsPart route.pieces
    by true b f g e = absurd (cc)
    by false true f g e = absurd (cc)
    by false false f g e =
        let same : pieces_of bytes ≡ route.pieces = ap (λ (r : Route). r.pieces) (ok_is _ route e) in
        subst (AllByRecursion IsPart) same (path_parts bytes (recursion_from_All IsNamed (pieces_of bytes) (path_named bytes (pieces_of bytes, ends_in_slash bytes) (λ i. cond (f i) (Err paths.NoEntry) (cond (g i) (Err paths.NameTooLong) (Ok (pieces_of bytes, ends_in_slash bytes)))))))

module _ (m : Objects) (t : Tree) (stands : Stands m t) where
  judged : {X : Type 0} (r : Result Place Errno) (s : Result Where Errno) → Alike m t stands r s → (f : Place → Result X Errno) (g : Where → Result X Errno) → ((place : Place) (w : Where) → r ≡ Ok place → s ≡ Ok w → IsSpot t place w → f place ≡ g w) → (r >>= f) ≡ (s >>= g)
  judged (Ok place) (Ok w) h f g same = same place w refl refl h
  judged (Ok place) (Err e) h f g same = absurd h
  judged (Err d) (Ok w) h f g same = absurd h
  judged (Err d) (Err e) h f g same = ap Err h

  -- syntax and walk before both
  pub walked : {X : Type 0} (path : List ℕ) (f : Route → Place → Result X Errno) (g : Route → Where → Result X Errno) → ((route : Route) (place : Place) (w : Where) → IsSpot t place w → f route place ≡ g route w)
      → (syntax path >>= λ route. walk t route.pieces >>= f route) ≡ (syntax path >>= λ route. walk_in m at_root route.pieces >>= g route)
  walked {X} path f g same = by (syntax path) refl
    where
      by : (r : Result Route Errno) → syntax path ≡ r → (r >>= λ route. walk t route.pieces >>= f route) ≡ (r >>= λ route. walk_in m at_root route.pieces >>= g route)
      by (Err e) is = refl
      by (Ok route) is =
          let short = syntax_named path route is in
          judged (walk t route.pieces) (walk_in m at_root route.pieces) (walks m t stands [] at_root route.pieces short (root_spot m t stands)) (f route) (g route) (λ place w _ _ spot. same route place w spot)

  abbrev pub seen_as : ℕ × Node → ℕ × ℕ × ℕ
  seen_as e = (e.0, (kind_of e.1).0, (kind_of e.1).1)

  pub found_at : (place : Place) (w : Where) → IsSpot t place w → found_in m w.node ≡ option_map seen_as (entry_at t place)
  found_at place w spot = ap (found_in m) spot.node ∙ by (number_at t place) refl
    where
      by : (o : Option ℕ) → number_at t place ≡ o → found_in m o ≡ option_map seen_as (option_and_then (λ n. option_map (λ node. (n, node)) (node_of t n)) o)
      by None e = refl
      by (Some n) e =
          let x = stands.tree.there place n e in
          ap (option_map (λ (i : ℕ × ℕ). (n, i.0, i.1))) (inode_at m t stands n x.0 x.1) ∙ sym (ap (λ o. option_map seen_as (option_map (λ node. (n, node)) o)) x.1)

  pub stat_same : (path : List ℕ) → stat_of t path ≡ stat_in m path
  stat_same path = walked path (λ route place. told (entry_at t place) >>= λ reply. (ENOTDIR when (route.trailing && is_file t place)) >> Ok reply) (λ route w. told_in (found_in m w.node) route.trailing)
      (λ route place w spot. by route (entry_at t place) ∙ ap (λ o. told_in o route.trailing) (sym (found_at place w spot)))
    where
      both : (b : Bool) (reply : Reply) → ((ENOTDIR when (b && true)) >> Ok reply) ≡ cond b (Err ENOTDIR) (Ok reply)
      both true reply = refl
      both false reply = refl

      neither : (b : Bool) (reply : Reply) → ((ENOTDIR when (b && false)) >> Ok reply) ≡ Ok reply
      neither true reply = refl
      neither false reply = refl

      by : (route : Route) (o : Option (ℕ × Node)) → (told o >>= λ reply. (ENOTDIR when (route.trailing && has_file o)) >> Ok reply) ≡ told_in (option_map seen_as o) route.trailing
      by route None = refl
      by route (Some (n, Dir)) = neither route.trailing (replies.Dir n)
      by route (Some (n, File bytes)) = both route.trailing (replies.File n (length bytes))

  -- where a new node goes, in both
  abbrev pub SamePlace : Result Place Errno → Result Where Errno → Type 0
  SamePlace (Ok place) (Ok w) = IsSpot t place w × (w.node ≡ None)
  SamePlace (Ok place) (Err f) = ⊥
  SamePlace (Err e) (Ok w) = ⊥
  SamePlace (Err e) (Err f) = e ≡ f

  pub there_same : (place : Place) (w : Where) → IsSpot t place w → is_there t place ≡ is_some w.node
  there_same place w spot = by (number_at t place) refl ∙ ap (is_some {T = ℕ}) (sym spot.node)
    where
      by : (o : Option ℕ) → number_at t place ≡ o → is_some (entry_of m t stands o) ≡ is_some o
      by None e = refl
      by (Some n) e = let x = stands.tree.there place n e in ap (λ (o : Option Node). is_some {T = ℕ × Node} (option_map (λ node. (n, node)) o)) x.1

  pub place_same : (k : Limits) (path : List ℕ) → SamePlace (mkdir_at k t path) (place_in m k.keys (charge t) path)
  place_same k path = by (syntax path) refl
    where
      full : Bool
      full = nat_lt k.keys (charge t + 2)

      last : (place : Place) (w : Where) → IsSpot t place w → (o : Option ℕ) → w.node ≡ o → (a b : Bool) → a ≡ is_some o → SamePlace ((EEXIST when a) >> ((ENOSPC when b) >> Ok place)) ((EEXIST when is_some o) >> ((ENOSPC when b) >> Ok w))
      last place w spot None e true b f = absurd (cc)
      last place w spot None e false true f = refl
      last place w spot None e false false f = (spot, e)
      last place w spot (Some n) e true b f = refl
      last place w spot (Some n) e false b f = absurd (cc)

      then : (r : Result Place Errno) (s : Result Where Errno) → Alike m t stands r s
          → SamePlace (r >>= λ place. (EEXIST when is_there t place) >> ((ENOSPC when full) >> Ok place)) (s >>= λ w. (EEXIST when is_some w.node) >> ((ENOSPC when full) >> Ok w))
      then (Ok place) (Ok w) h = last place w h w.node refl (is_there t place) full (there_same place w h)
      then (Ok place) (Err e) h = absurd h
      then (Err d) (Ok w) h = absurd h
      then (Err d) (Err e) h = h

      by : (r : Result Route Errno) → syntax path ≡ r
          → SamePlace (r >>= λ route. walk t route.pieces >>= λ place. (EEXIST when is_there t place) >> ((ENOSPC when full) >> Ok place))
          (r >>= λ route. walk_in m at_root route.pieces >>= λ w. (EEXIST when is_some w.node) >> ((ENOSPC when full) >> Ok w))
      by (Err e) is = refl
      by (Ok route) is = let short = syntax_named path route is in then (walk t route.pieces) (walk_in m at_root route.pieces) (walks m t stands [] at_root route.pieces short (root_spot m t stands))
