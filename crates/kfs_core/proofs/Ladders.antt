-- Two ladders with the same answer: the same error, or results that belong together.
use Rattle.std.proofs.Common.{◌≡◌, Bool, true, false, cond, refl, ◌∙◌, ap, subst, Result, Ok, Err}
use Rattle.kv_device.specs.Objects.{Objects}
use Rattle.kfs_path.specs.declared.call.Errno.{Errno}
use Rattle.kfs_model.specs.Ladder.{◌>>=◌, ◌>>◌, ◌when◌}
use Rattle.kfs_model.specs.Tree.{Place, Tree}
use Rattle.kfs_core.specs.Stands.{Stands}
use Rattle.kfs_core.specs.Flat.{Where}
use Rattle.kfs_core.proofs.Ways.{IsSpot, Alike}

module _ {X Y : Type 0} (P : X → Y → Type 0) where
  abbrev pub SameAs : Result X Errno → Result Y Errno → Type 0
  SameAs (Ok x) (Ok y) = P x y
  SameAs (Ok x) (Err f) = ⊥
  SameAs (Err e) (Ok y) = ⊥
  SameAs (Err e) (Err f) = e ≡ f

  -- the same test on both sides
  pub same_when : (e : Errno) (a b : Bool) (r : Result X Errno) (s : Result Y Errno) → a ≡ b → (a ≡ false → SameAs r s) → SameAs ((e when a) >> r) ((e when b) >> s)
  same_when e true true r s same rest = refl
  same_when e false false r s same rest = rest refl
  same_when e true false r s same rest = absurd (cc)
  same_when e false true r s same rest = absurd (cc)

  -- a test on one side that never holds
  pub same_right : (e : Errno) (b : Bool) (r : Result X Errno) (s : Result Y Errno) → b ≡ false → SameAs r s → SameAs r ((e when b) >> s)
  same_right e true r s never rest = absurd (cc)
  same_right e false r s never rest = rest

  pub same_if : (a b : Bool) (r u : Result X Errno) (s v : Result Y Errno) → a ≡ b → (a ≡ true → SameAs r s) → (a ≡ false → SameAs u v) → SameAs (cond a r u) (cond b s v)
  same_if true true r u s v same f g = f refl
  same_if false false r u s v same f g = g refl
  same_if true false r u s v same f g = absurd (cc)
  same_if false true r u s v same f g = absurd (cc)

  -- what the one side tells of the other
  pub of_ok : (r : Result X Errno) (s : Result Y Errno) (y : Y) → SameAs r s → s ≡ Ok y → (x : X) × (r ≡ Ok x) × P x y
  of_ok (Ok x) (Ok z) y h e = let same : z ≡ y = cc in (x, refl, subst (P x) same h)
  of_ok (Ok x) (Err f) y h e = absurd h
  of_ok (Err d) (Ok z) y h e = absurd h
  of_ok (Err d) (Err f) y h e = absurd (cc)

  pub of_err : (r : Result X Errno) (s : Result Y Errno) (f : Errno) → SameAs r s → s ≡ Err f → r ≡ Err f
  of_err (Ok x) (Ok y) f h e = absurd (cc)
  of_err (Ok x) (Err g) f h e = absurd h
  of_err (Err d) (Ok y) f h e = absurd h
  of_err (Err d) (Err g) f h e = let same : g ≡ f = cc in ap Err (h ∙ same)

  -- a walk on both sides
  module _ (m : Objects) (t : Tree) (stands : Stands m t) where
    pub same_walk : (r : Result Place Errno) (s : Result Where Errno) → Alike m t stands r s → (f : Place → Result X Errno) (g : Where → Result Y Errno)
        → ((place : Place) (w : Where) → r ≡ Ok place → s ≡ Ok w → IsSpot t place w → SameAs (f place) (g w)) → SameAs (r >>= f) (s >>= g)
    same_walk (Ok place) (Ok w) h f g rest = rest place w refl refl h
    same_walk (Ok place) (Err e) h f g rest = absurd h
    same_walk (Err d) (Ok w) h f g rest = absurd h
    same_walk (Err d) (Err e) h f g rest = h
