-- What tests of two things, and of an order, say of each.
use Rattle.std.proofs.Common.{◌≡◌, ◌&&◌, Bool, true, false, T, refl, sym, subst}
use Rattle.std.specs.Ordering.{is_lt, is_eq}
use Rattle.std.specs.declared.cmp.Ordering.{Ordering}
use Rattle.std.specs.declared.cmp.Ordering.TheVariants.{Less, Equal, Greater}

pub lower : (o : Ordering) → T (is_lt o) → o ≡ Less
lower Less h = refl
lower Equal h = absurd h
lower Greater h = absurd h

pub is_lower : (o : Ordering) → o ≡ Less → T (is_lt o)
is_lower o e = subst (λ r. T (is_lt r)) (sym e) tt

pub lt_apart : (o : Ordering) → T (is_lt o) → is_eq o ≡ false
lt_apart Less h = refl
lt_apart Equal h = absurd h
lt_apart Greater h = absurd h

pub both : (a b : Bool) → T a → T b → T (a && b)
both true b p q = q
both false b p q = p

pub first_of : (a b : Bool) → T (a && b) → T a
first_of true b h = tt
first_of false b h = absurd h

pub second_of : (a b : Bool) → T (a && b) → T b
second_of true b h = h
second_of false b h = absurd h
