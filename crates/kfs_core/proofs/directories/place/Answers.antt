use Rattle.std.proofs.Common.{sym, subst, All}
use Rattle.kfs_objects.specs.Keys.{IsNamed}
use Rattle.kfs_core.specs.Spot.{where_of}
use Rattle.kfs_core.proofs.Pieces.{place_named}
use Rattle.kfs_core.proofs.directories.place.Goals as goal

pub returns-clause-named : goal.returns-clause-named
returns-clause-named g c = (place_named _ c.items.result.now (where_of c.in_ok-spot.spot) (subst (All IsNamed) (sym c.items.ensures) c.requires.named) c.in_ok-spot.ensures.gives (c.if-is_some.ensures)).0

pub returns-clause-below : goal.returns-clause-below
returns-clause-below g c = (place_named _ c.items.result.now (where_of c.in_ok-spot.spot) (subst (All IsNamed) (sym c.items.ensures) c.requires.named) c.in_ok-spot.ensures.gives (c.if-is_some.ensures)).1
