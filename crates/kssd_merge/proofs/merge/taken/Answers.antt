use Rattle.std.proofs.Common.{◌≡◌, List, [], ◌∷◌, None, sym, refl}
use Rattle.std.specs.Prelude.{slice_get}
use Rattle.kssd_entry.specs.declared.entry.Entry.{Entry}
use Rattle.kssd_merge.proofs.merge.taken.Goals as goal

nothing_there : (xs : List Entry) → slice_get xs 0 ≡ None → xs ≡ []
nothing_there [] h = refl
nothing_there (x ∷ xs) h = absurd cc

pub unreachable-requires : goal.unreachable-requires
unreachable-requires g c = c.requires.some (nothing_there _ (sym (c.in-None.ensures _ _ c.requires.stands)))
