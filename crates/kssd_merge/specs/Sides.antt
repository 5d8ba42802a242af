-- Where the next key of two lists of entries stands.
use Rattle.std.specs.Prelude.{List, [], ◌∷◌}
use Rattle.kssd_entry.specs.declared.entry.Entry.{Entry}
use Rattle.kssd_entry.specs.Spelling.{key_of}
use Rattle.kssd_model.specs.Rising.{key_cmp, by_order}
use Rattle.kssd_merge.specs.declared.merge.Side.{Side}
use Rattle.kssd_merge.specs.declared.merge.Side.TheVariants.{Neither, Newer, Older, Both}

abbrev pub side_in : List Entry → List Entry → Side
side_in [] [] = Neither
side_in [] (b ∷ bs) = Older
side_in (a ∷ more) [] = Newer
side_in (a ∷ more) (b ∷ bs) = by_order (key_cmp (key_of a) (key_of b)) Newer Both Older
