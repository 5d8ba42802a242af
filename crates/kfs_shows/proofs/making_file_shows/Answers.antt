use Rattle.std.proofs.Common.{[]}
use Rattle.kfs_model.specs.declared.Node.TheVariants.{File}
use Rattle.kfs_shows.proofs.Making.{IsFreePlace, fresh_file, still_tree, still_shows}
use Rattle.kfs_shows.proofs.making_file_shows.Goals as goal

pub returns : goal.returns
returns c m t place name p tree shows reach at dir free named =
    let spot : IsFreePlace t place name p = record { at = at; dir = dir; free = free; named = named } in
    (still_tree t tree place name p spot (File []) fresh_file, still_shows t tree place name p spot (File []) fresh_file m shows reach)
