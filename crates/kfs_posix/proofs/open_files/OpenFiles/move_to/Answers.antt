use Rattle.std.proofs.Common.{ap, ◌∙◌}
use Rattle.kfs_posix.specs.Opens.{moved_at, with_file}
use Rattle.kfs_posix.proofs.open_files.OpenFiles.move_to.Goals as goal

pub returns-in-Some : goal.returns-in-Some
returns-in-Some c = c.replace.ensures ∙ ap (with_file c.args.self.now.opens c.args.number) c.at_offset.ensures ∙ ap (moved_at c.args.self.now.opens c.args.number c.args.offset) c.in-Some.ensures

pub returns-in_default : goal.returns-in_default
returns-in_default c = ap (moved_at c.args.self.now.opens c.args.number c.args.offset) c.in_default.ensures
