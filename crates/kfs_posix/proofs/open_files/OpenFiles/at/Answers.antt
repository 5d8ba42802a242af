use Rattle.std.proofs.Common.{ap, sym, ◌∙◌}
use Rattle.std.specs.Ordering.{nat_cmp}
use Rattle.std.specs.FinMap.{find}
use Rattle.kfs_posix.specs.Opens.{FilesState}
use Rattle.kfs_posix.proofs.Slots.{found}
use Rattle.kfs_posix.proofs.open_files.OpenFiles.at.Goals as goal

pub returns-in_err-file : goal.returns-in_err-file
returns-in_err-file c = c.from_residual.ensures ∙ c.in_err-file.ensures ∙ sym (found c.args.number c.self.inside.files.slots) ∙ ap (λ (s : FilesState). find nat_cmp c.args.number s.opens.files) c.self.view_is

pub returns : goal.returns
returns c = c.in_ok-file.ensures ∙ sym (found c.args.number c.self.inside.files.slots) ∙ ap (λ (s : FilesState). find nat_cmp c.args.number s.opens.files) c.self.view_is
