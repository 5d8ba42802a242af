use Rattle.std.proofs.Common.{ap, sym, ◌∙◌, ◌≤◌, length, None, arith}
use Rattle.std.specs.Ordering.{nat_cmp}
use Rattle.std.specs.FinMap.{find}
use Rattle.std.proofs.lemmas.Bool.Decides.{nat_tests}
use Rattle.kfs_posix.specs.Opens.{FilesState}
use Rattle.kfs_posix.proofs.Slots.{found, beyond}
use Rattle.kfs_posix.proofs.open_files.OpenFiles.number.Goals as goal

pub returns-in_err-slot-clause-number : goal.returns-in_err-slot-clause-number
returns-in_err-slot-clause-number c =
    let h = c.in_err-slot.ensures.lookup in
    let le : length c.self.inside.descriptors ≤ c.args.fd = grind (arith, nat_tests) in
    c.from_residual.ensures ∙ sym (found c.args.fd c.self.inside.descriptors ∙ beyond c.self.inside.descriptors c.args.fd le) ∙ ap (λ (s : FilesState). find nat_cmp c.args.fd s.opens.descriptors) c.self.view_is

pub returns-clause-number : goal.returns-clause-number
returns-clause-number c = c.in_ok-slot.ensures.lookup.4 (omega arith) None ∙ sym (found c.args.fd c.self.inside.descriptors) ∙ ap (λ (s : FilesState). find nat_cmp c.args.fd s.opens.descriptors) c.self.view_is
