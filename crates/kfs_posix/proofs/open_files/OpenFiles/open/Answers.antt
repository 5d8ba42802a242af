use Rattle.std.proofs.Common.{ap, sym, ◌∙◌, ◌<◌, length, arith}
use Rattle.std.specs.Ordering.{nat_cmp}
use Rattle.std.specs.FinMap.{find}
use Rattle.kfs_posix.specs.Opens.{FilesState, opened_as}
use Rattle.kfs_posix.proofs.Slots.{found, set_some, inserted}
use Rattle.kfs_posix.proofs.open_files.OpenFiles.open.Goals as goal

pub returns-clause-free : goal.returns-clause-free
returns-clause-free c = ap (λ (s : FilesState). find nat_cmp c.insert_reserved-number.result s.opens.files) (sym c.self.view_is) ∙ found c.insert_reserved-number.result c.self.inside.files.slots ∙ c.insert_reserved-number.ensures.was_vacant

pub returns-clause-opened : goal.returns-clause-opened
returns-clause-opened c =
    let lt : c.args.fd < length c.self.inside.descriptors = let h = c.self.invariant in let r = c.requires.fd in omega arith in
    let a = set_some c.self.inside.descriptors c.args.fd c.insert_reserved-number.result lt in
    let b = inserted c.self.inside.files c.insert_reserved-number.new.self c.insert_reserved-number.result c.args.file c.insert_reserved-number.ensures.updates in
    (λ i. record { descriptors = a i; files = b i }) ∙ ap (λ (s : FilesState). opened_as s.opens c.args.fd c.insert_reserved-number.result c.args.file) c.self.view_is
