use Rattle.std.proofs.Common.{ap, subst, sym, ◌∙◌, T, arith}
use Rattle.std.specs.Ordering.{nat_cmp}
use Rattle.std.specs.FinMap.{find, is_sorted}
use Rattle.kfs_posix.specs.Opens.{FilesState}
use Rattle.kfs_posix.proofs.Slots.{found, beyond, sorted}
use Rattle.kfs_posix.proofs.open_files.OpenFiles.most.Goals as goal

pub returns-clause-beyond : goal.returns-clause-beyond
returns-clause-beyond c = λ k le. sym (ap (λ (s : FilesState). find nat_cmp k s.opens.files) c.self.view_is) ∙ found k c.self.inside.files.slots ∙ beyond c.self.inside.files.slots k (let h = c.capacity.ensures.slots in omega arith)

pub returns-clause-sorted : goal.returns-clause-sorted
returns-clause-sorted c = subst (λ (s : FilesState). T (is_sorted nat_cmp s.opens.files)) c.self.view_is (sorted 0 c.self.inside.files.slots)
