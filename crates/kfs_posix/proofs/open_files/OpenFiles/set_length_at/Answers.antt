use Rattle.std.proofs.Common.{ap, subst, sym, ◌∙◌, T, Some}
use Rattle.std.specs.Ordering.{nat_cmp}
use Rattle.std.specs.Cmp.{nat_cmp_total}
use Rattle.std.specs.Option.{option_map}
use Rattle.std.specs.FinMap.{find, is_sorted}
use Rattle.std.specs.FinMap.Entries.{is_sorted-put}
use Rattle.kfs_laws.proofs.Lookups.{number_put, number_other}
use Rattle.kfs_posix.specs.Opens.{Opens, relengthed_file}
use Rattle.kfs_posix.proofs.open_files.OpenFiles.set_length_at.Goals as goal

pub returns-in-Some-clause-at : goal.returns-in-Some-clause-at
returns-in-Some-clause-at c =
    let o = c.args.self.now.opens in
    ap (λ (x : Opens). find nat_cmp c.args.number x.files) c.replace.ensures ∙ number_put c.args.number c.with_length.result o.files ∙ ap Some c.with_length.ensures
    ∙ ap (option_map (relengthed_file c.args.node c.args.length)) c.in-Some.ensures

pub returns-in-Some-clause-others : goal.returns-in-Some-clause-others
returns-in-Some-clause-others c = λ k apart. ap (λ (x : Opens). find nat_cmp k x.files) c.replace.ensures ∙ number_other k c.args.number c.with_length.result c.args.self.now.opens.files apart

pub returns-in-Some-clause-sorted : goal.returns-in-Some-clause-sorted
returns-in-Some-clause-sorted c = λ h. subst (λ (x : Opens). T (is_sorted nat_cmp x.files)) (sym c.replace.ensures) (is_sorted-put nat_cmp nat_cmp_total c.args.number c.with_length.result c.args.self.now.opens.files h)
