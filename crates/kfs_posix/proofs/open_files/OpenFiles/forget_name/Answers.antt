use Rattle.std.proofs.Common.{◌≡◌, ◌+◌, ap, sym, subst, ◌∙◌, arith}
use Rattle.kfs_posix.specs.Opens.{FilesState, with_file}
use Rattle.kfs_posix.proofs.Forgetting.{Forgot, forgot_none, forgot_one, forgot_past, forgot_all}
use Rattle.kfs_posix.proofs.open_files.OpenFiles.forget_name.Goals as goal
use Rattle.kfs_posix.proofs.open_files.OpenFiles.forget_name.Goals.{in-Some, in_default}

pub loop-number-init : goal.loop-number-init
loop-number-init c = forgot_none c.args.node c.most-number-end.result c.args.self.now.opens c.most-number-end.ensures.sorted c.most-number-end.ensures.beyond

pub loop-number-preserved : goal.loop-number-preserved
loop-number-preserved c =
    let was = c.args.self.now.opens in
    let mid = c.loop-number.self.opens in
    elim c.match-at.branch [
      | in-Some w ↦ forgot_one c.args.node c.most-number-end.result c.loop-number.number was mid c.match-at.self.opens w.in-Some.file c.loop-number.invariant (sym w.in-Some.ensures)
          (ap (λ (s : FilesState). s.opens) w.self-is ∙ w.replace.ensures ∙ ap (with_file mid c.loop-number.number) w.unnamed.ensures)
      | in_default w ↦ subst (λ (s : FilesState). Forgot c.args.node c.most-number-end.result (c.loop-number.number + 1) was s.opens) (sym w.self-is)
          (forgot_past c.args.node c.most-number-end.result c.loop-number.number was mid c.loop-number.invariant (sym w.in_default.ensures))
    ]

pub returns : goal.returns
returns c =
    let end = c.most-number-end.result in
    let at : c.loop-number.number ≡ end = let t = c.loop-number-test.false in let a = c.loop-number.auto.number-end in omega arith in
    forgot_all c.args.node end c.args.self.now.opens c.loop-number.self.opens (subst (λ n. Forgot c.args.node end n c.args.self.now.opens c.loop-number.self.opens) at c.loop-number.invariant)
