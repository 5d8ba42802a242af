use Rattle.std.proofs.Common.{ℕ, Bool, Option, Some, None, IfNone, cond, ◌∙◌, sym, ap, subst}
use Rattle.kfs_damages.specs.Damages.{IsBadInode}
use Rattle.kfs_judge.specs.Judged.{AreShort, FoundLeast}
use Rattle.kfs_judge.specs.Tables.{IsLeastOf, bad_inode, is_dir, lower}
use Rattle.kfs_judge.proofs.Inodes.{least_of_inodes, all_short}
use Rattle.kfs_judge.proofs.kinds.least_inode_of_all.Goals as goal

pub returns-then-is_dir-clause-found : goal.returns-then-is_dir-clause-found
returns-then-is_dir-clause-found c = λ m are next.
    let t = c.args.tables.now in
    let least = c.least_inode-least.result in
    let is = subst (λ (n : ℕ). IsLeastOf (bad_inode n) c.args.rows.now least) next c.least_inode-least.ensures in
    let dir = sym (c.is_dir.ensures ∙ ap is_dir c.inode_at.ensures) ∙ c.if-is_dir.true in
    subst (FoundLeast (IsBadInode m)) (ap (λ (b : Bool). cond b least (lower least (Some 1))) dir) (least_of_inodes m c.args.rows.now are t c.requires least is)

pub returns-then-is_dir-clause-short : goal.returns-then-is_dir-clause-short
returns-then-is_dir-clause-short c = by c.least_inode-least.result c.least_inode-least.ensures
  where
    by : (o : Option ℕ) → IsLeastOf (bad_inode c.args.next) c.args.rows.now o → IfNone o (AreShort c.args.rows.now)
    by None is = all_short c.args.next c.args.rows.now is
    by (Some n) is = tt

pub returns-else-is_dir-clause-found : goal.returns-else-is_dir-clause-found
returns-else-is_dir-clause-found c = λ m are next.
    let t = c.args.tables.now in
    let least = c.least_inode-least.result in
    let is = subst (λ (n : ℕ). IsLeastOf (bad_inode n) c.args.rows.now least) next c.least_inode-least.ensures in
    let dir = sym (c.is_dir.ensures ∙ ap is_dir c.inode_at.ensures) ∙ c.if-is_dir.false in
    subst (FoundLeast (IsBadInode m)) (ap (λ (b : Bool). cond b least (lower least (Some 1))) dir ∙ sym c.lower.ensures) (least_of_inodes m c.args.rows.now are t c.requires least is)
