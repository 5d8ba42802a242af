use Rattle.std.proofs.Common.{ℕ, Bool, Some, None, cond, ◌∙◌, sym, ap}
use Rattle.kfs_judge.specs.Tables.{bad_entry, is_bad_name}
use Rattle.kfs_judge.proofs.kinds.bad_entry.Goals as goal

pub returns-then-is_bad_name : goal.returns-then-is_bad_name
returns-then-is_bad_name c =
    sym (ap (bad_entry c.args.tables.now) c.in-Entry.is
    ∙ ap (λ (n : ℕ). cond (is_bad_name c.args.tables.now c.in-Entry.parent c.in-Entry.child c.in-Entry.is_name n) (Some n) None) (sym c.unwrap_or-node.ensures)
    ∙ ap (λ (b : Bool). cond b (Some c.unwrap_or-node.result) None) (sym c.is_bad_name.ensures ∙ c.if-is_bad_name.true))
