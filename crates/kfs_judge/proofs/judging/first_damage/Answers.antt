use Rattle.std.proofs.Common.{rules, sym, arith}
use Rattle.kfs_judge.specs.Judged.{limits_of}
use Rattle.kfs_judge.proofs.Deciding.{no_head, bad_object, no_head_none, high_changes, high_next, has_head, next_is, strange_least}
use Rattle.kfs_judge.proofs.judging.first_damage.Goals as goal

pub returns-in_default : goal.returns-in_default
returns-in_default c = λ m are. no_head (limits_of c.args.room) m (no_head_none m c.args.rows.now are (sym c.in_default.ensures))

pub returns-then-head-ge-TOO_HIGH : goal.returns-then-head-ge-TOO_HIGH
returns-then-head-ge-TOO_HIGH c = λ m are. no_head (limits_of c.args.room) m (high_changes m c.args.rows.now are c.in-Some.head (sym c.in-Some.ensures) c.if-head-ge-TOO_HIGH.true)

pub returns-then-head-ge-TOO_HIGH-2 : goal.returns-then-head-ge-TOO_HIGH-2
returns-then-head-ge-TOO_HIGH-2 c = λ m are. no_head (limits_of c.args.room) m (high_next m c.args.rows.now are c.in-Some.head (sym c.in-Some.ensures) c.if-head-ge-TOO_HIGH-2.true)

pub returns-in-Some-first_strange : goal.returns-in-Some-first_strange
returns-in-Some-first_strange c = λ m are.
    let few = c.if-head-ge-TOO_HIGH.false in
    let low = c.if-head-ge-TOO_HIGH-2.false in
    let head = has_head m c.args.rows.now are c.in-Some.head (sym c.in-Some.ensures) (omega arith) (omega arith) in
    bad_object (limits_of c.args.room) m head c.in-Some-first_strange.place (strange_least m c.args.rows.now are c.in-Some-first_strange.place (first_of (omega arith, search rules)) c.in-Some-first_strange.ensures)

pub returns : goal.returns
returns c = λ m are.
    let few = c.if-head-ge-TOO_HIGH.false in
    let low = c.if-head-ge-TOO_HIGH-2.false in
    let head = has_head m c.args.rows.now are c.in-Some.head (sym c.in-Some.ensures) (omega arith) (omega arith) in
    c.in_ok-node_damage.ensures m are head (next_is m c.args.rows.now are c.in-Some.head (sym c.in-Some.ensures))
