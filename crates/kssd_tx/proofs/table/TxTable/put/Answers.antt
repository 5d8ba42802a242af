use Rattle.std.proofs.Common.{◌≡◌, ◌∙◌, ◌<◌, ◌&&◌, ◌||◌, nat_le, not, false, List, Some, [], unwrap_or, is_some, length, set, ap, sym, subst, arith}
use Rattle.std.proofs.lemmas.Result.{on_ok_weaker}
use Rattle.kssd_entry.specs.declared.entry.Entry.{Entry}
use Rattle.kssd_entry.specs.Spelling.{key_of}
use Rattle.kssd_model.specs.Rising.{find_entry, put_entry}
use Rattle.kssd_tx.specs.Lists.{Transactions, list_of, changes_of, change_count}
use Rattle.kssd_tx.specs.Refusals.{is_full}
use Rattle.kssd_tx.specs.declared.fault.TxFault.TheVariants.{NoTx, Full}
use Rattle.kssd_tx.proofs.Counting.{list-read, number_below, allowed, lists_put}
use Rattle.kssd_tx.proofs.table.TxTable.put.Goals as goal
use Rattle.kssd_tx.proofs.table.TxTable.put.Goals.{After-put}

-- the number, and what isn't full
low : (c : After-put) → (c.args.tx.0 < 4) × (is_full c.args.self.now c.args.tx.0 (key_of c.args.entry) ≡ false)
low c =
    let lists = c.args.self.now in
    let p = allowed (is_some (list_of lists c.args.tx.0)) (is_full lists c.args.tx.0 (key_of c.args.entry)) NoTx Full c.requires in
    (omega (arith, number_below lists c.args.tx.0 p.0, c.self.invariant.four, ap (λ (xs : Transactions). length xs) c.self.view_is), p.1)

-- the transaction's list
now : (c : After-put) → changes_of c.self.inside.slots c.args.tx.0 ≡ c.in-Some.list
now c =
    ap (λ o. unwrap_or o []) (list-read c.self.inside.slots c.args.tx.0 c.index-self-tx.result (omega (arith, (low c).0, c.self.invariant.four)) c.index-self-tx.is ∙ (c.index-self-tx.is ∙ c.in-Some.is))

pub invariant_of-self : goal.invariant_of-self
invariant_of-self c =
    let room = subst (λ (xs : Transactions). is_full xs c.args.tx.0 (key_of c.args.entry) ≡ false) (sym c.self.view_is) (low c).1 in
    let here = subst (λ (list : List Entry). (not (is_some (find_entry list (key_of c.args.entry))) && (nat_le 640 (length list) || nat_le 1280 (change_count c.self.inside.slots))) ≡ false) (now c) room in
    lists_put c.self.inside.slots c.args.tx.0 c.index-self-tx.result c.in-Some.list c.put.new.self (is_some (find_entry c.in-Some.list (key_of c.args.entry))) c.put.result c.self.invariant (low c).0 c.index-self-tx.is (c.index-self-tx.is ∙ c.in-Some.is) here c.put.ensures.more c.put.ensures.err

pub returns-clause-ok : goal.returns-clause-ok
returns-clause-ok c =
    let same : changes_of c.args.self.now c.args.tx.0 ≡ c.in-Some.list = ap (λ (xs : Transactions). changes_of xs c.args.tx.0) (sym c.self.view_is) ∙ now c in
    on_ok_weaker c.put.result
    (λ is. (λ i. set (c.self.view_is i) c.args.tx.0 (Some ((is ∙ ap (λ (xs : List Entry). put_entry xs c.args.entry) (sym same)) i))))
    c.put.ensures.ok
