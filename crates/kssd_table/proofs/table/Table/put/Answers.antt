use Rattle.std.proofs.Common.{◌∙◌, ap, List, cond, Some}
use Rattle.std.proofs.lemmas.Result.{on_ok_weaker}
use Rattle.kssd_entry.specs.declared.entry.Entry.{Entry}
use Rattle.kssd_model.specs.Rising.{find_entry, has_key}
use Rattle.kssd_model.proofs.RisingEntries.{find-put}
use Rattle.kssd_table.proofs.table.Table.put.Goals as goal

pub returns-clause-wins : goal.returns-clause-wins
returns-clause-wins c =
    on_ok_weaker c.put.result
    (λ is key. ap (λ (xs : List Entry). find_entry xs key) is ∙ find-put c.self.inside.entries c.args.entry key ∙ ap (λ (xs : List Entry). cond (has_key key c.args.entry) (Some c.args.entry) (find_entry xs key)) c.self.view_is)
    c.put.ensures.ok
