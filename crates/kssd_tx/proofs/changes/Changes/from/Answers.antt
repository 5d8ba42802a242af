use Rattle.std.proofs.Common.{◌≡◌, ◌∙◌, ap, take, true, List}
use Rattle.std.proofs.lemmas.Result.{IfOk-weaker}
use Rattle.kssd_entry.specs.declared.entry.Entry.{Entry}
use Rattle.kssd_model.specs.Rising.{is_rising, entries_from}
use Rattle.kssd_model.proofs.RisingEntries.{rising_from}
use Rattle.kssd_tx.proofs.changes.Changes.from.Goals as goal

pub returns-clause-rising : goal.returns-clause-rising
returns-clause-rising c =
    IfOk-weaker c.copies_of.result (λ (copies : List Entry). copies ≡ take c.min-count.result c.rest_from-rest.result.now) (λ (copies : List Entry). is_rising copies ≡ true)
    (λ copies is. ap is_rising is
    ∙ ap (λ (xs : List Entry). is_rising (take c.min-count.result xs)) (c.rest_from-rest.ensures ∙ ap (λ (xs : List Entry). entries_from xs c.args.key.now) c.as_slice.ensures.value)
    ∙ rising_from c.min-count.result c.args.self.now c.args.key.now c.as_slice.ensures.sound.rising)
    c.copies_of.ensures
