use Rattle.std.proofs.Common.{◌≡◌, ◌∙◌, ℕ, Option, sym, ap}
use Rattle.kssd_entry.specs.declared.entry.Entry.{Entry}
use Rattle.kssd_tx.specs.Lists.{change_of}
use Rattle.kssd_values.specs.Blocks.{mark_at}
use Rattle.kssd_machine.specs.Sizes.{listed}
use Rattle.kssd_machine.specs.Marked.{is_named}
use Rattle.kssd_mounted.specs.Marking.{is_page}
use Rattle.kssd_store.proofs.Renaming.{older_named, remarks_are}
use Rattle.kssd_store.proofs.naming.name_page.Goals as goal

pub mark_pages-requires-clause-older : goal.mark_pages-requires-clause-older
mark_pages-requires-clause-older c = λ at is. c.requires.older.region at (older_named _ (change_of c.args.mounted.now.changes c.args.tx.0 c.args.key) c.page_of-older.result at c.find.ensures.value c.page_of-older.ensures is)

pub returns-in-Ok-clause-marks : goal.returns-in-Ok-clause-marks
returns-in-Ok-clause-marks c =
    let older = change_of c.args.mounted.now.changes c.args.tx.0 c.args.key in
    let named : (p : ℕ) → is_named p (listed older) ≡ is_page p c.page_of-older.result = λ p. sym (ap (λ (o : Option Entry). is_named p (listed o)) c.find.ensures.value) ∙ c.page_of-older.ensures p in
    λ q. c.mark_pages.ensures.marks q ∙ remarks_are (listed older) c.page_of-older.result c.args.page c.args.length q c.args.key (mark_at c.args.mounted.now.values) named c.requires.apart
