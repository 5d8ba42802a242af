use Rattle.std.proofs.Common.{◌∙◌, List, length, ap, arith}
use Rattle.kssd_entry.specs.declared.entry.Entry.{Entry}
use Rattle.kssd_model.specs.Rising.{merged, is_rising}
use Rattle.kssd_frames.proofs.Lookups.{merge_alone}
use Rattle.kssd_index.proofs.Looking.{put_over_is}
use Rattle.kssd_index.proofs.reading.put_over.Goals as goal

pub put_all-requires-2-clause-room : goal.put_all-requires-2-clause-room
put_all-requires-2-clause-room c =
    let first = c.in_ok-put_all.ensures ∙ ap (merged c.args.older.now) c.in_ok-table.ensures ∙ merge_alone c.args.older.now c.requires.older_rising in
    omega (arith, ap (λ (es : List Entry). length es) first, c.requires.few)

pub returns-clause-value : goal.returns-clause-value
returns-clause-value c =
    put_over_is c.args.newer.now c.args.older.now c.put_all.new.table c.put_all-2.new.table c.in_ok-entries.entries c.requires.older_rising
    (c.in_ok-put_all.ensures ∙ ap (merged c.args.older.now) c.in_ok-table.ensures) c.in_ok-put_all-2.ensures (c.in_ok-entries.ensures ∙ c.entries.ensures.value)

pub returns-clause-rising : goal.returns-clause-rising
returns-clause-rising c = ap is_rising (c.in_ok-entries.ensures ∙ c.entries.ensures.value) ∙ c.entries.ensures.rising
