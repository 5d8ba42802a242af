use Rattle.std.proofs.Common.{◌∙◌, not, List, length, sym, ap, arith}
use Rattle.std.proofs.lemmas.List.{take_all}
use Rattle.kssd_entry.specs.declared.entry.Entry.{Entry}
use Rattle.kssd_model.specs.Rising.{merged, is_rising, find_entry}
use Rattle.kssd_root.proofs.Counting.{count_more, new_where_none, old_where_some}
use Rattle.kssd_index.proofs.append.len_with.Goals as goal
use Rattle.kssd_index.proofs.append.len_with.Goals.{then-is_none, else-is_none}

pub loop-entry-init : goal.loop-entry-init
loop-entry-init c = record {
  count = c.len-len.ensures.value ∙ sym (ap (λ (xs : List Entry). length xs) c.entries-known.ensures.value);
  few = c.len-len.ensures.most;
}

pub loop-entry-preserved : goal.loop-entry-preserved
loop-entry-preserved c =
    let items = c.as_slice-entry-items.result.now in
    let known = c.entries-known.result.now in
    let e = c.entry-item.result in
    let i = c.loop-entry.entry-index in
    let more = count_more items known i e (ap is_rising c.as_slice-entry-items.ensures ∙ c.requires.rising) (ap is_rising c.entries-known.ensures.value ∙ c.entries-known.ensures.rising) c.loop-entry-test.true c.entry-item.is in
    let found = c.found_in.ensures ∙ ap (find_entry known) c.key.ensures in
    elim c.if-is_none.branch [
      | then-is_none w ↦
          let new = new_where_none c.found_in.result (find_entry known (Rattle.kssd_entry.specs.Spelling.key_of e)) found (c.is_none.ensures ∙ ap not w.if-is_none.true) in
          rw w.len-is (record { count = omega (arith, more, new, c.loop-entry.invariant.count); few = omega (arith, c.loop-entry.invariant.few) })
      | else-is_none w ↦
          let old = old_where_some c.found_in.result (find_entry known (Rattle.kssd_entry.specs.Spelling.key_of e)) found (c.is_none.ensures ∙ ap not w.if-is_none.false) in
          rw w.len-is (record { count = omega (arith, more, old, c.loop-entry.invariant.count); few = omega (arith, c.loop-entry.invariant.few) })
    ]

pub returns : goal.returns
returns c =
    c.loop-entry.invariant.count
    ∙ (λ j. length (merged (take_all c.loop-entry.entry-index c.as_slice-entry-items.result.now c.loop-entry-test.false j) (c.entries-known.ensures.value j)))
    ∙ ap (λ (xs : List Entry). length (merged xs c.args.table.now)) c.as_slice-entry-items.ensures
