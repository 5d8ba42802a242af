use Rattle.std.proofs.Common.{◌≡◌, ◌∙◌, ◌+◌, length, ap, sym, arith, drop}
use Rattle.kssd_entry.specs.Spelling.{entry_bytes}
use Rattle.kssd_entry.proofs.Filling.{length-entry_bytes}
use Rattle.kssd_log.specs.Append.{pages_more}
use Rattle.kssd_log.proofs.Counting.{step_is, pages_same, pages_next, pages_done, entry_bound}
use Rattle.kssd_log.proofs.append.group_pages.Goals as goal
use Rattle.kssd_log.proofs.append.group_pages.Goals.{then-used-size-gt-DATA_BYTES, else-used-size-gt-DATA_BYTES}

pub loop-entry-preserved : goal.loop-entry-preserved
loop-entry-preserved c =
    let items = c.as_slice-entry-items.result.now in
    let i = c.loop-entry.entry-index in
    let e = c.entry-item.result in
    let used = c.loop-entry.used in
    let step = step_is items i e c.size-size.ensures.fits c.loop-entry-test.true c.entry-item.is in
    let size : c.size-size.result ≡ length (entry_bytes e) = c.size-size.ensures.size ∙ sym (length-entry_bytes e) in
    elim c.if-used-size-gt-DATA_BYTES.branch [
      | then-used-size-gt-DATA_BYTES w ↦
          let next = ap (pages_more used) step.left ∙ pages_next used e (drop (i + 1) items) (omega (arith, size, w.if-used-size-gt-DATA_BYTES.true)) in
          rw (w.pages-is, w.used-is, size) (record {
            count = omega (arith, next, c.loop-entry.invariant.count);
            used = omega (arith, entry_bound e step.fits);
            few = omega (arith, c.loop-entry.invariant.few);
          })
      | else-used-size-gt-DATA_BYTES w ↦
          let same = ap (pages_more used) step.left ∙ pages_same used e (drop (i + 1) items) (omega (arith, size, w.if-used-size-gt-DATA_BYTES.false)) in
          rw (w.pages-is, w.used-is, size) (record {
            count = omega (arith, same, c.loop-entry.invariant.count);
            used = omega (arith, size, w.if-used-size-gt-DATA_BYTES.false);
            few = omega (arith, c.loop-entry.invariant.few);
          })
    ]

pub returns : goal.returns
returns c = omega (arith, c.loop-entry.invariant.count, pages_done c.loop-entry.used c.as_slice-entry-items.result.now c.loop-entry.entry-index c.loop-entry-test.false, ap (pages_more 4096) c.as_slice-entry-items.ensures)
