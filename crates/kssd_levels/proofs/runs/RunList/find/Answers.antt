use Rattle.std.proofs.Common.{◌≡◌, ◌∙◌, ℕ, ◌<◌, ◌≤◌, ◌+◌, length, get_or, sym, ap, List, Option, Some, None, arith}
use Rattle.kv_nand.specs.Flash.{Image}
use Rattle.kssd_entry.specs.declared.entry.Entry.{Entry}
use Rattle.kssd_image.specs.Stages.{runs_map}
use Rattle.kssd_model.specs.Rising.{find_entry, first_of}
use Rattle.kssd_model.specs.RunPages.{run_entries}
use Rattle.kssd_model.proofs.ReadingOn.{reads_image, reads_then_reads}
use Rattle.kssd_run.specs.declared.reader.Run.{Run}
use Rattle.kssd_run.specs.Run.{run_info}
use Rattle.kssd_levels.specs.Runs.{infos_in}
use Rattle.kssd_levels.proofs.Finding.{stands_at, found_first, first_is, first_none}
use Rattle.kssd_levels.proofs.runs.RunList.find.Goals as goal

pub returns-then-is_some-clause-found : goal.returns-then-is_some-clause-found
returns-then-is_some-clause-found g c =
    let flash = g.N.Nand.flash c.args.nand.now in
    let runs = c.deref-run-items.result.now in
    let within : c.loop-run.run-index < length runs = omega arith in
    let run = c.run-item.result in
    let stands = stands_at runs c.loop-run.run-index run flash.blocks flash.image within c.run-item.is c.loop-run.invariant.stands in
    let e : c.in_ok-found.found ≡ find_entry (run_entries flash.image (run_info run)) c.args.key.now = c.in_ok-found.ensures.found ∙ ap (λ (im : Image). find_entry (run_entries im (run_info run)) c.args.key.now) (reads_image _ _ c.loop-run.invariant.reads) in
    first_is c.in_ok-found.found (find_entry (runs_map flash.image (infos_in (Rattle.std.proofs.Common.drop (c.loop-run.run-index + 1) runs))) c.args.key.now) (sym c.is_some.ensures ∙ c.if-is_some.true)
    ∙ ap (λ (o : Option Entry). first_of o (find_entry (runs_map flash.image (infos_in (Rattle.std.proofs.Common.drop (c.loop-run.run-index + 1) runs))) c.args.key.now)) e
    ∙ sym (found_first runs c.loop-run.run-index run flash.blocks flash.image c.args.key.now within c.run-item.is stands.0)
    ∙ c.loop-run.invariant.left
    ∙ ap (λ (rs : List Run). find_entry (runs_map flash.image (infos_in rs)) c.args.key.now) (c.deref-run-items.ensures.value ∙ c.self.view_is)

pub loop-run-preserved : goal.loop-run-preserved
loop-run-preserved g c =
    let flash = g.N.Nand.flash c.args.nand.now in
    let runs = c.deref-run-items.result.now in
    let within : c.loop-run.run-index < length runs = omega arith in
    let run = c.run-item.result in
    let later = find_entry (runs_map flash.image (infos_in (Rattle.std.proofs.Common.drop (c.loop-run.run-index + 1) runs))) c.args.key.now in
    let stands = stands_at runs c.loop-run.run-index run flash.blocks flash.image within c.run-item.is c.loop-run.invariant.stands in
    let e : c.in_ok-found.found ≡ find_entry (run_entries flash.image (run_info run)) c.args.key.now = c.in_ok-found.ensures.found ∙ ap (λ (im : Image). find_entry (run_entries im (run_info run)) c.args.key.now) (reads_image _ _ c.loop-run.invariant.reads) in
    record {
      reads = reads_then_reads _ _ _ c.loop-run.invariant.reads c.in_ok-found.ensures.reads;
      few = omega (arith, c.loop-run.invariant.few, c.in_ok-found.ensures.few);
      left =
          sym (first_none c.in_ok-found.found later (sym c.is_some.ensures ∙ c.if-is_some.false))
          ∙ ap (λ (o : Option Entry). first_of o later) e
          ∙ sym (found_first runs c.loop-run.run-index run flash.blocks flash.image c.args.key.now within c.run-item.is stands.0)
          ∙ c.loop-run.invariant.left;
      stands = stands.1;
    }
