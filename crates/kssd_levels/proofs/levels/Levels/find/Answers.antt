use Rattle.std.proofs.Common.{◌∙◌, sym, ap, Option}
use Rattle.std.proofs.lemmas.Result.{IfOk-weaker}
use Rattle.kv_nand.specs.Flash.{Image}
use Rattle.kssd_entry.specs.declared.entry.Entry.{Entry}
use Rattle.kssd_image.specs.Stages.{runs_map}
use Rattle.kssd_model.specs.Rising.{find_entry, first_of}
use Rattle.kssd_model.proofs.ReadingOn.{reads_image, reads_then_reads}
use Rattle.kssd_levels.specs.Runs.{infos_in}
use Rattle.kssd_levels.proofs.Lookups.{find_levels}
use Rattle.kssd_levels.proofs.Finding.{first_is, first_none}
use Rattle.kssd_levels.proofs.levels.Levels.find.Goals as goal

pub returns-then-is_some-clause-found : goal.returns-then-is_some-clause-found
returns-then-is_some-clause-found g c =
    let flash = g.N.Nand.flash c.args.nand.now in
    let levels = c.args.self.now in
    first_is c.in_ok-found.found _ (sym c.is_some.ensures ∙ c.if-is_some.true)
    ∙ ap (λ (o : Option Entry). first_of o (first_of (find_entry (runs_map flash.image (infos_in levels.one)) c.args.key.now) (find_entry (runs_map flash.image (infos_in levels.base)) c.args.key.now))) c.in_ok-found.ensures.found
    ∙ sym (find_levels levels.zero levels.one levels.base flash.blocks flash.image c.args.key.now c.requires.zero c.requires.one)

pub returns-then-is_some-2-clause-found : goal.returns-then-is_some-2-clause-found
returns-then-is_some-2-clause-found g c =
    let flash = g.N.Nand.flash c.args.nand.now in
    let levels = c.args.self.now in
    let base = find_entry (runs_map flash.image (infos_in levels.base)) c.args.key.now in
    let one = c.in_ok-found-2.ensures.found ∙ ap (λ (im : Image). find_entry (runs_map im (infos_in levels.one)) c.args.key.now) (reads_image _ _ c.in_ok-found.ensures.reads) in
    let none = first_none c.in_ok-found.found c.in_ok-found-2.found (sym c.is_some.ensures ∙ c.if-is_some.false) in
    first_is c.in_ok-found-2.found base (sym c.is_some-2.ensures ∙ c.if-is_some-2.true)
    ∙ sym (first_none c.in_ok-found.found (first_of c.in_ok-found-2.found base) (sym c.is_some.ensures ∙ c.if-is_some.false))
    ∙ ap (λ (o : Option Entry). first_of o (first_of c.in_ok-found-2.found base)) c.in_ok-found.ensures.found
    ∙ ap (λ (o : Option Entry). first_of (find_entry (runs_map flash.image (infos_in levels.zero)) c.args.key.now) (first_of o base)) one
    ∙ sym (find_levels levels.zero levels.one levels.base flash.blocks flash.image c.args.key.now c.requires.zero c.requires.one)

pub returns-clause-found : goal.returns-clause-found
returns-clause-found g c =
    let flash = g.N.Nand.flash c.args.nand.now in
    let levels = c.args.self.now in
    let base = find_entry (runs_map flash.image (infos_in levels.base)) c.args.key.now in
    let zero_none = first_none c.in_ok-found.found (first_of c.in_ok-found-2.found base) (sym c.is_some.ensures ∙ c.if-is_some.false) in
    let one_none = first_none c.in_ok-found-2.found base (sym c.is_some-2.ensures ∙ c.if-is_some-2.false) in
    let one = c.in_ok-found-2.ensures.found ∙ ap (λ (im : Image). find_entry (runs_map im (infos_in levels.one)) c.args.key.now) (reads_image _ _ c.in_ok-found.ensures.reads) in
    let all =
    sym (zero_none ∙ one_none)
    ∙ ap (λ (o : Option Entry). first_of o (first_of c.in_ok-found-2.found base)) c.in_ok-found.ensures.found
    ∙ ap (λ (o : Option Entry). first_of (find_entry (runs_map flash.image (infos_in levels.zero)) c.args.key.now) (first_of o base)) one
    ∙ sym (find_levels levels.zero levels.one levels.base flash.blocks flash.image c.args.key.now c.requires.zero c.requires.one) in
    let same = reads_image _ _ (reads_then_reads _ _ _ c.in_ok-found.ensures.reads c.in_ok-found-2.ensures.reads) in
    IfOk-weaker c.find-3.result _ _
    (λ found is. is ∙ ap (λ (im : Image). find_entry (runs_map im (infos_in levels.base)) c.args.key.now) same ∙ all)
    c.find-3.ensures.found
