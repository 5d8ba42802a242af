use Rattle.std.proofs.Common.{◌≡◌, ◌∙◌, ap, subst, List, ℕ, ◌++◌, Option}
use Rattle.std.specs.Option.{option_copied}
use Rattle.kv_nand.specs.Flash.{Image}
use Rattle.kssd_model.specs.Rising.{merged}
use Rattle.kssd_model.proofs.ReadingOn.{reads_image}
use Rattle.kssd_levels.specs.Two.{two_rest}
use Rattle.kssd_entry.specs.declared.entry.Entry.{Entry}
use Rattle.kssd_run.specs.declared.reader.Run.{Run}
use Rattle.kssd_levels.specs.Reader.{houses_of, reader_rest}
use Rattle.kssd_levels.specs.Runs.{blocks_in}
use Rattle.kssd_levels.specs.Over.{over}
use Rattle.kssd_levels.proofs.Layers.{IsPopped, popped_stands, popped_over, popped_blocks, popped_length}
use Rattle.kssd_levels.proofs.stream.layer.Goals as goal

pub open-requires : goal.open-requires
open-requires g c =
    let flash = g.N.Nand.flash c.args.nand.now in
    let p : IsPopped c.pop-run.result c.args.runs.now c.pop-run.new.self = record { none = c.pop-run.ensures.none; some = c.pop-run.ensures.some } in
    (popped_stands c.pop-run.result c.args.runs.now c.pop-run.new.self flash.blocks flash.image p c.requires.run).0

pub returns-clause-rest : goal.returns-clause-rest
returns-clause-rest g c =
    let image = (g.N.Nand.flash c.args.nand.now).image in
    let from = option_copied c.args.from in
    let older = g.B.Ordered.rest c.args.older image in
    let p : IsPopped c.pop-run.result c.args.runs.now c.pop-run.new.self = record { none = c.pop-run.ensures.none; some = c.pop-run.ensures.some } in
    let two = subst (λ (im : Image). two_rest reader_rest g.B.Ordered.rest c.in_ok-two.two im ≡ merged (reader_rest c.in_ok-reader.reader im) (g.B.Ordered.rest c.args.older im)) (reads_image _ _ c.in_ok-reader.ensures.reads) c.in_ok-two.ensures.rest in
    ap (over image from c.pop-run.new.self) (two ∙ ap (λ (xs : List Entry). merged xs older) c.in_ok-reader.ensures.rest)
    ∙ popped_over image from c.pop-run.result c.args.runs.now c.pop-run.new.self older p

pub returns-clause-houses : goal.returns-clause-houses
returns-clause-houses g c =
    let later = g.B.Ordered.houses c.args.older in
    let p : IsPopped c.pop-run.result c.args.runs.now c.pop-run.new.self = record { none = c.pop-run.ensures.none; some = c.pop-run.ensures.some } in
    ap (λ (xs : List ℕ). blocks_in c.pop-run.new.self ++ xs) (c.in_ok-two.ensures.houses ∙ ap (λ (run : Option Run). houses_of run ++ later) c.in_ok-reader.ensures.run)
    ∙ popped_blocks c.pop-run.result c.args.runs.now c.pop-run.new.self later p

pub returns-clause-fewer : goal.returns-clause-fewer
returns-clause-fewer g c =
    let p : IsPopped c.pop-run.result c.args.runs.now c.pop-run.new.self = record { none = c.pop-run.ensures.none; some = c.pop-run.ensures.some } in
    popped_length c.pop-run.result c.args.runs.now c.pop-run.new.self p

pub returns-clause-left : goal.returns-clause-left
returns-clause-left g c =
    let flash = g.N.Nand.flash c.args.nand.now in
    let p : IsPopped c.pop-run.result c.args.runs.now c.pop-run.new.self = record { none = c.pop-run.ensures.none; some = c.pop-run.ensures.some } in
    (popped_stands c.pop-run.result c.args.runs.now c.pop-run.new.self flash.blocks flash.image p c.requires.run).1
