use Rattle.std.proofs.Common.{◌≡◌, ◌∙◌, sym, ap, Option, Some, None, List, ℕ}
use Rattle.std.specs.Option.{option_copied}
use Rattle.kssd_levels.specs.Reader.{entries_at, reader_rest}
use Rattle.kssd_levels.proofs.Reading.{opened, all_behind}
use Rattle.kssd_levels.proofs.reader.RunReader.open.Goals as goal

pub returns-in_ok-seek-in-Some-clause-stands : goal.returns-in_ok-seek-in-Some-clause-stands
returns-in_ok-seek-in-Some-clause-stands g c =
    let flash = g.N.Nand.flash c.args.nand.now in
    let e = c.in_ok-seek-in-Some.ensures in
    opened flash.image flash.blocks (Some c.in-Some.key.now) c.args.run c.seek.new.self c.requires e.run e.loaded e.rest

pub returns-in_ok-load-in-None-clause-stands : goal.returns-in_ok-load-in-None-clause-stands
returns-in_ok-load-in-None-clause-stands g c =
    let flash = g.N.Nand.flash c.args.nand.now in
    let e = c.in_ok-load-in-None.ensures in
    opened flash.image flash.blocks None c.args.run c.load.new.self c.requires e.run e.loaded (e.rest ∙ all_behind flash.image c.args.run)

pub returns-in_ok-load-in-None-clause-rest : goal.returns-in_ok-load-in-None-clause-rest
returns-in_ok-load-in-None-clause-rest g c =
    let flash = g.N.Nand.flash c.args.nand.now in
    let all : reader_rest c.load.new.self flash.image ≡ entries_at flash.image None c.args.run = c.in_ok-load-in-None.ensures.rest ∙ all_behind flash.image c.args.run in
    let none : None ≡ option_copied c.args.from = sym (ap option_copied c.in-None.is) in
    all ∙ ap (λ (from : Option (List ℕ)). entries_at flash.image from c.args.run) none
