use Rattle.std.proofs.Common.{◌∙◌, ◌*◌, ◌+◌, refl, ap, subst, arith}
use Rattle.std.proofs.lemmas.Result.{err_from_is_err_and}
use Rattle.kv_nand.specs.Flash.{Flash, Image, Whole, with_page, LeftByProgram}
use Rattle.kv_nand.proofs.Chaining.{read_works, programmed_works, falls_stops, works_then_works, works_then_stops}
use Rattle.kssd_values.proofs.Copying.{kind_is, target_block, keeps_copy, sound_copy, copies, copies_page, fills_copy}
use Rattle.kssd_values.proofs.values.Values.copy_into.Goals as goal

pub program-requires-clause-device : goal.program-requires-clause-device
program-requires-clause-device g c =
    omega (arith, target_block c.args.self.now c.args.target c.requires.target c.requires.few, c.requires.device, ap (λ (f : Flash). f.blocks) c.in_ok-bytes.ensures.read)

pub program-requires-clause-kind : goal.program-requires-clause-kind
program-requires-clause-kind g c =
    omega (arith, kind_is ((g.N.Nand.flash c.args.nand.now).image c.args.page) c.in_ok-bytes.bytes c.in_ok-bytes.ensures.value c.requires.stands)

pub returns-in_err-copy-clause-keeps : goal.returns-in_err-copy-clause-keeps
returns-in_err-copy-clause-keeps g c =
    let flash = g.N.Nand.flash in
    let same = ap (λ (f : Flash). f.image) c.in_ok-bytes.ensures.read in
    keeps_copy c.args.self.now c.args.target c.requires.target c.requires.few (flash c.args.nand.now).image (flash c.program.new.nand).image c.in_ok-bytes.bytes c.requires.fills
    (subst (λ (im : Image). LeftByProgram im (32 * c.args.target.block + c.args.target.next) c.in_ok-bytes.bytes (flash c.program.new.nand).image) same c.program.ensures.left)

pub returns-in_err-copy-clause-err : goal.returns-in_err-copy-clause-err
returns-in_err-copy-clause-err g c =
    let flash = g.N.Nand.flash in
    let p = err_from_is_err_and c.from_residual-in_err-copy.result c.from_residual-in_err-copy.ensures.1 in
    let read = read_works (flash c.args.nand.now) (flash c.read_whole.new.nand) (g.met.N.Nand.sound c.args.nand.now) c.in_ok-bytes.ensures.read in
    rw (p.1, p.2) (works_then_stops (flash c.args.nand.now) (flash c.read_whole.new.nand) (flash c.program.new.nand) _ 0 1 1 0 read
    (falls_stops (flash c.read_whole.new.nand) (flash c.program.new.nand) c.in_err-copy.field-0.0 (g.met.N.Nand.sound c.read_whole.new.nand) c.in_err-copy.ensures.err))

pub invariant_of-self : goal.invariant_of-self
invariant_of-self g c = record { sound = sound_copy c.args.self.now c.args.target c.requires.target c.requires.few c.program.new.self c.in_ok-copy.ensures.next }

pub returns-clause-ok : goal.returns-clause-ok
returns-clause-ok g c = copies c.args.self.now c.args.target c.requires.target c.requires.few _ c.program.new.self c.in_ok-copy.copy refl refl refl refl refl c.in_ok-copy.ensures.next c.in_ok-copy.ensures.page

pub returns-clause-copied : goal.returns-clause-copied
returns-clause-copied g c =
    let flash = g.N.Nand.flash in
    let same = ap (λ (f : Flash). f.image) c.in_ok-bytes.ensures.read in
    let is = ap (λ (f : Flash). f.image) c.in_ok-copy.ensures.ok ∙ ap (λ (im : Image). with_page im (32 * c.args.target.block + c.args.target.next) (Whole c.in_ok-bytes.bytes)) same in
    copies_page c.args.self.now c.args.target c.requires.target c.requires.few (flash c.args.nand.now).image (flash c.program.new.nand).image c.args.page c.in_ok-copy.copy c.in_ok-bytes.bytes c.requires.fills c.in_ok-copy.ensures.page c.in_ok-bytes.ensures.value is

pub returns-clause-fills : goal.returns-clause-fills
returns-clause-fills g c =
    let flash = g.N.Nand.flash in
    let same = ap (λ (f : Flash). f.image) c.in_ok-bytes.ensures.read in
    let is = ap (λ (f : Flash). f.image) c.in_ok-copy.ensures.ok ∙ ap (λ (im : Image). with_page im (32 * c.args.target.block + c.args.target.next) (Whole c.in_ok-bytes.bytes)) same in
    let p = fills_copy c.args.self.now c.args.target c.requires.target c.requires.few (flash c.args.nand.now).image (flash c.program.new.nand).image c.in_ok-bytes.bytes c.program.new.self c.requires.fills c.in_ok-copy.ensures.next is in
    record { opened = p.0; target = p.1 }

pub returns-clause-keeps : goal.returns-clause-keeps
returns-clause-keeps g c =
    let flash = g.N.Nand.flash in
    let same = ap (λ (f : Flash). f.image) c.in_ok-bytes.ensures.read in
    keeps_copy c.args.self.now c.args.target c.requires.target c.requires.few (flash c.args.nand.now).image (flash c.program.new.nand).image c.in_ok-bytes.bytes c.requires.fills
    (subst (λ (im : Image). LeftByProgram im (32 * c.args.target.block + c.args.target.next) c.in_ok-bytes.bytes (flash c.program.new.nand).image) same c.program.ensures.left)

pub returns-clause-works : goal.returns-clause-works
returns-clause-works g c =
    let flash = g.N.Nand.flash in
    let read = read_works (flash c.args.nand.now) (flash c.read_whole.new.nand) (g.met.N.Nand.sound c.args.nand.now) c.in_ok-bytes.ensures.read in
    works_then_works (flash c.args.nand.now) (flash c.read_whole.new.nand) (flash c.program.new.nand) 0 1 1 0 read
    (programmed_works (flash c.read_whole.new.nand) (flash c.program.new.nand) (32 * c.args.target.block + c.args.target.next) c.in_ok-bytes.bytes (g.met.N.Nand.sound c.read_whole.new.nand) c.in_ok-copy.ensures.ok)
