use Rattle.std.proofs.Common.{◌∙◌, ◌+◌, ◌<◌, ◌≤◌, length, arith, Result, Ok, Err, OnOk}
use Rattle.std.proofs.lemmas.Result.{IfOk-weaker}
use Rattle.kssd_levels.proofs.Reading.{within_page, passed_in_page, passed_last, passes_in_page, passes_page}
use Rattle.kssd_levels.proofs.reader.RunReaderOrdered.advance.Goals as goal

pub returns-then-self-len-clause-ok : goal.returns-then-self-len-clause-ok
returns-then-self-len-clause-ok g c =
    let flash = g.N.Nand.flash c.args.nand.now in
    passed_in_page c.args.self.now flash.image (within_page c.args.self.now flash.blocks flash.image c.requires.stands c.requires.some)

pub returns-then-self-len-clause-still : goal.returns-then-self-len-clause-still
returns-then-self-len-clause-still g c =
    let flash = g.N.Nand.flash c.args.nand.now in
    let more : c.args.self.now.passed + 1 < length c.args.self.now.page = omega arith in
    passes_in_page c.args.self.now flash.blocks flash.image c.requires.stands more

pub returns-clause-ok : goal.returns-clause-ok
returns-clause-ok g c =
    let flash = g.N.Nand.flash c.args.nand.now in
    let self = c.args.self.now in
    let last : length self.page ≤ self.passed + 1 = omega arith in
    IfOk-weaker c.load.result _ _ (λ _ rest. rest ∙ passed_last self flash.image (within_page self flash.blocks flash.image c.requires.stands c.requires.some) last) c.load.ensures.rest

still : {X E : Type 0} (r : Result X E) (run : Type 0) (rest : Type 0) (loaded : Type 0) (stands : Type 0) → (run → rest → loaded → stands) → OnOk r run → OnOk r rest → OnOk r loaded → OnOk r stands
still (Ok x) run rest loaded stands f a b c = f a b c
still (Err e) run rest loaded stands f a b c = tt

pub returns-clause-still : goal.returns-clause-still
returns-clause-still g c =
    let flash = g.N.Nand.flash c.args.nand.now in
    let self = c.args.self.now in
    let last : length self.page ≤ self.passed + 1 = omega arith in
    still c.load.result _ _ _ _
    (λ run rest loaded. passes_page self c.load.new.self flash.blocks flash.image c.requires.stands run loaded (rest ∙ passed_last self flash.image (within_page self flash.blocks flash.image c.requires.stands c.requires.some) last))
    c.load.ensures.run c.load.ensures.rest c.load.ensures.loaded
