use Rattle.std.proofs.Common.{◌≡◌, ◌∙◌, ℕ, ◌*◌, ◌/◌, get_or, refl, sym, ap, subst, arith}
use Rattle.std.proofs.lemmas.Bool.{true≢false, false≢true}
use Rattle.std.proofs.Math.Logic.{∥∥₁_elim, ∥∥₁_map}
use Rattle.std.proofs.lemmas.Option.{get_or_from_slice_get}
use Rattle.kv_nand.specs.Flash.{Flash, MayProgram, Whole, with_page, with_erased}
use Rattle.kssd_entry.specs.Spelling.{page_bytes}
use Rattle.kssd_run.proofs.Opened.{few_blocks}
use Rattle.kssd_model.specs.RunPages.{run_page}
use Rattle.kssd_run.proofs.Merely.{may_program-prop}
use Rattle.kssd_run.proofs.Stepping.{less_than, next_head, holds_page, may_program, writer_programs, writes_programs, writes_erases}
use Rattle.kssd_run.proofs.writer.RunWriter.step.Goals as goal

pub returns-then-self-clause-ok : goal.returns-then-self-clause-ok
returns-then-self-clause-ok g c =
    let flash = g.N.Nand.flash in
    let before = (flash c.args.nand.now).image in
    let writer = c.args.self.now in
    let block : get_or writer.info.blocks writer.begun 0 ≡ c.get.result = get_or_from_slice_get writer.info.blocks writer.begun c.get.result 0 c.get.ensures in
    let after = ap (λ (f : Flash). f.image) c.in_ok-erase.ensures.ok ∙ ap (with_erased before) (sym block) in
    record {
      waits = c.requires.waits;
      closed = refl;
      fills = refl;
      programs = λ e. absurd (false≢true e);
      erases = λ _. (refl, refl);
      level = refl;
      number = refl;
      blocks = refl;
      entries = refl;
      writes = λ fed h. writes_erases (flash c.args.nand.now).blocks writer _ before (flash c.erase.new.self).image fed c.requires.blocks c.requires.room c.if-self.true after refl refl refl refl refl refl h;
    }

pub returns-then-self-clause-outside : goal.returns-then-self-clause-outside
returns-then-self-clause-outside g c q ne =
    let writer = c.args.self.now in
    let block : get_or writer.info.blocks writer.begun 0 ≡ c.get.result = get_or_from_slice_get writer.info.blocks writer.begun c.get.result 0 c.get.ensures in
    let index : writer.begun ≡ writer.info.pages / 32 = omega (arith, c.if-self.true) in
    c.erase.ensures.left.elsewhere q (λ e. ne (e ∙ sym block ∙ ap (λ (i : ℕ). get_or writer.info.blocks i 0) index))

pub program_page-requires-clause-page : goal.program_page-requires-clause-page
program_page-requires-clause-page g c =
    ∥∥₁_map c.requires.writes (λ fed. (fed.1.waiting, holds_page c.args.self.now (g.N.Nand.flash c.args.nand.now).image fed.0 fed.1 c.requires.waits))

pub program_page-requires-clause-free : goal.program_page-requires-clause-free
program_page-requires-clause-free g c =
    let image = (g.N.Nand.flash c.args.nand.now).image in
    let writer = c.args.self.now in
    subst (MayProgram image) (sym c.page_place-place.ensures)
    (∥∥₁_elim c.requires.writes (may_program-prop image (run_page writer.info.blocks writer.info.pages))
    (λ fed. may_program writer image fed.0 fed.1 (less_than writer.info.pages (32 * writer.begun) writer.sound.begun_first c.if-self.false)))

pub invariant_of-self-2 : goal.invariant_of-self-2
invariant_of-self-2 g c =
    let writer = c.args.self.now in
    let few = few_blocks (g.N.Nand.flash c.args.nand.now).blocks writer.info.blocks c.requires.device.0 c.requires.device.1 c.requires.blocks in
    record {
      sound = writer_programs writer.info writer.firsts c.push.new.self c.in_ok-first.first writer.waiting c.program_page.new.packer writer.filling writer.waits writer.closed writer.begun writer.sound c.requires.waits
          (less_than writer.info.pages (32 * writer.begun) writer.sound.begun_first c.if-self.false) (omega (arith, few, c.requires.room)) c.in_ok-push.ensures.ok;
    }

pub returns-clause-ok : goal.returns-clause-ok
returns-clause-ok g c =
    let flash = g.N.Nand.flash in
    let before = (flash c.args.nand.now).image in
    let writer = c.args.self.now in
    let after = ap (λ (f : Flash). f.image) c.in_ok-first.ensures.ok ∙ ap (λ (p : ℕ). with_page before p (Whole (page_bytes (next_head writer.info) writer.waiting.bytes writer.waiting.count))) c.page_place-place.ensures in
    record {
      waits = refl;
      closed = refl;
      fills = refl;
      programs = λ _. (refl, refl);
      erases = λ e. absurd (true≢false e);
      level = refl;
      number = refl;
      blocks = refl;
      entries = refl;
      writes = λ fed h. writes_programs (flash c.args.nand.now).blocks writer _ before (flash c.program_page.new.nand).image fed c.in_ok-first.first c.requires.blocks c.requires.room c.requires.waits after c.in_ok-first.ensures.first refl c.in_ok-push.ensures.ok refl refl refl h;
    }
