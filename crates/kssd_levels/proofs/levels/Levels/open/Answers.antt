use Rattle.std.proofs.Common.{◌≡◌, ◌∙◌, ℕ, map, ◌<◌, ◌+◌, List, length, get_or, take, sym, ap, subst, arith}
use Rattle.std.specs.Prelude.{nat_eq}
use Rattle.std.specs.List.{All, IsDistinct}
use Rattle.std.proofs.lemmas.List.{get_or_default, take_all}
use Rattle.kv_nand.specs.Flash.{Image}
use Rattle.kssd_model.specs.declared.runs.RunInfo.{RunInfo}
use Rattle.kssd_model.specs.RunPages.{AreRunBlocks, IsGoodRun}
use Rattle.kssd_model.proofs.ReadingOn.{reads_still, reads_image, reads_blocks, reads_then_reads}
use Rattle.kssd_image.specs.AnchorForm.{IsRunForm, blocks_of}
use Rattle.std.proofs.lemmas.Result.{err_from_is_err_and}
use Rattle.kssd_run.specs.declared.reader.Run.{Run}
use Rattle.kssd_run.specs.Run.{run_info, IsOpened}
use Rattle.kssd_levels.specs.Runs.{StandRuns}
use Rattle.kssd_levels.specs.Opening.{is_zero, is_one, is_base}
use Rattle.kssd_levels.proofs.Sorting.{sorted_levels, sorted_are, AreSorted, blocks_at, good_more, adds_sorted, stand_more, few_more, few_all, run_fails}
use Rattle.kssd_levels.proofs.levels.Levels.open.Goals as goal

pub open-requires-clause-blocks : goal.open-requires-clause-blocks
open-requires-clause-blocks g c =
    let start = g.N.Nand.flash c.args.nand.now in
    let items = c.as_slice-info-items.result.now in
    let i = c.loop-info.info-index in
    let info = c.info-item.result in
    let lt : i < length items = omega arith in
    let form = c.requires.form in
    let same = sym c.as_slice-info-items.ensures in
    let device = c.requires.device ∙ sym (reads_blocks _ _ c.loop-info.invariant.reads) in
    subst (λ (blocks : ℕ). AreRunBlocks blocks info.blocks) device
    (blocks_at c.args.layout.now.blocks items i info lt c.info-item.is
    (subst (All (IsRunForm c.args.layout.now.blocks)) same form.runs)
    (subst (λ (infos : List RunInfo). IsDistinct nat_eq (blocks_of infos)) same form.blocks_differ))

pub open-requires-clause-device : goal.open-requires-clause-device
open-requires-clause-device g c =
    let device = c.requires.device ∙ sym (reads_blocks _ _ c.loop-info.invariant.reads) in
    let exact = c.args.layout.now.exact in
    (omega (arith, device, exact.least), omega (arith, device, exact.most))

pub open-requires-clause-count : goal.open-requires-clause-count
open-requires-clause-count g c =
    let start = g.N.Nand.flash c.args.nand.now in
    let items = c.as_slice-info-items.result.now in
    let i = c.loop-info.info-index in
    let info = c.info-item.result in
    let lt : i < length items = omega arith in
    let form = subst (IsRunForm c.args.layout.now.blocks) (sym c.info-item.is) (subst (All (IsRunForm c.args.layout.now.blocks)) (sym c.as_slice-info-items.ensures) c.requires.form.runs i info lt) in
    form.block_count

pub open-requires-clause-pages : goal.open-requires-clause-pages
open-requires-clause-pages g c =
    let start = g.N.Nand.flash c.args.nand.now in
    let items = c.as_slice-info-items.result.now in
    let i = c.loop-info.info-index in
    let info = c.info-item.result in
    let lt : i < length items = omega arith in
    let form = subst (IsRunForm c.args.layout.now.blocks) (sym c.info-item.is) (subst (All (IsRunForm c.args.layout.now.blocks)) (sym c.as_slice-info-items.ensures) c.requires.form.runs i info lt) in
    λ none. omega (arith, form.pages_some)

pub loop-info-init : goal.loop-info-init
loop-info-init g c = record {
  reads = reads_still _;
  few = omega arith;
  sorted = record { zero_are = ap (map run_info) c.new-opened.ensures.zero; one_are = ap (map run_info) c.new-opened.ensures.one; base_are = ap (map run_info) c.new-opened.ensures.base };
  good = λ k d within. absurd (omega arith);
  zero_stands = subst (λ (runs : List Run). StandRuns runs (g.N.Nand.flash c.args.nand.now).blocks (g.N.Nand.flash c.args.nand.now).image) (sym c.new-opened.ensures.zero) tt;
  one_stands = subst (λ (runs : List Run). StandRuns runs (g.N.Nand.flash c.args.nand.now).blocks (g.N.Nand.flash c.args.nand.now).image) (sym c.new-opened.ensures.one) tt;
  base_stands = subst (λ (runs : List Run). StandRuns runs (g.N.Nand.flash c.args.nand.now).blocks (g.N.Nand.flash c.args.nand.now).image) (sym c.new-opened.ensures.base) tt;
}

pub loop-info-preserved : goal.loop-info-preserved
loop-info-preserved g c =
    let start = g.N.Nand.flash c.args.nand.now in
    let items = c.as_slice-info-items.result.now in
    let i = c.loop-info.info-index in
    let info = c.info-item.result in
    let lt : i < length items = omega arith in
    let run = c.in_ok-open.field-0 in
    let was = g.N.Nand.flash c.loop-info.nand in
    let opened =
    subst (λ (im : Image). IsOpened info start.blocks im run) (reads_image _ _ c.loop-info.invariant.reads)
    (subst (λ (blocks : ℕ). IsOpened info blocks was.image run) (reads_blocks _ _ c.loop-info.invariant.reads) c.in_ok-open.ensures.ok) in
    let at : run_info run ≡ get_or items i (run_info run) = opened.info_is ∙ c.info-item.is ∙ get_or_default items i info (run_info run) lt in
    let adds = c.in_ok-add.ensures in
    record {
      reads = reads_then_reads _ _ _ c.loop-info.invariant.reads c.in_ok-open.ensures.reads;
      few = few_more items i info start.reads was.reads _ lt c.info-item.is c.loop-info.invariant.few c.in_ok-open.ensures.few;
      sorted = adds_sorted items i run c.loop-info.opened c.add.new.self lt at c.loop-info.invariant.sorted adds;
      good = good_more start.image items i info lt c.info-item.is c.loop-info.invariant.good opened.good;
      zero_stands = stand_more (is_zero run) run c.loop-info.opened.zero c.add.new.self.zero start.blocks start.image adds.zero opened.stands c.loop-info.invariant.zero_stands;
      one_stands = stand_more (is_one run) run c.loop-info.opened.one c.add.new.self.one start.blocks start.image adds.one opened.stands c.loop-info.invariant.one_stands;
      base_stands = stand_more (is_base run) run c.loop-info.opened.base c.add.new.self.base start.blocks start.image adds.base opened.stands c.loop-info.invariant.base_stands;
    }

pub invariant_of-result : goal.invariant_of-result
invariant_of-result g c =
    let items = c.as_slice-info-items.result.now in
    let form = c.requires.form in
    let all : take c.loop-info.info-index items ≡ c.args.anchor.now.runs = take_all c.loop-info.info-index items (omega arith) ∙ c.as_slice-info-items.ensures in
    record { sound = sorted_levels c.args.layout.now.blocks c.args.anchor.now.runs c.loop-info.opened form.levels form.runs form.blocks_differ form.numbers_differ (subst (λ (infos : List RunInfo). AreSorted infos c.loop-info.opened) all c.loop-info.invariant.sorted) }

pub returns-clause-ok : goal.returns-clause-ok
returns-clause-ok g c =
    let items = c.as_slice-info-items.result.now in
    let start = g.N.Nand.flash c.args.nand.now in
    let all : take c.loop-info.info-index items ≡ c.args.anchor.now.runs = take_all c.loop-info.info-index items (omega arith) ∙ c.as_slice-info-items.ensures in
    record {
      infos_are = sorted_are c.args.anchor.now.runs c.loop-info.opened c.requires.form.levels (subst (λ (infos : List RunInfo). AreSorted infos c.loop-info.opened) all c.loop-info.invariant.sorted);
      stand = record {
        device_is = sym c.requires.device;
        zero = c.loop-info.invariant.zero_stands;
        one = c.loop-info.invariant.one_stands;
        base = c.loop-info.invariant.base_stands;
      };
      good = subst (All (IsGoodRun start.image)) all c.loop-info.invariant.good;
    }

pub returns-clause-few : goal.returns-clause-few
returns-clause-few g c = few_all c.as_slice-info-items.result.now c.args.anchor.now.runs c.loop-info.info-index _ _ c.as_slice-info-items.ensures c.loop-info.invariant.few

pub returns-in_err-open-clause-few : goal.returns-in_err-open-clause-few
returns-in_err-open-clause-few g c =
    let start = g.N.Nand.flash c.args.nand.now in
    let items = c.as_slice-info-items.result.now in
    let i = c.loop-info.info-index in
    let info = c.info-item.result in
    let lt : i < length items = omega arith in
    few_all items c.args.anchor.now.runs (i + 1) start.reads _ c.as_slice-info-items.ensures
    (few_more items i info start.reads (g.N.Nand.flash c.loop-info.nand).reads _ lt c.info-item.is c.loop-info.invariant.few c.in_err-open.ensures.few)

pub returns-in_err-add-clause-few : goal.returns-in_err-add-clause-few
returns-in_err-add-clause-few g c =
    let start = g.N.Nand.flash c.args.nand.now in
    let items = c.as_slice-info-items.result.now in
    let i = c.loop-info.info-index in
    let info = c.info-item.result in
    let lt : i < length items = omega arith in
    few_all items c.args.anchor.now.runs (i + 1) start.reads _ c.as_slice-info-items.ensures
    (few_more items i info start.reads (g.N.Nand.flash c.loop-info.nand).reads _ lt c.info-item.is c.loop-info.invariant.few c.in_ok-open.ensures.few)

pub returns-in_err-open-clause-err : goal.returns-in_err-open-clause-err
returns-in_err-open-clause-err g c =
    let start = g.N.Nand.flash c.args.nand.now in
    let items = c.as_slice-info-items.result.now in
    let lt : c.loop-info.info-index < length items = omega arith in
    let p = err_from_is_err_and c.from_residual.result c.from_residual.ensures.1 in
    rw (p.1, p.2) (run_fails items c.args.anchor.now.runs c.loop-info.info-index c.info-item.result start (g.N.Nand.flash c.loop-info.nand) (g.N.Nand.flash c.open.new.nand) c.in_err-open.field-0.0 c.as_slice-info-items.ensures lt c.info-item.is c.loop-info.invariant.reads c.loop-info.invariant.good c.in_err-open.ensures.err)
