use Rattle.std.proofs.Common.{◌∙◌, ◌<◌, List, [], refl, sym, ap, subst, arith}
use Rattle.kssd_model.specs.declared.runs.RunInfo.{RunInfo}
use Rattle.kssd_run.specs.declared.reader.Run.{Run}
use Rattle.kssd_run.specs.Run.{run_info}
use Rattle.kssd_levels.specs.declared.kind.JobKind.TheVariants.{Flush, Zero, One}
use Rattle.kssd_levels.specs.Levels.{infos_of, device_of, target_of}
use Rattle.kssd_levels.specs.Sound.{AreLevels}
use Rattle.kssd_levels.proofs.Installing.{IsFresh, after_flush, after_zero, after_one}
use Rattle.kssd_levels.proofs.Keeping.{either, at_kind, flush_keeps, zero_keeps, one_keeps}
use Rattle.kssd_levels.proofs.levels.Levels.install.Goals as goal

pub invariant_of-self : goal.invariant_of-self
invariant_of-self c =
    let self = c.args.self.now in
    let run = c.args.run in
    let some : 0 < (run_info run).entries = omega (arith, c.if-info-gt0.true, ap (λ (info : RunInfo). info.entries) c.info.ensures) in
    let fresh : IsFresh (device_of self) (run_info run) (infos_of self) = record { form = c.requires.form some; differ = c.requires.differ; blocks = c.requires.blocks; number = c.requires.number } in
    record {
      sound = either c.push_newest.result c.push_newest.ensures.ok c.push_newest.ensures.err
          (λ e. subst (λ (top : List Run). AreLevels self.layout.blocks top self.one self.base) (sym e) (after_flush self.layout.blocks run self.zero self.one self.base self.sound (c.requires.level ∙ ap target_of c.in-Flush.is) (c.requires.room c.in-Flush.is) fresh))
          (λ e. subst (λ (top : List Run). AreLevels self.layout.blocks top self.one self.base) (sym e) self.sound);
    }

pub invariant_of-self-in-Zero : goal.invariant_of-self-in-Zero
invariant_of-self-in-Zero c =
    let self = c.args.self.now in
    let run = c.args.run in
    record {
      sound =
          subst (λ (top : List Run). AreLevels self.layout.blocks top c.in_ok-one-in-Zero.one self.base) (sym c.new.ensures)
          (subst (λ (mid : List Run). AreLevels self.layout.blocks [] mid self.base) (sym c.in_ok-one-in-Zero.ensures)
          (after_zero self.layout.blocks run self.zero self.one self.base self.sound (c.requires.level ∙ ap target_of c.in-Zero.is)
          (λ some. record { form = c.requires.form some; differ = c.requires.differ; blocks = c.requires.blocks; number = c.requires.number })));
    }

pub invariant_of-self-in-One : goal.invariant_of-self-in-One
invariant_of-self-in-One c =
    let self = c.args.self.now in
    let run = c.args.run in
    record {
      sound =
          subst (λ (mid : List Run). AreLevels self.layout.blocks self.zero mid c.in_ok-base-in-One.base) (sym c.new-in-One.ensures)
          (subst (λ (base : List Run). AreLevels self.layout.blocks self.zero [] base) (sym c.in_ok-base-in-One.ensures)
          (after_one self.layout.blocks run self.zero self.one self.base self.sound (c.requires.level ∙ ap target_of c.in-One.is)
          (λ some. record { form = c.requires.form some; differ = c.requires.differ; blocks = c.requires.blocks; number = c.requires.number })));
    }

pub returns-in_ok-push_newest-in-Flush-clause-keeps : goal.returns-in_ok-push_newest-in-Flush-clause-keeps
returns-in_ok-push_newest-in-Flush-clause-keeps c =
    at_kind c.args.kind Flush c.args.run c.args.self.now _ c.in-Flush.is
    (flush_keeps c.args.run c.args.self.now _ (record { layout_is = refl; top_is = c.in_ok-push_newest-in-Flush.ensures.ok; mid_is = refl; base_is = refl }))

pub returns-in_ok-one-in-Zero-clause-keeps : goal.returns-in_ok-one-in-Zero-clause-keeps
returns-in_ok-one-in-Zero-clause-keeps c =
    at_kind c.args.kind Zero c.args.run c.args.self.now _ c.in-Zero.is
    (zero_keeps c.args.run c.args.self.now _ (record { layout_is = refl; top_is = c.new.ensures; mid_is = c.in_ok-one-in-Zero.ensures; base_is = refl }))

pub returns-in_ok-base-in-One-clause-keeps : goal.returns-in_ok-base-in-One-clause-keeps
returns-in_ok-base-in-One-clause-keeps c =
    at_kind c.args.kind One c.args.run c.args.self.now _ c.in-One.is
    (one_keeps c.args.run c.args.self.now _ (record { layout_is = refl; top_is = refl; mid_is = c.new-in-One.ensures; base_is = c.in_ok-base-in-One.ensures }))
