use Rattle.std.proofs.Common.{◌≡◌, ◌∙◌, ℕ, ◌+◌, List, [], Option, Some, None, Bor, length, take, refl, sym, ap, subst}
use Rattle.std.specs.Prelude.{IsSome}
use Rattle.std.specs.Option.{option_copied}
use Rattle.kssd_entry.specs.declared.entry.Entry.{Entry}
use Rattle.kssd_model.specs.Rising.{is_rising}
use Rattle.kssd_run.specs.declared.reader.Run.{Run}
use Rattle.kssd_run.specs.Writing.{IsStarted}
use Rattle.kssd_levels.specs.Levels.{free_blocks_of}
use Rattle.kssd_levels.specs.Laws.{entries_in}
use Rattle.kssd_compact.specs.Job.{inputs_total}
use Rattle.kssd_compact.specs.Starting.{frozen_entries}
use Rattle.kssd_compact.proofs.Starts.{IsBeginning, is_started}
use Rattle.kssd_compact.proofs.job.Job.start.Goals as goal

no_table : (o : Option (Bor (List Entry))) (P : Type 0) → (IsSome o → P) → (P → ⊥) → frozen_entries (option_copied o) ≡ []
no_table None P f g = refl
no_table (Some x) P f g = absurd (g (f refl))

pub returns : goal.returns
returns c =
    let inputs = c.in_ok-inputs.inputs in
    let levels = c.args.levels.now in
    let frozen = frozen_entries (option_copied c.args.frozen) in
    let total : c.total_of-total.result ≡ inputs_total c.args.kind frozen levels = c.total_of-total.ensures ∙ ap (λ (xs : List Entry). length xs + entries_in inputs.runs) c.in_ok-inputs.ensures.entries ∙ ap (λ (rs : List Run). length frozen + entries_in rs) c.in_ok-inputs.ensures.runs in
    let start : IsBeginning c.args.kind levels frozen c.args.number inputs c.total_of-total.result c.in_ok-blocks.blocks c.in_ok-writer.writer c.begun.result = record {
      table = record {
        kind_is = c.requires.kind;
        rising = ap is_rising (sym c.in_ok-inputs.ensures.entries) ∙ c.in_ok-inputs.ensures.rising;
        none = λ other. no_table c.args.frozen _ c.requires.frozen.1 other;
      };
      entries = c.in_ok-inputs.ensures.entries;
      runs = c.in_ok-inputs.ensures.runs;
      total_is = total;
      count = c.in_ok-blocks.ensures.count ∙ c.blocks_for.ensures;
      room = c.requires.room;
      lowest = c.in_ok-blocks.ensures.lowest ∙ ap (λ (n : ℕ). take n (free_blocks_of levels)) c.blocks_for.ensures;
      own = c.in_ok-blocks.ensures.blocks;
      apart = c.in_ok-blocks.ensures.apart;
      started = subst (λ (level : ℕ). IsStarted level c.args.number c.in_ok-blocks.blocks c.in_ok-writer.writer) c.target_of.ensures c.in_ok-writer.ensures;
      begins = c.begun.ensures;
    } in
    is_started c.args.kind levels frozen c.args.number inputs c.total_of-total.result c.in_ok-blocks.blocks c.in_ok-writer.writer c.begun.result start
