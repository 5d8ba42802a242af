use Rattle.std.proofs.Common.{◌∙◌, ◌≤◌, Option, length, sym, ap, subst}
use Rattle.kssd_model.specs.Rising.{is_rising, entries_from, merged}
use Rattle.kssd_frames.proofs.Lookups.{merge_alone}
use Rattle.kssd_index.specs.declared.index.Older.{Older}
use Rattle.kssd_index.specs.Standing.{older_entries}
use Rattle.kssd_index.proofs.Looking.{from_few}
use Rattle.kssd_index.proofs.index.Index.logged_from.Goals as goal

pub put_over-requires-clause-few : goal.put_over-requires-clause-few
put_over-requires-clause-few c =
    let older = subst (λ (o : Option Older). length (older_entries o) ≤ 1024) c.in-Some.is c.requires.few.1 in (
      from_few c.args.self.now.table c.in_ok-newer.newer c.args.key.now c.in_ok-newer.ensures.value c.requires.few.0,
      from_few c.in-Some.older.table c.in_ok-older-in-Some.older c.args.key.now c.in_ok-older-in-Some.ensures.value older,
    )

pub returns-in-None-clause-value : goal.returns-in-None-clause-value
returns-in-None-clause-value c =
    let newer = entries_from c.args.self.now.table c.args.key.now in
    c.in_ok-newer.ensures.value
    ∙ sym (merge_alone newer (ap is_rising (sym c.in_ok-newer.ensures.value) ∙ c.in_ok-newer.ensures.rising))
    ∙ ap (λ (o : Option Older). merged newer (entries_from (older_entries o) c.args.key.now)) (sym c.in-None.is)
