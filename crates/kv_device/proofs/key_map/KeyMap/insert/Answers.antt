use Rattle.std.proofs.Common.{◌∙◌, ap, sym, is_some}
use Rattle.std.specs.FinMap as objects
use Rattle.kv_device.proofs.KeyMapLaws.{one_inserted, get_lookup, on_err}
use Rattle.kv_device.proofs.key_map.KeyMap.insert.Goals as goal

pub returns-clause-ok : goal.returns-clause-ok
returns-clause-ok g c =
    one_inserted c.self.inside.map.entries c.insert.new.self.entries c.args.key c.args.value c.in_ok-old.ensures.updates.0
    ∙ ap (λ m. objects.insert m c.args.key c.args.value) c.self.view_is

pub returns-clause-old : goal.returns-clause-old
returns-clause-old g c =
    c.in_ok-old.ensures.old ∙ sym (get_lookup c.self.inside.map.entries c.args.key) ∙ ap (λ m. objects.get m c.args.key) c.self.view_is

pub returns-in_err-old-clause-absent : goal.returns-in_err-old-clause-absent
returns-in_err-old-clause-absent g c =
    on_err c.from_residual.result (ap is_some (sym (ap (λ m. objects.get m c.args.key) c.self.view_is) ∙ get_lookup c.self.inside.map.entries c.args.key ∙ c.in_err-old.ensures.absent))
