use Rattle.std.proofs.Common.{◌∙◌, ap, sym, false, List, Bool, get_or}
use Rattle.std.specs.Prelude.{count_by}
use Rattle.kssd_values.proofs.Sound.{none_at_all, first_is_free}
use Rattle.kssd_values.proofs.values.Values.lowest_free.Goals as goal

pub unreachable-requires : goal.unreachable-requires
unreachable-requires c =
    c.requires (ap (λ (xs : List Bool). count_by (λ f. f) xs) (sym c.deref.ensures.value) ∙ none_at_all c.deref.result.now c.in-None.ensures)

pub returns : goal.returns
returns c =
    ap (λ (xs : List Bool). get_or xs c.in-Some.block false) (sym c.deref.ensures.value) ∙ first_is_free c.deref.result.now c.in-Some.block c.in-Some.ensures
