use Rattle.std.proofs.Common.{rules, not, ap, ◌∙◌, filter, ℕ, List}
use Rattle.std.proofs.lemmas.Map.Made.{filter_same_pairs}
use Rattle.kfs_model.specs.Tree.{Place}
use Rattle.kfs_model.specs.Step.{is_same_place}
use Rattle.kfs_plain.proofs.removing.without.Goals as goal

pub returns : goal.returns
returns c =
    filter_same_pairs _ (λ e. not (is_same_place c.args.place.now e.0)) _ (λ k v b w f' t. search rules) _ _ c.retain.ensures.filtered
    ∙ ap (λ (es : List (Place × ℕ)). filter (λ e. not (is_same_place c.args.place.now e.0)) es) c.in_ok-left.ensures
