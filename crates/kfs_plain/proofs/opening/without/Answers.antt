use Rattle.std.proofs.Common.{rules, ap, ◌∙◌, filter, List, ℕ, not}
use Rattle.std.specs.Prelude.{◌==◌}
use Rattle.std.specs.List.{list_any}
use Rattle.std.proofs.lemmas.Map.Made.{filter_same_pairs}
use Rattle.kfs_plain.proofs.opening.without.Goals as goal

pub returns : goal.returns
returns c =
    let fewer = filter_same_pairs _ (λ e. not (e.0 == c.args.fd)) _ (λ k v b w f' t. search rules) _ _ c.retain.ensures.filtered ∙ ap (λ (ds : List (ℕ × ℕ)). filter (λ e. not (e.0 == c.args.fd)) ds) c.in_ok-descriptors.ensures in
    let had = filter_same_pairs _ (λ e. list_any (λ f. f.1 == e.0) c.retain.new.self.entries) _ (λ k v b w f' t. search rules) _ _ c.retain-2.ensures.filtered in
    let left = had ∙ (λ i. filter (λ e. list_any (λ f. f.1 == e.0) (fewer i)) (c.in_ok-descriptions.ensures i)) in
    λ i. record { descriptors = fewer i; descriptions = left i }
