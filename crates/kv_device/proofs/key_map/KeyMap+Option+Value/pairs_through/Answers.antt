use Rattle.std.proofs.Common.{◌≡◌, ◌∙◌, sym, ap, subst, map, take, List, ℕ, IfOk}
use Rattle.kv_device.specs.Objects.{Objects, pairs_from, pair_of, seen_through}
use Rattle.kv_device.proofs.ViewLaws.{seen_through-none}
use Rattle.kv_device.proofs.WantedLaws.{pairs_through}
use Rattle.kv_device.proofs.key_map.KeyMap+Option+Value.pairs_through.Goals as goal

pub returns-then-len-eq0 : goal.returns-then-len-eq0
returns-then-len-eq0 c =
    subst (λ (o : Objects). IfOk c.pairs_from.result (λ pairs. map pair_of pairs ≡ take c.args.at_most (pairs_from o c.args.from.now c.args.prefix.now)))
    (sym (seen_through-none c.args.self.now c.args.stable.now (sym c.len.ensures ∙ c.if-len-eq0.true))) c.pairs_from.ensures

pub returns : goal.returns
returns c =
    subst (λ (xs : List (List ℕ × List ℕ)). IfOk c.pairs_from-2.result (λ pairs. map pair_of pairs ≡ take c.args.at_most xs))
    (ap (λ (o : Objects). pairs_from o c.args.from.now c.args.prefix.now) (c.in_ok-apply_to.ensures.ok ∙ ap (seen_through c.args.self.now) c.in_ok-near.ensures)
    ∙ pairs_through c.args.self.now c.args.stable.now c.args.from.now c.args.prefix.now)
    c.pairs_from-2.ensures
