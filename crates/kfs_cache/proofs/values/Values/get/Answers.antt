use Rattle.std.proofs.Common.{◌∙◌, ap, sym, Some}
use Rattle.std.specs.Option.{option_copied}
use Rattle.kfs_cache.specs.Parts.{shown}
use Rattle.kfs_cache.proofs.Entries.{order_alone, looked_up}
use Rattle.kfs_cache.proofs.values.Values.get.Goals.{in-Some+in_ok-copy-in-Some, in-None}
use Rattle.kfs_cache.proofs.values.Values.get.Goals as goal

pub returns-in_err-copy-in-Some-clause-same : goal.returns-in_err-copy-in-Some-clause-same
returns-in_err-copy-in-Some-clause-same c = order_alone c.bytes.result.now c.self.inside.cache.entries c.get.follows.lender-at-none.entries _ (ap (λ k. k.entries) c.get.follows.holds-at-none) c.self.view_is

pub returns-clause-found : goal.returns-clause-found
returns-clause-found c =
    let there = c.get.ensures.value ∙ looked_up c.bytes.result.now c.args.key.now c.self.inside.cache.entries _ c.bytes.ensures.value c.self.view_is in
    elim c.match-get.branch [
      | in-Some+in_ok-copy-in-Some w ↦ rw w.result-is (ap Some w.in_ok-copy-in-Some.ensures ∙ sym (ap option_copied w.in-Some.is) ∙ there)
      | in-None w ↦ rw w.result-is (sym (ap option_copied w.in-None.is) ∙ there)
    ]

pub returns-clause-same : goal.returns-clause-same
returns-clause-same c =
    let left = order_alone c.bytes.result.now c.self.inside.cache.entries c.get.follows.lender-at-none.entries _ (ap (λ k. k.entries) c.get.follows.holds-at-none) c.self.view_is in
    elim c.match-get.branch [ in-Some+in_ok-copy-in-Some w ↦ ap (λ v. shown v.cache.entries) w.self-inside-is ∙ left | in-None w ↦ ap (λ v. shown v.cache.entries) w.self-inside-is ∙ left ]
