use Rattle.std.proofs.Common.{◌∙◌, sym, ap}
use Rattle.std.specs.Prelude.{drop}
use Rattle.std.proofs.lemmas.List.{drop-drop}
use Rattle.kssd_model.specs.Rising.{is_rising}
use Rattle.kssd_model.proofs.RisingEntries.{is_rising-drop}
use Rattle.kssd_merge.proofs.listed.ListedOrdered.advance.Goals as goal

pub invariant_of-self : goal.invariant_of-self
invariant_of-self g c = record {
  rising = sym (ap is_rising (drop-drop 1 c.args.self.now.passed c.args.self.now.entries)) ∙ is_rising-drop 1 (drop c.args.self.now.passed c.args.self.now.entries) c.args.self.now.rising;
}

pub returns-then-self-len-clause-ok : goal.returns-then-self-len-clause-ok
returns-then-self-len-clause-ok g c = sym (drop-drop 1 c.args.self.now.passed c.args.self.now.entries)
