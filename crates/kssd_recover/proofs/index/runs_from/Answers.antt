use Rattle.std.proofs.Common.{◌≡◌, ◌∙◌, Bool, [], ◌++◌, filter}
use Rattle.std.specs.Prelude.{nat_le}
use Rattle.kssd_run.specs.declared.reader.Run.{Run}
use Rattle.kssd_run.specs.Run.{run_info}
use Rattle.kssd_recover.proofs.Streaming.{filter_all, few_filtered}
use Rattle.kssd_recover.proofs.index.runs_from.Goals as goal

pub returns-clause-runs : goal.returns-clause-runs
returns-clause-runs c =
    let levels = c.args.levels.now in
    let test : Run → Bool = λ run. nat_le c.args.least (run_info run).level in
    let first : c.append_from.new.all ≡ [] ++ filter test levels.zero = c.in_ok-append_from.ensures ∙ (λ i. (c.new-runs.ensures i) ++ filter test (c.level.ensures i)) in
    let second : c.append_from-2.new.all ≡ ([] ++ filter test levels.zero) ++ filter test levels.one = c.in_ok-append_from-2.ensures ∙ (λ i. (first i) ++ filter test (c.level-2.ensures i)) in
    c.in_ok-append_from-3.ensures ∙ (λ i. (second i) ++ filter test (c.level-3.ensures i)) ∙ filter_all test levels

pub returns-clause-few : goal.returns-clause-few
returns-clause-few c =
    let levels = c.args.levels.now in
    few_filtered (λ run. nat_le c.args.least (run_info run).level) levels c.append_from-3.new.all (returns-clause-runs c) levels.sound.zero_few levels.sound.one_few levels.sound.base_few
