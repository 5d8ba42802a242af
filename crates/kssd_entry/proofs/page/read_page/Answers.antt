use Rattle.std.proofs.Common.{◌≡◌, ◌∙◌, ℕ, length, ap, subst, List}
use Rattle.std.specs.Prelude.{IfOk}
use Rattle.kssd_entry.specs.Spelling.{page_of, IsPageOf}
use Rattle.kssd_entry.proofs.Spelled.{reading_spelled}
use Rattle.kssd_entry.proofs.Again.{reading_again}
use Rattle.kssd_entry.proofs.page.read_page.Goals as goal

pub returns-clause-spelled : goal.returns-clause-spelled
returns-clause-spelled c =
    let same = c.bytes-bytes.ensures.value in
    subst (λ (bytes : List ℕ). IfOk c.parts_of.result (λ p. (bytes ≡ page_of p.head p.entries) × IsPageOf c.args.kind p.head p.entries)) same
    (reading_spelled c.args.kind c.bytes-bytes.result.now c.parts_of.result c.parts_of.ensures.bytes (ap length same ∙ c.bytes-bytes.ensures.size) c.parts_of.ensures.gives)

pub returns-clause-again : goal.returns-clause-again
returns-clause-again c = λ head entries page is. reading_again c.args.kind c.bytes-bytes.result.now c.parts_of.result head entries c.parts_of.ensures.gives page (c.bytes-bytes.ensures.value ∙ is)
