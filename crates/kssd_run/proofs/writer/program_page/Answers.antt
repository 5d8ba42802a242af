use Rattle.std.proofs.Common.{◌≡◌, ◌∙◌, ◌≤◌, ℕ, List, length, get_or, ap, arith}
use Rattle.std.proofs.Math.Logic.{∥∥₁_elim, ∥∥₁_map}
use Rattle.kssd_entry.specs.Spelling.{page_bytes}
use Rattle.std.specs.Coded.{le_prop}
use Rattle.kssd_entry.specs.Packing.{Packed}
use Rattle.kssd_entry.proofs.Again.{kind_of_page}
use Rattle.kssd_run.proofs.writer.program_page.Goals as goal

pub program-requires-clause-kind : goal.program-requires-clause-kind
program-requires-clause-kind g c = ∥∥₁_elim c.requires.page le_prop (λ some.
    let page = some.1.page in
    let size : length c.args.packer.now.bytes ≤ 4096 = omega (arith, page.room, ap (λ (p : Packed). length p.bytes) some.1.holds) in
    let kind : get_or c.finish-page.result.now 4096 0 ≡ 3 = ap (λ (b : List ℕ). get_or b 4096 0) c.finish-page.ensures ∙ kind_of_page c.args.head c.args.packer.now.bytes c.args.packer.now.count size ∙ page.kind_is in
    omega (arith, kind, g.met.N.Nand.kinds))

pub first_key_of-requires : goal.first_key_of-requires
first_key_of-requires g c = ∥∥₁_map c.requires.page (λ some. (c.args.head, some.0, record { page = some.1.page; spelled = c.finish-page.ensures ∙ ap (λ (p : Packed). page_bytes c.args.head p.bytes p.count) some.1.holds }))
