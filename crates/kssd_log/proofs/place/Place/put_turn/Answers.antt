use Rattle.std.proofs.Common.{◌≡◌, ◌≤◌, ◌∙◌, List, ℕ, length, get_or, ap, arith}
use Rattle.kssd_entry.proofs.Again.{kind_of_page}
use Rattle.kssd_model.specs.Groups.{log_head}
use Rattle.kssd_log.proofs.place.Place.put_turn.Goals as goal

pub program-requires-clause-kind : goal.program-requires-clause-kind
program-requires-clause-kind g c =
    let size : length c.args.packer.now.bytes ≤ 4096 = omega (arith, ap (λ p. length p.bytes) c.requires.empty) in
    let kind : get_or c.finish.result.now 4096 0 ≡ 2 = ap (λ (page : List ℕ). get_or page 4096 0) c.finish.ensures ∙ kind_of_page (log_head 2 c.args.self.now.seq) c.args.packer.now.bytes c.args.packer.now.count size in
    omega (arith, kind, g.met.N.Nand.kinds)
