use Rattle.std.proofs.Common.{◌≡◌, ◌∙◌, ◌%◌, true, sym, arith}
use Rattle.std.proofs.lemmas.Grind.{common_steps}
use Rattle.kssd_model.specs.Groups.{is_numbered}
use Rattle.kssd_model.proofs.GroupsPages.{spelled_as}
use Rattle.kssd_log.proofs.scanning.look_at.Goals as goal
use Rattle.kssd_log.proofs.scanning.look_at.Goals.{else-page-eq31-via-then-page-eq31+else-entries-ne2, else-page-eq31-via-else-page-eq31}

pub returns-else-page-eq31-clause-spelled : goal.returns-else-page-eq31-clause-spelled
returns-else-page-eq31-clause-spelled c =
    let read = c.in-Ok.entries in
    let found : c.has_number.result ≡ true = grind (arith, common_steps) in
    let numbered : is_numbered c.args.number c.args.buffer.now ≡ true = sym c.has_number.ensures ∙ found in
    let s = spelled_as c.args.number c.args.buffer.now read.head read.entries numbered c.in-Ok.ensures.spelled.0 c.in-Ok.ensures.spelled.1 in
    let turns : c.args.page % 32 ≡ 31 → read.head.flags ≡ 2 = λ last. elim c.else-page-eq31.branch [
      | else-page-eq31-via-then-page-eq31+else-entries-ne2 w ↦ omega arith
      | else-page-eq31-via-else-page-eq31 w ↦ absurd (omega arith)
    ] in
    (s.0, s.1, turns)
