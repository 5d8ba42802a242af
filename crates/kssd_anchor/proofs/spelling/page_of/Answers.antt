use Rattle.std.proofs.Common.{◌∙◌, arith, ap, length}
use Rattle.kssd_model.proofs.AnchorSizes.{length-anchor_bytes}
use Rattle.kssd_anchor.proofs.PageMaking.{page_made}
use Rattle.kssd_anchor.proofs.spelling.page_of.Goals as goal

pub put-requires : goal.put-requires
put-requires c =
    let is = c.bytes.ensures ∙ c.in_ok-fields.ensures.bytes in
    omega (arith, ap length is, length-anchor_bytes c.args.anchor.now, c.requires.room)

pub returns-clause-page : goal.returns-clause-page
returns-clause-page c =
    let is = c.bytes.ensures ∙ c.in_ok-fields.ensures.bytes in
    rw (c.put-3.ensures, c.to_be_bytes.ensures, c.put-2.ensures, c.put.ensures, is) (page_made c.args.anchor.now c.in_ok-page.page c.in_ok-page.ensures c.requires.room)
