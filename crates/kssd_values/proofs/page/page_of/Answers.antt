use Rattle.std.proofs.Common.{◌≡◌, ◌∙◌, ◌++◌, ◌∷◌, [], arith, length, ap, get_or, List, ℕ}
use Rattle.kv_base.specs.Sizes.{written}
use Rattle.kssd_entry.specs.Spelling.{spare_bytes}
use Rattle.kssd_image.specs.ValuePages.{value_head, value_page}
use Rattle.kssd_values.proofs.PageMaking.{page_made, kind_there}
use Rattle.kssd_values.proofs.page.page_of.Goals as goal
use Rattle.kssd_values.proofs.page.page_of.Goals.{After-put-3}

page_is : (c : After-put-3) → c.put-3.new.self ≡ value_page c.args.key.now c.args.value.now
page_is c =
    let spare : c.spare_of-spare.result ≡ spare_bytes value_head (length c.args.value.now) ++ length c.args.key.now ∷ [] =
    c.spare_of-spare.ensures ∙ (λ i. spare_bytes value_head (length (c.bytes-2.ensures.value i)) ++ length (c.bytes-3.ensures.value i) ∷ []) in
    c.put-3.ensures
    ∙ (λ i. written (c.put-2.ensures i) 4113 (c.bytes-4.ensures.value i))
    ∙ ap (λ (p : List ℕ). written (written p 4096 c.spare_of-spare.result) 4113 c.args.key.now) c.put.ensures
    ∙ ap (λ (v : List ℕ). written (written (written c.in_ok-page.page 0 v) 4096 c.spare_of-spare.result) 4113 c.args.key.now) c.bytes.ensures.value
    ∙ page_made c.args.key.now c.args.value.now c.in_ok-page.page c.spare_of-spare.result c.in_ok-page.ensures c.requires.key c.bytes.ensures.sizes spare

pub returns-clause-page : goal.returns-clause-page
returns-clause-page c = page_is c

pub returns-clause-kind : goal.returns-clause-kind
returns-clause-kind c =
    let kind : get_or c.put-3.new.self 4096 0 ≡ 4 = ap (λ (p : List ℕ). get_or p 4096 0) (page_is c) ∙ kind_there c.args.key.now c.args.value.now c.bytes.ensures.sizes in
    omega (arith, kind)
