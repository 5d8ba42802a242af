use Rattle.std.proofs.Common.{◌≡◌, ◌∙◌, Err, arith, length, ap, get_or, List, ℕ}
use Rattle.std.proofs.Common.{inl, inr}
use Rattle.kssd_image.specs.ValuePages.{key_in_page}
use Rattle.kssd_values.proofs.PageMaking.{size_read, are_named}
use Rattle.kssd_values.proofs.page.name_in.Goals as goal

pub new-length-requires : goal.new-length-requires
new-length-requires c =
    let named = are_named c.args.page.now c.bytes-bytes.ensures.size c.requires in
    let size = size_read c.bytes-bytes.result.now c.args.page.now c.be16_at.result c.be16_at.ensures c.bytes-bytes.ensures.value in
    (omega (arith, size, named.length_is.0), omega (arith, size, named.length_is.1))

pub part-requires : goal.part-requires
part-requires c =
    let named = are_named c.args.page.now c.bytes-bytes.ensures.size c.requires in
    let size : length c.bytes-bytes.result.now ≡ 4160 = ap (λ (b : List ℕ). length b) c.bytes-bytes.ensures.value ∙ c.bytes-bytes.ensures.size in
    let short : get_or c.bytes-bytes.result.now 4112 0 ≡ get_or c.args.page.now 4112 0 = ap (λ (b : List ℕ). get_or b 4112 0) c.bytes-bytes.ensures.value in
    omega (arith, named.key_length)

pub unreachable-requires : goal.unreachable-requires
unreachable-requires c =
    let named = are_named c.args.page.now c.bytes-bytes.ensures.size c.requires in
    let same : length c.part.result.now ≡ length (key_in_page c.args.page.now) = ap (λ (b : List ℕ). length b) (c.part.ensures ∙ ap key_in_page c.bytes-bytes.ensures.value) in
    elim (c.in-Err-BadLength.ensures.bad.0 (λ i. Err (c.in-Err-BadLength.field-0-is i))) [
      | inl none ↦ omega (arith, named.key_some)
      | inr many ↦ omega (arith, named.key_short)
    ]

pub returns-in-Ok-clause-size : goal.returns-in-Ok-clause-size
returns-in-Ok-clause-size c = c.new-length.ensures ∙ size_read c.bytes-bytes.result.now c.args.page.now c.be16_at.result c.be16_at.ensures c.bytes-bytes.ensures.value
