use Rattle.std.proofs.Common.{◌≡◌, ◌∙◌, ℕ, List, ◌++◌, length, take, drop, ap, sym, arith}
use Rattle.nand_mem.specs.ImageFile.{mark, header}
use Rattle.nand_mem.proofs.Files.{header_is, same_bytes}
use Rattle.nand_mem.proofs.image.read_header.Goals as goal

pub returns-clause-some : goal.returns-clause-some
returns-clause-some c =
    let front = c.split_at.ensures in
    let parts = c.split_at-2.ensures in
    let is : c.split_at-2.result.0.now ≡ mark = same_bytes c.split_at-2.result.0.now c.as_slice.result.now (sym c.if-ne.ensures) ∙ c.as_slice.ensures in
    let two : length c.split_at-2.result.1.now ≡ 2 = omega (arith, parts.back_len, front.front_len) in (
      (c.if-blocks-lt256.false, c.if-blocks-gt2048.false),
      header_is c.args.bytes.now c.split_at-2.result.0.now c.split_at-2.result.1.now c.be16_at-blocks.result (λ i. omega (arith, c.type_inv.bytes i)) c.if-bytes-lt12.false (parts.front ∙ ap (take 10) front.front) (parts.back ∙ ap (λ (xs : List ℕ). drop 10 xs) front.front) two is c.be16_at-blocks.ensures
          ∙ ap (λ (rest : List ℕ). header c.be16_at-blocks.result ++ rest) (sym front.back),
    )
