use Rattle.std.proofs.Common.{◌≡◌, refl, ◌∙◌, ℕ, List, take, drop, ap, subst}
use Rattle.std.specs.Prelude.{IfOk, is_ok}
use Rattle.kssd_entry.specs.Borrowed.{keys_from}
use Rattle.kssd_entry.specs.Reading.{entries_at, count_in}
use Rattle.kssd_entry.specs.Finding.{rest_among}
use Rattle.kssd_entry.proofs.Found.{entries_read, made_of_page}
use Rattle.kssd_entry.proofs.finding.rest_of_page.Goals as goal

pub rest_among-requires : goal.rest_among-requires
rest_among-requires c =
    let page = c.args.page.now in
    let front : c.split_at.result.0.now ≡ take 4096 page = c.split_at.ensures.front ∙ ap (take 4096) c.bytes.ensures.value in
    let count : c.be16_at.result ≡ count_in (drop 4096 page) = c.be16_at.ensures ∙ ap count_in (c.split_at.ensures.back ∙ ap (drop 4096) c.bytes.ensures.value) in
    (λ i. is_ok (entries_at 0 (count i) (front i))) ∙ entries_read page c.requires

pub returns : goal.returns
returns c =
    let page = c.args.page.now in
    let front : c.split_at.result.0.now ≡ take 4096 page = c.split_at.ensures.front ∙ ap (take 4096) c.bytes.ensures.value in
    let count : c.be16_at.result ≡ count_in (drop 4096 page) = c.be16_at.ensures ∙ ap count_in (c.split_at.ensures.back ∙ ap (drop 4096) c.bytes.ensures.value) in
    made_of_page page (rest_among c.args.key.now) (keys_from c.args.key.now) (λ entries rest. refl) c.rest_among.result (subst (λ (n : ℕ). IfOk c.rest_among.result (λ found. found ≡ rest_among c.args.key.now (entries_at 0 n (take 4096 page)))) count (subst (λ (bytes : List ℕ). IfOk c.rest_among.result (λ found. found ≡ rest_among c.args.key.now (entries_at 0 c.be16_at.result bytes))) front c.rest_among.ensures))
