-- The super's last row, row by row.
use Rattle.std.proofs.Common.{◌≡◌, ℕ, ◌+◌, ◌<◌, ◌∙◌, refl, sym, ap, List, length, take, get_or, Option, None, unwrap_or}
use Rattle.std.proofs.lemmas.List.{take_more}
use Rattle.kfs_objects.specs.declared.records.Super.{Super}
use Rattle.kfs_judge.specs.declared.row.Row.{Row}
use Rattle.kfs_judge.specs.declared.row.Row.TheVariants as rows
use Rattle.kfs_judge.specs.Judged.{head_row, head_of, later_head}
use Rattle.kfs_judge.specs.Tables.{recent, or_else}
use Rattle.kfs_judge.proofs.Noting.{recent_push}

after : (o : Option (Option Super)) (row : Row) → unwrap_or (or_else (head_row row) o) None ≡ later_head (unwrap_or o None) row
after o (rows.Head head) = refl
after o (rows.Inode node it) = refl
after o (rows.Entry parent child b) = refl
after o (rows.Chunk node end is_empty) = refl
after o (rows.Orphan node reads) = refl
after o rows.Strange = refl

pub heads_more : (rs : List Row) (i : ℕ) (d : Row) (found new : Option Super) → i < length rs → found ≡ head_of (take i rs) → new ≡ later_head found (get_or rs i d) → new ≡ head_of (take (i + 1) rs)
heads_more rs i d found new lt h is =
    is ∙ ap (λ o. later_head o (get_or rs i d)) h ∙ sym (ap head_of (take_more rs i d lt) ∙ ap (λ o. unwrap_or o None) (recent_push head_row (take i rs) (get_or rs i d)) ∙ after (recent head_row (take i rs)) (get_or rs i d))
