use Rattle.std.proofs.Common.{◌∙◌, ap, ℕ, List}
use Rattle.std.specs.Ordering.{nat_cmp}
use Rattle.std.specs.FinMap.{put}
use Rattle.kfs_model.specs.declared.Description.{Description}
use Rattle.kfs_plain.proofs.Entries.{insert_entry_is_put}
use Rattle.kfs_plain.proofs.opening.with_description.Goals as goal

pub returns : goal.returns
returns c =
    c.in_ok-insert.ensures.entries
    ∙ insert_entry_is_put nat_cmp c.in_ok-new.new.entries c.args.number c.args.it
    ∙ ap (λ (es : List (ℕ × Description)). put nat_cmp c.args.number c.args.it es) c.in_ok-new.ensures
