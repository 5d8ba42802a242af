use Rattle.std.proofs.Common.{◌==◌, ◌∙◌, ap, sym}
use Rattle.std.specs.List.{list_any}
use Rattle.slab.specs.Slab.{entries_from}
use Rattle.kfs_model.specs.declared.Description.{Description}
use Rattle.kfs_model.specs.Desk.{is_open}
use Rattle.kfs_posix.specs.Opens.{FilesState, desk_of}
use Rattle.kfs_posix.proofs.Held.{description}
use Rattle.kfs_posix.proofs.Forgetting.{any_mapped}
use Rattle.kfs_posix.proofs.open_files.OpenFiles.is_open.Goals as goal

pub loop-file-init : goal.loop-file-init
loop-file-init c =
    let left = c.into_iter-file-iterator.ensures.into_iter_gives ∙ c.iter-file-items.ensures.rest in (
      tt,
      tt,
      ap (list_any (λ e. e.1.it.node == c.args.node)) left ∙ sym (any_mapped description (λ (it : Description). it.node == c.args.node) (entries_from 0 c.self.inside.files.slots))
          ∙ ap (λ (s : FilesState). is_open (desk_of s.opens) c.args.node) c.self.view_is,
    )
