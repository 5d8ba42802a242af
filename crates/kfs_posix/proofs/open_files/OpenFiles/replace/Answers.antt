use Rattle.std.proofs.Common.{◌≡◌, ℕ, List, ap, sym, ◌∙◌, Option, is_some, true, false}
use Rattle.std.specs.Ordering.{nat_cmp}
use Rattle.std.specs.FinMap.{find}
use Rattle.slab.specs.Slab.{entries_from}
use Rattle.kfs_posix.specs.declared.open_files.OpenFile.{OpenFile}
use Rattle.kfs_posix.specs.declared.open_files.OpenFiles.TheInside.{Inside}
use Rattle.kfs_posix.specs.Opens.{FilesState, Opens, with_file}
use Rattle.kfs_posix.proofs.Slots.{found, set_some, within}
use Rattle.kfs_posix.proofs.open_files.OpenFiles.replace.Goals as goal
use Rattle.kfs_posix.proofs.open_files.OpenFiles.replace.Goals.{in-Some, in_default}

abbrev opens_in : List (Option ℕ) → List (Option OpenFile) → Opens
opens_in descriptors slots = record { descriptors = entries_from 0 descriptors; files = entries_from 0 slots }

abbrev inside_opens : Inside → Opens
inside_opens x = opens_in x.descriptors x.files.slots

pub returns : goal.returns
returns c =
    let here : is_some (find nat_cmp c.args.number (entries_from 0 c.self.inside.files.slots)) ≡ true = ap (λ (s : FilesState). is_some (find nat_cmp c.args.number s.opens.files)) c.self.view_is ∙ c.requires in
    elim c.match-get_mut.branch [
      | in-Some w ↦
          let lt = within c.self.inside.files.slots c.args.number w.in-Some.old.now (sym w.in-Some.ensures.value) in
          ap inside_opens w.self-inside-is
          ∙ (λ i. record { descriptors = entries_from 0 c.self.inside.descriptors; files = set_some c.self.inside.files.slots c.args.number c.args.file lt i })
          ∙ ap (λ (s : FilesState). with_file s.opens c.args.number c.args.file) c.self.view_is
      | in_default w ↦ absurd (let e : false ≡ true = ap is_some (w.in_default.ensures.value ∙ sym (found c.args.number c.self.inside.files.slots)) ∙ here in cc)
    ]
