use Rattle.std.proofs.Common.{ap, sym, ◌∙◌, ◌<◌, length, arith, not, cond, filter, ℕ, List, false, true, ◌≡◌, Bool, None}
use Rattle.std.specs.Prelude.{◌==◌, slice_set}
use Rattle.slab.specs.Slab.{entries_from}
use Rattle.kfs_posix.specs.Opens.{FilesState, Opens, is_held, without, closed}
use Rattle.kfs_posix.specs.declared.open_files.OpenFile.{OpenFile}
use Rattle.kfs_posix.proofs.Slots.{set_none, removed}
use Rattle.kfs_posix.proofs.open_files.OpenFiles.close.Goals as goal

abbrev after : List (ℕ × ℕ) → List (ℕ × OpenFile) → ℕ → ℕ → Bool → Opens
after descriptors files fd d held = record { descriptors = without descriptors fd; files = cond held files (filter (λ e. not (e.0 == d)) files) }

pub returns-then-not-is_held : goal.returns-then-not-is_held
returns-then-not-is_held c =
    let lt : c.args.fd < length c.self.inside.descriptors = let h = c.self.invariant in let r = c.requires in omega arith in
    let a = set_none c.self.inside.descriptors c.args.fd lt in
    let b = removed c.self.inside.files c.try_remove.new.self c.args.number c.try_remove.ensures.updates in
    let held : is_held (entries_from 0 (slice_set c.self.inside.descriptors c.args.fd None)) c.args.number ≡ false = let h = c.if-not-is_held.true in let e = c.is_held.ensures in cc in
    (λ i. record { descriptors = a i; files = b i })
    ∙ ap (after (entries_from 0 c.self.inside.descriptors) (entries_from 0 c.self.inside.files.slots) c.args.fd c.args.number) (sym (sym (ap (λ x. is_held x c.args.number) a) ∙ held))
    ∙ ap (λ (s : FilesState). closed s.opens c.args.fd c.args.number) c.self.view_is

pub returns-else-not-is_held : goal.returns-else-not-is_held
returns-else-not-is_held c =
    let lt : c.args.fd < length c.self.inside.descriptors = let h = c.self.invariant in let r = c.requires in omega arith in
    let a = set_none c.self.inside.descriptors c.args.fd lt in
    let held : is_held (entries_from 0 (slice_set c.self.inside.descriptors c.args.fd None)) c.args.number ≡ true = let h = c.if-not-is_held.false in let e = c.is_held.ensures in cc in
    (λ i. record { descriptors = a i; files = entries_from 0 c.self.inside.files.slots })
    ∙ ap (after (entries_from 0 c.self.inside.descriptors) (entries_from 0 c.self.inside.files.slots) c.args.fd c.args.number) (sym (sym (ap (λ x. is_held x c.args.number) a) ∙ held))
    ∙ ap (λ (s : FilesState). closed s.opens c.args.fd c.args.number) c.self.view_is
