use Rattle.std.proofs.Common.{◌≡◌, ap, sym, ◌∙◌, ℕ, Option, Some, None}
use Rattle.std.specs.Ordering.{nat_cmp}
use Rattle.std.specs.Option.{option_map, option_and_then}
use Rattle.std.specs.FinMap.{find}
use Rattle.kfs_posix.specs.Opens.{FilesState, Opens, open_at}
use Rattle.kfs_posix.specs.declared.open_files.OpenFile.{OpenFile}
use Rattle.kfs_posix.proofs.Slots.{found}
use Rattle.kfs_posix.proofs.open_files.OpenFiles.get.Goals as goal

-- what is at a descriptor, by its description
at_number : (o : Opens) (fd d : ℕ) (file : Option OpenFile) → find nat_cmp fd o.descriptors ≡ Some d → find nat_cmp d o.files ≡ file → open_at o fd ≡ option_map {U = ℕ × OpenFile} (λ f. (d, f)) file
at_number o fd d file a b =
    ap (option_and_then {U = ℕ × OpenFile} (λ d. option_map {U = ℕ × OpenFile} (λ f. (d, f)) (find nat_cmp d o.files))) a ∙ ap (option_map {U = ℕ × OpenFile} (λ f. (d, f))) b

pub returns-in_err-file-clause-open : goal.returns-in_err-file-clause-open
returns-in_err-file-clause-open c =
    let o = c.args.self.now.opens in
    let d = c.in_ok-number.number in
    let is : find nat_cmp d o.files ≡ None = ap (λ (s : FilesState). find nat_cmp d s.opens.files) (sym c.self.view_is) ∙ found d c.self.inside.files.slots ∙ sym c.in_err-file.ensures in
    c.from_residual-in_err-file.ensures ∙ sym (at_number o c.args.fd d None (sym c.in_ok-number.ensures.number) is)

pub returns-clause-open : goal.returns-clause-open
returns-clause-open c =
    let o = c.args.self.now.opens in
    let d = c.in_ok-number.number in
    let is : find nat_cmp d o.files ≡ Some c.in_ok-file.file.now = ap (λ (s : FilesState). find nat_cmp d s.opens.files) (sym c.self.view_is) ∙ found d c.self.inside.files.slots ∙ sym c.in_ok-file.ensures in
    sym (at_number o c.args.fd d (Some c.in_ok-file.file.now) (sym c.in_ok-number.ensures.number) is)
