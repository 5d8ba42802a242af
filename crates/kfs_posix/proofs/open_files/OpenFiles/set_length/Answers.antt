use Rattle.std.proofs.Common.{◌≡◌, inl, inr, ap, subst, sym, ◌∙◌, T, arith}
use Rattle.std.specs.Option.{option_map}
use Rattle.std.proofs.lemmas.Bool.{cases_lt}
use Rattle.kfs_laws.proofs.Lookups.{same_numbers}
use Rattle.kfs_posix.specs.Opens.{relengthed_file}
use Rattle.kfs_posix.proofs.Maps.{mapped, find-map, sorted-map}
use Rattle.kfs_posix.proofs.open_files.OpenFiles.set_length.Goals as goal

pub returns : goal.returns
returns c =
    let o = c.args.self.now.opens in
    let f = relengthed_file c.args.node c.args.length in
    let inv = c.loop-number.invariant in
    let files : c.loop-number.self.opens.files ≡ mapped f o.files =
    same_numbers c.loop-number.self.opens.files (mapped f o.files) (inv.sorted c.most-number-end.ensures.sorted) (subst T (sym (sorted-map f o.files)) c.most-number-end.ensures.sorted) (λ k. elim (cases_lt k c.loop-number.number) [
      | inl lt ↦ inv.done k lt ∙ sym (find-map f k o.files)
      | inr le ↦
          let none = c.most-number-end.ensures.beyond k (let t = c.loop-number-test.false in omega arith) in
          inv.rest k le ∙ none ∙ sym (find-map f k o.files ∙ ap (option_map f) none)
    ]) in
    λ i. record { descriptors = inv.descriptors i; files = files i }
