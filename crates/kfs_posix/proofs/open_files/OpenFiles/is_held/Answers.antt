use Rattle.std.proofs.Common.{◌≡◌, ℕ, ◌==◌, true, ap, sym, ◌∙◌, arith, Option, Some, None}
use Rattle.std.specs.Prelude.{slice_index_or}
use Rattle.std.specs.Option.{option_eq}
use Rattle.std.proofs.lemmas.Bool.Decides.{nat_tests}
use Rattle.kfs_posix.specs.Opens.{FilesState, is_held}
use Rattle.kfs_posix.proofs.Slots.{free_in, held_at}
use Rattle.kfs_posix.proofs.open_files.OpenFiles.is_held.Goals as goal

same_slot : (o : Option ℕ) (d : ℕ) → true ≡ option_eq (λ x y. x == y) o (Some d) → o ≡ Some d
same_slot None d e = absurd (cc)
same_slot (Some x) d e = let s : x ≡ d = grind (arith, nat_tests) in ap Some s

pub returns-then-eq : goal.returns-then-eq
returns-then-eq c =
    sym (held_at c.args.number c.loop-slot.slot-index c.self.inside.descriptors (same_slot (slice_index_or c.self.inside.descriptors c.loop-slot.slot-index None) c.args.number c.if-eq.ensures))
    ∙ ap (λ (s : FilesState). is_held s.opens.descriptors c.args.number) c.self.view_is

pub returns : goal.returns
returns c = sym (free_in c.args.number c.self.inside.descriptors (λ i lt. c.loop-slot.invariant i (let h = c.self.invariant in omega arith))) ∙ ap (λ (s : FilesState). is_held s.opens.descriptors c.args.number) c.self.view_is
