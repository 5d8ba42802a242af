use Rattle.std.proofs.Common.{◌≡◌, ℕ, ◌<◌, ◌≤◌, T}
use Rattle.std.specs.Ordering.{nat_cmp}
use Rattle.std.specs.Option.{option_map}
use Rattle.std.specs.FinMap.{find, is_sorted}
use Rattle.kfs_posix.specs.Opens.{relengthed_file}
use Rattle.kfs_posix.proofs.open_files.OpenFiles.set_length.Given as goal

-- the descriptions below are as they should be, and the others as they were
abbrev pub invariant-loop-number : goal.invariant-loop-number
invariant-loop-number l = record {
  done : (k : ℕ) → k < l.number → find nat_cmp k l.self.opens.files ≡ option_map (relengthed_file l.node l.length) (find nat_cmp k l.initial.self.opens.files);
  rest : (k : ℕ) → l.number ≤ k → find nat_cmp k l.self.opens.files ≡ find nat_cmp k l.initial.self.opens.files;
  descriptors : l.self.opens.descriptors ≡ l.initial.self.opens.descriptors;
  sorted : T (is_sorted nat_cmp l.initial.self.opens.files) → T (is_sorted nat_cmp l.self.opens.files);
}
