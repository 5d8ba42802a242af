-- The tests by which an anchor is judged by itself.
use Rattle.std.specs.Prelude.{◌==◌, ◌&&◌, ◌+◌, ◌/◌, ◌^◌, not, ℕ, Bool, true, nat_eq, nat_le, nat_lt, List, [], ◌∷◌, length}
use Rattle.std.specs.List.{list_all, list_any}
use Rattle.kssd_layout.specs.Numbers.{first_value_block_in}
use Rattle.kssd_layout.specs.Laws.{pages_for}
use Rattle.kssd_model.specs.declared.runs.RunInfo.{RunInfo}
use Rattle.kssd_model.specs.declared.anchor.Anchor.{Anchor}
use Rattle.kssd_image.specs.AnchorForm.{most_entries, count_on, run_numbers, blocks_of}

-- whether no number stands twice
abbrev pub are_distinct : List ℕ → Bool
are_distinct [] = true
are_distinct (n ∷ ns) = not (list_any (nat_eq n) ns) && are_distinct ns

-- whether a block is one of runs
abbrev pub is_run_block : ℕ → ℕ → Bool
is_run_block blocks block = nat_le 20 block && nat_lt block (first_value_block_in blocks)

-- whether a run is within its level's limit, with no more pages than its entries may need and the blocks that these fill, all for runs
abbrev pub has_form : ℕ → RunInfo → Bool
has_form blocks run =
    nat_le 1 run.entries && (nat_le run.entries (most_entries blocks run.level)
    && (nat_le 1 run.pages && (nat_le run.pages (pages_for run.entries)
    && ((length run.blocks == (run.pages + 31) / 32) && list_all (is_run_block blocks) run.blocks))))

-- whether a run's level is there, and not behind those of later runs
abbrev pub leads : RunInfo → List RunInfo → Bool
leads run later = nat_le run.level 2 && list_all (λ other. nat_le run.level other.level) later

-- whether the levels are there and in order
abbrev pub are_in_order : List RunInfo → Bool
are_in_order [] = true
are_in_order (run ∷ runs) = leads run runs && are_in_order runs

-- whether the levels are in order, with at most four runs of level 0, one of level 1 and one base
abbrev pub are_on_levels : List RunInfo → Bool
are_on_levels runs = are_in_order runs && (nat_le (count_on 0 runs) 4 && (nat_le (count_on 1 runs) 1 && nat_le (count_on 2 runs) 1))

-- whether the runs have form and stand on their levels
abbrev pub are_runs_fit : ℕ → List RunInfo → Bool
are_runs_fit blocks runs = are_on_levels runs && list_all (has_form blocks) runs

-- whether the numbers of an anchor leave room to go on, and those of its runs are below the next
abbrev pub has_low_numbers : Anchor → Bool
has_low_numbers anchor =
    nat_lt anchor.number (2 ^ 62) && (nat_lt anchor.next_run (2 ^ 62)
    && (nat_lt anchor.log_seq (2 ^ 62) && list_all (λ number. nat_lt number anchor.next_run) (run_numbers anchor.runs)))

-- whether the anchor is one of a device of so many blocks, and its log begins in the ring
abbrev pub has_place : ℕ → Anchor → Bool
has_place blocks anchor = (anchor.blocks == blocks) && (nat_le 2 anchor.log_block && nat_le anchor.log_block 19)

-- whether a mount takes the anchor's form and numbers
unfoldable pub is_fit : ℕ → Anchor → Bool
is_fit blocks anchor =
    (has_place blocks anchor && (has_low_numbers anchor && are_runs_fit blocks anchor.runs))
    && (are_distinct (run_numbers anchor.runs) && are_distinct (blocks_of anchor.runs))
