-- A job's run in place of what the job read, before an anchor names it.
use Rattle.std.proofs.Common.{true, false, ◌≡◌, ◌≢◌, ◌∙◌, ℕ, ◌+◌, ◌<◌, ◌≤◌, List, [], ◌++◌, length, Option, Some, None, refl, sym, ap, subst, arith, append_assoc}
use Rattle.std.specs.List.{All, list_any}
use Rattle.kv_nand.specs.Flash.{Image}
use Rattle.kssd_layout.specs.Numbers.{max_keys_in}
use Rattle.kssd_entry.specs.declared.entry.Entry.{Entry}
use Rattle.kssd_entry.specs.declared.entry.Entry.TheVariants.{Put, At, Gone}
use Rattle.kssd_model.specs.declared.anchor.Anchor.{Anchor}
use Rattle.kssd_model.specs.declared.runs.RunInfo.{RunInfo}
use Rattle.kssd_model.specs.Rising.{is_gone, is_rising, find_entry, merged, first_of}
use Rattle.kssd_model.specs.RunPages.{run_entries, IsGoodRun}
use Rattle.kssd_model.proofs.RisingEntries.{find-merged, is_rising-merged}
use Rattle.kssd_image.specs.Stages.{runs_map, without_marks}
use Rattle.kssd_image.specs.AnchorForm.{run_numbers, most_entries}
use Rattle.kssd_image.specs.Whole.{HasRoom, keys_from_level}
use Rattle.kssd_merge.specs.Same.{AreSameIn}
use Rattle.kssd_run.specs.declared.reader.Run.{Run}
use Rattle.kssd_run.specs.Run.{run_info, StandsRun}
use Rattle.kssd_run.proofs.Staying.{standing_runs_are_good}
use Rattle.kssd_levels.specs.declared.kind.JobKind.{JobKind}
use Rattle.kssd_levels.specs.declared.kind.JobKind.TheVariants.{Flush, Zero, One, Collect}
use Rattle.kssd_levels.specs.declared.levels.Levels.{Levels}
use Rattle.kssd_levels.specs.Runs.{infos_in, blocks_in, has_block}
use Rattle.kssd_levels.specs.Levels as levels
use Rattle.kssd_levels.specs.Levels.{infos_of, named_blocks, levels_map, first_entries, target_of, StandLevels, Installs, Keeps, KeepsKeys}
use Rattle.kssd_levels.specs.Written.{written}
use Rattle.kssd_levels.proofs.Staying.{runs_stay, levels_stay}
use Rattle.kssd_levels.proofs.Layers.{stand_join}
use Rattle.kssd_levels.proofs.Installing.{written_cases}
use Rattle.kssd_levels.proofs.Spare.{job_blocks_suffice}
use Rattle.kssd_compact.specs.Job.{goal_of}
use Rattle.kssd_frames.specs.Merging.{unmarked}
use Rattle.kssd_frames.proofs.Lookups.{same_lists, find_unmarked, rising_unmarked, marks_below, merge_alone}
use Rattle.kssd_frames.proofs.ShownLaws.{runs_rise}
use Rattle.kssd_root.specs.Standing.{IsAnchored, AreRuns}
use Rattle.kssd_root.specs.Following.{KeepsNamed, IsNewRun, MayFollow, with_table, ShowAlike, keys_from}
use Rattle.kssd_root.proofs.Marks.{unmarked_again, no_marks}
use Rattle.kssd_root.proofs.Layers.{all_installed, numbers_of, of_numbers, fresh_number, keys_in, keys_from_0, keys_from_1, keys_from_2, same_in_first, same_in_second, few_in}
use Rattle.kssd_root.proofs.RunsWritten.{after_run}

-- ---- before the job

-- what a job is to write is within its level's limit
pub goal_most : (kind : JobKind) (page : ℕ) (anchor : Anchor) (levels : Levels) (log : List Entry) (blocks : ℕ) (image : Image) → IsAnchored page anchor blocks image → AreRuns levels anchor blocks image → length log ≤ 2048 → (kind ≡ Zero → first_entries levels.one ≤ 4096)
    → length (goal_of kind log levels image) ≤ most_entries blocks (target_of kind)
goal_most Flush page anchor levels log blocks image h runs few low = few
goal_most Zero page anchor levels log blocks image h runs few low =
    omega (arith, few_in (levels.zero ++ levels.one) blocks image (stand_join levels.zero levels.one blocks image runs.stand.zero runs.stand.one), (job_blocks_suffice levels).zero_most (low refl))
goal_most One page anchor levels log blocks image h runs few low =
    let upper : keys_from image (infos_of levels) 1 ≤ max_keys_in blocks = subst (λ (infos : List RunInfo). keys_from image infos 1 ≤ max_keys_in blocks) (sym runs.named) h.index.room.upper in
    omega (arith, keys_from_1 image levels, upper)
goal_most Collect page anchor levels log blocks image h runs few low = omega arith

-- the anchor's next run is none of its runs
pub number_free : (page : ℕ) (anchor : Anchor) (levels : Levels) (blocks : ℕ) (image : Image) → IsAnchored page anchor blocks image → AreRuns levels anchor blocks image → has_block (run_numbers (infos_of levels)) anchor.next_run ≡ false
number_free page anchor levels blocks image h runs =
    ap (λ (infos : List RunInfo). has_block (run_numbers infos) anchor.next_run) runs.named ∙ fresh_number anchor.next_run (run_numbers anchor.runs) h.index.form.numbers_low

-- ---- what the job read stays

pub named_same : (blocks : ℕ) (levels : Levels) (old new : Image) → KeepsNamed blocks (named_blocks levels) old new → AreSameIn (named_blocks levels) old new
named_same blocks levels old new keeps page named = keeps page (λ run. named)

pub goal_same : (kind : JobKind) (levels : Levels) (log : List Entry) (blocks : ℕ) (old new : Image) → StandLevels levels blocks old → AreSameIn (named_blocks levels) old new → goal_of kind log levels new ≡ goal_of kind log levels old
goal_same Flush levels log blocks old new stand same = refl
goal_same Zero levels log blocks old new stand same =
    (runs_stay (levels.zero ++ levels.one) blocks old new
    (same_in_first (levels.zero ++ levels.one) levels.base old new (subst (λ (rs : List Run). AreSameIn (blocks_in rs) old new) (sym (append_assoc levels.zero levels.one levels.base)) same))
    (stand_join levels.zero levels.one blocks old stand.zero stand.one)).1
goal_same One levels log blocks old new stand same =
    ap without_marks (runs_stay (levels.one ++ levels.base) blocks old new (same_in_second levels.zero (levels.one ++ levels.base) old new same) (stand_join levels.one levels.base blocks old stand.one stand.base)).1
goal_same Collect levels log blocks old new stand same = refl

-- ---- the maps before and after

same_mark : (o : Option Entry) → unmarked o ≡ levels.unmarked o
same_mark None = refl
same_mark (Some (Put key value)) = refl
same_mark (Some (At key page size)) = refl
same_mark (Some (Gone key)) = refl

-- a flush puts its run over the levels
flush_map : (run : Run) (old new : Levels) (log : List Entry) (image : Image) → run_entries image (run_info run) ≡ log → is_rising log ≡ true → KeepsKeys Flush run old new image → levels_map new image ≡ merged log (levels_map old image)
flush_map run old new log image are rising keeps =
    same_lists (levels_map new image) (merged log (levels_map old image)) (runs_rise image (infos_of new)) (is_rising-merged log (levels_map old image) (runs_rise image (infos_of old)))
    (λ key. keeps key ∙ ap (λ (es : List Entry). first_of (find_entry es key) (find_entry (levels_map old image) key)) are ∙ sym (find-merged log (levels_map old image) key rising))

zero_map : (run : Run) (old new : Levels) (image : Image) → run_entries image (run_info run) ≡ levels.merged_inputs Zero old image → KeepsKeys Zero run old new image → levels_map new image ≡ levels_map old image
zero_map run old new image are keeps = same_lists (levels_map new image) (levels_map old image) (runs_rise image (infos_of new)) (runs_rise image (infos_of old)) (keeps are)

one_map : (run : Run) (old new : Levels) (image : Image) → run_entries image (run_info run) ≡ levels.merged_inputs One old image → KeepsKeys One run old new image → without_marks (levels_map new image) ≡ without_marks (levels_map old image)
one_map run old new image are keeps =
    let a = runs_rise image (infos_of new) in
    let b = runs_rise image (infos_of old) in
    same_lists (without_marks (levels_map new image)) (without_marks (levels_map old image)) (rising_unmarked (levels_map new image) a) (rising_unmarked (levels_map old image) b)
    (λ key.
    find_unmarked (levels_map new image) key a ∙ same_mark (find_entry (levels_map new image) key)
    ∙ keeps are key
    ∙ sym (same_mark (find_entry (levels_map old image) key)) ∙ sym (find_unmarked (levels_map old image) key b))

-- ---- the job is done

pub record IsDone (kind : JobKind) (page : ℕ) (anchor : Anchor) (log : List Entry) (old : Levels) (run : Run) (new : Levels) (blocks : ℕ) (before after : Image) : Type 0 where
  pub some : kind ≢ Collect
  pub anchored : IsAnchored page anchor blocks before
  pub runs : AreRuns old anchor blocks before
  pub rising : kind ≡ Flush → is_rising log ≡ true
  pub few : kind ≡ Flush → length (without_marks (merged log (levels_map old before))) ≤ max_keys_in blocks
  pub named : KeepsNamed blocks (named_blocks old) before after
  pub made : IsNewRun kind anchor.next_run old (goal_of kind log old before) run blocks after
  pub installs : Installs kind run old new
  pub keeps : Keeps kind run old new

-- what is known once it is done
pub record IsKnown (kind : JobKind) (page : ℕ) (anchor : Anchor) (log : List Entry) (old : Levels) (run : Run) (new : Levels) (blocks : ℕ) (before after : Image) : Type 0 where
  pub anchored : IsAnchored page anchor blocks after
  pub runs : AreRuns old anchor blocks after
  pub rising : kind ≡ Flush → is_rising log ≡ true
  pub few : kind ≡ Flush → length (without_marks (merged log (levels_map old after))) ≤ max_keys_in blocks
  pub map : levels_map old after ≡ levels_map old before
  pub entries : run_entries after (run_info run) ≡ goal_of kind log old after
  pub stands : StandsRun run blocks after
  pub stand : StandLevels new blocks after
  pub keeps : KeepsKeys kind run old new after

pub known : (kind : JobKind) (page : ℕ) (anchor : Anchor) (log : List Entry) (old : Levels) (run : Run) (new : Levels) (blocks : ℕ) (before after : Image) → IsDone kind page anchor log old run new blocks before after → IsKnown kind page anchor log old run new blocks before after
known kind page anchor log old run new blocks before after h =
    let a = after_run page anchor old blocks before after h.anchored h.runs h.named in
    let same = named_same blocks old before after h.named in
    let stays = levels_stay old blocks before after same h.runs.stand in
    let stand = stays.0 in
    let both = h.keeps blocks after stand h.made.stands in
    record {
      anchored = a.anchored;
      runs = record { named = h.runs.named; stand = stand };
      rising = h.rising;
      few = λ e. subst (λ (es : List Entry). length (without_marks (merged log es)) ≤ max_keys_in blocks) (sym stays.1) (h.few e);
      map = stays.1;
      entries = h.made.entries ∙ sym (goal_same kind old log blocks before after h.runs.stand same);
      stands = h.made.stands;
      stand = both.0;
      keeps = both.1;
    }

-- the same is visible
pub over_still : (kind : JobKind) (page : ℕ) (anchor : Anchor) (log : List Entry) (old : Levels) (run : Run) (new : Levels) (blocks : ℕ) (before after : Image) → kind ≢ Collect → IsKnown kind page anchor log old run new blocks before after → ShowAlike (with_table kind log (levels_map old before)) (levels_map new after)
over_still Flush page anchor log old run new blocks before after some k newer =
    ap (λ (es : List Entry). without_marks (merged newer es)) (flush_map run old new log after k.entries (k.rising refl) k.keeps ∙ ap (merged log) k.map)
over_still Zero page anchor log old run new blocks before after some k newer =
    ap (λ (es : List Entry). without_marks (merged newer es)) (zero_map run old new after k.entries k.keeps ∙ k.map)
over_still One page anchor log old run new blocks before after some k newer =
    sym (marks_below newer (levels_map new after) (runs_rise after (infos_of new)))
    ∙ ap (λ (es : List Entry). without_marks (merged newer es)) (one_map run old new after k.entries k.keeps)
    ∙ marks_below newer (levels_map old after) (runs_rise after (infos_of old))
    ∙ ap (λ (es : List Entry). without_marks (merged newer es)) k.map
over_still Collect page anchor log old run new blocks before after some k newer = absurd (some refl)

-- ---- how many keys there are

-- the run's entries are the map of it alone
map_written : (run : Run) (blocks : ℕ) (image : Image) → StandsRun run blocks image → runs_map image (infos_in (written run)) ≡ run_entries image (run_info run)
map_written run blocks image h = written_cases run (λ runs. runs_map image (infos_in runs) ≡ run_entries image (run_info run))
    (λ none. sym (Rattle.std.proofs.lemmas.List.nil_from_length (run_entries image (run_info run)) (h.run_in.count ∙ none)))
    (λ some. merge_alone (run_entries image (run_info run)) h.run_in.rising)

record AreKeys (levels : Levels) (blocks : ℕ) (image : Image) : Type 0 where
  pub all : length (without_marks (levels_map levels image)) ≤ max_keys_in blocks
  pub upper : keys_in image (levels.one ++ levels.base) ≤ max_keys_in blocks
  pub base : keys_in image levels.base ≤ max_keys_in blocks

keys_before : (page : ℕ) (anchor : Anchor) (levels : Levels) (blocks : ℕ) (image : Image) → IsAnchored page anchor blocks image → AreRuns levels anchor blocks image → AreKeys levels blocks image
keys_before page anchor levels blocks image h runs =
    let room : HasRoom blocks image anchor = h.index.room in
    let at : (least : ℕ) → keys_from image (infos_of levels) least ≡ keys_from_level image anchor least = λ least. ap (λ (infos : List RunInfo). keys_from image infos least) runs.named in
    record {
      all = omega (arith, keys_from_0 image levels, at 0, room.levels);
      upper = omega (arith, keys_from_1 image levels, at 1, room.upper);
      base = omega (arith, keys_from_2 image levels, at 2, room.base);
    }

keys_after : (kind : JobKind) (page : ℕ) (anchor : Anchor) (log : List Entry) (old : Levels) (run : Run) (new : Levels) (blocks : ℕ) (before after : Image) → Installs kind run old new → IsKnown kind page anchor log old run new blocks before after → AreKeys new blocks after
keys_after Flush page anchor log old run new blocks before after is k =
    let was = keys_before page anchor old blocks after k.anchored k.runs in
    let map = flush_map run old new log after k.entries (k.rising refl) k.keeps in
    record {
      all = omega (arith, ap (λ (es : List Entry). length (without_marks es)) map, k.few refl);
      upper = subst (λ (n : ℕ). n ≤ max_keys_in blocks) (λ i. keys_in after (sym is.1 i ++ sym is.2 i)) was.upper;
      base = subst (λ (n : ℕ). n ≤ max_keys_in blocks) (λ i. keys_in after (sym is.2 i)) was.base;
    }
keys_after Zero page anchor log old run new blocks before after is k =
    let was = keys_before page anchor old blocks after k.anchored k.runs in
    let map = zero_map run old new after k.entries k.keeps in
    let all : length (without_marks (levels_map new after)) ≤ max_keys_in blocks = omega (arith, ap (λ (es : List Entry). length (without_marks es)) map, was.all) in
    record {
      all = all;
      upper = subst (λ (n : ℕ). n ≤ max_keys_in blocks) (λ i. keys_in after (is.0 i ++ (new.one ++ new.base))) all;
      base = subst (λ (n : ℕ). n ≤ max_keys_in blocks) (λ i. keys_in after (sym is.2 i)) was.base;
    }
keys_after One page anchor log old run new blocks before after is k =
    let was = keys_before page anchor old blocks after k.anchored k.runs in
    let map = one_map run old new after k.entries k.keeps in
    let base : keys_in after new.base ≤ max_keys_in blocks =
    omega (arith, ap (λ (rs : List Run). keys_in after rs) is.2, ap (λ (es : List Entry). length (without_marks es)) (map_written run blocks after k.stands ∙ k.entries), ap (λ (es : List Entry). length es) (unmarked_again (runs_map after (infos_in (old.one ++ old.base)))), was.upper) in
    record {
      all = omega (arith, ap (λ (es : List Entry). length es) map, was.all);
      upper = subst (λ (n : ℕ). n ≤ max_keys_in blocks) (λ i. keys_in after (sym is.1 i ++ new.base)) base;
      base = base;
    }
keys_after Collect page anchor log old run new blocks before after is k = absurd is

-- ---- an anchor may name the runs

no_mark_in_base : (kind : JobKind) (log : List Entry) (levels : Levels) (image : Image) (es : List Entry) → kind ≢ Collect → target_of kind ≡ 2 → es ≡ goal_of kind log levels image → list_any is_gone es ≡ false
no_mark_in_base Flush log levels image es some e is = absurd cc
no_mark_in_base Zero log levels image es some e is = absurd cc
no_mark_in_base One log levels image es some e is = ap (list_any is_gone) is ∙ no_marks (runs_map image (infos_in (levels.one ++ levels.base)))
no_mark_in_base Collect log levels image es some e is = absurd (some refl)

pub may_follow : (kind : JobKind) (page : ℕ) (anchor : Anchor) (log : List Entry) (old : Levels) (run : Run) (new : Levels) (blocks : ℕ) (before after : Image) → IsDone kind page anchor log old run new blocks before after → MayFollow new anchor blocks after
may_follow kind page anchor log old run new blocks before after h =
    let k = known kind page anchor log old run new blocks before after h in
    let keys = keys_after kind page anchor log old run new blocks before after h.installs k in
    let index = k.anchored.index in
    record {
      stand = k.stand;
      good = all_installed (IsGoodRun after) kind run old new h.installs (subst (All (IsGoodRun after)) (sym k.runs.named) index.runs)
          (λ some. standing_runs_are_good (run_info run) blocks after k.stands.run_in (λ base. no_mark_in_base kind log old after (run_entries after (run_info run)) h.some (sym h.made.may.level ∙ base) k.entries));
      numbers = numbers_of (λ n. n < anchor.next_run + 1) (infos_of new) (all_installed (λ info. info.number < anchor.next_run + 1) kind run old new h.installs
          (of_numbers (λ n. n < anchor.next_run + 1) (infos_of old) (subst (λ (infos : List RunInfo). All (λ n. n < anchor.next_run + 1) (run_numbers infos)) (sym k.runs.named) (λ i d lt. let low = index.form.numbers_low i d lt in omega (arith, low))))
          (λ some. omega (arith, h.made.number_is)));
      all = omega (arith, keys_from_0 after new, keys.all);
      upper = omega (arith, keys_from_1 after new, keys.upper);
      base = omega (arith, keys_from_2 after new, keys.base);
    }

-- ---- levels that are empty

pub zero_empty : (kind : JobKind) (run : Run) (old new : Levels) → Installs kind run old new → kind ≡ Zero → new.zero ≡ []
zero_empty Flush run old new h e = absurd cc
zero_empty Zero run old new h e = h.0
zero_empty One run old new h e = absurd cc
zero_empty Collect run old new h e = absurd h

pub one_empty : (kind : JobKind) (run : Run) (old new : Levels) → Installs kind run old new → kind ≡ One → new.one ≡ []
one_empty Flush run old new h e = absurd cc
one_empty Zero run old new h e = absurd cc
one_empty One run old new h e = h.1
one_empty Collect run old new h e = absurd h
