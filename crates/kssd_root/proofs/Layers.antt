-- Runs by levels, in parts.
use Rattle.std.proofs.Common.{true, false, ◌≡◌, ◌∙◌, ℕ, ◌+◌, ◌<◌, ◌≤◌, Bool, cond, List, [], ◌∷◌, ◌++◌, length, filter, refl, sym, ap, subst, arith, length-append}
use Rattle.std.specs.Prelude.{nat_eq, nat_le}
use Rattle.std.specs.List.{All}
use Rattle.std.proofs.lemmas.Bool.{eqb-true}
use Rattle.std.proofs.lemmas.List.{map-append, get_or_append_left, get_or-append-add}
use Rattle.std.proofs.lemmas.List.Concat.{flat_map-append}
use Rattle.std.proofs.lemmas.List.Elements.{All-append, All-head, All-tail, All-nil, All-cons, filter-append}
use Rattle.kv_nand.specs.Flash.{Image}
use Rattle.kssd_model.specs.declared.runs.RunInfo.{RunInfo}
use Rattle.kssd_image.specs.Stages.{runs_map, without_marks}
use Rattle.kssd_image.specs.AnchorForm.{blocks_of, run_numbers}
use Rattle.kssd_merge.specs.Same.{AreSameIn}
use Rattle.kssd_run.specs.declared.reader.Run.{Run}
use Rattle.kssd_run.specs.Run.{run_info}
use Rattle.kssd_levels.specs.declared.kind.JobKind.{JobKind}
use Rattle.kssd_levels.specs.declared.kind.JobKind.TheVariants.{Flush, Zero, One, Collect}
use Rattle.kssd_levels.specs.declared.levels.Levels.{Levels}
use Rattle.kssd_levels.specs.Runs.{infos_in, blocks_in, has_block, StandRuns}
use Rattle.kssd_levels.specs.TwoLaws.{same_first, same_second}
use Rattle.kssd_levels.specs.Levels.{infos_of, Installs}
use Rattle.kssd_levels.specs.Laws.{entries_in}
use Rattle.kssd_levels.specs.Written.{written}
use Rattle.kssd_levels.proofs.Installing.{written_cases}
use Rattle.kssd_root.specs.Following.{keys_from}
use Rattle.kssd_root.proofs.Counting.{merged_few}

infos_join : (xs ys : List Run) → infos_in (xs ++ ys) ≡ infos_in xs ++ infos_in ys
infos_join xs ys = map-append run_info xs ys

-- ---- what holds of all runs

all_first : (P : RunInfo → Type 0) (xs ys : List Run) → All P (infos_in (xs ++ ys)) → All P (infos_in xs)
all_first P xs ys all =
    let both : All P (infos_in xs ++ infos_in ys) = subst (All P) (infos_join xs ys) all in
    λ k d lt. subst P (get_or_append_left (infos_in xs) (infos_in ys) d k lt) (both k d (omega (arith, length-append (infos_in xs) (infos_in ys))))

all_second : (P : RunInfo → Type 0) (xs ys : List Run) → All P (infos_in (xs ++ ys)) → All P (infos_in ys)
all_second P xs ys all =
    let both : All P (infos_in xs ++ infos_in ys) = subst (All P) (infos_join xs ys) all in
    λ k d lt. subst P (get_or-append-add (infos_in xs) (infos_in ys) k d) (both (length (infos_in xs) + k) d (omega (arith, length-append (infos_in xs) (infos_in ys))))

all_join : (P : RunInfo → Type 0) (xs ys : List Run) → All P (infos_in xs) → All P (infos_in ys) → All P (infos_in (xs ++ ys))
all_join P xs ys first second = subst (All P) (sym (infos_join xs ys)) (All-append P (infos_in xs) (infos_in ys) first second)

all_written : (P : RunInfo → Type 0) (run : Run) → (0 < (run_info run).entries → P (run_info run)) → All P (infos_in (written run))
all_written P run own = written_cases run (λ runs. All P (infos_in runs)) (λ none. All-nil P) (λ some. All-cons P (run_info run) [] (own some) (All-nil P))

-- what holds of all runs before a job, and of its run, holds of all runs after it
pub all_installed : (P : RunInfo → Type 0) (kind : JobKind) (run : Run) (old new : Levels) → Installs kind run old new → All P (infos_of old) → (0 < (run_info run).entries → P (run_info run)) → All P (infos_of new)
all_installed P Flush run old new h all own =
    let top = all_first P old.zero (old.one ++ old.base) all in
    let rest = all_second P old.zero (old.one ++ old.base) all in
    all_join P new.zero (new.one ++ new.base)
    (subst (λ (rs : List Run). All P (infos_in rs)) (sym h.0) (all_join P (written run) old.zero (all_written P run own) top))
    (subst (λ (rs : List Run). All P (infos_in rs)) (λ i. sym h.1 i ++ sym h.2 i) rest)
all_installed P Zero run old new h all own =
    let rest = all_second P old.zero (old.one ++ old.base) all in
    all_join P new.zero (new.one ++ new.base)
    (subst (λ (rs : List Run). All P (infos_in rs)) (sym h.0) (All-nil P))
    (all_join P new.one new.base
    (subst (λ (rs : List Run). All P (infos_in rs)) (sym h.1) (all_written P run own))
    (subst (λ (rs : List Run). All P (infos_in rs)) (sym h.2) (all_second P old.one old.base rest)))
all_installed P One run old new h all own =
    let top = all_first P old.zero (old.one ++ old.base) all in
    all_join P new.zero (new.one ++ new.base)
    (subst (λ (rs : List Run). All P (infos_in rs)) (sym h.0) top)
    (all_join P new.one new.base
    (subst (λ (rs : List Run). All P (infos_in rs)) (sym h.1) (All-nil P))
    (subst (λ (rs : List Run). All P (infos_in rs)) (sym h.2) (all_written P run own)))
all_installed P Collect run old new h all own = absurd h

-- ---- numbers

pub numbers_of : (P : ℕ → Type 0) (infos : List RunInfo) → All (λ info. P info.number) infos → All P (run_numbers infos)
numbers_of P [] all = All-nil P
numbers_of P (r ∷ rs) all = All-cons P r.number (run_numbers rs) (All-head (λ info. P info.number) r rs all) (numbers_of P rs (All-tail (λ info. P info.number) r rs all))

pub of_numbers : (P : ℕ → Type 0) (infos : List RunInfo) → All P (run_numbers infos) → All (λ info. P info.number) infos
of_numbers P [] all = All-nil (λ info. P info.number)
of_numbers P (r ∷ rs) all = All-cons (λ info. P info.number) r rs (All-head P r.number (run_numbers rs) all) (of_numbers P rs (All-tail P r.number (run_numbers rs) all))

-- a number above all of them is none of them
pub fresh_number : (n : ℕ) (ns : List ℕ) → All (λ m. m < n) ns → has_block ns n ≡ false
fresh_number n [] all = refl
fresh_number n (m ∷ ns) all = by (nat_eq n m) refl (fresh_number n ns (All-tail (λ m. m < n) m ns all))
  where
    by : (b : Bool) → nat_eq n m ≡ b → has_block ns n ≡ false → Rattle.std.specs.Prelude.◌||◌ b (has_block ns n) ≡ false
    by true e rest = let same = eqb-true n m e in absurd (omega (arith, same, All-head (λ k. k < n) m ns all))
    by false e rest = rest

-- ---- the levels from one on

-- the runs of one level, from another on
filter_in : (least level : ℕ) (infos : List RunInfo) → All (λ info. info.level ≡ level) infos → nat_le least level ≡ true → filter (λ info. nat_le least info.level) infos ≡ infos
filter_in least level [] all le = refl
filter_in least level (r ∷ rs) all le =
    let here : nat_le least r.level ≡ true = ap (nat_le least) (All-head (λ info. info.level ≡ level) r rs all) ∙ le in
    ap (λ (b : Bool). cond b (r ∷ filter (λ info. nat_le least info.level) rs) (filter (λ info. nat_le least info.level) rs)) here
    ∙ ap (λ (xs : List RunInfo). r ∷ xs) (filter_in least level rs (All-tail (λ info. info.level ≡ level) r rs all) le)

filter_out : (least level : ℕ) (infos : List RunInfo) → All (λ info. info.level ≡ level) infos → nat_le least level ≡ false → filter (λ info. nat_le least info.level) infos ≡ []
filter_out least level [] all le = refl
filter_out least level (r ∷ rs) all le =
    let here : nat_le least r.level ≡ false = ap (nat_le least) (All-head (λ info. info.level ≡ level) r rs all) ∙ le in
    ap (λ (b : Bool). cond b (r ∷ filter (λ info. nat_le least info.level) rs) (filter (λ info. nat_le least info.level) rs)) here
    ∙ filter_out least level rs (All-tail (λ info. info.level ≡ level) r rs all) le

filter_parts : (least : ℕ) (levels : Levels) → filter (λ info. nat_le least info.level) (infos_of levels) ≡ filter (λ info. nat_le least info.level) (infos_in levels.zero) ++ (filter (λ info. nat_le least info.level) (infos_in levels.one) ++ filter (λ info. nat_le least info.level) (infos_in levels.base))
filter_parts least levels =
    let p : RunInfo → Bool = λ info. nat_le least info.level in
    ap (filter p) (infos_join levels.zero (levels.one ++ levels.base) ∙ ap (λ (xs : List RunInfo). infos_in levels.zero ++ xs) (infos_join levels.one levels.base))
    ∙ filter-append p (infos_in levels.zero) (infos_in levels.one ++ infos_in levels.base)
    ∙ ap (λ (xs : List RunInfo). filter p (infos_in levels.zero) ++ xs) (filter-append p (infos_in levels.one) (infos_in levels.base))

from_0 : (levels : Levels) → filter (λ info. nat_le 0 info.level) (infos_of levels) ≡ infos_of levels
from_0 levels =
    filter_parts 0 levels
    ∙ (λ i. filter_in 0 0 (infos_in levels.zero) levels.sound.zero_level refl i ++ (filter_in 0 1 (infos_in levels.one) levels.sound.one_level refl i ++ filter_in 0 2 (infos_in levels.base) levels.sound.base_level refl i))
    ∙ ap (λ (xs : List RunInfo). infos_in levels.zero ++ xs) (sym (infos_join levels.one levels.base))
    ∙ sym (infos_join levels.zero (levels.one ++ levels.base))

from_1 : (levels : Levels) → filter (λ info. nat_le 1 info.level) (infos_of levels) ≡ infos_in (levels.one ++ levels.base)
from_1 levels =
    filter_parts 1 levels
    ∙ (λ i. filter_out 1 0 (infos_in levels.zero) levels.sound.zero_level refl i ++ (filter_in 1 1 (infos_in levels.one) levels.sound.one_level refl i ++ filter_in 1 2 (infos_in levels.base) levels.sound.base_level refl i))
    ∙ sym (infos_join levels.one levels.base)

from_2 : (levels : Levels) → filter (λ info. nat_le 2 info.level) (infos_of levels) ≡ infos_in levels.base
from_2 levels =
    filter_parts 2 levels
    ∙ (λ i. filter_out 2 0 (infos_in levels.zero) levels.sound.zero_level refl i ++ (filter_out 2 1 (infos_in levels.one) levels.sound.one_level refl i ++ filter_in 2 2 (infos_in levels.base) levels.sound.base_level refl i))

-- the keys of these runs, deletion marks apart
abbrev pub keys_in : Image → List Run → ℕ
keys_in image runs = length (without_marks (runs_map image (infos_in runs)))

keys_of : Image → List RunInfo → ℕ
keys_of image infos = length (without_marks (runs_map image infos))

pub keys_from_0 : (image : Image) (levels : Levels) → keys_from image (infos_of levels) 0 ≡ length (without_marks (runs_map image (infos_of levels)))
unfolding keys_of
keys_from_0 image levels = ap (keys_of image) (from_0 levels)

pub keys_from_1 : (image : Image) (levels : Levels) → keys_from image (infos_of levels) 1 ≡ keys_in image (levels.one ++ levels.base)
unfolding keys_of
keys_from_1 image levels = ap (keys_of image) (from_1 levels)

pub keys_from_2 : (image : Image) (levels : Levels) → keys_from image (infos_of levels) 2 ≡ keys_in image levels.base
unfolding keys_of
keys_from_2 image levels = ap (keys_of image) (from_2 levels)

-- ---- blocks

blocks_join : (xs ys : List Run) → blocks_in (xs ++ ys) ≡ blocks_in xs ++ blocks_in ys
blocks_join xs ys = ap blocks_of (infos_join xs ys) ∙ flat_map-append (λ (info : RunInfo). info.blocks) (infos_in xs) (infos_in ys)

pub same_in_first : (xs ys : List Run) (old new : Image) → AreSameIn (blocks_in (xs ++ ys)) old new → AreSameIn (blocks_in xs) old new
same_in_first xs ys old new same = same_first (blocks_in xs) (blocks_in ys) old new (subst (λ (bs : List ℕ). AreSameIn bs old new) (blocks_join xs ys) same)

pub same_in_second : (xs ys : List Run) (old new : Image) → AreSameIn (blocks_in (xs ++ ys)) old new → AreSameIn (blocks_in ys) old new
same_in_second xs ys old new same = same_second (blocks_in xs) (blocks_in ys) old new (subst (λ (bs : List ℕ). AreSameIn bs old new) (blocks_join xs ys) same)

-- ---- how many entries runs have together

pub few_in : (runs : List Run) (device : ℕ) (image : Image) → StandRuns runs device image → length (runs_map image (infos_in runs)) ≤ entries_in runs
few_in [] device image stand = omega arith
few_in (r ∷ rs) device image stand =
    omega (arith, merged_few (Rattle.kssd_model.specs.RunPages.run_entries image (run_info r)) (runs_map image (infos_in rs)), stand.0.run_in.count, few_in rs device image stand.1, Rattle.std.proofs.lemmas.List.Sums.sum_by-cons (λ (run : Run). (run_info run).entries) r rs)
