-- Runs in the anchor's order, sorted by levels as they are opened.
use Rattle.std.proofs.Common.{◌≡◌, ◌∙◌, ℕ, zero, suc, inl, inr, ◌+◌, ◌<◌, ◌≤◌, ◌==◌, Bool, true, false, cond, not, ◌&&◌, List, [], ◌∷◌, ◌++◌, length, get_or, take, drop, refl, sym, ap, subst, arith, zero-add}
use Rattle.std.specs.Prelude.{nat_eq, filter}
use Rattle.std.specs.List.{All, AllPairs, IsDistinct}
use Rattle.std.proofs.lemmas.Bool.{ne_eqb, eqb-true, eqb-false, and_parts}
use Rattle.std.proofs.lemmas.List.{map-append, length-map, take_more, take-append-drop}
use Rattle.std.proofs.lemmas.List.Sums.{sum_by-append}
use Rattle.std.proofs.lemmas.List.Elements.{All-append, All-cons, All-filter, filter_more, filter_passes}
use Rattle.kv_nand.specs.Flash.{Image, Flash}
use Rattle.kv_nand.specs.declared.fault.FlashFault.TheVariants as flash
use Rattle.kssd_model.specs.OnlyReading.{OnlyReads}
use Rattle.kssd_model.proofs.ReadingOn.{reads_image, reads_then_reads, reads_then_stops}
use Rattle.kssd_run.specs.declared.fault.RunFault.{RunFault}
use Rattle.kssd_run.specs.declared.fault.RunFault.TheVariants as run
use Rattle.kssd_run.specs.Opening.{OpenFails}
use Rattle.kssd_model.specs.declared.runs.RunInfo.{RunInfo}
use Rattle.kssd_model.specs.RunPages.{IsGoodRun, IsBadRunAt, AreRunBlocks}
use Rattle.kssd_image.specs.AnchorForm.{AreOnLevels, IsRunForm, blocks_of, run_numbers, count_on}
use Rattle.kssd_image.specs.Damages.{IsBadRunOf}
use Rattle.kssd_run.specs.declared.reader.Run.{Run}
use Rattle.kssd_run.specs.Run.{run_info, StandsRun}
use Rattle.kssd_levels.specs.Runs.{infos_in, StandRuns}
use Rattle.kssd_levels.specs.Opening.{when, Adds}
use Rattle.kssd_levels.specs.declared.opening.Opened.{Opened}
use Rattle.kssd_levels.specs.Sound.{AreLevels}
use Rattle.kssd_levels.proofs.Distinct.{distinct_first, distinct_second}
use Rattle.kssd_levels.specs.Levels.{pages_in, OpensFail}
use Rattle.kssd_levels.proofs.Layers.{stand_join}
use Rattle.kssd_levels.proofs.Named.{OfLevel, count_all, count_join, infos_join}

abbrev at_zero : RunInfo → Bool
at_zero info = info.level == 0

abbrev at_one : RunInfo → Bool
at_one info = info.level == 1

abbrev at_base : RunInfo → Bool
at_base info = not (at_zero info) && not (at_one info)

-- by levels, these are the runs that were opened
pub record AreSorted (infos : List RunInfo) (opened : Opened) : Type 0 where
  pub zero_are : infos_in opened.zero ≡ filter at_zero infos
  pub one_are : infos_in opened.one ≡ filter at_one infos
  pub base_are : infos_in opened.base ≡ filter at_base infos

when_infos : (test : Bool) (run : Run) → infos_in (when test run) ≡ cond test (run_info run ∷ []) []
when_infos true run = refl
when_infos false run = refl

sorted_more : (p : RunInfo → Bool) (infos : List RunInfo) (i : ℕ) (run : Run) (old new : List Run) → i < length infos → run_info run ≡ get_or infos i (run_info run) → infos_in old ≡ filter p (take i infos) → new ≡ old ++ when (p (run_info run)) run → infos_in new ≡ filter p (take (i + 1) infos)
sorted_more p infos i run old new lt at is adds =
    ap infos_in adds
    ∙ map-append run_info old (when (p (run_info run)) run)
    ∙ ap (λ (xs : List RunInfo). xs ++ infos_in (when (p (run_info run)) run)) is
    ∙ ap (λ (xs : List RunInfo). filter p (take i infos) ++ xs) (when_infos (p (run_info run)) run ∙ ap (λ (info : RunInfo). cond (p info) (info ∷ []) []) at)
    ∙ sym (filter_more p infos i (run_info run) lt)

pub adds_sorted : (infos : List RunInfo) (i : ℕ) (run : Run) (old new : Opened) → i < length infos → run_info run ≡ get_or infos i (run_info run) → AreSorted (take i infos) old → Adds run old new → AreSorted (take (i + 1) infos) new
adds_sorted infos i run old new lt at h adds = record {
  zero_are = sorted_more at_zero infos i run old.zero new.zero lt at h.zero_are adds.zero;
  one_are = sorted_more at_one infos i run old.one new.one lt at h.one_are adds.one;
  base_are = sorted_more at_base infos i run old.base new.base lt at h.base_are adds.base;
}

-- ---- runs in order are those of each level

pub record InOrder (infos : List RunInfo) : Type 0 where
  pub pairs : AllPairs (λ run later. run.level ≤ later.level) infos

rest_order : (x : RunInfo) (xs : List RunInfo) → InOrder (x ∷ xs) → InOrder xs
rest_order x xs h = record { pairs = λ i j d lt within. h.pairs (suc i) (suc j) d (omega arith) (omega arith) }

pub record AtLeast (level : ℕ) (infos : List RunInfo) : Type 0 where
  pub all : All (λ info. level ≤ info.level) infos

later_least : (x : RunInfo) (xs : List RunInfo) → InOrder (x ∷ xs) → AtLeast x.level xs
later_least x xs h = record { all = λ k d lt. h.pairs 0 (suc k) d (omega arith) (omega arith) }

least_rest : (level : ℕ) (x : RunInfo) (xs : List RunInfo) → AtLeast level (x ∷ xs) → AtLeast level xs
least_rest level x xs h = record { all = λ k d lt. h.all (suc k) d (omega arith) }

none_at : (level least : ℕ) (xs : List RunInfo) → level < least → AtLeast least xs → filter (λ info. info.level == level) xs ≡ []
none_at level least [] lt h = refl
none_at level least (x ∷ xs) lt h =
    let le : least ≤ x.level = h.all 0 x (omega arith) in
    ap (λ b. cond b (x ∷ filter (λ info. info.level == level) xs) (filter (λ info. info.level == level) xs)) (ne_eqb x.level level (λ e. omega arith))
    ∙ none_at level least xs lt (least_rest least x xs h)

parts : List RunInfo → List RunInfo
parts xs = filter at_zero xs ++ (filter at_one xs ++ filter at_base xs)

parts_zero : (x : RunInfo) (xs : List RunInfo) → at_zero x ≡ true → parts (x ∷ xs) ≡ x ∷ parts xs
unfolding parts
parts_zero x xs h =
    let one : at_one x ≡ false = ne_eqb x.level 1 (λ e. omega (arith, eqb-true x.level 0 h)) in
    ap (λ b. cond b (x ∷ filter at_zero xs) (filter at_zero xs) ++ (filter at_one (x ∷ xs) ++ filter at_base (x ∷ xs))) h
    ∙ ap (λ b. (x ∷ filter at_zero xs) ++ (cond b (x ∷ filter at_one xs) (filter at_one xs) ++ filter at_base (x ∷ xs))) one
    ∙ ap (λ b. (x ∷ filter at_zero xs) ++ (filter at_one xs ++ cond (not b && not (at_one x)) (x ∷ filter at_base xs) (filter at_base xs))) h

parts_one : (x : RunInfo) (xs : List RunInfo) → at_zero x ≡ false → at_one x ≡ true → filter at_zero xs ≡ [] → parts (x ∷ xs) ≡ x ∷ parts xs
unfolding parts
parts_one x xs h g none =
    ap (λ b. cond b (x ∷ filter at_zero xs) (filter at_zero xs) ++ (filter at_one (x ∷ xs) ++ filter at_base (x ∷ xs))) h
    ∙ ap (λ (zs : List RunInfo). zs ++ (filter at_one (x ∷ xs) ++ filter at_base (x ∷ xs))) none
    ∙ ap (λ b. cond b (x ∷ filter at_one xs) (filter at_one xs) ++ filter at_base (x ∷ xs)) g
    ∙ ap (λ b. (x ∷ filter at_one xs) ++ cond (not b && not (at_one x)) (x ∷ filter at_base xs) (filter at_base xs)) h
    ∙ ap (λ b. (x ∷ filter at_one xs) ++ cond (not b) (x ∷ filter at_base xs) (filter at_base xs)) g
    ∙ ap (λ (zs : List RunInfo). x ∷ (zs ++ (filter at_one xs ++ filter at_base xs))) (sym none)

parts_base : (x : RunInfo) (xs : List RunInfo) → at_zero x ≡ false → at_one x ≡ false → filter at_zero xs ≡ [] → filter at_one xs ≡ [] → parts (x ∷ xs) ≡ x ∷ parts xs
unfolding parts
parts_base x xs h g none single =
    ap (λ b. cond b (x ∷ filter at_zero xs) (filter at_zero xs) ++ (filter at_one (x ∷ xs) ++ filter at_base (x ∷ xs))) h
    ∙ ap (λ (zs : List RunInfo). zs ++ (filter at_one (x ∷ xs) ++ filter at_base (x ∷ xs))) none
    ∙ ap (λ b. cond b (x ∷ filter at_one xs) (filter at_one xs) ++ filter at_base (x ∷ xs)) g
    ∙ ap (λ (zs : List RunInfo). zs ++ filter at_base (x ∷ xs)) single
    ∙ ap (λ b. cond (not b && not (at_one x)) (x ∷ filter at_base xs) (filter at_base xs)) h
    ∙ ap (λ b. cond (not b) (x ∷ filter at_base xs) (filter at_base xs)) g
    ∙ ap (λ (zs : List RunInfo). x ∷ (zs ++ filter at_base xs)) (sym single)
    ∙ ap (λ (zs : List RunInfo). x ∷ (zs ++ (filter at_one xs ++ filter at_base xs))) (sym none)

-- runs in order, sorted, are as they were
in_order : (xs : List RunInfo) → InOrder xs → parts xs ≡ xs
unfolding parts
in_order [] h = refl
in_order (x ∷ xs) h =
    first (in_order xs (rest_order x xs h)) (at_zero x) (at_one x) refl refl
  where
    least : AtLeast x.level xs
    least = later_least x xs h

    first : parts xs ≡ xs → (a b : Bool) → at_zero x ≡ a → at_one x ≡ b → parts (x ∷ xs) ≡ x ∷ xs
    first rest true b e f = parts_zero x xs e ∙ ap (λ (zs : List RunInfo). x ∷ zs) rest
    first rest false true e f =
        let one : x.level ≡ 1 = eqb-true x.level 1 f in
        parts_one x xs e f (none_at 0 x.level xs (omega arith) least) ∙ ap (λ (zs : List RunInfo). x ∷ zs) rest
    first rest false false e f =
        let above : 1 < x.level = omega (arith, eqb-false x.level 0 e, eqb-false x.level 1 f) in
        parts_base x xs e f (none_at 0 x.level xs (omega arith) least) (none_at 1 x.level xs above least) ∙ ap (λ (zs : List RunInfo). x ∷ zs) rest

pub sorted_are : (infos : List RunInfo) (opened : Opened) → AreOnLevels infos → AreSorted infos opened → infos_in (opened.zero ++ (opened.one ++ opened.base)) ≡ infos
unfolding parts
sorted_are infos opened levels h =
    infos_join opened.zero opened.one opened.base
    ∙ ap (λ (xs : List RunInfo). xs ++ (infos_in opened.one ++ infos_in opened.base)) h.zero_are
    ∙ ap (λ (xs : List RunInfo). filter at_zero infos ++ (xs ++ infos_in opened.base)) h.one_are
    ∙ ap (λ (xs : List RunInfo). filter at_zero infos ++ (filter at_one infos ++ xs)) h.base_are
    ∙ in_order infos (record { pairs = levels.order })

of_test : (level : ℕ) (infos : List RunInfo) → OfLevel level (filter (λ info. info.level == level) infos)
of_test level infos = record { all = λ k d lt. eqb-true _ level (filter_passes (λ (info : RunInfo). info.level == level) infos k d lt) }

of_base : (infos : List RunInfo) → All (λ info. info.level ≤ 2) infos → OfLevel 2 (filter at_base infos)
of_base infos known = record {
  all = λ k d lt.
      let p = and_parts _ _ (filter_passes at_base infos k d lt) in
      two _ (All-filter at_base (λ (info : RunInfo). info.level ≤ 2) infos known k d lt) p.0 p.1;
}
  where
    not_true : (b : Bool) → not b ≡ true → b ≡ false
    not_true true e = absurd cc
    not_true false e = refl

    two : (n : ℕ) → n ≤ 2 → not (n == 0) ≡ true → not (n == 1) ≡ true → n ≡ 2
    two n le a b = omega (arith, eqb-false n 0 (not_true _ a), eqb-false n 1 (not_true _ b))

length_of : (runs : List Run) (infos : List RunInfo) → infos_in runs ≡ infos → length runs ≡ length infos
length_of runs infos e = sym (length-map runs run_info) ∙ ap length e

-- the runs of an anchor in form, sorted, are levels
pub sorted_levels : (device : ℕ) (infos : List RunInfo) (opened : Opened) → AreOnLevels infos → All (IsRunForm device) infos → IsDistinct nat_eq (blocks_of infos) → IsDistinct nat_eq (run_numbers infos) → AreSorted infos opened → AreLevels device opened.zero opened.one opened.base
unfolding parts
sorted_levels device infos opened levels runs blocks numbers h =
    let are = sorted_are infos opened levels h in
    let order = in_order infos (record { pairs = levels.order }) in
    let zs = filter at_zero infos in
    let os = filter at_one infos in
    let bs = filter at_base infos in
    record {
      zero_level = subst (All (λ (info : RunInfo). info.level ≡ 0)) (sym h.zero_are) (of_test 0 infos).all;
      one_level = subst (All (λ (info : RunInfo). info.level ≡ 1)) (sym h.one_are) (of_test 1 infos).all;
      base_level = subst (All (λ (info : RunInfo). info.level ≡ 2)) (sym h.base_are) (of_base infos levels.known).all;
      zero_few = omega (arith, length_of opened.zero zs h.zero_are, count_all 0 zs (of_test 0 infos), count_join 0 zs (os ++ bs), ap (count_on 0) order, levels.level_0);
      one_few = omega (arith, length_of opened.one os h.one_are, count_all 1 os (of_test 1 infos), count_join 1 zs (os ++ bs), count_join 1 os bs, ap (count_on 1) order, levels.level_1);
      base_few = omega (arith, length_of opened.base bs h.base_are, count_all 2 bs (of_base infos levels.known), count_join 2 zs (os ++ bs), count_join 2 os bs, ap (count_on 2) order, levels.base);
      runs = subst (All (IsRunForm device)) (sym are) runs;
      blocks_differ = subst (λ (xs : List RunInfo). IsDistinct nat_eq (blocks_of xs)) (sym are) blocks;
      numbers_differ = subst (λ (xs : List RunInfo). IsDistinct nat_eq (run_numbers xs)) (sym are) numbers;
    }

-- ---- one run of an anchor in form

distinct_at : (infos : List RunInfo) (i : ℕ) (d : RunInfo) → i < length infos → IsDistinct nat_eq (blocks_of infos) → IsDistinct nat_eq (get_or infos i d).blocks
distinct_at [] i d lt h = absurd (omega arith)
distinct_at (x ∷ xs) zero d lt h = distinct_first x.blocks (blocks_of xs) h
distinct_at (x ∷ xs) (suc i) d lt h = distinct_at xs i d (omega arith) (distinct_second x.blocks (blocks_of xs) h)

-- the blocks of one run
pub blocks_at : (device : ℕ) (infos : List RunInfo) (i : ℕ) (info : RunInfo) → i < length infos → info ≡ get_or infos i info → All (IsRunForm device) infos → IsDistinct nat_eq (blocks_of infos) → AreRunBlocks device info.blocks
blocks_at device infos i info lt e runs h =
    let form = subst (IsRunForm device) (sym e) (runs i info lt) in
    record {
      distinct = subst (λ (x : RunInfo). IsDistinct nat_eq x.blocks) (sym e) (distinct_at infos i info lt h);
      region = λ k within. form.region k 0 within;
    }

-- the first bad run of an anchor
pub bad_at : (image : Image) (infos : List RunInfo) (i : ℕ) (info : RunInfo) (page : ℕ) → i < length infos → info ≡ get_or infos i info → All (IsGoodRun image) (take i infos) → IsBadRunAt image info page → IsBadRunOf image infos page
bad_at image [] i info page lt e good bad = absurd (omega arith)
bad_at image (x ∷ xs) zero info page lt e good bad = inl (subst (λ (y : RunInfo). IsBadRunAt image y page) e bad)
bad_at image (x ∷ xs) (suc i) info page lt e good bad = inr (good 0 x (omega arith), bad_at image xs i info page (omega arith) e (λ k d within. good (suc k) d (omega arith)) bad)

-- one good run more
pub good_more : (image : Image) (infos : List RunInfo) (i : ℕ) (info : RunInfo) → i < length infos → info ≡ get_or infos i info → All (IsGoodRun image) (take i infos) → IsGoodRun image info → All (IsGoodRun image) (take (i + 1) infos)
good_more image infos i info lt e good here =
    subst (All (IsGoodRun image)) (sym (take_more infos i info lt))
    (All-append (IsGoodRun image) (take i infos) (get_or infos i info ∷ []) good (All-cons (IsGoodRun image) (get_or infos i info) [] (subst (IsGoodRun image) e here) (λ k d within. absurd (omega arith))))

stand_when : (test : Bool) (run : Run) (device : ℕ) (image : Image) → StandsRun run device image → StandRuns (when test run) device image
stand_when true run device image h = (h, tt)
stand_when false run device image h = tt

-- the runs of one level stand with the run that came
pub stand_more : (test : Bool) (run : Run) (old new : List Run) (device : ℕ) (image : Image) → new ≡ old ++ when test run → StandsRun run device image → StandRuns old device image → StandRuns new device image
stand_more test run old new device image adds h stand = subst (λ (runs : List Run). StandRuns runs device image) (sym adds) (stand_join old (when test run) device image stand (stand_when test run device image h))

pages_at : (infos : List RunInfo) (i : ℕ) (info : RunInfo) → i < length infos → info ≡ get_or infos i info → pages_in (take (i + 1) infos) ≡ pages_in (take i infos) + info.pages
pages_at infos i info lt e =
    ap pages_in (take_more infos i info lt)
    ∙ sum_by-append (λ (x : RunInfo). x.pages) (take i infos) (get_or infos i info ∷ [])
    ∙ ap (λ (n : ℕ). pages_in (take i infos) + n) (zero-add (get_or infos i info).pages ∙ ap (λ (x : RunInfo). x.pages) (sym e))

pages_upto : (infos : List RunInfo) (i : ℕ) → pages_in (take i infos) ≤ pages_in infos
pages_upto infos i = omega (arith, sum_by-append (λ (x : RunInfo). x.pages) (take i infos) (drop i infos), ap pages_in (take-append-drop i infos))

-- the pages read so far, and those of one run more
pub few_more : (infos : List RunInfo) (i : ℕ) (info : RunInfo) (old now new : ℕ) → i < length infos → info ≡ get_or infos i info → now ≤ old + pages_in (take i infos) → new ≤ now + info.pages → new ≤ old + pages_in (take (i + 1) infos)
few_more infos i info old now new lt e h g = omega (arith, pages_at infos i info lt e)

pub few_all : (infos all : List RunInfo) (i old new : ℕ) → infos ≡ all → new ≤ old + pages_in (take i infos) → new ≤ old + pages_in all
few_all infos all i old new e h = omega (arith, pages_upto infos i, ap pages_in e)

-- why a run isn't opened is why the levels aren't
pub run_fails : (infos all : List RunInfo) (i : ℕ) (info : RunInfo) (start was new : Flash) (fault : RunFault) → infos ≡ all → i < length infos → info ≡ get_or infos i info → OnlyReads start was → All (IsGoodRun start.image) (take i infos) → OpenFails info was fault new → OpensFail all start fault new
run_fails infos all i info start was new (run.Bad page) same lt e reads good h = (
  subst (λ (xs : List RunInfo). IsBadRunOf start.image xs page) same (bad_at start.image infos i info page lt e good (subst (λ (im : Image). IsBadRunAt im info page) (reads_image start was reads) h.0)),
  reads_then_reads start was new reads h.1,
)
run_fails infos all i info start was new run.Off same lt e reads good h = reads_then_stops start was new flash.Off reads h
run_fails infos all i info start was new run.Failed same lt e reads good h = reads_then_stops start was new flash.Failed reads h
run_fails infos all i info start was new run.Memory same lt e reads good h = reads_then_stops start was new flash.Memory reads h
