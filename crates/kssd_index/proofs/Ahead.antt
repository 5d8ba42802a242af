-- The jobs that are ahead, and how many operations they take.
use Rattle.std.proofs.Common.{true, false, ◌≡◌, ◌≢◌, ◌∙◌, ℕ, ◌+◌, ◌-◌, ◌*◌, ◌<◌, ◌≤◌, Bool, cond, List, [], length, Some, None, refl, sym, ap, subst, arith}
use Rattle.std.specs.Prelude.{nat_lt, nat_le, ◌&&◌, is_some}
use Rattle.std.proofs.lemmas.Bool.{false≢true, ltb-true, ltb-false, lt-ltb, le-ltb}
use Rattle.kv_nand.specs.Flash.{Image}
use Rattle.kssd_levels.specs.declared.kind.JobKind.{JobKind}
use Rattle.kssd_levels.specs.declared.kind.JobKind.TheVariants.{Flush, Zero, One, Collect}
use Rattle.kssd_levels.specs.declared.levels.Levels.{Levels}
use Rattle.kssd_levels.specs.Levels.{first_entries}
use Rattle.kssd_run.specs.declared.reader.Run.{Run}
use Rattle.kssd_compact.specs.declared.job.Job.{Job}
use Rattle.kssd_compact.specs.Job.{steps_most}
use Rattle.kssd_root.specs.declared.root.Root.{Root}
use Rattle.kssd_root.specs.UnderWay.{IsUnderWay}
use Rattle.kssd_root.specs.Costs.{run_cost, merge_cost}
use Rattle.kssd_root.proofs.UnderWay.{way_steps}
use Rattle.kssd_index.specs.declared.index.Index.{Index}
use Rattle.kssd_index.specs.Standing.{IsIndex, job_table, index_root}
use Rattle.kssd_index.specs.Working.{due_in, sum_of, sum_ahead, jobs_ahead, work_ahead, count_of, IsOneFewer}
use Rattle.kssd_index.proofs.JobSteps.{some_is, levels_due, due_flush, never_collected}
use Rattle.kssd_index.proofs.NamedJobs.{merge_table}

-- ---- numbers

zero_less : (flush upper lower : ℕ) (frozen low : Bool) → sum_of flush upper lower frozen low true + upper ≤ sum_of flush upper lower frozen true false
zero_less flush upper lower true true = omega arith
zero_less flush upper lower true false = omega arith
zero_less flush upper lower false true = omega arith
zero_less flush upper lower false false = omega arith

one_less : (flush upper lower : ℕ) (frozen place : Bool) → sum_of flush upper lower frozen true place + lower ≤ sum_of flush upper lower frozen false place
one_less flush upper lower true true = omega arith
one_less flush upper lower true false = omega arith
one_less flush upper lower false true = omega arith
one_less flush upper lower false false = omega arith

flush_less : (flush upper lower : ℕ) (low place later : Bool) → (place ≡ true → later ≡ true) → sum_of flush upper lower false low later + flush ≤ sum_of flush upper lower true low place
flush_less flush upper lower true true true stays = omega arith
flush_less flush upper lower false true true stays = omega arith
flush_less flush upper lower low true false stays = absurd (false≢true (stays refl))
flush_less flush upper lower true false true stays = omega arith
flush_less flush upper lower true false false stays = omega arith
flush_less flush upper lower false false true stays = omega arith
flush_less flush upper lower false false false stays = omega arith

le_at : (a b c d w : ℕ) → a ≡ c → b ≡ d → c + w ≤ d → a + w ≤ b
le_at a b c d w first last le = omega arith

one_at_most : (b : Bool) → cond b 1 0 ≤ 1
one_at_most true = omega arith
one_at_most false = omega arith

-- ---- a job is done

merged_by : (few room : Bool) (kind : JobKind) (flush upper lower : ℕ) (old new : Levels) (frozen : Bool) → nat_le (first_entries old.one) 4096 ≡ few → nat_lt (length old.zero) 4 ≡ room → cond few (cond room None (Some Zero)) (Some One) ≡ Some kind
    → (kind ≡ Zero → new.zero ≡ []) → (kind ≡ One → (new.zero ≡ old.zero) × (new.one ≡ []))
    → sum_of flush upper lower frozen (nat_le (first_entries new.one) 4096) (nat_lt (length new.zero + cond frozen 1 0) 4) + count_of flush upper lower kind
    ≤ sum_of flush upper lower frozen (nat_le (first_entries old.one) 4096) (nat_lt (length old.zero + cond frozen 1 0) 4)
merged_by true true kind flush upper lower old new frozen is_few is_room due z o = absurd cc
merged_by true false kind flush upper lower old new frozen is_few is_room due z o =
    let is : Zero ≡ kind = some_is Zero kind due in
    let gone : length new.zero ≡ 0 = ap (λ (rs : List Run). length rs) (z (sym is)) in
    let place : nat_lt (length new.zero + cond frozen 1 0) 4 ≡ true = lt-ltb _ _ (omega (arith, gone, one_at_most frozen)) in
    let many : 4 ≤ length old.zero = ltb-false _ _ is_room in
    let full : nat_lt (length old.zero + cond frozen 1 0) 4 ≡ false = le-ltb _ _ (omega (arith, many)) in
    let low = nat_le (first_entries new.one) 4096 in
    subst (λ (k : JobKind). sum_of flush upper lower frozen low (nat_lt (length new.zero + cond frozen 1 0) 4) + count_of flush upper lower k ≤ sum_of flush upper lower frozen (nat_le (first_entries old.one) 4096) (nat_lt (length old.zero + cond frozen 1 0) 4)) is
    (le_at _ _ _ _ upper (ap (λ (p : Bool). sum_of flush upper lower frozen low p) place) (λ i. sum_of flush upper lower frozen (is_few i) (full i)) (zero_less flush upper lower frozen low))
merged_by false room kind flush upper lower old new frozen is_few is_room due z o =
    let is : One ≡ kind = some_is One kind due in
    let same = o (sym is) in
    let low : nat_le (first_entries new.one) 4096 ≡ true = ap (λ (rs : List Run). nat_le (first_entries rs) 4096) same.1 in
    let place : nat_lt (length new.zero + cond frozen 1 0) 4 ≡ nat_lt (length old.zero + cond frozen 1 0) 4 = ap (λ (rs : List Run). nat_lt (length rs + cond frozen 1 0) 4) same.0 in
    let as_before = nat_lt (length old.zero + cond frozen 1 0) 4 in
    subst (λ (k : JobKind). sum_of flush upper lower frozen (nat_le (first_entries new.one) 4096) (nat_lt (length new.zero + cond frozen 1 0) 4) + count_of flush upper lower k ≤ sum_of flush upper lower frozen (nat_le (first_entries old.one) 4096) as_before) is
    (le_at _ _ _ _ lower (λ i. sum_of flush upper lower frozen (low i) (place i)) (ap (λ (l : Bool). sum_of flush upper lower frozen l as_before) is_few) (one_less flush upper lower frozen as_before))

-- a merge that was due is done
pub fewer_merges : (kind : JobKind) (old : Index) (root : Root) (age : ℕ) → due_in old ≡ Some kind → kind ≢ Flush → (kind ≡ Zero → root.levels.zero ≡ []) → (kind ≡ One → (root.levels.zero ≡ old.root.levels.zero) × (root.levels.one ≡ [])) → IsOneFewer kind old (record old { root = root; age = age })
fewer_merges kind old root age due other emptied moved f z o =
    let levels = old.root.levels in
    merged_by (nat_le (first_entries levels.one) 4096) (nat_lt (length levels.zero) 4) kind f z o levels root.levels (is_some old.older) refl refl (levels_due old kind due other) emptied moved

-- a flush is done
pub fewer_flushes : (old : Index) (root : Root) (age : ℕ) → is_some old.older ≡ true → root.levels.one ≡ old.root.levels.one → length root.levels.zero ≤ length old.root.levels.zero + 1 → IsOneFewer Flush old (record old { root = root; age = age; older = None })
fewer_flushes old root age frozen same more f z o =
    let low : nat_le (first_entries root.levels.one) 4096 ≡ nat_le (first_entries old.root.levels.one) 4096 = ap (λ (rs : List Run). nat_le (first_entries rs) 4096) same in
    let place : nat_lt (length old.root.levels.zero + 1) 4 ≡ true → nat_lt (length root.levels.zero + 0) 4 ≡ true = λ is. lt-ltb _ _ (let few = ltb-true (length old.root.levels.zero + 1) 4 is in omega arith) in
    le_at _ _ _ _ f (ap (λ (l : Bool). sum_of f z o false l (nat_lt (length root.levels.zero + 0) 4)) low)
    (ap (λ (b : Bool). sum_of f z o b (nat_le (first_entries old.root.levels.one) 4096) (nat_lt (length old.root.levels.zero + cond b 1 0) 4)) frozen)
    (flush_less f z o (nat_le (first_entries old.root.levels.one) 4096) (nat_lt (length old.root.levels.zero + 1) 4) (nat_lt (length root.levels.zero + 0) 4) place)

-- ---- how many there are

sum_few : (frozen low place : Bool) → sum_of 1 1 1 frozen low place ≤ 4
sum_few true true true = omega arith
sum_few true true false = omega arith
sum_few true false true = omega arith
sum_few true false false = omega arith
sum_few false true true = omega arith
sum_few false true false = omega arith
sum_few false false true = omega arith
sum_few false false false = omega arith

pub jobs_few : (index : Index) → jobs_ahead index ≤ 4
jobs_few index = sum_few _ _ _

-- ---- one that is due is ahead

no_place : (few room : Bool) → cond few (cond room None (Some Zero)) (Some One) ≡ Some Zero → room ≡ false
no_place true true due = absurd cc
no_place true false due = refl
no_place false room due = absurd (let e = some_is One Zero due in cc)

not_low : (few room : Bool) → cond few (cond room None (Some Zero)) (Some One) ≡ Some One → few ≡ false
not_low true true due = absurd cc
not_low true false due = absurd (let e = some_is Zero One due in cc)
not_low false room due = refl

pub due_counts : (index : Index) (kind : JobKind) → due_in index ≡ Some kind → (flush upper lower : ℕ) → count_of flush upper lower kind ≤ sum_ahead flush upper lower index
due_counts index Flush due flush upper lower =
    let levels = index.root.levels in
    subst (λ (b : Bool). flush ≤ sum_of flush upper lower b (nat_le (first_entries levels.one) 4096) (nat_lt (length levels.zero + cond b 1 0) 4)) (sym (due_flush index due).frozen) (omega arith)
due_counts index Zero due flush upper lower =
    let levels = index.root.levels in
    let room = no_place (nat_le (first_entries levels.one) 4096) (nat_lt (length levels.zero) 4) (levels_due index Zero due (λ e. cc)) in
    let many : 4 ≤ length levels.zero = ltb-false _ _ room in
    let full : nat_lt (length levels.zero + cond (is_some index.older) 1 0) 4 ≡ false = le-ltb _ _ (omega (arith, many)) in
    subst (λ (b : Bool). upper ≤ sum_of flush upper lower (is_some index.older) (nat_le (first_entries levels.one) 4096) b) (sym full) (omega arith)
due_counts index One due flush upper lower =
    let levels = index.root.levels in
    let high = not_low (nat_le (first_entries levels.one) 4096) (nat_lt (length levels.zero) 4) (levels_due index One due (λ e. cc)) in
    subst (λ (b : Bool). lower ≤ sum_of flush upper lower (is_some index.older) b (nat_lt (length levels.zero + cond (is_some index.older) 1 0) 4)) (sym high) (omega arith)
due_counts index Collect due flush upper lower = absurd (never_collected index due)

one_counts : (index : Index) (kind : JobKind) → due_in index ≡ Some kind → count_of 1 1 1 kind ≡ 1
one_counts index Flush due = refl
one_counts index Zero due = refl
one_counts index One due = refl
one_counts index Collect due = absurd (never_collected index due)

pub one_fewer : (kind : JobKind) (now next : Index) → due_in now ≡ Some kind → IsOneFewer kind now next → jobs_ahead next < jobs_ahead now
one_fewer kind now next due fewer = omega (arith, fewer 1 1 1, one_counts now kind due)

-- ---- operations

cost_counts : (index : Index) (kind : JobKind) (blocks : ℕ) → due_in index ≡ Some kind → merge_cost kind blocks ≡ count_of (merge_cost Flush blocks) (merge_cost Zero blocks) (merge_cost One blocks) kind
cost_counts index Flush blocks due = refl
cost_counts index Zero blocks due = refl
cost_counts index One blocks due = refl
cost_counts index Collect blocks due = absurd (never_collected index due)

-- a job that is under way has no more steps than its kind costs
pub job_cost : (kind : JobKind) (job : Job) (index : Index) (blocks : ℕ) (image : Image) → IsIndex index blocks image → IsUnderWay kind job (job_table kind index.older) index.root blocks image → steps_most job ≤ run_cost kind blocks
job_cost kind job index blocks image h way =
    way_steps kind job (job_table kind index.older) index.root blocks image h.root (few_table kind) (λ other. merge_table kind index.older other) way
  where
    few_table : (k : JobKind) → length (job_table k index.older) ≤ 2048
    few_table Flush = omega (arith, h.older_few)
    few_table Zero = omega arith
    few_table One = omega arith
    few_table Collect = omega arith

-- what a due job takes that is done is ahead no more
pub spent_named : (kind : JobKind) (first now next : Index) (blocks most left more : ℕ) → due_in now ≡ Some kind → IsOneFewer kind now next → left - more ≤ merge_cost kind blocks → (most - left) + work_ahead now blocks ≤ work_ahead first blocks → (most - more) + work_ahead next blocks ≤ work_ahead first blocks
spent_named kind first now next blocks most left more due fewer few spent =
    let less = fewer (merge_cost Flush blocks) (merge_cost Zero blocks) (merge_cost One blocks) in
    spent_by _ _ _ _ most left more less (subst (λ (n : ℕ). left - more ≤ n) (cost_counts now kind blocks due) few) spent
  where
    spent_by : (a b c n most left more : ℕ) → a + n ≤ b → left - more ≤ n → (most - left) + b ≤ c → (most - more) + a ≤ c
    spent_by a b c n most left more less few spent = omega arith

-- and what is done of one that isn't done was ahead
pub spent_part : (kind : JobKind) (first now : Index) (blocks most left more : ℕ) → due_in now ≡ Some kind → left - more ≤ merge_cost kind blocks → (most - left) + work_ahead now blocks ≤ work_ahead first blocks → most - more ≤ work_ahead first blocks
spent_part kind first now blocks most left more due few spent =
    let counts = due_counts now kind due (merge_cost Flush blocks) (merge_cost Zero blocks) (merge_cost One blocks) in
    part_by _ _ _ most left more counts (subst (λ (n : ℕ). left - more ≤ n) (cost_counts now kind blocks due) few) spent
  where
    part_by : (b c n most left more : ℕ) → n ≤ b → left - more ≤ n → (most - left) + b ≤ c → most - more ≤ c
    part_by b c n most left more counts few spent = omega arith

-- ---- how many operations there are at most

sum_most : (flush upper lower : ℕ) (frozen low place : Bool) → sum_of flush upper lower frozen low place ≤ flush + upper + 2 * lower
sum_most flush upper lower true true true = omega arith
sum_most flush upper lower true true false = omega arith
sum_most flush upper lower true false true = omega arith
sum_most flush upper lower true false false = omega arith
sum_most flush upper lower false true true = omega arith
sum_most flush upper lower false true false = omega arith
sum_most flush upper lower false false true = omega arith
sum_most flush upper lower false false false = omega arith

-- whatever is ahead
pub ahead_most : (index : Index) (blocks : ℕ) → work_ahead index blocks ≤ merge_cost Flush blocks + merge_cost Zero blocks + 2 * merge_cost One blocks
ahead_most index blocks =
    let levels = index.root.levels in
    sum_most (merge_cost Flush blocks) (merge_cost Zero blocks) (merge_cost One blocks) (is_some index.older) (nat_le (first_entries levels.one) 4096) (nat_lt (length levels.zero + cond (is_some index.older) 1 0) 4)

none_by : (frozen low place : Bool) (n flush upper lower : ℕ) → nat_lt n 4 ≡ place → cond (frozen && place) (Some Flush) (cond low (cond place None (Some Zero)) (Some One)) ≡ None → sum_of flush upper lower frozen low (nat_lt (n + cond frozen 1 0) 4) ≡ 0
none_by true low true n flush upper lower is due = absurd cc
none_by true true false n flush upper lower is due = absurd cc
none_by true false false n flush upper lower is due = absurd cc
none_by false true true n flush upper lower is due =
    let place : nat_lt (n + 0) 4 ≡ true = lt-ltb _ _ (let few = ltb-true n 4 is in omega arith) in
    ap (λ (p : Bool). sum_of flush upper lower false true p) place
none_by false true false n flush upper lower is due = absurd cc
none_by false false place n flush upper lower is due = absurd cc

-- where none is due none is ahead
pub ahead_none : (index : Index) (blocks : ℕ) → due_in index ≡ None → work_ahead index blocks ≡ 0
ahead_none index blocks due =
    let levels = index.root.levels in
    none_by (is_some index.older) (nat_le (first_entries levels.one) 4096) (nat_lt (length levels.zero) 4) (length levels.zero) (merge_cost Flush blocks) (merge_cost Zero blocks) (merge_cost One blocks) refl due

low_by : (frozen low place : Bool) → cond (frozen && place) (Some Flush) (cond low (cond place None (Some Zero)) (Some One)) ≡ None → low ≡ true
low_by frozen true place due = refl
low_by true false true due = absurd cc
low_by true false false due = absurd cc
low_by false false place due = absurd cc

sum_low : (flush upper lower : ℕ) (frozen place : Bool) → sum_of flush upper lower frozen true place ≤ flush + upper + lower
sum_low flush upper lower true true = omega arith
sum_low flush upper lower true false = omega arith
sum_low flush upper lower false true = omega arith
sum_low flush upper lower false false = omega arith

-- where none was due, and the runs are the same, at most one of each kind is ahead
pub ahead_after : (old new : Index) (blocks : ℕ) → due_in old ≡ None → index_root new ≡ index_root old → work_ahead new blocks ≤ merge_cost Flush blocks + merge_cost Zero blocks + merge_cost One blocks
ahead_after old new blocks due same =
    let levels = old.root.levels in
    let was = low_by (is_some old.older) (nat_le (first_entries levels.one) 4096) (nat_lt (length levels.zero) 4) due in
    let low : nat_le (first_entries new.root.levels.one) 4096 ≡ true = ap (λ (r : Root). nat_le (first_entries r.levels.one) 4096) same ∙ was in
    let place = nat_lt (length new.root.levels.zero + cond (is_some new.older) 1 0) 4 in
    subst (λ (l : Bool). sum_of (merge_cost Flush blocks) (merge_cost Zero blocks) (merge_cost One blocks) (is_some new.older) l place ≤ merge_cost Flush blocks + merge_cost Zero blocks + merge_cost One blocks) (sym low)
    (sum_low (merge_cost Flush blocks) (merge_cost Zero blocks) (merge_cost One blocks) (is_some new.older) place)
