-- Doing jobs by single steps.
use Rattle.std.proofs.Common.{true, false, not, ◌≡◌, ◌≢◌, ◌⊎◌, ◌∙◌, ℕ, ◌+◌, ◌-◌, ◌/◌, ◌<◌, ◌≤◌, ◌^◌, Bool, cond, List, length, Some, None, refl, sym, ap, subst, arith, inl, inr, Option}
use Rattle.std.specs.Prelude.{nat_eq, nat_lt, nat_le, ◌&&◌, is_some, IsSomeAnd}
use Rattle.std.specs.Option.{ForSome}
use Rattle.std.specs.List.{list_any}
use Rattle.std.proofs.lemmas.Bool.{cases_lt, leb-true, ltb-true}
use Rattle.kv_nand.specs.Flash.{Image, Flash, IsSound}
use Rattle.kv_nand.specs.declared.fault.FlashFault.{FlashFault}
use Rattle.kv_nand.specs.Working.{Works, Stops, ops_more}
use Rattle.kv_nand.proofs.Chaining.{works_then_works, works_then_stops, works_still, works_within, works_no_ops, works_blocks, stops_within, ops_then_ops}
use Rattle.kssd_entry.specs.declared.entry.Entry.{Entry}
use Rattle.kssd_layout.specs.declared.region.Region.TheVariants as regions
use Rattle.kssd_model.specs.declared.anchor.Anchor.{Anchor}
use Rattle.kssd_model.specs.declared.anchor.Found.{Found}
use Rattle.kssd_model.specs.Anchors.{newest_in}
use Rattle.kssd_anchor.proofs.Placing.{last_below}
use Rattle.kssd_model.specs.declared.runs.RunInfo.{RunInfo}
use Rattle.kssd_image.specs.AnchorForm.{blocks_of}
use Rattle.kssd_image.specs.Whole.{log_of, age_in}
use Rattle.kssd_frames.proofs.Places.{region_of_anchors, region_of_log}
use Rattle.kssd_log.specs.Ring.{IsRingPage}
use Rattle.kssd_merge.specs.Same.{AreSameIn}
use Rattle.kssd_levels.specs.declared.kind.JobKind.{JobKind}
use Rattle.kssd_levels.specs.declared.kind.JobKind.TheVariants.{Flush, Zero, One, Collect}
use Rattle.kssd_levels.specs.declared.levels.Levels.{Levels}
use Rattle.kssd_levels.specs.Levels.{levels_map, named_blocks, first_entries, due_of}
use Rattle.kssd_levels.specs.Runs.{has_block}
use Rattle.kssd_compact.specs.declared.job.Job.{Job}
use Rattle.kssd_compact.specs.Job.{job_kind, job_blocks}
use Rattle.kssd_compact.specs.Finishing.{GoesOn}
use Rattle.kssd_root.specs.declared.root.Root.{Root}
use Rattle.kssd_root.specs.Standing.{IsRoot}
use Rattle.kssd_root.specs.Following.{KeepsNamed, ShowAlike, SameLog, IsSplit, with_log}
use Rattle.kssd_root.specs.Mapping.{IsKept}
use Rattle.kssd_root.specs.UnderWay.{IsUnderWay}
use Rattle.kssd_root.proofs.Kept.{kept_on}
use Rattle.kssd_root.proofs.Moving.{root_age, run_keeps, run_age, log_same}
use Rattle.kssd_root.proofs.RunsWritten.{other_stays}
use Rattle.kssd_root.proofs.Splitting.{later_log}
use Rattle.kssd_root.proofs.UnderWay.{way_named}
use Rattle.kssd_index.specs.declared.index.Older.{Older}
use Rattle.kssd_index.specs.declared.index.Index.{Index}
use Rattle.kssd_index.specs.Standing.{IsIndex, has_frozen, IsRunning, StandsOver, job_table, older_entries, later_anchor, later_of}
use Rattle.kssd_index.specs.Working.{due_in, WorksOn}
use Rattle.kssd_index.proofs.Anchored.{aged_still}
use Rattle.kssd_index.proofs.Later.{at_same, within_same, ring_page, unsplit}
use Rattle.kssd_index.proofs.Flushing.{split_after, table_alike}
use Rattle.kssd_index.proofs.Beside.{index_by, index_kept_still}

-- ---- which job is due

pub some_is : (a b : JobKind) → Some a ≡ Some b → a ≡ b
some_is a b e = cc

pub record IsDueMerge (kind : JobKind) (levels : Levels) : Type 0 where
  pub which : (kind ≡ Zero) ⊎ (kind ≡ One)
  pub few : kind ≡ Zero → first_entries levels.one ≤ 4096

due_by : (few room : Bool) (kind : JobKind) (levels : Levels) → nat_le (first_entries levels.one) 4096 ≡ few → cond few (cond room None (Some Zero)) (Some One) ≡ Some kind → IsDueMerge kind levels
due_by true true kind levels few due = absurd cc
due_by true false kind levels few due = record { which = inl (sym (some_is Zero kind due)); few = λ e. leb-true _ _ few }
due_by false room kind levels few due = record { which = inr (sym (some_is One kind due)); few = λ e. absurd (let f : Zero ≡ One = sym e ∙ sym (some_is One kind due) in cc) }

-- one of the levels' own merges, where the due job is no flush
merge_by : (flush : Bool) (rest : Option JobKind) (kind : JobKind) → cond flush (Some Flush) rest ≡ Some kind → kind ≢ Flush → rest ≡ Some kind
merge_by true rest kind due other = absurd (other (sym (some_is Flush kind due)))
merge_by false rest kind due other = due

pub levels_due : (index : Index) (kind : JobKind) → due_in index ≡ Some kind → kind ≢ Flush → due_of index.root.levels ≡ Some kind
levels_due index kind due other = merge_by (is_some index.older && nat_lt (length index.root.levels.zero) 4) (due_of index.root.levels) kind due other

pub due_merge : (index : Index) (kind : JobKind) → due_in index ≡ Some kind → kind ≢ Flush → IsDueMerge kind index.root.levels
due_merge index kind due other =
    let levels = index.root.levels in
    due_by (nat_le (first_entries levels.one) 4096) (nat_lt (length levels.zero) 4) kind levels refl (levels_due index kind due other)

no_flush : (few room : Bool) → cond few (cond room None (Some Zero)) (Some One) ≡ Some Flush → ⊥
no_flush true true due = cc
no_flush true false due = let e = some_is Zero Flush due in cc
no_flush false room due = let e = some_is One Flush due in cc

flush_by : (frozen room : Bool) (rest : Option JobKind) → (rest ≡ Some Flush → ⊥) → cond (frozen && room) (Some Flush) rest ≡ Some Flush → (frozen ≡ true) × (room ≡ true)
flush_by true true rest none due = (refl, refl)
flush_by true false rest none due = absurd (none due)
flush_by false room rest none due = absurd (none due)

-- a flush is due only where a table is frozen, and level 0 has place for its run
pub record IsDueFlush (index : Index) : Type 0 where
  pub frozen : is_some index.older ≡ true
  pub room : length index.root.levels.zero ≤ 3

pub due_flush : (index : Index) → due_in index ≡ Some Flush → IsDueFlush index
due_flush index due =
    let levels = index.root.levels in
    let both = flush_by (is_some index.older) (nat_lt (length levels.zero) 4) (due_of levels) (no_flush (nat_le (first_entries levels.one) 4096) (nat_lt (length levels.zero) 4)) due in
    record { frozen = both.0; room = let few = ltb-true (length levels.zero) 4 both.1 in omega (arith, few) }

-- a collection is no job of the index
no_collection : (flush few room : Bool) → cond flush (Some Flush) (cond few (cond room None (Some Zero)) (Some One)) ≡ Some Collect → ⊥
no_collection true few room due = let e = some_is Flush Collect due in cc
no_collection false true true due = cc
no_collection false true false due = let e = some_is Zero Collect due in cc
no_collection false false room due = let e = some_is One Collect due in cc

pub never_collected : (index : Index) → due_in index ≡ Some Collect → ⊥
never_collected index due =
    let levels = index.root.levels in
    no_collection (is_some index.older && nat_lt (length levels.zero) 4) (nat_le (first_entries levels.one) 4096) (nat_lt (length levels.zero) 4) due

-- where none is due no table is frozen
unfrozen_by : (frozen few room : Bool) → cond (frozen && room) (Some Flush) (cond few (cond room None (Some Zero)) (Some One)) ≡ None → frozen ≡ false
unfrozen_by false few room none = refl
unfrozen_by true few true none = absurd cc
unfrozen_by true true false none = absurd cc
unfrozen_by true false false none = absurd cc

pub none_frozen : (index : Index) → due_in index ≡ None → has_frozen index ≡ false
none_frozen index none =
    let levels = index.root.levels in
    unfrozen_by (is_some index.older) (nat_le (first_entries levels.one) 4096) (nat_lt (length levels.zero) 4) none

-- ---- operations

-- after reading alone an index stands, and a job that is under way
pub index_reading : (index : Index) (a b : Flash) → b.image ≡ a.image → b.blocks ≡ a.blocks → IsIndex index a.blocks a.image → IsIndex index b.blocks b.image
index_reading index a b image same h = subst (λ (p : ℕ × Image). IsIndex index p.0 p.1) (λ i. (sym same i, sym image i)) h

pub way_reading : (kind : JobKind) (job : Job) (table : List Entry) (root : Root) (a b : Flash) → b.image ≡ a.image → b.blocks ≡ a.blocks → IsUnderWay kind job table root a.blocks a.image → IsUnderWay kind job table root b.blocks b.image
way_reading kind job table root a b image same h = subst (λ (p : ℕ × Image). IsUnderWay kind job table root p.0 p.1) (λ i. (sym same i, sym image i)) h

pub on_still : (most : ℕ) (index : Index) (flash : Flash) → IsSound flash → IsIndex index flash.blocks flash.image → WorksOn most most flash index flash
on_still most index flash sound h = record {
  stands = h;
  kept = index_kept_still index flash.blocks flash.image h;
  few = omega arith;
  works = works_within flash flash 0 0 (most - most) (2 ^ 64) (works_still flash) (omega arith) (omega arith);
  exact = omega (arith, sound.ops);
}

pub on_reading : (most : ℕ) (index : Index) (a b : Flash) → IsSound a → b.image ≡ a.image → Works a b 0 32 → IsIndex index a.blocks a.image → WorksOn most most a index b
on_reading most index a b was image reads h = record {
  stands = index_reading index a b image (works_blocks a b 0 32 reads) h;
  kept = subst (IsKept a.blocks a.image) (sym image) (index_kept_still index a.blocks a.image h);
  few = omega arith;
  works = works_within a b 0 32 (most - most) (2 ^ 64) reads (omega arith) (omega arith);
  exact = let none : 0 ≡ most - most = omega arith in works_no_ops a b 32 was reads ∙ ap (ops_more a) none;
}

pub on_then_on : (most mid left : ℕ) (now next : Index) (a b c : Flash) → IsSound c → WorksOn most mid a now b → WorksOn mid left b next c → WorksOn most left a next c
on_then_on most mid left now next a b c sound first more =
    let both = works_then_works a b c (most - mid) (2 ^ 64) (mid - left) (2 ^ 64) first.works more.works in
    let sum : (most - mid) + (mid - left) ≡ most - left = omega (arith, first.few, more.few) in
    record {
      stands = more.stands;
      kept = kept_on a.blocks b.blocks a.image b.image c.image (works_blocks a b (most - mid) (2 ^ 64) first.works) first.kept more.kept;
      few = omega (arith, first.few, more.few);
      works = record {
        after = both.after;
        counts = record {
          ops_at_most = omega (arith, both.counts.ops_at_most, sum);
          ops_at_least = both.counts.ops_at_least;
          reads_at_most = omega (arith, sound.reads);
          reads_at_least = both.counts.reads_at_least;
        };
      };
      exact = ops_then_ops a b c (most - mid) (mid - left) first.exact more.exact ∙ ap (ops_more a) sum;
    }

pub on_then_stops : (most mid : ℕ) (now : Index) (a b c : Flash) (fault : FlashFault) → IsSound c → WorksOn most mid a now b → Stops b fault c mid (2 ^ 64) → Stops a fault c most (2 ^ 64)
on_then_stops most mid now a b c fault sound first stops =
    let both = works_then_stops a b c fault (most - mid) (2 ^ 64) mid (2 ^ 64) first.works stops in
    record {
      after = both.after;
      counts = record {
        ops_at_most = omega (arith, both.counts.ops_at_most, first.few);
        ops_at_least = both.counts.ops_at_least;
        reads_at_most = omega (arith, sound.reads);
        reads_at_least = both.counts.reads_at_least;
      };
    }

pub kept_after : (most mid : ℕ) (now : Index) (a b c : Flash) → WorksOn most mid a now b → IsKept b.blocks b.image c.image → IsKept a.blocks a.image c.image
kept_after most mid now a b c first more = kept_on a.blocks b.blocks a.image b.image c.image (works_blocks a b (most - mid) (2 ^ 64) first.works) first.kept more

-- ---- steps of a job

-- the blocks of a job are those of no run, and no others change
pub record IsBesideJob (index : Index) (blocks : ℕ) (old new : Image) : Type 0 where
  pub keeps : KeepsNamed blocks (named_blocks index.root.levels) old new
  pub low : (q : ℕ) → q < 640 → new q ≡ old q
  pub named : AreSameIn (blocks_of index.root.anchor.runs) old new
  pub kept : IsKept blocks old new
  pub aged : age_in new ≤ index.age

pub beside_job : (kind : JobKind) (job : Job) (table : List Entry) (index : Index) (blocks : ℕ) (old new : Image) → IsIndex index blocks old → IsUnderWay kind job table index.root blocks old → ((page : ℕ) → has_block (job_blocks job) (page / 32) ≡ false → new page ≡ old page) → IsBesideJob index blocks old new
beside_job kind job table index blocks old new h way outside = record {
  keeps = keeps;
  low = λ q lt. elim (cases_lt q 64) [
    | inl anchor ↦ other_stays blocks (named_blocks index.root.levels) old new q regions.Anchor keeps (region_of_anchors blocks (q / 32) (omega arith)) (λ e. cc)
    | inr ring ↦ other_stays blocks (named_blocks index.root.levels) old new q regions.Log keeps (region_of_log blocks (q / 32) (omega arith) (omega arith)) (λ e. cc)
  ];
  named = λ page has. keeps page (λ run. ap (λ (infos : List RunInfo). list_any (nat_eq (page / 32)) (blocks_of infos)) h.root.runs.named ∙ has);
  kept = run_keeps index.root blocks old new h.root keeps;
  aged = omega (arith, run_age index.root blocks old new h.root keeps, h.numbers);
}
  where
    keeps : KeepsNamed blocks (named_blocks index.root.levels) old new
    keeps = way_named kind job table index.root blocks old new way outside

pub carried : (kind : JobKind) (job on : Job) (table : List Entry) (most left : ℕ) (index : Index) (before after : Flash) → IsIndex index before.blocks before.image → IsUnderWay kind job table index.root before.blocks before.image → GoesOn job before on after
    → left ≤ most → Works before after (most - left) (2 ^ 64) → after.ops ≡ ops_more before (most - left) → WorksOn most left before (record index { job = None }) after
carried kind job on table most left index before after h way goes few works exact =
    let beside = beside_job kind job table index before.blocks before.image after.image h way goes.outside in
    let same = works_blocks before after (most - left) (2 ^ 64) works in
    record {
      stands = subst (λ (b : ℕ). IsIndex (record index { job = None }) b after.image) (sym same) (index_by index None before.blocks before.image after.image beside.low beside.named tt h);
      kept = beside.kept;
      few = few;
      works = works;
      exact = exact;
    }

-- ---- an anchor behind the newest, with the same log

later_still : (older : Option Older) (root next : Root) (blocks : ℕ) (old new : Image) → IsRoot root blocks old → IsSplit (older_entries older) (later_anchor root.anchor older) root blocks old → SameLog root.anchor old next.anchor new → log_of new (later_anchor next.anchor older) ≡ log_of old (later_anchor root.anchor older)
later_still None root next blocks old new h split same = log_same root.page root.anchor next.anchor blocks old new h.anchored same
later_still (Some older) root next blocks old new h split same = later_log (with_log root.anchor older.log_block older.log_seq) old new split.low split.high same.ring

split_still : (older : Option Older) (root next : Root) (blocks : ℕ) (old new : Image) → IsRoot root blocks old → IsRoot next blocks new → IsSplit (older_entries older) (later_anchor root.anchor older) root blocks old → SameLog root.anchor old next.anchor new → ShowAlike (levels_map root.levels old) (levels_map next.levels new)
    → IsSplit (older_entries older) (later_anchor next.anchor older) next blocks new
split_still None root next blocks old new h is split same alike = unsplit next blocks new is
split_still (Some older) root next blocks old new h is split same alike = split_after older.table older.log_block older.log_seq root next blocks old new h split same alike

pub named_on : (index : Index) (root : Root) (age blocks : ℕ) (old new : Image) → IsIndex index blocks old → IsRoot root blocks new → SameLog index.root.anchor old root.anchor new → ShowAlike (levels_map index.root.levels old) (levels_map root.levels new) → age_in new ≤ age
    → IsIndex (record index { root = root; age = age; job = None }) blocks new
named_on index root age blocks old new h is same alike aged = record {
  root = is;
  split = split_still index.older index.root root blocks old new h.root is h.split same alike;
  log = at_same index.ring (later_of index) (later_anchor root.anchor index.older) old new later place.low place.high same.ring h.log;
  long = within_same index.ring index.root.anchor root.anchor old new (log_same index.root.page index.root.anchor root.anchor blocks old new h.root.anchored same) h.long;
  left = h.left;
  table = h.table ∙ sym (table_alike (later_of index) (later_anchor root.anchor index.older) old new later);
  few = h.few;
  older_few = h.older_few;
  numbers = omega (arith, root_age root blocks new is, aged);
  job = tt;
}
  where
    place : IsRingPage index.ring.page
    place = ring_page index blocks old h

    later : log_of new (later_anchor root.anchor index.older) ≡ log_of old (later_of index)
    later = later_still index.older index.root root blocks old new h.root h.split same

-- ---- a job is put back, or named

pub page_low : (page : ℕ) (anchor : Anchor) (image : Image) → newest_in image ≡ Some (record { page = page; anchor = anchor }) → ForSome (Some page) (λ (p : ℕ). p < 64)
page_low page anchor image e =
    last_below image (Some page) (record anchor { number = anchor.number + 1 })
    (subst (λ (o : Option Found). IsSomeAnd o (λ found. (found.page ≡ page) × (found.anchor.number < anchor.number + 1))) (sym e) (refl, omega arith))

pub put_back : (kind : JobKind) (job : Job) (index : Index) (blocks : ℕ) (image : Image) → due_in index ≡ Some kind → IsIndex index blocks image → IsUnderWay kind job (job_table kind index.older) index.root blocks image → IsIndex (record index { job = Some job }) blocks image
put_back kind job index blocks image due h way = record {
  root = h.root;
  split = h.split;
  log = h.log;
  long = h.long;
  left = h.left;
  table = h.table;
  few = h.few;
  older_few = h.older_few;
  numbers = h.numbers;
  job = record {
    way = subst (λ (k : JobKind). IsUnderWay k job (job_table k index.older) index.root blocks image) (sym way.over.kind_is) way;
    frozen = λ flush. (due_flush index (due ∙ ap Some (sym way.over.kind_is ∙ flush))).frozen;
  };
}

-- what was under way, where it is of the kind that is due
pub taken_up : (kind : JobKind) (job : Job) (index : Index) (blocks : ℕ) (image : Image) → index.job ≡ Some job → job_kind job ≡ kind → IsIndex index blocks image → IsUnderWay kind job (job_table kind index.older) index.root blocks image
taken_up kind job index blocks image is same h =
    let over : IsRunning job index.older index.root blocks image = subst (λ (o : Option Job). StandsOver o index.older index.root blocks image) is h.job in
    subst (λ (k : JobKind). IsUnderWay k job (job_table k index.older) index.root blocks image) same over.way

-- an anchor was written after its cost was asked
pub done_on : (most cost : ℕ) (index next : Index) (a b c : Flash) → IsSound a → IsSound c → IsIndex index a.blocks a.image → b.image ≡ a.image → Works a b 0 32 → cost ≤ most
    → IsIndex next c.blocks c.image → IsKept b.blocks b.image c.image → Works b c 2 32 → c.ops ≡ ops_more b cost → WorksOn most (most - cost) a next c
done_on most cost index next a b c was sound h image reads few stands kept works ops =
    let both = works_then_works a b c 0 32 2 32 reads works in
    let all : 0 + cost ≡ most - (most - cost) = omega (arith, few) in
    let exact : c.ops ≡ ops_more a (most - (most - cost)) = ops_then_ops a b c 0 cost (works_no_ops a b 32 was reads) ops ∙ ap (ops_more a) all in
    record {
      stands = stands;
      kept = kept_on a.blocks b.blocks a.image b.image c.image (works_blocks a b 0 32 reads) (subst (IsKept a.blocks a.image) (sym image) (index_kept_still index a.blocks a.image h)) kept;
      few = omega arith;
      works = record {
        after = both.after;
        counts = record {
          ops_at_most = omega (arith, exact);
          ops_at_least = both.counts.ops_at_least;
          reads_at_most = omega (arith, sound.reads);
          reads_at_least = both.counts.reads_at_least;
        };
      };
      exact = exact;
    }

pub done_stops : (most cost : ℕ) (a b c : Flash) (fault : FlashFault) → Works a b 0 32 → cost ≤ most → Stops b fault c cost 32 → Stops a fault c most (2 ^ 64)
done_stops most cost a b c fault reads few stops =
    stops_within a c fault (0 + cost) (32 + 32) most (2 ^ 64) (works_then_stops a b c fault 0 32 cost 32 reads stops) (omega (arith, few)) (omega arith)

pub kept_reading : (index : Index) (a b : Flash) (new : Image) → b.image ≡ a.image → b.blocks ≡ a.blocks → IsIndex index a.blocks a.image → IsKept b.blocks b.image new → IsKept a.blocks a.image new
kept_reading index a b new image same h kept = kept_on a.blocks b.blocks a.image b.image new same (subst (IsKept a.blocks a.image) (sym image) (index_kept_still index a.blocks a.image h)) kept

pub aged_reading : (index : Index) (blocks : ℕ) (old new : Image) → new ≡ old → IsIndex index blocks old → age_in new ≤ index.age
aged_reading index blocks old new image h = subst (λ (im : Image). age_in im ≤ index.age) (sym image) (aged_still index blocks old h)

pub back_on : (kind : JobKind) (job : Job) (most left : ℕ) (index : Index) (before after : Flash) → due_in index ≡ Some kind → WorksOn most left before index after → IsUnderWay kind job (job_table kind index.older) index.root after.blocks after.image → WorksOn most left before (record index { job = Some job }) after
back_on kind job most left index before after due on way = record {
  stands = put_back kind job index after.blocks after.image due on.stands way;
  kept = on.kept;
  few = on.few;
  works = on.works;
  exact = on.exact;
}

pub was_named : (named : Bool) → not named ≡ false → named ≡ true
was_named true e = refl
was_named false e = absurd cc

pub not_named : (named : Bool) → not named ≡ true → named ≡ false
not_named true e = absurd cc
not_named false e = refl

-- where nothing was due at first, nothing is while the index is the same
pub never_idle : (kind : JobKind) (first now : Index) → due_in first ≡ None → now ≡ first → due_in now ≡ Some kind → ⊥
never_idle kind first now none same due = let e : None ≡ Some kind = sym none ∙ sym (ap due_in same) ∙ due in cc

pub none_is : (due : Option JobKind) → ((kind : JobKind) → due ≡ Some kind → ⊥) → due ≡ None
none_is None h = refl
none_is (Some kind) h = absurd (h kind refl)
