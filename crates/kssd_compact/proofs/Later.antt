-- A job after some of its steps.
use mir.Val.{bool_byte}
use Rattle.std.specs.Prelude.{IsTrue}
use Rattle.std.proofs.Common.{◌≡◌, ◌∙◌, ℕ, ◌+◌, ◌-◌, ◌/◌, ◌<◌, ◌≤◌, ◌^◌, Bool, true, false, cond, List, refl, ap, arith, inl, inr}
use Rattle.std.proofs.Math.Logic.{∥∥₁_elim, ∥∥₁_map}
use Rattle.std.specs.Coded.{le_prop}
use Rattle.kv_nand.specs.Flash.{Image, Flash, IsSound}
use Rattle.kv_nand.specs.declared.fault.FlashFault.{FlashFault}
use Rattle.kv_nand.specs.Working.{Works, Stops, ops_more}
use Rattle.kv_nand.proofs.Chaining.{works_then_works, works_then_stops, works_still, works_within, ops_then_ops}
use Rattle.kssd_layout.specs.Laws.{pages_for, blocks_for}
use Rattle.kssd_entry.specs.declared.entry.Entry.{Entry}
use Rattle.kssd_levels.specs.Runs.{has_block}
use Rattle.kssd_compact.specs.declared.job.Job.{Job}
use Rattle.kssd_compact.specs.Job.{IsSameJob, StandsJob, CanStepJob, CountsStep, TellsStep, job_blocks, job_done, steps_done, steps_most}
use Rattle.kssd_compact.specs.Finishing.{GoesOn}
use Rattle.kssd_compact.proofs.Jobs.{jobs_finish}

pub same_then : (a b c : Job) → IsSameJob a b → IsSameJob b c → IsSameJob a c
same_then a b c first more = record {
  kind = more.kind ∙ first.kind;
  level = more.level ∙ first.level;
  number = more.number ∙ first.number;
  total = more.total ∙ first.total;
  blocks = more.blocks ∙ first.blocks;
  inputs = more.inputs ∙ first.inputs;
}

pub same_most : (old new : Job) → IsSameJob old new → steps_most new ≡ steps_most old
same_most old new same = ap (λ (n : ℕ). pages_for n + blocks_for n) same.total

-- some of a job's steps were done, and nothing else
pub record IsLater (old : Job) (before : Flash) (new : Job) (after : Flash) : Type 0 where
  pub same : IsSameJob old new
  pub stands : (goal : List Entry) → StandsJob old goal before.blocks before.image → StandsJob new goal after.blocks after.image
  pub outside : (page : ℕ) → has_block (job_blocks old) (page / 32) ≡ false → after.image page ≡ before.image page
  pub more : steps_done old ≤ steps_done new
  pub works : Works before after (steps_done new - steps_done old) (2 ^ 64)

pub still : (job : Job) (flash : Flash) → IsLater job flash job flash
still job flash = record {
  same = record { kind = refl; level = refl; number = refl; total = refl; blocks = refl; inputs = refl };
  stands = λ goal h. h;
  outside = λ page none. refl;
  more = omega arith;
  works = works_within flash flash 0 0 (steps_done job - steps_done job) (2 ^ 64) (works_still flash) (omega arith) (omega arith);
}

pub can_still : (old new : Job) (before after : Flash) → IsLater old before new after → CanStepJob old before.blocks before.image → CanStepJob new after.blocks after.image
can_still old new before after later can = ∥∥₁_elim can squash₁ (λ p. ∥∥₁_map (later.stands p.0 ∣ p.1 ∣₁) (λ j. (p.0, j)))

-- ---- one more step

-- how much is left: the steps, and one where the run isn't written
abbrev pub steps_left : Job → ℕ
steps_left job = (steps_most job - steps_done job) + cond (job_done job) 0 1

pub some_left : (job : Job) (device : ℕ) (image : Image) → CanStepJob job device image → (steps_done job ≤ steps_most job) × (job_done job ≡ false → steps_done job < steps_most job)
some_left job device image can = (
  ∥∥₁_elim can le_prop (λ p. (jobs_finish job p.0 device image ∣ p.1 ∣₁).0),
  λ going. ∥∥₁_elim can le_prop (λ p. (jobs_finish job p.0 device image ∣ p.1 ∣₁).1 going),
)

pub fewer_left : (old new : Job) (before after : Flash) (device : ℕ) (image : Image) → CanStepJob old device image → job_done old ≡ false → IsSameJob old new → CountsStep old before new after → steps_left new < steps_left old
fewer_left old new before after device image can going same counts =
    let left = (some_left old device image can).1 going in
    let most = same_most old new same in
    let one : cond (job_done old) 0 1 ≡ 1 = ap (λ (b : Bool). let n : ℕ = cond b 0 1 in n) going in
    elim counts [
      | inl p ↦ omega (arith, p.0, left, most, one, at_most (job_done new))
      | inr p ↦ let none : cond (job_done new) 0 1 ≡ 0 = ap (λ (b : Bool). let n : ℕ = cond b 0 1 in n) p.2 in omega (arith, p.0, left, most, one, none)
    ]
  where
    at_most : (b : Bool) → cond b 0 1 ≤ 1
    at_most true = omega arith
    at_most false = omega arith

pub later_step : (old now new : Job) (a b c : Flash) → IsSound c → IsLater old a now b
    → ((goal : List Entry) → StandsJob now goal b.blocks b.image → StandsJob new goal c.blocks c.image) → IsSameJob now new → CountsStep now b new c
    → ((page : ℕ) → has_block (job_blocks now) (page / 32) ≡ false → c.image page ≡ b.image page) → Works b c 1 c.reads → IsLater old a new c
later_step old now new a b c sound h stands same counts outside works =
    let both = works_then_works a b c (steps_done now - steps_done old) (2 ^ 64) 1 c.reads h.works works in
    record {
      same = same_then old now new h.same same;
      stands = λ goal at. stands goal (h.stands goal at);
      outside = λ page none. outside page (ap (λ (bs : List ℕ). has_block bs (page / 32)) h.same.blocks ∙ none) ∙ h.outside page none;
      more = elim counts [ inl p ↦ omega (arith, p.0, h.more) | inr p ↦ omega (arith, p.0, h.more) ];
      works = record {
        after = both.after;
        counts = record {
          ops_at_most = elim counts [ inl p ↦ omega (arith, p.0, p.1, h.more, h.works.counts.ops_at_most) | inr p ↦ omega (arith, p.0, p.1, h.more, h.works.counts.ops_at_most) ];
          ops_at_least = both.counts.ops_at_least;
          reads_at_most = omega (arith, sound.reads);
          reads_at_least = both.counts.reads_at_least;
        };
      };
    }

pub later_stops : (old now : Job) (a b c : Flash) (fault : FlashFault) → IsSound c → IsLater old a now b → CanStepJob now b.blocks b.image → job_done now ≡ false → Stops b fault c 1 c.reads → Stops a fault c (steps_most old - steps_done old) (2 ^ 64)
later_stops old now a b c fault sound h can going stops =
    let both = works_then_stops a b c fault (steps_done now - steps_done old) (2 ^ 64) 1 c.reads h.works stops in
    let left = (some_left now b.blocks b.image can).1 going in
    record {
      after = both.after;
      counts = record {
        ops_at_most = omega (arith, both.counts.ops_at_most, h.more, left, same_most old now h.same);
        ops_at_least = both.counts.ops_at_least;
        reads_at_most = omega (arith, sound.reads);
        reads_at_least = both.counts.reads_at_least;
      };
    }

pub later_works : (old now : Job) (a b : Flash) → IsLater old a now b → CanStepJob now b.blocks b.image → Works a b (steps_most old - steps_done old) (2 ^ 64)
later_works old now a b h can = works_within a b (steps_done now - steps_done old) (2 ^ 64) (steps_most old - steps_done old) (2 ^ 64) h.works (omega (arith, (some_left now b.blocks b.image can).0, same_most old now h.same)) (omega arith)

-- ---- steps within a number of operations

pub goes_still : (job : Job) (flash : Flash) → GoesOn job flash job flash
goes_still job flash = record {
  same = record { kind = refl; level = refl; number = refl; total = refl; blocks = refl; inputs = refl };
  stands = λ goal h. h;
  outside = λ page none. refl;
}

pub goes_step : (old now new : Job) (a b c : Flash) → GoesOn old a now b
    → ((goal : List Entry) → StandsJob now goal b.blocks b.image → StandsJob new goal c.blocks c.image) → IsSameJob now new
    → ((page : ℕ) → has_block (job_blocks now) (page / 32) ≡ false → c.image page ≡ b.image page) → GoesOn old a new c
goes_step old now new a b c h stands same outside = record {
  same = same_then old now new h.same same;
  stands = λ goal at. stands goal (h.stands goal at);
  outside = λ page none. outside page (ap (λ (bs : List ℕ). has_block bs (page / 32)) h.same.blocks ∙ none) ∙ h.outside page none;
}

pub can_go : (old new : Job) (before after : Flash) → GoesOn old before new after → CanStepJob old before.blocks before.image → CanStepJob new after.blocks after.image
can_go old new before after goes can = ∥∥₁_elim can squash₁ (λ p. ∥∥₁_map (goes.stands p.0 ∣ p.1 ∣₁) (λ j. (p.0, j)))

tells : (wrote : Bool) (before : Flash) (new : Job) (after : Flash) → IsSound before → TellsStep wrote before new after → after.ops ≡ ops_more before (bool_byte wrote)
tells true before new after sound h = h
tells false before new after sound h = omega (arith, h.0, sound.ops)

-- so many operations were done, and what is left of them all
pub record IsWithin (most left : ℕ) (old new : Flash) : Type 0 where
  pub few : left ≤ most
  pub works : Works old new (most - left) (2 ^ 64)
  pub exact : new.ops ≡ ops_more old (most - left)

pub within_still : (most : ℕ) (flash : Flash) → IsSound flash → IsWithin most most flash flash
within_still most flash sound = record {
  few = omega arith;
  works = works_within flash flash 0 0 (most - most) (2 ^ 64) (works_still flash) (omega arith) (omega arith);
  exact = omega (arith, sound.ops);
}

pub within_step : (most left : ℕ) (wrote : Bool) (new : Job) (a b c : Flash) → IsSound b → IsSound c → 0 < left → IsWithin most left a b → Works b c 1 c.reads → TellsStep wrote b new c → IsWithin most (left - bool_byte wrote) a c
within_step most left wrote new a b c was sound some h works told =
    let both = works_then_works a b c (most - left) (2 ^ 64) 1 c.reads h.works works in
    let few = one_at_most wrote in
    let one = tells wrote b new c was told in
    let all : c.ops ≡ ops_more a ((most - left) + bool_byte wrote) = ops_then_ops a b c (most - left) (bool_byte wrote) h.exact one in
    let sum : (most - left) + bool_byte wrote ≡ most - (left - bool_byte wrote) = omega (arith, few, h.few, some) in
    let exact : c.ops ≡ ops_more a (most - (left - bool_byte wrote)) = all ∙ ap (ops_more a) sum in
    record {
      few = omega (arith, h.few);
      works = record {
        after = both.after;
        counts = record {
          ops_at_most = omega (arith, exact);
          ops_at_least = both.counts.ops_at_least;
          reads_at_most = omega (arith, sound.reads);
          reads_at_least = both.counts.reads_at_least;
        };
      };
      exact = exact;
    }
  where
    one_at_most : (b : Bool) → bool_byte b ≤ 1
    one_at_most true = omega arith
    one_at_most false = omega arith

pub within_stops : (most left : ℕ) (a b c : Flash) (fault : FlashFault) → IsSound c → 0 < left → IsWithin most left a b → Stops b fault c 1 c.reads → Stops a fault c most (2 ^ 64)
within_stops most left a b c fault sound some h stops =
    let both = works_then_stops a b c fault (most - left) (2 ^ 64) 1 c.reads h.works stops in
    record {
      after = both.after;
      counts = record {
        ops_at_most = omega (arith, both.counts.ops_at_most, h.few, some);
        ops_at_least = both.counts.ops_at_least;
        reads_at_most = omega (arith, sound.reads);
        reads_at_least = both.counts.reads_at_least;
      };
    }

-- ---- no more than the steps that are left

tells_more : (wrote : Bool) (now new : Job) (b c : Flash) → (IsTrue wrote → steps_done new ≡ steps_done now + 1) → CountsStep now b new c → steps_done now + bool_byte wrote ≤ steps_done new
tells_more true now new b c told counts = let one = told refl in omega arith
tells_more false now new b c told counts = elim counts [ inl p ↦ let is = p.0 in omega arith | inr p ↦ let is = p.0 in omega arith ]

pub spent_step : (most left : ℕ) (wrote : Bool) (old now new : Job) (b c : Flash) → (most - left) + steps_done old ≤ steps_done now → (IsTrue wrote → steps_done new ≡ steps_done now + 1) → CountsStep now b new c → (most - (left - bool_byte wrote)) + steps_done old ≤ steps_done new
spent_step most left wrote old now new b c spent told counts = let more = tells_more wrote now new b c told counts in omega arith

pub spent_few : (most left : ℕ) (old now : Job) (a b : Flash) → GoesOn old a now b → CanStepJob now b.blocks b.image → (most - left) + steps_done old ≤ steps_done now → most - left ≤ steps_most old - steps_done old
spent_few most left old now a b goes can spent =
    let few = (some_left now b.blocks b.image can).0 in
    let same = same_most old now goes.same in
    omega arith
