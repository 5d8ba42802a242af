-- One collection after another.
use Rattle.std.proofs.Common.{◌≡◌, ◌∙◌, ◌⊎◌, inl, inr, ℕ, ◌+◌, ◌-◌, ◌*◌, ◌<◌, ◌≤◌, ◌^◌, ◌==◌, true, false, List, [], ◌∷◌, length, Option, Some, None, Result, Ok, Err, is_some, unwrap_or, MatchOption, IfOk, IfErr, IfSome, refl, sym, ap, subst, arith}
use Rattle.std.proofs.lemmas.Bool.{eqb-true, cases_lt}
use Rattle.kv_nand.specs.declared.fault.FlashFault.{FlashFault}
use Rattle.kv_nand.specs.Flash.{Flash, IsSound}
use Rattle.kv_nand.specs.Working.{Works, Stops, ops_more}
use Rattle.kv_nand.proofs.Chaining.{works_still, works_no_ops, works_blocks, works_then_works, works_then_stops, works_within, stops_within, ops_then_ops}
use Rattle.kssd_image.specs.Stages.{objects_in}
use Rattle.kssd_levels.specs.declared.kind.JobKind.{JobKind}
use Rattle.kssd_levels.specs.declared.kind.JobKind.TheVariants.{Flush, Zero, One, Collect}
use Rattle.kssd_root.proofs.Steps.{works_on, stops_on}
use Rattle.kssd_index.specs.Standing.{has_frozen}
use Rattle.kssd_index.specs.Working.{due_in, work_ahead}
use Rattle.kssd_index.proofs.Anchored.{aged_still}
use Rattle.kssd_index.proofs.JobSteps.{none_frozen, never_collected}
use Rattle.kssd_values.specs.declared.filling.Filling.{Filling}
use Rattle.kssd_values.specs.declared.values.Values.{Values}
use Rattle.kssd_values.specs.Places.{next_in}
use Rattle.kssd_values.specs.Blocks.{has_target, target_next, free_count}
use Rattle.kssd_reclaim.specs.declared.copies.CopyOf.{CopyOf}
use Rattle.kssd_reclaim.specs.declared.reclaim.Reclaim.{Reclaim}
use Rattle.kssd_reclaim.specs.Reclaim.{copies_of}
use Rattle.kssd_machine.specs.Collecting.{AreFew}
use Rattle.kssd_mounted.specs.declared.mounted.Mounted.{Mounted}
use Rattle.kssd_mounted.specs.Standing.{Stands, Leaves, mounted_age, machine_at}
use Rattle.kssd_collect.specs.Collecting.{IsBusy, FreesBlock, EndsInFew}
use Rattle.kssd_collect.specs.Due.{MayBegin, IsCollectionDue}
use Rattle.kssd_work.specs.Working.{IsDue, HasDone, IsWorked, IsCounted, IsFreed, HasEnded, IsAsBefore, IsPaid, enough_work}
use Rattle.kssd_work.proofs.Paid.{HasPaid, first_paid, more_paid, paid_last}

-- ---- operations

pub none_done : (flash : Flash) (operations few : ℕ) → IsSound flash → operations ≤ few → HasDone flash operations few flash
none_done flash operations few sound low = (0, works_no_ops flash flash 0 sound (works_still flash), omega arith)

-- what is done after more was done before
done_since : (old mid new : Flash) (operations left few : ℕ) → left ≤ operations → mid.ops ≡ ops_more old (operations - left) → HasDone mid left few new → HasDone old operations few new
done_since old mid new operations left few low exact done =
    let within = done.2 in
    ((operations - left) + done.0, ops_then_ops old mid new (operations - left) done.0 exact done.1, omega arith)

-- a few of them not being needed
done_after : (old mid new : Flash) (operations left few more : ℕ) → left ≤ operations → HasDone old (operations - left) few mid → HasDone mid left more new → HasDone old operations (few + more) new
done_after old mid new operations left few more low first last =
    let before = first.2 in
    let within = last.2 in
    (first.0 + last.0, ops_then_ops old mid new first.0 last.0 first.1 last.1, omega arith)

pub worked_since : (old mid new : Flash) (n : Mounted) (operations left : ℕ) → left ≤ operations → mid.ops ≡ ops_more old (operations - left) → IsWorked mid left n new → IsWorked old operations n new
worked_since old mid new n operations left low exact worked = elim worked [
  | inl nothing ↦ inl nothing
  | inr done ↦ inr (done_since old mid new operations left 4 low exact done)
]

pub counted_since : (old mid new : Flash) (n : Mounted) (operations left more : ℕ) → left ≤ operations → more ≤ left → mid.ops ≡ ops_more old (operations - left) → IsCounted mid left more n new → IsCounted old operations more n new
counted_since old mid new n operations left more low few exact counted = elim counted [
  | inl is ↦
      let sum : (operations - left) + (left - more) ≡ operations - more = omega arith in
      inl (subst (λ (k : ℕ). new.ops ≡ ops_more old k) sum (ops_then_ops old mid new (operations - left) (left - more) exact is))
  | inr done ↦
      let within = done.1.2 in
      inr (done.0, ((operations - left) + done.1.0, ops_then_ops old mid new (operations - left) done.1.0 exact done.1.1, omega arith))
]

-- so few are left that all are done
pub few_left : (old new : Flash) (operations left few : ℕ) → left ≤ operations → left ≤ few → new.ops ≡ ops_more old (operations - left) → HasDone old operations few new
few_left old new operations left few low most exact = (operations - left, exact, omega arith)

-- ---- what is due

pub none_from : (o : Option JobKind) → is_some o ≡ false → o ≡ None
none_from None none = refl
none_from (Some kind) none = absurd cc

pub index_due : (m : Mounted) (kind : JobKind) → due_in m.index ≡ Some kind → IsDue m (Some kind)
index_due m Flush due = due
index_due m Zero due = due
index_due m One due = due
index_due m Collect due = absurd (never_collected m.index due)

pub rested_unfrozen : (m n : Mounted) → n.index ≡ m.index → due_in m.index ≡ None → has_frozen n.index ≡ false
rested_unfrozen m n same rested = ap has_frozen same ∙ none_frozen m.index rested

pub not_collected : (n : Mounted) → n.collection ≡ None → (MayBegin n.values → ⊥) → IsCollectionDue n → ⊥
not_collected n over none due = elim due [
  | inl some ↦ absurd (let e : true ≡ false = sym some ∙ ap (λ (c : Option Reclaim). is_some c) over in cc)
  | inr may ↦ none may
]

no_next : (o : Option Filling) → is_some o ≡ false → next_in o ≡ 0
no_next None h = refl
no_next (Some f) h = absurd cc

-- after a collection
pub freed : (v : Values) (n : Mounted) → n.collection ≡ None → FreesBlock v n.values → IsFreed v n
freed v n over frees = record {
  over = over;
  free = λ may. elim frees [
    | inl room ↦ absurd (room may.full)
    | inr both ↦ both
  ];
}

-- after one that copied there is a page in the open block
pub copied_none_due : (r : Reclaim) (v : Values) (n : Mounted) → AreFew r v → 1 ≤ length (copies_of r) → n.collection ≡ None → FreesBlock v n.values → IsCollectionDue n → ⊥
copied_none_due r v n few some over frees = not_collected n over (λ may. elim frees [
  | inl room ↦ absurd (room may.full)
  | inr both ↦ let none : target_next v ≡ 0 = no_next v.target both.0 in let used = few.used in absurd (omega arith)
])

-- so there was none that copied before another one
pub copied_counted : (r : Reclaim) (v : Values) (n : Mounted) (old new : Flash) (operations : ℕ) → AreFew r v → 1 ≤ length (copies_of r) → n.collection ≡ None → FreesBlock v n.values → 4 ≤ operations → EndsInFew old new → IsCounted old operations (operations - 4) n new
copied_counted r v n old new operations few some over frees enough ends =
    let least = ends.some in
    inr (copied_none_due r v n few some over frees, (ends.ops, ends.exact, omega arith))

-- a block was freed without a copy, so also since the collection was taken up
pub ended_since : (m : Mounted) (v : Values) (n : Mounted) → IsCollectionDue m → (has_target v ≡ false → free_count v ≡ free_count m.values) → IsFreed v n → HasEnded m n
ended_since m v n due none freed_ = record {
  over = freed_.over;
  began = λ before. elim due [
    | inl some ↦ absurd (let e : true ≡ false = sym some ∙ ap (λ (c : Option Reclaim). is_some c) before in cc)
    | inr may ↦ may
  ];
  free = λ may before. let both = freed_.free may in both.1 ∙ ap (λ k. k + 1) (none both.0);
}

-- ---- rounds

-- after some rounds: none is under way, and where one may begin so many blocks were freed
abbrev pub IsRound : ℕ → Mounted → Type 0
IsRound i m = (i ≡ 0) ⊎ ((m.collection ≡ None) × (MayBegin m.values → i ≤ free_count m.values + 1))

pub next_round : (i : ℕ) (m n : Mounted) → IsRound i m → HasEnded m n → IsRound (i + 1) n
next_round i m n round ended = inr (ended.over, λ may. by round may)
  where
    by : IsRound i m → MayBegin n.values → i + 1 ≤ free_count n.values + 1
    by (inl first) may = omega arith
    by (inr later) may = let more = ended.free may later.0 in let some = later.1 (ended.began later.0) in omega arith

-- so no fifth one begins
pub no_fifth : (m n : Mounted) → IsRound 4 m → HasEnded m n → ⊥
no_fifth m n round ended = elim round [
  | inl first ↦ absurd (omega arith)
  | inr later ↦ let may = ended.began later.0 in let some = later.1 may in let few = may.few in absurd (omega arith)
]

-- ---- the device

pub leaves_still : (m : Mounted) (old new : Flash) (age : ℕ) → new.blocks ≡ old.blocks → Stands m new → mounted_age m ≤ age → Leaves old age new
leaves_still m old new age blocks stands low = record {
  blocks = blocks;
  whole = stands.whole;
  age_is = let aged = aged_still m.index new.blocks new.image stands.index in omega arith;
}

pub leaves_since : (old mid new : Flash) (age most : ℕ) → mid.blocks ≡ old.blocks → Leaves mid age new → age ≤ most → Leaves old most new
leaves_since old mid new age most blocks leaves low = record { blocks = leaves.blocks ∙ blocks; whole = leaves.whole; age_is = let is = leaves.age_is in omega arith }

-- ---- the work

-- after so many rounds, with so many operations left
pub record IsGoingOn (m : Mounted) (old : Flash) (operations i left : ℕ) (n : Mounted) (now : Flash) : Type 0 where
  pub rounds : i ≤ 4
  pub stands : Stands n now
  pub machine : machine_at now n ≡ machine_at old m
  pub ages : mounted_age n ≤ mounted_age m + 768 * i
  pub objects : objects_in now.image ≡ objects_in old.image
  pub few : left ≤ operations
  pub works : Works old now (operations - left) (2 ^ 64)
  pub counted : IsCounted old operations left n now
  pub round : IsRound i n
  pub paid : HasPaid old.blocks operations i left n
  pub idle : IsDue m None → IsAsBefore m old n now

pub going_first : (m : Mounted) (flash : Flash) (operations : ℕ) → IsSound flash → Stands m flash → IsGoingOn m flash operations 0 operations m flash
going_first m flash operations sound stands =
    let none : 0 ≡ operations - operations = omega arith in
    record {
      rounds = omega arith;
      stands = stands;
      machine = refl;
      ages = omega arith;
      objects = refl;
      few = omega arith;
      works = works_within flash flash 0 0 (operations - operations) (2 ^ 64) (works_still flash) (omega arith) (omega arith);
      counted = inl (subst (λ (n : ℕ). flash.ops ≡ ops_more flash n) none (works_no_ops flash flash 0 sound (works_still flash)));
      round = inl refl;
      paid = first_paid m flash.blocks operations;
      idle = λ nothing. record { mounted = refl; flash = refl };
    }

-- a round in which a collection ended
pub record IsRoundDone (operations left : ℕ) (m : Mounted) (old : Flash) (n : Mounted) (now : Flash) : Type 0 where
  pub stands : Stands n now
  pub machine : machine_at now n ≡ machine_at old m
  pub ages : mounted_age n ≤ mounted_age m + 768
  pub objects : objects_in now.image ≡ objects_in old.image
  pub few : left ≤ operations
  pub works : Works old now (operations - left) (2 ^ 64)
  pub counted : IsCounted old operations left n now
  pub ended : HasEnded m n
  pub paid : IsPaid m old.blocks operations left n
  pub due : (IsCollectionDue m → ⊥) → ⊥

pub going_on : (m0 : Mounted) (f0 : Flash) (operations i left more : ℕ) (m n : Mounted) (old now : Flash) → IsSound now → IsGoingOn m0 f0 operations i left m old → IsRoundDone left more m old n now → IsGoingOn m0 f0 operations (i + 1) more n now
going_on m0 f0 operations i left more m n old now sound h done =
    let first = h.few in
    let few = done.few in
    record {
      rounds = elim (cases_lt i 4) [
        | inl low ↦ omega arith
        | inr high ↦ absurd (let rounds = h.rounds in let is : i ≡ 4 = omega arith in no_fifth m n (subst (λ (k : ℕ). IsRound k m) is h.round) done.ended)
      ];
      stands = done.stands;
      machine = done.machine ∙ h.machine;
      ages = let before = h.ages in let rise = done.ages in omega arith;
      objects = done.objects ∙ h.objects;
      few = omega arith;
      works = works_on f0 old now (operations - left) (left - more) (operations - more) (2 ^ 64) (2 ^ 64) sound (omega arith) h.works done.works;
      counted = elim h.counted [
        | inl exact ↦ counted_since f0 old now n operations left more first few exact done.counted
        | inr spent ↦ absurd (done.due spent.0)
      ];
      round = next_round i m n h.round done.ended;
      paid = more_paid m n f0.blocks operations i left more h.paid (subst (λ (b : ℕ). IsPaid m b left more n) (works_blocks f0 old _ _ h.works) done.paid) done.due;
      idle = λ nothing. absurd (done.due (subst (λ (x : Mounted). IsCollectionDue x → ⊥) (sym (h.idle nothing).mounted) nothing.1));
    }

-- what a round answers where no collection is due
abbrev pub IsSpent : Option ℕ → Flash → ℕ → Mounted → Flash → Type 0
IsSpent answer old operations n new = (answer ≡ None) × (IsDue n None ⊎ HasDone old operations 1 new)

pub round_done : (m n : Mounted) (old now : Flash) (operations more : ℕ) (answer : Option ℕ) → answer ≡ Some more → Stands n now → machine_at now n ≡ machine_at old m → mounted_age n ≤ mounted_age m + 768 → objects_in now.image ≡ objects_in old.image → unwrap_or answer 0 ≤ operations
    → Works old now (operations - unwrap_or answer 0) (2 ^ 64) → MatchOption answer (IsWorked old operations n now) (λ _. HasEnded m n) → IfSome answer (λ k. IsCounted old operations k n now) → ((IsCollectionDue m → ⊥) → IsSpent answer old operations n now) → IfSome answer (λ k. IsPaid m old.blocks operations k n)
    → IsRoundDone operations more m old n now
round_done m n old now operations more answer is stands machine ages objects few works ended counted spent paid = record {
  stands = stands;
  machine = machine;
  ages = ages;
  objects = objects;
  few = subst (λ (o : Option ℕ). unwrap_or o 0 ≤ operations) is few;
  works = subst (λ (o : Option ℕ). Works old now (operations - unwrap_or o 0) (2 ^ 64)) is works;
  counted = subst (λ (o : Option ℕ). IfSome o (λ k. IsCounted old operations k n now)) is counted;
  ended = subst (λ (o : Option ℕ). MatchOption o (IsWorked old operations n now) (λ _. HasEnded m n)) is ended;
  paid = subst (λ (o : Option ℕ). IfSome o (λ k. IsPaid m old.blocks operations k n)) is paid;
  due = λ nothing. let e : true ≡ false = ap (λ (o : Option ℕ). is_some o) (sym is ∙ (spent nothing).0) in absurd cc;
}

-- the last round, in which as much is done as may be
pub works_last : (m m0 : Mounted) (f0 old now : Flash) (operations i left : ℕ) (answer : Option ℕ) → IsSound now → answer ≡ None → IsGoingOn m0 f0 operations i left m old → Works old now (left - unwrap_or answer 0) (2 ^ 64) → Works f0 now operations (2 ^ 68)
works_last m m0 f0 old now operations i left answer sound is h works =
    let first = h.few in
    let last : Works old now (left - 0) (2 ^ 64) = subst (λ (o : Option ℕ). Works old now (left - unwrap_or o 0) (2 ^ 64)) is works in
    works_within f0 now operations (2 ^ 64) operations (2 ^ 68) (works_on f0 old now (operations - left) (left - 0) operations (2 ^ 64) (2 ^ 64) sound (omega arith) h.works last) (omega arith) (omega arith)

pub worked_last : (m m0 n : Mounted) (f0 old now : Flash) (operations i left : ℕ) (answer : Option ℕ) → answer ≡ None → IsGoingOn m0 f0 operations i left m old → MatchOption answer (IsWorked old left n now) (λ _. HasEnded m n) → ((IsCollectionDue m → ⊥) → IsSpent answer old left n now) → IsWorked f0 operations n now
worked_last m m0 n f0 old now operations i left answer is h ended spent = elim h.counted [
  | inl exact ↦ worked_since f0 old now n operations left h.few exact (subst (λ (o : Option ℕ). MatchOption o (IsWorked old left n now) (λ _. HasEnded m n)) is ended)
  | inr less ↦ elim (spent less.0).1 [
    | inl nothing ↦ inl nothing
    | inr done ↦ inr (done_after f0 old now operations left 3 1 h.few less.1 done)
  ]
]

-- with enough operations nothing is due
pub done_last : (m m0 n : Mounted) (f0 old : Flash) (operations i left : ℕ) (answer : Option ℕ) → answer ≡ None → IsGoingOn m0 f0 operations i left m old → (answer ≡ None → IsDue n None ⊎ (left < work_ahead m.index old.blocks + 37)) → enough_work f0.blocks ≤ operations → IsDue n None
done_last m m0 n f0 old operations i left answer is h enough many =
    paid_last m n f0.blocks operations i left h.rounds h.paid (subst (λ (b : ℕ). IsDue n None ⊎ (left < work_ahead m.index b + 37)) (works_blocks f0 old _ _ h.works) (enough is)) many

pub idle_last : (m m0 n : Mounted) (f0 old now : Flash) (operations i left : ℕ) (answer : Option ℕ) → IsGoingOn m0 f0 operations i left m old → (IsDue m None → (answer ≡ None) × IsAsBefore m old n now) → IsDue m0 None → IsAsBefore m0 f0 n now
idle_last m m0 n f0 old now operations i left answer h idle nothing =
    let before = h.idle nothing in
    let after = (idle (subst (λ (x : Mounted). IsDue x None) (sym before.mounted) nothing)).1 in
    record { mounted = after.mounted ∙ before.mounted; flash = after.flash ∙ before.flash }

pub leaves_last : (m m0 : Mounted) (f0 old now : Flash) (operations i left age most : ℕ) → IsGoingOn m0 f0 operations i left m old → Leaves old age now → age ≤ most → Leaves f0 most now
leaves_last m m0 f0 old now operations i left age most h leaves low = leaves_since f0 old now age most (works_blocks f0 old _ _ h.works) leaves low

pub stops_last : (m m0 : Mounted) (f0 old now : Flash) (fault : FlashFault) (operations i left : ℕ) → IsSound now → IsGoingOn m0 f0 operations i left m old → Stops old fault now left (2 ^ 64) → Stops f0 fault now operations (2 ^ 68)
stops_last m m0 f0 old now fault operations i left sound h stops =
    let first = h.few in
    stops_within f0 now fault operations (2 ^ 64) operations (2 ^ 68) (stops_on f0 old now fault (operations - left) left operations (2 ^ 64) (2 ^ 64) sound (omega arith) h.works stops) (omega arith) (omega arith)

-- ---- a round: jobs that write runs, and then a collection

-- so many operations are left, and nothing but the index differs
pub record AreWritten (m : Mounted) (old : Flash) (operations left : ℕ) (n : Mounted) (mid : Flash) : Type 0 where
  pub rest : n ≡ record m { index = n.index }
  pub few : left ≤ operations
  pub works : Works old mid (operations - left) (2 ^ 64)
  pub exact : mid.ops ≡ ops_more old (operations - left)

pub same_collection : (m : Mounted) (old : Flash) (operations left : ℕ) (n : Mounted) (mid : Flash) → AreWritten m old operations left n mid → (IsCollectionDue m → ⊥) → IsCollectionDue n → ⊥
same_collection m old operations left n mid h none due = none (subst IsCollectionDue h.rest due)

-- a job that writes a run is due still, or a collection is gone on with
pub due_ended : (m : Mounted) (old : Flash) (operations left : ℕ) (n : Mounted) (mid : Flash) → AreWritten m old operations left n mid → (left < 2) ⊎ (due_in n.index ≡ None) → is_some (due_in n.index) ≡ true → HasDone old operations 1 mid
due_ended m old operations left n mid h whole due = elim whole [
  | inl low ↦ few_left old mid operations left 1 h.few (omega arith) h.exact
  | inr none ↦ absurd (let e : true ≡ false = sym due ∙ ap (λ (o : Option JobKind). is_some o) none in cc)
]

pub more_done : (old new : Flash) (operations : ℕ) → HasDone old operations 1 new → HasDone old operations 4 new
more_done old new operations done = let within = done.2 in (done.0, done.1, omega arith)

pub few_then : (m : Mounted) (old : Flash) (operations left : ℕ) (n : Mounted) (mid : Flash) (answer : Option ℕ) → AreWritten m old operations left n mid → unwrap_or answer 0 ≤ left → unwrap_or answer 0 ≤ operations
few_then m old operations left n mid answer h few = let low = h.few in omega arith

pub works_then : (m : Mounted) (old : Flash) (operations left : ℕ) (n : Mounted) (mid new : Flash) (answer : Option ℕ) → IsSound new → AreWritten m old operations left n mid → unwrap_or answer 0 ≤ left → Works mid new (left - unwrap_or answer 0) (2 ^ 65) → Works old new (operations - unwrap_or answer 0) (2 ^ 64)
works_then m old operations left n mid new answer sound h few works =
    let low = h.few in
    works_on old mid new (operations - left) (left - unwrap_or answer 0) (operations - unwrap_or answer 0) (2 ^ 64) (2 ^ 65) sound (omega arith) h.works works

pub stops_then : (m : Mounted) (old : Flash) (operations left : ℕ) (n : Mounted) (mid new : Flash) (fault : FlashFault) → IsSound new → AreWritten m old operations left n mid → Stops mid fault new left (2 ^ 65) → Stops old fault new operations (2 ^ 64)
stops_then m old operations left n mid new fault sound h stops =
    let low = h.few in
    stops_on old mid new fault (operations - left) left operations (2 ^ 64) (2 ^ 65) sound (omega arith) h.works stops

ended_rest : (m n o : Mounted) → n ≡ record m { index = n.index } → HasEnded n o → HasEnded m o
ended_rest m n o rest h =
    let is : HasEnded (record m { index = n.index }) o = subst (λ (x : Mounted). HasEnded x o) rest h in
    record { over = is.over; began = is.began; free = is.free }

pub ended_then : (m : Mounted) (old : Flash) (operations left : ℕ) (n : Mounted) (mid : Flash) (o : Mounted) (new : Flash) (answer : Option ℕ) → AreWritten m old operations left n mid → MatchOption answer (IsWorked mid left o new) (λ _. HasEnded n o) → MatchOption answer (IsWorked old operations o new) (λ _. HasEnded m o)
ended_then m old operations left n mid o new None h ended = worked_since old mid new o operations left h.few h.exact ended
ended_then m old operations left n mid o new (Some k) h ended = ended_rest m n o h.rest ended

pub counted_then : (m : Mounted) (old : Flash) (operations left : ℕ) (n : Mounted) (mid : Flash) (o : Mounted) (new : Flash) (answer : Option ℕ) → AreWritten m old operations left n mid → unwrap_or answer 0 ≤ left → IfSome answer (λ k. IsCounted mid left k o new) → IfSome answer (λ k. IsCounted old operations k o new)
counted_then m old operations left n mid o new None h few counted = tt
counted_then m old operations left n mid o new (Some k) h few counted = counted_since old mid new o operations left k h.few few h.exact counted

-- where no collection is due, and no job that writes a run any more, nothing is
pub spent_then : (m : Mounted) (old : Flash) (operations left : ℕ) (n : Mounted) (mid : Flash) (o : Mounted) (new : Flash) (answer : Option ℕ) → AreWritten m old operations left n mid → due_in n.index ≡ None → ((IsCollectionDue n → ⊥) → (answer ≡ None) × IsAsBefore n mid o new) → (IsCollectionDue m → ⊥) → IsSpent answer old operations o new
spent_then m old operations left n mid o new answer h rested idle none =
    let still = same_collection m old operations left n mid h none in
    let is = idle still in
    (is.0, inl (subst (λ (x : Mounted). IsDue x None) (sym is.1.mounted) (rested, still)))

pub idle_then : (m n o : Mounted) (old mid new : Flash) (answer : Option ℕ) → IsAsBefore m old n mid → ((IsCollectionDue n → ⊥) → (answer ≡ None) × IsAsBefore n mid o new) → IsDue m None → (answer ≡ None) × IsAsBefore m old o new
idle_then m n o old mid new answer first last nothing =
    let is = last (subst (λ (x : Mounted). IsCollectionDue x → ⊥) (sym first.mounted) nothing.1) in
    (is.0, record { mounted = is.1.mounted ∙ first.mounted; flash = is.1.flash ∙ first.flash })

-- ---- one collection

-- a device without its collection leaves what it stands on
pub busy_leaves : (m : Mounted) (flash : Flash) (age : ℕ) → IsBusy m flash → mounted_age m ≤ age → Leaves flash age flash
busy_leaves m flash age busy low = record {
  blocks = refl;
  whole = busy.whole;
  age_is = let aged = aged_still m.index flash.blocks flash.image busy.index in omega arith;
}

by_none : (items : List CopyOf) → (length items == 0) ≡ true → items ≡ []
by_none [] is = refl
by_none (c ∷ cs) is = let none = eqb-true (length (c ∷ cs)) 0 is in absurd (omega arith)

by_some : (items : List CopyOf) → (length items == 0) ≡ false → 1 ≤ length items
by_some [] is = absurd cc
by_some (c ∷ cs) is = omega arith

pub nothing_copied : (r : Reclaim) (items : List CopyOf) → items ≡ copies_of r → (length items == 0) ≡ true → copies_of r ≡ []
nothing_copied r items same none = sym same ∙ by_none items none

pub some_copied : (r : Reclaim) (items : List CopyOf) → items ≡ copies_of r → (length items == 0) ≡ false → 1 ≤ length (copies_of r)
some_copied r items same some = subst (λ (cs : List CopyOf). 1 ≤ length cs) same (by_some items some)

-- ---- after pages were copied

-- so many operations were done, and so many are left
pub record IsBegun (old mid : Flash) (operations left : ℕ) : Type 0 where
  pub low : operations ≤ 2 ^ 62
  pub few : left ≤ operations
  pub works : Works old mid (operations - left) (2 * (operations - left))
  pub exact : mid.ops ≡ ops_more old (operations - left)

pub begun : (old mid : Flash) (operations left : ℕ) (answer : Option ℕ) → answer ≡ Some left → operations ≤ 2 ^ 62 → unwrap_or answer 0 ≤ operations → Works old mid (operations - unwrap_or answer 0) (2 * (operations - unwrap_or answer 0)) → mid.ops ≡ ops_more old (operations - unwrap_or answer 0)
    → IsBegun old mid operations left
begun old mid operations left answer is low few works exact = record {
  low = low;
  few = subst (λ (o : Option ℕ). unwrap_or o 0 ≤ operations) is few;
  works = subst (λ (o : Option ℕ). Works old mid (operations - unwrap_or o 0) (2 * (operations - unwrap_or o 0))) is works;
  exact = subst (λ (o : Option ℕ). mid.ops ≡ ops_more old (operations - unwrap_or o 0)) is exact;
}

pub few_since : (old mid : Flash) (operations left : ℕ) → IsBegun old mid operations left → (r : Result (Option ℕ) FlashFault) → IfOk r (λ more. unwrap_or more 0 ≤ left) → IfOk r (λ more. unwrap_or more 0 ≤ operations)
few_since old mid operations left b (Ok more) few = let first = b.few in omega arith
few_since old mid operations left b (Err fault) few = tt

pub works_since : (old mid new : Flash) (operations left : ℕ) → IsBegun old mid operations left → (r : Result (Option ℕ) FlashFault) → IfOk r (λ more. unwrap_or more 0 ≤ left) → IfOk r (λ more. Works mid new (left - unwrap_or more 0) (2 ^ 64))
    → IfOk r (λ more. Works old new (operations - unwrap_or more 0) (2 ^ 65))
works_since old mid new operations left b (Ok more) few works =
    let low = b.low in
    let first = b.few in
    works_within old new _ _ _ _ (works_then_works old mid new (operations - left) (2 * (operations - left)) (left - unwrap_or more 0) (2 ^ 64) b.works works) (omega arith) (omega arith)
works_since old mid new operations left b (Err fault) few works = tt

pub stops_since : (old mid new : Flash) (operations left : ℕ) → IsBegun old mid operations left → (r : Result (Option ℕ) FlashFault) → IfErr r (λ fault. Stops mid fault new left (2 ^ 64)) → IfErr r (λ fault. Stops old fault new operations (2 ^ 65))
stops_since old mid new operations left b (Ok more) stops = tt
stops_since old mid new operations left b (Err fault) stops =
    let low = b.low in
    let first = b.few in
    stops_within old new fault _ _ _ _ (works_then_stops old mid new fault (operations - left) (2 * (operations - left)) left (2 ^ 64) b.works stops) (omega arith) (omega arith)

pub counted_more : (old mid new : Flash) (n : Mounted) (operations left : ℕ) → IsBegun old mid operations left → (r : Result (Option ℕ) FlashFault) → IfOk r (λ more. unwrap_or more 0 ≤ left) → IfOk r (λ more. IfSome more (λ k. IsCounted mid left k n new))
    → IfOk r (λ more. IfSome more (λ k. IsCounted old operations k n new))
counted_more old mid new n operations left b (Ok None) few counted = tt
counted_more old mid new n operations left b (Ok (Some k)) few counted = counted_since old mid new n operations left k b.few few b.exact counted
counted_more old mid new n operations left b (Err fault) few counted = tt

pub all_since : (old mid new : Flash) (m n : Mounted) (v : Values) (operations left : ℕ) → IsBegun old mid operations left → IsCollectionDue m → (has_target v ≡ false → free_count v ≡ free_count m.values) → (r : Result (Option ℕ) FlashFault)
    → IfOk r (λ more. MatchOption more (IsWorked mid left n new) (λ _. IsFreed v n)) → IfOk r (λ more. MatchOption more (IsWorked old operations n new) (λ _. HasEnded m n))
all_since old mid new m n v operations left b due none (Ok None) ended = worked_since old mid new n operations left b.few b.exact ended
all_since old mid new m n v operations left b due none (Ok (Some k)) ended = ended_since m v n due none ended
all_since old mid new m n v operations left b due none (Err fault) ended = tt

-- the block that is freed is one more than those that were free
pub as_many : (m n : Mounted) (v : Values) → n ≡ record m { collection = None } → (has_target v ≡ false → free_count v ≡ free_count n.values) → has_target v ≡ false → free_count v ≡ free_count m.values
as_many m n v same none idle = none idle ∙ ap (λ (x : Mounted). free_count x.values) same
