-- How many operations rounds take.
use Rattle.std.proofs.Common.{◌≡◌, ◌∙◌, ◌⊎◌, inl, inr, ℕ, ◌+◌, ◌-◌, ◌*◌, ◌<◌, ◌≤◌, true, false, Option, Some, None, Result, Ok, Err, is_some, unwrap_or, IfOk, IfSome, sym, ap, subst, arith}
use Rattle.kv_nand.specs.declared.fault.FlashFault.{FlashFault}
use Rattle.kssd_layout.specs.Numbers.{base_blocks_in}
use Rattle.kssd_levels.specs.declared.kind.JobKind.{JobKind}
use Rattle.kssd_levels.specs.declared.kind.JobKind.TheVariants.{Flush, Zero, One}
use Rattle.kssd_root.specs.Costs.{merge_cost}
use Rattle.kssd_index.specs.declared.index.Index.{Index}
use Rattle.kssd_index.specs.Standing.{index_root}
use Rattle.kssd_index.specs.Working.{due_in, work_ahead}
use Rattle.kssd_index.proofs.Ahead.{ahead_most, ahead_none, ahead_after}
use Rattle.kssd_mounted.specs.declared.mounted.Mounted.{Mounted}
use Rattle.kssd_collect.specs.Due.{IsCollectionDue}
use Rattle.kssd_work.specs.Working.{IsDue, LeavesIndex, IsPaid, each_once, enough_work}

-- ---- a collection

-- a block was copied, and then the collection ended
pub soon_since : (operations left : ℕ) → operations - left ≤ 33 → (r : Result (Option ℕ) FlashFault) → IfOk r (λ more. IfSome more (λ k. left ≤ k + 4)) → IfOk r (λ more. IfSome more (λ k. operations ≤ k + 37))
soon_since operations left few (Ok None) soon = tt
soon_since operations left few (Ok (Some k)) soon = omega arith
soon_since operations left few (Err fault) soon = tt

pub enough_since : (n : Mounted) (operations left : ℕ) → operations - left ≤ 33 → (r : Result (Option ℕ) FlashFault) → IfOk r (λ more. more ≡ None → left < 4) → IfOk r (λ more. more ≡ None → IsDue n None ⊎ (operations < 37))
enough_since n operations left few (Ok more) enough = λ none. let low = enough none in inr (omega arith)
enough_since n operations left few (Err fault) enough = tt

leaves_since : (m mid n : Mounted) → mid.index ≡ m.index → LeavesIndex mid n → LeavesIndex m n
leaves_since m mid n same leaves = elim leaves [
  | inl still ↦ inl (still ∙ same)
  | inr over ↦ inr (over.0, over.1 ∙ ap index_root same)
]

pub index_since : (m mid n : Mounted) → mid.index ≡ m.index → (r : Result (Option ℕ) FlashFault) → IfOk r (λ more. IfSome more (λ k. LeavesIndex mid n)) → IfOk r (λ more. IfSome more (λ k. LeavesIndex m n))
index_since m mid n same (Ok None) leaves = tt
index_since m mid n same (Ok (Some k)) leaves = leaves_since m mid n same leaves
index_since m mid n same (Err fault) leaves = tt

-- so many operations copied a block
pub copied_few : (operations left : ℕ) (answer : Option ℕ) → answer ≡ Some left → operations - unwrap_or answer 0 ≤ 33 → operations - left ≤ 33
copied_few operations left answer is most = subst (λ (o : Option ℕ). operations - unwrap_or o 0 ≤ 33) is most

pub copied_part : (operations : ℕ) (answer : Option ℕ) → answer ≡ None → operations - unwrap_or answer 0 ≤ 33 → operations < 37
copied_part operations answer is most = let few : operations - 0 ≤ 33 = subst (λ (o : Option ℕ). operations - unwrap_or o 0 ≤ 33) is most in omega arith

-- ---- a round

-- a job is due still: too few operations were left
pub few_ahead : (index : Index) (operations left ahead : ℕ) → (left < 2) ⊎ (due_in index ≡ None) → is_some (due_in index) ≡ true → operations - left ≤ ahead → operations < ahead + 37
few_ahead index operations left ahead whole due bounded = elim whole [
  | inl low ↦ omega arith
  | inr none ↦ absurd (let e : true ≡ false = sym due ∙ ap (λ (o : Option JobKind). is_some o) none in cc)
]

first_part : (operations left more ahead later : ℕ) → operations - left ≤ ahead → left ≤ more + 37 → later ≡ 0 → (operations - more) + later ≤ ahead + 37
first_part operations left more ahead later bounded soon none = omega arith

last_part : (operations left more ahead later each : ℕ) → operations - left ≤ ahead → left ≤ more + 37 → later ≤ each → (operations - more) + later ≤ ahead + 37 + each
last_part operations left more ahead later each bounded soon low = omega arith

pub paid_then : (m n o : Mounted) (blocks operations left : ℕ) (answer : Option ℕ) → operations - left ≤ work_ahead m.index blocks → due_in n.index ≡ None → IfSome answer (λ k. left ≤ k + 37) → IfSome answer (λ k. LeavesIndex n o) → IfSome answer (λ k. IsPaid m blocks operations k o)
paid_then m n o blocks operations left None bounded rested soon leaves = tt
paid_then m n o blocks operations left (Some k) bounded rested soon leaves = elim leaves [
  | inl same ↦ inl (first_part operations left k (work_ahead m.index blocks) (work_ahead o.index blocks) bounded soon (ap (λ (i : Index). work_ahead i blocks) same ∙ ahead_none n.index blocks rested))
  | inr over ↦ inr (over.0, last_part operations left k (work_ahead m.index blocks) (work_ahead o.index blocks) (each_once blocks) bounded soon (ahead_after n.index o.index blocks rested over.1))
]

pub enough_then : (o : Mounted) (operations left ahead : ℕ) (answer : Option ℕ) → operations - left ≤ ahead → (answer ≡ None → IsDue o None ⊎ (left < 37)) → answer ≡ None → IsDue o None ⊎ (operations < ahead + 37)
enough_then o operations left ahead answer bounded enough none = elim (enough none) [
  | inl nothing ↦ inl nothing
  | inr low ↦ inr (omega arith)
]

-- ---- rounds

-- what all rounds took so far, with what is ahead: whatever was ahead at first, and 37 for each; or no collection is due, and it is one job of each kind more
abbrev pub HasPaid : ℕ → ℕ → ℕ → ℕ → Mounted → Type 0
HasPaid blocks operations i left n =
    ((operations - left) + work_ahead n.index blocks ≤ merge_cost Flush blocks + merge_cost Zero blocks + 2 * merge_cost One blocks + 37 * i)
    ⊎ ((IsCollectionDue n → ⊥) × ((operations - left) + work_ahead n.index blocks ≤ merge_cost Flush blocks + merge_cost Zero blocks + 2 * merge_cost One blocks + 37 * i + each_once blocks))

none_paid : (operations ahead most : ℕ) → ahead ≤ most → (operations - operations) + ahead ≤ most + 37 * 0
none_paid operations ahead most low = omega arith

pub first_paid : (m : Mounted) (blocks operations : ℕ) → HasPaid blocks operations 0 operations m
first_paid m blocks operations = inl (none_paid operations (work_ahead m.index blocks) (merge_cost Flush blocks + merge_cost Zero blocks + 2 * merge_cost One blocks) (ahead_most m.index blocks))

one_more : (operations left more was is i most : ℕ) → (operations - left) + was ≤ most + 37 * i → (left - more) + is ≤ was + 37 → (operations - more) + is ≤ most + 37 * (i + 1)
one_more operations left more was is i most before now = omega arith

one_more_each : (operations left more was is i most each : ℕ) → (operations - left) + was ≤ most + 37 * i → (left - more) + is ≤ was + 37 + each → (operations - more) + is ≤ most + 37 * (i + 1) + each
one_more_each operations left more was is i most each before now = omega arith

pub more_paid : (m n : Mounted) (blocks operations i left more : ℕ) → HasPaid blocks operations i left m → IsPaid m blocks left more n → ((IsCollectionDue m → ⊥) → ⊥) → HasPaid blocks operations (i + 1) more n
more_paid m n blocks operations i left more before now due = elim before [
  | inl within ↦ elim now [
    | inl few ↦ inl (one_more operations left more (work_ahead m.index blocks) (work_ahead n.index blocks) i (merge_cost Flush blocks + merge_cost Zero blocks + 2 * merge_cost One blocks) within few)
    | inr over ↦ inr (over.0, one_more_each operations left more (work_ahead m.index blocks) (work_ahead n.index blocks) i (merge_cost Flush blocks + merge_cost Zero blocks + 2 * merge_cost One blocks) (each_once blocks) within over.1)
  ]
  | inr spent ↦ absurd (due spent.0)
]

-- so it isn't much
too_many : (operations left ahead i base : ℕ) → i ≤ 4 → (operations - left) + ahead ≤ 238 + 1411 + 2 * ((1409 + 33 * base) + 2) + 37 * i + (238 + 1411 + ((1409 + 33 * base) + 2)) → left < ahead + 37 → 64 * (118 + 2 * base) + 256 ≤ operations → ⊥
too_many operations left ahead i base few paid low enough = omega arith

more_than : (a b c : ℕ) → a ≤ b → a ≤ b + c
more_than a b c le = omega arith

pub paid_last : (m n : Mounted) (blocks operations i left : ℕ) → i ≤ 4 → HasPaid blocks operations i left m → IsDue n None ⊎ (left < work_ahead m.index blocks + 37) → enough_work blocks ≤ operations → IsDue n None
paid_last m n blocks operations i left few paid last enough = elim last [
  | inl nothing ↦ nothing
  | inr low ↦ absurd (too_many operations left (work_ahead m.index blocks) i (base_blocks_in blocks) few (in_all paid) low enough)
]
  where
    in_all : HasPaid blocks operations i left m → (operations - left) + work_ahead m.index blocks ≤ merge_cost Flush blocks + merge_cost Zero blocks + 2 * merge_cost One blocks + 37 * i + each_once blocks
    in_all (inl within) = more_than _ _ (each_once blocks) within
    in_all (inr over) = over.1
