-- Which pages entries name.
use Rattle.std.proofs.Common.{◌≡◌, ℕ, zero, suc, ◌+◌, ◌≤◌, Bool, true, cond, List, [], ◌∷◌, set, Option, unwrap_or, refl, ap, arith}
use Rattle.std.specs.List.{AllByRecursion, list_all}
use Rattle.std.proofs.lemmas.Bool.{and_parts, and_from}
use Rattle.std.proofs.lemmas.List.Sums.{sum_by-cons}
use Rattle.kssd_entry.specs.declared.entry.Entry.{Entry}
use Rattle.kssd_tx.specs.Lists.{Transactions}
use Rattle.kssd_machine.specs.Names.{names, times, times_pending}

pub times_none : (page : ℕ) → times page [] ≡ 0
times_none page = refl

pub times_first : (page : ℕ) (e : Entry) (es : List Entry) → times page (e ∷ es) ≡ cond (names page e) 1 0 + times page es
times_first page e es = sum_by-cons (λ (x : Entry). cond (names page x) 1 0) e es

pub pending_first : (page : ℕ) (t : Option (List Entry)) (ts : Transactions) → times_pending page (t ∷ ts) ≡ times page (unwrap_or t []) + times_pending page ts
pending_first page t ts = sum_by-cons (λ (x : Option (List Entry)). times page (unwrap_or x [])) t ts

-- what holds of each page that entries name holds of those of each entry
pub each_named : (P : ℕ → Type 0) (es : List Entry) → ((page : ℕ) → 1 ≤ times page es → P page) → AllByRecursion (λ e. (page : ℕ) → names page e ≡ true → P page) es
each_named P [] all = tt
each_named P (e ∷ es) all = (
  λ page is. all page (omega (arith, times_first page e es, ap {B = ℕ} (λ b. cond b 1 0) is)),
  each_named P es (λ page some. all page (omega (arith, times_first page e es))),
)

-- a test of all elements passes where one is put in another's place that passes
pub all_set : {X : Type 0} (p : X → Bool) (xs : List X) (i : ℕ) (x : X) → list_all p xs ≡ true → p x ≡ true → list_all p (set xs i x) ≡ true
all_set p [] i x all is = refl
all_set p (y ∷ ys) zero x all is = and_from _ _ is (and_parts _ _ all).1
all_set p (y ∷ ys) (suc i) x all is = let both = and_parts _ _ all in and_from _ _ both.0 (all_set p ys i x both.1 is)
