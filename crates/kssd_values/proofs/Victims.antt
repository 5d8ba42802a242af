-- The victim of a collection.
use Rattle.std.proofs.Common.{◌≡◌, ℕ, ◌*◌, ◌<◌, ◌≤◌, Option, Some, None, refl, arith, take, drop, length-take}
use Rattle.std.specs.Prelude.{IsNone, IfSome}
use Rattle.std.proofs.lemmas.Bool.{true≢false}
use Rattle.std.proofs.lemmas.List.Sums.{count_by-le-length}
use Rattle.kssd_values.specs.declared.values.Values.{Values}
use Rattle.kssd_values.specs.Marks.{is_live}
use Rattle.kssd_values.specs.Blocks.{live_in, IsClosed, IsVictim, device_of}

pub live_most : (v : Values) (b : ℕ) → live_in v b ≤ 32
live_most v b = omega (arith, count_by-le-length is_live (take 32 (drop (32 * b) v.marks.items)), length-take 32 (drop (32 * b) v.marks.items))

-- the victim among the blocks below one, which has so many live pages
pub record IsBest (v : Values) (below fewest w : ℕ) : Type 0 where
  pub closed : IsClosed v w
  pub live : live_in v w ≡ fewest
  pub some : fewest < 32
  pub lowest : (b : ℕ) → IsClosed v b → b < w → fewest < live_in v b

-- there is none where all have 32
abbrev pub BestIs : Values → ℕ → ℕ → Option ℕ → Type 0
BestIs v below fewest None = fewest ≡ 32
BestIs v below fewest (Some w) = IsBest v below fewest w

pub victim_from : (v : Values) (below fewest : ℕ) (best : Option ℕ) → BestIs v below fewest best → ((b : ℕ) → IsClosed v b → b < below → fewest ≤ live_in v b) → device_of v ≤ below → IfSome best (IsVictim v)
victim_from v below fewest None h least all = tt
victim_from v below fewest (Some w) h least all = record {
  closed = h.closed;
  some = omega (arith, h.live, h.some);
  fewest = λ b c. let few = least b c (omega (arith, c.value.last)) in omega (arith, h.live);
  lowest = λ b c lt. let few = h.lowest b c lt in omega (arith, h.live);
}

pub none_from : (v : Values) (below fewest : ℕ) (best : Option ℕ) → BestIs v below fewest best → ((b : ℕ) → IsClosed v b → b < below → fewest ≤ live_in v b) → device_of v ≤ below → (IsNone best → (b : ℕ) → IsClosed v b → live_in v b ≡ 32) × (((b : ℕ) → IsClosed v b → live_in v b ≡ 32) → IsNone best)
none_from v below fewest None h least all = (
  λ _ b c. let few = least b c (omega (arith, c.value.last)) in omega (arith, live_most v b),
  λ _. refl,
)
none_from v below fewest (Some w) h least all = (
  λ e. absurd (true≢false e),
  λ full. absurd (let x = full w h.closed in omega (arith, h.live, h.some)),
)
