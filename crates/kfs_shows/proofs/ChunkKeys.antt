-- Whether a key is that of some chunk of a node.
use Rattle.std.proofs.Common.{◌≡◌, ◌≢◌, ℕ, zero, suc, ◌<◌, ◌^◌, ◌⊎◌, inl, inr, arith, List, subst}
use Rattle.kfs_objects.specs.Keys.{chunk_key}
use Rattle.kfs_shows.proofs.Lookups.{decide_bytes}

decide_below : (P : ℕ → Type 0) → ((c : ℕ) → P c ⊎ (P c → ⊥)) → (n : ℕ) → ((c : ℕ) × (c < n) × P c) ⊎ ((c : ℕ) → c < n → P c → ⊥)
decide_below P d zero = inr (λ c lt h. absurd (omega arith))
decide_below P d (suc n) = elim (d n) [
  | inl here ↦ inl (n, omega arith, here)
  | inr isnt ↦ elim (decide_below P d n) [
    | inl some ↦ inl (some.0, let lt = some.1 in omega arith, some.2)
    | inr none ↦ inr (λ c lt h. elim (split c n lt) [ inl less ↦ none c less h | inr same ↦ isnt (subst P same h) ])
  ]
]
  where
    split : (c n : ℕ) → c < suc n → (c < n) ⊎ (c ≡ n)
    split c n lt = grind arith

pub chunk_of : (n : ℕ) (key : List ℕ) → ((c : ℕ) × (c < 2 ^ 32) × (key ≡ chunk_key n c)) ⊎ ((c : ℕ) → c < 2 ^ 32 → key ≢ chunk_key n c)
chunk_of n key = decide_below (λ c. key ≡ chunk_key n c) (λ c. decide_bytes key (chunk_key n c)) (2 ^ 32)
