-- How many bytes fit, by numbers and by the tree.
use Rattle.std.proofs.Common.{◌≡◌, ℕ, ◌<◌, ◌≤◌, ◌+◌, ◌-◌, ◌*◌, ◌/◌, ◌&&◌, ◌⊎◌, inl, inr, true, false, T, List, length, replicate, Some, refl, sym, ap, ◌∙◌, arith, nat_le, min}
use Rattle.std.specs.Ordering.{nat_cmp}
use Rattle.std.specs.FinMap.{is_sorted}
use Rattle.std.proofs.lemmas.Bool.Decides.{nat_tests}
use Rattle.kfs_model.specs.declared.Node.TheVariants.{File}
use Rattle.kfs_model.specs.Tree.{Tree, Limits, charge, chunks, chunks_of, with_node, written, fits, fits_at, node_of}
use Rattle.kfs_model.proofs.Fits.{replaced, fits_is, size_written, charge_written}
use Rattle.kfs_core.specs.declared.room.Space.{Space}
use Rattle.kfs_core.specs.Room.{chunks_for, fits_in}

-- the numbers are those of the tree
pub record IsSpaceOf (space : Space) (k : Limits) (t : Tree) : Type 0 where
  pub keys : space.keys ≡ k.keys
  pub pages : space.pages ≡ k.pages
  pub charge : space.charge ≡ charge t
  pub chunks : space.chunks ≡ chunks t

-- the chunks after a file has other bytes
pub chunks_written : (t : Tree) (n : ℕ) (b c : List ℕ) → T (is_sorted nat_cmp t.nodes) → node_of t n ≡ Some (File b) → chunks (with_node t n (File c)) + chunks_for (length b) ≡ chunks t + chunks_for (length c)
chunks_written t n b c sorted e = (replaced (λ e. chunks_of e.1) n (File b) (File c) t.nodes sorted e).0

-- so many bytes pass
passes : (c h C H K V len p j top : ℕ) → c + (len + 4095) / 4096 ≡ C + (p + j + (len - (p + j)) + 4095) / 4096 → h + (len + 4095) / 4096 ≡ H + (p + j + (len - (p + j)) + 4095) / 4096
    → C ≤ K → H ≤ V → top ≡ (len + 4095) / 4096 + min (K - C) (V - H) → p + j ≤ top * 4096 → (c ≤ K) × (h ≤ V)
passes c h C H K V len p j top ec eh lc lh is le =
    let l : (p + j + (len - (p + j)) + 4095) / 4096 ≤ top = omega arith in
    (omega (arith, l, ec, lc, is), omega (arith, l, eh, lh, is))

-- more bytes than these don't
exceeds : (c h C H K V len p i top : ℕ) → c + (len + 4095) / 4096 ≡ C + (p + i + (len - (p + i)) + 4095) / 4096 → h + (len + 4095) / 4096 ≡ H + (p + i + (len - (p + i)) + 4095) / 4096
    → C ≤ K → H ≤ V → top ≡ (len + 4095) / 4096 + min (K - C) (V - H) → top * 4096 < p + i → (K < c) ⊎ (V < h)
exceeds c h C H K V len p i top ec eh lc lh is lt =
    let l : top < (p + i + (len - (p + i)) + 4095) / 4096 = omega arith in
    elim (either (K - C) (V - H)) [ inl a ↦ inl (omega (arith, l, ec, lc, is, a)) | inr b ↦ inr (omega (arith, l, eh, lh, is, b)) ]
  where
    either : (a b : ℕ) → (min a b ≡ a) ⊎ (min a b ≡ b)
    either a b = grind arith

all_pass : (a b c d e f : ℕ) → a ≤ b → c ≤ d → e ≤ f → (nat_le a b && (nat_le c d && nat_le e f)) ≡ true
all_pass a b c d e f x y z = grind (arith, nat_tests)

one_fails : (a b c d e f : ℕ) → (b < a) ⊎ ((d < c) ⊎ (f < e)) → (nat_le a b && (nat_le c d && nat_le e f)) ≡ false
one_fails a b c d e f (inl x) = grind (arith, nat_tests)
one_fails a b c d e f (inr (inl x)) = grind (arith, nat_tests)
one_fails a b c d e f (inr (inr x)) = grind (arith, nat_tests)

past_end : (p i top j m : ℕ) → j ≡ min m (min 256 top * 4096 - p) → j < i → i ≤ m → (1048576 < p + i) ⊎ (top * 4096 < p + i)
past_end p i top j m e lt le = grind arith

within_end : (p top j m : ℕ) → j ≡ min m (min 256 top * 4096 - p) → 0 < j → (p + j ≤ 1048576) × (p + j ≤ top * 4096)
within_end p top j m e pos = (omega arith, omega arith)

zero_or : (j : ℕ) → (j ≡ 0) ⊎ (0 < j)
zero_or j = grind arith

module _ (k : Limits) (t : Tree) (n : ℕ) (b : List ℕ) (sorted : T (is_sorted nat_cmp t.nodes)) (file : node_of t n ≡ Some (File b)) (keys : charge t ≤ k.keys) (pages : chunks t ≤ k.pages) where
  top : ℕ
  top = chunks_for (length b) + min (k.keys - charge t) (k.pages - chunks t)

  new : ℕ → ℕ → Tree
  new p i = with_node t n (File (written b p (replicate i 0)))

  charge_new : (p i : ℕ) → charge (new p i) + chunks_for (length b) ≡ charge t + chunks_for (p + i + (length b - (p + i)))
  unfolding new
  charge_new p i = charge_written t n b (written b p (replicate i 0)) sorted file ∙ ap (λ s. charge t + chunks_for s) (size_written b p i)

  chunks_new : (p i : ℕ) → chunks (new p i) + chunks_for (length b) ≡ chunks t + chunks_for (p + i + (length b - (p + i)))
  unfolding new
  chunks_new p i = chunks_written t n b (written b p (replicate i 0)) sorted file ∙ ap (λ s. chunks t + chunks_for s) (size_written b p i)

  fits_at_is : (p i : ℕ) → fits_at k t n b p i ≡ (nat_le (p + i) 1048576 && (nat_le (charge (new p i)) k.keys && nat_le (chunks (new p i)) k.pages))
  unfolding new
  fits_at_is p i = refl

  -- the closed form is the greatest number that fits
  pub fits_form : (p m j : ℕ) → j ≡ min m (min 256 (chunks_for (length b) + min (k.keys - charge t) (k.pages - chunks t)) * 4096 - p) → fits k t n b p m ≡ j
  unfolding top
  fits_form p m j is = fits_is k t n b p m j (omega arith)
      (elim (zero_or j) [
        | inl none ↦ inl none
        | inr some ↦ inr (
            let w = within_end p top j m is some in
            let s = passes (charge (new p j)) (chunks (new p j)) (charge t) (chunks t) k.keys k.pages (length b) p j top (charge_new p j) (chunks_new p j) keys pages refl w.1 in
            fits_at_is p j ∙ all_pass _ _ _ _ _ _ w.0 s.0 s.1)
      ])
      (λ i lt le. fits_at_is p i ∙ one_fails _ _ _ _ _ _ (elim (past_end p i top j m is lt le) [
        | inl far ↦ inl far
        | inr past ↦ inr (exceeds (charge (new p i)) (chunks (new p i)) (charge t) (chunks t) k.keys k.pages (length b) p i top (charge_new p i) (chunks_new p i) keys pages refl past)
      ]))

  pub fits_same : (space : Space) (p m : ℕ) → IsSpaceOf space k t → fits_in space (length b) p m ≡ fits k t n b p m
  fits_same space p m is =
      sym (fits_form p m (fits_in space (length b) p m)
      (λ i. min m (min 256 (chunks_for (length b) + min (is.keys i - is.charge i) (is.pages i - is.chunks i)) * 4096 - p)))
