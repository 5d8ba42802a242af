-- What a step leaves as it was, whichever it is.
use Rattle.std.proofs.Common.{◌≡◌, ◌≢◌, ◌∙◌, ◌⊎◌, ℕ, ◌+◌, ◌≤◌, true, refl, sym, ap, subst, inl, inr, arith}
use Rattle.kv_nand.specs.Flash.{Flash}
use Rattle.kssd_values.specs.declared.values.Values.{Values}
use Rattle.kssd_values.specs.Marks.{is_live}
use Rattle.kssd_values.specs.Places.{IsValueBlock}
use Rattle.kssd_values.specs.Blocks.{Free, Closed, device_of, is_live_at, state_at, free_count, has_target, copied, IsClosed}
use Rattle.kssd_reclaim.specs.declared.reclaim.Reclaim.{Reclaim}
use Rattle.kssd_reclaim.specs.Reclaim.{block_of}
use Rattle.kssd_reclaim.specs.Steps.{Steps}

module _ (old new : Reclaim) (v w : Values) (before after : Flash) (h : Steps old v before new w after) where
  pub step_block : block_of new ≡ block_of old
  step_block = elim h [
    | inl s ↦ s.waits.block
    | inr o ↦ elim o [ inl s ↦ s.waits.block | inr s ↦ s.block ]
  ]

  pub step_device : device_of w ≡ device_of v
  step_device = elim h [
    | inl s ↦ ap device_of s.values
    | inr o ↦ elim o [ inl s ↦ s.values.device | inr s ↦ s.values.device ]
  ]

  -- no page becomes live
  pub step_live : (q : ℕ) → is_live_at w q ≡ true → is_live_at v q ≡ true
  step_live q l = elim h [
    | inl s ↦ ap (λ (x : Values). is_live_at x q) (sym s.values) ∙ l
    | inr o ↦ elim o [ inl s ↦ sym (ap is_live (s.values.marks q)) ∙ l | inr s ↦ sym (ap is_live (s.values.marks q)) ∙ l ]
  ]

  -- a closed block is closed
  pub step_closed : (b : ℕ) → IsClosed v b → IsClosed w b
  step_closed b c = elim h [
    | inl s ↦ subst (λ (x : Values). IsClosed x b) (sym s.values) c
    | inr o ↦ elim o [
      | inl s ↦
          let taken = (s.values.begins refl).2 in
          let other : b ≢ taken.0 = λ e. let both : Closed ≡ Free = sym c.closed ∙ ap (state_at v) e ∙ taken.2.was in cc in
          record { value = subst (λ d. IsValueBlock d b) (sym s.values.device) c.value; closed = taken.2.others b other ∙ c.closed }
      | inr s ↦ record { value = subst (λ d. IsValueBlock d b) (sym s.values.device) c.value; closed = (s.values.goes_on s.copy.target refl).blocks.states b ∙ c.closed }
    ]
  ]

  -- at most one more copy is made
  pub step_copied : copied w ≤ copied v + 1
  step_copied = elim h [
    | inl s ↦ omega (arith, ap copied s.values)
    | inr o ↦ elim o [
      | inl s ↦ let none = (s.values.begins refl).1 in omega (arith, none)
      | inr s ↦ let next = (s.values.goes_on s.copy.target refl).next in omega (arith, next)
    ]
  ]

  -- a block is free, or is copied into
  pub step_block_left : (free_count v ≢ 0) ⊎ (has_target v ≡ true) → (free_count w ≢ 0) ⊎ (has_target w ≡ true)
  step_block_left left = elim h [
    | inl s ↦ subst (λ (x : Values). (free_count x ≢ 0) ⊎ (has_target x ≡ true)) (sym s.values) left
    | inr o ↦ elim o [ inl s ↦ inr s.values.has | inr s ↦ inr s.values.has ]
  ]
