-- A log that a mount takes has no page that it refuses.
use Rattle.std.proofs.Common.{◌≡◌, ◌∙◌, ℕ, zero, suc, ◌+◌, ◌-◌, ◌*◌, ◌/◌, ◌%◌, ◌<◌, ◌≤◌, ◌^◌, Bool, true, false, cond, eqb, List, [], ◌∷◌, ◌++◌, length, refl, sym, ap, subst, arith, append_assoc, inl, inr}
use Rattle.kv_nand.specs.Flash.{Image}
use Rattle.kssd_model.specs.Groups.{LogPage, LogSeen, Ends, Holds, Broken, seen, next_block, next_place, Path, Walk, stop, with_first, walk, log_in, turn_count, different_keys, WithinBlocks, AreAllowed, IsRefused, IsDamaged}
use Rattle.kssd_model.proofs.GroupsPaths.{not_last}
use Rattle.kssd_model.proofs.GroupsDamage.{keys_grow}
use Rattle.kssd_image.specs.Whole.{IsLogWhole}

-- pages in front of those of a walk
abbrev pub behind_all : List LogPage → Walk → Walk
behind_all xs w = record { pages = xs ++ w.pages; end = w.end; next = w.next }

-- a walk goes along each path
pub walk_along : (most k : ℕ) (image : Image) (page number : ℕ) (xs : List LogPage) (end next : ℕ) → most ≡ length xs + k → Path image page number xs end next → walk most image page number ≡ behind_all xs (walk k image end next)
unfolding walk
walk_along most k image page number [] end next e path =
    λ i. walk (let f : most ≡ k = omega arith in f i) image (sym path.0 i) (sym path.1 i)
walk_along zero k image page number (x ∷ xs) end next e path = absurd (omega arith)
walk_along (suc most) k image page number (x ∷ xs) end next e path = rw (path.0, walk) (ap (with_first x) (walk_along most k image (next_place page x) (number + 1) xs end next (omega arith) path.1))

-- each block but for the last ends with its turn page, so a path has few pages
pub path_is_short : (image : Image) (page number : ℕ) (xs : List LogPage) (end next : ℕ) → Path image page number xs end next → page % 32 + length xs ≤ 32 * turn_count xs + end % 32
path_is_short image page number [] end next path = omega (arith, ap (λ n. n % 32) path.0)
path_is_short image page number (x ∷ xs) end next path = by (eqb x.flags 2) refl (path_is_short image (next_place page x) (number + 1) xs end next path.1)
  where
    by : (b : Bool) → eqb x.flags 2 ≡ b → next_place page x % 32 + length xs ≤ 32 * turn_count xs + end % 32 → page % 32 + suc (length xs) ≤ 32 * (cond b 1 0 + turn_count xs) + end % 32
    by true e rest =
        let next : next_place page x ≡ 32 * next_block (page / 32) = ap (λ b. cond b (32 * next_block (page / 32)) (page + 1)) e in
        omega (arith, ap (λ n. n % 32) next)
    by false e rest =
        let next : next_place page x ≡ page + 1 = ap (λ b. cond b (32 * next_block (page / 32)) (page + 1)) e in
        let other = not_last page number (image page) x path.0 e in
        let step : (page + 1) % 32 ≡ page % 32 + 1 = omega arith in
        omega (arith, ap (λ n. n % 32) next)

pub turns_within : (turns : ℕ) (xs : List LogPage) → WithinBlocks turns xs → turns ≤ 16 → turns + turn_count xs ≤ 16
turns_within turns [] h le = omega arith
turns_within turns (x ∷ xs) h le = by (eqb x.flags 2) (turns_within (turns + cond (eqb x.flags 2) 1 0) xs h.1)
  where
    by : (b : Bool) → (turns + cond b 1 0 ≤ 16 → turns + cond b 1 0 + turn_count xs ≤ 16) → turns + (cond b 1 0 + turn_count xs) ≤ 16
    by true rest = let r = rest (omega (arith, h.0)) in omega arith
    by false rest = let r = rest (omega arith) in omega arith

within_behind : (turns : ℕ) (xs : List LogPage) (x : LogPage) (more : List LogPage) → WithinBlocks turns (xs ++ x ∷ more) → turns + turn_count xs < 16
within_behind turns [] x more h = omega (arith, h.0)
within_behind turns (y ∷ xs) x more h = omega (arith, within_behind (turns + cond (eqb y.flags 2) 1 0) xs x more h.1)

-- the log of the image goes over the pages before the one that is refused
pub log_along : (image : Image) (page number at : ℕ) (d : IsDamaged image page number at) → (k : ℕ) × (log_in image page number ≡ behind_all d.pages (walk (suc k) image at d.next))
unfolding log_in
log_along image page number at d =
    let few = path_is_short image page number d.pages at d.next d.path in
    let turns = turns_within 0 d.pages d.before.blocks (omega arith) in
    (2 ^ 64 - 1 - length d.pages, walk_along (2 ^ 64) (suc (2 ^ 64 - 1 - length d.pages)) image page number d.pages at d.next (omega arith) d.path)

pub no_log_damage : (image : Image) (page number at : ℕ) → IsLogWhole image (log_in image page number) → IsDamaged image page number at → ⊥
unfolding walk
no_log_damage image page number at whole d =
    let along = log_along image page number at d in
    by along.0 (seen at d.next (image at)) refl (subst (IsLogWhole image) along.1 whole) d.cause
  where
    by : (k : ℕ) (s : LogSeen) → seen at d.next (image at) ≡ s → IsLogWhole image (behind_all d.pages (walk (suc k) image at d.next)) → IsRefused (turn_count d.pages) d.pages s → ⊥
    by k Ends e w cause = cause
    by k Broken e w cause =
        let stops : walk (suc k) image at d.next ≡ stop at d.next = rw (e, walk) refl in
        let ends : seen at d.next (image at) ≡ Ends = subst (λ (v : Walk). seen v.end v.next (image v.end) ≡ Ends) stops w.ends in
        absurd (let f : Broken ≡ Ends = sym e ∙ ends in cc)
    by k (Holds x) e w cause =
        let goes : walk (suc k) image at d.next ≡ with_first x (walk k image (next_place at x) (d.next + 1)) = rw (e, walk) refl in
        let allowed = subst (λ (v : Walk). AreAllowed (d.pages ++ v.pages)) goes w.allowed in
        let more = (walk k image (next_place at x) (d.next + 1)).pages in
        let parts : (d.pages ++ x ∷ []) ++ more ≡ d.pages ++ x ∷ more = append_assoc d.pages (x ∷ []) more in
        elim cause [
          | inl past ↦ absurd (omega (arith, within_behind 0 d.pages x more allowed.blocks))
          | inr many ↦ absurd (omega (arith, keys_grow (d.pages ++ x ∷ []) more, ap different_keys parts, allowed.keys))
        ]
