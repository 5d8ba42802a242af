-- Bytes that may be written leave room.
use Rattle.std.proofs.Common.{◌≡◌, ℕ, suc, ◌+◌, ◌*◌, ◌-◌, ◌<◌, ◌≤◌, ◌/◌, ◌&&◌, Bool, true, false, List, [], ◌∷◌, length, take, replicate, sum_by, Ok, refl, sym, ap, ◌∙◌, arith, leb}
use Rattle.std.specs.Prelude.{if◌then◌else◌, ◌==◌, nat_lt, nat_le}
use Rattle.std.specs.Ordering.{nat_cmp}
use Rattle.std.specs.declared.cmp.Ordering.TheVariants.{Less, Equal, Greater}
use Rattle.std.specs.FinMap.{put}
use Rattle.std.specs.FinMap.Entries.{by_order}
use Rattle.std.proofs.lemmas.Bool.Decides.{nat_tests}
use Rattle.std.proofs.lemmas.List.{length-take-le, length-replicate}
use Rattle.std.proofs.lemmas.List.Sums.{sum_by-cons}
use Rattle.kfs_path.specs.Pieces.{is_empty}
use Rattle.kfs_path.specs.declared.call.Errno.TheVariants.{EINVAL, EFBIG, ENOSPC}
use Rattle.kfs_model.specs.declared.Node.{Node}
use Rattle.kfs_model.specs.declared.Node.TheVariants.{File}
use Rattle.kfs_model.specs.Ladder.{◌>>◌, ◌when◌}
use Rattle.kfs_model.specs.Tree.{Tree, Limits, charge, chunks_of, with_node, written, fits, fits_at, greatest_length}
use Rattle.kfs_model.specs.Step.{content, greatest_count}
use Rattle.kfs_model.proofs.Written.{length_written}
use Rattle.kfs_plain.specs.Tables.{writable}
use Rattle.kfs_plain.proofs.Fitting.{fits-room, fits-le}

by_ok : (long none far : Bool) (f j : ℕ) → ((EINVAL when long) >> (if none then Ok 0 else ((EFBIG when far) >> ((ENOSPC when (f == 0)) >> Ok f)))) ≡ Ok j → 0 < j → f ≡ j
by_ok true none far f j e pos = absurd (cc)
by_ok false true far f j e pos = let same : 0 ≡ j = cc in absurd (omega arith)
by_ok false false true f j e pos = absurd (cc)
by_ok false false false f j e pos = last (f == 0) e
  where
    last : (t : Bool) → ((ENOSPC when t) >> Ok f) ≡ Ok j → f ≡ j
    last true e = absurd (cc)
    last false e = cc

-- what may be written is what fits
pub writable-ok : (k : Limits) (t : Tree) (n p : ℕ) (given : List ℕ) (j : ℕ) → writable k t n p given ≡ Ok j → 0 < j → fits k t n (content t n) p (length given) ≡ j
writable-ok k t n p given j e pos = by_ok (nat_lt greatest_count (length given)) (is_empty given) (nat_le greatest_length p) (fits k t n (content t n) p (length given)) j e pos

pub writable-le : (k : Limits) (t : Tree) (n p : ℕ) (given : List ℕ) (j : ℕ) → writable k t n p given ≡ Ok j → 0 < j → j ≤ length given
writable-le k t n p given j e pos = let same = writable-ok k t n p given j e pos in let le = fits-le k t n (content t n) p (length given) in omega arith

-- values that count alike
alike_put : (f : ℕ × Node → ℕ) (n : ℕ) (a b : Node) (es : List (ℕ × Node)) → ((m : ℕ) → f (m, a) ≡ f (m, b)) → (sum_by f (put nat_cmp n a es) ≡ sum_by f (put nat_cmp n b es)) × (length (put nat_cmp n a es) ≡ length (put nat_cmp n b es))
alike_put f n a b [] same = (sum_by-cons f (n, a) [] ∙ ap (λ s. s + sum_by f []) (same n) ∙ sym (sum_by-cons f (n, b) []), refl)
alike_put f n a b (e ∷ es) same =
    let rest = alike_put f n a b es same in
    elim (nat_cmp n e.0) as (λ r. (sum_by f (by_order r ((n, a) ∷ e ∷ es) ((e.0, a) ∷ es) (e ∷ put nat_cmp n a es)) ≡ sum_by f (by_order r ((n, b) ∷ e ∷ es) ((e.0, b) ∷ es) (e ∷ put nat_cmp n b es)))
    × (length (by_order r ((n, a) ∷ e ∷ es) ((e.0, a) ∷ es) (e ∷ put nat_cmp n a es)) ≡ length (by_order r ((n, b) ∷ e ∷ es) ((e.0, b) ∷ es) (e ∷ put nat_cmp n b es)))) [
      | Less ↦ (sum_by-cons f (n, a) (e ∷ es) ∙ ap (λ s. s + sum_by f (e ∷ es)) (same n) ∙ sym (sum_by-cons f (n, b) (e ∷ es)), refl)
      | Equal ↦ (sum_by-cons f (e.0, a) es ∙ ap (λ s. s + sum_by f es) (same e.0) ∙ sym (sum_by-cons f (e.0, b) es), refl)
      | Greater ↦ (sum_by-cons f e (put nat_cmp n a es) ∙ ap (λ s. f e + s) rest.0 ∙ sym (sum_by-cons f e (put nat_cmp n b es)), ap (λ s. suc s) rest.1)
    ]

-- contents of one length are charged alike
charge-alike : (t : Tree) (n : ℕ) (a b : List ℕ) → length a ≡ length b → charge (with_node t n (File a)) ≡ charge (with_node t n (File b))
charge-alike t n a b same =
    let both = alike_put (λ e. chunks_of e.1) n (File a) (File b) t.nodes (λ m. ap (λ s. (s + 4095) / 4096) same) in
    λ i. 1 + 2 * both.1 i + both.0 i

first_passes : (a b c : Bool) → (a && (b && c)) ≡ true → b ≡ true
first_passes true true c e = refl
first_passes true false c e = absurd (cc)
first_passes false b c e = absurd (cc)

front_passes : (a b : Bool) → (a && b) ≡ true → a ≡ true
front_passes true b e = refl
front_passes false b e = absurd (cc)

le_of : (a b : ℕ) → leb a b ≡ true → a ≤ b
le_of a b e = grind (arith, nat_tests)

-- they leave room for what they are charged, and stay within the greatest length
pub writable-room : (k : Limits) (t : Tree) (n p : ℕ) (given : List ℕ) (j : ℕ) → writable k t n p given ≡ Ok j → 0 < j
    → (charge (with_node t n (File (written (content t n) p (take j given)))) ≤ k.keys) × (p + j ≤ 1048576)
writable-room k t n p given j e pos =
    let is = writable-ok k t n p given j e pos in
    let le = writable-le k t n p given j e pos in
    let some : 0 < fits k t n (content t n) p (length given) = omega arith in
    let at : fits_at k t n (content t n) p j ≡ true = ap (fits_at k t n (content t n) p) (sym is) ∙ fits-room k t n (content t n) p (length given) some in
    let zeros = length_written (content t n) p (replicate j 0) ∙ ap (λ m. p + m + (length (content t n) - (p + m))) (length-replicate j 0) in
    let bytes = length_written (content t n) p (take j given) ∙ ap (λ m. p + m + (length (content t n) - (p + m))) (length-take-le j given le) in
    let alike = charge-alike t n (written (content t n) p (take j given)) (written (content t n) p (replicate j 0)) (bytes ∙ sym zeros) in
    let room = le_of _ _ (first_passes (leb (p + j) 1048576) (leb (charge (with_node t n (File (written (content t n) p (replicate j 0))))) k.keys) _ at) in
    let within = le_of _ _ (front_passes (leb (p + j) 1048576) _ at) in
    (omega arith, within)
