-- A mount refuses one page of a log.
use Rattle.std.proofs.Common.{◌≡◌, ◌∙◌, ◌⊎◌, ℕ, ◌+◌, ◌<◌, ◌≤◌, cond, eqb, leb, List, [], ◌∷◌, ◌++◌, length, refl, sym, ap, subst, arith, inl, inr, append_assoc}
use Rattle.std.proofs.lemmas.List.{append-nil}
use Rattle.std.proofs.lemmas.Bool.{cases_Bool, leb-true, leb-false}
use Rattle.std.proofs.lemmas.List.Concat.{flat_map-append}
use Rattle.std.specs.declared.cmp.Ordering.{Ordering}
use Rattle.std.specs.declared.cmp.Ordering.TheVariants.{Less, Equal, Greater}
use Rattle.std.specs.Ordering.{nat_cmp, match_ordering}
use Rattle.std.specs.Cmp.Lexicographic.{slice_cmp}
use Rattle.std.specs.BTreeSet.{insert_key}
use Rattle.kv_nand.specs.Flash.{Image}
use Rattle.kssd_entry.specs.declared.entry.Entry.{Entry}
use Rattle.kssd_entry.specs.Spelling.{key_of}
use Rattle.kssd_model.specs.Groups.{LogPage, LogSeen, Ends, Holds, seen, next_place, Path, HasLog, turn_count, logged, key_set, different_keys, WithinBlocks, AreAllowed, IsRefused, IsDamaged}

-- ---- keys

pub key_set_more : (keys : List (List ℕ)) (xs ys : List Entry) → key_set keys (xs ++ ys) ≡ key_set (key_set keys xs) ys
key_set_more keys [] ys = refl
key_set_more keys (e ∷ xs) ys = key_set_more (insert_key (slice_cmp nat_cmp) keys (key_of e)) xs ys

pub logged_more : (xs ys : List LogPage) → logged (xs ++ ys) ≡ logged xs ++ logged ys
logged_more xs ys = flat_map-append (λ (x : LogPage). x.entries) xs ys

insert_grows : (keys : List (List ℕ)) (k : List ℕ) → length keys ≤ length (insert_key (slice_cmp nat_cmp) keys k)
insert_grows [] k = omega arith
insert_grows (x ∷ keys) k = let rest = insert_grows keys k in by (slice_cmp nat_cmp k x) rest
  where
    by : (r : Ordering) → length keys ≤ length (insert_key (slice_cmp nat_cmp) keys k) → length (x ∷ keys) ≤ length (match_ordering r (k ∷ x ∷ keys) (x ∷ keys) (x ∷ insert_key (slice_cmp nat_cmp) keys k))
    by r rest = elim r as (λ v. length (x ∷ keys) ≤ length (match_ordering v (k ∷ x ∷ keys) (x ∷ keys) (x ∷ insert_key (slice_cmp nat_cmp) keys k))) [
      | Less ↦ omega arith
      | Equal ↦ omega arith
      | Greater ↦ omega arith
    ]

key_set_grows : (keys : List (List ℕ)) (es : List Entry) → length keys ≤ length (key_set keys es)
key_set_grows keys [] = omega arith
key_set_grows keys (e ∷ es) = omega (arith, insert_grows keys (key_of e), key_set_grows (insert_key (slice_cmp nat_cmp) keys (key_of e)) es)

pub keys_grow : (xs ys : List LogPage) → different_keys xs ≤ different_keys (xs ++ ys)
keys_grow xs ys =
    let all : key_set [] (logged (xs ++ ys)) ≡ key_set (key_set [] (logged xs)) (logged ys) = ap (key_set []) (logged_more xs ys) ∙ key_set_more [] (logged xs) (logged ys) in
    omega (arith, ap length all, key_set_grows (key_set [] (logged xs)) (logged ys))

-- ---- blocks

within_more : (turns : ℕ) (xs ys : List LogPage) → WithinBlocks turns (xs ++ ys) → WithinBlocks (turns + turn_count xs) ys
within_more turns [] ys h = subst (λ (t : ℕ). WithinBlocks t ys) (let e : turns ≡ turns + 0 = omega arith in e) h
within_more turns (x ∷ xs) ys h =
    subst (λ (t : ℕ). WithinBlocks t ys) (let e : turns + cond (eqb x.flags 2) 1 0 + turn_count xs ≡ turns + turn_count (x ∷ xs) = omega arith in e) (within_more (turns + cond (eqb x.flags 2) 1 0) xs ys h.1)

pub within_one_more : (turns : ℕ) (xs : List LogPage) (x : LogPage) → WithinBlocks turns xs → turns + turn_count xs < 16 → WithinBlocks turns (xs ++ x ∷ [])
within_one_more turns [] x h few = (omega arith, tt)
within_one_more turns (y ∷ xs) x h few = (h.0, within_one_more (turns + cond (eqb y.flags 2) 1 0) xs x h.1 (omega arith))

-- ---- two paths from one place

-- behind the shorter one the longer one goes on
pub record GoesOn (image : Image) (at number : ℕ) (xs ys : List LogPage) (end next : ℕ) : Type 0 where
  pub more : List LogPage
  pub same : ys ≡ xs ++ more
  pub path : Path image at number more end next

holds_same : (x y : LogPage) → Holds x ≡ Holds y → x ≡ y
holds_same x y e = cc

goes_on : (image : Image) (page number : ℕ) (xs ys : List LogPage) (a m b n : ℕ) → Path image page number xs a m → Path image page number ys b n → length xs ≤ length ys → GoesOn image a m xs ys b n
goes_on image page number [] ys a m b n p q le = record { more = ys; same = refl; path = subst (λ (x : ℕ × ℕ). Path image x.0 x.1 ys b n) (λ i. (sym p.0 i, sym p.1 i)) q }
goes_on image page number (x ∷ xs) [] a m b n p q le = absurd (omega arith)
goes_on image page number (x ∷ xs) (y ∷ ys) a m b n p q le =
    let e : y ≡ x = holds_same y x (sym q.0 ∙ p.0) in
    let rest = subst (λ (z : LogPage). Path image (next_place page z) (number + 1) ys b n) e q.1 in
    let g = goes_on image (next_place page x) (number + 1) xs ys a m b n p.1 rest (omega arith) in
    record { more = g.more; same = λ i. e i ∷ g.same i; path = g.path }

-- a path that a mount takes doesn't go over the page that it refuses
not_over : (image : Image) (at number : ℕ) (xs more : List LogPage) (x : LogPage) → seen at number (image at) ≡ Holds x → AreAllowed (xs ++ x ∷ more) → IsRefused (turn_count xs) xs (seen at number (image at)) → ⊥
not_over image at number xs more x h allowed cause =
    let c = subst (λ (s : LogSeen). IsRefused (turn_count xs) xs s) h cause in
    elim c [
      | inl turns ↦ let w = within_more 0 xs (x ∷ more) allowed.blocks in absurd (omega (arith, w.0))
      | inr keys ↦ let e : (xs ++ x ∷ []) ++ more ≡ xs ++ x ∷ more = append_assoc xs (x ∷ []) more in absurd (omega (arith, keys, keys_grow (xs ++ x ∷ []) more, ap different_keys e, allowed.keys))
    ]

refused_isn't_passed : (image : Image) (page number a : ℕ) (d : IsDamaged image page number a) (ys : List LogPage) (b n : ℕ) → Path image page number ys b n → AreAllowed ys → length d.pages ≤ length ys → (a ≡ b) × (d.next ≡ n)
refused_isn't_passed image page number a d ys b n path allowed le =
    let g = goes_on image page number d.pages ys a d.next b n d.path path le in
    by g.more g.same g.path
  where
    by : (more : List LogPage) → ys ≡ d.pages ++ more → Path image a d.next more b n → (a ≡ b) × (d.next ≡ n)
    by [] e p = (sym p.0, sym p.1)
    by (x ∷ more) e p = absurd (not_over image a d.next d.pages more x p.0 (subst AreAllowed e allowed) d.cause)

le_or : (m n : ℕ) → (m ≤ n) ⊎ (n < m)
le_or m n = elim (cases_Bool (leb m n)) [ inl e ↦ inl (leb-true m n e) | inr e ↦ inr (omega (arith, leb-false m n e)) ]

pub one_damage : (image : Image) (page number first second : ℕ) → IsDamaged image page number first → IsDamaged image page number second → first ≡ second
one_damage image page number first second d f = elim (le_or (length d.pages) (length f.pages)) [
  | inl le ↦ (refused_isn't_passed image page number first d f.pages second f.next f.path f.before le).0
  | inr le ↦ sym (refused_isn't_passed image page number second f d.pages first d.next d.path d.before (omega arith)).0
]

pub no_damage : (image : Image) (page number at : ℕ) (groups : List (List Entry)) (rest : List Entry) (turns end next : ℕ) → (log : HasLog image page number groups rest turns end next) → AreAllowed log.pages → IsDamaged image page number at → ⊥
no_damage image page number at groups rest turns end next log allowed d = elim (le_or (length d.pages) (length log.pages)) [
  | inl le ↦
      let e = refused_isn't_passed image page number at d log.pages end next log.path allowed le in
      let ends : seen at d.next (image at) ≡ Ends = (λ i. seen (e.0 i) (e.1 i) (image (e.0 i))) ∙ log.ends in
      subst (λ (s : LogSeen). IsRefused (turn_count d.pages) d.pages s) ends d.cause
  | inr le ↦
      let g = goes_on image page number log.pages d.pages end next at d.next log.path d.path (omega arith) in
      by g.more g.same g.path le
]
  where
    by : (more : List LogPage) → d.pages ≡ log.pages ++ more → Path image end next more at d.next → length log.pages < length d.pages → ⊥
    by [] e p lt = absurd (omega (arith, ap length (e ∙ append-nil log.pages)))
    by (x ∷ more) e p lt = absurd (let h : Ends ≡ Holds x = sym log.ends ∙ p.0 in cc)
