-- The room for other contents of a file, by numbers.
use Rattle.std.proofs.Common.{◌≡◌, ℕ, zero, suc, ◌<◌, ◌≤◌, ◌+◌, ◌-◌, ◌*◌, ◌/◌, ◌&&◌, ◌⊎◌, inl, inr, Bool, true, false, cond, T, List, [], length, replicate, Option, Some, None, refl, sym, ap, subst, ◌∙◌, arith, leb, min}
use Rattle.std.specs.Prelude.{IsSome}
use Rattle.std.specs.Ordering.{nat_cmp}
use Rattle.std.specs.FinMap.{is_sorted}
use Rattle.std.proofs.lemmas.Bool.Decides.{nat_tests}
use Rattle.kfs_model.specs.declared.Node.{Node}
use Rattle.kfs_model.specs.declared.Node.TheVariants.{Dir, File}
use Rattle.kfs_model.specs.Tree.{Tree, Limits, charge, chunks, chunks_for, chunks_of, with_node, has_room, written, fits, fits_at, node_of}
use Rattle.kfs_model.specs.Step.{content}
use Rattle.kfs_model.proofs.Fits.{replaced, fits_is, size_written}

-- the chunks of a node are those of its content
pub chunks_of-content : (t : Tree) (n : ℕ) (old : Node) → node_of t n ≡ Some old → chunks_for (length (content t n)) ≡ chunks_of old
chunks_of-content t n Dir e = rw e
chunks_of-content t n (File bytes) e = rw e

-- the chunks and the charge with another node in the place of an old one
pub chunks-with_node : (t : Tree) (n : ℕ) (old node : Node) → T (is_sorted nat_cmp t.nodes) → node_of t n ≡ Some old → chunks (with_node t n node) + chunks_of old ≡ chunks t + chunks_of node
chunks-with_node t n old node sorted e = (replaced (λ e. chunks_of e.1) n old node t.nodes sorted e).0

pub charge-with_node : (t : Tree) (n : ℕ) (old node : Node) → T (is_sorted nat_cmp t.nodes) → node_of t n ≡ Some old → charge (with_node t n node) + chunks_of old ≡ charge t + chunks_of node
charge-with_node t n old node sorted e =
    let same = (replaced (λ e. chunks_of e.1) n old node t.nodes sorted e).1 in
    let more = chunks-with_node t n old node sorted e in
    omega arith

pub chunks_of-le : (t : Tree) (n : ℕ) (old : Node) → T (is_sorted nat_cmp t.nodes) → node_of t n ≡ Some old → chunks_of old ≤ chunks t
chunks_of-le t n old sorted e = let less = chunks-with_node t n old Dir sorted e in omega arith

tests : (c h before after K V x y : ℕ) → c + before ≡ x + after → h + before ≡ y + after → before ≤ y → before ≤ x → (leb c K && leb h V) ≡ (leb (x - before + after) K && leb (y - before + after) V)
tests c h before after K V x y e f le le' =
    let a : c ≡ x - before + after = omega arith in
    let b : h ≡ y - before + after = omega arith in
    λ i. leb (a i) K && leb (b i) V

-- the room for other bytes of a file
pub has_room-with_node : (k : Limits) (t : Tree) (n : ℕ) (old : Node) (bytes : List ℕ) → T (is_sorted nat_cmp t.nodes) → node_of t n ≡ Some old
    → has_room k (with_node t n (File bytes)) ≡ (leb (charge t - chunks_of old + chunks_for (length bytes)) k.keys && leb (chunks t - chunks_of old + chunks_for (length bytes)) k.pages)
has_room-with_node k t n old bytes sorted e =
    let le = chunks_of-le t n old sorted e in
    tests (charge (with_node t n (File bytes))) (chunks (with_node t n (File bytes))) (chunks_of old) (chunks_for (length bytes)) k.keys k.pages (charge t) (chunks t) (charge-with_node t n old (File bytes) sorted e) (chunks-with_node t n old (File bytes) sorted e) le (omega arith)

-- so many bytes pass
passes : (c h K V own len p i top : ℕ) → own ≡ (len + 4095) / 4096 → 0 < i → own ≤ top → top ≤ K - (c - own) → top ≤ V - (h - own) → p + i ≤ 1048576 → p + i ≤ top * 4096
    → (c - own + (p + i + (len - (p + i)) + 4095) / 4096 ≤ K) × (h - own + (p + i + (len - (p + i)) + 4095) / 4096 ≤ V)
passes c h K V own len p i top o pos le a b g t =
    let l : (p + i + (len - (p + i)) + 4095) / 4096 ≤ top = omega arith in
    let m : 0 < (p + i + (len - (p + i)) + 4095) / 4096 = omega arith in
    (omega (arith, l, m, a), omega (arith, l, m, b))

-- more bytes than these don't
exceeds : (c h K V own len p i top : ℕ) → own ≡ (len + 4095) / 4096 → 0 < i → (top ≡ K - (c - own)) ⊎ (top ≡ V - (h - own)) → (top < own) ⊎ (top * 4096 < p + i)
    → (K < c - own + (p + i + (len - (p + i)) + 4095) / 4096) ⊎ (V < h - own + (p + i + (len - (p + i)) + 4095) / 4096)
exceeds c h K V own len p i top o pos which more =
    let l : top < (p + i + (len - (p + i)) + 4095) / 4096 = elim more [ inl less ↦ omega arith | inr past ↦ omega arith ] in
    elim which [ inl is ↦ inl (omega (arith, l, is)) | inr is ↦ inr (omega (arith, l, is)) ]

either : (a b : ℕ) → (min a b ≡ a) ⊎ (min a b ≡ b)
either a b = grind arith

all_pass : (a b c d e f : ℕ) → a ≤ b → c ≤ d → e ≤ f → (leb a b && (leb c d && leb e f)) ≡ true
all_pass a b c d e f x y z = grind (arith, nat_tests)

one_fails : (a b c d e f : ℕ) → (b < a) ⊎ ((d < c) ⊎ (f < e)) → (leb a b && (leb c d && leb e f)) ≡ false
one_fails a b c d e f (inl x) = grind (arith, nat_tests)
one_fails a b c d e f (inr (inl x)) = grind (arith, nat_tests)
one_fails a b c d e f (inr (inr x)) = grind (arith, nat_tests)

-- the greatest number of chunks that the file may have
abbrev pub top_chunks : Limits → Tree → ℕ → ℕ
top_chunks k t own = min (k.keys - (charge t - own)) (k.pages - (chunks t - own))

fits_at-is : (k : Limits) (t : Tree) (n : ℕ) (old : Node) (b : List ℕ) (p i : ℕ) → T (is_sorted nat_cmp t.nodes) → node_of t n ≡ Some old
    → fits_at k t n b p i ≡ (leb (p + i) 1048576 && (leb (charge t - chunks_of old + (p + i + (length b - (p + i)) + 4095) / 4096) k.keys && leb (chunks t - chunks_of old + (p + i + (length b - (p + i)) + 4095) / 4096) k.pages))
fits_at-is k t n old b p i sorted e =
    ap (λ r. leb (p + i) 1048576 && r) (has_room-with_node k t n old (written b p (replicate i 0)) sorted e)
    ∙ ap (λ s. leb (p + i) 1048576 && (leb (charge t - chunks_of old + chunks_for s) k.keys && leb (chunks t - chunks_of old + chunks_for s) k.pages)) (size_written b p i)

-- nothing fits where the file has more chunks than it may
pub fits-none : (k : Limits) (t : Tree) (n : ℕ) (old : Node) (p m : ℕ) → T (is_sorted nat_cmp t.nodes) → node_of t n ≡ Some old → top_chunks k t (chunks_of old) < chunks_of old → fits k t n (content t n) p m ≡ 0
fits-none k t n old p m sorted e less =
    let own = sym (chunks_of-content t n old e) in
    fits_is k t n (content t n) p m 0 (omega arith) (inl refl) (λ i lt le. fits_at-is k t n old (content t n) p i sorted e
    ∙ one_fails _ _ _ _ _ _ (inr (exceeds (charge t) (chunks t) k.keys k.pages (chunks_of old) (length (content t n)) p i (top_chunks k t (chunks_of old)) own lt (either _ _) (inl less))))

past_end : (p i top j m : ℕ) → j ≡ min m (min top 256 * 4096 - p) → j < i → i ≤ m → (1048576 < p + i) ⊎ (top * 4096 < p + i)
past_end p i top j m e lt le = grind arith

within_end : (p top j m : ℕ) → j ≡ min m (min top 256 * 4096 - p) → 0 < j → (p + j ≤ 1048576) × (p + j ≤ top * 4096)
within_end p top j m e pos = (omega arith, omega arith)

zero_or : (j : ℕ) → (j ≡ 0) ⊎ (0 < j)
zero_or j = grind arith

-- the bytes up to the end of the last chunk that the file may have
pub fits-some : (k : Limits) (t : Tree) (n : ℕ) (old : Node) (p m j : ℕ) → T (is_sorted nat_cmp t.nodes) → node_of t n ≡ Some old → chunks_of old ≤ top_chunks k t (chunks_of old) → j ≡ min m (min (top_chunks k t (chunks_of old)) 256 * 4096 - p) → fits k t n (content t n) p m ≡ j
fits-some k t n old p m j sorted e room is =
    let own = sym (chunks_of-content t n old e) in
    let top = top_chunks k t (chunks_of old) in
    fits_is k t n (content t n) p m j (omega arith)
    (elim (zero_or j) [
      | inl none ↦ inl none
      | inr some ↦ inr (
          let w = within_end p top j m is some in
          let s = passes (charge t) (chunks t) k.keys k.pages (chunks_of old) (length (content t n)) p j top own some room (omega arith) (omega arith) w.0 w.1 in
          fits_at-is k t n old (content t n) p j sorted e ∙ all_pass _ _ _ _ _ _ w.0 s.0 s.1)
    ])
    (λ i lt le. fits_at-is k t n old (content t n) p i sorted e
    ∙ one_fails _ _ _ _ _ _ (elim (past_end p i top j m is lt le) [
      | inl far ↦ inl far
      | inr past ↦ inr (exceeds (charge t) (chunks t) k.keys k.pages (chunks_of old) (length (content t n)) p i top own (omega arith) (either _ _) (inr past))
    ]))

-- bytes that fit keep the room
pub fits-room : (k : Limits) (t : Tree) (n : ℕ) (b : List ℕ) (p m : ℕ) → 0 < fits k t n b p m → fits_at k t n b p (fits k t n b p m) ≡ true
fits-room k t n b p zero pos = absurd (omega arith)
fits-room k t n b p (suc m) pos = by (fits_at k t n b p (suc m)) refl (λ h. fits-room k t n b p m h) pos
  where
    by : (f : Bool) → fits_at k t n b p (suc m) ≡ f → (0 < fits k t n b p m → fits_at k t n b p (fits k t n b p m) ≡ true) → 0 < cond f (suc m) (fits k t n b p m) → fits_at k t n b p (cond f (suc m) (fits k t n b p m)) ≡ true
    by true e rest pos = e
    by false e rest pos = rest pos

pub fits-le : (k : Limits) (t : Tree) (n : ℕ) (b : List ℕ) (p m : ℕ) → fits k t n b p m ≤ m
fits-le k t n b p zero = omega arith
fits-le k t n b p (suc m) =
    let rest = fits-le k t n b p m in
    elim (fits_at k t n b p (suc m)) as (λ f. cond f (suc m) (fits k t n b p m) ≤ suc m) [ true ↦ omega arith | false ↦ omega arith ]

some_of : {X : Type 0} (o : Option X) → IsSome o → (x : X) × (o ≡ Some x)
some_of None h = absurd (cc)
some_of (Some x) h = (x, refl)

-- the node that is there, whose chunks were counted
pub counted_node : (t : Tree) (n b : ℕ) → IsSome (node_of t n) → b ≡ chunks_for (length (content t n)) → (old : Node) × (node_of t n ≡ Some old) × (chunks_of old ≡ b)
counted_node t n b there is = let w = some_of (node_of t n) there in (w.0, w.1, sym (chunks_of-content t n w.0 w.1) ∙ sym is)

pub counted-le : (t : Tree) (n b : ℕ) → T (is_sorted nat_cmp t.nodes) → IsSome (node_of t n) → b ≡ chunks_for (length (content t n)) → (b ≤ chunks t) × (b ≤ charge t)
counted-le t n b sorted there is =
    let w = counted_node t n b there is in
    let le = chunks_of-le t n w.0 sorted w.1 in
    let same = w.2 in
    (omega arith, omega arith)

pub fits-above : (k : Limits) (t : Tree) (n p m b : ℕ) → T (is_sorted nat_cmp t.nodes) → IsSome (node_of t n) → b ≡ chunks_for (length (content t n)) → top_chunks k t b < b → fits k t n (content t n) p m ≡ 0
fits-above k t n p m b sorted there is less =
    let w = counted_node t n b there is in
    fits-none k t n w.0 p m sorted w.1 (subst (λ o. top_chunks k t o < o) (sym w.2) less)

pub fits-within : (k : Limits) (t : Tree) (n p m b j : ℕ) → T (is_sorted nat_cmp t.nodes) → IsSome (node_of t n) → b ≡ chunks_for (length (content t n)) → b ≤ top_chunks k t b → j ≡ min m (min (top_chunks k t b) 256 * 4096 - p) → fits k t n (content t n) p m ≡ j
fits-within k t n p m b j sorted there is room j-is =
    let w = counted_node t n b there is in
    fits-some k t n w.0 p m j sorted w.1 (subst (λ o. o ≤ top_chunks k t o) (sym w.2) room) (j-is ∙ ap (λ o. min m (min (top_chunks k t o) 256 * 4096 - p)) (sym w.2))

pub has_room-counted : (k : Limits) (t : Tree) (n b a : ℕ) (bytes : List ℕ) → T (is_sorted nat_cmp t.nodes) → IsSome (node_of t n) → b ≡ chunks_for (length (content t n)) → a ≡ chunks_for (length bytes)
    → has_room k (with_node t n (File bytes)) ≡ (leb (charge t - b + a) k.keys && leb (chunks t - b + a) k.pages)
has_room-counted k t n b a bytes sorted there is a-is =
    let w = counted_node t n b there is in
    has_room-with_node k t n w.0 bytes sorted w.1 ∙ (λ i. leb (charge t - w.2 i + sym a-is i) k.keys && leb (chunks t - w.2 i + sym a-is i) k.pages)

-- the count of the chunks after a change
pub chunks-counted : (t : Tree) (n b a : ℕ) (bytes : List ℕ) → T (is_sorted nat_cmp t.nodes) → IsSome (node_of t n) → b ≡ chunks_for (length (content t n)) → a ≡ chunks_for (length bytes) → chunks t + a - b ≡ chunks (with_node t n (File bytes))
chunks-counted t n b a bytes sorted there is a-is =
    let w = counted_node t n b there is in
    let e = chunks-with_node t n w.0 (File bytes) sorted w.1 in
    let same = w.2 in
    omega arith

pub leb_true : (a b : ℕ) → a ≤ b → leb a b ≡ true
leb_true a b le = grind (arith, nat_tests)

pub leb_false : (a b : ℕ) → b < a → leb a b ≡ false
leb_false a b lt = grind (arith, nat_tests)

pub and_true : (x y : Bool) → x ≡ true → (x && y) ≡ y
and_true true y e = refl
and_true false y e = absurd (cc)

pub and_false : (x y : Bool) → x ≡ false → (x && y) ≡ x
and_false true y e = absurd (cc)
and_false false y e = refl

pub charge-counted : (t : Tree) (n b a : ℕ) (bytes : List ℕ) → T (is_sorted nat_cmp t.nodes) → IsSome (node_of t n) → b ≡ chunks_for (length (content t n)) → a ≡ chunks_for (length bytes) → charge (with_node t n (File bytes)) + b ≡ charge t + a
charge-counted t n b a bytes sorted there is a-is =
    let w = counted_node t n b there is in
    let e = charge-with_node t n w.0 (File bytes) sorted w.1 in
    let same = w.2 in
    omega arith

-- a file without bytes takes no more than before
pub charge-emptied : (t : Tree) (n : ℕ) → T (is_sorted nat_cmp t.nodes) → IsSome (node_of t n) → charge (with_node t n (File [])) ≤ charge t
charge-emptied t n sorted there =
    let w = some_of (node_of t n) there in
    let e = charge-with_node t n w.0 (File []) sorted w.1 in
    omega arith
