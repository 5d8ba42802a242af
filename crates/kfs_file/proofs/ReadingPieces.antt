-- What is read chunk by chunk is the file's bytes.
use Rattle.std.proofs.Common.{◌≡◌, ℕ, ◌<◌, ◌≤◌, ◌+◌, ◌-◌, ◌*◌, ◌/◌, ◌%◌, ◌^◌, ◌⊎◌, inl, inr, min, max, sym, ◌∙◌, ap, arith, List, [], ◌++◌, length, get_or, take, drop, Option}
use Rattle.std.specs.Option.{unwrap_or}
use Rattle.std.specs.FinMap as objects
use Rattle.std.proofs.lemmas.List.{length-take-le, length-drop, take_all, get_or-take, get_or-drop}
use Rattle.std.proofs.lemmas.Grind.{same_number_lists}
use Rattle.kv_device.specs.Objects.{Objects}
use Rattle.kfs_objects.specs.Keys.{chunk_key}
use Rattle.kfs_model.specs.Tree.{padded}
use Rattle.kfs_shows.specs.Shows.{IsPiece}
use Rattle.kfs_file.specs.Contents.{ReadsFile, piece_at, piece_in}
use Rattle.kfs_model.proofs.Written.{length_padded, padded_at}
use Rattle.kfs_file.proofs.Pieces.{take_both}

length_piece : (piece : List ℕ) (start count : ℕ) → length (piece_at piece start count) ≡ count
length_piece piece start count = length-take-le count (drop start (padded piece (start + count))) (let a = length-drop start (padded piece (start + count)) in let b = length_padded piece (start + count) in omega arith)

piece_get : (piece : List ℕ) (start count j : ℕ) → j < count → get_or (piece_at piece start count) j 0 ≡ get_or piece (start + j) 0
piece_get piece start count j lt = get_or-take count (drop start (padded piece (start + count))) j 0 lt ∙ get_or-drop start (padded piece (start + count)) j 0 ∙ padded_at piece (start + count) (start + j)

-- some bytes of one chunk are the file's
piece_read : (o : Option (List ℕ)) (bytes : List ℕ) (chunk start count p n : ℕ) → IsPiece o bytes chunk → start + count ≤ 4096 → p + n ≡ 4096 * chunk + start → p + n + count ≤ length bytes → piece_at (unwrap_or o []) start count ≡ take count (drop n (drop p bytes))
piece_read o bytes chunk start count p n piece fits place short =
    let a = length_piece (unwrap_or o []) start count in
    let back = length-drop p bytes in
    let rest = length-drop n (drop p bytes) in
    let b = length-take-le count (drop n (drop p bytes)) (omega arith) in
    same_number_lists _ _ (a ∙ sym b) (λ j lt. (let less : j < count = omega arith in
    piece_get (unwrap_or o []) start count j less ∙ sym (piece.same (start + j) (omega arith))
    ∙ ap (λ k. get_or bytes k 0) (let e : 4096 * chunk + (start + j) ≡ p + (n + j) = omega arith in e)
    ∙ sym (get_or-take count (drop n (drop p bytes)) j 0 less ∙ get_or-drop n (drop p bytes) j 0 ∙ get_or-drop p bytes (n + j) 0)))

pub reads_nothing : (m : Objects) (node size offset n : ℕ) (text : List ℕ) → n ≡ 0 → text ≡ [] → ReadsFile m node size offset n text
reads_nothing m node size offset n text none is = λ bytes long holds. is ∙ ap (λ k. take k (drop offset bytes)) (sym none)

-- one chunk more
pub reads_on : (m : Objects) (node size offset end place count : ℕ) (text more : List ℕ) → ReadsFile m node size offset (place - offset) text → more ≡ text ++ piece_at (piece_in m node (place / 4096)) (place % 4096) count
    → offset ≤ place → place < end → end ≤ size → size ≤ 2 ^ 20 → count ≡ min (4096 - place % 4096) (end - place) → ReadsFile m node size offset (place + count - offset) more
reads_on m node size offset end place count text more reads is from lt short small least = λ bytes long holds.
    let chunk = place / 4096 in
    let low : chunk < 2 ^ 32 = omega arith in
    let n = place - offset in
    let back = length-drop offset bytes in
    is
    ∙ ap (λ xs. xs ++ piece_at (piece_in m node chunk) (place % 4096) count) (reads bytes long holds)
    ∙ ap (λ xs. take n (drop offset bytes) ++ xs) (piece_read (objects.get m (chunk_key node chunk)) bytes chunk (place % 4096) count offset n (holds.pieces chunk low) (omega arith) (omega arith) (omega arith))
    ∙ sym (take_both n count (drop offset bytes) (omega arith))
    ∙ ap (λ k. take k (drop offset bytes)) (let e : n + count ≡ place + count - offset = omega arith in e)

same_take : (n k : ℕ) (xs : List ℕ) → (n ≡ k) ⊎ ((length xs ≤ n) × (length xs ≤ k)) → take n xs ≡ take k xs
same_take n k xs (inl e) = ap (λ i. take i xs) e
same_take n k xs (inr h) = take_all n xs h.0 ∙ sym (take_all k xs h.1)

-- all that there is
pub reads_all : (m : Objects) (node size offset count end place : ℕ) (text : List ℕ) → ReadsFile m node size offset (place - offset) text → end ≡ min size (offset + count) → offset ≤ place → place ≤ max offset end → end ≤ place → ReadsFile m node size offset count text
reads_all m node size offset count end place text reads is from within ends = λ bytes long holds.
    let back = length-drop offset bytes in
    reads bytes long holds ∙ same_take (place - offset) count (drop offset bytes) (by (length bytes) (length (drop offset bytes)) long back)
  where
    by : (l d : ℕ) → l ≡ size → d ≡ l - offset → (place - offset ≡ count) ⊎ ((d ≤ place - offset) × (d ≤ count))
    by l d a b = elim (split size (offset + count)) [ inl le ↦ inr (omega arith, omega arith) | inr more ↦ inl (omega arith) ]
      where
        split : (a b : ℕ) → (a ≤ b) ⊎ (b < a)
        split a b = grind arith
