-- The pieces of a file after a write.
use Rattle.std.proofs.Common.{◌≡◌, ◌≢◌, ℕ, ◌<◌, ◌≤◌, ◌+◌, ◌-◌, ◌*◌, ◌^◌, ◌⊎◌, inl, inr, refl, sym, ◌∙◌, ap, subst, arith, List, [], ◌∷◌, ◌++◌, ◌/◌, ◌%◌, zero, suc, min, take, drop, length, get_or, IfSome, Option, Some, None}
use Rattle.std.specs.Option.{unwrap_or}
use Rattle.std.specs.FinMap as objects
use Rattle.std.proofs.lemmas.List.{length-append, length-take-le, length-drop, take_all, drop_all, append-nil}
use Rattle.kfs_objects.specs.Keys.{chunk_key}
use Rattle.kfs_model.specs.Tree.{written}
use Rattle.kfs_shows.specs.Shows.{IsPiece}
use Rattle.kfs_shows.proofs.Lookups.{key_put, key_other, decide_number}
use Rattle.kfs_shows.proofs.KeysApart.{same_chunk}
use Rattle.kfs_tx.specs.Tx.{Tx, seen, put_in}
use Rattle.kfs_tx.proofs.Seeing.{ready_put, seen_put}
use Rattle.kfs_file.specs.Contents.{HoldsFile, WritesFile, piece_in, rewritten, with_piece}
use Rattle.kfs_model.proofs.Written.{nat_split, length_written, written_before, written_within, written_after, written_more}

-- where the piece ends
ends : (o : Option (List ℕ)) (b : List ℕ) (c : ℕ) → IsPiece o b c → (length (unwrap_or o []) ≡ 0) ⊎ (4096 * c + length (unwrap_or o []) ≤ length b)
ends None b c piece = inl refl
ends (Some p) b c piece = let w = piece.within in inr (w.2)

-- no piece is longer than a chunk
pub short_piece : (o : Option (List ℕ)) (b : List ℕ) (c : ℕ) → IsPiece o b c → length (unwrap_or o []) ≤ 4096
short_piece None b c piece = omega arith
short_piece (Some p) b c piece = let w = piece.within in w.1

pub piece_written : (o : Option (List ℕ)) (b : List ℕ) (c s : ℕ) (d : List ℕ) → IsPiece o b c → s + length d ≤ 4096 → 0 < length d → IsPiece (Some (written (unwrap_or o []) s d)) (written b (4096 * c + s) d) c
piece_written o b c s d piece fits some =
    let old = unwrap_or o [] in
    let lo = length_written old s d in
    let lb = length_written b (4096 * c + s) d in
    let short = short_piece o b c piece in
    record {
      same = λ i lt. elim (nat_split i s) [
        | inl before ↦ written_before b (4096 * c + s) d (4096 * c + i) (omega arith) ∙ piece.same i lt ∙ sym (written_before old s d i before)
        | inr from ↦ elim (nat_split i (s + length d)) [
          | inl inside ↦ written_within b (4096 * c + s) d (4096 * c + i) (omega arith) (omega arith) ∙ ap (λ k. get_or d k 0) (let e : 4096 * c + i - (4096 * c + s) ≡ i - s = omega arith in e) ∙ sym (written_within old s d i from inside)
          | inr after ↦ written_after b (4096 * c + s) d (4096 * c + i) (omega arith) ∙ piece.same i lt ∙ sym (written_after old s d i after)
        ]
      ];
      within = (omega arith, omega arith, elim (ends o b c piece) [ inl none ↦ omega arith | inr le ↦ omega arith ]);
    }

-- a chunk that is written whole is what was given
pub whole_chunk : (old d : List ℕ) → length old ≤ 4096 → length d ≡ 4096 → written old 0 d ≡ d
whole_chunk old d short full = let e : drop (0 + length d) old ≡ [] = drop_all (0 + length d) old (omega arith) in ap (λ rest. d ++ rest) e ∙ append-nil d

pub piece_rewritten : (o : Option (List ℕ)) (b : List ℕ) (c s : ℕ) (d : List ℕ) → IsPiece o b c → s + length d ≤ 4096 → 0 < length d → IsPiece (Some (rewritten (unwrap_or o []) s d)) (written b (4096 * c + s) d) c
piece_rewritten o b c s d piece fits some =
    let part = piece_written o b c s d piece fits some in
    subst (λ bytes. IsPiece (Some bytes) (written b (4096 * c + s) d) c) (same_piece (unwrap_or o []) s d (short_piece o b c piece) fits) part
  where
    same_piece : (old : List ℕ) (s : ℕ) (d : List ℕ) → length old ≤ 4096 → s + length d ≤ 4096 → written old s d ≡ rewritten old s d
    same_piece old s d short fits = elim (decide_number (length d) 4096) [
      | inl full ↦ let at : s ≡ 0 = omega arith in subst (λ k. written old k d ≡ rewritten old k d) (sym at) (whole_chunk old d short full ∙ grind (arith, full))
      | inr part ↦ grind (arith, part)
    ]

-- what lies within a file lies within a longer one
pub within_longer : (o : Option (List ℕ)) (n m k : ℕ) → n ≤ m → IfSome o (λ piece. (0 < length piece) × (length piece ≤ 4096) × (4096 * k + length piece ≤ n)) → IfSome o (λ piece. (0 < length piece) × (length piece ≤ 4096) × (4096 * k + length piece ≤ m))
within_longer None n m k le h = tt
within_longer (Some p) n m k le h = (h.0, h.1, let w = h.2 in omega arith)

pub piece_other : (o : Option (List ℕ)) (b : List ℕ) (k c s : ℕ) (d : List ℕ) → IsPiece o b k → k ≢ c → s + length d ≤ 4096 → IsPiece o (written b (4096 * c + s) d) k
piece_other o b k c s d piece other fits =
    let lb = length_written b (4096 * c + s) d in
    record {
      same = λ i lt. elim (nat_split k c) [
        | inl less ↦ written_before b (4096 * c + s) d (4096 * k + i) (omega arith) ∙ piece.same i lt
        | inr le ↦ let more : c < k = apart k c le other in written_after b (4096 * c + s) d (4096 * k + i) (omega arith) ∙ piece.same i lt
      ];
      within = within_longer o (length b) (length (written b (4096 * c + s) d)) k (omega arith) piece.within;
    }
  where
    apart : (k c : ℕ) → c ≤ k → k ≢ c → c < k
    apart k c le other = grind arith

nothing_written : (o : Option (List ℕ)) (b : List ℕ) (p k : ℕ) → IsPiece o b k → IsPiece o (written b p []) k
nothing_written o b p k piece =
    let lb = length_written b p [] in
    record {
      same = λ i lt. elim (nat_split (4096 * k + i) p) [
        | inl before ↦ written_before b p [] (4096 * k + i) before ∙ piece.same i lt
        | inr from ↦ written_after b p [] (4096 * k + i) (omega arith) ∙ piece.same i lt
      ];
      within = within_longer o (length b) (length (written b p [])) k (omega arith) piece.within;
    }

-- before the first piece is written
pub writes_nothing : (r : Tx) (node p : ℕ) → WritesFile r node p [] r
writes_nothing r node p = record {
  ready = λ h. h;
  holds = λ bytes ready lt fits held. record { pieces = λ k lk. nothing_written (objects.get (seen r) (chunk_key node k)) bytes p k (held.pieces k lk) };
  others = λ q ready d. refl;
  same = refl;
}

-- one piece more
pub writes_more : (old mid new : Tx) (node p c s : ℕ) (xs ys : List ℕ) → WritesFile old node p xs mid → new ≡ with_piece mid node c s ys → c < 2 ^ 32 → 4096 * c + s ≡ p + length xs → s + length ys ≤ 4096 → 0 < length ys → p + length (xs ++ ys) ≡ p + length xs + length ys
    → WritesFile old node p (xs ++ ys) new
writes_more old mid new node p c s xs ys before is low place fits some long =
    let key = chunk_key node c in
    let value = rewritten (piece_in (seen mid) node c) s ys in
    subst (WritesFile old node p (xs ++ ys)) (sym is) (record {
      ready = λ h. ready_put mid key value (before.ready h);
      holds = λ bytes ready lt room held.
          let was = before.holds bytes ready lt (omega arith) held in
          let whole = written bytes p xs in
          let at : (k : ℕ) → IsPiece (objects.get (seen mid) (chunk_key node k)) whole k → k < 2 ^ 32 → IsPiece (objects.get (objects.insert (seen mid) key value) (chunk_key node k)) (written whole (4096 * c + s) ys) k =
          λ k piece lk. elim (decide_number k c) [
            | inl same ↦
                subst (λ (j : ℕ). IsPiece (objects.get (objects.insert (seen mid) key value) (chunk_key node j)) (written whole (4096 * c + s) ys) j) (sym same)
                (subst (λ (o : Option (List ℕ)). IsPiece o (written whole (4096 * c + s) ys) c) (sym (key_put (seen mid) key value))
                (piece_rewritten (objects.get (seen mid) key) whole c s ys (was.pieces c low) fits some))
            | inr other ↦
                subst (λ (o : Option (List ℕ)). IsPiece o (written whole (4096 * c + s) ys) k) (sym (key_other (seen mid) key value (chunk_key node k) (λ e. other (same_chunk node node k c lt lt lk low e).1)))
                (piece_other (objects.get (seen mid) (chunk_key node k)) whole k c s ys piece other fits)
          ] in
          subst (λ b. HoldsFile (seen (put_in mid key value)) node b) (ap (λ q. written whole q ys) place ∙ written_more bytes p xs ys)
          (subst (λ m. HoldsFile m node (written whole (4096 * c + s) ys)) (sym (seen_put mid key value (before.ready ready)))
          (record { pieces = λ k lk. at k (was.pieces k lk) lk }));
      others = λ q ready d. ap (λ m. objects.get m q) (seen_put mid key value (before.ready ready)) ∙ key_other (seen mid) key value q (d c low) ∙ before.others q ready d;
      same = ap (λ (r : Tx). record r { machine = record r.machine { pending = (put_in mid key value).machine.pending } }) before.same;
    })

pub take_both : (n k : ℕ) (xs : List ℕ) → n ≤ length xs → take (n + k) xs ≡ take n xs ++ take k (drop n xs)
take_both zero k xs le = ap (λ i. take i xs) (let e : 0 + k ≡ k = omega arith in e)
take_both (suc n) k [] le = absurd (omega arith)
take_both (suc n) k (x ∷ xs) le = ap (λ i. take i (x ∷ xs)) (let e : suc n + k ≡ suc (n + k) = omega arith in e) ∙ ap (λ t. x ∷ t) (take_both n k xs (omega arith))

pub rest_length : (n : ℕ) (xs : List ℕ) → length (take (length xs - n) (drop n xs)) ≡ length xs - n
rest_length n xs = let back = length-drop n xs in ap length (take_all (length xs - n) (drop n xs) (omega arith)) ∙ back

-- the same as the loop has it
pub writes_on : (old mid new : Tx) (node p done count : ℕ) (bytes : List ℕ) → WritesFile old node p (take done bytes) mid → new ≡ with_piece mid node ((p + done) / 4096) ((p + done) % 4096) (take count (take (length bytes - done) (drop done bytes)))
    → p + length bytes ≤ 2 ^ 20 → done < length bytes → count ≡ min (4096 - (p + done) % 4096) (length (take (length bytes - done) (drop done bytes))) → WritesFile old node p (take (done + count) bytes) new
writes_on old mid new node p done count bytes before is short lt least =
    let front : length (take done bytes) ≡ done = length-take-le done bytes (omega arith) in
    let back : length (drop done bytes) ≡ length bytes - done = length-drop done bytes in
    let rest = rest_length done bytes in
    let piece : length (take count (drop done bytes)) ≡ count = length-take-le count (drop done bytes) (omega arith) in
    subst (λ xs. WritesFile old node p xs new) (sym (take_both done count bytes (omega arith)))
    (writes_more old mid new node p ((p + done) / 4096) ((p + done) % 4096) (take done bytes) (take count (drop done bytes)) before (is ∙ ap (λ xs. with_piece mid node ((p + done) / 4096) ((p + done) % 4096) (take count xs)) (take_all (length bytes - done) (drop done bytes) (omega arith)))
    (omega arith) (omega arith) (omega arith) (omega arith)
    (let s = length-append (take done bytes) (take count (drop done bytes)) in omega arith))
