-- A file's chunks after it is cut short or followed by zeros.
use Rattle.std.proofs.Common.{◌≡◌, ℕ, ◌<◌, ◌≤◌, ◌+◌, ◌*◌, ◌/◌, ◌%◌, ◌^◌, ◌⊎◌, inl, inr, true, false, Bool, cond, refl, sym, ◌∙◌, ap, subst, arith, List, [], length, get_or, take, nat_lt, IfSome, Option, Some, None}
use Rattle.std.specs.Option.{unwrap_or}
use Rattle.std.specs.FinMap as objects
use Rattle.std.proofs.lemmas.Bool.Decides.{nat_tests}
use Rattle.std.proofs.lemmas.List.{length-take-le, get_or-take, get_or_past}
use Rattle.kfs_objects.specs.Keys.{chunk_key}
use Rattle.kfs_model.specs.Tree.{padded, resized}
use Rattle.kfs_shows.specs.Shows.{IsPiece}
use Rattle.kfs_shows.proofs.Lookups.{key_put, key_other, decide_number}
use Rattle.kfs_shows.proofs.KeysApart.{same_chunk}
use Rattle.kfs_tx.specs.Tx.{Tx, IsReady, changed_keys, seen, put_in}
use Rattle.kfs_tx.proofs.Seeing.{ready_put, seen_put, keys_put}
use Rattle.kfs_file.specs.Contents.{ResizesFile, CutsFile, RemovesChunks, piece_in, with_cut}
use Rattle.kfs_model.proofs.Written.{nat_split, length_padded, padded_at}
use Rattle.kfs_file.proofs.Pieces.{short_piece, within_longer}

pub length_resized : (b : List ℕ) (n : ℕ) → length (resized b n) ≡ n
length_resized b n = length-take-le n (padded b n) (let h = length_padded b n in omega arith)

resized_before : (b : List ℕ) (n j : ℕ) → j < n → get_or (resized b n) j 0 ≡ get_or b j 0
resized_before b n j lt = get_or-take n (padded b n) j 0 lt ∙ padded_at b n j

resized_after : (b : List ℕ) (n j : ℕ) → n ≤ j → get_or (resized b n) j 0 ≡ 0
resized_after b n j le = get_or_past (resized b n) j 0 (let h = length_resized b n in omega arith)

piece_longer : (o : Option (List ℕ)) (b : List ℕ) (c n : ℕ) → IsPiece o b c → length b ≤ n → IsPiece o (resized b n) c
piece_longer o b c n piece le = record {
  same = λ i lt. elim (nat_split (4096 * c + i) n) [
    | inl before ↦ resized_before b n (4096 * c + i) before ∙ piece.same i lt
    | inr after ↦ resized_after b n (4096 * c + i) after ∙ sym (get_or_past b (4096 * c + i) 0 (omega arith)) ∙ piece.same i lt
  ];
  within = within_longer o (length b) (length (resized b n)) c (let h = length_resized b n in omega arith) piece.within;
}

inside : (o : Option (List ℕ)) (m l c k : ℕ) → IfSome o (λ piece. (0 < length piece) × (length piece ≤ 4096) × (4096 * c + length piece ≤ m)) → length (unwrap_or o []) ≤ k → 4096 * c + k ≤ l → IfSome o (λ piece. (0 < length piece) × (length piece ≤ 4096) × (4096 * c + length piece ≤ l))
inside None m l c k h short le = tt
inside (Some p) m l c k h short le = (h.0, h.1, omega arith)

-- an object that ends before the new length stays
piece_stays : (o : Option (List ℕ)) (b : List ℕ) (c n k : ℕ) → IsPiece o b c → length (unwrap_or o []) ≤ k → 4096 * c + k ≤ n → (n ≡ 4096 * c + k) ⊎ (k ≡ 4096) → IsPiece o (resized b n) c
piece_stays o b c n k piece short le ends = record {
  same = λ i lt. elim (nat_split (4096 * c + i) n) [
    | inl before ↦ resized_before b n (4096 * c + i) before ∙ piece.same i lt
    | inr after ↦ resized_after b n (4096 * c + i) after ∙ sym (get_or_past (unwrap_or o []) i 0 (elim ends [ inl e ↦ omega arith | inr e ↦ omega arith ]))
  ];
  within = inside o (length b) (length (resized b n)) c k piece.within short (let h = length_resized b n in omega arith);
}

-- an object that reaches past it is cut
piece_cut : (o : Option (List ℕ)) (b : List ℕ) (c n k : ℕ) → IsPiece o b c → n ≡ 4096 * c + k → 0 < k → k ≤ 4096 → k < length (unwrap_or o []) → IsPiece (Some (take k (unwrap_or o []))) (resized b n) c
piece_cut o b c n k piece is some least more =
    let long = length-take-le k (unwrap_or o []) (omega arith) in
    let whole = length_resized b n in
    record {
      same = λ i lt. elim (nat_split i k) [
        | inl before ↦ resized_before b n (4096 * c + i) (omega arith) ∙ piece.same i lt ∙ sym (get_or-take k (unwrap_or o []) i 0 before)
        | inr after ↦ resized_after b n (4096 * c + i) (omega arith) ∙ sym (get_or_past (take k (unwrap_or o [])) i 0 (omega arith))
      ];
      within = (omega arith, omega arith, omega arith);
    }

piece_gone : (b : List ℕ) (c n : ℕ) → n ≤ 4096 * c → IsPiece None (resized b n) c
piece_gone b c n le = record { same = λ i lt. resized_after b n (4096 * c + i) (omega arith) ∙ sym (get_or_past [] i 0 (omega arith)); within = tt }

piece_absent : (o : Option (List ℕ)) (b : List ℕ) (c : ℕ) → IsPiece o b c → length b ≤ 4096 * c → o ≡ None
piece_absent None b c piece le = refl
piece_absent (Some p) b c piece le = let w = piece.within in let x = w.0 in let y = w.2 in absurd (omega arith)

pub resizes_longer : (r : Tx) (node size n : ℕ) → size ≤ n → ResizesFile r node size n r
resizes_longer r node size n le = record {
  ready = λ h. h;
  holds = λ b ready lt long held. record { pieces = λ c lc. piece_longer (objects.get (seen r) (chunk_key node c)) b c n (held.pieces c lc) (omega arith) };
  others = λ q ready d. refl;
  same = refl;
}

-- where the new length is a chunk's end nothing is cut
pub cuts_nothing : (r : Tx) (node n : ℕ) → n % 4096 ≡ 0 → CutsFile r node n r
cuts_nothing r node n even = record {
  ready = λ h. h;
  pieces = λ b c ready lt lc less piece. piece_stays (objects.get (seen r) (chunk_key node c)) b c n 4096 piece (short_piece _ b c piece) (omega arith) (inr refl);
  others = λ q ready d. refl;
  same = refl;
}

pub cuts_piece : (r new : Tx) (node n : ℕ) → n < 2 ^ 32 → (n % 4096 ≡ 0 → ⊥) → new ≡ with_cut r node (n / 4096) (n % 4096) → CutsFile r node n new
cuts_piece r new node n low odd is = subst (CutsFile r node n) (sym is) (by (nat_lt k (length piece)) refl)
  where
    c0 : ℕ
    c0 = n / 4096

    k : ℕ
    k = n % 4096

    piece : List ℕ
    piece = piece_in (seen r) node (n / 4096)

    by : (b : Bool) → nat_lt (n % 4096) (length (piece_in (seen r) node (n / 4096))) ≡ b → CutsFile r node n (cond b (put_in r (chunk_key node (n / 4096)) (take (n % 4096) (piece_in (seen r) node (n / 4096)))) r)
    by false e = record {
      ready = λ h. h;
      pieces = λ b c ready lt lc less p. elim (decide_number c (n / 4096)) [
        | inl at ↦ piece_stays (objects.get (seen r) (chunk_key node c)) b c n (n % 4096) p
            (subst (λ (j : ℕ). length (piece_in (seen r) node j) ≤ n % 4096) (sym at) (let h : length (piece_in (seen r) node (n / 4096)) ≤ n % 4096 = grind (arith, nat_tests) in h)) (omega arith) (inl (omega arith))
        | inr other ↦ piece_stays (objects.get (seen r) (chunk_key node c)) b c n 4096 p (short_piece _ b c p) (omega arith) (inr refl)
      ];
      others = λ q ready d. refl;
      same = refl;
    }
    by true e =
        let key = chunk_key node (n / 4096) in
        let value = take (n % 4096) (piece_in (seen r) node (n / 4096)) in
        let more : n % 4096 < length (piece_in (seen r) node (n / 4096)) = grind (arith, nat_tests) in
        let some : 0 < n % 4096 = grind arith in
        record {
          ready = λ h. ready_put r key value h;
          pieces = λ b c ready lt lc less p. elim (decide_number c (n / 4096)) [
            | inl at ↦ subst (λ (j : ℕ). IsPiece (objects.get (seen (put_in r key value)) (chunk_key node j)) (resized b n) j) (sym at)
                (subst (λ (o : Option (List ℕ)). IsPiece o (resized b n) (n / 4096)) (sym (ap (λ m. objects.get m key) (seen_put r key value ready) ∙ key_put (seen r) key value))
                (piece_cut (objects.get (seen r) key) b (n / 4096) n (n % 4096) (subst (λ (j : ℕ). IsPiece (objects.get (seen r) (chunk_key node j)) b j) at p) (omega arith) some (omega arith) more))
            | inr other ↦ subst (λ (o : Option (List ℕ)). IsPiece o (resized b n) c)
                (sym (ap (λ m. objects.get m (chunk_key node c)) (seen_put r key value ready) ∙ key_other (seen r) key value (chunk_key node c) (λ s. other (same_chunk node node c (n / 4096) lt lt lc (omega arith) s).1)))
                (piece_stays (objects.get (seen r) (chunk_key node c)) b c n 4096 p (short_piece _ b c p) (omega arith) (inr refl))
          ];
          others = λ q ready d. ap (λ m. objects.get m q) (seen_put r key value ready) ∙ key_other (seen r) key value q (d (n / 4096) (omega arith));
          same = refl;
        }

pub resizes_shorter : (old mid new : Tx) (node size n : ℕ) → n ≤ size → size ≤ 2 ^ 20 → CutsFile old node n mid → RemovesChunks mid node ((n + 4095) / 4096) ((size + 4095) / 4096) new → ResizesFile old node size n new
resizes_shorter old mid new node size n le small cut gone = record {
  ready = λ h. gone.ready (cut.ready h);
  holds = λ b ready lt long held. record {
    pieces = λ c lc.
        let object = chunk_key node c in
        let piece = held.pieces c lc in
        elim (nat_split (4096 * c) n) [
          | inl less ↦ subst (λ (o : Option (List ℕ)). IsPiece o (resized b n) c) (sym (gone.others object (cut.ready ready) (λ d from to s. let same = (same_chunk node node c d lt lt lc (omega arith) s).1 in omega arith)))
              (cut.pieces b c ready lt lc less piece)
          | inr past ↦ subst (λ (o : Option (List ℕ)). IsPiece o (resized b n) c) (sym (elim (nat_split c ((size + 4095) / 4096)) [
            | inl under ↦ gone.gone c (cut.ready ready) (omega arith) under
            | inr over ↦ gone.others object (cut.ready ready) (λ d from to s. let same = (same_chunk node node c d lt lt lc (omega arith) s).1 in omega arith)
                ∙ cut.others object ready (λ d less s. let same = (same_chunk node node c d lt lt lc (omega arith) s).1 in omega arith)
                ∙ piece_absent _ b c piece (omega arith)
          ])) (piece_gone b c n past)
        ];
  };
  others = λ q ready d. gone.others q (cut.ready ready) (λ c from to. d c (omega arith)) ∙ cut.others q ready (λ c less. d c (omega arith));
  same = (let e = gone.same in let f = cut.same in e ∙ ap (λ (r : Tx). record r { machine = record r.machine { pending = new.machine.pending } }) f);
}

-- at most one key more is changed
pub cut_keys : (r new : Tx) (node c k : ℕ) → new ≡ with_cut r node c k → IsReady r → changed_keys new ≤ changed_keys r + 1
cut_keys r new node c k is ready = subst (λ (x : Tx). changed_keys x ≤ changed_keys r + 1) (sym is) (by (nat_lt k (length (piece_in (seen r) node c))))
  where
    by : (b : Bool) → changed_keys (cond b (put_in r (chunk_key node c) (take k (piece_in (seen r) node c))) r) ≤ changed_keys r + 1
    by true = keys_put r (chunk_key node c) (take k (piece_in (seen r) node c)) ready
    by false = omega arith
