-- The nodes that objects show: each inode's, and the bytes of a file from its chunks.
use Rattle.std.proofs.Common.{◌≡◌, ◌≢◌, ℕ, zero, suc, ◌<◌, ◌≤◌, ◌+◌, ◌*◌, ◌/◌, ◌%◌, ◌^◌, ◌==◌, inl, inr, cond, T, refl, sym, ◌∙◌, ap, subst, arith, List, [], length, map, get_or, Option, Some, None}
use Rattle.std.specs.Prelude.{IfSome}
use Rattle.std.specs.List.{range_with_len}
use Rattle.std.specs.Option.{unwrap_or}
use Rattle.std.specs.Ordering.{nat_cmp}
use Rattle.std.specs.Cmp.{nat_cmp_total}
use Rattle.std.specs.FinMap as objects
use Rattle.std.specs.FinMap.{find, put, is_sorted}
use Rattle.std.specs.FinMap.Entries.{is_sorted-put}
use Rattle.std.proofs.lemmas.List.{get_or_past}
use Rattle.std.proofs.lemmas.List.FromFn.{length-map-range_with_len, get_or-map-range_with_len}
use Rattle.kv_device.specs.Objects.{Objects, IsHeld}
use Rattle.kfs_objects.specs.Keys.{inode_key, chunk_key}
use Rattle.kfs_objects.specs.Records.{inode_value}
use Rattle.kfs_model.specs.declared.Node.{Node}
use Rattle.kfs_model.specs.declared.Node.TheVariants.{Dir, File}
use Rattle.kfs_model.specs.Tree.{Limits, greatest_length}
use Rattle.kfs_shows.specs.Shows.{IsPiece}
use Rattle.kfs_shows.proofs.Lookups.{number_put, number_other, decide_number}
use Rattle.kfs_damages.specs.Damages as damages
use Rattle.kfs_damages.specs.Damages.{IsClear}
use Rattle.kfs_damages.proofs.Facts.{Seen, absent, dir, file, order, seen, chunk_is}

-- the byte of a node at a place, zero where no chunk has it
abbrev byte_at : Objects → ℕ → ℕ → ℕ
byte_at m n i = get_or (unwrap_or (objects.get m (chunk_key n (i / 4096))) []) (i % 4096) 0

pub content : Objects → ℕ → ℕ → List ℕ
content m n size = map (byte_at m n) (range_with_len 0 size)

pub length_content : (m : Objects) (n size : ℕ) → length (content m n size) ≡ size
unfolding content
length_content m n size = length-map-range_with_len (byte_at m n) 0 size

content_at : (m : Objects) (n size c i : ℕ) → i < 4096 → 4096 * c + i < size → get_or (content m n size) (4096 * c + i) 0 ≡ get_or (unwrap_or (objects.get m (chunk_key n c)) []) i 0
unfolding content
content_at m n size c i lt within =
    let j = 4096 * c + i in
    let q : j / 4096 ≡ c = omega arith in
    let r : j % 4096 ≡ i = omega arith in
    get_or-map-range_with_len (byte_at m n) 0 size j j 0 within (let z : 0 + j ≡ j = omega arith in z)
    ∙ (λ d. get_or (unwrap_or (objects.get m (chunk_key n (q d))) []) (r d) 0)

module _ (k : Limits) (m : Objects) (held : IsHeld m) (clear : IsClear k m) where
  pub piece_is : (n size c : ℕ) → n < 2 ^ 64 → c < 2 ^ 32 → damages.inode_of m n ≡ Some (2, size) → IsPiece (objects.get m (chunk_key n c)) (content m n size) c
  piece_is n size c lt lc is = record { same = same; within = within (objects.get m (chunk_key n c)) refl }
    where
      fits : (value : List ℕ) → objects.get m (chunk_key n c) ≡ Some value → (0 < length value) × (4096 * c + length value ≤ size)
      fits value e =
          let f = chunk_is k m held clear n c value lt lc e in
          let g : Some (2, f.0) ≡ Some (2, size) = sym f.1 ∙ is in
          let h : f.0 ≡ size = ap (λ (o : Option (ℕ × ℕ)). (unwrap_or o (2, size)).1) g in
          (f.2, subst (λ s. 4096 * c + length value ≤ s) h f.3)

      past : (i : ℕ) → size ≤ 4096 * c + i → (o : Option (List ℕ)) → objects.get m (chunk_key n c) ≡ o → get_or (unwrap_or o []) i 0 ≡ 0
      past i le None e = refl
      past i le (Some value) e = get_or_past value i 0 (let f = (fits value e).1 in omega arith)

      same : (i : ℕ) → i < 4096 → get_or (content m n size) (4096 * c + i) 0 ≡ get_or (unwrap_or (objects.get m (chunk_key n c)) []) i 0
      same i low = elim (order (4096 * c + i) size) [
        | inl inside ↦ content_at m n size c i low inside
        | inr le ↦ get_or_past (content m n size) (4096 * c + i) 0 (let l = length_content m n size in omega arith) ∙ sym (past i le (objects.get m (chunk_key n c)) refl)
      ]

      within : (o : Option (List ℕ)) → objects.get m (chunk_key n c) ≡ o → IfSome o (λ piece. (0 < length piece) × (length piece ≤ 4096) × (4096 * c + length piece ≤ length (content m n size)))
      within None e = tt
      within (Some value) e = let f = fits value e in (f.0, held.sizes (chunk_key n c) value e, let g = f.1 in let l = length_content m n size in omega arith)

-- ---- nodes by their numbers

abbrev made : Objects → ℕ → Option (ℕ × ℕ) → Option Node
made m n None = None
made m n (Some (kind, size)) = Some (cond (kind == 1) Dir (File (content m n size)))

pub node_at : Objects → ℕ → Option Node
node_at m n = made m n (damages.inode_of m n)

abbrev put_some : ℕ → Option Node → List (ℕ × Node) → List (ℕ × Node)
put_some n None es = es
put_some n (Some x) es = put nat_cmp n x es

pub nodes_below : Objects → ℕ → List (ℕ × Node)
nodes_below m zero = []
nodes_below m (suc n) = put_some n (node_at m n) (nodes_below m n)

pub sorted_below : (m : Objects) (n : ℕ) → T (is_sorted nat_cmp (nodes_below m n))
unfolding nodes_below
sorted_below m zero = tt
sorted_below m (suc n) = by (node_at m n) (sorted_below m n)
  where
    by : (o : Option Node) → T (is_sorted nat_cmp (nodes_below m n)) → T (is_sorted nat_cmp (put_some n o (nodes_below m n)))
    by None h = h
    by (Some x) h = is_sorted-put nat_cmp nat_cmp_total n x (nodes_below m n) h

-- none at or above
pub none_above : (m : Objects) (n j : ℕ) → n ≤ j → find nat_cmp j (nodes_below m n) ≡ None
unfolding nodes_below
none_above m zero j le = refl
none_above m (suc n) j le = by (node_at m n) (none_above m n j (omega arith))
  where
    by : (o : Option Node) → find nat_cmp j (nodes_below m n) ≡ None → find nat_cmp j (put_some n o (nodes_below m n)) ≡ None
    by None h = h
    by (Some x) h = number_other j n x (nodes_below m n) (λ e. omega arith) ∙ h

pub found_below : (m : Objects) (n j : ℕ) → j < n → find nat_cmp j (nodes_below m n) ≡ node_at m j
unfolding nodes_below
found_below m zero j lt = absurd (omega arith)
found_below m (suc n) j lt = elim (decide_number j n) [
  | inl same ↦ at same (node_at m n) refl
  | inr d ↦ by d (node_at m n) (found_below m n j (grind arith))
]
  where
    at : j ≡ n → (o : Option Node) → node_at m n ≡ o → find nat_cmp j (put_some n o (nodes_below m n)) ≡ node_at m j
    at same None e = none_above m n j (omega arith) ∙ sym (ap (node_at m) same ∙ e)
    at same (Some x) e = ap (λ i. find nat_cmp i (put nat_cmp n x (nodes_below m n))) same ∙ number_put n x (nodes_below m n) ∙ sym (ap (node_at m) same ∙ e)

    by : j ≢ n → (o : Option Node) → find nat_cmp j (nodes_below m n) ≡ node_at m j → find nat_cmp j (put_some n o (nodes_below m n)) ≡ node_at m j
    by d None h = h
    by d (Some x) h = number_other j n x (nodes_below m n) d ∙ h

-- ---- what a number shows

-- a node and its inode: none, a directory's or a file's
pub data Shown (m : Objects) (next n : ℕ) (node : Option Node) : Type 0 where
  nothing : objects.get m (inode_key n) ≡ None → damages.inode_of m n ≡ None → node ≡ None → Shown m next n node
  directory : objects.get m (inode_key n) ≡ Some (inode_value 1 0) → damages.inode_of m n ≡ Some (1, 0) → node ≡ Some Dir → 1 ≤ n → n < next → Shown m next n node
  content_is : (size : ℕ) → objects.get m (inode_key n) ≡ Some (inode_value 2 size) → damages.inode_of m n ≡ Some (2, size) → node ≡ Some (File (content m n size)) → size ≤ greatest_length → 1 ≤ n → n < next → Shown m next n node

module _ (k : Limits) (m : Objects) (held : IsHeld m) (clear : IsClear k m) where
  abbrev next : ℕ
  next = clear.head.next

  pub shown : (n : ℕ) → n < 2 ^ 64 → Shown m clear.head.next n (find nat_cmp n (nodes_below m clear.head.next))
  unfolding node_at
  shown n lt = by (seen k m held clear n lt)
    where
      by : Seen m next n → Shown m next n (find nat_cmp n (nodes_below m next))
      by (absent e is) = nothing e is (elim (order n next) [ inl less ↦ found_below m next n less ∙ ap (made m n) is | inr le ↦ none_above m next n le ])
      by (dir e is low high) = directory e is (found_below m next n high ∙ ap (made m n) is) low high
      by (file size e is short low high) = content_is size e is (found_below m next n high ∙ ap (made m n) is) short low high
