-- What is read is spelled so, and what can be decided of keys, names and kinds.
use Rattle.std.proofs.Common.{◌≡◌, ◌≢◌, ℕ, suc, ◌<◌, ◌≤◌, ◌-◌, ◌^◌, ◌&&◌, ◌||◌, ◌==◌, ◌⊎◌, inl, inr, true, false, cond, Bool, refl, sym, ◌∙◌, ap, subst, arith, List, [], ◌∷◌, ◌++◌, length, take, drop, Option, Some, None}
use Rattle.std.specs.Prelude.{All, slice_get}
use Rattle.std.specs.Int.{w32, w64, from_be_bytes}
use Rattle.std.specs.FinMap.{find}
use Rattle.std.specs.Ordering.{is_eq}
use Rattle.std.specs.declared.cmp.Ordering.{Ordering}
use Rattle.std.specs.declared.cmp.Ordering.TheVariants.{Less, Equal, Greater}
use Rattle.std.proofs.lemmas.Bool.Decides.{nat_tests}
use Rattle.std.proofs.lemmas.List.{take-append-drop, length-take-le, length-drop}
use Rattle.std.proofs.lemmas.List.Elements.{All-nil, All-cons, All-head, All-tail}
use Rattle.std.proofs.lemmas.Nat.{be_bytes_8}
use Rattle.std.proofs.lemmas.Option.{same_Some}
use Rattle.kv_device.specs.Bytes.{bytes_cmp}
use Rattle.kfs_objects.specs.Keys.{be64, be32, super_key, inode_key, entry_key, chunk_key, orphan_key, IsObjectKey, is_super, is_inode, is_entry, is_chunk, is_orphan}
use Rattle.kfs_objects.specs.Records.{super_value, inode_value, entry_value, read_super, read_inode, read_entry, IsInode}
use Rattle.kfs_objects.proofs.KeyLaws.{take_be64, drop_be64, back64, back32}
use Rattle.kfs_objects.proofs.Spelling.{Fit, fit_drop, fit_take}
use Rattle.kfs_model.specs.Tree.{Name, IsShort, IsName}
use Rattle.kfs_shows.proofs.Lookups.{decide_number, decide_bytes, same_bytes}
use Rattle.kfs_damages.proofs.Sorted.{left, right}

-- ---- numbers in bytes

spelled : (bs : List ℕ) → Fit bs → length bs ≡ 8 → bs ≡ be64 (from_be_bytes w64 bs)
unfolding be64
spelled bs fit long = sym (be_bytes_8 bs (from_be_bytes w64 bs) long fit refl)

low : (bs : List ℕ) → Fit bs → from_be_bytes w64 bs < 2 ^ 64
low bs fit =
    let a = fit 0 in
    let b = fit 1 in
    let c = fit 2 in
    let d = fit 3 in
    let e = fit 4 in
    let f = fit 5 in
    let g = fit 6 in
    let h = fit 7 in
    omega arith

-- ---- values that read

taken : {A : Type 0} (b : Bool) (x y : A) → cond b (Some x) None ≡ Some y → (b ≡ true) × (x ≡ y)
taken true x y e = (refl, same_Some x y e)
taken false x y e = absurd (cc)

either : (a b : Bool) → (a || b) ≡ true → (a ≡ true) ⊎ (b ≡ true)
either true b e = inl refl
either false b e = inr e

same_number : (a b : ℕ) → (a == b) ≡ true → a ≡ b
same_number a b e = grind (arith, nat_tests)

tail_fit : (b : ℕ) (bs : List ℕ) → Fit (b ∷ bs) → Fit bs
tail_fit b bs fit = fit_drop 1 (b ∷ bs) fit

pub entry_read : (value : List ℕ) (node : ℕ) → Fit value → read_entry value ≡ Some node → (value ≡ entry_value node) × (node < 2 ^ 64)
entry_read [] node fit e = absurd (cc)
entry_read (version ∷ bytes) node fit e =
    let t = taken _ _ _ e in
    let first = same_number version 1 (left _ _ t.0) in
    let long = same_number (length bytes) 8 (right _ _ t.0) in
    let is = spelled bytes (tail_fit version bytes fit) long in
    ((λ i. first i ∷ (is ∙ ap be64 t.1) i), subst (λ n. n < 2 ^ 64) t.1 (low bytes (tail_fit version bytes fit)))

pub inode_read : (value : List ℕ) (kind size : ℕ) → Fit value → read_inode value ≡ Some (kind, size) → (value ≡ inode_value kind size) × IsInode kind size
inode_read [] kind size fit e = absurd (cc)
inode_read (version ∷ []) kind size fit e = absurd (cc)
inode_read (version ∷ byte ∷ bytes) kind size fit e =
    let fits = tail_fit byte bytes (tail_fit version (byte ∷ bytes) fit) in
    let t = taken _ _ _ e in
    let front = left _ _ t.0 in
    let first = same_number version 1 (left _ _ front) in
    let long = same_number (length bytes) 8 (right _ _ front) in
    let is = spelled bytes fits long in
    let kind_is : byte ≡ kind = ap (λ (p : ℕ × ℕ). p.0) t.1 in
    let size_is : from_be_bytes w64 bytes ≡ size = ap (λ (p : ℕ × ℕ). p.1) t.1 in
    ((λ i. first i ∷ kind_is i ∷ (is ∙ ap be64 size_is) i), subst (λ (p : ℕ × ℕ). IsInode p.0 p.1) t.1 (form byte (from_be_bytes w64 bytes) (either _ _ (right _ _ t.0))))
  where
    form : (k n : ℕ) → ((k == 2) ≡ true) ⊎ (((k == 1) && (n == 0)) ≡ true) → IsInode k n
    form k n (inl f) = inl (same_number k 2 f)
    form k n (inr f) = inr (same_number k 1 (left _ _ f), same_number n 0 (right _ _ f))

pub super_read : (value : List ℕ) (changes next : ℕ) → Fit value → read_super value ≡ Some (changes, next) → value ≡ super_value changes next
super_read [] changes next fit e = absurd (cc)
super_read (version ∷ bytes) changes next fit e =
    let fits = tail_fit version bytes fit in
    let t = taken _ _ _ e in
    let front = left _ _ (left _ _ t.0) in
    let first = same_number version 1 (left _ _ front) in
    let long = same_number (length bytes) 16 (right _ _ front) in
    let a = spelled (take 8 bytes) (fit_take 8 bytes fits) (length-take-le 8 bytes (omega arith)) in
    let b = spelled (drop 8 bytes) (fit_drop 8 bytes fits) (length-drop 8 bytes ∙ (let l : length bytes - 8 ≡ 8 = omega arith in l)) in
    let one : from_be_bytes w64 (take 8 bytes) ≡ changes = ap (λ (p : ℕ × ℕ). p.0) t.1 in
    let two : from_be_bytes w64 (drop 8 bytes) ≡ next = ap (λ (p : ℕ × ℕ). p.1) t.1 in
    let whole : bytes ≡ be64 changes ++ be64 next = sym (take-append-drop 8 bytes) ∙ (λ i. (a ∙ ap be64 one) i ++ (b ∙ ap be64 two) i) in
    λ i. first i ∷ whole i

-- ---- what can be decided

order : (n k : ℕ) → (n < k) ⊎ (k ≤ n)
order n k = grind arith

inode_or : (key : List ℕ) → ((n : ℕ) × (n < 2 ^ 64) × (key ≡ inode_key n)) ⊎ ((n : ℕ) → n < 2 ^ 64 → key ≢ inode_key n)
inode_or key =
    let n = from_be_bytes w64 (drop 1 key) in
    let is : (j : ℕ) → j < 2 ^ 64 → key ≡ inode_key j → n ≡ j = λ j lt e. ap (λ k. from_be_bytes w64 (drop 1 k)) e ∙ back64 j lt in
    elim (order n (2 ^ 64)) [
      | inl lt ↦ elim (decide_bytes key (inode_key n)) [ inl e ↦ inl (n, lt, e) | inr d ↦ inr (λ j low e. d (e ∙ ap inode_key (sym (is j low e)))) ]
      | inr le ↦ inr (λ j low e. let same = is j low e in absurd (omega arith))
    ]

orphan_or : (key : List ℕ) → ((n : ℕ) × (n < 2 ^ 64) × (key ≡ orphan_key n)) ⊎ ((n : ℕ) → n < 2 ^ 64 → key ≢ orphan_key n)
orphan_or key =
    let n = from_be_bytes w64 (drop 1 key) in
    let is : (j : ℕ) → j < 2 ^ 64 → key ≡ orphan_key j → n ≡ j = λ j lt e. ap (λ k. from_be_bytes w64 (drop 1 k)) e ∙ back64 j lt in
    elim (order n (2 ^ 64)) [
      | inl lt ↦ elim (decide_bytes key (orphan_key n)) [ inl e ↦ inl (n, lt, e) | inr d ↦ inr (λ j low e. d (e ∙ ap orphan_key (sym (is j low e)))) ]
      | inr le ↦ inr (λ j low e. let same = is j low e in absurd (omega arith))
    ]

decide_short : (name : List ℕ) → IsShort name ⊎ (IsShort name → ⊥)
decide_short name = elim (order 0 (length name)) [
  | inl some ↦ elim (order 255 (length name)) [ inl more ↦ inr (λ short. let s = short.1 in absurd (omega arith)) | inr few ↦ inl (some, few) ]
  | inr nothing ↦ inr (λ short. let s = short.0 in absurd (omega arith))
]

entry_or : (key : List ℕ) → ((p : ℕ) × (x : List ℕ) × (p < 2 ^ 64) × IsShort x × (key ≡ entry_key p x)) ⊎ ((p : ℕ) (x : List ℕ) → p < 2 ^ 64 → IsShort x → key ≢ entry_key p x)
entry_or key =
    let p = from_be_bytes w64 (take 8 (drop 1 key)) in
    let x = drop 8 (drop 1 key) in
    let p_is : (q : ℕ) (y : List ℕ) → q < 2 ^ 64 → key ≡ entry_key q y → p ≡ q = λ q y lt e. ap (λ k. from_be_bytes w64 (take 8 (drop 1 k))) e ∙ ap (from_be_bytes w64) (take_be64 q y) ∙ back64 q lt in
    let x_is : (q : ℕ) (y : List ℕ) → key ≡ entry_key q y → x ≡ y = λ q y e. ap (λ k. drop 8 (drop 1 k)) e ∙ drop_be64 q y in
    elim (order p (2 ^ 64)) [
      | inl lt ↦ elim (decide_short x) [
        | inl short ↦ elim (decide_bytes key (entry_key p x)) [
          | inl e ↦ inl (p, x, lt, short, e)
          | inr d ↦ inr (λ q y low s e. d (e ∙ (λ i. entry_key (sym (p_is q y low e) i) (sym (x_is q y e) i))))
        ]
        | inr long ↦ inr (λ q y low s e. long (subst IsShort (sym (x_is q y e)) s))
      ]
      | inr le ↦ inr (λ q y low s e. let same = p_is q y low e in absurd (omega arith))
    ]

chunk_or : (key : List ℕ) → ((n : ℕ) × (c : ℕ) × (n < 2 ^ 64) × (c < 2 ^ 32) × (key ≡ chunk_key n c)) ⊎ ((n c : ℕ) → n < 2 ^ 64 → c < 2 ^ 32 → key ≢ chunk_key n c)
chunk_or key =
    let n = from_be_bytes w64 (take 8 (drop 1 key)) in
    let c = from_be_bytes w32 (drop 8 (drop 1 key)) in
    let n_is : (j d : ℕ) → j < 2 ^ 64 → key ≡ chunk_key j d → n ≡ j = λ j d lt e. ap (λ k. from_be_bytes w64 (take 8 (drop 1 k))) e ∙ ap (from_be_bytes w64) (take_be64 j (be32 d)) ∙ back64 j lt in
    let c_is : (j d : ℕ) → d < 2 ^ 32 → key ≡ chunk_key j d → c ≡ d = λ j d lt e. ap (λ k. from_be_bytes w32 (drop 8 (drop 1 k))) e ∙ ap (from_be_bytes w32) (drop_be64 j (be32 d)) ∙ back32 d lt in
    elim (order n (2 ^ 64)) [
      | inl lt ↦ elim (order c (2 ^ 32)) [
        | inl lc ↦ elim (decide_bytes key (chunk_key n c)) [
          | inl e ↦ inl (n, c, lt, lc, e)
          | inr d ↦ inr (λ j b low few e. d (e ∙ (λ i. chunk_key (sym (n_is j b low e) i) (sym (c_is j b few e) i))))
        ]
        | inr le ↦ inr (λ j b low few e. let same = c_is j b few e in absurd (omega arith))
      ]
      | inr le ↦ inr (λ j b low few e. let same = n_is j b low e in absurd (omega arith))
    ]

no_form : (key : List ℕ) → key ≢ super_key → ((n : ℕ) → n < 2 ^ 64 → key ≢ inode_key n) → ((p : ℕ) (x : List ℕ) → p < 2 ^ 64 → IsShort x → key ≢ entry_key p x) → ((n c : ℕ) → n < 2 ^ 64 → c < 2 ^ 32 → key ≢ chunk_key n c) → ((n : ℕ) → n < 2 ^ 64 → key ≢ orphan_key n)
    → (p : List ℕ) → key ≡ p → IsObjectKey p → ⊥
no_form key a b c d f p e is_super = a e
no_form key a b c d f p e (is_inode n lt) = b n lt e
no_form key a b c d f p e (is_entry n x lt short) = c n x lt short e
no_form key a b c d f p e (is_chunk n k lt lc) = d n k lt lc e
no_form key a b c d f p e (is_orphan n lt) = f n lt e

pub decide_key : (key : List ℕ) → IsObjectKey key ⊎ (IsObjectKey key → ⊥)
decide_key key = by (decide_bytes key super_key) (inode_or key) (entry_or key) (chunk_or key) (orphan_or key)
  where
    by : (key ≡ super_key) ⊎ (key ≢ super_key)
        → ((n : ℕ) × (n < 2 ^ 64) × (key ≡ inode_key n)) ⊎ ((n : ℕ) → n < 2 ^ 64 → key ≢ inode_key n)
        → ((p : ℕ) × (x : List ℕ) × (p < 2 ^ 64) × IsShort x × (key ≡ entry_key p x)) ⊎ ((p : ℕ) (x : List ℕ) → p < 2 ^ 64 → IsShort x → key ≢ entry_key p x)
        → ((n : ℕ) × (c : ℕ) × (n < 2 ^ 64) × (c < 2 ^ 32) × (key ≡ chunk_key n c)) ⊎ ((n c : ℕ) → n < 2 ^ 64 → c < 2 ^ 32 → key ≢ chunk_key n c)
        → ((n : ℕ) × (n < 2 ^ 64) × (key ≡ orphan_key n)) ⊎ ((n : ℕ) → n < 2 ^ 64 → key ≢ orphan_key n)
        → IsObjectKey key ⊎ (IsObjectKey key → ⊥)
    by (inl e) b c d f = inl (subst IsObjectKey (sym e) is_super)
    by (inr a) (inl h) c d f = inl (subst IsObjectKey (sym h.2) (is_inode h.0 h.1))
    by (inr a) (inr b) (inl h) d f = inl (subst IsObjectKey (sym h.4) (is_entry h.0 h.1 h.2 h.3))
    by (inr a) (inr b) (inr c) (inl h) f = inl (subst IsObjectKey (sym h.4) (is_chunk h.0 h.1 h.2 h.3))
    by (inr a) (inr b) (inr c) (inr d) (inl h) = inl (subst IsObjectKey (sym h.2) (is_orphan h.0 h.1))
    by (inr a) (inr b) (inr c) (inr d) (inr f) = inr (no_form key a b c d f key refl)

no_slash : (xs : List ℕ) → All (λ b. b ≢ 47) xs ⊎ (All (λ b. b ≢ 47) xs → ⊥)
no_slash [] = inl (All-nil (λ b. b ≢ 47))
no_slash (x ∷ xs) = elim (decide_number x 47) [
  | inl e ↦ inr (λ all. All-head (λ b. b ≢ 47) x xs all e)
  | inr d ↦ elim (no_slash xs) [ inl all ↦ inl (All-cons (λ b. b ≢ 47) x xs d all) | inr isnt ↦ inr (λ all. isnt (All-tail (λ b. b ≢ 47) x xs all)) ]
]

pub decide_name : (name : Name) → IsShort name → IsName name ⊎ (IsName name → ⊥)
decide_name name short = elim (no_slash name) [
  | inl all ↦ elim (decide_bytes name (46 ∷ [])) [
    | inl e ↦ inr (λ is. is.dot e)
    | inr dot ↦ elim (decide_bytes name (46 ∷ 46 ∷ [])) [
      | inl e ↦ inr (λ is. is.dots e)
      | inr dots ↦ inl (record { short = short; slashes = all; dot = dot; dots = dots })
    ]
  ]
  | inr isnt ↦ inr (λ is. isnt is.slashes)
]

pub decide_dir : (o : Option (ℕ × ℕ)) → (o ≡ Some (1, 0)) ⊎ (o ≢ Some (1, 0))
decide_dir None = inr (λ e. absurd (cc))
decide_dir (Some p) = elim (decide_number p.0 1) [
  | inl one ↦ elim (decide_number p.1 0) [
    | inl zero ↦ inl (λ i. Some (one i, zero i))
    | inr d ↦ inr (λ e. d (ap (λ (q : ℕ × ℕ). q.1) (same_Some _ _ e)))
  ]
  | inr d ↦ inr (λ e. d (ap (λ (q : ℕ × ℕ). q.0) (same_Some _ _ e)))
]

-- what is found stands at a place
pub found_stands : (es : List (List ℕ × List ℕ)) (key value : List ℕ) → find bytes_cmp key es ≡ Some value → (i : ℕ) × (i < length es) × (slice_get es i ≡ Some (key, value))
found_stands [] key value e = absurd (cc)
found_stands (x ∷ es) key value e = by (bytes_cmp key x.0) refl (found_stands es key value) e
  where
    by : (r : Ordering) → bytes_cmp key x.0 ≡ r → (find bytes_cmp key es ≡ Some value → (i : ℕ) × (i < length es) × (slice_get es i ≡ Some (key, value))) → cond (is_eq r) (Some x.1) (find bytes_cmp key es) ≡ Some value → (i : ℕ) × (i < length (x ∷ es)) × (slice_get (x ∷ es) i ≡ Some (key, value))
    by Less r rest e = let f = rest e in (suc f.0, let lt = f.1 in omega arith, f.2)
    by Greater r rest e = let f = rest e in (suc f.0, let lt = f.1 in omega arith, f.2)
    by Equal r rest e = (0, omega arith, λ i. Some (sym (same_bytes key x.0 r) i, same_Some _ _ e i))
