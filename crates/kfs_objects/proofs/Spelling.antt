-- Bytes that are read spell what was read.
use Rattle.std.proofs.Common.{◌≡◌, ℕ, zero, suc, subst, lit<, None, ◌+◌, ◌<◌, ◌≤◌, ◌^◌, List, [], ◌∷◌, ◌++◌, length, get_or, take, drop, refl, sym, ◌∙◌, ap, arith}
use Rattle.std.specs.Int.{w32, w64, from_be_bytes}
use Rattle.std.proofs.lemmas.Nat.{be_bytes_8, be_bytes_4}
use Rattle.std.proofs.lemmas.List.{take-append-drop, take_all, length-take-le, length-drop, get_or-drop}
use Rattle.kfs_objects.specs.Keys.{be64, be32}
use Rattle.kfs_objects.specs.Records.{read_super, read_inode, read_entry, IsInode, SpellsSuper, SpellsInode, SpellsEntry}
use Rattle.kfs_objects.proofs.RecordLaws.{read_super_value, read_inode_value, read_entry_value}

-- each byte of a slice is below 256
abbrev pub Fit : List ℕ → Type 0
Fit bs = (i : ℕ) → get_or bs i 0 < 256

pub fit_drop : (n : ℕ) (bs : List ℕ) → Fit bs → Fit (drop n bs)
fit_drop n bs h i = subst (λ x. x < 256) (sym (get_or-drop n bs i 0)) (h (n + i))

pub fit_take : (n : ℕ) (bs : List ℕ) → Fit bs → Fit (take n bs)
fit_take zero bs h i = lit< tt
fit_take (suc n) [] h i = lit< tt
fit_take (suc n) (b ∷ bs) h zero = h 0
fit_take (suc n) (b ∷ bs) h (suc i) = fit_take n bs (λ j. h (suc j)) i

pub split : (bs : List ℕ) (h : ℕ) → 0 < length bs → get_or bs 0 0 ≡ h → bs ≡ h ∷ drop 1 bs
split [] h lt e = absurd (omega arith)
split (b ∷ bs) h lt e = ap (λ x. x ∷ bs) e

pub spelled64 : (bs : List ℕ) (place : ℕ) → Fit bs → place + 8 ≤ length bs → be64 (from_be_bytes w64 (take 8 (drop place bs))) ≡ take 8 (drop place bs)
unfolding be64
spelled64 bs place fit lt = be_bytes_8 (take 8 (drop place bs)) _ (length-take-le 8 (drop place bs) (omega (arith, length-drop place bs))) (fit_take 8 _ (fit_drop place bs fit)) refl

pub spelled32 : (bs : List ℕ) (place : ℕ) → Fit bs → place + 4 ≤ length bs → be32 (from_be_bytes w32 (take 4 (drop place bs))) ≡ take 4 (drop place bs)
unfolding be32
spelled32 bs place fit lt = be_bytes_4 (take 4 (drop place bs)) _ (length-take-le 4 (drop place bs) (omega (arith, length-drop place bs))) (fit_take 4 _ (fit_drop place bs fit)) refl

-- the bytes from 1 on are a number
pub tail64 : (bs : List ℕ) → Fit bs → length bs ≡ 9 → drop 1 bs ≡ be64 (from_be_bytes w64 (take 8 (drop 1 bs)))
tail64 bs fit long = sym (spelled64 bs 1 fit (omega arith) ∙ take_all 8 (drop 1 bs) (omega (arith, length-drop 1 bs)))

-- the bytes from 1 on are a number and a rest
pub front64 : (bs : List ℕ) → Fit bs → 9 ≤ length bs → drop 1 bs ≡ be64 (from_be_bytes w64 (take 8 (drop 1 bs))) ++ drop 9 bs
front64 bs fit long = sym (ap (λ xs. xs ++ drop 9 bs) (spelled64 bs 1 fit (omega arith)) ∙ ap (λ xs. take 8 (drop 1 bs) ++ xs) (sym (drop_nine bs)) ∙ take-append-drop 8 (drop 1 bs))
  where
    drop_nine : (bs : List ℕ) → drop 8 (drop 1 bs) ≡ drop 9 bs
    drop_nine [] = refl
    drop_nine (b ∷ bs) = refl

-- the same at a number that was read
pub is64 : (bs : List ℕ) (place n : ℕ) → Fit bs → place + 8 ≡ length bs → n ≡ from_be_bytes w64 (take 8 (drop place bs)) → drop place bs ≡ be64 n
is64 bs place n fit long is = sym (ap be64 is ∙ spelled64 bs place fit (omega arith) ∙ take_all 8 (drop place bs) (omega (arith, length-drop place bs)))

pub is32 : (bs : List ℕ) (place n : ℕ) → Fit bs → place + 4 ≡ length bs → n ≡ from_be_bytes w32 (take 4 (drop place bs)) → drop place bs ≡ be32 n
is32 bs place n fit long is = sym (ap be32 is ∙ spelled32 bs place fit (omega arith) ∙ take_all 4 (drop place bs) (omega (arith, length-drop place bs)))

pub super_spelled : (bs : List ℕ) (c n : ℕ) → Fit bs → length bs ≡ 17 → get_or bs 0 0 ≡ 1 → c ≡ from_be_bytes w64 (take 8 (drop 1 bs)) → n ≡ from_be_bytes w64 (take 8 (drop 9 bs)) → c < 2 ^ 63 → n < 2 ^ 63 → SpellsSuper bs c n
super_spelled bs c n fit long head is_c is_n low_c low_n = record {
  changes_low = low_c;
  next_low = low_n;
  same = split bs 1 (omega arith) head ∙ ap (λ xs. 1 ∷ xs) (front64 bs fit (omega arith) ∙ (let e = sym is_c in let f = is64 bs 9 n fit (omega arith) is_n in λ i. be64 (e i) ++ f i));
}

pub inode_spelled : (bs : List ℕ) (k n : ℕ) → Fit bs → length bs ≡ 10 → get_or bs 0 0 ≡ 1 → k ≡ get_or bs 1 0 → n ≡ from_be_bytes w64 (take 8 (drop 2 bs)) → IsInode k n → n < 2 ^ 64 → SpellsInode bs k n
inode_spelled [] k n fit long head is_k is_n form low = absurd (omega arith)
inode_spelled (b ∷ []) k n fit long head is_k is_n form low = absurd (omega arith)
inode_spelled (b ∷ x ∷ bs) k n fit long head is_k is_n form low = record {
  form = form;
  low = low;
  same = (let rest = is64 (b ∷ x ∷ bs) 2 n fit (omega arith) is_n in let kind = sym is_k in λ i. head i ∷ kind i ∷ rest i);
}

pub entry_spelled : (bs : List ℕ) (n : ℕ) → Fit bs → length bs ≡ 9 → get_or bs 0 0 ≡ 1 → n ≡ from_be_bytes w64 (take 8 (drop 1 bs)) → n < 2 ^ 64 → SpellsEntry bs n
entry_spelled bs n fit long head is low = record {
  low = low;
  same = split bs 1 (omega arith) head ∙ ap (λ xs. 1 ∷ xs) (is64 bs 1 n fit (omega arith) is);
}

-- what doesn't read spells nothing
pub no_super : (bs : List ℕ) → read_super bs ≡ None → (c n : ℕ) → SpellsSuper bs c n → ⊥
no_super bs none c n s = let e = read_super_value c n s.changes_low s.next_low in let f = ap read_super s.same in absurd (cc)

pub no_inode : (bs : List ℕ) → read_inode bs ≡ None → (k n : ℕ) → SpellsInode bs k n → ⊥
no_inode bs none k n s = let e = read_inode_value k n s.form s.low in let f = ap read_inode s.same in absurd (cc)

pub no_entry : (bs : List ℕ) → read_entry bs ≡ None → (n : ℕ) → SpellsEntry bs n → ⊥
no_entry bs none n s = let e = read_entry_value n s.low in let f = ap read_entry s.same in absurd (cc)
