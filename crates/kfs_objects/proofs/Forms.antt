-- Which keys are of which form.
use Rattle.std.proofs.Common.{◌≡◌, ℕ, ◌<◌, ◌≤◌, ◌^◌, ◌⊎◌, inl, inr, List, [], ◌∷◌, ◌++◌, length, get_or, take, drop, refl, sym, ◌∙◌, ap, arith, subst}
use Rattle.std.specs.Int.{w32, w64, from_be_bytes}
use Rattle.std.proofs.lemmas.List.{length-append, length-drop}
use Rattle.kfs_objects.specs.declared.keys.ObjectKey.{ObjectKey}
use Rattle.kfs_objects.specs.declared.keys.ObjectKey.TheVariants.{Super, Inode, Entry, Chunk, Orphan}
use Rattle.kfs_objects.specs.Keys.{be64, be32, IsNamed, IsObjectKey, is_super, is_inode, is_entry, is_chunk, is_orphan}
use Rattle.kfs_objects.specs.Forms.{SpellsKey, spells_super, spells_inode, spells_entry, spells_chunk, spells_orphan}
use Rattle.kfs_objects.proofs.KeyLaws.{length_be64, same64, same32, same_front, same_rest}
use Rattle.kfs_objects.proofs.Spelling.{Fit, split, front64, is64, is32}

-- a first byte and a length that go together
abbrev pub IsForm : ℕ → ℕ → Type 0
IsForm head size =
    ((head ≡ 115) × (size ≡ 1)) ⊎ (((head ≡ 105) × (size ≡ 9)) ⊎ (((head ≡ 101) × (10 ≤ size) × (size ≤ 264)) ⊎ (((head ≡ 100) × (size ≡ 13)) ⊎ ((head ≡ 111) × (size ≡ 9)))))

pub formed : (bs : List ℕ) → IsObjectKey bs → IsForm (get_or bs 0 0) (length bs)
unfolding be64 be32
formed _ is_super = inl (refl, refl)
formed _ (is_inode node low) = inr (inl (refl, refl))
formed _ (is_entry parent name low named) = let e = length-append (be64 parent) name in let f = length_be64 parent in inr (inr (inl (refl, omega arith, omega arith)))
formed _ (is_chunk node chunk low small) = inr (inr (inr (inl (refl, refl))))
formed _ (is_orphan node low) = inr (inr (inr (inr (refl, refl))))

pub of_inode : (bs : List ℕ) (n : ℕ) → Fit bs → length bs ≡ 9 → get_or bs 0 0 ≡ 105 → n ≡ from_be_bytes w64 (take 8 (drop 1 bs)) → n < 2 ^ 64 → SpellsKey bs (Inode n)
of_inode bs n fit long head is low = subst (λ key. SpellsKey key (Inode n)) (sym (split bs 105 (omega arith) head ∙ ap (λ xs. 105 ∷ xs) (is64 bs 1 n fit (omega arith) is))) (spells_inode n low)

pub of_orphan : (bs : List ℕ) (n : ℕ) → Fit bs → length bs ≡ 9 → get_or bs 0 0 ≡ 111 → n ≡ from_be_bytes w64 (take 8 (drop 1 bs)) → n < 2 ^ 64 → SpellsKey bs (Orphan n)
of_orphan bs n fit long head is low = subst (λ key. SpellsKey key (Orphan n)) (sym (split bs 111 (omega arith) head ∙ ap (λ xs. 111 ∷ xs) (is64 bs 1 n fit (omega arith) is))) (spells_orphan n low)

pub of_super : (bs : List ℕ) → length bs ≡ 1 → get_or bs 0 0 ≡ 115 → SpellsKey bs Super
of_super [] long head = absurd (omega arith)
of_super (b ∷ []) long head = subst (λ x. SpellsKey (x ∷ []) Super) (sym head) spells_super
of_super (b ∷ x ∷ bs) long head = absurd (omega arith)

-- a number and a rest after the first byte
fronted : (bs : List ℕ) (h n : ℕ) → Fit bs → 9 ≤ length bs → get_or bs 0 0 ≡ h → n ≡ from_be_bytes w64 (take 8 (drop 1 bs)) → bs ≡ h ∷ (be64 n ++ drop 9 bs)
fronted bs h n fit long head is = split bs h (omega arith) head ∙ ap (λ xs. h ∷ xs) (front64 bs fit long ∙ ap (λ m. be64 m ++ drop 9 bs) (sym is))

pub of_entry : (bs : List ℕ) (p : ℕ) → Fit bs → 10 ≤ length bs → length bs ≤ 264 → get_or bs 0 0 ≡ 101 → p ≡ from_be_bytes w64 (take 8 (drop 1 bs)) → p < 2 ^ 64 → SpellsKey bs (Entry p)
of_entry bs p fit long short head is low =
    let named : IsNamed (drop 9 bs) = (omega (arith, length-drop 9 bs), omega (arith, length-drop 9 bs)) in
    subst (λ key. SpellsKey key (Entry p)) (sym (fronted bs 101 p fit (omega arith) head is)) (spells_entry p (drop 9 bs) low named)

pub of_chunk : (bs : List ℕ) (n c : ℕ) → Fit bs → length bs ≡ 13 → get_or bs 0 0 ≡ 100 → n ≡ from_be_bytes w64 (take 8 (drop 1 bs)) → c ≡ from_be_bytes w32 (take 4 (drop 9 bs)) → n < 2 ^ 64 → c < 2 ^ 32 → SpellsKey bs (Chunk n c)
of_chunk bs n c fit long head is_n is_c low small =
    subst (λ key. SpellsKey key (Chunk n c)) (sym (fronted bs 100 n fit (omega arith) head is_n ∙ ap (λ xs. 100 ∷ (be64 n ++ xs)) (is32 bs 9 c fit (omega arith) is_c))) (spells_chunk n c low small)

heads : (a b : ℕ) (xs ys : List ℕ) → a ∷ xs ≡ b ∷ ys → a ≡ b
heads a b xs ys e = ap (λ l. get_or l 0 0) e

tails : (a b : ℕ) (xs ys : List ℕ) → a ∷ xs ≡ b ∷ ys → xs ≡ ys
tails a b xs ys e = ap (λ l. drop 1 l) e

one_of : (key bytes : List ℕ) (form other : ObjectKey) → SpellsKey key form → SpellsKey bytes other → key ≡ bytes → form ≡ other
one_of _ _ _ _ spells_super spells_super e = refl
one_of _ _ _ _ (spells_inode n l) (spells_inode m k) e = ap Inode (same64 n m l k (tails _ _ _ _ e))
one_of _ _ _ _ (spells_entry n x l _) (spells_entry m y k _) e = ap Entry (same_front n m x y l k (tails _ _ _ _ e))
one_of _ _ _ _ (spells_chunk n c l s) (spells_chunk m d k t) e = let f = same_front n m _ _ l k (tails _ _ _ _ e) in let g = same32 c d s t (same_rest n m _ _ (tails _ _ _ _ e)) in λ i. Chunk (f i) (g i)
one_of _ _ _ _ (spells_orphan n l) (spells_orphan m k) e = ap Orphan (same64 n m l k (tails _ _ _ _ e))
one_of key bytes _ _ _ _ e = let h = heads _ _ _ _ e in absurd (omega arith)

pub one_form : (key : List ℕ) (form other : ObjectKey) → SpellsKey key form → SpellsKey key other → form ≡ other
one_form key form other a b = one_of key key form other a b refl
