-- What a key spells, and that a key can be named.
use Rattle.std.proofs.Common.{◌≡◌, ℕ, suc, ◌<◌, ◌^◌, ◌&&◌, true, refl, sym, ◌∙◌, ap, subst, arith, List, [], ◌∷◌, length, drop, nat_le, nat_lt}
use Rattle.std.specs.List.{list_all}
use Rattle.std.proofs.lemmas.Bool.Decides.{nat_tests}
use Rattle.kv_base.specs.Sizes.{IsKey}
use Rattle.kfs_objects.specs.declared.keys.ObjectKey.{ObjectKey}
use Rattle.kfs_objects.specs.declared.keys.ObjectKey.TheVariants.{Super, Inode, Entry, Chunk, Orphan}
use Rattle.kfs_objects.specs.Keys.{super_key, inode_key, entry_key, chunk_key, orphan_key, IsNamed}
use Rattle.kfs_objects.specs.Forms.{SpellsKey, spells_super, spells_inode, spells_entry, spells_chunk, spells_orphan}
use Rattle.kfs_objects.proofs.KeyLaws.{drop_be64}
use Rattle.kfs_objects.proofs.Spelling.{Fit}
use Rattle.kfs_judge.specs.Judging.{is_key}

all_fit : (bs : List ℕ) → Fit bs → list_all (λ b. nat_lt b 256) bs ≡ true
all_fit [] fit = refl
all_fit (b ∷ bs) fit = let x : nat_lt b 256 ≡ true = grind (arith, nat_tests, fit 0) in let y = all_fit bs (λ j. fit (suc j)) in λ i. x i && y i

key_fits : (bs : List ℕ) → Fit bs → IsKey bs → is_key bs ≡ true
key_fits bs fit long =
    let a : nat_le 1 (length bs) ≡ true = grind (arith, nat_tests, long.0) in
    let b : nat_le (length bs) 264 ≡ true = grind (arith, nat_tests, long.1) in
    let c = all_fit bs fit in
    λ i. a i && b i && c i

-- a key whose bytes were shown
pub keyed : (key bs : List ℕ) → Fit bs → bs ≡ key → IsKey key → is_key key ≡ true
keyed key bs fit same long = ap is_key (sym same) ∙ key_fits bs fit (subst IsKey (sym same) long)

-- what a form says of the key
abbrev pub IsFormOf : List ℕ → ObjectKey → Type 0
IsFormOf key Super = key ≡ super_key
IsFormOf key (Inode n) = (key ≡ inode_key n) × (n < 2 ^ 64)
IsFormOf key (Entry p) = (key ≡ entry_key p (drop 9 key)) × (p < 2 ^ 64) × IsNamed (drop 9 key)
IsFormOf key (Chunk n c) = (key ≡ chunk_key n c) × (n < 2 ^ 64) × (c < 2 ^ 32)
IsFormOf key (Orphan n) = (key ≡ orphan_key n) × (n < 2 ^ 64)

spelled : (key : List ℕ) (form : ObjectKey) → SpellsKey key form → IsFormOf key form
spelled _ _ spells_super = refl
spelled _ _ (spells_inode n low) = (refl, low)
spelled _ _ (spells_entry p name low named) = let e = sym (drop_be64 p name) in (ap (entry_key p) e, low, subst IsNamed e named)
spelled _ _ (spells_chunk n c low small) = (refl, low, small)
spelled _ _ (spells_orphan n low) = (refl, low)

pub form_of : (key : List ℕ) (form known : ObjectKey) → SpellsKey key form → form ≡ known → IsFormOf key known
form_of key form known spells is = subst (IsFormOf key) is (spelled key form spells)
