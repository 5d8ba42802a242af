-- What is written is read back.
use Rattle.std.proofs.Common.{inl, inr, subst, sym, ◌≡◌, ℕ, ◌<◌, ◌^◌, ◌&&◌, ◌==◌, true, cond, ◌∙◌, ap, arith, ◌++◌, length, Some, None, nat_lt}
use Rattle.std.specs.Int.{w64, from_be_bytes}
use Rattle.std.proofs.lemmas.Bool.Decides.{nat_tests}
use Rattle.std.proofs.lemmas.List.{length-append}
use Rattle.kfs_objects.specs.Keys.{be64}
use Rattle.kfs_objects.specs.Records.{super_value, inode_value, entry_value, read_super, read_inode, read_entry, IsInode}
use Rattle.kfs_objects.proofs.KeyLaws.{length_be64, back64, take_be64, drop_be64}

pub read_entry_value : (n : ℕ) → n < 2 ^ 64 → read_entry (entry_value n) ≡ Some n
read_entry_value n h = λ i. cond (length_be64 n i == 8) (Some (back64 n h i)) None

pub read_inode_dir : read_inode (inode_value 1 0) ≡ Some (1, 0)
read_inode_dir = λ i. cond (length_be64 0 i == 8 && (back64 0 (omega arith) i == 0)) (Some (1, back64 0 (omega arith) i)) None

pub read_inode_file : (n : ℕ) → n < 2 ^ 64 → read_inode (inode_value 2 n) ≡ Some (2, n)
read_inode_file n h = λ i. cond (length_be64 n i == 8 && true) (Some (2, back64 n h i)) None

pub read_inode_value : (k n : ℕ) → IsInode k n → n < 2 ^ 64 → read_inode (inode_value k n) ≡ Some (k, n)
read_inode_value k n (inl file) low = subst (λ x. read_inode (inode_value x n) ≡ Some (x, n)) (sym file) (read_inode_file n low)
read_inode_value k n (inr dir) low = subst (λ x. read_inode (inode_value x n) ≡ Some (x, n)) (sym dir.0) (subst (λ x. read_inode (inode_value 1 x) ≡ Some (1, x)) (sym dir.1) read_inode_dir)

length_two : (c n : ℕ) → length (be64 c ++ be64 n) ≡ 16
length_two c n = length-append (be64 c) (be64 n) ∙ (let a = length_be64 c in let b = length_be64 n in omega arith)

pub read_super_value : (c n : ℕ) → c < 2 ^ 63 → n < 2 ^ 63 → read_super (super_value c n) ≡ Some (c, n)
read_super_value c n h k =
    let a = ap (from_be_bytes w64) (take_be64 c (be64 n)) ∙ back64 c (omega arith) in
    let b = ap (from_be_bytes w64) (drop_be64 c (be64 n)) ∙ back64 n (omega arith) in
    let s : nat_lt c (2 ^ 63) ≡ true = grind (arith, nat_tests) in
    let t : nat_lt n (2 ^ 63) ≡ true = grind (arith, nat_tests) in
    (λ i. cond (length_two c n i == 16 && nat_lt (a i) (2 ^ 63) && nat_lt (b i) (2 ^ 63)) (Some (a i, b i)) None) ∙ (λ i. cond (s i && t i) (Some (c, n)) None)
