-- What stands in objects in which nothing is damaged, said without double negation.
use Rattle.std.proofs.Common.{◌≡◌, ◌≢◌, ℕ, ◌<◌, ◌≤◌, ◌+◌, ◌*◌, ◌^◌, ◌⊎◌, inl, inr, refl, sym, ◌∙◌, ap, subst, arith, List, length, Option, Some, None}
use Rattle.std.specs.Prelude.{is_some, slice_get}
use Rattle.std.specs.Option.{option_and_then, option_map_or, unwrap_or}
use Rattle.std.specs.FinMap as objects
use Rattle.kv_device.specs.Objects.{Objects, IsHeld}
use Rattle.kfs_objects.specs.Keys.{super_key, inode_key, entry_key, chunk_key, orphan_key, IsObjectKey}
use Rattle.kfs_objects.specs.Records.{super_value, inode_value, entry_value, orphan_value, read_super, read_inode, read_entry, IsInode}
use Rattle.kfs_model.specs.Tree.{Name, Limits, IsName, greatest_length}
use Rattle.kfs_shows.proofs.Lookups.{decide_number, decide_bytes}
use Rattle.kfs_damages.specs.Damages as damages
use Rattle.kfs_damages.specs.Damages.{IsEntry, IsNamed, IsClear, next_in, names}
use Rattle.kfs_damages.proofs.Reading.{entry_read, inode_read, super_read, decide_key, decide_name, decide_dir, found_stands}

-- a node's inode: none, a directory's or a file's
pub data Seen (m : Objects) (next n : ℕ) : Type 0 where
  absent : objects.get m (inode_key n) ≡ None → damages.inode_of m n ≡ None → Seen m next n
  dir : objects.get m (inode_key n) ≡ Some (inode_value 1 0) → damages.inode_of m n ≡ Some (1, 0) → 1 ≤ n → n < next → Seen m next n
  file : (size : ℕ) → objects.get m (inode_key n) ≡ Some (inode_value 2 size) → damages.inode_of m n ≡ Some (2, size) → size ≤ greatest_length → 1 ≤ n → n < next → Seen m next n

-- an entry names a node under a name in a directory
pub record Sound (m : Objects) (parent : ℕ) (name : Name) (value : List ℕ) : Type 0 where
  pub node : ℕ
  pub reads : read_entry value ≡ Some node
  pub spelled : value ≡ entry_value node
  pub low : node < 2 ^ 64
  pub dir : damages.inode_of m parent ≡ Some (1, 0)
  pub named : IsName name

pub order : (n k : ℕ) → (n < k) ⊎ (k ≤ n)
order n k = grind arith

abbrev pub named_by : (m : Objects) (parent : ℕ) (name : Name) (value : List ℕ) (j : ℕ) → IsEntry m parent name value → read_entry value ≡ Some j → IsNamed m j
named_by m parent name value j entry reads = record { parent = parent; name = name; value = value; entry = entry; is = ap (λ o. unwrap_or o parent) reads }

module _ (k : Limits) (m : Objects) (held : IsHeld m) (clear : IsClear k m) where
  pub key_is : (key value : List ℕ) → objects.get m key ≡ Some value → IsObjectKey key
  key_is key value e = elim (decide_key key) [
    | inl is ↦ is
    | inr isnt ↦ absurd (clear.objects_are at.0 few (record { key = key; value = value; here = at.2; formless = isnt }))
  ]
    where
      at : (i : ℕ) × (i < length (objects.entries m)) × (slice_get (objects.entries m) i ≡ Some (key, value))
      at = found_stands (objects.entries m) key value (sym (objects.get-entries m key) ∙ e)

      few : at.0 < 2 ^ 64
      few = let a = at.1 in let b = held.few in let c = objects.len-entries m in omega arith

  next_is : next_in m ≡ clear.head.next
  next_is = ap (λ o. option_map_or (λ (head : ℕ × ℕ). head.1) o 0) clear.head.reads

  pub head_is : objects.get m super_key ≡ Some (super_value clear.head.changes clear.head.next)
  head_is = by (objects.get m super_key) refl
    where
      by : (o : Option (List ℕ)) → objects.get m super_key ≡ o → objects.get m super_key ≡ Some (super_value clear.head.changes clear.head.next)
      by None e = absurd (let bad : None ≡ Some (clear.head.changes, clear.head.next) = sym (ap (option_and_then read_super) e) ∙ clear.head.reads in cc)
      by (Some value) e = e ∙ ap Some (super_read value clear.head.changes clear.head.next (held.values super_key value e) (sym (ap (option_and_then read_super) e) ∙ clear.head.reads))

  pub seen : (n : ℕ) → n < 2 ^ 64 → Seen m clear.head.next n
  seen n lt = by (objects.get m (inode_key n)) refl
    where
      formed : (value : List ℕ) (kind size : ℕ) → objects.get m (inode_key n) ≡ Some value → damages.inode_of m n ≡ Some (kind, size) → value ≡ inode_value kind size → size ≤ greatest_length → 1 ≤ n → n < clear.head.next → IsInode kind size → Seen m clear.head.next n
      formed value kind size e r is short high few (inl two) = file size (e ∙ ap Some (is ∙ ap (λ x. inode_value x size) two)) (r ∙ ap (λ x. Some (x, size)) two) short high few
      formed value kind size e r is short high few (inr one) = dir (e ∙ ap Some (is ∙ (λ i. inode_value (one.0 i) (one.1 i)))) (r ∙ (λ i. Some (one.0 i, one.1 i))) high few

      read : (value : List ℕ) → objects.get m (inode_key n) ≡ Some value → (r : Option (ℕ × ℕ)) → read_inode value ≡ r → Seen m clear.head.next n
      read value e None r = absurd (clear.inodes n lt (damages.unread (ap is_some e) (ap (option_and_then read_inode) e ∙ r)))
      read value e (Some p) r = elim (order n clear.head.next) [
        | inr le ↦ absurd (clear.inodes n lt (damages.high (ap is_some e) (let s = next_is in omega arith)))
        | inl few ↦ elim (order 0 n) [
          | inr le ↦ absurd (clear.inodes n lt (damages.zero (ap is_some e) (omega arith)))
          | inl high ↦ elim (order greatest_length p.1) [
            | inl more ↦ absurd (clear.inodes n lt (damages.long p.0 p.1 (ap (option_and_then read_inode) e ∙ r) more))
            | inr short ↦ let s = inode_read value p.0 p.1 (held.values (inode_key n) value e) r in formed value p.0 p.1 e (ap (option_and_then read_inode) e ∙ r) s.0 short (omega arith) few s.1
          ]
        ]
      ]

      by : (o : Option (List ℕ)) → objects.get m (inode_key n) ≡ o → Seen m clear.head.next n
      by None e = absent e (ap (option_and_then read_inode) e)
      by (Some value) e = read value e (read_inode value) refl

  pub root_is : damages.inode_of m 1 ≡ Some (1, 0)
  root_is = elim (decide_dir (damages.inode_of m 1)) [ inl is ↦ is | inr isnt ↦ absurd (clear.inodes 1 (omega arith) (damages.root refl isnt)) ]

  -- ---- entries

  pub sound : (parent : ℕ) (name : Name) (value : List ℕ) → IsEntry m parent name value → Sound m parent name value
  sound parent name value entry = by (read_entry value) refl
    where
      by : (o : Option ℕ) → read_entry value ≡ o → Sound m parent name value
      by None e = absurd (clear.entries parent entry.low (damages.wrong parent name value entry (ap (λ o. unwrap_or o parent) e) (damages.unread e)))
      by (Some node) e = record {
        node = node;
        reads = e;
        spelled = is.0;
        low = is.1;
        dir = elim (decide_dir (damages.inode_of m parent)) [ inl is_so ↦ is_so | inr isnt ↦ absurd (wrong (damages.parentless isnt)) ];
        named = elim (decide_name name entry.short) [ inl is_so ↦ is_so | inr isnt ↦ absurd (wrong (damages.nameless isnt)) ];
      }
        where
          is : (value ≡ entry_value node) × (node < 2 ^ 64)
          is = entry_read value node (held.values (entry_key parent name) value entry.there) e

          wrong : damages.IsWrong m parent name value → ⊥
          wrong w = clear.entries node is.1 (damages.wrong parent name value entry (ap (λ o. unwrap_or o parent) e) w)

  pub one_name : (p : ℕ) (x : Name) (v : List ℕ) (q : ℕ) (y : Name) (w : List ℕ) (j : ℕ) → j < 2 ^ 64 → IsEntry m p x v → IsEntry m q y w → read_entry v ≡ Some j → read_entry w ≡ Some j → (p ≡ q) × (x ≡ y)
  one_name p x v q y w j lt a b e f =
      let twice = λ (d : p ≡ q → x ≡ y → ⊥). clear.entries j lt (damages.twice (named_by m p x v j a e) (named_by m q y w j b f) d) in
      elim (decide_number p q) [
        | inr d ↦ absurd (twice (λ s t. d s))
        | inl same ↦ elim (decide_bytes x y) [ inr d ↦ absurd (twice (λ s t. d t)) | inl also ↦ (same, also) ]
      ]

  pub not_root : (p : ℕ) (x : Name) (v : List ℕ) (j : ℕ) → IsEntry m p x v → read_entry v ≡ Some j → j ≢ 1
  not_root p x v j a e one = clear.entries 1 (omega arith) (damages.root refl (named_by m p x v 1 a (e ∙ ap Some one)))

  pub has_inode : (p : ℕ) (x : Name) (v : List ℕ) (j : ℕ) → j < 2 ^ 64 → IsEntry m p x v → read_entry v ≡ Some j → objects.get m (inode_key j) ≢ None
  has_inode p x v j lt a e none = clear.entries j lt (damages.missing (named_by m p x v j a e) none)

  -- ---- chunks and orphans

  pub chunk_is : (n c : ℕ) (value : List ℕ) → n < 2 ^ 64 → c < 2 ^ 32 → objects.get m (chunk_key n c) ≡ Some value → (size : ℕ) × (damages.inode_of m n ≡ Some (2, size)) × (0 < length value) × (4096 * c + length value ≤ size)
  chunk_is n c value lt lc e = by (damages.inode_of m n) refl
    where
      wrong : damages.IsWrongChunk c value (damages.inode_of m n) → ⊥
      wrong w = clear.chunks n lt (record { chunk = c; value = value; low = lc; there = e; wrong = w })

      by : (o : Option (ℕ × ℕ)) → damages.inode_of m n ≡ o → (size : ℕ) × (damages.inode_of m n ≡ Some (2, size)) × (0 < length value) × (4096 * c + length value ≤ size)
      by None f = absurd (wrong (subst (damages.IsWrongChunk c value) (sym f) damages.nowhere))
      by (Some p) f = elim (decide_number p.0 2) [
        | inr d ↦ absurd (wrong (subst (damages.IsWrongChunk c value) (sym f) (damages.kind_is p.0 p.1 d)))
        | inl two ↦ elim (order 0 (length value)) [
          | inr le ↦ absurd (wrong (damages.empty (damages.inode_of m n) (omega arith)))
          | inl some ↦ elim (order p.1 (4096 * c + length value)) [
            | inl past ↦ absurd (wrong (subst (damages.IsWrongChunk c value) (sym f) (damages.past p.0 p.1 past)))
            | inr within ↦ (p.1, f ∙ ap (λ x. Some (x, p.1)) two, some, within)
          ]
        ]
      ]

  pub orphan_is : (n : ℕ) (value : List ℕ) → n < 2 ^ 64 → objects.get m (orphan_key n) ≡ Some value → (value ≡ orphan_value) × (objects.get m (inode_key n) ≢ None) × (n ≢ 1)
  orphan_is n value lt e = (
    elim (decide_bytes value orphan_value) [ inl is ↦ is | inr d ↦ absurd (wrong (inl d)) ],
    λ none. wrong (inr (inl none)),
    λ one. wrong (inr (inr one)),
  )
    where
      wrong : (value ≢ orphan_value) ⊎ (objects.get m (inode_key n) ≡ None) ⊎ (n ≡ 1) → ⊥
      wrong w = clear.orphans n lt (record { value = value; there = e; wrong = w })
