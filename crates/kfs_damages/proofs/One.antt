-- At most one damage applies, and where one applies something is damaged.
use Rattle.std.proofs.Common.{◌≡◌, ℕ, ◌<◌, ◌⊎◌, inl, inr, sym, ◌∙◌, ap, arith}
use Rattle.kv_base.specs.declared.damage.Damage.{Damage}
use Rattle.kv_base.specs.declared.damage.Damage.TheVariants as damages
use Rattle.kv_device.specs.Objects.{Objects}
use Rattle.kfs_model.specs.Tree.{Limits}
use Rattle.kfs_damages.specs.Damages.{IsBadObject, IsBadInode, IsBadEntry, IsBadChunk, IsBadOrphan, IsLeast, IsAt, None_, Else, IsTreeDamage, IsClear}

abbrev AtMostOne : (Damage → Type 0) → Type 0
AtMostOne Holds = (one other : Damage) → Holds one → Holds other → one ≡ other

-- what applies first isn't what applies later
else_one : (Here Later : Damage → Type 0) (Clear : Type 0) → AtMostOne Here → ((damage : Damage) → Here damage → Clear → ⊥) → AtMostOne Later → AtMostOne (Else Here Clear Later)
else_one Here Later Clear a apart b one other (inl h) (inl k) = a one other h k
else_one Here Later Clear a apart b one other (inl h) (inr k) = absurd (apart one h k.0)
else_one Here Later Clear a apart b one other (inr h) (inl k) = absurd (apart other k h.0)
else_one Here Later Clear a apart b one other (inr h) (inr k) = b one other h.1 k.1

same_least : (Holds : ℕ → Type 0) (n k : ℕ) → IsLeast Holds n → IsLeast Holds k → n ≡ k
same_least Holds n k a b = elim (order n k) [
  | inl less ↦ absurd (b.earlier n less a.here)
  | inr rest ↦ elim rest [ inl more ↦ absurd (a.earlier k more b.here) | inr same ↦ same ]
]
  where
    order : (n k : ℕ) → (n < k) ⊎ ((k < n) ⊎ (n ≡ k))
    order n k = grind arith

at_one : (kind : ℕ → Damage) (Holds : ℕ → Type 0) → AtMostOne (IsAt kind Holds)
at_one kind Holds one other a b = a.is ∙ ap kind (same_least Holds a.place b.place a.least b.least) ∙ sym b.is

at_apart : (kind : ℕ → Damage) (Holds : ℕ → Type 0) (damage : Damage) → IsAt kind Holds damage → None_ Holds → ⊥
at_apart kind Holds damage a none = none a.place a.least.low a.least.here

pub one_damage : (k : Limits) (m : Objects) → AtMostOne (IsTreeDamage k m)
one_damage k m =
    else_one _ _ _ (λ a b h k. h.0 ∙ sym k.0) (λ d h clear. h.1 clear)
    (else_one _ _ _ (at_one damages.Object (IsBadObject m)) (at_apart damages.Object (IsBadObject m))
    (else_one _ _ _ (at_one damages.Inode (IsBadInode m)) (at_apart damages.Inode (IsBadInode m))
    (else_one _ _ _ (at_one damages.Entry (IsBadEntry m)) (at_apart damages.Entry (IsBadEntry m))
    (else_one _ _ _ (at_one damages.Chunk (IsBadChunk m)) (at_apart damages.Chunk (IsBadChunk m))
    (else_one _ _ _ (at_one damages.Orphan (IsBadOrphan m)) (at_apart damages.Orphan (IsBadOrphan m))
    (λ a b h k. h.0 ∙ sym k.0))))))

pub damaged_is_not_clear : (k : Limits) (m : Objects) (damage : Damage) → IsTreeDamage k m damage → IsClear k m → ⊥
damaged_is_not_clear k m d (inl head) c = head.1 c.head
damaged_is_not_clear k m d (inr (a, inl object)) c = at_apart damages.Object (IsBadObject m) d object c.objects_are
damaged_is_not_clear k m d (inr (a, inr (b, inl inode))) c = at_apart damages.Inode (IsBadInode m) d inode c.inodes
damaged_is_not_clear k m d (inr (a, inr (b, inr (e, inl entry)))) c = at_apart damages.Entry (IsBadEntry m) d entry c.entries
damaged_is_not_clear k m d (inr (a, inr (b, inr (e, inr (f, inl chunk))))) c = at_apart damages.Chunk (IsBadChunk m) d chunk c.chunks
damaged_is_not_clear k m d (inr (a, inr (b, inr (e, inr (f, inr (g, inl orphan)))))) c = at_apart damages.Orphan (IsBadOrphan m) d orphan c.orphans
damaged_is_not_clear k m d (inr (a, inr (b, inr (e, inr (f, inr (g, inr (h, room))))))) c = room.1 c.room
