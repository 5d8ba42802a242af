-- A device that stores a tree with room isn't damaged.
use Rattle.std.proofs.Common.{◌≡◌, ◌<◌, ◌^◌, ◌∙◌, ◌==◌, ℕ, cond, inl, inr, refl, sym, ap, subst, arith, None}
use Rattle.kv_base.specs.declared.damage.Damage.{Damage}
use Rattle.kv_device.specs.Objects.{Objects, IsHeld}
use Rattle.kfs_model.specs.Tree.{Tree, Limits, has_room, is_named, node_of, named, IsTree, IsKept}
use Rattle.kfs_damages.specs.Damages.{IsTreeDamage, IsClear}
use Rattle.kfs_damages.proofs.Clear.{clear_stands}
use Rattle.kfs_core.proofs.Cleared.{kept_all}
use Rattle.kv_device.specs.Machine.{Machine}
use Rattle.kfs_posix.specs.Mounting.{limits_in}
use Rattle.kfs_damages.specs.Laws.{StandFor}
use Rattle.kfs_damages.proofs.One.{damaged_is_not_clear}
use Rattle.kfs_damages.proofs.Standing.{standing_is_clear}
use Rattle.kfs_judge.specs.Judging.{heard, room_in}
use Rattle.kfs_judge.proofs.Hearing.{all_heard}
use Rattle.kfs_posix.specs.Showing.{IsSaved}
use Rattle.kfs_posix.proofs.Mounting.{named_kept_same, held_nameable}

saved_stands : (k : Limits) (m : Objects) (t : Tree) (n : ℕ) (saved : IsSaved k m t n) → n < 2 ^ 62 → t.next < 2 ^ 62 → StandFor k m saved.kept n
saved_stands k m t n saved few low =
    let next = saved.is_kept.next in
    let same = named_kept_same t saved.kept saved.tree saved.is_kept in
    record {
      tree = saved.kept_tree;
      shows = saved.shows;
      room = ap (has_room k) same ∙ saved.room;
      few = few;
      low = omega (arith, next, low);
    }

-- what a device holds and what stands for a tree with room, with numbers far from their end, has no damage
pub undamaged : (k : Limits) (m : Objects) (t : Tree) (n : ℕ) (damage : Damage) → IsHeld m → IsSaved k m t n → n < 2 ^ 62 → t.next < 2 ^ 62 → IsTreeDamage k (heard m) damage → ⊥
undamaged k m t n damage held saved few low damaged =
    let all = all_heard m (held_nameable m held) in
    let here = subst (λ (o : Objects). IsTreeDamage k o damage) all damaged in
    damaged_is_not_clear k m damage here (standing_is_clear k m saved.kept n (saved_stands k m t n saved few low))

-- where nothing is damaged in what a device holds, it stands for a tree
pub clear_stored : (m : Machine) → IsHeld m.stable → IsClear (room_in m) (heard m.stable) → (t : Tree) × (n : ℕ) × IsSaved (limits_in m) m.stable t n
clear_stored m held clear =
    let all = all_heard m.stable (held_nameable m.stable held) in
    let here = subst (λ (o : Objects). IsClear (room_in m) o) all clear in
    let it = clear_stands (room_in m) m.stable held here in
    let st = it.2 in (
      it.0,
      it.1,
      record {
        tree = st.tree;
        kept = it.0;
        is_kept = kept_all it.0 st.tree;
        kept_tree = st.tree;
        shows = st.shows;
        next = omega (arith, st.low);
        count = omega (arith, st.few);
        room = st.room;
      },
    )
