-- A call makes at most one node.
use Rattle.std.proofs.Common.{◌≡◌, ℕ, ◌+◌, ◌≤◌, Bool, true, false, cond, List, Option, Some, None, Result, Ok, Err, ap, sym, subst, arith, rules}
use Rattle.std.specs.Prelude.{if◌then◌else◌}
use Rattle.kfs_path.specs.declared.call.Call.{Call}
use Rattle.kfs_path.specs.declared.call.Call.TheVariants as calls
use Rattle.kfs_path.specs.declared.call.Errno.{Errno}
use Rattle.kfs_path.specs.declared.call.Flags.{Flags}
use Rattle.kfs_path.specs.declared.call.Reply.{Reply}
use Rattle.kfs_plain.specs.declared.fault.Fault.{Fault}
use Rattle.kfs_plain.specs.declared.fault.Fault.TheVariants.{Memory, No}
use Rattle.kfs_plain.specs.Answers.{Does}
use Rattle.kfs_model.specs.declared.Node.{Node}
use Rattle.kfs_model.specs.declared.Node.TheVariants.{Dir, File}
use Rattle.kfs_model.specs.declared.Description.{Description}
use Rattle.kfs_model.specs.Ladder.{◌>>=◌, ◌>>◌}
use Rattle.kfs_model.specs.Tree.{Tree, Place, Limits}
use Rattle.kfs_model.specs.Step.{World, After, Route, effect, open_at, writes, truncate, ftruncate, changes_tree, leaves, syntax}
use Rattle.kfs_plain.specs.Renaming.{rename_from, rename_to}
use Rattle.kfs_plain.proofs.Parts.{rename_at, rename-parts}

-- what is there is no more than one above n
abbrev Near : {A : Type 0} → (A → ℕ) → ℕ → Result A Errno → Type 0
Near f n (Ok x) = f x ≤ n + 1
Near f n (Err e) = Unit {0}

abbrev next_of : After → ℕ
next_of after = after.world.tree.next

abbrev tree_next : Tree → ℕ
tree_next t = t.next

bind : {A B : Type 0} (f : B → ℕ) (n : ℕ) (r : Result A Errno) (g : A → Result B Errno) → ((x : A) → Near f n (g x)) → Near f n (r >>= g)
bind f n (Ok x) g h = h x
bind f n (Err e) g h = tt

known : {A B : Type 0} (f : A → ℕ) (f' : B → ℕ) (n : ℕ) (r : Result A Errno) (g : A → Result B Errno) → Near f n r → ((x : A) → f x ≤ n + 1 → Near f' n (g x)) → Near f' n (r >>= g)
known f f' n (Ok x) g near h = h x near
known f f' n (Err e) g near h = tt

tested : {A : Type 0} (f : A → ℕ) (n : ℕ) (c : Option Errno) (r : Result A Errno) → Near f n r → Near f n (c >> r)
tested f n None r h = h
tested f n (Some e) r h = tt

chosen : {A : Type 0} (f : A → ℕ) (n : ℕ) (b : Bool) (r s : Result A Errno) → Near f n r → Near f n s → Near f n (if b then r else s)
chosen f n true r s x y = x
chosen f n false r s x y = y

either_tree : (b : Bool) (t u : Tree) → u.next ≡ t.next → (cond b u t).next ≤ t.next + 1
either_tree true t u e = omega arith
either_tree false t u e = omega arith

open_near : (k : Limits) (d : ℕ) (w : World) (route : Route) (place : Place) (flags : Flags) (entry : Option (ℕ × Node)) → Near next_of w.tree.next (open_at k d w route place flags entry)
open_near k d w route place flags None = search (rules, tested, bind) depth 12
open_near k d w route place flags (Some (n, Dir)) = search (rules, tested, bind) depth 12
open_near k d w route place flags (Some (n, File bytes)) = search (rules, tested, bind, either_tree) depth 12

writes_near : (k : Limits) (w : World) (it : ℕ × Description) (given : List ℕ) → Near next_of w.tree.next (writes k w it given)
writes_near k w (d, it) given = search (rules, tested, chosen) depth 12

changed_near : (w : World) (r : Result Tree Errno) → Near tree_next w.tree.next r → Near next_of w.tree.next (changes_tree w r)
changed_near w (Ok t) h = h
changed_near w (Err e) h = tt

written_near : (k : Limits) (w : World) (it : ℕ × Description) (given : List ℕ) → Near next_of w.tree.next (writes k w it given >>= λ after. leaves w after.world.tree after.reply)
written_near k w it given = known next_of next_of w.tree.next (writes k w it given) (λ after. leaves w after.world.tree after.reply) (writes_near k w it given) (λ after le. le)

renamed_near : (w : World) (p q : Place) → Near next_of w.tree.next (rename_at w p q)
renamed_near w p q = search (rules, bind, chosen) depth 12

parted_near : (w : World) (from to : Route) → Near next_of w.tree.next (rename_from w.tree from to >>= λ p. rename_to w.tree p to >>= λ q. rename_at w p q)
parted_near w from to = bind next_of w.tree.next (rename_from w.tree from to) (λ p. rename_to w.tree p to >>= λ q. rename_at w p q) (λ p. bind next_of w.tree.next (rename_to w.tree p to) (λ q. rename_at w p q) (λ q. renamed_near w p q))

near : (k : Limits) (d : ℕ) (w : World) (call : Call) → Near next_of w.tree.next (effect k d w call)
near k d w (calls.Open path flags) = search (rules, tested, bind, open_near) depth 14
near k d w (calls.Close fd) = search (rules, bind) depth 14
near k d w (calls.Dup fd) = search (rules, bind) depth 14
near k d w (calls.Read fd count) = search (rules, bind) depth 14
near k d w (calls.Write fd bytes) = search (rules, tested, bind, writes_near) depth 14
near k d w (calls.Pread fd count offset) = search (rules, tested, bind) depth 14
near k d w (calls.Pwrite fd bytes offset) = search (rules, tested, bind, written_near) depth 14
near k d w (calls.Lseek fd whence offset) = search (rules, tested, bind) depth 14
near k d w (calls.Truncate path size) = changed_near w (truncate k w.tree path size) (search (rules, tested, bind) depth 16)
near k d w (calls.Ftruncate fd size) = changed_near w (ftruncate k w fd size) (search (rules, tested, bind) depth 14)
near k d w (calls.Mkdir path) = search (rules, bind) depth 14
near k d w (calls.Rmdir path) = search (rules, bind) depth 14
near k d w (calls.Unlink path) = search (rules, tested, bind) depth 14
near k d w (calls.Rename old new) =
    subst (Near next_of w.tree.next) (sym (rename-parts w old new))
    (bind next_of w.tree.next (syntax old) (λ from. syntax new >>= λ to. rename_from w.tree from to >>= λ p. rename_to w.tree p to >>= λ q. rename_at w p q)
    (λ from. bind next_of w.tree.next (syntax new) (λ to. rename_from w.tree from to >>= λ p. rename_to w.tree p to >>= λ q. rename_at w p q) (λ to. parted_near w from to)))
near k d w (calls.Stat path) = search (rules, bind) depth 14
near k d w (calls.Fstat fd) = search (rules, bind) depth 14
near k d w (calls.List path) = search (rules, bind) depth 14
near k d w (calls.Fsync fd) = search (rules, bind) depth 14
near k d w calls.Sync = omega arith
near k d w calls.Room = omega arith
near k d w calls.Tree = omega arith
near k d w (calls.Work operations) = omega arith

-- what a call left, whatever it answered
pub does_next : (k : Limits) (d : ℕ) (w new : World) (call : Call) (r : Result Reply Fault) → Does w new r (effect k d w call) → new.tree.next ≤ w.tree.next + 1
does_next k d w new call (Ok reply) h = subst (Near next_of w.tree.next) h (near k d w call)
does_next k d w new call (Err (No e)) h = let same = ap (λ (v : World). v.tree.next) h.1 in omega arith
does_next k d w new call (Err Memory) h = let same = ap (λ (v : World). v.tree.next) h in omega arith
