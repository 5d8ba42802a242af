-- Errors, and the next number, over all calls.
use Rattle.std.proofs.Common.{◌≡◌, ℕ, ◌+◌, ◌≤◌, Bool, true, false, arith, refl, List, Option, Some, None, Result, Ok, Err}
use Rattle.kfs_path.specs.declared.call.Call.{Call}
use Rattle.kfs_path.specs.declared.call.Call.TheVariants as calls
use Rattle.kfs_path.specs.declared.call.Reply.{Reply}
use Rattle.kfs_path.specs.declared.call.Reply.TheVariants as replies
use Rattle.kfs_path.specs.declared.call.Errno.{Errno}
use Rattle.kfs_model.specs.declared.Node.{Node}
use Rattle.kfs_model.specs.declared.Node.TheVariants.{Dir, File}
use Rattle.kfs_model.specs.Tree.{Limits, Tree}
use Rattle.kfs_model.specs.Step
use Rattle.kfs_laws.proofs.Outcomes

abbrev pub is_error : Reply → Bool
is_error (replies.Err e) = true
is_error reply = false

-- no error, and the next number is the old one or one more
pub record IsSound (w : Step.World) (after : Step.After) : Type 0 where
  pub reply : is_error after.reply ≡ false
  pub from : w.tree.next ≤ after.world.tree.next
  pub to : after.world.tree.next ≤ w.tree.next + 1

abbrev IsAnswer : Reply → Type 0
IsAnswer reply = is_error reply ≡ false

told_answers : (o : Option (ℕ × Node)) → Outcomes.Each IsAnswer (Step.told o)
told_answers None = tt
told_answers (Some (n, Dir)) = refl
told_answers (Some (n, File bytes)) = refl

stat_answers : (t : Tree) (path : List ℕ) → Outcomes.Each IsAnswer (Step.stat_of t path)
stat_answers t path = search (Outcomes.each_bind IsAnswer, Outcomes.each_then IsAnswer, of_told) depth 12
  where
    of_told : (o : Option (ℕ × Node)) (r : Reply) → Step.told o ≡ Ok r → IsAnswer r
    of_told o r e = Outcomes.of_each IsAnswer (Step.told o) r (told_answers o) e

list_answers : (t : Tree) (path : List ℕ) → Outcomes.Each IsAnswer (Step.list_of t path)
list_answers t path = search (Outcomes.each_bind IsAnswer, Outcomes.each_then IsAnswer) depth 12

module _ (k : Limits) (d : ℕ) (w : Step.World) where
  abbrev P : Step.After → Type 0
  P = IsSound w

  same : (after : Step.After) → after.world.tree.next ≡ w.tree.next → is_error after.reply ≡ false → P after
  same after n e = record { reply = e; from = omega arith; to = omega arith }

  more : (after : Step.After) → after.world.tree.next ≡ w.tree.next + 1 → is_error after.reply ≡ false → P after
  more after n e = record { reply = e; from = omega arith; to = omega arith }

  pub sound : (call : Call) → Outcomes.Each P (Step.effect k d w call)
  sound (calls.Open path flags) = Outcomes.open_each P w k d path flags (record {
    new = λ place fd spot l. more _ refl refl;
    dir = λ place fd n e may l. same _ refl refl;
    file = λ place fd n bytes e l. same _ refl refl;
    cut = λ place fd n bytes e l. same _ refl refl;
  })
  sound (calls.Close fd) = Outcomes.close_each P w fd (λ it is. same _ refl refl)
  sound (calls.Dup fd) = Outcomes.dup_each P w fd (λ it new is l. same _ refl refl)
  sound (calls.Read fd count) = Outcomes.read_each P w fd count (λ bytes it p is. same _ refl refl)
  sound (calls.Write fd bytes) = Outcomes.write_each P w k fd bytes (same _ refl refl) (λ it p is may some. same _ refl refl)
  sound (calls.Pread fd count offset) = Outcomes.pread_each P w fd count offset (λ bytes. same _ refl refl)
  sound (calls.Pwrite fd bytes offset) = Outcomes.pwrite_each P w k fd bytes offset (same _ refl refl) (λ it p is may some. same _ refl refl)
  sound (calls.Lseek fd whence offset) = Outcomes.lseek_each P w fd whence offset (λ n it p is. same _ refl refl)
  sound (calls.Truncate path size) = Outcomes.truncate_each P w k path size (λ place e at is dir low. same _ refl refl)
  sound (calls.Ftruncate fd size) = Outcomes.ftruncate_each P w k fd size (λ it is write low. same _ refl refl)
  sound (calls.Mkdir path) = Outcomes.mkdir_each P w k path (λ place spot. more _ refl refl)
  sound (calls.Rmdir path) = Outcomes.rmdir_each P w path (λ place spot. same _ refl refl)
  sound (calls.Unlink path) = Outcomes.unlink_each P w path (λ place there dir. same _ refl refl)
  sound (calls.Rename old new) = Outcomes.rename_each P w old new (same _ refl refl) (λ p q move. same _ refl refl)
  sound (calls.Stat path) = Outcomes.stat_each P w path (λ reply e. same _ refl (Outcomes.of_each IsAnswer (Step.stat_of w.tree path) reply (stat_answers w.tree path) e))
  sound (calls.Fstat fd) = Outcomes.fstat_each P w fd (λ o reply e. same _ refl (Outcomes.of_each IsAnswer (Step.told o) reply (told_answers o) e))
  sound (calls.List path) = Outcomes.list_each P w path (λ reply e. same _ refl (Outcomes.of_each IsAnswer (Step.list_of w.tree path) reply (list_answers w.tree path) e))
  sound (calls.Fsync fd) = Outcomes.fsync_each P w fd (same _ refl refl)
  sound calls.Sync = same _ refl refl
  sound calls.Room = same _ refl refl
  sound calls.Tree = same _ refl refl
  sound (calls.Work operations) = same _ refl refl

-- an error is the reply, and the world stays
pub error_replies : (w : Step.World) (r : Result Step.After Errno) (e : Errno) → r ≡ Err e → Step.settled w r ≡ record { world = w; reply = replies.Err e }
error_replies w (Ok after) e is = absurd (cc)
error_replies w (Err d) e is = by d e is
  where
    by : (d e : Errno) → ◌≡◌ {A = Result Step.After Errno} (Err d) (Err e) → ◌≡◌ {A = Step.After} (record { world = w; reply = replies.Err d }) (record { world = w; reply = replies.Err e })
    by d e is = cc

-- a reply that is an error leaves the world
pub error_keeps : (w : Step.World) (r : Result Step.After Errno) (e : Errno) → Outcomes.Each (IsSound w) r → (Step.settled w r).reply ≡ replies.Err e → (Step.settled w r).world ≡ w
error_keeps w (Ok after) e h is = let bad : is_error after.reply ≡ false = h.reply in absurd (let worse : true ≡ false = rw is at bad in cc)
error_keeps w (Err d) e h is = refl

pub next_from : (w : Step.World) (r : Result Step.After Errno) → Outcomes.Each (IsSound w) r → w.tree.next ≤ (Step.settled w r).world.tree.next
next_from w (Ok after) h = h.from
next_from w (Err d) h = omega arith

pub next_to : (w : Step.World) (r : Result Step.After Errno) → Outcomes.Each (IsSound w) r → (Step.settled w r).world.tree.next ≤ w.tree.next + 1
next_to w (Ok after) h = h.to
next_to w (Err d) h = omega arith
