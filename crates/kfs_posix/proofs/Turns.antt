-- Calls on the open files alone, as events of a life.
use Rattle.std.proofs.Common.{◌≡◌, ℕ, true, false, cond, Bool, refl, sym, ◌∙◌, subst, Option, Some, None, Result, Ok, ℤ, pos, ◌+ℤ◌, ◌^◌, nat_le}
use Rattle.kfs_path.specs.declared.call.Call.{Call}
use Rattle.kfs_path.specs.declared.call.Call.TheVariants as calls
use Rattle.kfs_path.specs.declared.call.Cause.{Cause}
use Rattle.kfs_path.specs.declared.call.Errno.{Errno}
use Rattle.kfs_path.specs.declared.call.Errno.TheVariants.{EBADF, EMFILE, EINVAL, EOVERFLOW}
use Rattle.kfs_path.specs.declared.call.Reply.{Reply}
use Rattle.kfs_path.specs.declared.call.Reply.TheVariants as replies
use Rattle.kfs_path.specs.declared.call.Whence.{Whence}
use Rattle.kfs_model.specs.declared.Line.TheVariants as lines
use Rattle.kfs_model.specs.declared.Answer.TheVariants as answers
use Rattle.kfs_model.specs.Ladder.{◌>>=◌, ◌>>◌, ◌when◌}
use Rattle.kfs_model.specs.Tree.{Tree, Limits}
use Rattle.kfs_model.specs.Desk.{Desk, lowest_free}
use Rattle.kfs_model.specs.Step.{World, step, or_else, is_negative, natural}
use Rattle.kfs_model.specs.Change.{weight, commits}
use Rattle.kfs_core.specs.Core.{KfsState, tx_in}
use Rattle.kfs_posix.specs.declared.open_files.OpenFile.{OpenFile}
use Rattle.kfs_posix.specs.Opens.{Opens, desk_of, open_at, with_descriptor, with_file}
use Rattle.kfs_posix.specs.Holding.{Holds}
use Rattle.kfs_posix.specs.Turning.{Turn, turned, dup_in, lseek_in, fstat_in, base, at_offset}
use Rattle.kfs_posix.specs.Volume.{Volume, SessionState, state_of, volume_of, limits_of}
use Rattle.kfs_posix.specs.Showing.{GoesOn}
use Rattle.kfs_posix.proofs.Held.{world_in, after_in, dup_same, dup_holds, lseek_same, lseek_holds, fstat_same, fstat_files}
use Rattle.kfs_posix.proofs.Going.{spare, spare_free, turn_goes}
use Rattle.kfs_posix.proofs.Events.{IsAnswer, Happens, answered, same_machine}

-- what a call does to a world, by what it does to the open files
pub record Turns (o : Opens) (call : Call) (r : Result Turn Errno) : Type 0 where
  pub step_is : (k : Limits) (d : ℕ) (t : Tree) → Holds o t → step k d (world_in t o) call ≡ after_in t (turned o r)
  pub weighs : (w : World) (desk : Desk) (reply : Reply) → weight w call (record { world = record { tree = w.tree; desk = desk }; reply = reply }) ≡ None
  pub quiet : (reply : Reply) → commits call reply ≡ false
  pub holds : (t : Tree) → Holds o t → Holds (turned o r).files t
  pub answers : IsAnswer (turned o r).reply

pub dup_turns : (o : Opens) (fd : ℕ) → Turns o (calls.Dup fd) (dup_in o fd)
dup_turns o fd = record {
  step_is = λ k d t holds. dup_same t o fd;
  weighs = λ w desk reply. refl;
  quiet = λ reply. refl;
  holds = λ t. dup_holds t o fd;
  answers = by (open_at o fd) (lowest_free (desk_of o));
}
  where
    by : (x : Option (ℕ × OpenFile)) (y : Option ℕ) → IsAnswer (turned o (or_else x EBADF >>= λ it. or_else y EMFILE >>= λ new. Ok (record { files = with_descriptor o new it.0; reply = replies.Number new }))).reply
    by None y = tt
    by (Some it) None = tt
    by (Some it) (Some new) = tt

pub lseek_turns : (o : Opens) (fd : ℕ) (whence : Whence) (offset : ℤ) → Turns o (calls.Lseek fd whence offset) (lseek_in o fd whence offset)
lseek_turns o fd whence offset = record {
  step_is = λ k d t holds. lseek_same t o fd whence offset holds;
  weighs = λ w desk reply. refl;
  quiet = λ reply. refl;
  holds = λ t. lseek_holds t o fd whence offset;
  answers = by (open_at o fd);
}
  where
    tail : (it : ℕ × OpenFile) (to : ℤ) (a b : Bool) → IsAnswer (turned o ((EINVAL when a) >> ((EOVERFLOW when b) >> Ok (record { files = with_file o it.0 (at_offset it.1 (natural to)); reply = replies.Number (natural to) })))).reply
    tail it to true b = tt
    tail it to false true = tt
    tail it to false false = tt

    by : (x : Option (ℕ × OpenFile)) → IsAnswer (turned o (or_else x EBADF >>= λ it. (EINVAL when is_negative (pos (base it.1 whence) +ℤ offset)) >> ((EOVERFLOW when nat_le (2 ^ 63) (natural (pos (base it.1 whence) +ℤ offset)))
        >> Ok (record { files = with_file o it.0 (at_offset it.1 (natural (pos (base it.1 whence) +ℤ offset))); reply = replies.Number (natural (pos (base it.1 whence) +ℤ offset)) })))).reply
    by None = tt
    by (Some it) = let to = pos (base it.1 whence) +ℤ offset in tail it to (is_negative to) (nat_le (2 ^ 63) (natural to))

pub fstat_turns : (o : Opens) (fd : ℕ) → Turns o (calls.Fstat fd) (fstat_in o fd)
fstat_turns o fd = record {
  step_is = λ k d t holds. fstat_same t o fd holds;
  weighs = λ w desk reply. refl;
  quiet = λ reply. refl;
  holds = λ t holds. subst (λ x. Holds x t) (sym (fstat_files o fd)) holds;
  answers = by (open_at o fd);
}
  where
    told : (f : OpenFile) (b : Bool) → IsAnswer (cond b (replies.File f.it.node f.length) (replies.Dir f.it.node))
    told f true = tt
    told f false = tt

    by : (x : Option (ℕ × OpenFile)) → IsAnswer (turned o (or_else x EBADF >>= λ it. Ok (record { files = o; reply = cond it.1.file (replies.File it.1.it.node it.1.length) (replies.Dir it.1.it.node) }))).reply
    by None = tt
    by (Some it) = told it.1 it.1.file

-- ---- of a session

module _ (old : SessionState) (k0 : KfsState) (o o1 : Opens) (d : Option Cause) (is : state_of k0 o d ≡ old) (up : d ≡ None) (call : Call) (reply : Reply) (r : Result Turn Errno) (turns : Turns o call r) (done : record { files = o1; reply = reply } ≡ turned o r) where
  abbrev b : Volume
  b = volume_of k0 o d

  pub turned_happens : Happens old call reply k0 o1 d
  turned_happens =
      let turn = turned o r in
      let goes : GoesOn b (lines.Call call) (answers.Reply turn.reply) (record b { files = turn.files }) =
      turn_goes b turn.files call turn.reply (spare b) (spare_free b) up (turns.quiet turn.reply) (λ live sh. (
        (λ i. step (limits_of b) (spare b) (record { tree = live.world.tree; desk = sh.desk i }) call) ∙ turns.step_is (limits_of b) (spare b) live.world.tree sh.holds,
        turns.weighs live.world (desk_of turn.files) turn.reply,
        turns.holds live.world.tree sh.holds,
      )) in
      answered old k0 k0 o o1 d is up call reply (subst (λ (x : Turn). IsAnswer x.reply) (sym done) turns.answers) (tx_in k0) k0.charge k0.chunks o1 (same_machine (tx_in k0)) refl refl refl
      (subst (λ (x : Turn). GoesOn b (lines.Call call) (answers.Reply x.reply) (record b { files = x.files })) (sym done) goes)
