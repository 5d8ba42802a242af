-- A write of one byte so many times is the write of those bytes.
use Rattle.std.proofs.Common.{◌≡◌, ℕ, ◌<◌, ◌&&◌, ◌⊎◌, inl, inr, true, false, not, min, refl, sym, ◌∙◌, ap, subst, arith, List, length, replicate, Err, nat_lt, ℤ}
use Rattle.std.proofs.lemmas.Bool.Decides.{nat_tests}
use Rattle.std.proofs.lemmas.Bool.{cases_lt}
use Rattle.std.proofs.lemmas.List.{length-replicate}
use Rattle.kfs_path.specs.declared.call.Call.TheVariants as calls
use Rattle.kfs_path.specs.declared.call.Data.{Data}
use Rattle.kfs_path.specs.declared.call.Data.TheVariants.{Plain, Fill}
use Rattle.kfs_path.specs.declared.call.Errno.TheVariants.{EBADF, EINVAL}
use Rattle.kfs_path.specs.declared.call.Cause.{Cause}
use Rattle.kfs_path.specs.declared.call.Reply.{Reply}
use Rattle.kfs_path.specs.declared.call.Reply.TheVariants as replies
use Rattle.std.specs.Prelude.{IsTrue}
use Rattle.kfs_model.specs.declared.Description.{Description}
use Rattle.kfs_model.specs.declared.Line.TheVariants as lines
use Rattle.kfs_model.specs.declared.Answer.TheVariants as answers
use Rattle.kfs_model.specs.Ladder.{◌>>=◌, ◌>>◌, ◌when◌}
use Rattle.kfs_model.specs.Tree.{Limits}
use Rattle.kfs_model.specs.Desk.{opened}
use Rattle.kfs_model.specs.Step.{World, After, settled, step, or_else, writes, bytes_of, greatest_count, is_negative, natural, leaves}
use Rattle.kfs_model.specs.Life.{State, Now, Up, Down, EventAt, with_now, live_after, is_armed, disarmed, fallen, can_fail}
use Rattle.kfs_posix.specs.Volume.{Volume, limits_of}
use Rattle.kfs_posix.specs.Showing.{GoesOn}

-- ---- writes of too many bytes are refused alike

long_writes : (k : Limits) (w : World) (it : ℕ × Description) (given : List ℕ) → nat_lt greatest_count (length given) ≡ true → writes k w it given ≡ Err EINVAL
long_writes k w it given long = rw long refl

abbrev SameBytes : List ℕ → List ℕ → Type 0
SameBytes x y = (x ≡ y) ⊎ ((nat_lt greatest_count (length x) ≡ true) × (nat_lt greatest_count (length y) ≡ true))

same_writes : (k : Limits) (w : World) (it : ℕ × Description) (x y : List ℕ) → SameBytes x y → writes k w it x ≡ writes k w it y
same_writes k w it x y (inl e) = ap (writes k w it) e
same_writes k w it x y (inr h) = long_writes k w it x h.0 ∙ sym (long_writes k w it y h.1)

write_steps : (k : Limits) (d : ℕ) (w : World) (fd : ℕ) (x y : Data) → SameBytes (bytes_of x) (bytes_of y) → step k d w (calls.Write fd x) ≡ step k d w (calls.Write fd y)
write_steps k d w fd x y same = λ i. settled w (or_else (opened w.desk fd) EBADF >>= λ it. (EBADF when not it.1.write) >> same_writes k w it (bytes_of x) (bytes_of y) same i)

abbrev pointed : ℕ × Description → ℤ → ℕ × Description
pointed it offset = (it.0, record { node = it.1.node; offset = natural offset; read = it.1.read; write = true; append = false })

pwrite_steps : (k : Limits) (d : ℕ) (w : World) (fd : ℕ) (x y : Data) (offset : ℤ) → SameBytes (bytes_of x) (bytes_of y) → step k d w (calls.Pwrite fd x offset) ≡ step k d w (calls.Pwrite fd y offset)
pwrite_steps k d w fd x y offset same =
    λ i. settled w (or_else (opened w.desk fd) EBADF >>= λ it. (EBADF when not it.1.write) >> ((EINVAL when is_negative offset) >> (same_writes k w (pointed it offset) (bytes_of x) (bytes_of y) same i >>= λ after. leaves w after.world.tree after.reply)))

-- ---- events

write_event : (k : Limits) (s : State) (now : Now) (fd : ℕ) (x y : Data) (reply : Reply) (t : State) → SameBytes (bytes_of x) (bytes_of y) → EventAt k s now (lines.Call (calls.Write fd x)) (answers.Reply reply) t → EventAt k s now (lines.Call (calls.Write fd y)) (answers.Reply reply) t
write_event k s (Up live) fd x y reply t same (d, free, h) = (
  d,
  free,
  subst (λ (after : After). ((reply ≡ after.reply) × (t ≡ with_now s (Up (live_after live (calls.Write fd y) after))))
      ⊎ ((cause : Cause) × (reply ≡ replies.Down cause) × IsTrue (is_armed s cause && can_fail live.world (calls.Write fd y) cause) × (t ≡ disarmed s cause (fallen live (calls.Write fd y) after)))) (write_steps k d live.world fd x y same) h,
)
write_event k s (Down past may) fd x y reply t same h = h

pwrite_event : (k : Limits) (s : State) (now : Now) (fd : ℕ) (x y : Data) (offset : ℤ) (reply : Reply) (t : State) → SameBytes (bytes_of x) (bytes_of y) → EventAt k s now (lines.Call (calls.Pwrite fd x offset)) (answers.Reply reply) t → EventAt k s now (lines.Call (calls.Pwrite fd y offset)) (answers.Reply reply) t
pwrite_event k s (Up live) fd x y offset reply t same (d, free, h) = (
  d,
  free,
  subst (λ (after : After). ((reply ≡ after.reply) × (t ≡ with_now s (Up (live_after live (calls.Pwrite fd y offset) after))))
      ⊎ ((cause : Cause) × (reply ≡ replies.Down cause) × IsTrue (is_armed s cause && can_fail live.world (calls.Pwrite fd y offset) cause) × (t ≡ disarmed s cause (fallen live (calls.Pwrite fd y offset) after)))) (pwrite_steps k d live.world fd x y offset same) h,
)
pwrite_event k s (Down past may) fd x y offset reply t same h = h

-- ---- one byte so many times

filled_same : (count byte : ℕ) → SameBytes (replicate (min count 1048577) byte) (replicate count byte)
filled_same count byte = elim (cases_lt count 1048577) [
  | inl few ↦ inl (let e : min count 1048577 ≡ count = omega arith in ap (λ c. replicate c byte) e)
  | inr many ↦ inr (long (min count 1048577) (omega arith), long count (omega arith))
]
  where
    long : (c : ℕ) → 1048576 < c → nat_lt greatest_count (length (replicate c byte)) ≡ true
    long c gt = let e : nat_lt greatest_count c ≡ true = grind (arith, nat_tests) in ap (nat_lt greatest_count) (length-replicate c byte) ∙ e

pub filled_goes : (old new : Volume) (fd count byte : ℕ) (bytes : List ℕ) (reply : Reply) → bytes ≡ replicate (min count 1048577) byte → GoesOn old (lines.Call (calls.Write fd (Plain bytes))) (answers.Reply reply) new → GoesOn old (lines.Call (calls.Write fd (Fill count byte))) (answers.Reply reply) new
filled_goes old new fd count byte bytes reply is goes = record {
  each = λ s shows.
      let e = goes.each s shows in
      (e.0, write_event (limits_of old) s s.now fd (Plain bytes) (Fill count byte) reply e.0 (subst (λ x. SameBytes x (replicate count byte)) (sym is) (filled_same count byte)) e.1, e.2, e.3);
}

pub pfilled_goes : (old new : Volume) (fd count byte : ℕ) (offset : ℤ) (bytes : List ℕ) (reply : Reply) → bytes ≡ replicate (min count 1048577) byte → GoesOn old (lines.Call (calls.Pwrite fd (Plain bytes) offset)) (answers.Reply reply) new
    → GoesOn old (lines.Call (calls.Pwrite fd (Fill count byte) offset)) (answers.Reply reply) new
pfilled_goes old new fd count byte offset bytes reply is goes = record {
  each = λ s shows.
      let e = goes.each s shows in
      (e.0, pwrite_event (limits_of old) s s.now fd (Plain bytes) (Fill count byte) offset reply e.0 (subst (λ x. SameBytes x (replicate count byte)) (sym is) (filled_same count byte)) e.1, e.2, e.3);
}
