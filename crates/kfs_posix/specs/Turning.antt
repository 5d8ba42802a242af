-- Calls on the open files alone.
use Rattle.std.specs.Prelude.{ℕ, Result, Ok, Err, ℤ, pos, ◌+ℤ◌, ◌^◌, nat_le, if◌then◌else◌}
use Rattle.kfs_path.specs.declared.call.Errno.{Errno}
use Rattle.kfs_path.specs.declared.call.Errno.TheVariants.{EBADF, EMFILE, EINVAL, EOVERFLOW}
use Rattle.kfs_path.specs.declared.call.Reply.{Reply}
use Rattle.kfs_path.specs.declared.call.Reply.TheVariants as replies
use Rattle.kfs_path.specs.declared.call.Whence.{Whence}
use Rattle.kfs_path.specs.declared.call.Whence.TheVariants.{Set, Cur, End}
use Rattle.kfs_model.specs.Ladder.{◌>>=◌, ◌>>◌, ◌when◌}
use Rattle.kfs_model.specs.Desk.{lowest_free}
use Rattle.kfs_model.specs.Step.{or_else, is_negative, natural, with_offset}
use Rattle.kfs_posix.specs.declared.open_files.OpenFile.{OpenFile}
use Rattle.kfs_posix.specs.Opens.{Opens, open_at, desk_of, with_descriptor, with_file}

-- what is open after a call, and its reply
pub record Turn : Type 0 where
  pub files : Opens
  pub reply : Reply

-- an error changes nothing
abbrev pub turned : Opens → Result Turn Errno → Turn
turned o (Ok turn) = turn
turned o (Err e) = record { files = o; reply = replies.Err e }

-- the same open file at another offset
abbrev pub at_offset : OpenFile → ℕ → OpenFile
at_offset f p = record f { it = with_offset f.it p }

-- from where an offset counts
abbrev pub base : OpenFile → Whence → ℕ
base f Set = 0
base f Cur = f.it.offset
base f End = f.length

abbrev pub dup_in : Opens → ℕ → Result Turn Errno
dup_in o fd = do
  it ← or_else (open_at o fd) EBADF
  new ← or_else (lowest_free (desk_of o)) EMFILE
  Ok (record { files = with_descriptor o new it.0; reply = replies.Number new })

abbrev pub lseek_in : Opens → ℕ → Whence → ℤ → Result Turn Errno
lseek_in o fd whence offset = do
  it ← or_else (open_at o fd) EBADF
  EINVAL when is_negative (pos (base it.1 whence) +ℤ offset)
  EOVERFLOW when nat_le (2 ^ 63) (natural (pos (base it.1 whence) +ℤ offset))
  Ok (record { files = with_file o it.0 (at_offset it.1 (natural (pos (base it.1 whence) +ℤ offset))); reply = replies.Number (natural (pos (base it.1 whence) +ℤ offset)) })

abbrev pub fstat_in : Opens → ℕ → Result Turn Errno
fstat_in o fd = do
  it ← or_else (open_at o fd) EBADF
  Ok (record { files = o; reply = if it.1.file then replies.File it.1.it.node it.1.length else replies.Dir it.1.it.node })
