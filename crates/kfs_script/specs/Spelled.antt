-- The spelling of a line: the one of its numbers, and of its bytes the one that answers use too.
use Rattle.std.specs.Prelude.{ℕ, ◌≡◌, ◌<◌, ◌≤◌, ◌+◌, ◌-◌, ◌^◌, Bool, true, ◌||◌, List, [], ◌∷◌, ◌++◌, length, codes, ◌/◌, ◌%◌, if◌then◌else◌, ◌==◌, ℤ, pos, negsuc}
use Rattle.std.specs.List.{AllByRecursion}
use Rattle.std.specs.Fmt.{decimal, signed_decimal}
use Rattle.kfs_path.specs.declared.call.Call.{Call}
use Rattle.kfs_path.specs.declared.call.Call.TheVariants as calls
use Rattle.kfs_path.specs.declared.call.Data.{Data}
use Rattle.kfs_path.specs.declared.call.Data.TheVariants.{Plain, Fill}
use Rattle.kfs_path.specs.declared.call.Flags.{Flags}
use Rattle.kfs_path.specs.declared.call.Whence.{Whence}
use Rattle.kfs_path.specs.declared.call.Whence.TheVariants as whences
use Rattle.kfs_model.specs.declared.Line.{Line}
use Rattle.kfs_model.specs.declared.Line.TheVariants as lines
use Rattle.kfs_script.specs.AnswerText.{esc, hex_digit, and_number}

-- a space and a word
abbrev pub and_word : List ℕ → List ℕ
and_word word = 32 ∷ word

abbrev pub outcome_text : ℕ → List ℕ
outcome_text how = if how == 0 then codes "none" else if how == 1 then codes "part" else if how == 2 then codes "mix" else codes "all"

abbrev pub kind_text : ℕ → List ℕ
kind_text kind = if kind == 0 then codes "read" else if kind == 1 then codes "program" else codes "erase"

abbrev pub whence_text : Whence → List ℕ
whence_text whences.Set = codes "set"
whence_text whences.Cur = codes "cur"
whence_text whences.End = codes "end"

abbrev pub only_if : Bool → List ℕ → List ℕ
only_if test text = if test then text else []

abbrev pub flags_text : Flags → List ℕ
flags_text flags = only_if flags.read (codes "r") ++ only_if flags.write (codes "w") ++ only_if flags.creat (codes "+creat") ++ only_if flags.excl (codes "+excl") ++ only_if flags.trunc (codes "+trunc") ++ only_if flags.append (codes "+append")

abbrev pub byte_text : ℕ → List ℕ
byte_text byte = hex_digit (byte / 16) ∷ hex_digit (byte % 16) ∷ []

abbrev pub data_text : Data → List ℕ
data_text (Plain bytes) = codes "t:" ++ esc bytes
data_text (Fill count byte) = codes "f:" ++ decimal count ++ codes ":" ++ byte_text byte

abbrev pub call_text : Call → List ℕ
call_text (calls.Open path flags) = codes "open" ++ and_word (esc path) ++ and_word (flags_text flags)
call_text (calls.Close fd) = codes "close" ++ and_number fd
call_text (calls.Dup fd) = codes "dup" ++ and_number fd
call_text (calls.Read fd count) = codes "read" ++ and_number fd ++ and_number count
call_text (calls.Write fd bytes) = codes "write" ++ and_number fd ++ and_word (data_text bytes)
call_text (calls.Pread fd count offset) = codes "pread" ++ and_number fd ++ and_number count ++ and_word (signed_decimal offset)
call_text (calls.Pwrite fd bytes offset) = codes "pwrite" ++ and_number fd ++ and_word (data_text bytes) ++ and_word (signed_decimal offset)
call_text (calls.Lseek fd whence offset) = codes "lseek" ++ and_number fd ++ and_word (whence_text whence) ++ and_word (signed_decimal offset)
call_text (calls.Truncate path size) = codes "truncate" ++ and_word (esc path) ++ and_word (signed_decimal size)
call_text (calls.Ftruncate fd size) = codes "ftruncate" ++ and_number fd ++ and_word (signed_decimal size)
call_text (calls.Mkdir path) = codes "mkdir" ++ and_word (esc path)
call_text (calls.Rmdir path) = codes "rmdir" ++ and_word (esc path)
call_text (calls.Unlink path) = codes "unlink" ++ and_word (esc path)
call_text (calls.Rename old new) = codes "rename" ++ and_word (esc old) ++ and_word (esc new)
call_text (calls.Stat path) = codes "stat" ++ and_word (esc path)
call_text (calls.Fstat fd) = codes "fstat" ++ and_number fd
call_text (calls.List path) = codes "list" ++ and_word (esc path)
call_text (calls.Fsync fd) = codes "fsync" ++ and_number fd
call_text calls.Sync = codes "sync"
call_text calls.Room = codes "@room"
call_text calls.Tree = codes "@tree"
call_text (calls.Work n) = codes "@work" ++ and_number n

-- a line as it is written
abbrev pub spelled : Line → List ℕ
spelled (lines.Format blocks) = codes "@format" ++ and_number blocks
spelled lines.Mount = codes "@mount"
spelled (lines.Cut n how) = codes "@cut" ++ and_number n ++ and_word (outcome_text how)
spelled (lines.Fail kind n) = codes "@fail" ++ and_word (kind_text kind) ++ and_number n
spelled (lines.Call call) = call_text call

-- bytes have eight bits
abbrev pub AreBytes : List ℕ → Type 0
AreBytes bytes = AllByRecursion (λ b. b < 256) bytes

-- below 2^63 without its sign
abbrev pub IsOffset : ℤ → Type 0
IsOffset (pos n) = n ≤ 2 ^ 63 - 1
IsOffset (negsuc n) = n + 1 ≤ 2 ^ 63 - 1

-- at most 1,048,576 bytes
abbrev pub FitsData : Data → Type 0
FitsData (Plain bytes) = AreBytes bytes × (length bytes ≤ 1048576)
FitsData (Fill count byte) = (count ≤ 1048576) × (byte < 256)

-- reading or writing is among them
abbrev pub FitsFlags : Flags → Type 0
FitsFlags flags = (flags.read || flags.write) ≡ true

-- the numbers are at most 1,000,000,000, counts at most 1,048,576
abbrev pub FitsCall : Call → Type 0
FitsCall (calls.Open path flags) = AreBytes path × FitsFlags flags
FitsCall (calls.Close fd) = fd ≤ 1000000000
FitsCall (calls.Dup fd) = fd ≤ 1000000000
FitsCall (calls.Read fd count) = (fd ≤ 1000000000) × (count ≤ 1048576)
FitsCall (calls.Write fd bytes) = (fd ≤ 1000000000) × FitsData bytes
FitsCall (calls.Pread fd count offset) = (fd ≤ 1000000000) × (count ≤ 1048576) × IsOffset offset
FitsCall (calls.Pwrite fd bytes offset) = (fd ≤ 1000000000) × FitsData bytes × IsOffset offset
FitsCall (calls.Lseek fd whence offset) = (fd ≤ 1000000000) × IsOffset offset
FitsCall (calls.Truncate path size) = AreBytes path × IsOffset size
FitsCall (calls.Ftruncate fd size) = (fd ≤ 1000000000) × IsOffset size
FitsCall (calls.Mkdir path) = AreBytes path
FitsCall (calls.Rmdir path) = AreBytes path
FitsCall (calls.Unlink path) = AreBytes path
FitsCall (calls.Rename old new) = AreBytes old × AreBytes new
FitsCall (calls.Stat path) = AreBytes path
FitsCall (calls.Fstat fd) = fd ≤ 1000000000
FitsCall (calls.List path) = AreBytes path
FitsCall (calls.Fsync fd) = fd ≤ 1000000000
FitsCall calls.Sync = Unit {0}
FitsCall calls.Room = Unit {0}
FitsCall calls.Tree = Unit {0}
FitsCall (calls.Work n) = n ≤ 1000000000

-- what a line's call holds has a spelling
abbrev pub Fits : Line → Type 0
Fits (lines.Call call) = FitsCall call
Fits line = Unit {0}
