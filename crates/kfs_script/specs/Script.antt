-- The text of a script: which bytes spell which lines.
use Rattle.std.specs.Prelude.{ℕ, ◌+◌, ◌-◌, ◌*◌, ◌^◌, zero, suc, ◌≡◌, ◌≤◌, Bool, true, false, not, ◌&&◌, ◌||◌, ◌==◌, nat_le, if◌then◌else◌, List, [], ◌∷◌, ◌++◌, length, take, drop, codes, Option, Some, None, Result, Ok, Err, ℤ, pos, negsuc}
use Rattle.std.specs.List.{slice_split, list_all, All}
use Rattle.std.specs.Str.{bytes_eq}
use Rattle.kfs_path.specs.declared.call.Call.{Call}
use Rattle.kfs_path.specs.declared.call.Call.TheVariants as calls
use Rattle.kfs_path.specs.declared.call.Data.{Data}
use Rattle.kfs_path.specs.declared.call.Data.TheVariants.{Plain, Fill}
use Rattle.kfs_path.specs.declared.call.Flags.{Flags}
use Rattle.kfs_path.specs.declared.call.Whence.{Whence}
use Rattle.kfs_path.specs.declared.call.Whence.TheVariants as whences
use Rattle.kfs_model.specs.declared.Line.{Line}
use Rattle.kfs_model.specs.declared.Line.TheVariants as lines
use Rattle.kfs_script.specs.declared.command.Command.{Command}
use Rattle.kfs_script.specs.declared.command.Command.TheVariants as commands
use Rattle.kfs_script.specs.declared.command.PathCommand.{PathCommand}
use Rattle.kfs_script.specs.declared.command.PathCommand.TheVariants as paths
use Rattle.kfs_script.specs.declared.command.NumberCommand.{NumberCommand}
use Rattle.kfs_script.specs.declared.command.NumberCommand.TheVariants as numbers
use Rattle.kfs_script.specs.declared.command.BareCommand.{BareCommand}
use Rattle.kfs_script.specs.declared.command.BareCommand.TheVariants as bare

infixl 10 ◌>>=◌
abbrev pub ◌>>=◌ : {A B : Type 0} → Option A → (A → Option B) → Option B
None >>= f = None
(Some x) >>= f = f x

-- what stands between the places of a byte
abbrev pub pieces_at : ℕ → List ℕ → List (List ℕ)
pieces_at mark bytes = slice_split (λ b. b == mark) bytes

-- the lines; behind the last newline stands an empty one, which is skipped like all that are empty
abbrev pub lines_of : List ℕ → List (List ℕ)
lines_of bytes = pieces_at 10 bytes

-- an empty line, or a comment
abbrev pub is_skipped : List ℕ → Bool
is_skipped [] = true
is_skipped (b ∷ bs) = b == 35

-- the words of a line
abbrev pub words_of : List ℕ → List (List ℕ)
words_of line = pieces_at 32 line

-- what follows a text with which a word begins
abbrev pub behind : List ℕ → List ℕ → Option (List ℕ)
behind front word = if bytes_eq (take (length front) word) front then Some (drop (length front) word) else None

abbrev pub is_digit : ℕ → Bool
is_digit b = nat_le 48 b && nat_le b 57

-- the number that digits spell, behind that of the digits before them
abbrev pub number_on : ℕ → List ℕ → ℕ
number_on n [] = n
number_on n (d ∷ ds) = number_on (10 * n + (d - 48)) ds

-- digits, none of them a leading zero
abbrev pub is_number : List ℕ → Bool
is_number [] = false
is_number (d ∷ []) = is_digit d
is_number (d ∷ e ∷ ds) = not (d == 48) && list_all is_digit (d ∷ e ∷ ds)

-- a number up to a limit
unfoldable pub number_to : ℕ → List ℕ → Option ℕ
number_to limit word = if is_number word && nat_le (number_on 0 word) limit then Some (number_on 0 word) else None

-- a number of a line
abbrev pub number_of : List ℕ → Option ℕ
number_of word = number_to 1000000000 word

abbrev pub from_one : ℕ → Option ℕ
from_one n = if n == 0 then None else Some n

-- a number of a line from 1 on
unfoldable pub times_of : List ℕ → Option ℕ
times_of word = number_of word >>= from_one

-- how many bytes a call moves
abbrev pub count_of : List ℕ → Option ℕ
count_of word = number_to 1048576 word

abbrev pub negative : ℕ → Option ℤ
negative zero = None
negative (suc n) = Some (negsuc n)

abbrev pub int_by : List ℕ → Option (List ℕ) → Option ℤ
int_by word None = number_to (2 ^ 63 - 1) word >>= λ n. Some (pos n)
int_by word (Some digits) = number_to (2 ^ 63 - 1) digits >>= negative

-- a number below 2 ^ 63, with a minus before it where it isn't 0
unfoldable pub int_of : List ℕ → Option ℤ
int_of word = int_by word (behind (codes "-") word)

-- a digit of an escape: 0 to 9, A to F
unfoldable pub hex_of : ℕ → Option ℕ
hex_of d = if is_digit d then Some (d - 48) else if nat_le 65 d && nat_le d 70 then Some (d - 55) else None

unfoldable pub byte_of : ℕ → ℕ → Option ℕ
byte_of high low = do
  h ← hex_of high
  l ← hex_of low
  Some (16 * h + l)

-- a byte that stands for itself: 33 to 126 other than `%`
abbrev pub is_plain : ℕ → Bool
is_plain b = nat_le 33 b && nat_le b 126 && not (b == 37)

abbrev pub plain : ℕ → Option ℕ
plain b = if is_plain b then Some b else None

abbrev pub onto : Option ℕ → Option (List ℕ) → Option (List ℕ)
onto None rest = None
onto (Some b) rest = rest >>= λ bytes. Some (b ∷ bytes)

-- the bytes of a word: those that stand for themselves as they are, any as `%` and two digits
abbrev pub esc_of : List ℕ → Option (List ℕ)
esc_of [] = Some []
esc_of (b ∷ []) = onto (plain b) (Some [])
esc_of (b ∷ h ∷ []) = onto (plain b) (esc_of (h ∷ []))
esc_of (b ∷ h ∷ l ∷ rest) = if b == 37 then onto (byte_of h l) (esc_of rest) else onto (plain b) (esc_of (h ∷ l ∷ rest))

-- the one word, two or three words that a command takes
abbrev pub one : List (List ℕ) → Option (List ℕ)
one [] = None
one (v ∷ []) = Some v
one (v ∷ w ∷ more) = None

abbrev pub two : List (List ℕ) → Option (List ℕ × List ℕ)
two [] = None
two (v ∷ []) = None
two (v ∷ w ∷ []) = Some (v, w)
two (v ∷ w ∷ x ∷ more) = None

abbrev pub three : List (List ℕ) → Option (List ℕ × List ℕ × List ℕ)
three [] = None
three (v ∷ []) = None
three (v ∷ w ∷ []) = None
three (v ∷ w ∷ x ∷ []) = Some (v, w, x)
three (v ∷ w ∷ x ∷ y ∷ more) = None

-- at most 1,048,576 bytes
unfoldable pub plain_data : List ℕ → Option Data
plain_data word = do
  bytes ← esc_of word
  if nat_le (length bytes) 1048576 then Some (Plain bytes) else None

abbrev pub byte_at : List ℕ → Option ℕ
byte_at [] = None
byte_at (h ∷ []) = None
byte_at (h ∷ l ∷ []) = byte_of h l
byte_at (h ∷ l ∷ b ∷ more) = None

-- so many times one byte
unfoldable pub fill_data : List ℕ → Option Data
fill_data word = do
  parts ← two (pieces_at 58 word)
  count ← count_of parts.0
  byte ← byte_at parts.1
  Some (Fill count byte)

abbrev pub data_by : Option (List ℕ) → Option (List ℕ) → Option Data
data_by (Some bytes) fill = plain_data bytes
data_by None (Some fill) = fill_data fill
data_by None None = None

-- `t:` and the bytes, or `f:`, a number, a colon and the byte that stands so many times
unfoldable pub data_of : List ℕ → Option Data
data_of word = data_by (behind (codes "t:") word) (behind (codes "f:") word)

-- whether a part that may stand or not stands in front, and what follows
abbrev pub part_by : List ℕ → Option (List ℕ) → Bool × List ℕ
part_by word None = (false, word)
part_by word (Some rest) = (true, rest)

unfoldable pub part : List ℕ → List ℕ → Bool × List ℕ
part text word = part_by word (behind text word)

-- a word's parts in their order, each at most once
unfoldable pub flags_of : List ℕ → Option Flags
flags_of word =
    let reading = part (codes "r") word in
    let writing = part (codes "w") reading.1 in
    let creat = part (codes "+creat") writing.1 in
    let excl = part (codes "+excl") creat.1 in
    let trunc = part (codes "+trunc") excl.1 in
    let append = part (codes "+append") trunc.1 in
    if (reading.0 || writing.0) && (length append.1 == 0)
    then Some (record { read = reading.0; write = writing.0; creat = creat.0; excl = excl.0; trunc = trunc.0; append = append.0 })
    else None

unfoldable pub whence_of : List ℕ → Option Whence
whence_of word =
    if bytes_eq word (codes "set") then Some whences.Set else
    if bytes_eq word (codes "cur") then Some whences.Cur else
    if bytes_eq word (codes "end") then Some whences.End else
    None

-- what a cut leaves: 0 nothing of the operation, 1 a part, 2 a mix, 3 all
unfoldable pub outcome_of : List ℕ → Option ℕ
outcome_of word =
    if bytes_eq word (codes "none") then Some 0 else
    if bytes_eq word (codes "part") then Some 1 else
    if bytes_eq word (codes "mix") then Some 2 else
    if bytes_eq word (codes "all") then Some 3 else
    None

-- which operation fails: 0 a read, 1 a program, 2 an erase
unfoldable pub kind_of : List ℕ → Option ℕ
kind_of word =
    if bytes_eq word (codes "read") then Some 0 else
    if bytes_eq word (codes "program") then Some 1 else
    if bytes_eq word (codes "erase") then Some 2 else
    None

unfoldable pub blocks_of : List ℕ → Option ℕ
blocks_of word = do
  n ← number_to 2048 word
  if nat_le 256 n then Some n else None

-- the commands, by their words
unfoldable pub path_command : List ℕ → Option PathCommand
path_command word =
    if bytes_eq word (codes "mkdir") then Some paths.Mkdir else
    if bytes_eq word (codes "rmdir") then Some paths.Rmdir else
    if bytes_eq word (codes "unlink") then Some paths.Unlink else
    if bytes_eq word (codes "stat") then Some paths.Stat else
    if bytes_eq word (codes "list") then Some paths.List else
    None

unfoldable pub number_command : List ℕ → Option NumberCommand
number_command word =
    if bytes_eq word (codes "close") then Some numbers.Close else
    if bytes_eq word (codes "dup") then Some numbers.Dup else
    if bytes_eq word (codes "fstat") then Some numbers.Fstat else
    if bytes_eq word (codes "fsync") then Some numbers.Fsync else
    if bytes_eq word (codes "@work") then Some numbers.Work else
    None

unfoldable pub bare_command : List ℕ → Option BareCommand
bare_command word =
    if bytes_eq word (codes "sync") then Some bare.Sync else
    if bytes_eq word (codes "@mount") then Some bare.Mount else
    if bytes_eq word (codes "@tree") then Some bare.Tree else
    if bytes_eq word (codes "@room") then Some bare.Room else
    None

unfoldable pub other_command : List ℕ → Option Command
other_command word =
    if bytes_eq word (codes "open") then Some commands.Open else
    if bytes_eq word (codes "read") then Some commands.Read else
    if bytes_eq word (codes "write") then Some commands.Write else
    if bytes_eq word (codes "pread") then Some commands.Pread else
    if bytes_eq word (codes "pwrite") then Some commands.Pwrite else
    if bytes_eq word (codes "lseek") then Some commands.Lseek else
    if bytes_eq word (codes "truncate") then Some commands.Truncate else
    if bytes_eq word (codes "ftruncate") then Some commands.Ftruncate else
    if bytes_eq word (codes "rename") then Some commands.Rename else
    if bytes_eq word (codes "@format") then Some commands.Format else
    if bytes_eq word (codes "@cut") then Some commands.Cut else
    if bytes_eq word (codes "@fail") then Some commands.Fail else
    None

abbrev pub command_by : Option PathCommand → Option NumberCommand → Option BareCommand → Option Command → Option Command
command_by (Some path) number alone other = Some (commands.Path path)
command_by None (Some number) alone other = Some (commands.Number number)
command_by None None (Some alone) other = Some (commands.Bare alone)
command_by None None None other = other

unfoldable pub command_of : List ℕ → Option Command
command_of word = command_by (path_command word) (number_command word) (bare_command word) (other_command word)

abbrev pub path_call : PathCommand → List ℕ → Call
path_call paths.Mkdir path = calls.Mkdir path
path_call paths.Rmdir path = calls.Rmdir path
path_call paths.Unlink path = calls.Unlink path
path_call paths.Stat path = calls.Stat path
path_call paths.List path = calls.List path

abbrev pub number_call : NumberCommand → ℕ → Call
number_call numbers.Close n = calls.Close n
number_call numbers.Dup n = calls.Dup n
number_call numbers.Fstat n = calls.Fstat n
number_call numbers.Fsync n = calls.Fsync n
number_call numbers.Work n = calls.Work n

abbrev pub bare_line : BareCommand → Line
bare_line bare.Sync = lines.Call calls.Sync
bare_line bare.Mount = lines.Mount
bare_line bare.Tree = lines.Call calls.Tree
bare_line bare.Room = lines.Call calls.Room

-- the words of each command that takes some, and its line
unfoldable pub path_form : PathCommand → List (List ℕ) → Option Line
path_form command words = do
  word ← one words
  path ← esc_of word
  Some (lines.Call (path_call command path))

unfoldable pub number_form : NumberCommand → List (List ℕ) → Option Line
number_form command words = do
  word ← one words
  n ← number_of word
  Some (lines.Call (number_call command n))

unfoldable pub bare_form : BareCommand → List (List ℕ) → Option Line
bare_form command [] = Some (bare_line command)
bare_form command (word ∷ more) = None

unfoldable pub open_form : List (List ℕ) → Option Line
open_form words = do
  both ← two words
  path ← esc_of both.0
  flags ← flags_of both.1
  Some (lines.Call (calls.Open path flags))

unfoldable pub read_form : List (List ℕ) → Option Line
read_form words = do
  both ← two words
  fd ← number_of both.0
  count ← count_of both.1
  Some (lines.Call (calls.Read fd count))

unfoldable pub write_form : List (List ℕ) → Option Line
write_form words = do
  both ← two words
  fd ← number_of both.0
  bytes ← data_of both.1
  Some (lines.Call (calls.Write fd bytes))

unfoldable pub pread_form : List (List ℕ) → Option Line
pread_form words = do
  all ← three words
  fd ← number_of all.0
  count ← count_of all.1
  offset ← int_of all.2
  Some (lines.Call (calls.Pread fd count offset))

unfoldable pub pwrite_form : List (List ℕ) → Option Line
pwrite_form words = do
  all ← three words
  fd ← number_of all.0
  bytes ← data_of all.1
  offset ← int_of all.2
  Some (lines.Call (calls.Pwrite fd bytes offset))

unfoldable pub lseek_form : List (List ℕ) → Option Line
lseek_form words = do
  all ← three words
  fd ← number_of all.0
  whence ← whence_of all.1
  offset ← int_of all.2
  Some (lines.Call (calls.Lseek fd whence offset))

unfoldable pub truncate_form : List (List ℕ) → Option Line
truncate_form words = do
  both ← two words
  path ← esc_of both.0
  size ← int_of both.1
  Some (lines.Call (calls.Truncate path size))

unfoldable pub ftruncate_form : List (List ℕ) → Option Line
ftruncate_form words = do
  both ← two words
  fd ← number_of both.0
  size ← int_of both.1
  Some (lines.Call (calls.Ftruncate fd size))

unfoldable pub rename_form : List (List ℕ) → Option Line
rename_form words = do
  both ← two words
  old ← esc_of both.0
  new ← esc_of both.1
  Some (lines.Call (calls.Rename old new))

unfoldable pub format_form : List (List ℕ) → Option Line
format_form words = do
  word ← one words
  blocks ← blocks_of word
  Some (lines.Format blocks)

unfoldable pub cut_form : List (List ℕ) → Option Line
cut_form words = do
  both ← two words
  n ← times_of both.0
  how ← outcome_of both.1
  Some (lines.Cut n how)

unfoldable pub fail_form : List (List ℕ) → Option Line
fail_form words = do
  both ← two words
  kind ← kind_of both.0
  n ← times_of both.1
  Some (lines.Fail kind n)

-- the line of a command with the words behind it
abbrev pub form_of : Command → List (List ℕ) → Option Line
form_of (commands.Path command) words = path_form command words
form_of (commands.Number command) words = number_form command words
form_of (commands.Bare command) words = bare_form command words
form_of commands.Open words = open_form words
form_of commands.Read words = read_form words
form_of commands.Write words = write_form words
form_of commands.Pread words = pread_form words
form_of commands.Pwrite words = pwrite_form words
form_of commands.Lseek words = lseek_form words
form_of commands.Truncate words = truncate_form words
form_of commands.Ftruncate words = ftruncate_form words
form_of commands.Rename words = rename_form words
form_of commands.Format words = format_form words
form_of commands.Cut words = cut_form words
form_of commands.Fail words = fail_form words

abbrev pub line_of_words : List (List ℕ) → Option Line
line_of_words [] = None
line_of_words (word ∷ more) = command_of word >>= λ command. form_of command more

-- the line that the bytes spell, where they spell one
unfoldable pub line_of : List ℕ → Option Line
line_of bytes = line_of_words (words_of bytes)

-- the lines that the grammar can hold
abbrev pub IsLine : Line → Type 0
IsLine (lines.Format blocks) = (256 ≤ blocks) × (blocks ≤ 2048)
IsLine lines.Mount = Unit {0}
IsLine (lines.Cut n how) = (1 ≤ n) × (n ≤ 1000000000) × (how ≤ 3)
IsLine (lines.Fail kind n) = (kind ≤ 2) × (1 ≤ n) × (n ≤ 1000000000)
IsLine (lines.Call call) = Unit {0}

abbrev pub is_format : Line → Bool
is_format (lines.Format blocks) = true
is_format lines.Mount = false
is_format (lines.Cut n how) = false
is_format (lines.Fail kind n) = false
is_format (lines.Call call) = false

-- a format stands as the first line or not at all
abbrev pub IsScript : List Line → Type 0
IsScript ls = All IsLine ls × All (λ line. is_format line ≡ false) (drop 1 ls)

abbrev pub stands_here : Bool → Line → Option Line
stands_here first line = if is_format line && not first then None else Some line

-- the line that the bytes spell in a place; `first` tells that no line stands before it
unfoldable pub line_at : Bool → List ℕ → Option Line
line_at first bytes = line_of bytes >>= stands_here first

abbrev pub alone : ℕ → Option Line → Result (List Line) ℕ
alone number None = Err number
alone number (Some line) = Ok (line ∷ [])

-- what the bytes of the line with this number add
unfoldable pub added : ℕ → Bool → List ℕ → Result (List Line) ℕ
added number first bytes = if is_skipped bytes then Ok [] else alone number (line_at first bytes)

abbrev pub with_front : List Line → Result (List Line) ℕ → Result (List Line) ℕ
with_front front (Ok more) = Ok (front ++ more)
with_front front (Err number) = Err number

abbrev pub followed : Result (List Line) ℕ → (List Line → Result (List Line) ℕ) → Result (List Line) ℕ
followed (Ok front) rest = with_front front (rest front)
followed (Err number) rest = Err number

abbrev pub has_none : List Line → Bool
has_none [] = true
has_none (line ∷ more) = false

-- the lines from a number on
abbrev pub lines_from : ℕ → Bool → List (List ℕ) → Result (List Line) ℕ
lines_from number first [] = Ok []
lines_from number first (bytes ∷ more) = followed (added number first bytes) (λ here. lines_from (number + 1) (first && has_none here) more)

-- the lines of a script that aren't skipped, or the number of the first that is outside the grammar
unfoldable pub script_of : List ℕ → Result (List Line) ℕ
script_of bytes = lines_from 1 true (lines_of bytes)
