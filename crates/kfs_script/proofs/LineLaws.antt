-- Each line is read from its spelling.
use Rattle.std.proofs.Common.{◌≡◌, ℕ, ◌-◌, ◌^◌, ◌<◌, ◌≤◌, ◌⊎◌, inl, inr, zero, suc, List, [], ◌∷◌, ◌++◌, length, Bool, true, false, not, ◌||◌, eqb, Some, None, refl, ap, ◌∙◌, append_assoc, arith, codes}
use Rattle.std.specs.Prelude.{ℤ, pos, negsuc, ◌/◌, ◌%◌}
use Rattle.std.specs.List.{list_all}
use Rattle.std.specs.Fmt.{decimal, signed_decimal}
use Rattle.std.proofs.lemmas.Fmt.{decimal_nonempty}
use Rattle.std.proofs.lemmas.List.Folds.{list_all-append}
use Rattle.std.proofs.lemmas.List.Splits.{slice_split_at, slice_split_none}
use Rattle.std.proofs.lemmas.Bool.{le-leb}
use Rattle.std.proofs.lemmas.Bool.Decides.{nat_tests}
use Rattle.kfs_script.specs.Script.{◌>>=◌, is_digit, number_of, count_of, int_of, behind, pieces_at, data_of, plain_data, fill_data, part, flags_of, whence_of, outcome_of, kind_of, times_of, blocks_of, line_of, line_of_words, command_of, path_command, number_command, bare_command, other_command, form_of, path_form, number_form, bare_form, open_form, read_form, write_form, pread_form, pwrite_form, lseek_form, truncate_form, ftruncate_form, rename_form, format_form, cut_form, fail_form, path_call, number_call, IsLine}
use Rattle.kfs_script.specs.AnswerText.{esc}
use Rattle.kfs_script.specs.Spelled.{AreBytes, spelled, outcome_text, kind_text, whence_text, flags_text, data_text, byte_text, IsOffset, FitsData, FitsFlags, Fits}
use Rattle.kfs_script.proofs.SpellingLaws.{both, joined, in_range, is_clear, none_of, digits_are, decimal_clear, hex_clear, esc_clear, byte_again, decimal_again, esc_again, two_words, three_words, four_words}
use Rattle.kfs_script.specs.declared.command.Command.{Command}
use Rattle.kfs_script.specs.declared.command.Command.TheVariants as commands
use Rattle.kfs_script.specs.declared.command.PathCommand.{PathCommand}
use Rattle.kfs_script.specs.declared.command.PathCommand.TheVariants as paths
use Rattle.kfs_script.specs.declared.command.NumberCommand.{NumberCommand}
use Rattle.kfs_script.specs.declared.command.NumberCommand.TheVariants as numbers
use Rattle.kfs_script.specs.declared.command.BareCommand.TheVariants as bare
use Rattle.kfs_model.specs.declared.Line.{Line}
use Rattle.kfs_model.specs.declared.Line.TheVariants as lines
use Rattle.kfs_path.specs.declared.call.Call.TheVariants as calls
use Rattle.kfs_path.specs.declared.call.Data.{Data}
use Rattle.kfs_path.specs.declared.call.Data.TheVariants.{Plain, Fill}
use Rattle.kfs_path.specs.declared.call.Flags.{Flags}
use Rattle.kfs_path.specs.declared.call.Whence.{Whence}
use Rattle.kfs_path.specs.declared.call.Whence.TheVariants as whences

-- ---- numbers

number_again : (n : ℕ) → n ≤ 1000000000 → number_of (decimal n) ≡ Some n
number_again n le = decimal_again 1000000000 n le (omega arith)

count_again : (n : ℕ) → n ≤ 1048576 → count_of (decimal n) ≡ Some n
count_again n le = decimal_again 1048576 n le (omega arith)

number_clear : (n : ℕ) → n ≤ 1000000000 → is_clear 32 (decimal n) ≡ true
number_clear n le = decimal_clear 32 n (inl (omega arith)) (omega arith)

count_clear : (n : ℕ) → n ≤ 1048576 → is_clear 32 (decimal n) ≡ true
count_clear n le = decimal_clear 32 n (inl (omega arith)) (omega arith)

no_minus : (word : List ℕ) → 0 < length word → list_all is_digit word ≡ true → behind (codes "-") word ≡ None
no_minus [] some digits = absurd (omega arith)
no_minus (d ∷ ds) some digits =
    let r = in_range d (both (is_digit d) (list_all is_digit ds) digits).0 in
    let f : eqb d 45 ≡ false = grind (arith, nat_tests) in
    rw f refl

int_again : (z : ℤ) → IsOffset z → int_of (signed_decimal z) ≡ Some z
unfolding int_of
int_again (pos n) le =
    rw (no_minus (decimal n) (decimal_nonempty n (omega arith)) (digits_are n (omega arith)), decimal_again (2 ^ 63 - 1) n le (omega arith)) refl
int_again (negsuc n) le = rw (decimal_again (2 ^ 63 - 1) (suc n) (omega arith) (omega arith)) refl

int_clear : (z : ℤ) → IsOffset z → is_clear 32 (signed_decimal z) ≡ true
int_clear (pos n) le = decimal_clear 32 n (inl (omega arith)) (omega arith)
int_clear (negsuc n) le = decimal_clear 32 (suc n) (inl (omega arith)) (omega arith)

-- ---- the parts of `open`

flags_again : (read write creat excl trunc append : Bool) → (read || write) ≡ true
    → flags_of (flags_text (record { read = read; write = write; creat = creat; excl = excl; trunc = trunc; append = append })) ≡ Some (record { read = read; write = write; creat = creat; excl = excl; trunc = trunc; append = append })
unfolding flags_of part
flags_again true true true true true true reading = refl
flags_again true true true true true false reading = refl
flags_again true true true true false true reading = refl
flags_again true true true true false false reading = refl
flags_again true true true false true true reading = refl
flags_again true true true false true false reading = refl
flags_again true true true false false true reading = refl
flags_again true true true false false false reading = refl
flags_again true true false true true true reading = refl
flags_again true true false true true false reading = refl
flags_again true true false true false true reading = refl
flags_again true true false true false false reading = refl
flags_again true true false false true true reading = refl
flags_again true true false false true false reading = refl
flags_again true true false false false true reading = refl
flags_again true true false false false false reading = refl
flags_again true false true true true true reading = refl
flags_again true false true true true false reading = refl
flags_again true false true true false true reading = refl
flags_again true false true true false false reading = refl
flags_again true false true false true true reading = refl
flags_again true false true false true false reading = refl
flags_again true false true false false true reading = refl
flags_again true false true false false false reading = refl
flags_again true false false true true true reading = refl
flags_again true false false true true false reading = refl
flags_again true false false true false true reading = refl
flags_again true false false true false false reading = refl
flags_again true false false false true true reading = refl
flags_again true false false false true false reading = refl
flags_again true false false false false true reading = refl
flags_again true false false false false false reading = refl
flags_again false true true true true true reading = refl
flags_again false true true true true false reading = refl
flags_again false true true true false true reading = refl
flags_again false true true true false false reading = refl
flags_again false true true false true true reading = refl
flags_again false true true false true false reading = refl
flags_again false true true false false true reading = refl
flags_again false true true false false false reading = refl
flags_again false true false true true true reading = refl
flags_again false true false true true false reading = refl
flags_again false true false true false true reading = refl
flags_again false true false true false false reading = refl
flags_again false true false false true true reading = refl
flags_again false true false false true false reading = refl
flags_again false true false false false true reading = refl
flags_again false true false false false false reading = refl
flags_again false false creat excl trunc append reading = cc

flags_clear : (read write creat excl trunc append : Bool) → is_clear 32 (flags_text (record { read = read; write = write; creat = creat; excl = excl; trunc = trunc; append = append })) ≡ true
flags_clear true true true true true true = refl
flags_clear true true true true true false = refl
flags_clear true true true true false true = refl
flags_clear true true true true false false = refl
flags_clear true true true false true true = refl
flags_clear true true true false true false = refl
flags_clear true true true false false true = refl
flags_clear true true true false false false = refl
flags_clear true true false true true true = refl
flags_clear true true false true true false = refl
flags_clear true true false true false true = refl
flags_clear true true false true false false = refl
flags_clear true true false false true true = refl
flags_clear true true false false true false = refl
flags_clear true true false false false true = refl
flags_clear true true false false false false = refl
flags_clear true false true true true true = refl
flags_clear true false true true true false = refl
flags_clear true false true true false true = refl
flags_clear true false true true false false = refl
flags_clear true false true false true true = refl
flags_clear true false true false true false = refl
flags_clear true false true false false true = refl
flags_clear true false true false false false = refl
flags_clear true false false true true true = refl
flags_clear true false false true true false = refl
flags_clear true false false true false true = refl
flags_clear true false false true false false = refl
flags_clear true false false false true true = refl
flags_clear true false false false true false = refl
flags_clear true false false false false true = refl
flags_clear true false false false false false = refl
flags_clear false true true true true true = refl
flags_clear false true true true true false = refl
flags_clear false true true true false true = refl
flags_clear false true true true false false = refl
flags_clear false true true false true true = refl
flags_clear false true true false true false = refl
flags_clear false true true false false true = refl
flags_clear false true true false false false = refl
flags_clear false true false true true true = refl
flags_clear false true false true true false = refl
flags_clear false true false true false true = refl
flags_clear false true false true false false = refl
flags_clear false true false false true true = refl
flags_clear false true false false true false = refl
flags_clear false true false false false true = refl
flags_clear false true false false false false = refl
flags_clear false false true true true true = refl
flags_clear false false true true true false = refl
flags_clear false false true true false true = refl
flags_clear false false true true false false = refl
flags_clear false false true false true true = refl
flags_clear false false true false true false = refl
flags_clear false false true false false true = refl
flags_clear false false true false false false = refl
flags_clear false false false true true true = refl
flags_clear false false false true true false = refl
flags_clear false false false true false true = refl
flags_clear false false false true false false = refl
flags_clear false false false false true true = refl
flags_clear false false false false true false = refl
flags_clear false false false false false true = refl
flags_clear false false false false false false = refl

whence_again : (whence : Whence) → (whence_of (whence_text whence) ≡ Some whence) × (is_clear 32 (whence_text whence) ≡ true)
unfolding whence_of
whence_again whences.Set = (refl, refl)
whence_again whences.Cur = (refl, refl)
whence_again whences.End = (refl, refl)

-- ---- bytes

byte_clear : (mark byte : ℕ) → mark < 48 ⊎ ((57 < mark) × (mark < 65)) → is_clear mark (byte_text byte) ≡ true
byte_clear mark byte m = joined _ _ (hex_clear mark (byte / 16) m) (joined _ _ (hex_clear mark (byte % 16) m) refl)

fill_cut : (count byte : ℕ) → count ≤ 1048576 → pieces_at 58 (decimal count ++ 58 ∷ byte_text byte) ≡ decimal count ∷ byte_text byte ∷ []
fill_cut count byte le =
    slice_split_at (λ b. eqb b 58) (decimal count) 58 (byte_text byte) (none_of 58 (decimal count) (decimal_clear 58 count (inr (omega arith)) (omega arith))) refl
    ∙ ap (λ ws. decimal count ∷ ws) (slice_split_none (λ b. eqb b 58) (byte_text byte) (none_of 58 (byte_text byte) (byte_clear 58 byte (inr (omega arith, omega arith)))))

fill_text : (count byte : ℕ) → data_text (Fill count byte) ≡ codes "f:" ++ (decimal count ++ 58 ∷ byte_text byte)
fill_text count byte = ap (λ w. 102 ∷ 58 ∷ w) (append_assoc (decimal count) (58 ∷ []) (byte_text byte))

data_again : (it : Data) → FitsData it → data_of (data_text it) ≡ Some it
unfolding data_of plain_data fill_data
data_again (Plain bytes) fits = rw (esc_again bytes fits.0, le-leb (length bytes) 1048576 fits.1) refl
data_again (Fill count byte) fits = rw (fill_text count byte, fill_cut count byte fits.0, count_again count fits.0, byte_again byte fits.1) refl

joins_clear : (v w : List ℕ) → is_clear 32 v ≡ true → is_clear 32 w ≡ true → is_clear 32 (v ++ w) ≡ true
joins_clear v w p q = list_all-append (λ b. not (eqb b 32)) v w ∙ joined _ _ p q

data_clear : (it : Data) → FitsData it → is_clear 32 (data_text it) ≡ true
data_clear (Plain bytes) fits = esc_clear bytes
data_clear (Fill count byte) fits = ap (is_clear 32) (fill_text count byte) ∙ joins_clear (decimal count) (58 ∷ byte_text byte) (count_clear count fits.0) (byte_clear 32 byte (inl (omega arith)))

-- ---- plans

times_again : (n : ℕ) → 1 ≤ n → n ≤ 1000000000 → times_of (decimal n) ≡ Some n
unfolding times_of
times_again n low high = let e : eqb n 0 ≡ false = grind (arith, nat_tests) in rw (decimal_again 1000000000 n high (omega arith), e) refl

outcome_again : (how : ℕ) → how ≤ 3 → (outcome_of (outcome_text how) ≡ Some how) × (is_clear 32 (outcome_text how) ≡ true)
unfolding outcome_of
outcome_again zero le = (refl, refl)
outcome_again (suc zero) le = (refl, refl)
outcome_again (suc (suc zero)) le = (refl, refl)
outcome_again (suc (suc (suc zero))) le = (refl, refl)
outcome_again (suc (suc (suc (suc n)))) le = absurd (omega arith)

kind_again : (kind : ℕ) → kind ≤ 2 → (kind_of (kind_text kind) ≡ Some kind) × (is_clear 32 (kind_text kind) ≡ true)
unfolding kind_of
kind_again zero le = (refl, refl)
kind_again (suc zero) le = (refl, refl)
kind_again (suc (suc zero)) le = (refl, refl)
kind_again (suc (suc (suc n))) le = absurd (omega arith)

-- ---- the words of each line

path_words : (command : PathCommand) (path : List ℕ) → AreBytes path → path_form command (esc path ∷ []) ≡ Some (lines.Call (path_call command path))
unfolding path_form
path_words command path fits = ap (λ o. o >>= λ p. Some (lines.Call (path_call command p))) (esc_again path fits)

number_words : (command : NumberCommand) (n : ℕ) → n ≤ 1000000000 → number_form command (decimal n ∷ []) ≡ Some (lines.Call (number_call command n))
unfolding number_form
number_words command n le = ap (λ o. o >>= λ p. Some (lines.Call (number_call command p))) (number_again n le)

open_words : (path : List ℕ) (flags : Flags) → AreBytes path → FitsFlags flags → open_form (esc path ∷ flags_text flags ∷ []) ≡ Some (lines.Call (calls.Open path flags))
unfolding open_form
open_words path flags bytes fits = rw (esc_again path bytes, flags_again flags.read flags.write flags.creat flags.excl flags.trunc flags.append fits) refl

read_words : (fd count : ℕ) → fd ≤ 1000000000 → count ≤ 1048576 → read_form (decimal fd ∷ decimal count ∷ []) ≡ Some (lines.Call (calls.Read fd count))
unfolding read_form
read_words fd count p q = rw (number_again fd p, count_again count q) refl

write_words : (fd : ℕ) (it : Data) → fd ≤ 1000000000 → FitsData it → write_form (decimal fd ∷ data_text it ∷ []) ≡ Some (lines.Call (calls.Write fd it))
unfolding write_form
write_words fd it p q = rw (number_again fd p, data_again it q) refl

pread_words : (fd count : ℕ) (offset : ℤ) → fd ≤ 1000000000 → count ≤ 1048576 → IsOffset offset → pread_form (decimal fd ∷ decimal count ∷ signed_decimal offset ∷ []) ≡ Some (lines.Call (calls.Pread fd count offset))
unfolding pread_form
pread_words fd count offset p q r = rw (number_again fd p, count_again count q, int_again offset r) refl

pwrite_words : (fd : ℕ) (it : Data) (offset : ℤ) → fd ≤ 1000000000 → FitsData it → IsOffset offset → pwrite_form (decimal fd ∷ data_text it ∷ signed_decimal offset ∷ []) ≡ Some (lines.Call (calls.Pwrite fd it offset))
unfolding pwrite_form
pwrite_words fd it offset p q r = rw (number_again fd p, data_again it q, int_again offset r) refl

lseek_words : (fd : ℕ) (whence : Whence) (offset : ℤ) → fd ≤ 1000000000 → IsOffset offset → lseek_form (decimal fd ∷ whence_text whence ∷ signed_decimal offset ∷ []) ≡ Some (lines.Call (calls.Lseek fd whence offset))
unfolding lseek_form
lseek_words fd whence offset p r = rw (number_again fd p, (whence_again whence).0, int_again offset r) refl

truncate_words : (path : List ℕ) (size : ℤ) → AreBytes path → IsOffset size → truncate_form (esc path ∷ signed_decimal size ∷ []) ≡ Some (lines.Call (calls.Truncate path size))
unfolding truncate_form
truncate_words path size bytes r = rw (esc_again path bytes, int_again size r) refl

ftruncate_words : (fd : ℕ) (size : ℤ) → fd ≤ 1000000000 → IsOffset size → ftruncate_form (decimal fd ∷ signed_decimal size ∷ []) ≡ Some (lines.Call (calls.Ftruncate fd size))
unfolding ftruncate_form
ftruncate_words fd size p r = rw (number_again fd p, int_again size r) refl

rename_words : (old new : List ℕ) → AreBytes old → AreBytes new → rename_form (esc old ∷ esc new ∷ []) ≡ Some (lines.Call (calls.Rename old new))
unfolding rename_form
rename_words old new p q = rw (esc_again old p, esc_again new q) refl

format_words : (n : ℕ) → 256 ≤ n → n ≤ 2048 → format_form (decimal n ∷ []) ≡ Some (lines.Format n)
unfolding format_form blocks_of
format_words n low high = rw (decimal_again 2048 n high (omega arith), le-leb 256 n low) refl

cut_words : (n how : ℕ) → 1 ≤ n → n ≤ 1000000000 → how ≤ 3 → cut_form (decimal n ∷ outcome_text how ∷ []) ≡ Some (lines.Cut n how)
unfolding cut_form
cut_words n how low high le = rw (times_again n low high, (outcome_again how le).0) refl

fail_words : (kind n : ℕ) → kind ≤ 2 → 1 ≤ n → n ≤ 1000000000 → fail_form (kind_text kind ∷ decimal n ∷ []) ≡ Some (lines.Fail kind n)
unfolding fail_form
fail_words kind n le low high = rw ((kind_again kind le).0, times_again n low high) refl

-- ---- whole lines

from_words : (text name : List ℕ) (words : List (List ℕ)) (command : Command) (line : Line) → pieces_at 32 text ≡ name ∷ words → command_of name ≡ Some command → form_of command words ≡ Some line → line_of text ≡ Some line
unfolding line_of
from_words text name words command line cut named form = ap line_of_words cut ∙ ap (λ o. o >>= λ c. form_of c words) named ∙ form

-- the word of each command
mkdir_named : command_of (codes "mkdir") ≡ Some (commands.Path paths.Mkdir)
unfolding command_of path_command number_command bare_command other_command
mkdir_named = refl

rmdir_named : command_of (codes "rmdir") ≡ Some (commands.Path paths.Rmdir)
unfolding command_of path_command number_command bare_command other_command
rmdir_named = refl

unlink_named : command_of (codes "unlink") ≡ Some (commands.Path paths.Unlink)
unfolding command_of path_command number_command bare_command other_command
unlink_named = refl

stat_named : command_of (codes "stat") ≡ Some (commands.Path paths.Stat)
unfolding command_of path_command number_command bare_command other_command
stat_named = refl

list_named : command_of (codes "list") ≡ Some (commands.Path paths.List)
unfolding command_of path_command number_command bare_command other_command
list_named = refl

close_named : command_of (codes "close") ≡ Some (commands.Number numbers.Close)
unfolding command_of path_command number_command bare_command other_command
close_named = refl

dup_named : command_of (codes "dup") ≡ Some (commands.Number numbers.Dup)
unfolding command_of path_command number_command bare_command other_command
dup_named = refl

fstat_named : command_of (codes "fstat") ≡ Some (commands.Number numbers.Fstat)
unfolding command_of path_command number_command bare_command other_command
fstat_named = refl

fsync_named : command_of (codes "fsync") ≡ Some (commands.Number numbers.Fsync)
unfolding command_of path_command number_command bare_command other_command
fsync_named = refl

work_named : command_of (codes "@work") ≡ Some (commands.Number numbers.Work)
unfolding command_of path_command number_command bare_command other_command
work_named = refl

sync_named : command_of (codes "sync") ≡ Some (commands.Bare bare.Sync)
unfolding command_of path_command number_command bare_command other_command
sync_named = refl

mount_named : command_of (codes "@mount") ≡ Some (commands.Bare bare.Mount)
unfolding command_of path_command number_command bare_command other_command
mount_named = refl

tree_named : command_of (codes "@tree") ≡ Some (commands.Bare bare.Tree)
unfolding command_of path_command number_command bare_command other_command
tree_named = refl

room_named : command_of (codes "@room") ≡ Some (commands.Bare bare.Room)
unfolding command_of path_command number_command bare_command other_command
room_named = refl

open_named : command_of (codes "open") ≡ Some (commands.Open)
unfolding command_of path_command number_command bare_command other_command
open_named = refl

read_named : command_of (codes "read") ≡ Some (commands.Read)
unfolding command_of path_command number_command bare_command other_command
read_named = refl

write_named : command_of (codes "write") ≡ Some (commands.Write)
unfolding command_of path_command number_command bare_command other_command
write_named = refl

pread_named : command_of (codes "pread") ≡ Some (commands.Pread)
unfolding command_of path_command number_command bare_command other_command
pread_named = refl

pwrite_named : command_of (codes "pwrite") ≡ Some (commands.Pwrite)
unfolding command_of path_command number_command bare_command other_command
pwrite_named = refl

lseek_named : command_of (codes "lseek") ≡ Some (commands.Lseek)
unfolding command_of path_command number_command bare_command other_command
lseek_named = refl

truncate_named : command_of (codes "truncate") ≡ Some (commands.Truncate)
unfolding command_of path_command number_command bare_command other_command
truncate_named = refl

ftruncate_named : command_of (codes "ftruncate") ≡ Some (commands.Ftruncate)
unfolding command_of path_command number_command bare_command other_command
ftruncate_named = refl

rename_named : command_of (codes "rename") ≡ Some (commands.Rename)
unfolding command_of path_command number_command bare_command other_command
rename_named = refl

format_named : command_of (codes "@format") ≡ Some (commands.Format)
unfolding command_of path_command number_command bare_command other_command
format_named = refl

cut_named : command_of (codes "@cut") ≡ Some (commands.Cut)
unfolding command_of path_command number_command bare_command other_command
cut_named = refl

fail_named : command_of (codes "@fail") ≡ Some (commands.Fail)
unfolding command_of path_command number_command bare_command other_command
fail_named = refl

sync_words : bare_form bare.Sync [] ≡ Some (lines.Call calls.Sync)
unfolding bare_form
sync_words = refl

mount_words : bare_form bare.Mount [] ≡ Some lines.Mount
unfolding bare_form
mount_words = refl

tree_words : bare_form bare.Tree [] ≡ Some (lines.Call calls.Tree)
unfolding bare_form
tree_words = refl

room_words : bare_form bare.Room [] ≡ Some (lines.Call calls.Room)
unfolding bare_form
room_words = refl

-- each line is read from its spelling
pub spelled_again : (line : Line) → IsLine line → Fits line → line_of (spelled line) ≡ Some line
spelled_again (lines.Call (calls.Mkdir path)) line fits = from_words _ (codes "mkdir") _ _ _ (two_words (codes "mkdir") (esc path) refl (esc_clear path)) mkdir_named (path_words paths.Mkdir path fits)
spelled_again (lines.Call (calls.Rmdir path)) line fits = from_words _ (codes "rmdir") _ _ _ (two_words (codes "rmdir") (esc path) refl (esc_clear path)) rmdir_named (path_words paths.Rmdir path fits)
spelled_again (lines.Call (calls.Unlink path)) line fits = from_words _ (codes "unlink") _ _ _ (two_words (codes "unlink") (esc path) refl (esc_clear path)) unlink_named (path_words paths.Unlink path fits)
spelled_again (lines.Call (calls.Stat path)) line fits = from_words _ (codes "stat") _ _ _ (two_words (codes "stat") (esc path) refl (esc_clear path)) stat_named (path_words paths.Stat path fits)
spelled_again (lines.Call (calls.List path)) line fits = from_words _ (codes "list") _ _ _ (two_words (codes "list") (esc path) refl (esc_clear path)) list_named (path_words paths.List path fits)
spelled_again (lines.Call (calls.Close n)) line fits = from_words _ (codes "close") _ _ _ (two_words (codes "close") (decimal n) refl (number_clear n fits)) close_named (number_words numbers.Close n fits)
spelled_again (lines.Call (calls.Dup n)) line fits = from_words _ (codes "dup") _ _ _ (two_words (codes "dup") (decimal n) refl (number_clear n fits)) dup_named (number_words numbers.Dup n fits)
spelled_again (lines.Call (calls.Fstat n)) line fits = from_words _ (codes "fstat") _ _ _ (two_words (codes "fstat") (decimal n) refl (number_clear n fits)) fstat_named (number_words numbers.Fstat n fits)
spelled_again (lines.Call (calls.Fsync n)) line fits = from_words _ (codes "fsync") _ _ _ (two_words (codes "fsync") (decimal n) refl (number_clear n fits)) fsync_named (number_words numbers.Fsync n fits)
spelled_again (lines.Call (calls.Work n)) line fits = from_words _ (codes "@work") _ _ _ (two_words (codes "@work") (decimal n) refl (number_clear n fits)) work_named (number_words numbers.Work n fits)
spelled_again (lines.Call calls.Sync) line fits = from_words _ (codes "sync") [] _ _ refl sync_named sync_words
spelled_again lines.Mount line fits = from_words _ (codes "@mount") [] _ _ refl mount_named mount_words
spelled_again (lines.Call calls.Tree) line fits = from_words _ (codes "@tree") [] _ _ refl tree_named tree_words
spelled_again (lines.Call calls.Room) line fits = from_words _ (codes "@room") [] _ _ refl room_named room_words
spelled_again (lines.Call (calls.Open path flags)) line fits = from_words _ (codes "open") _ _ _ (three_words (codes "open") (esc path) (flags_text flags) refl (esc_clear path) (flags_clear flags.read flags.write flags.creat flags.excl flags.trunc flags.append)) open_named (open_words path flags fits.0 fits.1)
spelled_again (lines.Call (calls.Read fd count)) line fits = from_words _ (codes "read") _ _ _ (three_words (codes "read") (decimal fd) (decimal count) refl (number_clear fd fits.0) (count_clear count fits.1)) read_named (read_words fd count fits.0 fits.1)
spelled_again (lines.Call (calls.Write fd it)) line fits = from_words _ (codes "write") _ _ _ (three_words (codes "write") (decimal fd) (data_text it) refl (number_clear fd fits.0) (data_clear it fits.1)) write_named (write_words fd it fits.0 fits.1)
spelled_again (lines.Call (calls.Pread fd count offset)) line fits = from_words _ (codes "pread") _ _ _ (four_words (codes "pread") (decimal fd) (decimal count) (signed_decimal offset) refl (number_clear fd fits.0) (count_clear count fits.1) (int_clear offset fits.2)) pread_named (pread_words fd count offset fits.0 fits.1 fits.2)
spelled_again (lines.Call (calls.Pwrite fd it offset)) line fits = from_words _ (codes "pwrite") _ _ _ (four_words (codes "pwrite") (decimal fd) (data_text it) (signed_decimal offset) refl (number_clear fd fits.0) (data_clear it fits.1) (int_clear offset fits.2)) pwrite_named (pwrite_words fd it offset fits.0 fits.1 fits.2)
spelled_again (lines.Call (calls.Lseek fd whence offset)) line fits = from_words _ (codes "lseek") _ _ _ (four_words (codes "lseek") (decimal fd) (whence_text whence) (signed_decimal offset) refl (number_clear fd fits.0) (whence_again whence).1 (int_clear offset fits.1)) lseek_named (lseek_words fd whence offset fits.0 fits.1)
spelled_again (lines.Call (calls.Truncate path size)) line fits = from_words _ (codes "truncate") _ _ _ (three_words (codes "truncate") (esc path) (signed_decimal size) refl (esc_clear path) (int_clear size fits.1)) truncate_named (truncate_words path size fits.0 fits.1)
spelled_again (lines.Call (calls.Ftruncate fd size)) line fits = from_words _ (codes "ftruncate") _ _ _ (three_words (codes "ftruncate") (decimal fd) (signed_decimal size) refl (number_clear fd fits.0) (int_clear size fits.1)) ftruncate_named (ftruncate_words fd size fits.0 fits.1)
spelled_again (lines.Call (calls.Rename old new)) line fits = from_words _ (codes "rename") _ _ _ (three_words (codes "rename") (esc old) (esc new) refl (esc_clear old) (esc_clear new)) rename_named (rename_words old new fits.0 fits.1)
spelled_again (lines.Format n) line fits = from_words _ (codes "@format") _ _ _ (two_words (codes "@format") (decimal n) refl (decimal_clear 32 n (inl (omega arith)) (omega (arith, line.1)))) format_named (format_words n line.0 line.1)
spelled_again (lines.Cut n how) line fits = from_words _ (codes "@cut") _ _ _ (three_words (codes "@cut") (decimal n) (outcome_text how) refl (number_clear n line.1) (outcome_again how line.2).1) cut_named (cut_words n how line.0 line.1 line.2)
spelled_again (lines.Fail kind n) line fits = from_words _ (codes "@fail") _ _ _ (three_words (codes "@fail") (kind_text kind) (decimal n) refl (kind_again kind line.0).1 (number_clear n line.2)) fail_named (fail_words kind n line.0 line.1 line.2)
