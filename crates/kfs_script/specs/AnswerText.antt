-- The text of an answer.
use Rattle.std.specs.Prelude.{ℕ, ◌+◌, ◌/◌, ◌%◌, nat_lt, if◌then◌else◌, Bool, true, false, List, [], ◌∷◌, ◌++◌, length, codes}
use Rattle.std.specs.List.{flat_map}
use Rattle.std.specs.Fmt.{decimal}
use Rattle.kfs_path.specs.declared.call.Reply.{Reply}
use Rattle.kfs_path.specs.declared.call.Reply.TheVariants as replies
use Rattle.kfs_path.specs.declared.call.Errno.{Errno}
use Rattle.kfs_path.specs.declared.call.Errno.TheVariants as errors
use Rattle.kfs_path.specs.declared.call.Cause.{Cause}
use Rattle.kfs_path.specs.declared.call.Cause.TheVariants.{Cut, Eio, NoMem}
use Rattle.kfs_path.specs.declared.call.TreeItem.{TreeItem}
use Rattle.kv_base.specs.declared.damage.Damage.{Damage}
use Rattle.kv_base.specs.declared.damage.Damage.TheVariants as damages
use Rattle.kfs_model.specs.declared.Answer.{Answer}
use Rattle.kfs_model.specs.declared.Answer.TheVariants as answers
use Rattle.kfs_script.specs.Script.{is_plain}

abbrev pub newline : List ℕ
newline = 10 ∷ []

-- a digit of an escape: 0 to 9, A to F
abbrev pub hex_digit : ℕ → ℕ
hex_digit n = if nat_lt n 10 then n + 48 else n + 55

-- a byte in its one spelling: as it is where it stands for itself, else `%` and two digits
abbrev pub esc_byte : ℕ → List ℕ
esc_byte b = if is_plain b then b ∷ [] else 37 ∷ hex_digit (b / 16) ∷ hex_digit (b % 16) ∷ []

abbrev pub esc : List ℕ → List ℕ
esc bytes = flat_map esc_byte bytes

-- a space and a number
abbrev pub and_number : ℕ → List ℕ
and_number n = 32 ∷ decimal n

-- a space and a name
abbrev pub and_name : List ℕ → List ℕ
and_name name = 32 ∷ esc name

-- a slash and a name
abbrev pub below : List ℕ → List ℕ
below name = 47 ∷ esc name

-- the root is a slash alone
abbrev pub path_text : List (List ℕ) → List ℕ
path_text [] = 47 ∷ []
path_text (name ∷ names) = flat_map below (name ∷ names)

abbrev pub kind_text : Bool → List ℕ → ℕ → List ℕ
kind_text false path size = codes "d " ++ path
kind_text true path size = codes "f " ++ path ++ and_number size

-- a directory's or file's line in the answer to `@tree`
abbrev pub item_text : TreeItem → List ℕ
item_text item = kind_text item.file (path_text item.path) item.length ++ newline

abbrev pub errno_text : Errno → List ℕ
errno_text errors.ENOENT = codes "ENOENT"
errno_text errors.ENAMETOOLONG = codes "ENAMETOOLONG"
errno_text errors.ENOTDIR = codes "ENOTDIR"
errno_text errors.EINVAL = codes "EINVAL"
errno_text errors.EEXIST = codes "EEXIST"
errno_text errors.EISDIR = codes "EISDIR"
errno_text errors.EMFILE = codes "EMFILE"
errno_text errors.ENOSPC = codes "ENOSPC"
errno_text errors.EBADF = codes "EBADF"
errno_text errors.EFBIG = codes "EFBIG"
errno_text errors.EOVERFLOW = codes "EOVERFLOW"
errno_text errors.ENOTEMPTY = codes "ENOTEMPTY"
errno_text errors.EBUSY = codes "EBUSY"
errno_text errors.EPERM = codes "EPERM"

abbrev pub cause_text : Cause → List ℕ
cause_text Cut = codes "cut"
cause_text Eio = codes "eio"
cause_text NoMem = codes "nomem"

-- what a reply says; the tree's lines follow the first
abbrev pub reply_text : Reply → List ℕ
reply_text replies.Done = codes "ok" ++ newline
reply_text (replies.Number n) = codes "ok" ++ and_number n ++ newline
reply_text (replies.Read bytes) = codes "ok t:" ++ esc bytes ++ newline
reply_text (replies.Dir node) = codes "ok dir" ++ and_number node ++ newline
reply_text (replies.File node size) = codes "ok file" ++ and_number node ++ and_number size ++ newline
reply_text (replies.Names names) = codes "ok" ++ flat_map and_name names ++ newline
reply_text (replies.Room charge keys chunks pages) = codes "room" ++ and_number charge ++ and_number keys ++ and_number chunks ++ and_number pages ++ newline
reply_text (replies.Tree items) = codes "tree" ++ and_number (length items) ++ newline ++ flat_map item_text items
reply_text (replies.Err errno) = codes "err " ++ errno_text errno ++ newline
reply_text (replies.Down cause) = codes "down " ++ cause_text cause ++ newline
reply_text replies.Off = codes "off" ++ newline

-- a kind of damage and its place
unfoldable pub damaged : List ℕ → ℕ → List ℕ
damaged kind place = codes "damaged " ++ kind ++ and_number place

abbrev pub damage_text : Damage → List ℕ
damage_text damages.NoAnchor = codes "noanchor"
damage_text (damages.Anchor place) = damaged (codes "anchor") place
damage_text (damages.Run place) = damaged (codes "run") place
damage_text (damages.Log place) = damaged (codes "log") place
damage_text (damages.Value place) = damaged (codes "value") place
damage_text (damages.Space place) = damaged (codes "space") place
damage_text (damages.Super place) = damaged (codes "super") place
damage_text (damages.Object place) = damaged (codes "object") place
damage_text (damages.Inode place) = damaged (codes "inode") place
damage_text (damages.Entry place) = damaged (codes "entry") place
damage_text (damages.Chunk place) = damaged (codes "chunk") place
damage_text (damages.Orphan place) = damaged (codes "orphan") place
damage_text (damages.Room place) = damaged (codes "room") place

-- the one text of an answer
abbrev pub text_of : Answer → List ℕ
text_of (answers.Reply reply) = reply_text reply
text_of (answers.Mounted n) = codes "mounted" ++ and_number n ++ newline
text_of (answers.Refused damage) = codes "refused " ++ damage_text damage ++ newline

-- the texts of answers, one after the other
abbrev pub texts_of : List Answer → List ℕ
texts_of given = flat_map text_of given
