-- What a run comes to, by its steps.
use Rattle.std.proofs.Common.{◌≡◌, ◌≤◌, ◌<◌, ◌⊎◌, inl, inr, ℕ, true, false, List, [], ◌∷◌, ◌∙◌, drop, length, Option, Some, None, Ok, refl, sym, ap, subst, nat_lt, arith, length-append, IfSome}
use Rattle.std.proofs.lemmas.Bool.Decides.{nat_tests}
use Rattle.kfs_script.specs.Script.{script_of}
use Rattle.kfs_runner.specs.declared.ending.Ending.{Ending}
use Rattle.kfs_runner.specs.declared.ending.Ending.TheVariants.{Quiet, Prints}
use Rattle.kfs_runner.specs.Outside.{Side, GivesAll, IsReadOut}
use Rattle.kfs_runner.specs.Reading.{script_limit, GivesTooMuch}
use Rattle.kfs_model.specs.declared.Line.{Line}
use Rattle.kfs_model.specs.declared.Line.TheVariants as lines
use Rattle.kv_nand.specs.Flash.{Flash}
use Rattle.kfs_runner.specs.Numbers.{limits_of}
use Rattle.kfs_runner.specs.Serving.{formats, formats_first, IsServed, IsServedOn, IsAnswered, Overflows, OverflowsOn}
use Rattle.nand_mem.specs.ImageFile.{image_bytes, Refuses}
use Rattle.nand_mem.specs.declared.fault.ImageFault.{ImageFault}
use Rattle.nand_mem.specs.declared.fault.ImageFault.TheVariants.{Memory as NoMemory}
use Rattle.kfs_runner.specs.Ending.{Sides, sides, unread, Due, Refused, Answered, OnImage, Made, bad_image, IsBadImage, IsTaken, IsRunOn, IsTooMuchOn, bad_words, too_long, too_much, due, due_by, HoldsImage, IsDue, TaskComesTo, IsLoadDue, IsScriptDue}
use Rattle.kfs_runner.specs.declared.words.Task.{Task}
use Rattle.kfs_runner.specs.declared.words.Task.TheVariants.{Nothing, Run, Make}

-- the bytes of a source, or none where it doesn't tell them
told : (left : Option (List ℕ)) → (bytes : List ℕ) × IfSome left (λ all. bytes ≡ all)
told (Some all) = (all, refl)
told None = ([], tt)

less : (a b : ℕ) → a < b → nat_lt a b ≡ true
less a b h = grind (arith, nat_tests)

no_less : (a b : ℕ) → b ≤ a → nat_lt a b ≡ false
no_less a b h = grind (arith, nat_tests)

due_words : (bytes : List ℕ) → due Nothing bytes ≡ Refused 1 bad_words
unfolding due
due_words bytes = refl

due_too_long : (bytes : List ℕ) → script_limit < length bytes → due Run bytes ≡ Refused 8 too_long
unfolding due
due_too_long bytes long = let much = less script_limit (length bytes) long in rw much refl

pub due_script : (bytes : List ℕ) → length bytes ≤ script_limit → due Run bytes ≡ due_by (script_of bytes)
unfolding due
due_script bytes short = let few = no_less script_limit (length bytes) short in rw few refl

due_load : (bytes : List ℕ) (seed count blocks : ℕ) → due (Make seed count blocks) bytes ≡ Made seed count blocks
unfolding due
due_load bytes seed count blocks = refl

-- a text that is due is written, unless memory is wanting
refused_comes : (task : Task) (old new : Sides) (bytes : List ℕ) (status : ℕ) (text : List ℕ) (ending : Ending) → IfSome old.source.bytes (λ all. bytes ≡ all) → due task bytes ≡ Refused status text → (ending ≡ Prints status text) ⊎ (ending ≡ Quiet 7) → new.source.faults ≡ old.source.faults → new.shelf ≡ old.shelf → TaskComesTo task old new ending
refused_comes task old new bytes status text ending is due_is (inl told) steady unput =
    let E : Ending → Type 0 = λ e. TaskComesTo task old new e in
    let D : Due → Type 0 = λ d. IsDue d old new status text in
    subst E (sym told) (bytes, is, subst D (sym due_is) (refl, refl, unput), steady)
refused_comes task old new bytes status text ending is due_is (inr quiet) steady unput =
    let E : Ending → Type 0 = λ e. TaskComesTo task old new e in
    subst E (sym quiet) (inr (inl (refl, steady, unput)))

-- words that are no command
pub words_refused : (here : Sides) (ending : Ending) → (ending ≡ Prints 1 bad_words) ⊎ (ending ≡ Quiet 7) → TaskComesTo Nothing here here ending
words_refused here ending is =
    let all = told here.source.bytes in
    refused_comes Nothing here here all.0 1 bad_words ending all.1 (due_words all.0) is refl refl

much_of : (left now : Option (List ℕ)) → GivesTooMuch left now → (bytes : List ℕ) × IfSome left (λ all. bytes ≡ all) × (script_limit < length bytes)
much_of (Some all) now much =
    let split = much.1 in
    (all, refl, omega (arith, much.2, simp length-append at (ap length split.2)))
much_of None now much = (much.0, tt, much.2)

-- a script that is too long
pub length_refused : (shelf old new : Side) (ending : Ending) → GivesTooMuch old.bytes new.bytes → (ending ≡ Prints 8 too_long) ⊎ (ending ≡ Quiet 7) → new.faults ≡ old.faults → TaskComesTo Run (sides shelf old) (sides shelf new) ending
length_refused shelf old new ending much is steady =
    let all = much_of old.bytes new.bytes much in
    refused_comes Run (sides shelf old) (sides shelf new) all.0 8 too_long ending all.1 (due_too_long all.0 all.2) is steady refl

read_out : (left : Option (List ℕ)) (text : List ℕ) (now : Option (List ℕ)) → GivesAll left text now → IsReadOut left now
read_out (Some all) text now given = given.1
read_out None text now given = tt

all_given : (left : Option (List ℕ)) (text : List ℕ) (now : Option (List ℕ)) → GivesAll left text now → IfSome left (λ all. text ≡ all)
all_given (Some all) text now given = sym given.0
all_given None text now given = tt

is_due : (d : Due) (shelf shelf_new before now : Side) (status : ℕ) (text : List ℕ) → IsReadOut before.bytes now.bytes → IsDue d (sides shelf unread) (sides shelf_new unread) status text → IsDue d (sides shelf before) (sides shelf_new now) status text
is_due (Refused due_status due_text) shelf shelf_new before now status text out is = is
is_due (Made seed count blocks) shelf shelf_new before now status text out is = is
is_due (Answered blocks ls) shelf shelf_new before now status text out is = (out, is.1)
is_due (OnImage ls) shelf shelf_new before now status text out is = (out, is.1)

-- what a script comes to, a run comes to that read it
pub script_comes : (shelf shelf_new old new : Side) (bytes : List ℕ) (ending : Ending) → GivesAll old.bytes bytes new.bytes → length bytes ≤ script_limit → IsScriptDue (script_of bytes) shelf shelf_new ending → new.faults ≡ old.faults → TaskComesTo Run (sides shelf old) (sides shelf_new new) ending
script_comes shelf shelf_new old new bytes (Quiet status) given short (inl wants) steady = inr (inl (wants.0, steady, wants.1))
script_comes shelf shelf_new old new bytes (Quiet status) given short (inr fails) steady = inr (inr (fails.0, refl, steady, fails.1))
script_comes shelf shelf_new old new bytes (Prints status text) given short is steady =
    let D : Due → Type 0 = λ d. IsDue d (sides shelf old) (sides shelf_new new) status text in
    (bytes, all_given old.bytes bytes new.bytes given, subst D (sym (due_script bytes short)) (is_due (due_by (script_of bytes)) shelf shelf_new old new status text (read_out old.bytes bytes new.bytes given) is), steady)

-- a load comes to its line
pub load_comes : (here : Sides) (seed count blocks : ℕ) (ending : Ending) → IsLoadDue seed count blocks ending → TaskComesTo (Make seed count blocks) here here ending
load_comes here seed count blocks (Quiet status) is = inr (inl (is, refl, refl))
load_comes here seed count blocks (Prints status text) is =
    let all = told here.source.bytes in
    let D : Due → Type 0 = λ d. IsDue d here here status text in
    (all.0, all.1, subst D (sym (due_load all.0 seed count blocks)) (is.0, is.1, refl), refl)

-- ---- a script that formats first

-- a script whose first line formats is answered behind it
first_formats : (blocks : ℕ) (ls : List Line) → formats blocks ls ≡ true → due_by (Ok ls) ≡ Answered blocks (drop 1 ls)
first_formats blocks [] h = cc
first_formats blocks (lines.Format wanted ∷ more) h = let same : wanted ≡ blocks = grind (arith, nat_tests) in ap (λ b. Answered b more) same
first_formats blocks (lines.Mount ∷ more) h = cc
first_formats blocks (lines.Cut n how ∷ more) h = cc
first_formats blocks (lines.Fail kind n ∷ more) h = cc
first_formats blocks (lines.Call call ∷ more) h = cc

is_by : (blocks : ℕ) (ls : List Line) (shelf shelf_new : Side) (status : ℕ) (text : List ℕ) → formats blocks ls ≡ true → IsDue (Answered blocks (drop 1 ls)) (sides shelf unread) (sides shelf_new unread) status text → IsScriptDue (Ok ls) shelf shelf_new (Prints status text)
is_by blocks ls shelf shelf_new status text first is =
    let D : Due → Type 0 = λ d. IsDue d (sides shelf unread) (sides shelf_new unread) status text in
    subst D (sym (first_formats blocks ls first)) is

-- which is a format
pub formats_is_first : (blocks : ℕ) (ls : List Line) → formats blocks ls ≡ true → formats_first ls ≡ true
formats_is_first blocks [] h = cc
formats_is_first blocks (lines.Format wanted ∷ more) h = refl
formats_is_first blocks (lines.Mount ∷ more) h = cc
formats_is_first blocks (lines.Cut n how ∷ more) h = cc
formats_is_first blocks (lines.Fail kind n ∷ more) h = cc
formats_is_first blocks (lines.Call call ∷ more) h = cc

-- its answers are due, with the image that was put
pub served_is_due : (blocks : ℕ) (ls : List Line) (shelf shelf_new : Side) (text : List ℕ) (old new : Flash) → formats blocks ls ≡ true → old.blocks ≡ blocks → IsServed (drop 1 ls) text old new → HoldsImage shelf new.blocks new.image shelf_new → IsScriptDue (Ok ls) shelf shelf_new (Prints 0 text)
served_is_due blocks ls shelf shelf_new text old new first same served put =
    let A : ℕ → Type 0 = λ b. IsAnswered b (drop 1 ls) served.given text new.image in
    let H : ℕ → Type 0 = λ b. HoldsImage shelf b new.image shelf_new in
    is_by blocks ls shelf shelf_new 0 text first (tt, inl (record { status_is = refl; given = served.given; image = new.image; answered = subst A same served.answered; put = subst H (served.blocks ∙ same) put }))

-- so is the refusal of answers that are too long
pub too_much_is_due : (blocks : ℕ) (ls : List Line) (shelf : Side) (all : List ℕ) (ending : Ending) → formats blocks ls ≡ true → Overflows (limits_of blocks) (drop 1 ls) all → (ending ≡ Prints 9 too_much) ⊎ (ending ≡ Quiet 7) → IsScriptDue (Ok ls) shelf shelf ending
too_much_is_due blocks ls shelf all ending first much (inl told) =
    let E : Ending → Type 0 = λ e. IsScriptDue (Ok ls) shelf shelf e in
    subst E (sym told) (is_by blocks ls shelf shelf 9 too_much first (tt, inr (record { status_is = refl; text_is = refl; all = all; overflows = much; unput = refl })))
too_much_is_due blocks ls shelf all ending first much (inr quiet) =
    let E : Ending → Type 0 = λ e. IsScriptDue (Ok ls) shelf shelf e in
    subst E (sym quiet) (inl (refl, refl))

-- ---- a script on the image of the shelf

pub on_image : (ls : List Line) → formats_first ls ≡ false → due_by (Ok ls) ≡ OnImage ls
on_image [] h = refl
on_image (lines.Format wanted ∷ more) h = cc
on_image (lines.Mount ∷ more) h = refl
on_image (lines.Cut n how ∷ more) h = refl
on_image (lines.Fail kind n ∷ more) h = refl
on_image (lines.Call call ∷ more) h = refl

is_on : (ls : List Line) (shelf shelf_new : Side) (status : ℕ) (text : List ℕ) → formats_first ls ≡ false → IsBadImage shelf shelf_new status text ⊎ (IsRunOn ls shelf shelf_new status text ⊎ IsTooMuchOn ls shelf shelf_new status text) → IsScriptDue (Ok ls) shelf shelf_new (Prints status text)
is_on ls shelf shelf_new status text image is =
    let D : Due → Type 0 = λ d. IsDue d (sides shelf unread) (sides shelf_new unread) status text in
    subst D (sym (on_image ls image)) (tt, is)

-- what the lines are answered on it is due
pub run_is_due : (ls : List Line) (shelf shelf_new : Side) (text : List ℕ) (old new : Flash) → formats_first ls ≡ false → IsTaken shelf old → IsServedOn ls text old new → HoldsImage shelf new.blocks new.image shelf_new → IsScriptDue (Ok ls) shelf shelf_new (Prints 0 text)
run_is_due ls shelf shelf_new text old new image taken served put =
    is_on ls shelf shelf_new 0 text image (inr (inl (record { status_is = refl; old = old; new = new; taken = taken; served = served; put = put })))

pub too_much_on : (ls : List Line) (shelf : Side) (all : List ℕ) (old : Flash) (ending : Ending) → formats_first ls ≡ false → IsTaken shelf old → OverflowsOn old ls all → (ending ≡ Prints 9 too_much) ⊎ (ending ≡ Quiet 7) → IsScriptDue (Ok ls) shelf shelf ending
too_much_on ls shelf all old ending image taken much (inl told) =
    let E : Ending → Type 0 = λ e. IsScriptDue (Ok ls) shelf shelf e in
    subst E (sym told) (is_on ls shelf shelf 9 too_much image (inr (inr (record { status_is = refl; text_is = refl; old = old; taken = taken; all = all; overflows = much; unput = refl }))))
too_much_on ls shelf all old ending image taken much (inr quiet) =
    let E : Ending → Type 0 = λ e. IsScriptDue (Ok ls) shelf shelf e in
    subst E (sym quiet) (inl (refl, refl))

bytes_told : (held : Option (List ℕ)) (bytes : List ℕ) (P : List ℕ → Type 0) → IfSome held (λ all. bytes ≡ all) → P bytes → IfSome held P
bytes_told (Some all) bytes P is here = subst P is here
bytes_told None bytes P is here = tt

-- so is the refusal of bytes that are no image file
pub bad_is_due : (ls : List Line) (shelf : Side) (bytes : List ℕ) (fault : ImageFault) (ending : Ending) → formats_first ls ≡ false → IfSome shelf.bytes (λ all. bytes ≡ all) → Refuses bytes fault → (fault ≡ NoMemory → ⊥) → (ending ≡ Prints 3 bad_image) ⊎ (ending ≡ Quiet 7) → IsScriptDue (Ok ls) shelf shelf ending
bad_is_due ls shelf bytes fault ending image held refuses found (inl told) =
    let E : Ending → Type 0 = λ e. IsScriptDue (Ok ls) shelf shelf e in
    subst E (sym told) (is_on ls shelf shelf 3 bad_image image (inl (record { status_is = refl; text_is = refl; fault = fault; refuses = bytes_told shelf.bytes bytes (λ b. Refuses b fault) held refuses; found = found; unput = refl })))
bad_is_due ls shelf bytes fault ending image held refuses found (inr quiet) =
    let E : Ending → Type 0 = λ e. IsScriptDue (Ok ls) shelf shelf e in
    subst E (sym quiet) (inl (refl, refl))

-- the file of a flash's image was taken
pub taken_from : (shelf : Side) (bytes : List ℕ) (flash : Flash) → IfSome shelf.bytes (λ all. bytes ≡ all) → bytes ≡ image_bytes flash.image flash.blocks → 256 ≤ flash.blocks → flash.blocks ≤ 2048 → IsTaken shelf flash
taken_from shelf bytes flash held is least most = record { file = bytes_told shelf.bytes bytes (λ b. b ≡ image_bytes flash.image flash.blocks) held is; least = least; most = most }
