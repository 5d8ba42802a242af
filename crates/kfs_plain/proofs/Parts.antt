-- A rename and a write, judged first and then done.
use Rattle.std.proofs.Common.{◌≡◌, ℕ, Bool, true, false, cond, List, length, take, Option, Some, None, Result, Ok, Err, refl, sym, ap, ◌∙◌, ◌+◌}
use Rattle.std.specs.Prelude.{if◌then◌else◌, ◌==◌, nat_lt, nat_le, is_some, ◌&&◌}
use Rattle.kfs_path.specs.Pieces.{is_empty}
use Rattle.kfs_path.specs.declared.call.Errno.{Errno}
use Rattle.kfs_path.specs.declared.call.Errno.TheVariants.{ENOTDIR, EINVAL, EISDIR, ENOTEMPTY, EFBIG, ENOSPC}
use Rattle.kfs_path.specs.declared.call.Reply.TheVariants as replies
use Rattle.kfs_model.specs.declared.Node.TheVariants.{File}
use Rattle.kfs_model.specs.declared.Description.{Description}
use Rattle.kfs_model.specs.Ladder.{◌>>=◌, ◌>>◌, ◌when◌}
use Rattle.kfs_model.specs.Tree.{Limits, Place, below, without_place, renamed, with_node, written, fits, greatest_length}
use Rattle.kfs_model.specs.Step.{World, After, Route, syntax, answers, leaves_swept, rename, writes, content, greatest_count, is_same_place, is_file, is_dir, isnt_empty}
use Rattle.kfs_plain.specs.Renaming.{rename_from, rename_to, judge_rename}
use Rattle.kfs_plain.specs.Tables.{writable, with_offset_at}

then_bind : {A B : Type 0} (c : Option Errno) (r : Result A Errno) (f : A → Result B Errno) → ((c >> r) >>= f) ≡ (c >> (r >>= f))
then_bind None r f = refl
then_bind (Some e) r f = refl

bind_bind : {A B C : Type 0} (r : Result A Errno) (f : A → Result B Errno) (g : B → Result C Errno) → ((r >>= f) >>= g) ≡ (r >>= λ x. f x >>= g)
bind_bind (Ok x) f g = refl
bind_bind (Err e) f g = refl

-- once the two places are known
abbrev pub rename_at : World → Place → Place → Result After Errno
rename_at w p q = if is_same_place p q then answers w replies.Done else (judge_rename w.tree p q >>= λ _. leaves_swept w (renamed (without_place w.tree q) p q) replies.Done)

judged : (w : World) (p q : Place) → rename_at w p q ≡ (if is_same_place p q then answers w replies.Done else do
  EINVAL when is_some (below p q)
  ENOTDIR when (is_dir w.tree p && is_file w.tree q)
  EISDIR when (is_file w.tree p && is_dir w.tree q)
  ENOTEMPTY when isnt_empty w.tree q
  leaves_swept w (renamed (without_place w.tree q) p q) replies.Done)
judged w p q = ap (cond (is_same_place p q) (answers w replies.Done)) (simp then_bind)

pub rename-parts : (w : World) (old new : List ℕ) → rename w old new ≡ (syntax old >>= λ from. syntax new >>= λ to. rename_from w.tree from to >>= λ p. rename_to w.tree p to >>= λ q. rename_at w p q)
rename-parts w old new = sym (simp (then_bind, bind_bind, judged))

-- once it is known how many bytes may be written
abbrev pub write_count : World → ℕ × Description → ℕ → List ℕ → ℕ → Result After Errno
write_count w (d, it) p given j = if j == 0 then answers w (replies.Number 0) else Ok (record {
  world = record { tree = with_node w.tree it.node (File (written (content w.tree it.node) p (take j given))); desk = with_offset_at w.desk d it (p + j) };
  reply = replies.Number j;
})

by_tests : {R : Type 0} (long none far : Bool) (j : ℕ) (same : Result R Errno) (done : ℕ → Result R Errno)
    → ((EINVAL when long) >> (if none then same else ((EFBIG when far) >> ((ENOSPC when (j == 0)) >> done j))))
    ≡ (((EINVAL when long) >> (if none then Ok 0 else ((EFBIG when far) >> ((ENOSPC when (j == 0)) >> Ok j)))) >>= λ i. if i == 0 then same else done i)
by_tests true none far j same done = refl
by_tests false true far j same done = refl
by_tests false false true j same done = refl
by_tests {R} false false false j same done = last (j == 0) refl
  where
    last : (t : Bool) → (j == 0) ≡ t → ((ENOSPC when t) >> done j) ≡ (((ENOSPC when t) >> Ok j) >>= λ i. if i == 0 then same else done i)
    last true e = refl
    last false e = ap (λ t. cond t same (done j)) (sym e)

-- the place where a description writes
abbrev pub place_of : World → Description → ℕ
place_of w it = if it.append then length (content w.tree it.node) else it.offset

pub writes-parts : (k : Limits) (w : World) (d : ℕ) (it : Description) (given : List ℕ) → writes k w (d, it) given ≡ (writable k w.tree it.node (place_of w it) given >>= write_count w (d, it) (place_of w it) given)
writes-parts k w d it given =
    by_tests (nat_lt greatest_count (length given)) (is_empty given) (nat_le greatest_length (place_of w it)) (fits k w.tree it.node (content w.tree it.node) (place_of w it) (length given)) (answers w (replies.Number 0))
    (λ j. Ok (record {
      world = record { tree = with_node w.tree it.node (File (written (content w.tree it.node) (place_of w it) (take j given))); desk = with_offset_at w.desk d it (place_of w it + j) };
      reply = replies.Number j;
    }))

-- a rename once its paths are read, once it is known from where it is, and once both places are known
pub rename-read : (w : World) (old new : List ℕ) (from to : Route) → syntax old ≡ Ok from → syntax new ≡ Ok to → rename w old new ≡ (rename_from w.tree from to >>= λ p. rename_to w.tree p to >>= λ q. rename_at w p q)
rename-read w old new from to a b =
    rename-parts w old new
    ∙ ap (λ r. r >>= λ from. syntax new >>= λ to. rename_from w.tree from to >>= λ p. rename_to w.tree p to >>= λ q. rename_at w p q) a
    ∙ ap (λ r. r >>= λ to. rename_from w.tree from to >>= λ p. rename_to w.tree p to >>= λ q. rename_at w p q) b

pub rename-left : (w : World) (old new : List ℕ) (from to : Route) (p : Place) → syntax old ≡ Ok from → syntax new ≡ Ok to → rename_from w.tree from to ≡ Ok p → rename w old new ≡ (rename_to w.tree p to >>= λ q. rename_at w p q)
rename-left w old new from to p a b left = rename-read w old new from to a b ∙ ap (λ r. r >>= λ p. rename_to w.tree p to >>= λ q. rename_at w p q) left

pub rename-placed : (w : World) (old new : List ℕ) (from to : Route) (p q : Place) → syntax old ≡ Ok from → syntax new ≡ Ok to → rename_from w.tree from to ≡ Ok p → rename_to w.tree p to ≡ Ok q → rename w old new ≡ rename_at w p q
rename-placed w old new from to p q a b left right = rename-left w old new from to p a b left ∙ ap (λ r. r >>= λ q. rename_at w p q) right

-- a place that is renamed to itself stays, and another is judged first
pub rename-same : (w : World) (p q : Place) → is_same_place p q ≡ true → rename_at w p q ≡ answers w replies.Done
rename-same w p q same = ap (λ b. cond b (answers w replies.Done) (judge_rename w.tree p q >>= λ _. leaves_swept w (renamed (without_place w.tree q) p q) replies.Done)) same

pub rename-apart : (w : World) (p q : Place) → is_same_place p q ≡ false → rename_at w p q ≡ (judge_rename w.tree p q >>= λ _. leaves_swept w (renamed (without_place w.tree q) p q) replies.Done)
rename-apart w p q apart = ap (λ b. cond b (answers w replies.Done) (judge_rename w.tree p q >>= λ _. leaves_swept w (renamed (without_place w.tree q) p q) replies.Done)) apart

pub rename-moves : (w : World) (p q : Place) → is_same_place p q ≡ false → judge_rename w.tree p q ≡ Ok tt → rename_at w p q ≡ leaves_swept w (renamed (without_place w.tree q) p q) replies.Done
rename-moves w p q apart judged = rename-apart w p q apart ∙ ap (λ r. r >>= λ _. leaves_swept w (renamed (without_place w.tree q) p q) replies.Done) judged
