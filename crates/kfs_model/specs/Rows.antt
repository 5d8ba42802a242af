-- What some calls answer and some lives go, by computing the definitions.
use Rattle.std.specs.Prelude.{ℕ, suc, ◌≡◌, List, [], ◌∷◌, pos, codes, refl, true, false}
use Rattle.std.proofs.Common.{inl, inr}
use Rattle.kfs_path.specs.declared.call.Call.{Call}
use Rattle.kfs_path.specs.declared.call.Call.TheVariants as calls
use Rattle.kfs_path.specs.declared.call.Reply.{Reply}
use Rattle.kfs_path.specs.declared.call.Reply.TheVariants as replies
use Rattle.kfs_path.specs.declared.call.Errno.TheVariants.{EEXIST, ENOENT, EINVAL, ENOTEMPTY}
use Rattle.kfs_path.specs.declared.call.Flags.{Flags}
use Rattle.kfs_path.specs.declared.call.Whence.TheVariants.{Set}
use Rattle.kfs_path.specs.declared.call.Data.TheVariants.{Plain, Fill}
use Rattle.kfs_path.specs.declared.call.Cause.TheVariants.{Cut}
use Rattle.kfs_model.specs.declared.Line.TheVariants as lines
use Rattle.kfs_model.specs.declared.Answer.{Answer}
use Rattle.kfs_model.specs.declared.Answer.TheVariants as answers
use Rattle.kfs_model.specs.Tree.{Limits, root_alone}
use Rattle.kfs_model.specs.Desk.{empty_desk, lowest_free}
use Rattle.kfs_model.specs.Step.{World, step}
use Rattle.kfs_model.specs.Life.{Life, State, newborn}

-- what a device of 256 blocks has room for
abbrev pub small : Limits
small = record { keys = 4032; pages = 1472 }

-- a root alone, and nothing open
abbrev pub first : World
first = record { tree = root_alone; desk = empty_desk }

-- the replies to calls, where a description gets the next number
abbrev pub replies_from : ℕ → World → List Call → List Reply
replies_from d w [] = []
replies_from d w (call ∷ calls) = let after = step small d w call in after.reply ∷ replies_from (suc d) after.world calls

abbrev pub reading_writing_making : Flags
reading_writing_making = record { read = true; write = true; creat = true; excl = false; trunc = false; append = false }

pub made_directory_is_listed : replies_from 0 first (calls.Mkdir (codes "/a") ∷ calls.List (codes "/") ∷ [])
    ≡ replies.Done ∷ replies.Names (codes "a" ∷ []) ∷ []
made_directory_is_listed = refl

pub second_making_is_refused : replies_from 0 first (calls.Mkdir (codes "/a") ∷ calls.Mkdir (codes "/a") ∷ calls.Rmdir (codes "/b") ∷ [])
    ≡ replies.Done ∷ replies.Err EEXIST ∷ replies.Err ENOENT ∷ []
second_making_is_refused = refl

pub renaming_moves_what_lies_below : replies_from 0 first (calls.Mkdir (codes "/a") ∷ calls.Mkdir (codes "/a/b") ∷ calls.Rename (codes "/a") (codes "/c") ∷ calls.Stat (codes "/c/b") ∷ calls.Stat (codes "/a/b") ∷ [])
    ≡ replies.Done ∷ replies.Done ∷ replies.Done ∷ replies.Dir 3 ∷ replies.Err ENOENT ∷ []
renaming_moves_what_lies_below = refl

pub renaming_replaces_only_an_empty_directory : replies_from 0 first (calls.Mkdir (codes "/a") ∷ calls.Mkdir (codes "/a/b") ∷ calls.Rename (codes "/a") (codes "/a/b/c") ∷ calls.Mkdir (codes "/x") ∷ calls.Rename (codes "/x") (codes "/a") ∷ calls.Rename (codes "/x") (codes "/a/b") ∷ calls.Stat (codes "/a/b") ∷ calls.List (codes "/") ∷ [])
    ≡ replies.Done ∷ replies.Done ∷ replies.Err EINVAL ∷ replies.Done ∷ replies.Err ENOTEMPTY ∷ replies.Done ∷ replies.Dir 4 ∷ replies.Names (codes "a" ∷ []) ∷ []
renaming_replaces_only_an_empty_directory = refl

pub bytes_before_a_write_are_zero : replies_from 0 first (calls.Open (codes "/f") reading_writing_making ∷ calls.Lseek 0 Set (pos 2) ∷ calls.Write 0 (Plain (codes "Z")) ∷ calls.Pread 0 9 (pos 0) ∷ [])
    ≡ replies.Number 0 ∷ replies.Number 2 ∷ replies.Number 1 ∷ replies.Read (0 ∷ 0 ∷ 90 ∷ []) ∷ []
unfolding lowest_free
bytes_before_a_write_are_zero = refl

pub bytes_cut_off_come_back_as_zero : replies_from 0 first (calls.Open (codes "/f") reading_writing_making ∷ calls.Write 0 (Fill 5000 65) ∷ calls.Ftruncate 0 (pos 1) ∷ calls.Ftruncate 0 (pos 5000) ∷ calls.Pread 0 3 (pos 0) ∷ calls.Pread 0 3 (pos 4998) ∷ [])
    ≡ replies.Number 0 ∷ replies.Number 5000 ∷ replies.Done ∷ replies.Done ∷ replies.Read (65 ∷ 0 ∷ 0 ∷ []) ∷ replies.Read (0 ∷ 0 ∷ []) ∷ []
unfolding lowest_free
bytes_cut_off_come_back_as_zero = refl

pub contents_stay_until_the_last_close : replies_from 0 first (calls.Open (codes "/f") reading_writing_making ∷ calls.Write 0 (Plain (codes "hi")) ∷ calls.Unlink (codes "/f") ∷ calls.Pread 0 2 (pos 0) ∷ calls.Room ∷ calls.Close 0 ∷ calls.Room ∷ [])
    ≡ replies.Number 0 ∷ replies.Number 2 ∷ replies.Done ∷ replies.Read (codes "hi") ∷ replies.Room 6 4032 1 1472 ∷ replies.Done ∷ replies.Room 3 4032 0 1472 ∷ []
unfolding lowest_free
contents_stay_until_the_last_close = refl

abbrev pub done : Answer
done = answers.Reply replies.Done

pub synced_change_outlives_a_mount : (end : State) × Life small newborn
    (lines.Call (calls.Mkdir (codes "/a")) ∷ lines.Call calls.Sync ∷ lines.Mount ∷ lines.Call (calls.List (codes "/")) ∷ [])
    (done ∷ done ∷ answers.Mounted 1 ∷ answers.Reply (replies.Names (codes "a" ∷ [])) ∷ []) end
synced_change_outlives_a_mount = (_, (_, (0, refl, inl (refl, refl)), (_, (0, refl, inl (refl, refl)), (_, (refl, refl), (_, (0, refl, inl (refl, refl)), refl)))))

pub cut_sync_may_have_kept_nothing : (end : State) × Life small newborn
    (lines.Call (calls.Mkdir (codes "/a")) ∷ lines.Cut 1 1 ∷ lines.Call calls.Sync ∷ lines.Call (calls.Mkdir (codes "/b")) ∷ lines.Mount ∷ lines.Call (calls.List (codes "/")) ∷ [])
    (done ∷ done ∷ answers.Reply (replies.Down Cut) ∷ answers.Reply replies.Off ∷ answers.Mounted 0 ∷ answers.Reply (replies.Names []) ∷ []) end
cut_sync_may_have_kept_nothing = (_, (_, (0, refl, inl (refl, refl)), (_, (refl, refl), (_, (0, refl, inr (Cut, refl, refl, refl)), (_, (refl, refl), (_, (inl refl, refl), (_, (0, refl, inl (refl, refl)), refl)))))))

pub cut_sync_may_have_kept_all : (end : State) × Life small newborn
    (lines.Call (calls.Mkdir (codes "/a")) ∷ lines.Cut 1 3 ∷ lines.Call calls.Sync ∷ lines.Call (calls.Mkdir (codes "/b")) ∷ lines.Mount ∷ lines.Call (calls.List (codes "/")) ∷ [])
    (done ∷ done ∷ answers.Reply (replies.Down Cut) ∷ answers.Reply replies.Off ∷ answers.Mounted 1 ∷ answers.Reply (replies.Names (codes "a" ∷ [])) ∷ []) end
cut_sync_may_have_kept_all = (_, (_, (0, refl, inl (refl, refl)), (_, (refl, refl), (_, (0, refl, inr (Cut, refl, refl, refl)), (_, (refl, refl), (_, (inr (inl refl), refl), (_, (0, refl, inl (refl, refl)), refl)))))))
