-- What lines come to where nothing fails.
use Rattle.std.specs.Prelude.{ℕ, Bool, true, false, not, List, [], ◌∷◌, count_by}
use Rattle.kfs_path.specs.declared.call.Call.{Call}
use Rattle.kfs_path.specs.declared.call.Reply.{Reply}
use Rattle.kfs_path.specs.declared.call.Reply.TheVariants as replies
use Rattle.kfs_model.specs.declared.Line.{Line}
use Rattle.kfs_model.specs.declared.Line.TheVariants as lines
use Rattle.kfs_model.specs.Tree.{Limits, root_alone}
use Rattle.kfs_model.specs.Desk.{empty_desk}
use Rattle.kfs_model.specs.Step.{After, step}
use Rattle.kfs_model.specs.Life.{Live, nothing_since, live_after, up_at}
use Rattle.kfs_plain.specs.Tables.{free_number}

-- where a life begins that formats first
abbrev pub first_live : Live
first_live = record { past = record { count = 0; trees = root_alone ∷ [] }; mark = 0; world = record { tree = root_alone; desk = empty_desk }; since = nothing_since }

-- what a call leaves and answers; a new description gets the lowest number that none has
abbrev pub done_call : Limits → Live → Call → After
done_call k live call = step k (free_number live.world.desk) live.world call

-- the life behind a line
abbrev pub behind_line : Limits → Live → Line → Live
behind_line k live (lines.Call call) = live_after live call (done_call k live call)
behind_line k live lines.Mount = up_at live.past live.mark
behind_line k live (lines.Format blocks) = live
behind_line k live (lines.Cut n how) = live
behind_line k live (lines.Fail kind n) = live

-- the life behind all of them
abbrev pub behind_lines : Limits → Live → List Line → Live
behind_lines k live [] = live
behind_lines k live (line ∷ more) = behind_lines k (behind_line k live line) more

-- the replies to a line's call, before those to others
abbrev pub with_reply : Limits → Live → Line → List Reply → List Reply
with_reply k live (lines.Call call) others = (done_call k live call).reply ∷ others
with_reply k live line others = others

-- the replies to the calls among the lines
abbrev pub replies_to : Limits → Live → List Line → List Reply
replies_to k live [] = []
replies_to k live (line ∷ more) = with_reply k live line (replies_to k (behind_line k live line) more)

-- a reply that is an errno
abbrev pub is_error : Reply → Bool
is_error (replies.Err errno) = true
is_error reply = false

-- how many replies are errors, and how many aren't
abbrev pub errors_in : List Reply → ℕ
errors_in given = count_by is_error given

abbrev pub dones_in : List Reply → ℕ
dones_in given = count_by (λ reply. not (is_error reply)) given
