-- What a load comes to.
use Rattle.std.specs.Prelude.{ℕ, ◌+◌, List, ◌++◌, codes}
use Rattle.kfs_model.specs.declared.Line.{Line}
use Rattle.kfs_model.specs.Tree.{Limits}
use Rattle.kfs_plain.specs.Plain.{totals_of}
use Rattle.kfs_plain.specs.declared.tree.Totals.{Totals}
use Rattle.kfs_script.specs.AnswerText.{and_number, newline}
use Rattle.kfs_load.specs.Generator.{load_lines}
use Rattle.kfs_load.specs.Coming.{first_live, behind_lines, replies_to, dones_in, errors_in}
use Rattle.kfs_runner.specs.Numbers.{limits_of}

-- the line of the numbers: the calls, those that were done, the errors, the number of the mount, and
-- what the tree holds
abbrev pub numbers_text : ℕ → ℕ → ℕ → Totals → List ℕ
numbers_text dones errors changes totals =
    codes "calls" ++ and_number (dones + errors) ++ codes " ok" ++ and_number dones ++ codes " err" ++ and_number errors
    ++ codes " changes" ++ and_number changes ++ codes " nodes" ++ and_number totals.nodes ++ codes " chunks" ++ and_number totals.chunks
    ++ codes " bytes" ++ and_number totals.bytes ++ newline

-- the line for the lines of a load: what was replied, and the life behind its last line, a mount
unfoldable pub lines_text : Limits → List Line → List ℕ
lines_text k ls = numbers_text (dones_in (replies_to k first_live ls)) (errors_in (replies_to k first_live ls)) (behind_lines k first_live ls).mark (totals_of (behind_lines k first_live ls).world.tree)

-- the line for a seed, a number of steps and a number of blocks
abbrev pub load_text : ℕ → ℕ → ℕ → List ℕ
load_text seed count blocks = lines_text (limits_of blocks) (load_lines seed count blocks)
