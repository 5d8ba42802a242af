-- Rows of the script's text that compute.
use Rattle.std.specs.Prelude.{◌≡◌, [], ◌∷◌, codes, refl, Ok, Err}
use Rattle.kfs_path.specs.declared.call.Call.TheVariants as calls
use Rattle.kfs_path.specs.declared.call.Reply.TheVariants as replies
use Rattle.kfs_model.specs.declared.Line.TheVariants as lines
use Rattle.kfs_model.specs.declared.Answer.TheVariants as answers
use Rattle.kfs_script.specs.Script.{script_of, added, line_at, line_of, command_of, path_command, number_command, bare_command, other_command, path_form, bare_form, format_form, cut_form, number_to, times_of, outcome_of, blocks_of, byte_of, hex_of}
use Rattle.kfs_script.specs.AnswerText.{text_of}

pub lines_row : script_of (codes "# a\n@format 256\n\nmkdir /a%2Fb\n@cut 3 mix\nsync")
    ≡ Ok (lines.Format 256 ∷ lines.Call (calls.Mkdir (codes "/a/b")) ∷ lines.Cut 3 2 ∷ lines.Call calls.Sync ∷ [])
unfolding script_of added line_at line_of command_of path_command number_command bare_command other_command path_form bare_form format_form cut_form number_to times_of outcome_of blocks_of byte_of hex_of
lines_row = refl

pub number_row : script_of (codes "# a\nsync\n@cut 03 mix\nsync\n") ≡ Err 3
unfolding script_of added line_at line_of command_of path_command number_command bare_command other_command bare_form cut_form number_to times_of outcome_of
number_row = refl

pub format_row : script_of (codes "\nsync\n@format 256\n") ≡ Err 3
unfolding script_of added line_at line_of command_of path_command number_command bare_command other_command bare_form format_form number_to blocks_of
format_row = refl

pub names_row : text_of (answers.Reply (replies.Names (codes "a b" ∷ codes "c%" ∷ []))) ≡ codes "ok a%20b c%25\n"
names_row = refl
