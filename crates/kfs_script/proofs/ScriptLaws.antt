-- The loop that reads the lines of a script.
use Rattle.std.proofs.Common.{◌≡◌, ℕ, ◌+◌, List, [], ◌∷◌, ◌++◌, true, false, ◌&&◌, Result, Ok, Err, Some, None, refl, ap, sym, ◌∙◌, append_assoc, append-nil}
use Rattle.kfs_model.specs.declared.Line.{Line}
use Rattle.std.proofs.lemmas.List.Elements.{All-nil, All-push}
use Rattle.kfs_script.specs.declared.command.Command.{Command}
use Rattle.kfs_script.specs.Script.{◌>>=◌, added, with_front, followed, has_none, lines_from, lines_of, script_of, IsLine, IsScript, is_format, pieces_at, command_of, form_of, line_of_words, line_of}

front_none : (r : Result (List Line) ℕ) → with_front [] r ≡ r
front_none (Ok ls) = refl
front_none (Err n) = refl

front_joined : (a b : List Line) (r : Result (List Line) ℕ) → with_front (a ++ b) r ≡ with_front a (with_front b r)
front_joined a b (Ok ls) = ap Ok (append_assoc a b ls)
front_joined a b (Err n) = refl

none_joined : (a b : List Line) → has_none (a ++ b) ≡ (has_none a && has_none b)
none_joined [] b = refl
none_joined (l ∷ a) b = refl

pub begins : (bytes : List ℕ) → with_front [] (lines_from 1 true (lines_of bytes)) ≡ script_of bytes
unfolding script_of
begins bytes = front_none (lines_from 1 true (lines_of bytes))

pub a_line : (script new front : List Line) (number : ℕ) (line : List ℕ) (more : List (List ℕ)) (whole : Result (List Line) ℕ) →
    added number (has_none script) line ≡ Ok front → new ≡ script ++ front → with_front script (lines_from number (has_none script) (line ∷ more)) ≡ whole →
    with_front new (lines_from (number + 1) (has_none new) more) ≡ whole
a_line script new front number line more whole read is told =
    ap (λ ls. with_front ls (lines_from (number + 1) (has_none ls) more)) is
    ∙ front_joined script front (lines_from (number + 1) (has_none (script ++ front)) more)
    ∙ ap (λ b. with_front script (with_front front (lines_from (number + 1) b more))) (none_joined script front)
    ∙ ap (λ r. with_front script (followed r (λ here. lines_from (number + 1) (has_none script && has_none here) more))) (sym read)
    ∙ told

pub bad_line : (script : List Line) (number n : ℕ) (line : List ℕ) (more : List (List ℕ)) (whole : Result (List Line) ℕ) →
    added number (has_none script) line ≡ Err n → with_front script (lines_from number (has_none script) (line ∷ more)) ≡ whole → whole ≡ Err n
bad_line script number n line more whole read told = sym told ∙ ap (λ r. with_front script (followed r (λ here. lines_from (number + 1) (has_none script && has_none here) more))) read

pub ends : (script : List Line) (whole : Result (List Line) ℕ) → with_front script (Ok []) ≡ whole → whole ≡ Ok script
ends script whole told = sym told ∙ ap Ok (append-nil script)

pub held_push : (ls : List Line) (line : Line) → IsScript ls → IsLine line → (has_none ls ≡ false → is_format line ≡ false) → IsScript (ls ++ line ∷ [])
held_push [] line held fits place = (All-push IsLine [] line held.0 fits, All-nil (λ l. is_format l ≡ false))
held_push (l ∷ more) line held fits place = (All-push IsLine (l ∷ more) line held.0 fits, All-push (λ l. is_format l ≡ false) more line held.1 (place refl))

pub spells_line : (text word : List ℕ) (more : List (List ℕ)) (command : Command) → pieces_at 32 text ≡ word ∷ more → Some command ≡ command_of word → line_of text ≡ form_of command more
unfolding line_of
spells_line text word more command cut named = ap line_of_words cut ∙ ap (λ o. o >>= λ c. form_of c more) (sym named)

pub spells_none : (text word : List ℕ) (more : List (List ℕ)) → pieces_at 32 text ≡ word ∷ more → None ≡ command_of word → line_of text ≡ None
unfolding line_of
spells_none text word more cut named = ap line_of_words cut ∙ ap (λ o. o >>= λ c. form_of c more) (sym named)
