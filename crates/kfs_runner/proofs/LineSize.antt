-- Each line of a script has at least three bytes.
use Rattle.std.proofs.Common.{◌≡◌, ◌≤◌, ◌<◌, ◌+◌, ◌∷◌, ◌∙◌, ℕ, Bool, true, false, cond, List, [], length, Option, Some, None, refl, sym, ap, arith}
use Rattle.std.specs.Prelude.{◌==◌, ◌&&◌, nat_eq, is_some, codes}
use Rattle.std.specs.Str.{bytes_eq}
use Rattle.std.proofs.lemmas.Bool.{false≢true}
use Rattle.std.specs.List.{slice_split, onto_first}
use Rattle.std.proofs.Math.Bool.{and-false}
use Rattle.kfs_model.specs.declared.Line.{Line}
use Rattle.kfs_script.specs.Script.{◌>>=◌, stands_here, line_at, line_of, line_of_words, words_of, command_of, path_command, number_command, bare_command, other_command, form_of}

-- the bytes of pieces, with the byte behind each
abbrev pub size : List (List ℕ) → ℕ
size [] = 0
size (piece ∷ pieces) = length piece + 1 + size pieces

size-onto_first : (x : ℕ) (pieces : List (List ℕ)) → size (onto_first x pieces) ≤ size pieces + 2
size-onto_first x [] = omega arith
size-onto_first x (piece ∷ pieces) = omega arith

size_split_step : (t : Bool) (x : ℕ) (pieces : List (List ℕ)) (n : ℕ) → size pieces ≡ n → (pieces ≡ [] → size pieces ≡ 1) → size (cond t ([] ∷ pieces) (onto_first x pieces)) ≡ n + 1
size_split_step true x pieces n is some = omega arith
size_split_step false x [] n is some = absurd (omega (arith, some refl))
size_split_step false x (piece ∷ pieces) n is some = omega arith

-- the pieces of a text have its bytes and one more
pub size_split : (p : ℕ → Bool) (xs : List ℕ) → size (slice_split p xs) ≡ length xs + 1
size_split p [] = refl
size_split p (x ∷ xs) =
    let rest = size_split p xs in
    let some : slice_split p xs ≡ [] → size (slice_split p xs) ≡ 1 = λ empty. absurd (omega (arith, rest, ap size empty)) in
    size_split_step (p x) x (slice_split p xs) (length xs + 1) rest some ∙ omega arith

-- a shorter word is another one
short_eq : (word text : List ℕ) → length word < length text → bytes_eq word text ≡ false
short_eq [] [] lt = absurd (omega (arith, lt))
short_eq [] (x ∷ xs) lt = refl
short_eq (a ∷ word) [] lt = absurd (omega (arith, lt))
short_eq (a ∷ word) (x ∷ xs) lt = ap (λ b. nat_eq a x && b) (short_eq word xs (omega (arith, lt))) ∙ and-false (nat_eq a x)

short_command : (word : List ℕ) → length word < 3 → command_of word ≡ None
unfolding command_of path_command number_command bare_command other_command
short_command word lt =
    let no : (text : List ℕ) → 3 ≤ length text → bytes_eq word text ≡ false = λ text le. short_eq word text (omega (arith, lt, le)) in
    let e0 : bytes_eq word (codes "mkdir") ≡ false = no (codes "mkdir") (omega arith) in
    let e1 : bytes_eq word (codes "rmdir") ≡ false = no (codes "rmdir") (omega arith) in
    let e2 : bytes_eq word (codes "unlink") ≡ false = no (codes "unlink") (omega arith) in
    let e3 : bytes_eq word (codes "stat") ≡ false = no (codes "stat") (omega arith) in
    let e4 : bytes_eq word (codes "list") ≡ false = no (codes "list") (omega arith) in
    let e5 : bytes_eq word (codes "close") ≡ false = no (codes "close") (omega arith) in
    let e6 : bytes_eq word (codes "dup") ≡ false = no (codes "dup") (omega arith) in
    let e7 : bytes_eq word (codes "fstat") ≡ false = no (codes "fstat") (omega arith) in
    let e8 : bytes_eq word (codes "fsync") ≡ false = no (codes "fsync") (omega arith) in
    let e9 : bytes_eq word (codes "@work") ≡ false = no (codes "@work") (omega arith) in
    let e10 : bytes_eq word (codes "sync") ≡ false = no (codes "sync") (omega arith) in
    let e11 : bytes_eq word (codes "@mount") ≡ false = no (codes "@mount") (omega arith) in
    let e12 : bytes_eq word (codes "@tree") ≡ false = no (codes "@tree") (omega arith) in
    let e13 : bytes_eq word (codes "@room") ≡ false = no (codes "@room") (omega arith) in
    let e14 : bytes_eq word (codes "open") ≡ false = no (codes "open") (omega arith) in
    let e15 : bytes_eq word (codes "read") ≡ false = no (codes "read") (omega arith) in
    let e16 : bytes_eq word (codes "write") ≡ false = no (codes "write") (omega arith) in
    let e17 : bytes_eq word (codes "pread") ≡ false = no (codes "pread") (omega arith) in
    let e18 : bytes_eq word (codes "pwrite") ≡ false = no (codes "pwrite") (omega arith) in
    let e19 : bytes_eq word (codes "lseek") ≡ false = no (codes "lseek") (omega arith) in
    let e20 : bytes_eq word (codes "truncate") ≡ false = no (codes "truncate") (omega arith) in
    let e21 : bytes_eq word (codes "ftruncate") ≡ false = no (codes "ftruncate") (omega arith) in
    let e22 : bytes_eq word (codes "rename") ≡ false = no (codes "rename") (omega arith) in
    let e23 : bytes_eq word (codes "@format") ≡ false = no (codes "@format") (omega arith) in
    let e24 : bytes_eq word (codes "@cut") ≡ false = no (codes "@cut") (omega arith) in
    let e25 : bytes_eq word (codes "@fail") ≡ false = no (codes "@fail") (omega arith) in
    rw (e0, e1, e2, e3, e4, e5, e6, e7, e8, e9, e10, e11, e12, e13, e14, e15, e16, e17, e18, e19, e20, e21, e22, e23, e24, e25) refl

some_of : {A : Type 0} (o : Option A) → o ≡ None → is_some o ≡ true → ⊥
some_of o none some = false≢true (sym (ap is_some none) ∙ some)

long_word : (word : List ℕ) → is_some (command_of word) ≡ true → 3 ≤ length word
long_word [] some = absurd (some_of (command_of []) (short_command [] (omega arith)) some)
long_word (a ∷ []) some = absurd (some_of (command_of (a ∷ [])) (short_command (a ∷ []) (omega arith)) some)
long_word (a ∷ b ∷ []) some = absurd (some_of (command_of (a ∷ b ∷ [])) (short_command (a ∷ b ∷ []) (omega arith)) some)
long_word (a ∷ b ∷ d ∷ more) some = omega arith

has_some : {A : Type 0} (o : Option A) (rest : A → Option Line) (line : Line) → (o >>= rest) ≡ Some line → is_some o ≡ true
has_some None rest line e = cc
has_some (Some c) rest line e = refl

has_line : (o : Option Line) (rest : Line → Option Line) (line : Line) → (o >>= rest) ≡ Some line → (l : Line) × (o ≡ Some l)
has_line None rest line e = cc
has_line (Some l) rest line e = (l, refl)

words_size : (words : List (List ℕ)) (line : Line) (n : ℕ) → line_of_words words ≡ Some line → size words ≡ n + 1 → 3 ≤ n
words_size [] line n e is = cc
words_size (word ∷ more) line n e is =
    omega (arith, is, long_word word (has_some (command_of word) (λ c. form_of c more) line e))

pub line_size : (first : Bool) (bytes : List ℕ) (line : Line) → line_at first bytes ≡ Some line → 3 ≤ length bytes
unfolding line_at line_of
line_size first bytes line e =
    let has = has_line (line_of_words (words_of bytes)) (stands_here first) line e in
    words_size (words_of bytes) has.0 (length bytes) has.1 (size_split (λ b. b == 32) bytes)
