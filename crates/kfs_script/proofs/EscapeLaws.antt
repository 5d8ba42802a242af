-- The loop that reads the bytes of a word.
use Rattle.std.proofs.Common.{◌≡◌, ℕ, List, [], length, ◌∷◌, ◌++◌, true, false, cond, eqb, Some, None, Option, refl, ap, sym, ◌∙◌, append_assoc}
use Rattle.kfs_script.specs.Script.{◌>>=◌, onto, plain, byte_of, esc_of}
use Rattle.kfs_script.specs.Reading.{next_of}

-- the bytes that were read, and those that are left
abbrev pub with_front : List ℕ → Option (List ℕ) → Option (List ℕ)
with_front front read = read >>= λ more. Some (front ++ more)

abbrev after : Option (ℕ × List ℕ) → Option (List ℕ)
after next = next >>= λ n. onto (Some n.0) (esc_of n.1)

read_on : (o : Option ℕ) (rest : List ℕ) → onto o (esc_of rest) ≡ after (o >>= λ x. Some (x, rest))
read_on None rest = refl
read_on (Some x) rest = refl

step : (b : ℕ) (bytes : List ℕ) → esc_of (b ∷ bytes) ≡ after (next_of (b ∷ bytes))
step b [] = read_on (plain b) []
step b (h ∷ []) = read_on (plain b) (h ∷ [])
step b (h ∷ l ∷ rest) = elim (eqb b 37) as (λ t. cond t (onto (byte_of h l) (esc_of rest)) (onto (plain b) (esc_of (h ∷ l ∷ rest))) ≡ after (cond t (byte_of h l >>= λ x. Some (x, rest)) (plain b >>= λ x. Some (x, h ∷ l ∷ rest)))) [
  | true ↦ read_on (byte_of h l) rest
  | false ↦ read_on (plain b) (h ∷ l ∷ rest)
]

joins : (text : List ℕ) (b : ℕ) (read : Option (List ℕ)) → with_front (text ++ b ∷ []) read ≡ with_front text (onto (Some b) read)
joins text b None = refl
joins text b (Some more) = ap Some (append_assoc text (b ∷ []) more)

pub a_byte : (text rest word after_it : List ℕ) (b : ℕ) → eqb (length rest) 0 ≡ false → Some (b, after_it) ≡ next_of rest → with_front text (esc_of rest) ≡ esc_of word → with_front (text ++ b ∷ []) (esc_of after_it) ≡ esc_of word
a_byte text [] word after_it b some is told = absurd (cc)
a_byte text (x ∷ xs) word after_it b some is told = joins text b (esc_of after_it) ∙ ap (λ n. with_front text (after n)) is ∙ ap (with_front text) (sym (step x xs)) ∙ told
