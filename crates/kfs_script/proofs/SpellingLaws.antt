-- What is spelled is read again.
use Rattle.std.proofs.Common.{◌≡◌, ℕ, ◌+◌, ◌*◌, ◌/◌, ◌%◌, ◌^◌, ◌<◌, ◌≤◌, ◌⊎◌, inl, inr, List, [], ◌∷◌, ◌++◌, length, get_or, Bool, true, false, cond, not, ◌&&◌, eqb, leb, Some, None, refl, ap, sym, ◌∙◌, append_assoc, arith, rules}
use Rattle.std.specs.List.{list_all, All}
use Rattle.std.specs.Fmt.{decimal}
use Rattle.std.proofs.lemmas.Fmt.{decimal-digits_value, digits_decimal, digits_value-decimal, decimal_nonempty, first_decimal, decimal_digit}
use Rattle.std.proofs.lemmas.Str.Parse.{IsNumeralModel, IsDigitsTest, numerals_by_fold}
use Rattle.std.proofs.lemmas.List.Elements.{All-nil, All-cons}
use Rattle.std.proofs.lemmas.List.Splits.{slice_split_at, slice_split_none}
use Rattle.std.proofs.lemmas.Option.{cond_some}
use Rattle.std.proofs.lemmas.Bool.{le-leb, cond-true, leb-true}
use Rattle.std.proofs.lemmas.Bool.Decides.{nat_tests}
use Rattle.kfs_script.specs.Script.{is_digit, is_number, number_on, number_to, hex_of, byte_of, is_plain, plain, onto, esc_of, pieces_at}
use Rattle.kfs_script.specs.AnswerText.{hex_digit, esc_byte, esc}
use Rattle.kfs_script.specs.Spelled.{AreBytes}

AreDigits : List ℕ → Type 0
AreDigits ds = list_all is_digit ds ≡ true

pub both : (a b : Bool) → (a && b) ≡ true → (a ≡ true) × (b ≡ true)
both true b e = (refl, e)
both false b e = absurd (cc)

pub joined : (a b : Bool) → a ≡ true → b ≡ true → (a && b) ≡ true
joined a b p q = rw (p, q) refl

pub in_range : (c : ℕ) → is_digit c ≡ true → (48 ≤ c) × (c ≤ 57)
in_range c h = let p = both (leb 48 c) (leb c 57) h in (leb-true _ _ p.0, leb-true _ _ p.1)

tells : IsDigitsTest (λ ds. list_all is_digit ds ≡ true)
tells = record {
  empty = refl;
  parts = λ c cs h. let p = both (is_digit c) (list_all is_digit cs) h in (in_range c p.0, p.1);
  more = λ c cs r h. joined (is_digit c) (list_all is_digit cs) (joined (leb 48 c) (leb c 57) (le-leb _ _ r.0) (le-leb _ _ r.1)) h;
}

own : IsNumeralModel (λ ds. list_all is_digit ds ≡ true) (number_on 0)
own = numerals_by_fold _ tells number_on (search rules)

record Numeral (word : List ℕ) : Type 0 where
  digits : list_all is_digit word ≡ true
  some : 0 < length word
  lead : get_or word 0 0 ≡ 48 → length word ≡ 1

pub not_equal : (d n : ℕ) → not (eqb d n) ≡ true → d ≡ n → ⊥
not_equal d n h e = grind (arith, nat_tests)

numeral : (word : List ℕ) → is_number word ≡ true → Numeral word
numeral [] h = absurd (cc)
numeral (d ∷ []) h = record { digits = joined (is_digit d) true h refl; some = omega arith; lead = λ e. refl }
numeral (d ∷ e ∷ ds) h =
    let p = both (not (eqb d 48)) (list_all is_digit (d ∷ e ∷ ds)) h in
    record { digits = p.1; some = omega arith; lead = λ z. absurd (not_equal d 48 p.0 z) }

pub differs : (d n : ℕ) → (d ≡ n → ⊥) → not (eqb d n) ≡ true
differs d n h = grind (arith, nat_tests)

from_numeral : (word : List ℕ) → Numeral word → is_number word ≡ true
from_numeral [] m = absurd (omega (arith, m.some))
from_numeral (d ∷ []) m = (both (is_digit d) true m.digits).0
from_numeral (d ∷ e ∷ ds) m = joined (not (eqb d 48)) (list_all is_digit (d ∷ e ∷ ds)) (differs d 48 (λ z. let l : length (d ∷ e ∷ ds) ≡ 1 = m.lead z in omega arith)) m.digits

-- a number has no other spelling
pub is_decimal : (limit n : ℕ) (word : List ℕ) → n < 2 ^ 64 → number_to limit word ≡ Some n → decimal n ≡ word
unfolding number_to
is_decimal limit n word small read =
    let p = cond_some (is_number word && leb (number_on 0 word) limit) (number_on 0 word) n read in
    let m = numeral word (both (is_number word) (leb (number_on 0 word) limit) p.0).0 in
    ap decimal (sym p.1) ∙ decimal-digits_value own word m.digits m.some m.lead (rw p.1 small)

within : (limit n : ℕ) (word : List ℕ) → limit < 2 ^ 64 → number_to limit word ≡ Some n → n < 2 ^ 64
unfolding number_to
within limit n word small read =
    let p = cond_some (is_number word && leb (number_on 0 word) limit) (number_on 0 word) n read in
    let le = leb-true (number_on 0 word) limit (both (is_number word) (leb (number_on 0 word) limit) p.0).1 in
    omega (arith, p.1)

lead_of : (n : ℕ) → n < 2 ^ 64 → get_or (decimal n) 0 0 ≡ 48 → length (decimal n) ≡ 1
lead_of n small e = elim (eqb n 0) as (λ t. eqb n 0 ≡ t → length (decimal n) ≡ 1) [
  | true ↦ λ z. rw (decimal_digit n (grind (arith, nat_tests))) refl
  | false ↦ λ z. absurd (omega (arith, first_decimal n (grind (arith, nat_tests)) small))
] refl

-- a number is read from its spelling
pub decimal_again : (limit n : ℕ) → n ≤ limit → n < 2 ^ 64 → number_to limit (decimal n) ≡ Some n
unfolding number_to
decimal_again limit n le small =
    let v : number_on 0 (decimal n) ≡ n = digits_value-decimal own n small in
    let m : Numeral (decimal n) = record { digits = digits_decimal own n small; some = decimal_nonempty n small; lead = lead_of n small } in
    cond-true (is_number (decimal n) && leb (number_on 0 (decimal n)) limit) (Some (number_on 0 (decimal n))) None (joined (is_number (decimal n)) (leb (number_on 0 (decimal n)) limit) (from_numeral (decimal n) m) (rw v (le-leb _ _ le))) ∙ ap Some v

hex_again : (n : ℕ) → n < 16 → hex_of (hex_digit n) ≡ Some n
unfolding hex_of
hex_again n lt = grind (arith, nat_tests)

pub byte_again : (b : ℕ) → b < 256 → byte_of (hex_digit (b / 16)) (hex_digit (b % 16)) ≡ Some b
unfolding byte_of
byte_again b lt =
    let h : b / 16 < 16 = omega arith in
    let l : b % 16 < 16 = omega arith in
    let e : 16 * (b / 16) + b % 16 ≡ b = omega arith in
    rw (hex_again (b / 16) h, hex_again (b % 16) l) (ap Some e)

plain_first : (b : ℕ) (rest : List ℕ) → eqb b 37 ≡ false → esc_of (b ∷ rest) ≡ onto (plain b) (esc_of rest)
plain_first b [] e = refl
plain_first b (h ∷ []) e = refl
plain_first b (h ∷ l ∷ rest) e = rw e refl

not_percent : (b : ℕ) → is_plain b ≡ true → eqb b 37 ≡ false
not_percent b h = grind (arith, nat_tests)

byte_first : (b : ℕ) (rest : List ℕ) → b < 256 → esc_of (esc_byte b ++ rest) ≡ onto (Some b) (esc_of rest)
byte_first b rest lt = elim (is_plain b) as (λ t. is_plain b ≡ t → esc_of (cond t (b ∷ []) (37 ∷ hex_digit (b / 16) ∷ hex_digit (b % 16) ∷ []) ++ rest) ≡ onto (Some b) (esc_of rest)) [
  | true ↦ λ h. plain_first b rest (not_percent b h) ∙ ap (λ o. onto o (esc_of rest)) (cond-true (is_plain b) (Some b) None h)
  | false ↦ λ h. ap (λ o. onto o (esc_of rest)) (byte_again b lt)
] refl

pub esc_again : (bytes : List ℕ) → AreBytes bytes → esc_of (esc bytes) ≡ Some bytes
esc_again [] fits = refl
esc_again (b ∷ bs) fits = byte_first b (esc bs) fits.0 ∙ ap (onto (Some b)) (esc_again bs fits.1)

-- a byte is not among them
abbrev pub is_clear : ℕ → List ℕ → Bool
is_clear mark word = list_all (λ b. not (eqb b mark)) word

not_marked : (mark b : ℕ) → not (eqb b mark) ≡ true → eqb b mark ≡ false
not_marked mark b h = grind (arith, nat_tests)

pub none_of : (mark : ℕ) (word : List ℕ) → is_clear mark word ≡ true → All (λ b. eqb b mark ≡ false) word
none_of mark [] h = All-nil (λ b. eqb b mark ≡ false)
none_of mark (b ∷ bs) h = let p = both (not (eqb b mark)) (list_all (λ x. not (eqb x mark)) bs) h in All-cons (λ x. eqb x mark ≡ false) b bs (not_marked mark b p.0) (none_of mark bs p.1)

digit_clear : (mark b : ℕ) → mark < 48 ⊎ 57 < mark → is_digit b ≡ true → not (eqb b mark) ≡ true
digit_clear mark b (inl lt) h = let r = in_range b h in differs b mark (λ e. omega arith)
digit_clear mark b (inr lt) h = let r = in_range b h in differs b mark (λ e. omega arith)

digits_clear : (mark : ℕ) (word : List ℕ) → mark < 48 ⊎ 57 < mark → list_all is_digit word ≡ true → is_clear mark word ≡ true
digits_clear mark [] m h = refl
digits_clear mark (b ∷ bs) m h = let p = both (is_digit b) (list_all is_digit bs) h in joined (not (eqb b mark)) (list_all (λ x. not (eqb x mark)) bs) (digit_clear mark b m p.0) (digits_clear mark bs m p.1)

pub digits_are : (n : ℕ) → n < 2 ^ 64 → list_all is_digit (decimal n) ≡ true
digits_are n small = digits_decimal own n small

pub decimal_clear : (mark n : ℕ) → mark < 48 ⊎ 57 < mark → n < 2 ^ 64 → is_clear mark (decimal n) ≡ true
decimal_clear mark n m small = digits_clear mark (decimal n) m (digits_decimal own n small)

pub hex_clear : (mark n : ℕ) → mark < 48 ⊎ ((57 < mark) × (mark < 65)) → not (eqb (hex_digit n) mark) ≡ true
hex_clear mark n (inl lt) = differs (hex_digit n) mark (λ e. grind (arith, nat_tests))
hex_clear mark n (inr lt) = let a = lt.0 in let b = lt.1 in differs (hex_digit n) mark (λ e. grind (arith, nat_tests))

plain_clear : (b : ℕ) → is_plain b ≡ true → not (eqb b 32) ≡ true
plain_clear b h = let p = both (leb 33 b && leb b 126) (not (eqb b 37)) h in let le = leb-true 33 b (both (leb 33 b) (leb b 126) p.0).0 in differs b 32 (λ e. omega arith)

pub esc_clear : (bytes : List ℕ) → is_clear 32 (esc bytes) ≡ true
esc_clear [] = refl
esc_clear (b ∷ bs) = elim (is_plain b) as (λ t. is_plain b ≡ t → list_all (λ x. not (eqb x 32)) (cond t (b ∷ []) (37 ∷ hex_digit (b / 16) ∷ hex_digit (b % 16) ∷ []) ++ esc bs) ≡ true) [
  | true ↦ λ h. joined (not (eqb b 32)) (list_all (λ x. not (eqb x 32)) (esc bs)) (plain_clear b h) (esc_clear bs)
  | false ↦ λ h. joined (not (eqb (hex_digit (b / 16)) 32)) (list_all (λ x. not (eqb x 32)) (hex_digit (b % 16) ∷ esc bs)) (hex_clear 32 (b / 16) (inl (omega arith))) (joined (not (eqb (hex_digit (b % 16)) 32)) (list_all (λ x. not (eqb x 32)) (esc bs)) (hex_clear 32 (b % 16) (inl (omega arith))) (esc_clear bs))
] refl

pub two_words : (v w : List ℕ) → is_clear 32 v ≡ true → is_clear 32 w ≡ true → pieces_at 32 (v ++ 32 ∷ w) ≡ v ∷ w ∷ []
two_words v w p q = slice_split_at (λ b. eqb b 32) v 32 w (none_of 32 v p) refl ∙ ap (λ ws. v ∷ ws) (slice_split_none (λ b. eqb b 32) w (none_of 32 w q))

pub three_words : (v w x : List ℕ) → is_clear 32 v ≡ true → is_clear 32 w ≡ true → is_clear 32 x ≡ true → pieces_at 32 (v ++ 32 ∷ (w ++ 32 ∷ x)) ≡ v ∷ w ∷ x ∷ []
three_words v w x p q r = slice_split_at (λ b. eqb b 32) v 32 (w ++ 32 ∷ x) (none_of 32 v p) refl ∙ ap (λ ws. v ∷ ws) (two_words w x q r)

pub four_words : (v w x y : List ℕ) → is_clear 32 v ≡ true → is_clear 32 w ≡ true → is_clear 32 x ≡ true → is_clear 32 y ≡ true → pieces_at 32 (v ++ 32 ∷ ((w ++ 32 ∷ x) ++ 32 ∷ y)) ≡ v ∷ w ∷ x ∷ y ∷ []
four_words v w x y p q r s =
    ap (λ ws. pieces_at 32 (v ++ 32 ∷ ws)) (append_assoc w (32 ∷ x) (32 ∷ y))
    ∙ (slice_split_at (λ b. eqb b 32) v 32 (w ++ 32 ∷ (x ++ 32 ∷ y)) (none_of 32 v p) refl ∙ ap (λ ws. v ∷ ws) (three_words w x y q r s))

-- a number has one spelling
pub one_spelling : (limit : ℕ) (v w : List ℕ) → limit < 2 ^ 64 → (n : ℕ) → number_to limit v ≡ Some n → number_to limit w ≡ Some n → v ≡ w
one_spelling limit v w small n p q = let s : n < 2 ^ 64 = within limit n v small p in sym (is_decimal limit n v s p) ∙ is_decimal limit n w s q
