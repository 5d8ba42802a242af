-- The pages of an image file, one after the other.
use Rattle.std.proofs.Common.{◌≡◌, ◌≢◌, ◌∙◌, ℕ, zero, suc, ◌+◌, ◌<◌, ◌≤◌, List, [], ◌∷◌, ◌++◌, length, get_or, set, take, drop, refl, sym, ap, append_assoc, add-one, arith, inl, inr, ◌-◌, eqb, not, true, false}
use Rattle.std.specs.Int.{w16, to_be_bytes, from_be_bytes}
use Rattle.std.specs.Cmp.Lexicographic.{pointwise}
use Rattle.std.proofs.lemmas.Bool.{cases_lt, cases_Bool, eqb-true}
use Rattle.std.proofs.lemmas.List.{take-append-drop, take_all, get_or-drop, get_or-take, get_or_past, length-take, length-drop}
use Rattle.std.proofs.lemmas.Nat.{be_bytes_2}
use Rattle.kv_nand.specs.Flash.{Image}
use Rattle.nand_mem.specs.declared.slot.Slot.{Slot}
use Rattle.nand_mem.specs.declared.fault.ImageFault.{ImageFault}
use Rattle.nand_mem.specs.declared.fault.ImageFault.TheVariants.{BadHeader, BadState, BadLength, Memory}
use Rattle.nand_mem.specs.Slots.{state_of, image_of}
use Rattle.nand_mem.specs.Sound.{image_is_pages}
use Rattle.nand_mem.specs.ImageFile.{mark, header, state_bytes, pages_bytes, RefusesPages, BeginsWith}
use Rattle.nand_mem.specs.Filling.{RefusesPage}
use Rattle.nand_mem.proofs.Images.{image_of-read, image_of-set_same, image_of-set_other}

pub pages_bytes-add_one : (image : Image) (n : ℕ) → pages_bytes image (n + 1) ≡ pages_bytes image n ++ state_bytes (image n)
unfolding pages_bytes
pages_bytes-add_one image n = rw add-one refl

pub pages_bytes-zero : (image : Image) → pages_bytes image 0 ≡ []
unfolding pages_bytes
pages_bytes-zero image = refl

-- only the pages below the number count
pages_bytes-same : (f g : Image) (n : ℕ) → ((q : ℕ) → q < n → f q ≡ g q) → pages_bytes f n ≡ pages_bytes g n
unfolding pages_bytes
pages_bytes-same f g zero same = refl
pages_bytes-same f g (suc n) same = λ i. pages_bytes-same f g n (λ q lt. same q (omega arith)) i ++ state_bytes (same n (omega arith) i)

-- a file with one more page
pub write_more : (slots : List Slot) (i : ℕ) (s : Slot) (front out more : List ℕ) → i < length slots → s ≡ get_or slots i s → out ≡ front ++ pages_bytes (image_of slots) i → more ≡ out ++ state_bytes (state_of s) → more ≡ front ++ pages_bytes (image_of slots) (i + 1)
write_more slots i s front out more lt is so_far e =
    let state : state_of s ≡ image_of slots i = ap state_of is ∙ image_of-read slots i s lt is in
    e ∙ (λ j. so_far j ++ state_bytes (state j)) ∙ append_assoc front (pages_bytes (image_of slots) i) (state_bytes (image_of slots i)) ∙ ap (λ (t : List ℕ). front ++ t) (sym (pages_bytes-add_one (image_of slots) i))

-- one more page is read
pub read_more : (slots : List Slot) (page : ℕ) (s : Slot) (bytes rest : List ℕ) (used : ℕ) → page < length slots → bytes ≡ pages_bytes (image_of slots) page ++ rest → take used rest ≡ state_bytes (state_of s) → used ≤ length rest → bytes ≡ pages_bytes (image_of (set slots page s)) (page + 1) ++ take (length rest - used) (drop used rest)
read_more slots page s bytes rest used lt so_far e within =
    let new = image_of (set slots page s) in
    let before : pages_bytes (image_of slots) page ≡ pages_bytes new page = pages_bytes-same (image_of slots) new page (λ q below. sym (image_of-set_other slots page q s (omega arith))) in
    let state : take used rest ≡ state_bytes (new page) = e ∙ ap state_bytes (sym (image_of-set_same slots page s lt)) in
    let split : rest ≡ state_bytes (new page) ++ drop used rest = sym (take-append-drop used rest) ∙ ap (λ (t : List ℕ). t ++ drop used rest) state in
    so_far ∙ (λ i. before i ++ split i) ∙ sym (append_assoc (pages_bytes new page) (state_bytes (new page)) (drop used rest)) ∙ ap (λ (t : List ℕ). t ++ drop used rest) (sym (pages_bytes-add_one new page))
    ∙ ap (λ (t : List ℕ). pages_bytes new (page + 1) ++ t) (sym (take_all (length rest - used) (drop used rest) (omega (arith, length-drop used rest))))

begins : (slots : List Slot) (bytes rest : List ℕ) (page : ℕ) → bytes ≡ pages_bytes (image_of slots) page ++ rest → BeginsWith bytes page rest
begins slots bytes rest page e = record { image = image_of slots; whole = image_is_pages slots; parts = e }

-- a page that isn't read is why the pages aren't
pub refuses : (fault : ImageFault) (slots : List Slot) (bytes rest : List ℕ) (page number pages : ℕ) → page < pages → number ≡ page → bytes ≡ pages_bytes (image_of slots) page ++ rest → RefusesPage number rest fault → RefusesPages bytes pages fault
refuses BadHeader slots bytes rest page number pages lt same e why = absurd why
refuses (BadState bad) slots bytes rest page number pages lt same e why =
    let is : bad ≡ page = why.0 ∙ same in
    record {
      state = why.1.state;
      rest = why.1.rest;
      above = why.1.above;
      inside = omega arith;
      begins = begins slots bytes (why.1.state ∷ why.1.rest) bad (e ∙ (λ i. pages_bytes (image_of slots) (sym is i) ++ why.1.parts i));
    }
refuses BadLength slots bytes rest page number pages lt same e why = inr (page, record { rest = rest; ends = why; inside = lt; begins = begins slots bytes rest page e })
refuses Memory slots bytes rest page number pages lt same e why = absurd why

-- bytes behind the last page are why the pages aren't all
pub goes_on : (slots : List Slot) (bytes rest : List ℕ) (page pages : ℕ) → page ≡ pages → rest ≢ [] → bytes ≡ pages_bytes (image_of slots) page ++ rest → RefusesPages bytes pages BadLength
goes_on slots bytes rest page pages same some e = inl (record { rest = rest; some = some; begins = begins slots bytes rest pages (e ∙ ap (λ n. pages_bytes (image_of slots) n ++ rest) same) })

-- a header that was read is spelled so
pub header_is : (bytes m number : List ℕ) (n : ℕ) → ((i : ℕ) → get_or bytes i 0 < 256) → 12 ≤ length bytes → m ≡ take 10 (take 12 bytes) → number ≡ drop 10 (take 12 bytes) → length number ≡ 2 → m ≡ mark → n ≡ from_be_bytes w16 (take 2 (drop 0 number)) → bytes ≡ header n ++ drop 12 bytes
header_is bytes m number n fits long m_is number_is two is value =
    let whole : take 2 (drop 0 number) ≡ number = take_all 2 number (omega arith) in
    let number_fits : (i : ℕ) → get_or number i 0 < 256 = λ i. rw (number_is, get_or-drop) (taken (10 + i)) in
    let spelled : to_be_bytes w16 n ≡ number = be_bytes_2 number n two number_fits (value ∙ ap (from_be_bytes w16) whole) in
    sym (take-append-drop 12 bytes) ∙ ap (λ (t : List ℕ). t ++ drop 12 bytes) (sym (take-append-drop 10 (take 12 bytes)) ∙ (λ i. (sym m_is ∙ is) i ++ (sym number_is ∙ sym spelled) i))
  where
    taken : (i : ℕ) → get_or (take 12 bytes) i 0 < 256
    taken i = elim (cases_lt i 12) [
      | inl lt ↦ rw (get_or-take 12 bytes i 0 lt) (fits i)
      | inr le ↦ rw (get_or_past (take 12 bytes) i 0 (omega (arith, length-take 12 bytes))) (omega arith)
    ]

-- a state byte 1 and the bytes behind it
pub whole_is : (bytes : List ℕ) (n : ℕ) → 1 ≤ length bytes → (get_or bytes 0 0 ≡ 0 → ⊥) → (get_or bytes 0 0 ≡ 2 → ⊥) → get_or bytes 0 0 ≤ 2 → take (n + 1) bytes ≡ 1 ∷ take n (take (length bytes - 1) (drop 1 bytes))
whole_is [] n some not_0 not_2 few = absurd (omega arith)
whole_is (b ∷ bytes) n some not_0 not_2 few =
    let is : b ≡ 1 = omega arith in
    let all : take (length (b ∷ bytes) - 1) bytes ≡ bytes = take_all (length (b ∷ bytes) - 1) bytes (omega arith) in
    rw add-one (λ i. is i ∷ take n (sym all i))

-- lists that compare as the same
pub same_bytes : (xs ys : List ℕ) → not (pointwise eqb xs ys) ≡ false → xs ≡ ys
same_bytes [] [] e = refl
same_bytes [] (y ∷ ys) e = absurd cc
same_bytes (x ∷ xs) [] e = absurd cc
same_bytes (x ∷ xs) (y ∷ ys) e =
    elim (cases_Bool (eqb x y)) [
      | inl same ↦ (λ i. eqb-true x y same i ∷ same_bytes xs ys (rw same at e) i)
      | inr other ↦ absurd (let f : true ≡ false = rw other at e in cc)
    ]
