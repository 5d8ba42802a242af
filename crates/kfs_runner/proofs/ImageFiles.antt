-- The file of an image is not refused.
use Rattle.std.proofs.Common.{◌≡◌, ◌≢◌, ◌≤◌, ◌<◌, ◌+◌, ◌-◌, ◌*◌, ◌^◌, ◌++◌, ◌∷◌, ◌∙◌, ◌⊎◌, inl, inr, [], ℕ, zero, suc, List, length, take, drop, get_or, refl, sym, ap, subst, arith, append_assoc, length-append, add-one}
use Rattle.std.specs.Int.{w16, to_be_bytes, from_be_bytes}
use Rattle.std.proofs.Math.Seq.{drop-append_seam, take-append_seam}
use Rattle.std.proofs.lemmas.List.{append_cancel_left}
use Rattle.std.proofs.lemmas.Nat.{from_be_bytes-to_be_bytes_2}
use Rattle.kv_nand.specs.Flash.{Image, PageState, Erased, Whole, Cut, IsPageState}
use Rattle.nand_mem.specs.declared.fault.ImageFault.{ImageFault}
use Rattle.nand_mem.specs.declared.fault.ImageFault.TheVariants.{BadHeader, BadState, BadLength, Memory}
use Rattle.nand_mem.specs.ImageFile.{mark, header, IsBlocks, state_bytes, pages_bytes, image_bytes, EndsInside, RefusesPages, Refuses}
use Rattle.nand_mem.proofs.Files.{pages_bytes-add_one, pages_bytes-zero}

-- so many pages from one on
abbrev pages_from : Image → ℕ → ℕ → List ℕ
pages_from image page zero = []
pages_from image page (suc n) = state_bytes (image page) ++ pages_from image (page + 1) n

split : (image : Image) (page n : ℕ) → pages_bytes image (page + n) ≡ pages_bytes image page ++ pages_from image page n
split image page zero = ap (pages_bytes image) (omega arith) ∙ sym (append_nil (pages_bytes image page))
  where
    append_nil : (xs : List ℕ) → xs ++ [] ≡ xs
    append_nil [] = refl
    append_nil (x ∷ xs) = ap (λ ys. x ∷ ys) (append_nil xs)
split image page (suc n) =
    ap (pages_bytes image) (omega arith) ∙ split image (page + 1) n
    ∙ ap (λ xs. xs ++ pages_from image (page + 1) n) (pages_bytes-add_one image page)
    ∙ append_assoc (pages_bytes image page) (state_bytes (image page)) (pages_from image (page + 1) n)

-- lists of one length in front go away
apart : (xs ys more other : List ℕ) → length xs ≡ length ys → xs ++ more ≡ ys ++ other → (xs ≡ ys) × (more ≡ other)
apart xs ys more other same e = (
  sym (take-append_seam xs more) ∙ (λ i. take (same i) (e i)) ∙ take-append_seam ys other,
  sym (drop-append_seam xs more) ∙ (λ i. drop (same i) (e i)) ∙ drop-append_seam ys other,
)

abbrev first : List ℕ → ℕ
first bytes = get_or bytes 0 0

-- behind one page the same bytes are left
behind : (a b : PageState) (xs ys : List ℕ) → IsPageState a → IsPageState b → state_bytes a ++ xs ≡ state_bytes b ++ ys → xs ≡ ys
behind Erased Erased xs ys is_a is_b e = (apart (0 ∷ []) (0 ∷ []) xs ys refl e).1
behind Erased (Whole bytes) xs ys is_a is_b e = absurd (let h : 0 ≡ 1 = ap first e in cc)
behind Erased Cut xs ys is_a is_b e = absurd (let h : 0 ≡ 2 = ap first e in cc)
behind (Whole bytes) Erased xs ys is_a is_b e = absurd (let h : 1 ≡ 0 = ap first e in cc)
behind (Whole bytes) (Whole other) xs ys is_a is_b e = (apart (1 ∷ bytes) (1 ∷ other) xs ys (omega (arith, is_a.0, is_b.0)) e).1
behind (Whole bytes) Cut xs ys is_a is_b e = absurd (let h : 1 ≡ 2 = ap first e in cc)
behind Cut Erased xs ys is_a is_b e = absurd (let h : 2 ≡ 0 = ap first e in cc)
behind Cut (Whole bytes) xs ys is_a is_b e = absurd (let h : 2 ≡ 1 = ap first e in cc)
behind Cut Cut xs ys is_a is_b e = (apart (2 ∷ []) (2 ∷ []) xs ys refl e).1

abbrev AreWhole : Image → Type 0
AreWhole image = (q : ℕ) → IsPageState (image q)

-- behind so many pages the others are left
left : (image other : Image) (page n : ℕ) (rest : List ℕ) → AreWhole image → AreWhole other → pages_bytes image (page + n) ≡ pages_bytes other page ++ rest → rest ≡ pages_from image page n
left image other zero n rest whole is e =
    sym (ap (λ xs. xs ++ rest) (pages_bytes-zero other)) ∙ sym e ∙ split image 0 n ∙ ap (λ xs. xs ++ pages_from image 0 n) (pages_bytes-zero image)
left image other (suc page) n rest whole is e =
    let one : pages_bytes other (suc page) ≡ pages_bytes other page ++ state_bytes (other page) = ap (pages_bytes other) (sym (add-one page)) ∙ pages_bytes-add_one other page in
    let before : pages_bytes image (page + suc n) ≡ pages_bytes other page ++ (state_bytes (other page) ++ rest) =
    ap (pages_bytes image) (omega arith) ∙ e ∙ ap (λ xs. xs ++ rest) one ∙ append_assoc (pages_bytes other page) (state_bytes (other page)) rest in
    let here = left image other page (suc n) (state_bytes (other page) ++ rest) whole is before in
    behind (other page) (image page) rest (pages_from image (page + 1) n) (is page) (whole page) here ∙ ap (λ p. pages_from image p n) (add-one page)

-- what begins a page
low_state : (s : PageState) (more : List ℕ) → first (state_bytes s ++ more) ≤ 2
low_state Erased more = omega arith
low_state (Whole bytes) more = omega arith
low_state Cut more = omega arith

whole_state : (s : PageState) (bytes more : List ℕ) → IsPageState s → 1 ∷ bytes ≡ state_bytes s ++ more → 4160 ≤ length bytes
whole_state Erased bytes more is e = absurd (let h : 1 ≡ 0 = ap first e in cc)
whole_state (Whole own) bytes more is e = omega (arith, ap length e, length-append own more, is.0)
whole_state Cut bytes more is e = absurd (let h : 1 ≡ 2 = ap first e in cc)

some_state : (s : PageState) (more : List ℕ) → 1 ≤ length (state_bytes s ++ more)
some_state Erased more = omega arith
some_state (Whole bytes) more = omega arith
some_state Cut more = omega arith

ends_inside : (s : PageState) (more rest : List ℕ) → IsPageState s → rest ≡ state_bytes s ++ more → EndsInside rest → ⊥
ends_inside s more rest is e (inl none) = let n = some_state s more in omega (arith, n, ap length e, ap length none)
ends_inside s more rest is e (inr (bytes, begins, short)) = let n = whole_state s bytes more is (sym begins ∙ e) in omega (arith, n, short)

-- so many pages of an image are no bytes that are refused
pages_taken : (image : Image) (pages : ℕ) (fault : ImageFault) → AreWhole image → RefusesPages (pages_bytes image pages) pages fault → (fault ≡ Memory → ⊥) → ⊥
pages_taken image pages BadHeader whole refuses other = refuses
pages_taken image pages (BadState page) whole refuses other =
    let n = pages - page - 1 in
    let all : pages ≡ page + suc n = omega (arith, refuses.inside) in
    let here = left image refuses.begins.image page (suc n) (refuses.state ∷ refuses.rest) whole refuses.begins.whole (ap (pages_bytes image) (sym all) ∙ refuses.begins.parts) in
    let low = low_state (image page) (pages_from image (page + 1) n) in
    omega (arith, low, ap first here, refuses.above)
pages_taken image pages BadLength whole (inl goes) other =
    let here = left image goes.begins.image pages 0 goes.rest whole goes.begins.whole (ap (pages_bytes image) (omega arith) ∙ goes.begins.parts) in
    goes.some here
pages_taken image pages BadLength whole (inr (page, early)) other =
    let n = pages - page - 1 in
    let all : pages ≡ page + suc n = omega (arith, early.inside) in
    let here = left image early.begins.image page (suc n) early.rest whole early.begins.whole (ap (pages_bytes image) (sym all) ∙ early.begins.parts) in
    ends_inside (image page) (pages_from image (page + 1) n) early.rest (whole page) here early.ends
pages_taken image pages Memory whole refuses other = other refl

header_long : (blocks : ℕ) → length (header blocks) ≡ 12
header_long blocks = omega (arith, length-append mark (to_be_bytes w16 blocks))

body_taken : (image : Image) (blocks : ℕ) (fault : ImageFault) (own : ℕ) (body : List ℕ) → AreWhole image → IsBlocks blocks → IsBlocks own → image_bytes image blocks ≡ header own ++ body → RefusesPages body (32 * own) fault → (fault ≡ Memory → ⊥) → ⊥
body_taken image blocks fault own body whole range fits parts refuses other =
    let same = apart (header blocks) (header own) (pages_bytes image (32 * blocks)) body (header_long blocks ∙ sym (header_long own)) parts in
    let number : to_be_bytes w16 blocks ≡ to_be_bytes w16 own = append_cancel_left mark (to_be_bytes w16 blocks) (to_be_bytes w16 own) same.0 in
    let is : blocks ≡ own = sym (from_be_bytes-to_be_bytes_2 blocks (omega (arith, range.1))) ∙ ap (from_be_bytes w16) number ∙ from_be_bytes-to_be_bytes_2 own (omega (arith, fits.1)) in
    let R : List ℕ → Type 0 = λ bytes. RefusesPages bytes (32 * own) fault in
    pages_taken image (32 * own) fault whole (subst R (sym same.1 ∙ ap (λ b. pages_bytes image (32 * b)) is) refuses) other

-- the file of an image is refused for want of memory alone
pub image_taken : (image : Image) (blocks : ℕ) (fault : ImageFault) → AreWhole image → IsBlocks blocks → Refuses (image_bytes image blocks) fault → (fault ≡ Memory → ⊥) → ⊥
image_taken image blocks BadHeader whole range refuses other = refuses blocks (pages_bytes image (32 * blocks)) range refl
image_taken image blocks (BadState page) whole range refuses other = body_taken image blocks (BadState page) refuses.blocks refuses.body whole range refuses.range refuses.parts refuses.refuses other
image_taken image blocks BadLength whole range refuses other = body_taken image blocks BadLength refuses.blocks refuses.body whole range refuses.range refuses.parts refuses.refuses other
image_taken image blocks Memory whole range refuses other = other refl
