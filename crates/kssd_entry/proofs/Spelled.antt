-- What is read is spelled so.
use Rattle.std.proofs.Common.{◌≡◌, ◌∙◌, ℕ, zero, suc, ◌+◌, ◌-◌, ◌^◌, ◌<◌, ◌≤◌, Bool, true, false, cond, ltb, eqb, ◌&&◌, ◌||◌, not, List, [], ◌∷◌, ◌++◌, length, get_or, take, drop, replicate, Result, Ok, Err, refl, sym, ap, subst, append_assoc, arith, inl, inr, length-append, length-drop}
use Rattle.std.specs.Prelude.{IfOk}
use Rattle.std.specs.List.{AllByRecursion}
use Rattle.std.specs.Int.{Width, w16, w32, w64, byte_len, from_be_bytes, to_be_bytes}
use Rattle.std.proofs.lemmas.Bool.{cases_Bool, cases_lt, ltb-false, eqb-true, eqb-false}
use Rattle.std.proofs.lemmas.List.{take-append-drop, length-take, length-take-le, get_or-drop, get_or-take, get_or_past, drop-drop}
use Rattle.std.proofs.lemmas.List.Concat.{flat_map-cons}
use Rattle.std.proofs.lemmas.Nat.{be_bytes_2, be_bytes_4, be_bytes_8}
use Rattle.kv_base.specs.Sizes.{IsKey}
use Rattle.kssd_entry.specs.Sizes.{IsInline, IsPageLength}
use Rattle.kssd_entry.specs.declared.entry.Entry.{Entry}
use Rattle.kssd_entry.specs.declared.entry.Entry.TheVariants.{Put, At, Gone}
use Rattle.kssd_entry.specs.declared.packer.PageHead.{PageHead}
use Rattle.kssd_entry.specs.declared.fault.EntryFault.{EntryFault}
use Rattle.kssd_entry.specs.declared.fault.EntryFault.TheVariants.{Short, Bad}
use Rattle.kssd_entry.specs.declared.fault.PageFault.{PageFault}
use Rattle.kssd_entry.specs.declared.fault.PageFault.TheVariants as page_faults
use Rattle.kssd_entry.specs.Spelling.{filled, key_bytes, entry_bytes, entries_bytes, spare_bytes, page_bytes, page_of, FitsEntry, is_head, IsPageOf}
use Rattle.kssd_entry.specs.declared.page.PageEntries.{PageEntries}
use Rattle.kssd_entry.specs.Reading.{AreBytes, PageGives, ◌>>=◌, number_at, bytes_at, key_at, inline_at, pointer_at, body_at, entry_at, entries_at, numbered, all_zero, head_in, count_in, is_of_kind, page_at}

AreBytes-drop : (n : ℕ) (bytes : List ℕ) → AreBytes bytes → AreBytes (drop n bytes)
AreBytes-drop n bytes h i = rw get_or-drop (h (n + i))

AreBytes-take : (n : ℕ) (bytes : List ℕ) → AreBytes bytes → AreBytes (take n bytes)
AreBytes-take n bytes h i =
    elim (cases_lt i n) [
      | inl lt ↦ rw (get_or-take n bytes i 0 lt) (h i)
      | inr le ↦ rw (get_or_past (take n bytes) i 0 (omega (arith, length-take n bytes))) (omega arith)
    ]

-- ---- steps that did not fail

then_ok : {A B E : Type 0} (r : Result A E) (f : A → Result B E) (y : B) → (r >>= f) ≡ Ok y → (x : A) × (r ≡ Ok x) × (f x ≡ Ok y)
then_ok (Ok x) f y e = (x, refl, e)
then_ok (Err d) f y e = absurd cc

unless_ok : {A E : Type 0} (b : Bool) (d : E) (r : Result A E) (y : A) → cond b (Err d) r ≡ Ok y → (b ≡ false) × (r ≡ Ok y)
unless_ok true d r y e = absurd cc
unless_ok false d r y e = (refl, e)

pub when_ok : {A E : Type 0} (b : Bool) (d : E) (r : Result A E) (y : A) → cond b r (Err d) ≡ Ok y → (b ≡ true) × (r ≡ Ok y)
when_ok true d r y e = (refl, e)
when_ok false d r y e = absurd cc

pub ok_is : {A E : Type 0} (x y : A) → (let r : Result A E = Ok x in r) ≡ Ok y → x ≡ y
ok_is x y e = cc

or_false : (a b : Bool) → (a || b) ≡ false → (a ≡ false) × (b ≡ false)
or_false true b e = absurd cc
or_false false b e = (refl, e)

and_true : (a b : Bool) → (a && b) ≡ true → (a ≡ true) × (b ≡ true)
and_true true b e = (refl, e)
and_true false b e = absurd cc

-- ---- parts of an entry

-- what was taken from the front of bytes
record Takes (bytes front rest : List ℕ) : Type 0 where
  parts : bytes ≡ front ++ rest
  fits : AreBytes rest

takes_more : (a x b y c : List ℕ) → Takes a x b → Takes b y c → Takes a (x ++ y) c
takes_more a x b y c p q = record { parts = p.parts ∙ ap (λ (t : List ℕ). x ++ t) q.parts ∙ sym (append_assoc x y c); fits = q.fits }

-- numbers of this width are spelled in one way, below a limit
record IsWidth (w : Width) (limit : ℕ) : Type 0 where
  back : (bytes : List ℕ) → length bytes ≡ byte_len w → AreBytes bytes → to_be_bytes w (from_be_bytes w bytes) ≡ bytes
  below : (bytes : List ℕ) → AreBytes bytes → from_be_bytes w bytes < limit

width16 : IsWidth w16 (2 ^ 16)
width16 = record { back = λ bytes len fits. be_bytes_2 bytes _ len fits refl; below = λ bytes fits. omega (arith, fits 0, fits 1) }

width32 : IsWidth w32 (2 ^ 32)
width32 = record { back = λ bytes len fits. be_bytes_4 bytes _ len fits refl; below = λ bytes fits. omega (arith, fits 0, fits 1, fits 2, fits 3) }

width64 : IsWidth w64 (2 ^ 64)
width64 = record { back = λ bytes len fits. be_bytes_8 bytes _ len fits refl; below = λ bytes fits. omega (arith, fits 0, fits 1, fits 2, fits 3, fits 4, fits 5, fits 6, fits 7) }

number_spelled : (w : Width) (limit : ℕ) (width : IsWidth w limit) (bytes : List ℕ) (n : ℕ) (rest : List ℕ) → AreBytes bytes → number_at w bytes ≡ Ok (n, rest) → Takes bytes (to_be_bytes w n) rest × (n < limit)
number_spelled w limit width bytes n rest fits e =
    let g = unless_ok (ltb (length bytes) (byte_len w)) Short (Ok (from_be_bytes w (take (byte_len w) bytes), drop (byte_len w) bytes)) (n, rest) e in
    let pair : (from_be_bytes w (take (byte_len w) bytes), drop (byte_len w) bytes) ≡ (n, rest) = ok_is {E = EntryFault} _ _ g.1 in
    let number : from_be_bytes w (take (byte_len w) bytes) ≡ n = ap (λ (p : ℕ × List ℕ). p.0) pair in
    let after : drop (byte_len w) bytes ≡ rest = ap (λ (p : ℕ × List ℕ). p.1) pair in
    let long : byte_len w ≤ length bytes = ltb-false _ _ g.0 in
    let front_fits : AreBytes (take (byte_len w) bytes) = AreBytes-take (byte_len w) bytes fits in
    let front : take (byte_len w) bytes ≡ to_be_bytes w n = sym (width.back (take (byte_len w) bytes) (length-take-le (byte_len w) bytes long) front_fits) ∙ ap (to_be_bytes w) number in (
      record {
        parts = sym (take-append-drop (byte_len w) bytes) ∙ (λ i. front i ++ after i);
        fits = subst AreBytes after (AreBytes-drop (byte_len w) bytes fits);
      },
      subst (λ (m : ℕ). m < limit) number (width.below (take (byte_len w) bytes) front_fits),
    )

bytes_spelled : (n : ℕ) (bytes text rest : List ℕ) → AreBytes bytes → bytes_at n bytes ≡ Ok (text, rest) → Takes bytes text rest × (length text ≡ n)
bytes_spelled n bytes text rest fits e =
    let g = unless_ok (ltb (length bytes) n) Short (Ok (take n bytes, drop n bytes)) (text, rest) e in
    let pair : (take n bytes, drop n bytes) ≡ (text, rest) = ok_is {E = EntryFault} _ _ g.1 in
    let front : take n bytes ≡ text = ap (λ (p : List ℕ × List ℕ). p.0) pair in
    let after : drop n bytes ≡ rest = ap (λ (p : List ℕ × List ℕ). p.1) pair in
    let long : n ≤ length bytes = ltb-false _ _ g.0 in (
      record {
        parts = sym (take-append-drop n bytes) ∙ (λ i. front i ++ after i);
        fits = subst AreBytes after (AreBytes-drop n bytes fits);
      },
      sym (ap length front) ∙ length-take-le n bytes long,
    )

key_spelled : (bytes key rest : List ℕ) → AreBytes bytes → key_at bytes ≡ Ok (key, rest) → Takes bytes (key_bytes key) rest × IsKey key
unfolding key_at
key_spelled bytes key rest fits e =
    let s = then_ok (number_at w16 bytes) (λ n. cond (eqb n.0 0 || ltb 264 n.0) (Err Bad) (bytes_at n.0 n.1)) (key, rest) e in
    let number = number_spelled w16 (2 ^ 16) width16 bytes s.0.0 s.0.1 fits s.1 in
    let g = unless_ok (eqb s.0.0 0 || ltb 264 s.0.0) Bad (bytes_at s.0.0 s.0.1) (key, rest) s.2 in
    let tests = or_false (eqb s.0.0 0) (ltb 264 s.0.0) g.0 in
    let some : s.0.0 ≡ 0 → ⊥ = eqb-false _ _ tests.0 in
    let few : s.0.0 ≤ 264 = ltb-false _ _ tests.1 in
    let text = bytes_spelled s.0.0 s.0.1 key rest number.0.fits g.1 in
    let len : length key ≡ s.0.0 = text.1 in
    (takes_more bytes (to_be_bytes w16 (length key)) s.0.1 key rest (subst (λ (n : ℕ). Takes bytes (to_be_bytes w16 n) s.0.1) (sym len) number.0) text.0, (omega arith, omega arith))

inline_spelled : (bytes value rest : List ℕ) → AreBytes bytes → inline_at bytes ≡ Ok (value, rest) → Takes bytes (length value ∷ value) rest × IsInline value
unfolding inline_at
inline_spelled [] value rest fits e = absurd cc
inline_spelled (n ∷ bytes) value rest fits e =
    let g = unless_ok (ltb 128 n) Bad (bytes_at n bytes) (value, rest) e in
    let few : n ≤ 128 = ltb-false _ _ g.0 in
    let text = bytes_spelled n bytes value rest (λ i. fits (suc i)) g.1 in
    let len : length value ≡ n = text.1 in
    (record { parts = λ i. sym len i ∷ text.0.parts i; fits = text.0.fits }, omega arith)

pointer_spelled : (bytes : List ℕ) (page n : ℕ) (rest : List ℕ) → AreBytes bytes → pointer_at bytes ≡ Ok ((page, n), rest) → Takes bytes (to_be_bytes w32 page ++ to_be_bytes w16 n) rest × ((page < 2 ^ 32) × IsPageLength n)
unfolding pointer_at
pointer_spelled bytes page n rest fits e =
    let s = then_ok (number_at w32 bytes) (λ p. number_at w16 p.1 >>= λ m. cond (ltb m.0 129 || ltb 4096 m.0) (Err Bad) (Ok ((p.0, m.0), m.1))) ((page, n), rest) e in
    let first = number_spelled w32 (2 ^ 32) width32 bytes s.0.0 s.0.1 fits s.1 in
    let t = then_ok (number_at w16 s.0.1) (λ m. cond (ltb m.0 129 || ltb 4096 m.0) (Err Bad) (Ok ((s.0.0, m.0), m.1))) ((page, n), rest) s.2 in
    let second = number_spelled w16 (2 ^ 16) width16 s.0.1 t.0.0 t.0.1 first.0.fits t.1 in
    let g = unless_ok (ltb t.0.0 129 || ltb 4096 t.0.0) Bad (Ok ((s.0.0, t.0.0), t.0.1)) ((page, n), rest) t.2 in
    let tests = or_false (ltb t.0.0 129) (ltb 4096 t.0.0) g.0 in
    let low : 129 ≤ t.0.0 = ltb-false _ _ tests.0 in
    let high : t.0.0 ≤ 4096 = ltb-false _ _ tests.1 in
    let same : ((s.0.0, t.0.0), t.0.1) ≡ ((page, n), rest) = ok_is {E = EntryFault} _ _ g.1 in
    let P : (ℕ × ℕ) × List ℕ → Type 0 = λ x. Takes bytes (to_be_bytes w32 x.0.0 ++ to_be_bytes w16 x.0.1) x.1 × ((x.0.0 < 2 ^ 32) × IsPageLength x.0.1) in
    subst P same (takes_more bytes (to_be_bytes w32 s.0.0) s.0.1 (to_be_bytes w16 t.0.0) t.0.1 first.0 second.0, (first.1, (low, high)))

-- ---- entries

-- what stands behind the key of an entry
record Bodies (tag : ℕ) (key bytes : List ℕ) (read : Entry × List ℕ) : Type 0 where
  body : List ℕ
  takes : Takes bytes body read.1
  spelled : entry_bytes read.0 ≡ (tag ∷ key_bytes key) ++ body
  sizes : FitsEntry read.0

body_spelled : (tag : ℕ) (key bytes : List ℕ) (read : Entry × List ℕ) → (tag ≡ 0 → ⊥) → tag ≤ 3 → AreBytes bytes → IsKey key → body_at tag key bytes ≡ Ok read → Bodies tag key bytes read
unfolding body_at entry_bytes
body_spelled tag key bytes read some few fits sized e =
    elim (cases_Bool (eqb tag 1)) [
      | inl one ↦
          let is : tag ≡ 1 = eqb-true _ _ one in
          let e1 = rw one at e in
          let s = then_ok (inline_at bytes) (λ v. Ok (Put key v.0, v.1)) read e1 in
          let value = inline_spelled bytes s.0.0 s.0.1 fits s.1 in
          subst (Bodies tag key bytes) (ok_is {E = EntryFault} (Put key s.0.0, s.0.1) read s.2) (record {
            body = length s.0.0 ∷ s.0.0;
            takes = value.0;
            spelled = λ i. (sym is i ∷ key_bytes key) ++ (length s.0.0 ∷ s.0.0);
            sizes = (sized, value.1);
          })
      | inr not_one ↦
          let e1 = rw not_one at e in
          elim (cases_Bool (eqb tag 2)) [
            | inl two ↦
                let is : tag ≡ 2 = eqb-true _ _ two in
                let e2 = rw two at e1 in
                let s = then_ok (pointer_at bytes) (λ p. Ok (At key p.0.0 p.0.1, p.1)) read e2 in
                let place = pointer_spelled bytes s.0.0.0 s.0.0.1 s.0.1 fits s.1 in
                subst (Bodies tag key bytes) (ok_is {E = EntryFault} (At key s.0.0.0 s.0.0.1, s.0.1) read s.2) (record {
                  body = to_be_bytes w32 s.0.0.0 ++ to_be_bytes w16 s.0.0.1;
                  takes = place.0;
                  spelled = (λ i. ((sym is i ∷ key_bytes key) ++ to_be_bytes w32 s.0.0.0) ++ to_be_bytes w16 s.0.0.1) ∙ append_assoc (tag ∷ key_bytes key) (to_be_bytes w32 s.0.0.0) (to_be_bytes w16 s.0.0.1);
                  sizes = (sized, place.1.0, place.1.1);
                })
            | inr not_two ↦
                let e2 = rw not_two at e1 in
                let isnt_one : tag ≡ 1 → ⊥ = eqb-false _ _ not_one in
                let isnt_two : tag ≡ 2 → ⊥ = eqb-false _ _ not_two in
                let is : tag ≡ 3 = omega arith in
                subst (Bodies tag key bytes) (ok_is {E = EntryFault} (Gone key, bytes) read e2) (record {
                  body = [];
                  takes = record { parts = refl; fits = fits };
                  spelled = (λ i. sym is i ∷ key_bytes key) ∙ sym (ends_empty (tag ∷ key_bytes key));
                  sizes = sized;
                })
          ]
    ]
  where
    ends_empty : (xs : List ℕ) → xs ++ [] ≡ xs
    ends_empty [] = refl
    ends_empty (x ∷ xs) = ap (λ (t : List ℕ). x ∷ t) (ends_empty xs)

entry_spelled : (bytes : List ℕ) (entry : Entry) (rest : List ℕ) → AreBytes bytes → entry_at bytes ≡ Ok (entry, rest) → Takes bytes (entry_bytes entry) rest × FitsEntry entry
unfolding entry_at
entry_spelled [] entry rest fits e = absurd cc
entry_spelled (tag ∷ bytes) entry rest fits e =
    let g = unless_ok (eqb tag 0 || ltb 3 tag) Bad (key_at bytes >>= λ key. body_at tag key.0 key.1) (entry, rest) e in
    let tests = or_false (eqb tag 0) (ltb 3 tag) g.0 in
    let s = then_ok (key_at bytes) (λ key. body_at tag key.0 key.1) (entry, rest) g.1 in
    let key = key_spelled bytes s.0.0 s.0.1 (λ i. fits (suc i)) s.1 in
    let body = body_spelled tag s.0.0 s.0.1 (entry, rest) (eqb-false _ _ tests.0) (ltb-false _ _ tests.1) key.0.fits key.1 s.2 in
    let tagged : Takes (tag ∷ bytes) (tag ∷ key_bytes s.0.0) s.0.1 = record { parts = ap (λ (t : List ℕ). tag ∷ t) key.0.parts; fits = key.0.fits } in
    (subst (λ (front : List ℕ). Takes (tag ∷ bytes) front rest) (sym body.spelled) (takes_more (tag ∷ bytes) (tag ∷ key_bytes s.0.0) s.0.1 body.body rest tagged body.takes), body.sizes)

numbered_ok : {X : Type 0} (i : ℕ) (r : Result X EntryFault) (x : X) → numbered i r ≡ Ok x → r ≡ Ok x
numbered_ok i (Ok y) x e = let same : y ≡ x = ok_is {E = PageFault} y x e in ap (λ z. Ok z) same
numbered_ok i (Err fault) x e = absurd cc

-- entries that were read from the front of bytes
pub record AreSpelled (bytes : List ℕ) (count : ℕ) (read : List Entry × List ℕ) : Type 0 where
  pub parts : bytes ≡ entries_bytes read.0 ++ read.1
  pub number : length read.0 ≡ count
  pub sizes : AllByRecursion FitsEntry read.0

entries_spelled : (i count : ℕ) (bytes : List ℕ) (read : List Entry × List ℕ) → AreBytes bytes → entries_at i count bytes ≡ Ok read → AreSpelled bytes count read
unfolding entries_at
entries_spelled i zero bytes read fits e = subst (AreSpelled bytes zero) (ok_is {E = PageFault} ([], bytes) read e) (record { parts = refl; number = refl; sizes = tt })
entries_spelled i (suc count) bytes read fits e =
    let s = then_ok (numbered i (entry_at bytes)) (λ first. entries_at (i + 1) count first.1 >>= λ others. Ok (first.0 ∷ others.0, others.1)) read e in
    let first = entry_spelled bytes s.0.0 s.0.1 fits (numbered_ok i (entry_at bytes) s.0 s.1) in
    let t = then_ok (entries_at (i + 1) count s.0.1) (λ others. Ok (s.0.0 ∷ others.0, others.1)) read s.2 in
    let others = entries_spelled (i + 1) count s.0.1 t.0 first.0.fits t.1 in
    subst (AreSpelled bytes (suc count)) (ok_is {E = PageFault} (s.0.0 ∷ t.0.0, t.0.1) read t.2) (record {
      parts = first.0.parts ∙ ap (λ (r : List ℕ). entry_bytes s.0.0 ++ r) others.parts ∙ sym (append_assoc (entry_bytes s.0.0) (entries_bytes t.0.0) t.0.1) ∙ ap (λ (r : List ℕ). r ++ t.0.1) (sym (flat_map-cons entry_bytes s.0.0 t.0.0));
      number = ap suc others.number;
      sizes = (first.1, others.sizes);
    })

-- ---- the page

zeros_are : (bytes : List ℕ) → all_zero bytes ≡ true → bytes ≡ replicate (length bytes) 0
zeros_are [] e = refl
zeros_are (b ∷ bytes) e =
    let both = and_true (eqb b 0) (all_zero bytes) e in
    λ i. eqb-true b 0 both.0 i ∷ zeros_are bytes both.1 i

-- bytes and zeros behind them
is_filled : (n : ℕ) (bytes front rest : List ℕ) → length bytes ≡ n → bytes ≡ front ++ rest → all_zero rest ≡ true → bytes ≡ filled n front
unfolding filled
is_filled n bytes front rest len parts zeros =
    let size : length rest ≡ n - length front = omega (arith, ap length parts, length-append front rest) in
    parts ∙ ap (λ (r : List ℕ). front ++ r) (zeros_are rest zeros ∙ ap (λ k. replicate k 0) size)

-- three fields behind one another
fields_of : (bytes : List ℕ) → bytes ≡ (take 8 bytes ++ take 2 (drop 8 bytes) ++ take 4 (drop 10 bytes)) ++ drop 14 bytes
fields_of bytes =
    sym (take-append-drop 8 bytes)
    ∙ ap (λ (r : List ℕ). take 8 bytes ++ r) (sym (take-append-drop 2 (drop 8 bytes)) ∙ ap (λ (r : List ℕ). take 2 (drop 8 bytes) ++ r) (drop-drop 2 8 bytes ∙ sym (take-append-drop 4 (drop 10 bytes)) ∙ ap (λ (r : List ℕ). take 4 (drop 10 bytes) ++ r) (drop-drop 4 10 bytes)))
    ∙ regroup (take 8 bytes) (take 2 (drop 8 bytes)) (take 4 (drop 10 bytes)) (drop 14 bytes)
  where
    regroup : (a b c d : List ℕ) → a ++ (b ++ (c ++ d)) ≡ ((a ++ b) ++ c) ++ d
    regroup a b c d = simp append_assoc

spare_spelled : (spare : List ℕ) → AreBytes spare → length spare ≡ 64 → all_zero (drop 16 spare) ≡ true → spare ≡ filled 64 (spare_bytes (head_in spare) (count_in spare))
spare_spelled [] fits len zeros = absurd (omega arith)
spare_spelled (a ∷ []) fits len zeros = absurd (omega arith)
spare_spelled (a ∷ b ∷ spare) fits len zeros =
    let tail : AreBytes spare = λ i. fits (suc (suc i)) in
    let number : take 8 spare ≡ to_be_bytes w64 (from_be_bytes w64 (take 8 spare)) = sym (width64.back (take 8 spare) (length-take-le 8 spare (omega arith)) (AreBytes-take 8 spare tail)) in
    let count : take 2 (drop 8 spare) ≡ to_be_bytes w16 (from_be_bytes w16 (take 2 (drop 8 spare))) = sym (width16.back (take 2 (drop 8 spare)) (length-take-le 2 (drop 8 spare) (omega (arith, length-drop 8 spare))) (AreBytes-take 2 (drop 8 spare) (AreBytes-drop 8 spare tail))) in
    let index : take 4 (drop 10 spare) ≡ to_be_bytes w32 (from_be_bytes w32 (take 4 (drop 10 spare))) = sym (width32.back (take 4 (drop 10 spare)) (length-take-le 4 (drop 10 spare) (omega (arith, length-drop 10 spare))) (AreBytes-take 4 (drop 10 spare) (AreBytes-drop 10 spare tail))) in
    is_filled 64 (a ∷ b ∷ spare) (spare_bytes (head_in (a ∷ b ∷ spare)) (count_in (a ∷ b ∷ spare))) (drop 14 spare) len
    (λ i. a ∷ b ∷ (fields_of spare ∙ (λ j. (number j ++ count j ++ index j) ++ drop 14 spare)) i)
    zeros

-- a page that reads is the page of what was read
pub page_spelled : (kind : ℕ) (bytes : List ℕ) (head : PageHead) (entries : List Entry) → AreBytes bytes → length bytes ≡ 4160 → page_at kind bytes ≡ Ok (head, entries) → (bytes ≡ page_of head entries) × IsPageOf kind head entries
unfolding page_at page_bytes
page_spelled kind bytes head entries fits len e =
    let front = take 4096 bytes in
    let spare = drop 4096 bytes in
    let front_len : length front ≡ 4096 = length-take-le 4096 bytes (omega arith) in
    let spare_len : length spare ≡ 64 = omega (arith, length-drop 4096 bytes) in
    let front_fits : AreBytes front = AreBytes-take 4096 bytes fits in
    let spare_fits : AreBytes spare = AreBytes-drop 4096 bytes fits in
    let g = unless_ok (not (is_of_kind kind spare)) page_faults.NotThisKind (entries_at 0 (count_in spare) front >>= λ x. cond (all_zero x.1) (Ok (head_in spare, x.0)) (Err (page_faults.BadEntry (count_in spare)))) (head, entries) e in
    let s = then_ok (entries_at 0 (count_in spare) front) (λ x. cond (all_zero x.1) (Ok (head_in spare, x.0)) (Err (page_faults.BadEntry (count_in spare)))) (head, entries) g.1 in
    let z = when_ok (all_zero s.0.1) (page_faults.BadEntry (count_in spare)) (Ok (head_in spare, s.0.0)) (head, entries) s.2 in
    let kinds = and_true (eqb (get_or spare 0 0) kind && is_head (head_in spare) (count_in spare)) (all_zero (drop 16 spare)) (is_kind (is_of_kind kind spare) g.0) in
    let tests = and_true (eqb (get_or spare 0 0) kind) (is_head (head_in spare) (count_in spare)) kinds.0 in
    let read = entries_spelled 0 (count_in spare) front s.0 front_fits s.1 in
    let data_is : front ≡ filled 4096 (entries_bytes s.0.0) = is_filled 4096 front (entries_bytes s.0.0) s.0.1 front_len read.parts z.0 in
    let spare_is : spare ≡ filled 64 (spare_bytes (head_in spare) (length s.0.0)) = spare_spelled spare spare_fits spare_len kinds.1 ∙ ap (λ n. filled 64 (spare_bytes (head_in spare) n)) (sym read.number) in
    let P : PageHead × List Entry → Type 0 = λ x. (bytes ≡ page_bytes x.0 (entries_bytes x.1) (length x.1)) × IsPageOf kind x.0 x.1 in
    subst P (ok_is {E = PageFault} (head_in spare, s.0.0) (head, entries) z.1) (
      sym (take-append-drop 4096 bytes) ∙ (λ i. data_is i ++ spare_is i),
      record {
        kind_is = eqb-true _ _ tests.0;
        form = ap (is_head (head_in spare)) read.number ∙ tests.1;
        number = width64.below (take 8 (drop 2 spare)) (AreBytes-take 8 (drop 2 spare) (AreBytes-drop 2 spare spare_fits));
        index = width32.below (take 4 (drop 12 spare)) (AreBytes-take 4 (drop 12 spare) (AreBytes-drop 12 spare spare_fits));
        fits = read.sizes;
        room = omega (arith, ap length read.parts, length-append (entries_bytes s.0.0) s.0.1);
      },
    )
  where
    is_kind : (b : Bool) → not b ≡ false → b ≡ true
    is_kind true e = refl
    is_kind false e = absurd cc

-- whatever was answered for a page, where it was read it is the page of what was read
pub reading_spelled : (kind : ℕ) (bytes : List ℕ) (result : Result PageEntries PageFault) → AreBytes bytes → length bytes ≡ 4160 → PageGives (λ p. (p.head, p.entries)) result (page_at kind bytes) → IfOk result (λ p. (bytes ≡ page_of p.head p.entries) × IsPageOf kind p.head p.entries)
reading_spelled kind bytes (Ok p) fits len h = page_spelled kind bytes p.head p.entries fits len h
reading_spelled kind bytes (Err fault) fits len h = tt
