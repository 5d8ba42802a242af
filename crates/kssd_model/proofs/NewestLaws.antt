-- The newest anchor by its reading is the newest by its bytes, and what programs and erases leave of it.
use Rattle.std.proofs.Common.{◌≡◌, ◌≢◌, ◌∙◌, ℕ, zero, suc, ◌+◌, ◌/◌, ◌<◌, ◌≤◌, ◌⊎◌, true, false, ltb, List, Option, Some, None, refl, sym, ap, arith, subst, inl, inr, add-one}
use Rattle.std.specs.Prelude.{MatchOption}
use Rattle.std.proofs.lemmas.Bool.{cases_eq, cases_lt, lt-ltb, le-ltb}
use Rattle.kv_nand.specs.Flash.{Image, PageState, Erased, Whole, Cut, LeftByProgram, LeftByErase}
use Rattle.kssd_model.specs.declared.anchor.Anchor.{Anchor}
use Rattle.kssd_model.specs.declared.anchor.Found.{Found}
use Rattle.kssd_model.specs.AnchorSpelling.{anchor_page, fits_anchor, HasSpelling}
use Rattle.kssd_model.specs.AnchorReading.{anchor_at}
use Rattle.kssd_model.specs.Anchors.{at_page, found_at, better, newest_of, StandsAt, ComesFirst, IsNewest, HasNone, NewestIsIts, AreOlder}
use Rattle.kssd_model.proofs.AnchorAgain.{spelled_reads, reads_spelled}

same_bytes : (x y : List ℕ) → Whole x ≡ Whole y → x ≡ y
same_bytes x y e = cc

not_none : {A : Type 0} (x : A) → (let r : Option A = None in r) ≡ Some x → ⊥
not_none x e = absurd cc

same_some : {A : Type 0} (x y : A) → Some x ≡ Some y → x ≡ y
same_some x y e = cc

-- the anchor that stands in a page reads from its bytes
reads_there : (image : Image) (page : ℕ) (a : Anchor) (bytes : List ℕ) → image page ≡ Whole bytes → StandsAt image page a → anchor_at bytes ≡ Some a
reads_there image page a bytes e h =
    spelled_reads bytes a (record { page = same_bytes bytes (anchor_page a) (sym e ∙ h.state); fits = h.fits; spelling = h.spelling })

-- one page has one anchor
stands_same : (image : Image) (page : ℕ) (a b : Anchor) → StandsAt image page a → StandsAt image page b → a ≡ b
stands_same image page a b h k = same_some a b (sym (reads_there image page a (anchor_page a) h.state h) ∙ reads_there image page b (anchor_page a) h.state k)

-- what is found in a page stands there
abbrev pub Says : Image → ℕ → Option Found → Type 0
Says image n found = MatchOption found ((a : Anchor) → StandsAt image n a → ⊥) (λ f. (f.page ≡ n) × StandsAt image n f.anchor)

found_says : (image : Image) (n : ℕ) → Says image n (found_at n (image n))
found_says image n = by (image n) refl
  where
    read : (bytes : List ℕ) → image n ≡ Whole bytes → (r : Option Anchor) → anchor_at bytes ≡ r → Says image n (at_page n r)
    read bytes e None none = λ a h. not_none a (sym none ∙ reads_there image n a bytes e h)
    read bytes e (Some a) some = let h = reads_spelled bytes a some in (refl, record { state = e ∙ ap Whole h.page; fits = h.fits; spelling = h.spelling })

    by : (state : PageState) → image n ≡ state → Says image n (found_at n state)
    by Erased e = λ a h. absurd (let f : Erased ≡ Whole (anchor_page a) = sym e ∙ h.state in cc)
    by Cut e = λ a h. absurd (let f : Cut ≡ Whole (anchor_page a) = sym e ∙ h.state in cc)
    by (Whole bytes) e = read bytes e (anchor_at bytes) refl

-- page n, or one before it
split : (P : ℕ → Type 0) (n page : ℕ) → page < suc n → (page < n → P page) → P n → P page
split P n page lt before here = elim (cases_eq page n) [
  | inl e ↦ subst P (sym e) here
  | inr ne ↦ before (omega arith)
]

abbrev IsNewestOr : Image → ℕ → Option Found → Type 0
IsNewestOr image n found = MatchOption found (HasNone image n) (IsNewest image n)

-- the page that was looked at last is the newest where all before it have lower numbers
takes_over : (image : Image) (n : ℕ) (l : Found) → l.page ≡ n → StandsAt image n l.anchor → ((page : ℕ) (a : Anchor) → page < n → StandsAt image page a → a.number < l.anchor.number) → IsNewest image (suc n) l
takes_over image n l at here older = record {
  place = omega arith;
  stands = subst (λ p. StandsAt image p l.anchor) (sym at) here;
  first = λ page a lt.
      split (λ p. StandsAt image p a → ComesFirst l.page l.anchor p a) n page lt
      (λ before h. inl (older page a before h))
      (λ h. let same = stands_same image n a l.anchor h here in inr (ap (λ x. x.number) same, omega arith));
}

combine : (image : Image) (n : ℕ) (older later : Option Found) → IsNewestOr image n older → Says image n later → IsNewestOr image (suc n) (better older later)
combine image n None None old here = λ page a lt. split (λ p. StandsAt image p a → ⊥) n page lt (λ before. old page a before) (here a)
combine image n None (Some l) old here = takes_over image n l here.0 here.1 (λ page a lt h. absurd (old page a lt h))
combine image n (Some f) None old here = record {
  place = omega (arith, old.place);
  stands = old.stands;
  first = λ page a lt. split (λ p. StandsAt image p a → ComesFirst f.page f.anchor p a) n page lt (λ before. old.first page a before) (λ h. absurd (here a h));
}
combine image n (Some f) (Some l) old here = elim (cases_lt f.anchor.number l.anchor.number) [
  | inl lt ↦
      let e : ltb f.anchor.number l.anchor.number ≡ true = lt-ltb _ _ lt in
      rw e (takes_over image n l here.0 here.1 (λ page a before h. elim (old.first page a before h) [ inl less ↦ omega arith | inr same ↦ omega (arith, same.0) ]))
  | inr le ↦
      let e : ltb f.anchor.number l.anchor.number ≡ false = le-ltb _ _ le in
      rw e (record {
        place = omega (arith, old.place);
        stands = old.stands;
        first = λ page a lt.
            split (λ p. StandsAt image p a → ComesFirst f.page f.anchor p a) n page lt
            (λ before. old.first page a before)
            (λ h.
            let same : a.number ≡ l.anchor.number = ap (λ x. x.number) (stands_same image n a l.anchor h here.1) in
            let place : f.page ≤ n = omega (arith, old.place) in
            elim (cases_eq a.number f.anchor.number) [ inl e ↦ inr (e, place) | inr ne ↦ inl (omega arith) ]);
      })
]

-- the newest by reading is so by the bytes
pub newest_reads : (image : Image) (n : ℕ) → IsNewestOr image n (newest_of image n)
unfolding newest_of
newest_reads image zero = λ page a lt h. absurd (omega arith)
newest_reads image (suc n) = combine image n (newest_of image n) (found_at n (image n)) (newest_reads image n) (found_says image n)

first_of_two : (image : Image) (n : ℕ) (f g : Found) → IsNewest image n f → IsNewest image n g → f ≡ g
first_of_two image n f g hf hg =
    let a = hf.first g.page g.anchor hg.place hg.stands in
    let b = hg.first f.page f.anchor hf.place hf.stands in
    let page : f.page ≡ g.page = elim a [
      | inl x ↦ absurd (elim b [ inl y ↦ omega arith | inr y ↦ omega (arith, y.0) ])
      | inr x ↦ elim b [ inl y ↦ absurd (omega (arith, x.0)) | inr y ↦ omega (arith, x.1, y.1) ]
    ] in
    let anchor : f.anchor ≡ g.anchor = stands_same image f.page f.anchor g.anchor hf.stands (subst (λ p. StandsAt image p g.anchor) (sym page) hg.stands) in
    λ i. record { page = page i; anchor = anchor i }

-- there is one newest
pub newest_only : (image : Image) (n : ℕ) (f : Found) → IsNewest image n f → newest_of image n ≡ Some f
newest_only image n f h = by (newest_of image n) (newest_reads image n)
  where
    by : (r : Option Found) → IsNewestOr image n r → r ≡ Some f
    by None none = absurd (none f.page f.anchor h.place h.stands)
    by (Some g) is = ap (λ x. Some x) (first_of_two image n g f is h)

pub newest_nothing : (image : Image) (n : ℕ) → HasNone image n → newest_of image n ≡ None
newest_nothing image n h = by (newest_of image n) (newest_reads image n)
  where
    by : (r : Option Found) → IsNewestOr image n r → r ≡ None
    by None none = refl
    by (Some g) is = absurd (h g.page g.anchor is.place is.stands)

pub newest_is_its : (image : Image) → NewestIsIts image
newest_is_its image = record { reads = newest_reads image 64; only = newest_only image 64; nothing = newest_nothing image 64 }

-- ---- what operations leave of it

stands_along : (old new : Image) (page : ℕ) (a : Anchor) → new page ≡ old page → StandsAt new page a → StandsAt old page a
stands_along old new page a e h = record { state = sym e ∙ h.state; fits = h.fits; spelling = h.spelling }

-- no anchor is new, and the newest still stands
pub newest_kept : (old new : Image) (n : ℕ) → ((page : ℕ) (a : Anchor) → page < n → StandsAt new page a → StandsAt old page a) → MatchOption (newest_of old n) (Unit {0}) (λ f. new f.page ≡ old f.page) → newest_of new n ≡ newest_of old n
newest_kept old new n none_new still = by (newest_of old n) (newest_reads old n) still
  where
    by : (r : Option Found) → IsNewestOr old n r → MatchOption r (Unit {0}) (λ f. new f.page ≡ old f.page) → newest_of new n ≡ r
    by None none same = newest_nothing new n (λ page a lt h. none page a lt (none_new page a lt h))
    by (Some f) is same = newest_only new n f (record { place = is.place; stands = stands_along new old f.page f.anchor (sym same) is.stands; first = λ page a lt h. is.first page a lt (none_new page a lt h) })

-- pages behind the first n don't count
pub newest_same : (old new : Image) (n : ℕ) → ((page : ℕ) → page < n → new page ≡ old page) → newest_of new n ≡ newest_of old n
newest_same old new n same = newest_kept old new n (λ page a lt. stands_along old new page a (same page lt)) (by (newest_of old n) (newest_reads old n))
  where
    by : (r : Option Found) → IsNewestOr old n r → MatchOption r (Unit {0}) (λ f. new f.page ≡ old f.page)
    by None none = tt
    by (Some f) is = same f.page is.place

-- an erase of a block that doesn't hold the newest
pub newest_erased : (old new : Image) (block n : ℕ) → LeftByErase old block new → MatchOption (newest_of old n) (Unit {0}) (λ f. f.page / 32 ≢ block) → newest_of new n ≡ newest_of old n
newest_erased old new block n left other = newest_kept old new n none_new (by (newest_of old n) other)
  where
    by : (r : Option Found) → MatchOption r (Unit {0}) (λ f. f.page / 32 ≢ block) → MatchOption r (Unit {0}) (λ f. new f.page ≡ old f.page)
    by None h = tt
    by (Some f) h = left.elsewhere f.page h

    none_new : (page : ℕ) (a : Anchor) → page < n → StandsAt new page a → StandsAt old page a
    none_new page a lt h = elim (cases_eq (page / 32) block) [
      | inl e ↦ elim (left.here page e) [
        | inl same ↦ stands_along old new page a same h
        | inr gone ↦ absurd (elim gone [ inl g ↦ (let f : Erased ≡ Whole (anchor_page a) = sym g ∙ h.state in cc) | inr g ↦ (let f : Cut ≡ Whole (anchor_page a) = sym g ∙ h.state in cc) ])
      ]
      | inr ne ↦ stands_along old new page a (left.elsewhere page ne) h
    ]

newest_isnt_erased : (old : Image) (at n : ℕ) → old at ≡ Erased → MatchOption (newest_of old n) (Unit {0}) (λ f. f.page ≢ at)
newest_isnt_erased old at n erased = by (newest_of old n) (newest_reads old n)
  where
    by : (r : Option Found) → IsNewestOr old n r → MatchOption r (Unit {0}) (λ f. f.page ≢ at)
    by None none = tt
    by (Some f) is = λ e. absurd (let g : Erased ≡ Whole (anchor_page f.anchor) = sym erased ∙ ap old (sym e) ∙ is.stands.state in cc)

-- a page that was Erased is programmed with an anchor of a greater number than all
pub newest_takes : (old new : Image) (at n : ℕ) (a : Anchor) → ((page : ℕ) → page ≢ at → new page ≡ old page) → at < n → StandsAt new at a → AreOlder (newest_of old n) a.number → newest_of new n ≡ Some (record { page = at; anchor = a })
newest_takes old new at n a elsewhere lt here older = newest_only new n (record { page = at; anchor = a }) (record {
  place = lt;
  stands = here;
  first = λ page b below h. elim (cases_eq page at) [
    | inl e ↦
        let same : b ≡ a = stands_same new at b a (subst (λ p. StandsAt new p b) e h) here in
        inr (ap (λ x. x.number) same, omega arith)
    | inr ne ↦ inl (by (newest_of old n) (newest_reads old n) older page b below (stands_along old new page b (elsewhere page ne) h))
  ];
})
  where
    by : (r : Option Found) → IsNewestOr old n r → AreOlder r a.number → (page : ℕ) (b : Anchor) → page < n → StandsAt old page b → b.number < a.number
    by None none h page b below stands = absurd (none page b below stands)
    by (Some f) is h page b below stands = elim (is.first page b below stands) [ inl less ↦ omega arith | inr same ↦ omega (arith, same.0) ]

-- whatever the program of an anchor leaves: the newest is as it was, or the one given
pub newest_left : (old new : Image) (at n : ℕ) (a : Anchor) → LeftByProgram old at (anchor_page a) new → old at ≡ Erased → at < n → fits_anchor a ≡ true → HasSpelling a → AreOlder (newest_of old n) a.number
    → (newest_of new n ≡ newest_of old n) ⊎ (newest_of new n ≡ Some (record { page = at; anchor = a }))
newest_left old new at n a left erased lt fits spelling older =
    elim left.here [
      | inl e ↦ inl (stays (λ b f. absurd (let g : Erased ≡ Whole (anchor_page b) = sym e ∙ f in cc)))
      | inr r ↦ elim r [
        | inl e ↦ inl (stays (λ b f. absurd (let g : Cut ≡ Whole (anchor_page b) = sym e ∙ f in cc)))
        | inr e ↦ inr (newest_takes old new at n a left.elsewhere lt (record { state = e; fits = fits; spelling = spelling }) older)
      ]
    ]
  where
    still : (r : Option Found) → MatchOption r (Unit {0}) (λ f. f.page ≢ at) → MatchOption r (Unit {0}) (λ f. new f.page ≡ old f.page)
    still None h = tt
    still (Some f) h = left.elsewhere f.page h

    stays : ((b : Anchor) → new at ≡ Whole (anchor_page b) → ⊥) → newest_of new n ≡ newest_of old n
    stays not_whole =
        newest_kept old new n
        (λ page b below h. elim (cases_eq page at) [
          | inl e ↦ absurd (not_whole b (subst (λ p. new p ≡ Whole (anchor_page b)) e h.state))
          | inr ne ↦ stands_along old new page b (left.elsewhere page ne) h
        ])
        (still (newest_of old n) (newest_isnt_erased old at n erased))

-- one page more
pub newest_more : (image : Image) (n : ℕ) → newest_of image (n + 1) ≡ better (newest_of image n) (found_at n (image n))
unfolding newest_of
newest_more image n = ap (newest_of image) (add-one n)

-- no page yet
pub newest_none : (image : Image) → newest_of image 0 ≡ None
unfolding newest_of
newest_none image = refl
