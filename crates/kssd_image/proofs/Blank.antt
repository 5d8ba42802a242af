-- Images that are worked out.
use Rattle.std.proofs.Common.{◌≡◌, ◌≢◌, ◌∙◌, ℕ, zero, suc, ◌-◌, ◌<◌, ◌≤◌, ◌^◌, true, List, [], ◌++◌, length, max, map, Some, None, refl, sym, ap, subst, arith, inl, inr, append-nil}
use Rattle.std.specs.Prelude.{is_some}
use Rattle.std.specs.List.{list_any, range_with_len, IsDistinct}
use Rattle.std.specs.FinMap as objects
use Rattle.std.proofs.lemmas.Bool.{cases_eq, lt-ltb, and_from}
use Rattle.std.proofs.lemmas.List.Elements.{All-nil}
use Rattle.kv_nand.specs.Flash.{Image, PageState, Erased, Whole, Cut}
use Rattle.kv_device.specs.Objects.{Objects}
use Rattle.kssd_layout.specs.Numbers.{max_keys_in, max_pages_in, value_blocks_in, first_value_block_in}
use Rattle.kssd_model.specs.declared.anchor.Anchor.{Anchor}
use Rattle.kssd_model.specs.AnchorSpelling.{anchor_page, fits_anchor, HasSpelling}
use Rattle.kssd_model.specs.Anchors.{StandsAt, newest_in}
use Rattle.kssd_model.specs.Groups.{LogPage, Walk, Ends, seen, Path, walk, log_in, groups_from, groups_in, AreAllowed}
use Rattle.std.proofs.lemmas.Option.{same_Some}
use Rattle.kv_device.specs.Bytes.{bytes_cmp}
use Rattle.kssd_model.proofs.AnchorAgain.{spelled_reads}
use Rattle.kssd_model.proofs.NewestLaws.{newest_only, newest_nothing}
use Rattle.kssd_model.specs.Rising.{merged}
use Rattle.kssd_image.specs.Stages.{anchor_of, the_anchor, entries_of, log_map, without_marks, merged_by, shown_by, shown_in, object_in, objects_in}
use Rattle.kssd_image.specs.AnchorForm.{HasLowNumbers, IsAnchorForm}
use Rattle.kssd_image.specs.Whole.{IsLogWhole, pages_named, HasRoom, IsIndexOf, is_unnamed, leaves_a_block, AreValuesWhole, age_of, age_in}
use Rattle.kssd_image.specs.Worked.{IsBlank, first_anchor, IsFormatted, IsEmpty, EndsBefore}
use Rattle.kssd_image.proofs.LogDamage.{walk_along, path_is_short, turns_within, no_log_damage}

same_bytes : (x y : List ℕ) → Whole x ≡ Whole y → x ≡ y
same_bytes x y e = cc

-- no anchor stands in a blank page
blank_has_none : (image : Image) (page : ℕ) (anchor : Anchor) → IsBlank (image page) → StandsAt image page anchor → ⊥
blank_has_none image page anchor blank stands = elim blank [
  | inl e ↦ let f : Erased ≡ Whole (anchor_page anchor) = sym e ∙ stands.state in absurd cc
  | inr e ↦ let f : Cut ≡ Whole (anchor_page anchor) = sym e ∙ stands.state in absurd cc
]

pub fresh_has_none : (image : Image) → ((page : ℕ) → page < 64 → IsBlank (image page)) → newest_in image ≡ None
fresh_has_none image blank = newest_nothing image 64 (λ page anchor lt. blank_has_none image page anchor (blank page lt))

pub newest_alone : (image : Image) (page : ℕ) (anchor : Anchor) → page < 64 → StandsAt image page anchor → ((other : ℕ) → other < 64 → other ≢ page → IsBlank (image other)) → newest_in image ≡ Some (record { page = page; anchor = anchor })
newest_alone image page anchor lt here blank = newest_only image 64 (record { page = page; anchor = anchor }) (record {
  place = lt;
  stands = here;
  first = λ q b below stands. elim (cases_eq q page) [
    | inl e ↦ inr (same q b e stands, omega arith)
    | inr ne ↦ absurd (blank_has_none image q b (blank q below ne) stands)
  ];
})
  where
    same : (q : ℕ) (b : Anchor) → q ≡ page → StandsAt image q b → b.number ≡ anchor.number
    same q b e stands =
        let bytes : anchor_page anchor ≡ anchor_page b = same_bytes _ _ (sym here.state ∙ sym (ap image e) ∙ stands.state) in
        let first = spelled_reads (anchor_page anchor) anchor (record { page = refl; fits = here.fits; spelling = here.spelling }) in
        let second = spelled_reads (anchor_page anchor) b (record { page = bytes; fits = stands.fits; spelling = stands.spelling }) in
        ap (λ (a : Anchor). a.number) (same_Some _ _ (sym second ∙ first))

blank_ends : (page number : ℕ) (state : PageState) → IsBlank state → seen page number state ≡ Ends
blank_ends page number state blank = elim blank [
  | inl e ↦ ap (seen page number) e
  | inr e ↦ ap (seen page number) e
]

pub ends_before : (image : Image) (page number : ℕ) (pages : List LogPage) (end next : ℕ) → Path image page number pages end next → AreAllowed pages → IsBlank (image end) → EndsBefore image page number pages end next
unfolding log_in walk
ends_before image page number pages end next path allowed blank =
    let few = path_is_short image page number pages end next path in
    let turns = turns_within 0 pages allowed.blocks (omega arith) in
    let ends = blank_ends end next (image end) blank in
    let k : ℕ = 2 ^ 64 - 1 - length pages in
    let along = walk_along (2 ^ 64) (suc k) image page number pages end next (omega arith) path in
    let stops : walk (suc k) image end next ≡ record { pages = []; end = end; next = next } = rw (ends, walk) refl in
    let log : log_in image page number ≡ record { pages = pages; end = end; next = next } = along ∙ (λ i. record { pages = pages ++ (stops i).pages; end = (stops i).end; next = (stops i).next }) ∙ (λ i. record { pages = append-nil pages i; end = end; next = next }) in
    let whole = subst (λ (w : Walk). IsLogWhole image w) (sym log) (record { allowed = allowed; ends = ends }) in
    record { log = log; whole = whole; taken = λ at. no_log_damage image page number at whole }

-- ---- a formatted device

has_first_spelling : (blocks : ℕ) → HasSpelling (first_anchor blocks)
has_first_spelling blocks = record { number = omega arith; next_run = omega arith; log_seq = omega arith; runs = All-nil _; room = omega arith }

fits_first : (blocks : ℕ) → blocks ≤ 2048 → fits_anchor (first_anchor blocks) ≡ true
unfolding fits_anchor
fits_first blocks h = and_from _ _ (lt-ltb _ _ (omega arith)) refl

block_left : (blocks first n : ℕ) → 1 ≤ n → list_any (is_unnamed []) (range_with_len first n) ≡ true
block_left blocks first zero h = absurd (omega arith)
block_left blocks first (suc n) h = refl

pub formatted_empty : (blocks : ℕ) (image : Image) → 256 ≤ blocks → blocks ≤ 2048 → IsFormatted blocks image → IsEmpty blocks image
unfolding the_anchor log_map merged_by shown_by shown_in objects_in age_in leaves_a_block IsDistinct
formatted_empty blocks image least most h =
    let a = first_anchor blocks in
    let newest : newest_in image ≡ Some (record { page = 0; anchor = a }) = newest_alone image 0 a (omega arith) (record { state = h.anchor; fits = fits_first blocks most; spelling = has_first_spelling blocks }) (λ q lt ne. h.blank q (omega arith) (omega arith)) in
    let log = ends_before image 64 1 [] 64 1 (refl, refl) (record { blocks = tt; keys = omega arith }) (h.blank 64 (omega arith) (omega arith)) in
    let is : the_anchor image ≡ a = ap anchor_of newest in
    let groups : groups_in image 64 1 ≡ [] = ap (λ (w : Walk). groups_from [] w.pages) log.log in
    let shown : shown_by image a ≡ [] = ap (λ gs. without_marks (merged (merged (entries_of gs) []) [])) groups in
    let form : IsAnchorForm blocks a = record {
      device = refl;
      log_low = omega arith;
      log_high = omega arith;
      levels = record { known = All-nil _; order = λ i j d lt less. absurd (omega arith); level_0 = omega arith; level_1 = omega arith; base = omega arith };
      runs = All-nil _;
      blocks_differ = tt;
      numbers_differ = tt;
      numbers_low = All-nil _;
    } in
    let room : HasRoom blocks image a = record { keys = subst (λ es. length es ≤ max_keys_in blocks) (sym shown) (omega arith); levels = omega arith; upper = omega arith; base = omega arith; pages = subst (λ es. length (pages_named es) ≤ max_pages_in blocks) (sym shown) (omega arith) } in
    let index : IsIndexOf blocks image a = record { form = form; runs = All-nil _; log = log.whole; room = room } in
    let values : AreValuesWhole blocks image (shown_by image a) = subst (AreValuesWhole blocks image) (sym shown) (record { pages = refl; spare = block_left blocks (first_value_block_in blocks) (value_blocks_in blocks) (omega arith) }) in
    record {
      newest = newest;
      groups = groups;
      none = ap (λ es. objects.from_sorted (map (object_in image) es)) (ap (shown_by image) is ∙ shown) ∙ nothing;
      sound = record {
        whole = record { found = ap is_some newest; index = subst (IsIndexOf blocks image) (sym is) index; values = subst (λ b. AreValuesWhole blocks image (shown_by image b)) (sym is) values };
        numbers = subst HasLowNumbers (sym is) (omega arith);
      };
      age = ap (age_of image) newest ∙ (λ i. max 1 ((log.log i).next - 1));
    }
  where
    none_at_all : Objects
    none_at_all = objects.from_sorted []

    nothing : none_at_all ≡ objects.empty
    nothing = objects.empty_of_len _ (objects.len-entries _ ∙ ap length (objects.entries-from_sorted bytes_cmp [] tt))
