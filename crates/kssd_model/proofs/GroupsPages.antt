-- A page of the log and its spelling.
use Rattle.std.proofs.Common.{◌≡◌, ◌∙◌, ℕ, ◌+◌, ◌%◌, ◌<◌, ◌≤◌, ◌^◌, Bool, true, false, cond, not, ◌&&◌, eqb, List, [], ◌∷◌, length, drop, refl, sym, ap, subst, arith, Result, Ok, Err, length-append}
use Rattle.std.proofs.lemmas.Bool.{eq-eqb, eqb-true, eqb-false, ne_eqb}
use Rattle.std.proofs.lemmas.List.Concat.{flat_map-cons}
use Rattle.kv_nand.specs.Flash.{Image, PageState, Erased, Whole, Cut}
use Rattle.kssd_entry.specs.declared.entry.Entry.{Entry}
use Rattle.kssd_entry.specs.declared.entry.Entry.TheVariants.{Put, At, Gone}
use Rattle.kssd_entry.specs.declared.fault.PageFault.{PageFault}
use Rattle.kssd_entry.specs.declared.packer.PageHead.{PageHead}
use Rattle.kssd_entry.specs.Spelling.{entries_bytes, entry_bytes, size_of, page_of, is_head, IsPageOf}
use Rattle.kssd_entry.specs.Reading.{head_in, page_at}
use Rattle.kssd_entry.proofs.Again.{page_again, head_of_page}
use Rattle.kssd_entry.proofs.Filling.{length-entry_bytes}
use Rattle.kssd_entry.proofs.Spelled.{page_spelled}
use Rattle.kssd_model.specs.Groups.{LogPage, Ends, Holds, Broken, seen, seen_in, is_numbered, next_place, Path, log_head, log_bytes, Stands, StandAll}
use Rattle.kssd_model.specs.GroupsLaws.{HasBytes}

-- an entry has more than one byte
pub few_entries : (entries : List Entry) → length entries ≤ length (entries_bytes entries)
few_entries [] = omega arith
few_entries (e ∷ entries) =
    let size : 3 ≤ length (entry_bytes e) = omega (arith, length-entry_bytes e, least e) in
    omega (arith, few_entries entries, ap length (flat_map-cons entry_bytes e entries), length-append (entry_bytes e) (entries_bytes entries))
  where
    least : (e : Entry) → 3 ≤ size_of e
    least (Put key value) = omega arith
    least (At key page n) = omega arith
    least (Gone key) = omega arith

-- a page in its spelling is seen as what it is
pub spelled_seen : (page number : ℕ) (x : LogPage) → IsPageOf 2 (log_head x.flags number) x.entries → (page % 32 ≡ 31 → x.flags ≡ 2) → seen page number (Whole (log_bytes number x)) ≡ Holds x
spelled_seen page number x form turns =
    let few : length x.entries < 2 ^ 16 = omega (arith, few_entries x.entries, form.room) in
    let read = page_again (log_head x.flags number) x.entries (record { number = form.number; index = form.index }) form.fits form.room few form.form in
    let head = head_of_page (log_head x.flags number) x.entries (record { number = form.number; index = form.index }) form.room in
    let numbered : is_numbered number (log_bytes number x) ≡ true = (λ i. eqb (head i).kind 2 && eqb (head i).number number) ∙ eq-eqb number number refl in
    rw (numbered, read) (placed (eqb (page % 32) 31) refl)
  where
    placed : (b : Bool) → eqb (page % 32) 31 ≡ b → cond (b && not (eqb x.flags 2)) Broken (Holds (record { flags = x.flags; entries = x.entries })) ≡ Holds x
    placed false e = refl
    placed true e = rw (eq-eqb x.flags 2 (turns (eqb-true _ _ e))) refl

pub stands_seen : (image : Image) (page number : ℕ) (x : LogPage) → Stands image page number x → seen page number (image page) ≡ Holds x
stands_seen image page number x s = ap (seen page number) s.bytes ∙ spelled_seen page number x s.form s.turns

-- the spare bytes of a page of the log say its flags and its number alone
no_index : (head : PageHead) (count : ℕ) → head.kind ≡ 2 → is_head head count ≡ true → head.index ≡ 0
unfolding is_head
no_index head count kind form =
    let other : eqb head.kind 3 ≡ false = ne_eqb head.kind 3 (λ e. absurd (omega arith)) in
    let rest = rw other at form in
    eqb-true _ _ (left (eqb head.index 0) _ rest)
  where
    left : (a b : Bool) → (a && b) ≡ true → a ≡ true
    left true b e = refl
    left false b e = absurd cc

pub head_is_log : (number : ℕ) (bytes : List ℕ) (head : PageHead) (entries : List Entry) → is_numbered number bytes ≡ true → bytes ≡ page_of head entries → IsPageOf 2 head entries → head ≡ log_head head.flags number
head_is_log number bytes head entries numbered spelled form =
    let said : head_in (drop 4096 bytes) ≡ head = ap (λ (b : List ℕ). head_in (drop 4096 b)) spelled ∙ head_of_page head entries (record { number = form.number; index = form.index }) form.room in
    let right : eqb (head_in (drop 4096 bytes)).number number ≡ true = and_right _ _ numbered in
    let same : head.number ≡ number = sym (ap (λ h. h.number) said) ∙ eqb-true _ _ right in
    let none : head.index ≡ 0 = no_index head (length entries) form.kind_is form.form in
    λ i. record { kind = form.kind_is i; flags = head.flags; number = same i; index = none i }
  where
    and_right : (a b : Bool) → (a && b) ≡ true → b ≡ true
    and_right true b e = e
    and_right false b e = absurd cc

-- what a page that was read spells
pub spelled_as : (number : ℕ) (bytes : List ℕ) (head : PageHead) (entries : List Entry) → is_numbered number bytes ≡ true → bytes ≡ page_of head entries → IsPageOf 2 head entries
    → (bytes ≡ page_of (log_head head.flags number) entries) × IsPageOf 2 (log_head head.flags number) entries
spelled_as number bytes head entries numbered spelled form =
    subst (λ (h : PageHead). (bytes ≡ page_of h entries) × IsPageOf 2 h entries) (head_is_log number bytes head entries numbered spelled form) (spelled, form)

-- what is seen as a page stands there in its spelling
pub seen_stands : (image : Image) (page number : ℕ) (x : LogPage) → HasBytes image → seen page number (image page) ≡ Holds x → Stands image page number x
seen_stands image page number x has h = by (image page) refl h
  where
    holds_same : (a b : LogPage) → Holds a ≡ Holds b → a ≡ b
    holds_same a b e = cc

    placed : (b : Bool) (flags : ℕ) (entries : List Entry) → eqb (page % 32) 31 ≡ b → cond (b && not (eqb flags 2)) Broken (Holds (record { flags = flags; entries = entries })) ≡ Holds x
        → (record { flags = flags; entries = entries } ≡ x) × (page % 32 ≡ 31 → flags ≡ 2)
    placed false flags entries e h = (holds_same _ _ h, λ last. absurd (eqb-false _ _ e last))
    placed true flags entries e h = turned (eqb flags 2) refl h
      where
        turned : (b : Bool) → eqb flags 2 ≡ b → cond (not b) Broken (Holds (record { flags = flags; entries = entries })) ≡ Holds x → (record { flags = flags; entries = entries } ≡ x) × (page % 32 ≡ 31 → flags ≡ 2)
        turned true e h = (holds_same _ _ h, λ last. eqb-true _ _ e)
        turned false e h = absurd cc

    read : (bytes : List ℕ) (r : Result (PageHead × List Entry) PageFault) → image page ≡ Whole bytes → page_at 2 bytes ≡ r → is_numbered number bytes ≡ true → seen_in page r ≡ Holds x → Stands image page number x
    read bytes (Err fault) e r n h = absurd cc
    read bytes (Ok y) e r n h =
        let sound = has page bytes e in
        let p = page_spelled 2 bytes y.0 y.1 sound.1 sound.0 r in
        let s = spelled_as number bytes y.0 y.1 n p.0 p.1 in
        let q = placed (eqb (page % 32) 31) y.0.flags y.1 refl h in
        subst (λ (z : LogPage). Stands image page number z) q.0 (record { bytes = e ∙ ap Whole s.0; form = s.1; turns = q.1 })

    whole : (bytes : List ℕ) (b : Bool) → image page ≡ Whole bytes → is_numbered number bytes ≡ b → cond b (seen_in page (page_at 2 bytes)) Ends ≡ Holds x → Stands image page number x
    whole bytes true e n h = read bytes (page_at 2 bytes) e refl n h
    whole bytes false e n h = absurd cc

    by : (state : PageState) → image page ≡ state → seen page number state ≡ Holds x → Stands image page number x
    by Erased e h = absurd cc
    by Cut e h = absurd cc
    by (Whole bytes) e h = whole bytes (is_numbered number bytes) e refl h

pub path_stands : (image : Image) (page number : ℕ) (pages : List LogPage) (end next : ℕ) → HasBytes image → Path image page number pages end next → StandAll image page number pages
path_stands image page number [] end next has path = tt
path_stands image page number (x ∷ xs) end next has path = (seen_stands image page number x has path.0, path_stands image (next_place page x) (number + 1) xs end next has path.1)
