-- What programs and erases leave of a log.
use Rattle.std.proofs.Common.{◌≡◌, ◌≢◌, ◌⊎◌, ◌∙◌, ℕ, ◌+◌, ◌-◌, ◌*◌, ◌/◌, ◌%◌, ◌<◌, ◌≤◌, Bool, true, false, cond, eqb, List, [], ◌∷◌, ◌++◌, Result, Ok, Err, not, ◌&&◌, refl, sym, ap, subst, arith, inl, inr}
use Rattle.std.proofs.lemmas.Bool.{cases_Bool, eq-eqb, eqb-true, eqb-false}
use Rattle.kv_nand.specs.Flash.{Image, PageState, Erased, Whole, Cut, LeftByProgram, LeftByErase}
use Rattle.kssd_entry.specs.declared.entry.Entry.{Entry}
use Rattle.kssd_entry.specs.declared.fault.PageFault.{PageFault}
use Rattle.kssd_entry.specs.declared.packer.PageHead.{PageHead}
use Rattle.kssd_entry.specs.Reading.{page_at}
use Rattle.kssd_model.specs.Groups.{LogPage, Ends, Holds, Broken, seen, next_block, next_place, Path, groups_from, rest_from, HasLog, Avoids, turn_count, seen_in, is_numbered, Stands, StandAll}

-- a page of the log isn't Erased
pub not_erased : (page number : ℕ) (state : PageState) (x : LogPage) → seen page number state ≡ Holds x → state ≢ Erased
not_erased page number Erased x h e = absurd cc
not_erased page number (Whole bytes) x h e = absurd cc
not_erased page number Cut x h e = absurd cc

pub path_after_program : (old new : Image) (at : ℕ) (bytes : List ℕ) (page number : ℕ) (xs : List LogPage) (end next : ℕ) → LeftByProgram old at bytes new → old at ≡ Erased → Path old page number xs end next → Path new page number xs end next
path_after_program old new at bytes page number [] end next left erased path = path
path_after_program old new at bytes page number (x ∷ xs) end next left erased path =
    let other : page ≢ at = λ e. not_erased page number (old page) x path.0 (ap old e ∙ erased) in
    (ap (seen page number) (left.elsewhere page other) ∙ path.0, path_after_program old new at bytes (next_place page x) (number + 1) xs end next left erased path.1)

pub path_after_erase : (old new : Image) (block page number : ℕ) (xs : List LogPage) (end next : ℕ) → LeftByErase old block new → Avoids block page xs → Path old page number xs end next → Path new page number xs end next
path_after_erase old new block page number [] end next left avoids path = path
path_after_erase old new block page number (x ∷ xs) end next left avoids path =
    (ap (seen page number) (left.elsewhere page avoids.0) ∙ path.0, path_after_erase old new block (next_place page x) (number + 1) xs end next left avoids.1 path.1)

stands_same : (old new : Image) (page number : ℕ) (x : LogPage) → new page ≡ old page → Stands old page number x → Stands new page number x
stands_same old new page number x e s = record { bytes = e ∙ s.bytes; form = s.form; turns = s.turns }

stand_after_program : (old new : Image) (at : ℕ) (bytes : List ℕ) (page number : ℕ) (xs : List LogPage) (end next : ℕ) → LeftByProgram old at bytes new → old at ≡ Erased → Path old page number xs end next → StandAll old page number xs → StandAll new page number xs
stand_after_program old new at bytes page number [] end next left erased path all = tt
stand_after_program old new at bytes page number (x ∷ xs) end next left erased path all =
    let other : page ≢ at = λ e. not_erased page number (old page) x path.0 (ap old e ∙ erased) in
    (stands_same old new page number x (left.elsewhere page other) all.0, stand_after_program old new at bytes (next_place page x) (number + 1) xs end next left erased path.1 all.1)

stand_after_erase : (old new : Image) (block page number : ℕ) (xs : List LogPage) → LeftByErase old block new → Avoids block page xs → StandAll old page number xs → StandAll new page number xs
stand_after_erase old new block page number [] left avoids all = tt
stand_after_erase old new block page number (x ∷ xs) left avoids all =
    (stands_same old new page number x (left.elsewhere page avoids.0) all.0, stand_after_erase old new block (next_place page x) (number + 1) xs left avoids.1 all.1)

pub stand_more : (image : Image) (page number : ℕ) (xs : List LogPage) (end next : ℕ) (x : LogPage) → Path image page number xs end next → StandAll image page number xs → Stands image end next x → StandAll image page number (xs ++ x ∷ [])
stand_more image page number [] end next x path all s = (subst (λ (p : ℕ × ℕ). Stands image p.0 p.1 x) (λ i. (path.0 i, path.1 i)) s, tt)
stand_more image page number (y ∷ xs) end next x path all s = (all.0, stand_more image (next_place page y) (number + 1) xs end next x path.1 all.1 s)

-- one more page at its end
pub path_more : (image : Image) (page number : ℕ) (xs : List LogPage) (end next : ℕ) (x : LogPage) → Path image page number xs end next → seen end next (image end) ≡ Holds x → Path image page number (xs ++ x ∷ []) (next_place end x) (next + 1)
path_more image page number [] end next x path h =
    (subst (λ (p : ℕ × ℕ). seen p.0 p.1 (image p.0) ≡ Holds x) (λ i. (path.0 i, path.1 i)) h, (ap (λ p. next_place p x) path.0, ap (λ n. n + 1) path.1))
path_more image page number (y ∷ xs) end next x path h = (path.0, path_more image (next_place page y) (number + 1) xs end next x path.1 h)

pub groups_more : (pending : List Entry) (xs ys : List LogPage) → groups_from pending (xs ++ ys) ≡ groups_from pending xs ++ groups_from (rest_from pending xs) ys
groups_more pending [] ys = refl
groups_more pending (x ∷ xs) ys =
    let whole = groups_more [] xs ys in
    let open_ = groups_more (pending ++ x.entries) xs ys in
    elim (eqb x.flags 1) as (λ b. cond b ((pending ++ x.entries) ∷ groups_from [] (xs ++ ys)) (groups_from (pending ++ x.entries) (xs ++ ys))
    ≡ cond b ((pending ++ x.entries) ∷ groups_from [] xs) (groups_from (pending ++ x.entries) xs) ++ groups_from (cond b (rest_from [] xs) (rest_from (pending ++ x.entries) xs)) ys) [
      | true ↦ ap (λ (gs : List (List Entry)). (pending ++ x.entries) ∷ gs) whole
      | false ↦ open_
    ]

pub rest_more : (pending : List Entry) (xs ys : List LogPage) → rest_from pending (xs ++ ys) ≡ rest_from (rest_from pending xs) ys
rest_more pending [] ys = refl
rest_more pending (x ∷ xs) ys =
    let whole = rest_more [] xs ys in
    let open_ = rest_more (pending ++ x.entries) xs ys in
    elim (eqb x.flags 1) as (λ b. cond b (rest_from [] (xs ++ ys)) (rest_from (pending ++ x.entries) (xs ++ ys)) ≡ rest_from (cond b (rest_from [] xs) (rest_from (pending ++ x.entries) xs)) ys) [
      | true ↦ whole
      | false ↦ open_
    ]

pub turns_more : (xs ys : List LogPage) → turn_count (xs ++ ys) ≡ turn_count xs + turn_count ys
turns_more [] ys = omega arith
turns_more (x ∷ xs) ys = omega (arith, turns_more xs ys)

holds_same : (x y : LogPage) → Holds x ≡ Holds y → x ≡ y
holds_same x y e = cc

turn_or_not : (b : Bool) (x y : LogPage) → eqb y.flags 2 ≡ b → cond (not b) Broken (Holds y) ≡ Holds x → eqb x.flags 2 ≡ false → ⊥
turn_or_not false x y e h f = absurd cc
turn_or_not true x y e h f =
    let same : eqb y.flags 2 ≡ eqb x.flags 2 = ap (λ (z : LogPage). eqb z.flags 2) (holds_same y x h) in
    absurd cc

-- a page 31 of the log is a turn page
pub not_last : (page number : ℕ) (state : PageState) (x : LogPage) → seen page number state ≡ Holds x → eqb x.flags 2 ≡ false → page % 32 ≢ 31
not_last page number Erased x h e last = absurd cc
not_last page number Cut x h e last = absurd cc
not_last page number (Whole bytes) x h e last = by (is_numbered number bytes) (page_at 2 bytes) h
  where
    by : (b : Bool) (r : Result (PageHead × List Entry) PageFault) → cond b (seen_in page r) Ends ≡ Holds x → ⊥
    by false r h = absurd cc
    by true (Err f) h = absurd cc
    by true (Ok y) h =
        let l : eqb (page % 32) 31 ≡ true = eq-eqb _ _ last in
        let z : LogPage = record { flags = y.0.flags; entries = y.1 } in
        let h2 = subst (λ (b : Bool). cond (b && not (eqb z.flags 2)) Broken (Holds z) ≡ Holds x) l h in
        turn_or_not (eqb z.flags 2) x z refl h2 e

-- where a page of the log isn't made whole, the log is as it was
pub log_stays : (old new : Image) (bytes : List ℕ) (page number : ℕ) (groups : List (List Entry)) (rest : List Entry) (turns end next : ℕ)
    → LeftByProgram old end bytes new → old end ≡ Erased → (new end ≡ Erased) ⊎ (new end ≡ Cut) → HasLog old page number groups rest turns end next → HasLog new page number groups rest turns end next
log_stays old new bytes page number groups rest turns end next left erased state log = record {
  pages = log.pages;
  path = path_after_program old new end bytes page number log.pages end next left erased log.path;
  stand = stand_after_program old new end bytes page number log.pages end next left erased log.path log.stand;
  ends = elim state [ inl e ↦ ap (seen end next) e | inr e ↦ ap (seen end next) e ];
  groups_are = log.groups_are;
  rest_is = log.rest_is;
  turns_are = log.turns_are;
}

-- where it is made whole, the log has one more page
pub log_grows : (old new : Image) (bytes : List ℕ) (page number : ℕ) (groups : List (List Entry)) (rest : List Entry) (turns end next : ℕ) (x : LogPage)
    → LeftByProgram old end bytes new → old end ≡ Erased → new end ≡ Whole bytes → seen end next (Whole bytes) ≡ Holds x → Stands new end next x → new (next_place end x) ≡ Erased
    → HasLog old page number groups rest turns end next
    → HasLog new page number (groups ++ groups_from rest (x ∷ [])) (rest_from rest (x ∷ [])) (turns + turn_count (x ∷ [])) (next_place end x) (next + 1)
log_grows old new bytes page number groups rest turns end next x left erased whole holds stands after log = record {
  pages = log.pages ++ x ∷ [];
  path = path_more new page number log.pages end next x (path_after_program old new end bytes page number log.pages end next left erased log.path) (ap (seen end next) whole ∙ holds);
  stand = stand_more new page number log.pages end next x (path_after_program old new end bytes page number log.pages end next left erased log.path) (stand_after_program old new end bytes page number log.pages end next left erased log.path log.stand) stands;
  ends = ap (seen (next_place end x) (next + 1)) after;
  groups_are = groups_more [] log.pages (x ∷ []) ∙ (λ i. log.groups_are i ++ groups_from (log.rest_is i) (x ∷ []));
  rest_is = rest_more [] log.pages (x ∷ []) ∙ ap (λ (r : List Entry). rest_from r (x ∷ [])) log.rest_is;
  turns_are = turns_more log.pages (x ∷ []) ∙ ap (λ n. n + turn_count (x ∷ [])) log.turns_are;
}

-- an erase of a block that the log avoids
pub log_after_erase : (old new : Image) (block page number : ℕ) (groups : List (List Entry)) (rest : List Entry) (turns end next : ℕ)
    → LeftByErase old block new → (log : HasLog old page number groups rest turns end next) → Avoids block page log.pages → end / 32 ≢ block → HasLog new page number groups rest turns end next
log_after_erase old new block page number groups rest turns end next left log avoids other = record {
  pages = log.pages;
  path = path_after_erase old new block page number log.pages end next left avoids log.path;
  stand = stand_after_erase old new block page number log.pages left avoids log.stand;
  ends = ap (seen end next) (left.elsewhere end other) ∙ log.ends;
  groups_are = log.groups_are;
  rest_is = log.rest_is;
  turns_are = log.turns_are;
}

-- the block so many turns behind this one, in the ring
abbrev pub ring_block : ℕ → ℕ → ℕ
ring_block block turns = 2 + (block - 2 + turns) % 18

pub next_in_ring : (block : ℕ) → 2 ≤ block → block < 20 → (next_block block ≡ ring_block block 1) × (2 ≤ next_block block) × (next_block block < 20)
next_in_ring block low high =
    elim (cases_Bool (eqb block 19)) [
      | inl e ↦ let is : block ≡ 19 = eqb-true _ _ e in rw e (omega arith, omega arith, omega arith)
      | inr e ↦ let is : block ≢ 19 = eqb-false _ _ e in rw e (omega arith, omega arith, omega arith)
    ]

ring_still : (block : ℕ) → 2 ≤ block → block < 20 → ring_block block 0 ≡ block
ring_still block low high = omega arith

pub ring_then : (block k : ℕ) → 2 ≤ block → ring_block (ring_block block 1) k ≡ ring_block block (1 + k)
ring_then block k low = omega arith

ring_other : (block k : ℕ) → 2 ≤ block → block < 20 → 0 < k → k < 18 → block ≢ ring_block block k
ring_other block k low high more less e = absurd (omega arith)

-- where the log goes on behind a page
pub behind : (page number : ℕ) (state : PageState) (x : LogPage) → seen page number state ≡ Holds x → 64 ≤ page → page < 640
    → (64 ≤ next_place page x) × (next_place page x < 640) × (next_place page x / 32 ≡ ring_block (page / 32) (turn_count (x ∷ [])))
behind page number state x h low high =
    elim (cases_Bool (eqb x.flags 2)) [
      | inl e ↦
          let n = next_in_ring (page / 32) (omega arith) (omega arith) in
          rw e (omega (arith, n.1), omega (arith, n.2), let same : 32 * next_block (page / 32) / 32 ≡ next_block (page / 32) = omega arith in same ∙ n.0)
      | inr e ↦
          let inner : page % 32 ≢ 31 = not_last page number state x h e in
          rw e (omega arith, omega arith, omega arith)
    ]

pub ends_in_ring : (image : Image) (page number : ℕ) (xs : List LogPage) (end next : ℕ) → Path image page number xs end next → 64 ≤ page → page < 640
    → (64 ≤ end) × (end < 640) × (end / 32 ≡ ring_block (page / 32) (turn_count xs))
ends_in_ring image page number [] end next path low high = rw path.0 (low, high, sym (ring_still (page / 32) (omega arith) (omega arith)))
ends_in_ring image page number (x ∷ xs) end next path low high =
    let b = behind page number (image page) x path.0 low high in
    let rest = ends_in_ring image (next_place page x) (number + 1) xs end next path.1 b.0 b.1 in
    (rest.0, rest.1, rest.2 ∙ ap (λ k. ring_block k (turn_count xs)) b.2 ∙ turned)
  where
    turned : ring_block (ring_block (page / 32) (turn_count (x ∷ []))) (turn_count xs) ≡ ring_block (page / 32) (turn_count (x ∷ xs))
    turned = elim (eqb x.flags 2) as (λ b. ring_block (ring_block (page / 32) (cond b 1 0 + 0)) (turn_count xs) ≡ ring_block (page / 32) (cond b 1 0 + turn_count xs)) [ true ↦ omega arith | false ↦ omega arith ]

-- the log lies in no block that it would come to by so many more turns
pub avoids_ring : (image : Image) (page number : ℕ) (xs : List LogPage) (end next k : ℕ) → Path image page number xs end next → 64 ≤ page → page < 640 → turn_count xs < k → k < 18 → Avoids (ring_block (page / 32) k) page xs
avoids_ring image page number [] end next k path low high more less = tt
avoids_ring image page number (x ∷ xs) end next k path low high more less =
    let b = behind page number (image page) x path.0 low high in
    let rest = λ (j : ℕ) (m : turn_count xs < j) (l : j < 18). avoids_ring image (next_place page x) (number + 1) xs end next j path.1 b.0 b.1 m l in
    (ring_other (page / 32) k (omega arith) (omega arith) (omega arith) less, by (eqb x.flags 2) refl rest b.2 more)
  where
    by : (t : Bool) → eqb x.flags 2 ≡ t → ((j : ℕ) → turn_count xs < j → j < 18 → Avoids (ring_block (next_place page x / 32) j) (next_place page x) xs)
        → next_place page x / 32 ≡ ring_block (page / 32) (turn_count (x ∷ [])) → turn_count (x ∷ xs) < k → Avoids (ring_block (page / 32) k) (next_place page x) xs
    by true e rest place m =
        let one : turn_count (x ∷ []) ≡ 1 = rw e refl in
        let count : turn_count (x ∷ xs) ≡ 1 + turn_count xs = rw e refl in
        let same : ring_block (next_place page x / 32) (k - 1) ≡ ring_block (page / 32) k = ap (λ b. ring_block b (k - 1)) place ∙ ap (λ t. ring_block (ring_block (page / 32) t) (k - 1)) one ∙ ring_then (page / 32) (k - 1) (omega arith) ∙ ap (ring_block (page / 32)) (let s : 1 + (k - 1) ≡ k = omega (arith, m, count) in s) in
        subst (λ (b : ℕ). Avoids b (next_place page x) xs) same (rest (k - 1) (omega (arith, count)) (omega arith))
    by false e rest place m =
        let none : turn_count (x ∷ []) ≡ 0 = rw e refl in
        let count : turn_count (x ∷ xs) ≡ turn_count xs = rw e (omega arith) in
        let same : ring_block (next_place page x / 32) k ≡ ring_block (page / 32) k = ap (λ b. ring_block b k) (place ∙ ap (ring_block (page / 32)) none ∙ ring_still (page / 32) (omega arith) (omega arith)) in
        subst (λ (b : ℕ). Avoids b (next_place page x) xs) same (rest k (omega (arith, count)) less)
