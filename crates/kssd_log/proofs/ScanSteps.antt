-- Reading the log page by page.
use Rattle.std.proofs.Common.{◌≡◌, ◌≢◌, ◌∙◌, ℕ, ◌+◌, ◌-◌, ◌*◌, ◌/◌, ◌%◌, ◌<◌, ◌≤◌, ◌^◌, true, false, cond, eqb, List, [], ◌∷◌, ◌++◌, length, refl, sym, ap, subst, arith, inl, inr}
use Rattle.std.proofs.lemmas.Bool.{cases_Bool, cases_eq, eq-eqb, ne_eqb}
use Rattle.std.proofs.lemmas.List.{append-nil}
use Rattle.std.proofs.lemmas.List.Concat.{flat_map-cons}
use Rattle.kv_nand.specs.Flash.{Image, Flash}
use Rattle.kv_nand.specs.Working.{Works, Stops}
use Rattle.kv_nand.proofs.Chaining.{works_then_works, works_then_stops, works_within, stops_within}
use Rattle.kv_nand.specs.declared.fault.FlashFault.{FlashFault}
use Rattle.kssd_entry.specs.declared.entry.Entry.{Entry}
use Rattle.kssd_log.specs.declared.found.Scan.{Scan}
use Rattle.kssd_log.specs.declared.scanning.Look.{Look}
use Rattle.kssd_model.specs.Groups.{LogPage, LogSeen, Ends, Holds, Broken, seen, turn_count, groups_from, rest_from, Stands, logged, key_set, IsRefused, IsDamaged}
use Rattle.kssd_model.proofs.GroupsPaths.{path_more, stand_more, groups_more, rest_more, turns_more, behind, not_last}
use Rattle.kssd_model.proofs.GroupsWalks.{groups_in_log, path_counts}
use Rattle.kssd_model.proofs.GroupsDamage.{key_set_more, logged_more, within_one_more}
use Rattle.kssd_log.specs.Scan.{look_seen, IsScan, IsScanning, turns_of, place_behind}

-- what one more page does to the measure
pub falls : (image : Image) (at next turns : ℕ) (x : LogPage) → seen at next (image at) ≡ Holds x → 64 ≤ at → at < 640 → turns < 16
    → 32 * (17 - (turns + turns_of x.flags)) - place_behind at x.flags % 32 < 32 * (17 - turns) - at % 32
falls image at next turns x h low high few =
    elim (cases_Bool (eqb x.flags 2)) [
      | inl e ↦ rw e (omega arith)
      | inr e ↦ let inner : at % 32 ≢ 31 = not_last at next (image at) x h e in rw e (omega arith)
    ]

-- what a read found is what stood there from the beginning
pub seen_there : (old now : Image) (at number : ℕ) (look : Look) (x : LogSeen) → now ≡ old → look_seen look ≡ seen at number (now at) → look_seen look ≡ x → seen at number (old at) ≡ x
seen_there old now at number look x same ok is = ap (λ (f : Image). seen at number (f at)) (sym same) ∙ sym ok ∙ is

-- nothing is read yet
pub scanning_begins : (image : Image) (block number : ℕ) → 2 ≤ block → block ≤ 19 → IsScanning image (32 * block) number [] [] [] 0 (32 * block) number
scanning_begins image block number low high = record {
  pages = [];
  path = (refl, refl);
  groups_are = refl;
  rest_is = refl;
  keys_are = refl;
  turns_are = refl;
  allowed = record { blocks = tt; keys = omega arith };
  stand = tt;
  low = omega arith;
  high = omega arith;
  few = omega arith;
  last = λ e. absurd (omega arith);
  least = omega arith;
  counted = omega arith;
}

-- the keys with those of one more page
pub keys_more : (pages : List LogPage) (keys : List (List ℕ)) (x : LogPage) → key_set [] (logged pages) ≡ keys → key_set [] (logged (pages ++ x ∷ [])) ≡ key_set keys x.entries
keys_more pages keys x e =
    let one : logged (x ∷ []) ≡ x.entries = flat_map-cons (λ (y : LogPage). y.entries) x [] ∙ append-nil x.entries in
    ap (key_set []) (logged_more pages (x ∷ []) ∙ ap (λ (es : List Entry). logged pages ++ es) one) ∙ key_set_more [] (logged pages) x.entries ∙ ap (λ (ks : List (List ℕ)). key_set ks x.entries) e

scanning_more : (image : Image) (page number : ℕ) (groups : List (List Entry)) (rest : List Entry) (keys : List (List ℕ)) (turns at next : ℕ) (x : LogPage)
    → IsScanning image page number groups rest keys turns at next → seen at next (image at) ≡ Holds x → Stands image at next x → turns < 16 → length (key_set keys x.entries) ≤ 2048
    → IsScanning image page number (groups ++ groups_from rest (x ∷ [])) (rest_from rest (x ∷ [])) (key_set keys x.entries) (turns + turns_of x.flags) (place_behind at x.flags) (next + 1)
scanning_more image page number groups rest keys turns at next x s h stands few less =
    let more = keys_more s.pages keys x s.keys_are in
    record {
      pages = s.pages ++ x ∷ [];
      path = path_more image page number s.pages at next x s.path h;
      groups_are = groups_more [] s.pages (x ∷ []) ∙ (λ i. s.groups_are i ++ groups_from (s.rest_is i) (x ∷ []));
      rest_is = rest_more [] s.pages (x ∷ []) ∙ ap (λ (r : List Entry). rest_from r (x ∷ [])) s.rest_is;
      keys_are = more;
      turns_are = omega (arith, turns_more s.pages (x ∷ []), s.turns_are);
      allowed = record { blocks = within_one_more 0 s.pages x s.allowed.blocks (omega (arith, s.turns_are)); keys = omega (arith, ap length more, less) };
      stand = stand_more image page number s.pages at next x s.path s.stand stands;
      low = (behind at next (image at) x h s.low s.high).0;
      high = (behind at next (image at) x h s.low s.high).1;
      few = elim (eqb x.flags 2) as (λ b. turns + cond b 1 0 ≤ 16) [ true ↦ omega arith | false ↦ omega arith ];
      last = elim (cases_Bool (eqb x.flags 2)) [
        | inl e ↦ rw e (λ _. omega arith)
        | inr e ↦ rw e (λ (sixteen : turns + 0 ≡ 16). absurd (omega arith))
      ];
      least = omega (arith, s.least);
      counted = elim (cases_Bool (eqb x.flags 2)) [
        | inl e ↦ rw e (omega (arith, s.counted))
        | inr e ↦ let inner : at % 32 ≢ 31 = not_last at next (image at) x h e in rw e (omega (arith, s.counted))
      ];
    }

-- a page that ends no group, and one that does
pub scanning_on : (image : Image) (page number : ℕ) (groups : List (List Entry)) (rest : List Entry) (keys : List (List ℕ)) (turns at next : ℕ) (x : LogPage)
    → IsScanning image page number groups rest keys turns at next → seen at next (image at) ≡ Holds x → Stands image at next x → turns < 16 → length (key_set keys x.entries) ≤ 2048 → x.flags ≢ 1
    → IsScanning image page number groups (rest ++ x.entries) (key_set keys x.entries) (turns + turns_of x.flags) (place_behind at x.flags) (next + 1)
scanning_on image page number groups rest keys turns at next x s h stands few less ne =
    let no : eqb x.flags 1 ≡ false = ne_eqb _ _ ne in
    let gs : groups ++ groups_from rest (x ∷ []) ≡ groups = rw no (append-nil groups) in
    let r : rest_from rest (x ∷ []) ≡ rest ++ x.entries = rw no refl in
    subst (λ (p : List (List Entry) × List Entry). IsScanning image page number p.0 p.1 (key_set keys x.entries) (turns + turns_of x.flags) (place_behind at x.flags) (next + 1)) (λ i. (gs i, r i)) (scanning_more image page number groups rest keys turns at next x s h stands few less)

pub scanning_group : (image : Image) (page number : ℕ) (groups : List (List Entry)) (rest : List Entry) (keys : List (List ℕ)) (turns at next : ℕ) (x : LogPage)
    → IsScanning image page number groups rest keys turns at next → seen at next (image at) ≡ Holds x → Stands image at next x → turns < 16 → length (key_set keys x.entries) ≤ 2048 → x.flags ≡ 1
    → IsScanning image page number (groups ++ (rest ++ x.entries) ∷ []) [] (key_set keys x.entries) (turns + turns_of x.flags) (place_behind at x.flags) (next + 1)
scanning_group image page number groups rest keys turns at next x s h stands few less one =
    let yes : eqb x.flags 1 ≡ true = eq-eqb _ _ one in
    let gs : groups ++ groups_from rest (x ∷ []) ≡ groups ++ (rest ++ x.entries) ∷ [] = rw yes refl in
    let r : rest_from rest (x ∷ []) ≡ [] = rw yes refl in
    subst (λ (p : List (List Entry) × List Entry). IsScanning image page number p.0 p.1 (key_set keys x.entries) (turns + turns_of x.flags) (place_behind at x.flags) (next + 1)) (λ i. (gs i, r i)) (scanning_more image page number groups rest keys turns at next x s h stands few less)

pub scanned : (image : Image) (page number : ℕ) (s : Scan) (rest : List Entry) (keys : List (List ℕ)) (turns at : ℕ) → IsScanning image page number s.groups rest keys turns at s.next_seq → seen at s.next_seq (image at) ≡ Ends → s.last_block ≡ at / 32 → number < 2 ^ 63 → IsScan image page number s
scanned image page number s rest keys turns at w ends block number_fits = record {
  rest = rest;
  turns = turns;
  end = at;
  log = record { pages = w.pages; path = w.path; stand = w.stand; ends = ends; groups_are = w.groups_are; rest_is = w.rest_is; turns_are = w.turns_are };
  allowed = w.allowed;
  groups = sym (groups_in_log image page number s.groups rest turns at s.next_seq (record { pages = w.pages; path = w.path; stand = w.stand; ends = ends; groups_are = w.groups_are; rest_is = w.rest_is; turns_are = w.turns_are }) (omega (arith, w.counted, w.few)));
  block = block;
  counted = sym (path_counts image page number w.pages at s.next_seq w.path);
}

-- ---- the page that a mount refuses

refused : (image : Image) (page number : ℕ) (groups : List (List Entry)) (rest : List Entry) (keys : List (List ℕ)) (turns at next : ℕ) (s : LogSeen)
    → (w : IsScanning image page number groups rest keys turns at next) → seen at next (image at) ≡ s → IsRefused (turn_count w.pages) w.pages s → IsDamaged image page number at
refused image page number groups rest keys turns at next s w h cause = record { pages = w.pages; next = next; path = w.path; before = w.allowed; cause = subst (λ (x : LogSeen). IsRefused (turn_count w.pages) w.pages x) (sym h) cause }

pub broken_refused : (image : Image) (page number : ℕ) (groups : List (List Entry)) (rest : List Entry) (keys : List (List ℕ)) (turns at next : ℕ)
    → IsScanning image page number groups rest keys turns at next → seen at next (image at) ≡ Broken → IsDamaged image page number at
broken_refused image page number groups rest keys turns at next w h = refused image page number groups rest keys turns at next Broken w h tt

pub blocks_refused : (image : Image) (page number : ℕ) (groups : List (List Entry)) (rest : List Entry) (keys : List (List ℕ)) (turns at next : ℕ) (x : LogPage)
    → IsScanning image page number groups rest keys turns at next → seen at next (image at) ≡ Holds x → 16 ≤ turns → IsDamaged image page number at
blocks_refused image page number groups rest keys turns at next x w h many = refused image page number groups rest keys turns at next (Holds x) w h (inl (omega (arith, w.turns_are)))

pub keys_refused : (image : Image) (page number : ℕ) (groups : List (List Entry)) (rest : List Entry) (keys : List (List ℕ)) (turns at next : ℕ) (x : LogPage)
    → IsScanning image page number groups rest keys turns at next → seen at next (image at) ≡ Holds x → 2048 < length (key_set keys x.entries) → IsDamaged image page number at
keys_refused image page number groups rest keys turns at next x w h many = refused image page number groups rest keys turns at next (Holds x) w h (inr (omega (arith, ap length (keys_more w.pages keys x w.keys_are))))

-- ---- how many pages were read

most : (seq number turns at : ℕ) → number ≤ seq + 32 * turns + at % 32 → turns ≤ 16 → (turns ≡ 16 → at % 32 ≡ 0) → number - seq + 1 ≤ 513
most seq number turns at counted few last = elim (cases_eq turns 16) [
  | inl e ↦ let first : at % 32 ≡ 0 = last e in omega arith
  | inr ne ↦ omega arith
]

pub reads_more : (old now new : Flash) (seq number : ℕ) → seq ≤ number → Works old now 0 (number - seq) → Works now new 0 1 → Works old new 0 (number - seq + 1)
reads_more old now new seq number least before works = works_then_works old now new 0 (number - seq) 0 1 before works

pub reads_stop : (old now new : Flash) (fault : FlashFault) (image : Image) (page seq : ℕ) (groups : List (List Entry)) (rest : List Entry) (keys : List (List ℕ)) (turns at number : ℕ)
    → IsScanning image page seq groups rest keys turns at number → Works old now 0 (number - seq) → Stops now fault new 0 1 → Stops old fault new 0 513
reads_stop old now new fault image page seq groups rest keys turns at number w before stops =
    stops_within old new fault (0 + 0) (number - seq + 1) 0 513 (works_then_stops old now new fault 0 (number - seq) 0 1 before stops) (omega arith) (most seq number turns at w.counted w.few w.last)

pub reads_done : (old now new : Flash) (image : Image) (page seq : ℕ) (groups : List (List Entry)) (rest : List Entry) (keys : List (List ℕ)) (turns at number : ℕ)
    → IsScanning image page seq groups rest keys turns at number → Works old now 0 (number - seq) → Works now new 0 1 → Works old new 0 513
reads_done old now new image page seq groups rest keys turns at number w before works =
    works_within old new (0 + 0) (number - seq + 1) 0 513 (works_then_works old now new 0 (number - seq) 0 1 before works) (omega arith) (most seq number turns at w.counted w.few w.last)
