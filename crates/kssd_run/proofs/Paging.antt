-- Entries by rising keys, page by page.
use Rattle.std.proofs.Common.{◌≡◌, ◌≢◌, ◌∙◌, ℕ, zero, suc, ◌-◌, ◌<◌, ◌≤◌, Bool, true, false, cond, not, List, [], ◌∷◌, ◌++◌, length, get_or, Option, Some, None, refl, sym, ap, subst, arith, inl, inr}
use Rattle.std.specs.List.{list_all}
use Rattle.std.specs.Ordering.{is_le, is_lt}
use Rattle.std.specs.declared.cmp.Ordering.{Ordering}
use Rattle.std.specs.declared.cmp.Ordering.TheVariants.{Less, Equal, Greater}
use Rattle.std.proofs.lemmas.Bool.{and_parts, and_from, cases_lt, true≢false, false≢true}
use Rattle.std.proofs.lemmas.List.{nil_from_length, get_or_default}
use Rattle.kssd_entry.specs.declared.entry.Entry.{Entry}
use Rattle.kssd_entry.specs.Spelling.{key_of}
use Rattle.kssd_model.specs.Rising.{key_cmp, is_below, is_rising, find_entry, entries_from, first_of}
use Rattle.kssd_model.specs.RunPages.{joined, first_key}
use Rattle.kssd_model.proofs.RisingEntries.{is_above_all, above_first, above_split, find_above, find-append, has_no_key, turned}
use Rattle.kssd_run.specs.Index.{IsPageOfKey, RisingKeys}
use Rattle.kssd_run.specs.Pages.{rest_before, GivesFrom}
use Rattle.kssd_run.proofs.Keys.{below_upto}
use Rattle.kssd_run.proofs.GoingOn.{rising_first, rising_second}

-- ---- lists on one side of a key

abbrev is_below_all : List ℕ → List Entry → Bool
is_below_all key xs = list_all (is_below key) xs

less : (o : Ordering) → is_lt o ≡ true → o ≡ Less
less Less h = refl
less Equal h = absurd (false≢true h)
less Greater h = absurd (false≢true h)

greater : (o : Ordering) → is_le o ≡ false → o ≡ Greater
greater Less h = absurd (true≢false h)
greater Equal h = absurd (true≢false h)
greater Greater h = refl

pub below_rising : (xs ys : List Entry) → is_rising (xs ++ ys) ≡ true → 0 < length ys → is_below_all (first_key ys) xs ≡ true
below_rising xs [] h some = absurd (omega arith)
below_rising [] (y ∷ ys) h some = refl
below_rising (x ∷ xs) (y ∷ ys) h some =
    let p = and_parts _ _ h in
    and_from _ _ (and_parts _ _ (above_split (key_of x) xs (y ∷ ys) p.0).1).0 (below_rising xs (y ∷ ys) p.1 some)

below_find : (b key : List ℕ) (xs : List Entry) → is_below_all b xs ≡ true → is_le (key_cmp b key) ≡ true → find_entry xs key ≡ None
below_find b key [] h le = refl
below_find b key (x ∷ xs) h le =
    let p = and_parts _ _ h in
    ap (λ t. cond t (Some x) (find_entry xs key)) (has_no_key key x Less (below_upto (key_of x) b key (less _ p.0) le) refl)
    ∙ below_find b key xs p.1 le

pub below_from : (b key : List ℕ) (xs : List Entry) → is_below_all b xs ≡ true → is_le (key_cmp b key) ≡ true → entries_from xs key ≡ []
below_from b key [] h le = refl
below_from b key (x ∷ xs) h le =
    let p = and_parts _ _ h in
    ap (λ t. cond (not t) (x ∷ entries_from xs key) (entries_from xs key)) (ap is_lt (below_upto (key_of x) b key (less _ p.0) le))
    ∙ below_from b key xs p.1 le

pub above_from : (key : List ℕ) (xs : List Entry) → is_above_all key xs ≡ true → entries_from xs key ≡ xs
above_from key [] h = refl
above_from key (x ∷ xs) h =
    let p = and_parts _ _ h in
    ap (λ t. cond (not t) (x ∷ entries_from xs key) (entries_from xs key)) (ap is_lt (turned key (key_of x) Less (less _ p.0)))
    ∙ ap (λ (t : List Entry). x ∷ t) (above_from key xs p.1)

pub above_head : (key : List ℕ) (xs : List Entry) → is_rising xs ≡ true → 0 < length xs → is_le (key_cmp (first_key xs) key) ≡ false → is_above_all key xs ≡ true
above_head key [] h some gt = absurd (omega arith)
above_head key (x ∷ xs) h some gt = above_first key x xs h (turned (key_of x) key Greater (greater _ gt))

-- ---- pages

-- each of so many pages has entries, and the keys rise over all
pub record ArePages (page : ℕ → List Entry) (n : ℕ) : Type 0 where
  pub filled : (i : ℕ) → i < n → 0 < length (page i)
  pub rising : is_rising (joined page n) ≡ true

pub fewer : (page : ℕ → List Entry) (n : ℕ) → ArePages page (suc n) → ArePages page n
fewer page n h = record { filled = λ i lt. h.filled i (omega arith); rising = rising_first (joined page n) (page n) h.rising }

pub first_pages : (page : ℕ → List Entry) (n m : ℕ) → m ≤ n → ArePages page n → ArePages page m
first_pages page zero m le h = let e : 0 ≡ m = omega arith in subst (ArePages page) e h
first_pages page (suc n) m le h =
    elim (cases_lt n m) [
      | inl lt ↦ let e : suc n ≡ m = omega arith in subst (ArePages page) e h
      | inr more ↦ first_pages page n m more (fewer page n h)
    ]

pub page_rises : (page : ℕ → List Entry) (n i : ℕ) → i < n → ArePages page n → is_rising (page i) ≡ true
page_rises page n i lt h = rising_second (joined page i) (page i) (first_pages page n (suc i) (omega arith) h).rising

below_split : (b : List ℕ) (xs ys : List Entry) → is_below_all b (xs ++ ys) ≡ true → (is_below_all b xs ≡ true) × (is_below_all b ys ≡ true)
below_split b [] ys h = (refl, h)
below_split b (x ∷ xs) ys h =
    let p = and_parts _ _ h in
    let rest = below_split b xs ys p.1 in
    (and_from _ _ p.0 rest.0, rest.1)

below_in : (page : ℕ → List Entry) (b : List ℕ) (j i : ℕ) → i < j → is_below_all b (joined page j) ≡ true → is_below_all b (page i) ≡ true
below_in page b zero i lt h = absurd (omega arith)
below_in page b (suc j) i lt h =
    let p = below_split b (joined page j) (page j) h in
    elim (cases_lt i j) [
      | inl less_i ↦ below_in page b j i less_i p.0
      | inr same ↦ let e : j ≡ i = omega arith in subst (λ (k : ℕ). is_below_all b (page k) ≡ true) e p.1
    ]

-- a page is below the first key of each later one
page_below : (page : ℕ → List Entry) (n i j : ℕ) → i < j → j < n → ArePages page n → is_below_all (first_key (page j)) (page i) ≡ true
page_below page n i j lt within h =
    let upto = first_pages page n (suc j) (omega arith) h in
    below_in page (first_key (page j)) j i lt (below_rising (joined page j) (page j) upto.rising (upto.filled j (omega arith)))

head_below : (b : List ℕ) (xs : List Entry) → 0 < length xs → is_below_all b xs ≡ true → is_lt (key_cmp (first_key xs) b) ≡ true
head_below b [] some h = absurd (omega arith)
head_below b (x ∷ xs) some h = (and_parts _ _ h).0

-- the first keys of the pages rise
pub first_keys_rise : (page : ℕ → List Entry) (n : ℕ) (firsts : List (List ℕ)) → ArePages page n → length firsts ≡ n → ((i : ℕ) → i < n → get_or firsts i [] ≡ first_key (page i)) → RisingKeys firsts
first_keys_rise page n firsts h len are i j d lt within =
    ap is_lt (λ t. key_cmp (key i (omega arith) t) (key j (omega arith) t))
    ∙ head_below (first_key (page j)) (page i) (h.filled i (omega arith)) (page_below page n i j lt (omega arith) h)
  where
    key : (k : ℕ) → k < n → get_or firsts k d ≡ first_key (page k)
    key k lt = get_or_default firsts k d [] (omega arith) ∙ are k lt

-- the first keys of the pages before k are at most the key, the others above it
pub record IsPageBehind (page : ℕ → List Entry) (n : ℕ) (key : List ℕ) (k : ℕ) : Type 0 where
  pub within : k ≤ n
  pub upto : (i : ℕ) → i < k → is_le (key_cmp (first_key (page i)) key) ≡ true
  pub above : (i : ℕ) → k ≤ i → i < n → is_le (key_cmp (first_key (page i)) key) ≡ false

pub page_behind : (page : ℕ → List Entry) (n : ℕ) (firsts : List (List ℕ)) (key : List ℕ) (k : ℕ) → length firsts ≡ n → ((i : ℕ) → i < n → get_or firsts i [] ≡ first_key (page i)) → IsPageOfKey firsts key k → IsPageBehind page n key k
page_behind page n firsts key k len are h = record {
  within = omega (arith, h.within);
  upto = λ i lt. ap (λ (q : List ℕ). is_le (key_cmp q key)) (sym (are i (omega (arith, h.within)))) ∙ h.upto i [] lt;
  above = λ i le lt. ap (λ (q : List ℕ). is_le (key_cmp q key)) (sym (are i lt)) ∙ h.above i [] le (omega arith);
}

-- the entry of a key in the page before k
abbrev pub in_page_before : (ℕ → List Entry) → ℕ → List ℕ → Option Entry
in_page_before page zero key = None
in_page_before page (suc i) key = find_entry (page i) key

alone : (o : Option Entry) → first_of o None ≡ o
alone None = refl
alone (Some e) = refl

-- a key is in no other page
pub find-joined : (page : ℕ → List Entry) (n k : ℕ) (key : List ℕ) → ArePages page n → IsPageBehind page n key k → find_entry (joined page n) key ≡ in_page_before page k key
find-joined page zero zero key h b = refl
find-joined page zero (suc k) key h b = absurd (omega (arith, b.within))
find-joined page (suc n) k key h b =
    find-append (joined page n) (page n) key
    ∙ elim (cases_lt n k) [
      | inl lt ↦
          let e : suc n ≡ k = omega (arith, b.within) in
          let none : find_entry (joined page n) key ≡ None = below_find (first_key (page n)) key (joined page n) (below_rising (joined page n) (page n) h.rising (h.filled n (omega arith))) (b.upto n (omega arith)) in
          ap (λ (o : Option Entry). first_of o (find_entry (page n) key)) none ∙ ap (λ (m : ℕ). in_page_before page m key) e
      | inr le ↦
          let none : find_entry (page n) key ≡ None = find_above key (page n) (above_head key (page n) (rising_second (joined page n) (page n) h.rising) (h.filled n (omega arith)) (b.above n le (omega arith))) in
          ap (first_of (find_entry (joined page n) key)) none ∙ alone (find_entry (joined page n) key)
          ∙ find-joined page n k key (fewer page n h) (record { within = le; upto = b.upto; above = λ i low lt. b.above i low (omega arith) })
    ]

-- pages before the one before k have no entry from the key on
earlier_none : (page : ℕ → List Entry) (n k : ℕ) (key : List ℕ) → ArePages page n → IsPageBehind page n key (suc k) → (j : ℕ) → j < k → entries_from (page j) key ≡ []
earlier_none page n k key h b j lt = below_from (first_key (page k)) key (page j) (page_below page n j k lt (omega (arith, b.within)) h) (b.upto k (omega arith))

not_nil : (xs : List Entry) → 0 < length xs → xs ≢ []
not_nil xs some e = omega (arith, ap length e)

-- entries from the key on in the page before k
pub gives_rest : (page : ℕ → List Entry) (n k : ℕ) (key : List ℕ) (rest : List Entry) → ArePages page n → IsPageBehind page n key k → rest ≡ rest_before page k key → 0 < length rest → GivesFrom page n key rest
gives_rest page n zero key rest h b is some = absurd (omega (arith, ap length is))
gives_rest page n (suc k) key rest h b is some = inl (k, record { within = omega (arith, b.within); earlier = earlier_none page n k key h b; some = not_nil rest some; are = is })

before_none : (page : ℕ → List Entry) (n k : ℕ) (key : List ℕ) → ArePages page n → IsPageBehind page n key k → rest_before page k key ≡ [] → (j : ℕ) → j < k → entries_from (page j) key ≡ []
before_none page n zero key h b none j lt = absurd (omega arith)
before_none page n (suc k) key h b none j lt =
    elim (cases_lt j k) [
      | inl less_j ↦ earlier_none page n k key h b j less_j
      | inr same ↦ let e : k ≡ j = omega arith in subst (λ (m : ℕ). entries_from (page m) key ≡ []) e none
    ]

-- none is left
pub gives_nothing : (page : ℕ → List Entry) (n k : ℕ) (key : List ℕ) (rest : List Entry) → ArePages page n → IsPageBehind page n key k → rest ≡ rest_before page k key → length rest ≡ 0 → n ≤ k → GivesFrom page n key rest
gives_nothing page n k key rest h b is none all =
    let nil : rest ≡ [] = nil_from_length rest none in
    inr (nil, λ j lt. before_none page n k key h b (sym is ∙ nil) j (omega arith))

-- all of page k
pub gives_page : (page : ℕ → List Entry) (n k : ℕ) (key : List ℕ) (rest found : List Entry) → ArePages page n → IsPageBehind page n key k → rest ≡ rest_before page k key → length rest ≡ 0 → k < n → found ≡ page k → GivesFrom page n key found
gives_page page n k key rest found h b is none lt found_is = inl (
  k,
  record {
    within = lt;
    earlier = before_none page n k key h b (sym is ∙ nil_from_length rest none);
    some = not_nil found (omega (arith, ap length found_is, h.filled k lt));
    are = found_is ∙ sym (above_from key (page k) (above_head key (page k) (page_rises page n k lt h) (h.filled k lt) (b.above k (omega arith) lt)));
  },
)

pub in_page_pred : (page : ℕ → List Entry) (k : ℕ) (key : List ℕ) → 0 < k → find_entry (page (k - 1)) key ≡ in_page_before page k key
in_page_pred page zero key pos = absurd (omega arith)
in_page_pred page (suc k) key pos = let e : suc k - 1 ≡ k = omega arith in ap (λ (i : ℕ). find_entry (page i) key) e
