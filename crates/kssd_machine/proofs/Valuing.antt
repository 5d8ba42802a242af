-- The pages that changes name hold their values.
use Rattle.std.proofs.Common.{◌≡◌, ◌∙◌, ℕ, ◌/◌, Bool, true, cond, ◌&&◌, List, [], ◌∷◌, length, map, Some, None, unwrap_or, refl, sym, ap, inl, inr}
use Rattle.std.specs.List.{list_all}
use Rattle.std.specs.Ordering.{is_lt}
use Rattle.std.proofs.lemmas.Bool.{and_parts, and_from, le-leb, lt-ltb, eq-eqb, ne_eqb, cases_eq}
use Rattle.kv_nand.specs.Flash.{Image}
use Rattle.kssd_entry.specs.declared.entry.Entry.{Entry}
use Rattle.kssd_entry.specs.declared.entry.Entry.TheVariants.{Put, At, Gone}
use Rattle.kssd_entry.specs.Spelling.{key_of}
use Rattle.kssd_model.specs.Rising.{key_cmp, is_rising, by_order, put_entry}
use Rattle.std.specs.declared.cmp.Ordering.{Ordering}
use Rattle.std.specs.declared.cmp.Ordering.TheVariants.{Less, Equal, Greater}
use Rattle.kssd_image.specs.ValuePages.{HoldsValue, has_value}
use Rattle.kssd_image.proofs.ValuePages.{holds_again}
use Rattle.kssd_image.specs.Whole.{is_value_block, has_its_value}
use Rattle.kssd_tx.specs.Lists.{Transactions, changes_of, with_list, repointed, all_repointed}
use Rattle.kssd_values.specs.Places.{IsValueBlock}
use Rattle.kssd_machine.specs.Names.{are_rising, are_valued}
use Rattle.kssd_machine.specs.Calling.{with_entry}
use Rattle.kssd_machine.proofs.Naming.{all_set}
use Rattle.kssd_machine.proofs.Seeing.{list_valued}

pub holds : (blocks : ℕ) (image : Image) (key value : List ℕ) (page : ℕ) → IsValueBlock blocks (page / 32) → HoldsValue key value (image page) → has_its_value blocks image (At key page (length value)) ≡ true
holds blocks image key value page place held = and_from _ _ (and_from _ _ (le-leb _ _ place.first) (lt-ltb _ _ place.last)) (holds_again key value (image page) held).0

put_passes : (p : Entry → Bool) (xs : List Entry) (e : Entry) → list_all p xs ≡ true → p e ≡ true → list_all p (put_entry xs e) ≡ true
put_passes p [] e all is = and_from _ _ is refl
put_passes p (x ∷ xs) e all is =
    let both = and_parts _ _ all in
    by (key_cmp (key_of e) (key_of x)) (put_passes p xs e both.1 is)
  where
    by : (o : Ordering) → list_all p (put_entry xs e) ≡ true → list_all p (by_order o (e ∷ x ∷ xs) (e ∷ xs) (x ∷ put_entry xs e)) ≡ true
    by Less rest = and_from _ _ is all
    by Equal rest = and_from _ _ is (and_parts (p x) (list_all p xs) all).1
    by Greater rest = and_from _ _ (and_parts (p x) (list_all p xs) all).0 rest

pub valued_begun : (blocks : ℕ) (image : Image) (lists : Transactions) (tx : ℕ) → are_valued blocks image lists ≡ true → are_valued blocks image (with_list lists tx (Some [])) ≡ true
valued_begun blocks image lists tx valued = all_set (λ t. list_all (has_its_value blocks image) (unwrap_or t [])) lists tx (Some []) valued refl

pub valued_closed : (blocks : ℕ) (image : Image) (lists : Transactions) (tx : ℕ) → are_valued blocks image lists ≡ true → are_valued blocks image (with_list lists tx None) ≡ true
valued_closed blocks image lists tx valued = all_set (λ t. list_all (has_its_value blocks image) (unwrap_or t [])) lists tx None valued refl

pub valued_with : (blocks : ℕ) (image : Image) (lists : Transactions) (tx : ℕ) (entry : Entry) → are_valued blocks image lists ≡ true → has_its_value blocks image entry ≡ true → are_valued blocks image (with_entry lists tx entry) ≡ true
valued_with blocks image lists tx entry valued is = all_set (λ t. list_all (has_its_value blocks image) (unwrap_or t [])) lists tx (Some (put_entry (changes_of lists tx) entry)) valued
    (put_passes (has_its_value blocks image) (changes_of lists tx) entry (list_valued blocks image lists tx valued) is)

entry_repointed : (blocks : ℕ) (image : Image) (page other : ℕ) (e : Entry) → IsValueBlock blocks (other / 32) → image other ≡ image page → has_its_value blocks image e ≡ true → has_its_value blocks image (repointed page other e) ≡ true
entry_repointed blocks image page other (Put key value) place same valued = refl
entry_repointed blocks image page other (Gone key) place same valued = refl
entry_repointed blocks image page other (At key at size) place same valued = elim (cases_eq at page) [
  | inl here ↦
      let held = (and_parts (is_value_block blocks (at / 32)) (has_value key size (image at)) valued).1 in
      ap (λ b. has_its_value blocks image (At key (cond b other at) size)) (eq-eqb at page here)
      ∙ and_from _ _ (and_from _ _ (le-leb _ _ place.first) (lt-ltb _ _ place.last)) (ap (has_value key size) (same ∙ ap image (sym here)) ∙ held)
  | inr away ↦ ap (λ b. has_its_value blocks image (At key (cond b other at) size)) (ne_eqb at page away) ∙ valued
]

list_repointed : (blocks : ℕ) (image : Image) (page other : ℕ) (es : List Entry) → IsValueBlock blocks (other / 32) → image other ≡ image page → list_all (has_its_value blocks image) es ≡ true → list_all (has_its_value blocks image) (map (repointed page other) es) ≡ true
list_repointed blocks image page other [] place same valued = refl
list_repointed blocks image page other (e ∷ es) place same valued =
    let both = and_parts _ _ valued in
    and_from _ _ (entry_repointed blocks image page other e place same both.0) (list_repointed blocks image page other es place same both.1)

pub valued_repointed : (blocks : ℕ) (image : Image) (lists : Transactions) (page other : ℕ) → are_valued blocks image lists ≡ true → IsValueBlock blocks (other / 32) → image other ≡ image page → are_valued blocks image (all_repointed page other lists) ≡ true
valued_repointed blocks image [] page other valued place same = refl
valued_repointed blocks image (None ∷ ts) page other valued place same = valued_repointed blocks image ts page other valued place same
valued_repointed blocks image (Some es ∷ ts) page other valued place same =
    let both = and_parts (list_all (has_its_value blocks image) es) (are_valued blocks image ts) valued in
    and_from _ _ (list_repointed blocks image page other es place same both.0) (valued_repointed blocks image ts page other both.1 place same)

key_repointed : (page other : ℕ) (e : Entry) → key_of (repointed page other e) ≡ key_of e
key_repointed page other (Put key value) = refl
key_repointed page other (At key at size) = refl
key_repointed page other (Gone key) = refl

above_repointed : (page other : ℕ) (key : List ℕ) (xs : List Entry) → list_all (λ f. is_lt (key_cmp key (key_of f))) (map (repointed page other) xs) ≡ list_all (λ f. is_lt (key_cmp key (key_of f))) xs
above_repointed page other key [] = refl
above_repointed page other key (x ∷ xs) = λ i. is_lt (key_cmp key (key_repointed page other x i)) && above_repointed page other key xs i

rises_repointed : (page other : ℕ) (xs : List Entry) → is_rising (map (repointed page other) xs) ≡ is_rising xs
rises_repointed page other [] = refl
rises_repointed page other (x ∷ xs) =
    (λ i. list_all (λ f. is_lt (key_cmp (key_repointed page other x i) (key_of f))) (map (repointed page other) xs) && rises_repointed page other xs i)
    ∙ ap (λ (b : Bool). b && is_rising xs) (above_repointed page other (key_of x) xs)

pub rising_repointed : (lists : Transactions) (page other : ℕ) → are_rising lists ≡ true → are_rising (all_repointed page other lists) ≡ true
rising_repointed [] page other rising = refl
rising_repointed (None ∷ ts) page other rising = rising_repointed ts page other rising
rising_repointed (Some es ∷ ts) page other rising =
    let both = and_parts (is_rising es) (are_rising ts) rising in
    and_from _ _ (rises_repointed page other es ∙ both.0) (rising_repointed ts page other both.1)
