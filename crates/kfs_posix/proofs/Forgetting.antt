-- The open files of a node that lost its name, one number after another.
use Rattle.std.proofs.Common.{◌≡◌, ◌≢◌, ℕ, ◌≤◌, ◌+◌, ◌||◌, inl, inr, true, false, cond, Bool, refl, sym, ◌∙◌, ap, subst, arith, List, [], ◌∷◌, T, Option, Some, None, nat_lt}
use Rattle.std.specs.Ordering.{nat_cmp}
use Rattle.std.specs.List.{list_any}
use Rattle.std.specs.Option.{option_map}
use Rattle.std.specs.FinMap.{find, put, is_sorted}
use Rattle.std.specs.Cmp.{nat_cmp_total}
use Rattle.std.specs.FinMap.Entries.{is_sorted-put}
use Rattle.std.proofs.lemmas.Bool.Decides.{nat_tests}
use Rattle.kfs_laws.proofs.Lookups.{same_numbers, number_put, number_other, decide_number}
use Rattle.kfs_posix.specs.declared.open_files.OpenFile.{OpenFile}
use Rattle.kfs_posix.specs.Opens.{Opens, with_file, unnamed, without_name}
use Rattle.kfs_posix.proofs.Maps.{mapped, find-map}
use Rattle.kfs_posix.proofs.Unnaming.{sorted_mapped}

-- what a description becomes, where its number was passed
abbrev pub after : ℕ → Bool → Option OpenFile → Option OpenFile
after node passed x = cond passed (option_map (λ f. unnamed f node) x) x

-- the numbers below n were passed, and no number from end on has a description
pub record Forgot (node end n : ℕ) (was now : Opens) : Type 0 where
  pub descriptors : now.descriptors ≡ was.descriptors
  pub sorted : T (is_sorted nat_cmp now.files)
  pub same : (d : ℕ) → find nat_cmp d now.files ≡ after node (nat_lt d n) (find nat_cmp d was.files)
  pub bound : (d : ℕ) → end ≤ d → find nat_cmp d was.files ≡ None
  pub sorted_before : T (is_sorted nat_cmp was.files)

pub forgot_none : (node end : ℕ) (was : Opens) → T (is_sorted nat_cmp was.files) → ((d : ℕ) → end ≤ d → find nat_cmp d was.files ≡ None) → Forgot node end 0 was was
forgot_none node end was sorted bound = record {
  descriptors = refl;
  sorted = sorted;
  same = λ d. let t : nat_lt d 0 ≡ false = grind (arith, nat_tests) in ap (λ b. after node b (find nat_cmp d was.files)) (sym t);
  bound = bound;
  sorted_before = sorted;
}

passed : (d n : ℕ) → d ≢ n → nat_lt d (n + 1) ≡ nat_lt d n
passed d n apart = by (nat_lt d n) refl
  where
    by : (b : Bool) → nat_lt d n ≡ b → nat_lt d (n + 1) ≡ b
    by true e = grind (arith, nat_tests)
    by false e = grind (arith, nat_tests)

pub forgot_one : (node end n : ℕ) (was mid now : Opens) (f : OpenFile) → Forgot node end n was mid → find nat_cmp n mid.files ≡ Some f → now ≡ with_file mid n (unnamed f node) → Forgot node end (n + 1) was now
forgot_one node end n was mid now f h at is = subst (Forgot node end (n + 1) was) (sym is) (record {
  descriptors = h.descriptors;
  sorted = is_sorted-put nat_cmp nat_cmp_total n (unnamed f node) mid.files h.sorted;
  same = λ d. elim (decide_number d n) [
    | inl e ↦
        let here : nat_lt d n ≡ false = grind (arith, nat_tests) in
        let there : nat_lt d (n + 1) ≡ true = grind (arith, nat_tests) in
        let before : find nat_cmp d was.files ≡ Some f = sym (h.same d ∙ ap (λ b. after node b (find nat_cmp d was.files)) here) ∙ ap (λ k. find nat_cmp k mid.files) e ∙ at in
        ap (λ k. find nat_cmp k (put nat_cmp n (unnamed f node) mid.files)) e ∙ number_put n (unnamed f node) mid.files
        ∙ sym (ap (λ b. after node b (find nat_cmp d was.files)) there ∙ ap (option_map (λ g. unnamed g node)) before)
    | inr apart ↦ number_other d n (unnamed f node) mid.files apart ∙ h.same d ∙ ap (λ b. after node b (find nat_cmp d was.files)) (sym (passed d n apart))
  ];
  bound = h.bound;
  sorted_before = h.sorted_before;
})

pub forgot_past : (node end n : ℕ) (was mid : Opens) → Forgot node end n was mid → find nat_cmp n mid.files ≡ None → Forgot node end (n + 1) was mid
forgot_past node end n was mid h at = record {
  descriptors = h.descriptors;
  sorted = h.sorted;
  same = λ d. elim (decide_number d n) [
    | inl e ↦
        let here : nat_lt d n ≡ false = grind (arith, nat_tests) in
        let there : nat_lt d (n + 1) ≡ true = grind (arith, nat_tests) in
        let before : find nat_cmp d was.files ≡ None = sym (h.same d ∙ ap (λ b. after node b (find nat_cmp d was.files)) here) ∙ ap (λ k. find nat_cmp k mid.files) e ∙ at in
        ap (λ k. find nat_cmp k mid.files) e ∙ at ∙ sym (ap (λ b. after node b (find nat_cmp d was.files)) there ∙ ap (option_map (λ g. unnamed g node)) before)
    | inr apart ↦ h.same d ∙ ap (λ b. after node b (find nat_cmp d was.files)) (sym (passed d n apart))
  ];
  bound = h.bound;
  sorted_before = h.sorted_before;
}

pub forgot_all : (node end : ℕ) (was now : Opens) → Forgot node end end was now → now ≡ without_name was node
forgot_all node end was now h =
    let files : now.files ≡ mapped (λ f. unnamed f node) was.files =
    same_numbers now.files (mapped (λ f. unnamed f node) was.files) h.sorted (subst T (sym (sorted_mapped (λ f. unnamed f node) was.files)) h.sorted_before) (λ d.
    h.same d ∙ by d (nat_lt d end) refl ∙ sym (find-map (λ f. unnamed f node) d was.files)) in
    λ i. record { descriptors = h.descriptors i; files = files i }
  where
    by : (d : ℕ) (b : Bool) → nat_lt d end ≡ b → after node b (find nat_cmp d was.files) ≡ option_map (λ f. unnamed f node) (find nat_cmp d was.files)
    by d true e = refl
    by d false e = let le : end ≤ d = grind (arith, nat_tests) in h.bound d le ∙ sym (ap (option_map (λ f. unnamed f node)) (h.bound d le))

-- a test on the values alone
pub any_mapped : {A B : Type 0} (f : A → B) (p : B → Bool) (es : List (ℕ × A)) → list_any (λ e. p e.1) (mapped f es) ≡ list_any (λ e. p (f e.1)) es
any_mapped f p [] = refl
any_mapped f p (x ∷ es) = ap (λ b. p (f x.1) || b) (any_mapped f p es)
