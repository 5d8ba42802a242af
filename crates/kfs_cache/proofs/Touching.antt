-- Which keys are touched.
use Rattle.std.proofs.Common.{◌≡◌, ℕ, ◌||◌, Bool, true, false, cond, refl, ◌∙◌, sym, ap, List, Some, is_some}
use Rattle.std.specs.Ordering.{eq_by_cmp}
use Rattle.std.specs.Cmp.Lexicographic.{bytes_decides, texts_ties, nat_list_cmp_total}
use Rattle.std.specs.FinMap as objects
use Rattle.kv_device.specs.Bytes.{bytes_cmp}

itself : (key : List ℕ) → eq_by_cmp bytes_cmp key key ≡ true
itself key = sym (texts_ties key key) ∙ (bytes_decides key key).1 refl

or_true : (b : Bool) → (b || true) ≡ true
or_true true = refl
or_true false = refl

module _ {X : Type 0} where
  pub none_has : (m : objects.FinMap bytes_cmp X) → m ≡ objects.empty → (key : List ℕ) → objects.contains_key m key ≡ false
  none_has m none key = ap (λ n. objects.contains_key n key) none ∙ ap is_some (objects.get-empty {X = X} bytes_cmp key)

  -- a key put is there
  pub put_has : (all : Bool) (m n : objects.FinMap bytes_cmp X) (k key : List ℕ) (v : X) → n ≡ objects.insert m k v → k ≡ key → (all || objects.contains_key n key) ≡ true
  put_has all m n k key v is name =
      (λ i. all || objects.contains_key (is i) (sym name i))
      ∙ ap (λ o. all || is_some o) (objects.get-insert nat_list_cmp_total m k v k ∙ ap (λ b. cond b (Some v) (objects.get m k)) (itself k))
      ∙ or_true all

  more : (all : Bool) (b : Bool) (v : X) (m : objects.FinMap bytes_cmp X) (q : List ℕ) → (all || objects.contains_key m q) ≡ true → (all || is_some (cond b (Some v) (objects.get m q))) ≡ true
  more all true v m q h = or_true all
  more all false v m q h = h

  -- and what was there is there
  pub put_keeps : (all : Bool) (m n : objects.FinMap bytes_cmp X) (k q : List ℕ) (v : X) → n ≡ objects.insert m k v → (all || objects.contains_key m q) ≡ true → (all || objects.contains_key n q) ≡ true
  put_keeps all m n k q v is h = ap (λ o. all || objects.contains_key o q) is ∙ ap (λ o. all || is_some o) (objects.get-insert nat_list_cmp_total m k v q) ∙ more all (eq_by_cmp bytes_cmp q k) v m q h
