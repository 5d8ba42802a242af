-- Keys and values stay such as can be held.
use Rattle.std.proofs.Common.{◌≡◌, ◌∙◌, ℕ, sym, refl, subst, List, Option, Some, None, cond, Result, Ok, Err, OnOk, OnErr}
use Rattle.std.specs.Option.{ForSome}
use Rattle.std.specs.Ordering.{is_eq}
use Rattle.std.specs.declared.cmp.Ordering.{Ordering}
use Rattle.std.specs.declared.cmp.Ordering.TheVariants.{Less, Equal, Greater}
use Rattle.std.specs.Cmp.Lexicographic.{nat_list_cmp_total}
use Rattle.std.specs.FinMap as objects
use Rattle.kv_device.specs.Bytes.{bytes_cmp}
use Rattle.kv_device.specs.Objects.{Objects, Changes, seen_through, IsHeldKey, IsHeldValue, AreHeld, AreHeldChanges}
use Rattle.kv_device.proofs.KeyMapLaws.{same_keys}
use Rattle.kv_device.proofs.MachineLaws.{get-seen_through, over}

-- nothing is there
pub none_held : (m : Objects) → m ≡ objects.empty → AreHeld m
none_held m none key value there =
    let same : Some value ≡ None = sym there ∙ (λ i. objects.get (none i) key) ∙ objects.get-empty bytes_cmp key in
    absurd cc

pub no_changes_held : (changes : Changes) → changes ≡ objects.empty → AreHeldChanges changes
no_changes_held changes none key change there =
    let same : Some change ≡ None = sym there ∙ (λ i. objects.get (none i) key) ∙ objects.get-empty bytes_cmp key in
    absurd cc

-- one more change
pub held-insert : (old new : Changes) (key : List ℕ) (change : Option (List ℕ)) → new ≡ objects.insert old key change → AreHeldChanges old → IsHeldKey key → ForSome change IsHeldValue → AreHeldChanges new
held-insert old new key change is held good_key good_value q x there =
    by (bytes_cmp q key) refl (sym (objects.get-insert nat_list_cmp_total old key change q) ∙ (λ i. objects.get (sym is i) q) ∙ there)
  where
    by : (o : Ordering) → bytes_cmp q key ≡ o → cond (is_eq o) (Some change) (objects.get old q) ≡ Some x → IsHeldKey q × ForSome x IsHeldValue
    by Less e h = held q x h
    by Greater e h = held q x h
    by Equal e h =
        let same : change ≡ x = cc in
        (subst IsHeldKey (sym (same_keys q key e)) good_key, subst (λ o. ForSome o IsHeldValue) same good_value)

-- the changes are made
pub held-seen_through : (changes : Changes) (old new : Objects) → new ≡ seen_through changes old → AreHeldChanges changes → AreHeld old → AreHeld new
held-seen_through changes old new is made held key value there =
    by (objects.get changes key) refl (sym (get-seen_through changes old key) ∙ (λ i. objects.get (sym is i) key) ∙ there)
  where
    by : (change : Option (Option (List ℕ))) → objects.get changes key ≡ change → over change (objects.get old key) ≡ Some value → IsHeldKey key × IsHeldValue value
    by None e h = held key value h
    by (Some change) e h = ((made key change e).0, (made key change e).1 value h)

-- the same after a call that may have failed
pub held-inserted : {A E : Type 0} (r : Result A E) (old new : Changes) (key : List ℕ) (change : Option (List ℕ)) → OnOk r (new ≡ objects.insert old key change) → OnErr r (new ≡ old)
    → AreHeldChanges old → IsHeldKey key → ForSome change IsHeldValue → AreHeldChanges new
held-inserted (Ok a) old new key change ok err held good_key good_value = held-insert old new key change ok held good_key good_value
held-inserted (Err e) old new key change ok err held good_key good_value = subst AreHeldChanges (sym err) held

pub held_same : (old new : Objects) → new ≡ old → AreHeld old → AreHeld new
held_same old new same held = subst AreHeld (sym same) held
