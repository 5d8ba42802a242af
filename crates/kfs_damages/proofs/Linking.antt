-- The entries among the objects, each read.
use Rattle.std.proofs.Common.{◌≡◌, ℕ, ◌<◌, ◌^◌, inl, inr, cond, T, refl, sym, ◌∙◌, arith, List, [], ◌∷◌, Option, Some, None}
use Rattle.std.specs.Ordering.{is_eq}
use Rattle.std.specs.declared.cmp.Ordering.{Ordering}
use Rattle.std.specs.declared.cmp.Ordering.TheVariants.{Less, Equal, Greater}
use Rattle.std.specs.Cmp.Lexicographic.{nat_list_cmp_total}
use Rattle.std.specs.FinMap as objects
use Rattle.std.specs.FinMap.{find, is_sorted}
use Rattle.kv_device.specs.Bytes.{bytes_cmp}
use Rattle.kv_device.specs.Objects.{Objects, IsHeld}
use Rattle.kfs_objects.specs.Keys.{entry_key, IsObjectKey, is_super, is_inode, is_entry, is_chunk, is_orphan}
use Rattle.kfs_model.specs.Tree.{Name, Limits}
use Rattle.kfs_shows.proofs.Lookups.{same_bytes}
use Rattle.kfs_shows.proofs.KeysApart.{kinds, same_parent, same_name}
use Rattle.kfs_damages.specs.Damages.{IsEntry, IsClear}
use Rattle.kfs_damages.proofs.Facts.{key_is, sound}
use Rattle.kfs_damages.proofs.Growing.{Link, Waits, Full, full}
use Rattle.kfs_damages.proofs.Sorted.{second_of, found_first, found_later}

abbrev with_link : {m : Objects} → Option (Link m) → List (Link m) → List (Link m)
with_link None ls = ls
with_link (Some l) ls = l ∷ ls

waits_still : (m : Objects) (o : Option (Link m)) (ls : List (Link m)) (p : ℕ) (x : Name) → Waits ls p x → Waits (with_link o ls) p x
waits_still m None ls p x h = h
waits_still m (Some l) ls p x h = inr h

-- each of these stands in the objects
abbrev AllHere : Objects → List (List ℕ × List ℕ) → Type 0
AllHere m [] = Unit {0}
AllHere m (e ∷ es) = (objects.get m e.0 ≡ Some e.1) × AllHere m es

all_here : (m : Objects) (es : List (List ℕ × List ℕ)) → T (is_sorted bytes_cmp es) → ((key value : List ℕ) → find bytes_cmp key es ≡ Some value → objects.get m key ≡ Some value) → AllHere m es
all_here m [] h f = tt
all_here m (x ∷ es) h f = (f x.0 x.1 (found_first nat_list_cmp_total same_bytes x es), all_here m es (second_of _ _ h) (λ key value e. f key value (found_later nat_list_cmp_total same_bytes x es h key value e)))

module _ (k : Limits) (m : Objects) (held : IsHeld m) (clear : IsClear k m) where
  abbrev link_of : (key value : List ℕ) → objects.get m key ≡ Some value → IsObjectKey key → Option (Link m)
  link_of key value e is_super = None
  link_of key value e (is_inode n lt) = None
  link_of key value e (is_entry p x lt short) =
      let entry : IsEntry m p x value = record { low = lt; short = short; there = e } in
      let s = sound k m held clear p x value entry in
      Some (record { parent = p; name = x; value = value; node = s.node; entry = entry; reads = s.reads })
  link_of key value e (is_chunk n c lt lc) = None
  link_of key value e (is_orphan n lt) = None

  abbrev links : (es : List (List ℕ × List ℕ)) → AllHere m es → List (Link m)
  links [] h = []
  links (e ∷ es) h = with_link (link_of e.0 e.1 h.0 (key_is k m held clear e.0 e.1 h.0)) (links es h.1)

  waits_here : (key value : List ℕ) (e : objects.get m key ≡ Some value) (form : IsObjectKey key) (ls : List (Link m)) (p : ℕ) (x : Name) → p < 2 ^ 64 → key ≡ entry_key p x → Waits (with_link (link_of key value e form) ls) p x
  waits_here key value e is_super ls p x lt is = absurd (kinds 115 101 _ _ (λ e. omega arith) is)
  waits_here key value e (is_inode n low) ls p x lt is = absurd (kinds 105 101 _ _ (λ e. omega arith) is)
  waits_here key value e (is_entry q y low short) ls p x lt is = inl (same_parent q p y x low lt is, same_name q p y x is)
  waits_here key value e (is_chunk n c low lc) ls p x lt is = absurd (kinds 100 101 _ _ (λ e. omega arith) is)
  waits_here key value e (is_orphan n low) ls p x lt is = absurd (kinds 111 101 _ _ (λ e. omega arith) is)

  all_wait : (es : List (List ℕ × List ℕ)) (h : AllHere m es) (p : ℕ) (x : Name) (value : List ℕ) → p < 2 ^ 64 → find bytes_cmp (entry_key p x) es ≡ Some value → Waits (links es h) p x
  all_wait [] h p x value lt e = absurd (cc)
  all_wait (y ∷ es) h p x value lt e = by (bytes_cmp (entry_key p x) y.0) refl (all_wait es h.1 p x value lt) e
    where
      by : (r : Ordering) → bytes_cmp (entry_key p x) y.0 ≡ r → (find bytes_cmp (entry_key p x) es ≡ Some value → Waits (links es h.1) p x) → cond (is_eq r) (Some y.1) (find bytes_cmp (entry_key p x) es) ≡ Some value → Waits (links (y ∷ es) h) p x
      by Less r rest e = waits_still m (link_of y.0 y.1 h.0 (key_is k m held clear y.0 y.1 h.0)) (links es h.1) p x (rest e)
      by Greater r rest e = waits_still m (link_of y.0 y.1 h.0 (key_is k m held clear y.0 y.1 h.0)) (links es h.1) p x (rest e)
      by Equal r rest e = waits_here y.0 y.1 h.0 (key_is k m held clear y.0 y.1 h.0) (links es h.1) p x lt (sym (same_bytes (entry_key p x) y.0 r))

  here : AllHere m (objects.entries m)
  here = all_here m (objects.entries m) (objects.entries_sorted m) (λ key value e. objects.get-entries m key ∙ e)

  -- all places
  pub places : Full m
  places = full m (links (objects.entries m) here) (λ p x value entry. all_wait (objects.entries m) here p x value entry.low (sym (objects.get-entries m (entry_key p x)) ∙ entry.there))
