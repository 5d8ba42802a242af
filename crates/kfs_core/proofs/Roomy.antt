-- Where objects have room, some of them have.
use Rattle.std.proofs.Common.{◌≡◌, ℕ, ◌≤◌, ◌+◌, ◌&&◌, inl, inr, true, false, Bool, cond, refl, sym, ◌∙◌, ap, arith, List, [], ◌∷◌, length, map, filter, count_by, nat_le, nat_lt, Some}
use Rattle.std.specs.Ordering.{is_eq}
use Rattle.std.specs.declared.cmp.Ordering.{Ordering}
use Rattle.std.specs.declared.cmp.Ordering.TheVariants.{Less, Equal, Greater}
use Rattle.std.specs.FinMap as objects
use Rattle.std.specs.FinMap.{find}
use Rattle.std.proofs.lemmas.Bool.Decides.{nat_tests}
use Rattle.std.proofs.lemmas.List.Sums.{sum_by-cons}
use Rattle.std.proofs.lemmas.Option.{same_Some}
use Rattle.kv_device.specs.Bytes.{bytes_cmp}
use Rattle.kv_device.specs.Calls.{has_room}
use Rattle.kv_device.specs.Machine.{Machine}
use Rattle.kv_device.specs.Objects.{Objects, page_count}
use Rattle.kfs_shows.proofs.Lookups.{same_bytes}
use Rattle.kfs_shows.proofs.Counting.{In, kept, few_kept}
use Rattle.kfs_core.proofs.Fewer.{no_more}

abbrev Row : Type 0
Row = List ℕ × List ℕ

more_kept : (p : Row → Bool) (x : Row) (es : List Row) (q : List ℕ) → In (kept p es) q → In (kept p (x ∷ es)) q
more_kept p x es q h = by (p x)
  where
    by : (b : Bool) → In (map (λ (e : Row). e.0) (cond b (x ∷ filter p es) (filter p es))) q
    by true = inr h
    by false = h

first_kept : (p : Row → Bool) (x : Row) (es : List Row) (q : List ℕ) → q ≡ x.0 → p x ≡ true → In (kept p (x ∷ es)) q
first_kept p x es q same is = by (p x) is
  where
    by : (b : Bool) → b ≡ true → In (map (λ (e : Row). e.0) (cond b (x ∷ filter p es) (filter p es))) q
    by true e = inl same
    by false e = absurd (cc)

found_kept : (p : Row → Bool) (es : List Row) (q v : List ℕ) → find bytes_cmp q es ≡ Some v → p (q, v) ≡ true → In (kept p es) q
found_kept p [] q v e is = absurd (cc)
found_kept p (x ∷ es) q v e is = by (bytes_cmp q x.0) refl (λ f. more_kept p x es q (found_kept p es q v f is)) e
  where
    by : (r : Ordering) → bytes_cmp q x.0 ≡ r → (find bytes_cmp q es ≡ Some v → In (kept p (x ∷ es)) q) → cond (is_eq r) (Some x.1) (find bytes_cmp q es) ≡ Some v → In (kept p (x ∷ es)) q
    by Equal r rest f =
        let key = same_bytes q x.0 r in
        let value = same_Some _ _ f in
        first_kept p x es q key ((λ i. p (sym key i, value i)) ∙ is)
    by Less r rest f = rest f
    by Greater r rest f = rest f

count_kept : (f : List ℕ → Bool) (es : List Row) → count_by f (map (λ e. e.1) es) ≡ length (kept (λ e. f e.1) es)
count_kept f [] = refl
count_kept f (e ∷ es) = sum_by-cons (λ x. cond (f x) 1 0) e.1 (map (λ e. e.1) es) ∙ by (f e.1) (count_kept f es)
  where
    by : (b : Bool) → count_by f (map (λ e. e.1) es) ≡ length (kept (λ e. f e.1) es) → cond b 1 0 + count_by f (map (λ e. e.1) es) ≡ length (map (λ e. e.0) (cond b (e ∷ filter (λ e. f e.1) es) (filter (λ e. f e.1) es)))
    by true rest = let r = rest in omega arith
    by false rest = let r = rest in omega arith

-- no more large values
pages_less : (old new : Objects) → ((q v : List ℕ) → objects.get new q ≡ Some v → objects.get old q ≡ Some v) → page_count new ≤ page_count old
unfolding page_count
pages_less old new h =
    let p = λ (e : Row). nat_lt 128 (length e.1) in
    let few = few_kept p new (kept p (objects.entries old)) (λ q v e large. found_kept p (objects.entries old) q v (sym (objects.get-entries old q) ∙ h q v e) large) in
    let a = count_kept (λ v. nat_lt 128 (length v)) (objects.entries new) in
    let b = count_kept (λ v. nat_lt 128 (length v)) (objects.entries old) in
    omega arith

both : (a b : Bool) → (a && b) ≡ true → (a ≡ true) × (b ≡ true)
both true b e = (refl, e)
both false b e = absurd (cc)

pub room_left : (m then : Machine) (old new : Objects) → then.room_keys ≡ m.room_keys → then.room_pages ≡ m.room_pages → ((q v : List ℕ) → objects.get new q ≡ Some v → objects.get old q ≡ Some v) → has_room m old ≡ true → has_room then new ≡ true
room_left m then old new keys pages kept room =
    let was = both (nat_le (objects.len old) m.room_keys) (nat_le (page_count old) m.room_pages) room in
    let k = was.0 in
    let p = was.1 in
    let fewer = no_more old new kept in
    let less = pages_less old new kept in
    let a : nat_le (objects.len new) then.room_keys ≡ true = grind (arith, nat_tests) in
    let b : nat_le (page_count new) then.room_pages ≡ true = grind (arith, nat_tests) in
    λ i. a i && b i

pub room_of : (m : Machine) (o stable : Objects) → o ≡ stable → objects.len stable ≤ m.room_keys → page_count stable ≤ m.room_pages → has_room m o ≡ true
room_of m o stable same few less =
    let a : nat_le (objects.len stable) m.room_keys ≡ true = grind (arith, nat_tests) in
    let b : nat_le (page_count stable) m.room_pages ≡ true = grind (arith, nat_tests) in
    ap (has_room m) same ∙ (λ i. a i && b i)
