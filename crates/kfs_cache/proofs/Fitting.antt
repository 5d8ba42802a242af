-- What a cache knows stays true of its device.
use Rattle.std.proofs.Common.{◌≡◌, ◌≢◌, ◌<◌, ◌⊎◌, inl, inr, ℕ, Bool, true, false, not, cond, refl, sym, ◌∙◌, ap, subst, List, [], ◌∷◌, map, length, zero, suc, Option, Some, None, Result, Ok, Err, OnOk, OnErr, IfSome, is_some, is_none, unwrap_or, option_and_then, slice_get, slice_set}
use Rattle.std.proofs.lemmas.List.{map-set}
use Rattle.std.proofs.lemmas.Option.{slice_get-get_or}
use Rattle.std.proofs.Math.Seq.{map-set_same}
use Rattle.std.proofs.lemmas.List.Quantifiers.{position-Some}
use Rattle.std.proofs.lemmas.Bool.Decides.{eqb_tells}
use Rattle.std.specs.List.{list_any}
use Rattle.std.specs.Ordering.{eq_by_cmp}
use Rattle.std.specs.Cmp.Lexicographic.{bytes_decides, texts_ties, nat_list_cmp_total}
use Rattle.std.specs.FinMap as objects
use Rattle.kv_device.specs.Bytes.{bytes_cmp}
use Rattle.kv_device.specs.Objects.{Objects, Changes}
use Rattle.kv_device.specs.Machine.{Machine, Transactions, changes_of, is_open, free_number, view, none_open, begun, with_change, ended, aborted}
use Rattle.kv_device.specs.Calls.{GetDone}
use Rattle.kv_device.specs.declared.fault.DeviceFault.{DeviceFault}
use Rattle.kv_device.specs.declared.fault.DeviceFault.TheVariants.{Off, NoTx}
use Rattle.kv_device.proofs.OpenLaws.{changes_set, open_within}
use Rattle.kv_device.proofs.ApartLaws.{changes_stay}
use Rattle.kv_device.proofs.MachineLaws.{get-seen_through, over}
use Rattle.kfs_cache.specs.declared.known.Known.{Known}
use Rattle.kfs_cache.specs.declared.touched.Touched.{Touched}
use Rattle.kfs_cache.specs.Numbers.{is_marked}
use Rattle.kfs_cache.specs.Parts.{IsPart}
use Rattle.kfs_cache.specs.Knowing.{Fits, FellDown, Left, is_changed, is_touched}

-- a change in one of none
abbrev has_change : Option Changes → List ℕ → Bool
has_change t key = objects.contains_key (unwrap_or t objects.empty) key

nothing_changed : (key : List ℕ) → has_change None key ≡ false
nothing_changed key = ap is_some (objects.get-empty {X = Option (List ℕ)} bytes_cmp key)

empty_changed : (key : List ℕ) → has_change (Some objects.empty) key ≡ false
empty_changed key = nothing_changed key

clash : {P : Type 0} (b : Bool) → b ≡ true → b ≡ false → P
clash b on off = absurd (let e : true ≡ false = sym on ∙ off in cc)

-- another transaction's changes, and those of one that was set
same_number : {P : Type 0} (other tx : ℕ) → (other ≡ tx → P) → (other ≢ tx → P) → P
same_number other tx p q = elim (eqb_tells other tx) [ inl e ↦ p e.1 | inr e ↦ q e.1 ]

-- a number set: what it says there, and that all others stay
set_changes : (m : Machine) (tx other : ℕ) (t : Option Changes) (key : List ℕ) → tx < length m.pending
    → (has_change (option_and_then (λ t. t) (slice_get (slice_set m.pending tx t) other)) key ≡ has_change t key) ⊎ (has_change (option_and_then (λ t. t) (slice_get (slice_set m.pending tx t) other)) key ≡ is_changed m other key)
set_changes m tx other t key low = same_number other tx
    (λ is. inl (ap (λ n. has_change (option_and_then (λ t. t) (slice_get (slice_set m.pending tx t) n)) key) is ∙ ap (λ c. has_change c key) (changes_set m.pending tx t low)))
    (λ apart. inr (ap (λ c. has_change c key) (changes_stay m tx other t apart)))

-- set to what has no change: no transaction has more changes
no_more : (m : Machine) (tx other : ℕ) (t : Option Changes) (key : List ℕ) → tx < length m.pending → has_change t key ≡ false
    → has_change (option_and_then (λ t. t) (slice_get (slice_set m.pending tx t) other)) key ≡ true → is_changed m other key ≡ true
no_more m tx other t key low none h = elim (set_changes m tx other t key low) [
  | inl e ↦ clash _ (sym e ∙ h) none
  | inr e ↦ sym e ∙ h
]

-- ---- what is kept still fits where stable stays at its keys and no transaction has more changes

pub record Fewer (old new : Machine) : Type 0 where
  pub changes : (key : List ℕ) (tx : ℕ) → is_changed new tx key ≡ true → is_changed old tx key ≡ true
  pub stable : (key : List ℕ) → ((tx : ℕ) → is_changed old tx key ≡ false) → objects.get new.stable key ≡ objects.get old.stable key

unless : (a b : Bool) → (a ≡ true → b ≡ true) → b ≡ false → a ≡ false
unless true b h off = clash b (h refl) off
unless false b h off = refl

pub fits_fewer : (old new : Machine) (k l : Known) → Fits old k → Fewer old new → l.kept ≡ k.kept
    → ((key : List ℕ) (tx : ℕ) → is_changed new tx key ≡ true → is_touched k.touched key ≡ true → is_touched l.touched key ≡ true)
    → (l.up ≡ true → (new.up ≡ true) × (l.numbers ≡ map is_some new.pending)) → Fits new l
fits_fewer old new k l fits fewer kept touched up = record {
  stable = λ key value h. let was = ap (λ m. objects.get m key) (sym kept) ∙ h in fewer.stable key (λ tx. fits.unchanged key value tx was) ∙ fits.stable key value was;
  unchanged = λ key value tx h. let was = ap (λ m. objects.get m key) (sym kept) ∙ h in unless _ _ (fewer.changes key tx) (fits.unchanged key value tx was);
  touched = λ key tx h. touched key tx h (fits.touched key tx (fewer.changes key tx h));
  up = up;
}

pub fewer_begun : (m : Machine) (tx : ℕ) → free_number m.pending ≡ Some tx → Fewer m (begun m tx)
fewer_begun m tx free = record {
  changes = λ key other h. no_more m tx other (Some objects.empty) key (position-Some is_none m.pending tx None free).0 (empty_changed key) h;
  stable = λ key none. refl;
}

pub fewer_aborted : (m : Machine) (tx : ℕ) → is_open m tx ≡ true → Fewer m (aborted m tx)
fewer_aborted m tx open_now = record {
  changes = λ key other h. no_more m tx other None key (open_within m.pending tx open_now) (nothing_changed key) h;
  stable = λ key none. refl;
}

-- where a transaction has no change it sees stable
unchanged_over : (c : Changes) (m : Objects) (key : List ℕ) → objects.contains_key c key ≡ false → over (objects.get c key) (objects.get m key) ≡ objects.get m key
unchanged_over c m key = by (objects.get c key)
  where
    by : (o : Option (Option (List ℕ))) → is_some o ≡ false → over o (objects.get m key) ≡ objects.get m key
    by None h = refl
    by (Some x) h = absurd (let e : true ≡ false = h in cc)

pub unchanged_view : (m : Machine) (tx : ℕ) (key : List ℕ) → is_changed m tx key ≡ false → objects.get (view m tx) key ≡ objects.get m.stable key
unfolding view
unchanged_view m tx key none = get-seen_through (unwrap_or (changes_of m tx) objects.empty) m.stable key ∙ unchanged_over (unwrap_or (changes_of m tx) objects.empty) m.stable key none

pub fewer_ended : (m : Machine) (tx : ℕ) → is_open m tx ≡ true → Fewer m (ended m tx)
fewer_ended m tx open_now = record {
  changes = λ key other h. no_more m tx other None key (open_within m.pending tx open_now) (nothing_changed key) h;
  stable = λ key none. unchanged_view m tx key (none tx);
}

-- ---- which transactions are open

marked_open : (p : Transactions) (tx : ℕ) → unwrap_or (slice_get (map is_some p) tx) false ≡ is_some (option_and_then (λ t. t) (slice_get p tx))
marked_open [] tx = refl
marked_open (t ∷ p) zero = refl
marked_open (t ∷ p) (suc tx) = marked_open p tx

idle_has : (p : Transactions) (tx : ℕ) (key : List ℕ) → list_any (λ x. x) (map is_some p) ≡ false → has_change (option_and_then (λ t. t) (slice_get p tx)) key ≡ false
idle_has [] tx key idle = nothing_changed key
idle_has (None ∷ p) zero key idle = nothing_changed key
idle_has (None ∷ p) (suc tx) key idle = idle_has p tx key idle
idle_has (Some c ∷ p) tx key idle = absurd (let e : true ≡ false = idle in cc)

none_has : (m : Machine) (tx : ℕ) (key : List ℕ) → m.pending ≡ none_open → is_changed m tx key ≡ false
none_has m tx key none = ap (λ p. has_change (option_and_then (λ t. t) (slice_get p tx)) key) none ∙ idle_has none_open tx key refl

pub fits_first : (m : Machine) (k : Known) → m.up ≡ true → m.pending ≡ none_open → k.kept ≡ objects.empty → k.numbers ≡ map is_some none_open → Fits m k
fits_first m k up none empty numbers = record {
  stable = λ key value h. absent key value h;
  unchanged = λ key value tx h. absent key value h;
  touched = λ key tx h. clash _ h (none_has m tx key none);
  up = λ _. (up, numbers ∙ sym (ap (map is_some) none));
}
  where
    absent : {P : Type 0} (key value : List ℕ) → objects.get k.kept key ≡ Some value → P
    absent key value h = clash (is_some (objects.get k.kept key)) (ap is_some h) (ap (λ o. objects.contains_key o key) empty ∙ ap is_some (objects.get-empty {X = List ℕ} bytes_cmp key))

pub fits_begun : (m : Machine) (tx : ℕ) (k : Known) (numbers : List Bool) → Fits m k → free_number m.pending ≡ Some tx → numbers ≡ slice_set k.numbers tx true → Fits (begun m tx) (record k { numbers = numbers })
fits_begun m tx k numbers fits free is = fits_fewer m (begun m tx) k (record k { numbers = numbers }) fits (fewer_begun m tx free) refl (λ key other changed touched. touched)
    (λ h. ((fits.up h).0, is ∙ ap (λ n. slice_set n tx true) (fits.up h).1 ∙ sym (map-set is_some m.pending tx (Some objects.empty))))

-- a transaction is over: which are open is told as before
closed : (m : Machine) (tx : ℕ) (k : Known) (numbers : List Bool) → Fits m k → k.up ≡ true → numbers ≡ slice_set k.numbers tx false → numbers ≡ map is_some (slice_set m.pending tx None)
closed m tx k numbers fits up is = is ∙ ap (λ n. slice_set n tx false) (fits.up up).1 ∙ sym (map-set is_some m.pending tx None)

pub fits_closed : (m n : Machine) (tx : ℕ) (k : Known) (numbers : List Bool) → Fewer m n → n.up ≡ m.up → n.pending ≡ slice_set m.pending tx None → Fits m k → numbers ≡ slice_set k.numbers tx false → Fits n (record k { numbers = numbers })
fits_closed m n tx k numbers fewer up pending fits is = fits_fewer m n k (record k { numbers = numbers }) fits fewer refl (λ key other changed touched. touched)
    (λ h. (up ∙ (fits.up h).0, closed m tx k numbers fits h is ∙ sym (ap (map is_some) pending)))

-- and where none is open nothing is touched
pub fits_idle : (m n : Machine) (tx : ℕ) (k : Known) (numbers : List Bool) (touched : Touched) → Fewer m n → n.up ≡ m.up → n.pending ≡ slice_set m.pending tx None → Fits m k → numbers ≡ slice_set k.numbers tx false
    → k.up ≡ true → list_any (λ x. x) numbers ≡ false → Fits n (record k { numbers = numbers; touched = touched })
fits_idle m n tx k numbers touched fewer up pending fits is on idle =
    let told = closed m tx k numbers fits on is ∙ sym (ap (map is_some) pending) in
    fits_fewer m n k (record k { numbers = numbers; touched = touched }) fits fewer refl
    (λ key other changed was. clash _ changed (idle_has n.pending other key (ap (list_any (λ x. x)) (sym told) ∙ idle)))
    (λ h. (up ∙ (fits.up h).0, told))

-- ---- a hit

pub hit_done : (m : Machine) (k : Known) (tx : ℕ) (key value : List ℕ) → Fits m k → k.up ≡ true → is_marked k.numbers tx ≡ true → objects.get k.kept key ≡ Some value → GetDone m tx key (Some value) m
hit_done m k tx key value fits up marked h =
    let open_now : is_open m tx ≡ true = sym (marked_open m.pending tx) ∙ sym (ap (λ n. is_marked n tx) (fits.up up).1) ∙ marked in
    record {
      allowed = λ i. cond (not ((fits.up up).0 i)) (Some Off) (cond (not (open_now i)) (Some NoTx) None);
      found = sym (unchanged_view m tx key (fits.unchanged key value tx h) ∙ fits.stable key value h);
      after = refl;
    }

pub hit_by : (k : Known) (tx : ℕ) (key : List ℕ) (o : Option (List ℕ)) → k.up ≡ true → is_marked k.numbers tx ≡ true → o ≡ objects.get k.kept key → IfSome o (λ value. (m : Machine) → Fits m k → GetDone m tx key (Some value) m)
hit_by k tx key None up marked is = tt
hit_by k tx key (Some value) up marked is = λ m fits. hit_done m k tx key value fits up marked (sym is)

-- ---- a value kept

same_bytes : (q key : List ℕ) → eq_by_cmp bytes_cmp q key ≡ true → q ≡ key
same_bytes q key e = (bytes_decides q key).0 (texts_ties q key ∙ e)

kept_by : {P : Type 0} (old : Objects) (q key value w : List ℕ) → objects.get (objects.insert old key value) q ≡ Some w → (q ≡ key → Some value ≡ Some w → P) → (objects.get old q ≡ Some w → P) → P
kept_by {P} old q key value w h new there = by (eq_by_cmp bytes_cmp q key) refl (sym (objects.get-insert nat_list_cmp_total old key value q) ∙ h)
  where
    by : (b : Bool) → eq_by_cmp bytes_cmp q key ≡ b → cond b (Some value) (objects.get old q) ≡ Some w → P
    by true e g = new (same_bytes q key e) g
    by false e g = there g

pub fits_kept : (m : Machine) (tx : ℕ) (k : Known) (kept : Objects) (key value : List ℕ) → Fits m k → objects.get (view m tx) key ≡ Some value → is_touched k.touched key ≡ false → IsPart kept (objects.insert k.kept key value) → Fits m (record k { kept = kept })
fits_kept m tx k kept key value fits seen untouched part =
    let still : (other : ℕ) → is_changed m other key ≡ false = λ other. unless _ _ (fits.touched key other) untouched in
    record {
      stable = λ q w h. kept_by k.kept q key value w (part q w h) (λ is same. ap (objects.get m.stable) is ∙ sym (unchanged_view m tx key (still tx)) ∙ seen ∙ same) (fits.stable q w);
      unchanged = λ q w other h. kept_by k.kept q key value w (part q w h) (λ is same. ap (is_changed m other) is ∙ still other) (λ was. fits.unchanged q w other was);
      touched = fits.touched;
      up = fits.up;
    }

pub fits_put : {E : Type 0} (m : Machine) (tx : ℕ) (k : Known) (kept : Objects) (key value : List ℕ) (r : Result (Unit {0}) E) → OnOk r (IsPart kept (objects.insert k.kept key value)) → OnErr r (kept ≡ k.kept)
    → is_touched k.touched key ≡ false → Fits m k → objects.get (view m tx) key ≡ Some value → Fits m (record k { kept = kept })
fits_put m tx k kept key value (Ok x) part same untouched fits seen = fits_kept m tx k kept key value fits seen untouched part
fits_put m tx k kept key value (Err e) part same untouched fits seen = subst (λ o. Fits m (record k { kept = o })) (sym same) fits

-- ---- a key that may be changed

removed_by : {P : Type 0} (old : Objects) (q key w : List ℕ) → objects.get (objects.remove old key) q ≡ Some w → (eq_by_cmp bytes_cmp q key ≡ false → objects.get old q ≡ Some w → P) → P
removed_by {P} old q key w h there = by (eq_by_cmp bytes_cmp q key) refl (sym (objects.get-remove nat_list_cmp_total old key q) ∙ h)
  where
    by : (b : Bool) → eq_by_cmp bytes_cmp q key ≡ b → cond b None (objects.get old q) ≡ Some w → P
    by true e g = absurd (let e : false ≡ true = ap is_some g in cc)
    by false e g = there e g

pub fits_touched : (m : Machine) (k : Known) (kept : Objects) (touched : Touched) (key : List ℕ) → Fits m k → kept ≡ objects.remove k.kept key
    → ((q : List ℕ) → is_touched k.touched q ≡ true → is_touched touched q ≡ true) → Fits m (record k { kept = kept; touched = touched })
fits_touched m k kept touched key fits is more = record {
  stable = λ q w h. removed_by k.kept q key w (ap (λ o. objects.get o q) (sym is) ∙ h) (λ apart was. fits.stable q w was);
  unchanged = λ q w tx h. removed_by k.kept q key w (ap (λ o. objects.get o q) (sym is) ∙ h) (λ apart was. fits.unchanged q w tx was);
  touched = λ q tx h. more q (fits.touched q tx h);
  up = fits.up;
}

insert_has : (c : Changes) (q key : List ℕ) (change : Option (List ℕ)) → eq_by_cmp bytes_cmp q key ≡ false → objects.contains_key (objects.insert c key change) q ≡ objects.contains_key c q
insert_has c q key change apart = ap is_some (objects.get-insert nat_list_cmp_total c key change q ∙ ap (λ b. cond b (Some change) (objects.get c q)) apart)

-- at another key a change changes nothing
change_apart : (m : Machine) (tx other : ℕ) (q key : List ℕ) (change : Option (List ℕ)) → is_open m tx ≡ true → eq_by_cmp bytes_cmp q key ≡ false → is_changed (with_change m tx key change) other q ≡ is_changed m other q
change_apart m tx other q key change open_now apart =
    let c = objects.insert (unwrap_or (changes_of m tx) objects.empty) key change in
    same_number other tx
    (λ is. ap (λ n. is_changed (with_change m tx key change) n q) is ∙ ap (λ t. has_change t q) (changes_set m.pending tx (Some c) (open_within m.pending tx open_now)) ∙ insert_has (unwrap_or (changes_of m tx) objects.empty) q key change apart ∙ sym (ap (λ n. is_changed m n q) is))
    (λ away. ap (λ t. has_change t q) (changes_stay m tx other (Some c) away))

either : {P : Type 0} (b : Bool) → (b ≡ true → P) → (b ≡ false → P) → P
either true p q = p refl
either false p q = q refl

still_open : (m : Machine) (tx : ℕ) (c : Changes) → is_open m tx ≡ true → map is_some (slice_set m.pending tx (Some c)) ≡ map is_some m.pending
still_open m tx c open_now =
    let at = slice_get-get_or m.pending tx None (open_within m.pending tx open_now) in
    map-set_same is_some m.pending tx (Some c) None (sym (sym (ap (λ o. is_some (option_and_then (λ t. t) o)) at) ∙ open_now))

pub fits_changed : (m : Machine) (tx : ℕ) (k : Known) (kept : Objects) (touched : Touched) (key : List ℕ) (change : Option (List ℕ)) → Fits m k → is_open m tx ≡ true → kept ≡ objects.remove k.kept key
    → is_touched touched key ≡ true → ((q : List ℕ) → is_touched k.touched q ≡ true → is_touched touched q ≡ true) → Fits (with_change m tx key change) (record k { kept = kept; touched = touched })
fits_changed m tx k kept touched key change fits open_now is added more = record {
  stable = λ q w h. removed_by k.kept q key w (ap (λ o. objects.get o q) (sym is) ∙ h) (λ apart was. fits.stable q w was);
  unchanged = λ q w other h. removed_by k.kept q key w (ap (λ o. objects.get o q) (sym is) ∙ h) (λ apart was. change_apart m tx other q key change open_now apart ∙ fits.unchanged q w other was);
  touched = λ q other h. either (eq_by_cmp bytes_cmp q key)
      (λ same. ap (is_touched touched) (same_bytes q key same) ∙ added)
      (λ apart. more q (fits.touched q other (sym (change_apart m tx other q key change open_now apart) ∙ h)));
  up = λ up. ((fits.up up).0, (fits.up up).1 ∙ sym (still_open m tx (objects.insert (unwrap_or (changes_of m tx) objects.empty) key change) open_now));
}

-- ---- a fault

pub fewer_down : (old : Machine) (fault : DeviceFault) (new : Machine) → FellDown old fault new → Fewer old new
fewer_down old fault new fell = record {
  changes = λ key tx h. clash _ h (none_has new tx key fell.pending);
  stable = fell.stable;
}

fewer_same : (m n : Machine) → n ≡ m → Fewer m n
fewer_same m n is = record {
  changes = λ key tx h. ap (λ x. is_changed x tx key) (sym is) ∙ h;
  stable = λ key none. ap (λ (x : Machine). objects.get x.stable key) is;
}

-- the device may be down
pub fits_failed : (old : Machine) (fault : DeviceFault) (new : Machine) (k : Known) → Fits old k → Left old fault new → Fits new (record k { up = false })
fits_failed old fault new k fits left =
    let fewer : Fewer old new = elim left [ inl is ↦ fewer_same old new is | inr fell ↦ fewer_down old fault new fell ] in
    fits_fewer old new k (record k { up = false }) fits fewer refl (λ key tx changed touched. touched) (λ h. absurd (let e : false ≡ true = h in cc))
