-- What each call keeps of the open files.
use Rattle.std.proofs.Common.{◌≡◌, ℕ, zero, suc, ◌+◌, ◌<◌, ◌==◌, inl, inr, Bool, true, false, not, cond, refl, sym, ap, ◌∙◌, arith, List, Option, Some, None, is_some}
use Rattle.std.specs.Ordering.{nat_cmp}
use Rattle.std.specs.Cmp.{nat_cmp_total}
use Rattle.std.specs.List.{filter, list_any}
use Rattle.std.specs.Option.{option_map, option_and_then}
use Rattle.std.specs.FinMap.{find, put, nat_cmp-IsAntisymmetric}
use Rattle.std.specs.FinMap.Entries.{is_sorted-put, is_sorted-where_key, find-where_key}
use Rattle.std.proofs.lemmas.Option.{same_Some}
use Rattle.kfs_model.specs.declared.Description.{Description}
use Rattle.kfs_model.specs.Desk.{Desk, empty_desk, opened, free_from, lowest_free, with_description}
use Rattle.kfs_model.specs.Tree.{Limits}
use Rattle.kfs_model.specs.Step
use Rattle.kfs_model.specs.Life.{IsFree}
use Rattle.kfs_path.specs.declared.call.Call.{Call}
use Rattle.kfs_path.specs.declared.call.Call.TheVariants as calls
use Rattle.kfs_laws.proofs.Outcomes
use Rattle.kfs_laws.specs.Worlds.{IsDesk}
use Rattle.std.specs.Prelude.{IsNone}
use Rattle.kfs_laws.proofs.Lookups.{none_some, number_put, number_other, decide_number, some_found, number_found, passed}

-- what a descriptor has open
pub opened_is : (desk : Desk) (fd : ℕ) (it : ℕ × Description) → opened desk fd ≡ Some it → find nat_cmp it.0 desk.descriptions ≡ Some it.1
opened_is desk fd it e = by (find nat_cmp fd desk.descriptors) e
  where
    inner : (d : ℕ) (o : Option Description) → find nat_cmp d desk.descriptions ≡ o → option_map {U = ℕ × Description} (λ x. (d, x)) o ≡ Some it → find nat_cmp it.0 desk.descriptions ≡ Some it.1
    inner d None is e = absurd (cc)
    inner d (Some x) is e = let pair = same_Some (d, x) it e in
        ap (λ (q : ℕ × Description). find nat_cmp q.0 desk.descriptions) (sym pair) ∙ is ∙ ap (λ (q : ℕ × Description). Some q.1) pair

    by : (o : Option ℕ) → option_and_then {U = ℕ × Description} (λ d. option_map {U = ℕ × Description} (λ x. (d, x)) (find nat_cmp d desk.descriptions)) o ≡ Some it → find nat_cmp it.0 desk.descriptions ≡ Some it.1
    by None e = absurd (cc)
    by (Some d) e = inner d (find nat_cmp d desk.descriptions) refl e

-- the lowest free descriptor isn't open, and is below the limit
free_is : (desk : Desk) (from more fd : ℕ) → free_from desk from more ≡ Some fd → (find nat_cmp fd desk.descriptors ≡ None) × (fd < from + more)
free_is desk from zero fd e = absurd (cc)
free_is desk from (suc more) fd e = by (find nat_cmp from desk.descriptors) refl (free_is desk (suc from) more fd) e
  where
    by : (o : Option ℕ) → find nat_cmp from desk.descriptors ≡ o → (free_from desk (suc from) more ≡ Some fd → (find nat_cmp fd desk.descriptors ≡ None) × (fd < suc from + more))
        → cond (is_some o) (free_from desk (suc from) more) (Some from) ≡ Some fd → (find nat_cmp fd desk.descriptors ≡ None) × (fd < from + suc more)
    by None is rest e = let same = same_Some from fd e in (ap (λ n. find nat_cmp n desk.descriptors) (sym same) ∙ is, omega arith)
    by (Some d) is rest e = let h = rest e in let lt = h.1 in (h.0, omega arith)

pub lowest_is : (desk : Desk) (fd : ℕ) → lowest_free desk ≡ Some fd → (find nat_cmp fd desk.descriptors ≡ None) × (fd < 64)
unfolding lowest_free
lowest_is desk fd e = free_is desk 0 64 fd e

pub empty_is : IsDesk empty_desk
empty_is = record {
  held = λ d it e. absurd (cc);
  there = λ fd d e. absurd (cc);
  low = λ fd d e. absurd (cc);
  sorted_descriptors = tt;
  sorted_descriptions = tt;
}

module _ (desk : Desk) (is : IsDesk desk) where
  -- a free descriptor gets a new description
  pub opening_is : (fd d : ℕ) (it : Description) → lowest_free desk ≡ Some fd → find nat_cmp d desk.descriptions ≡ None → IsDesk (record { descriptors = put nat_cmp fd d desk.descriptors; descriptions = put nat_cmp d it desk.descriptions })
  opening_is fd d it low free = record {
    held = λ e x f. elim (decide_number e d) [
      | inl same ↦ (fd, number_put fd d desk.descriptors ∙ ap Some (sym same))
      | inr other ↦
          let h = is.held e x (sym (number_other e d it desk.descriptions other) ∙ f) in
          (h.0, number_other h.0 fd d desk.descriptors (λ same. none_some _ e (ap (λ n. find nat_cmp n desk.descriptors) same ∙ (lowest_is desk fd low).0) h.1) ∙ h.1)
    ];
    there = λ g e f. elim (decide_number e d) [
      | inl same ↦ (it, ap (λ n. find nat_cmp n (put nat_cmp d it desk.descriptions)) same ∙ number_put d it desk.descriptions)
      | inr other ↦ elim (decide_number g fd) [
        | inl here ↦ absurd (other (same_Some e d (sym f ∙ ap (λ n. find nat_cmp n (put nat_cmp fd d desk.descriptors)) here ∙ number_put fd d desk.descriptors)))
        | inr there ↦ let h = is.there g e (sym (number_other g fd d desk.descriptors there) ∙ f) in (h.0, number_other e d it desk.descriptions other ∙ h.1)
      ]
    ];
    low = λ g e f. elim (decide_number g fd) [
      | inl here ↦ let h = (lowest_is desk fd low).1 in omega arith
      | inr there ↦ is.low g e (sym (number_other g fd d desk.descriptors there) ∙ f)
    ];
    sorted_descriptors = is_sorted-put nat_cmp nat_cmp_total fd d desk.descriptors is.sorted_descriptors;
    sorted_descriptions = is_sorted-put nat_cmp nat_cmp_total d it desk.descriptions is.sorted_descriptions;
  }

  -- a free descriptor shares a description
  pub sharing_is : (fd d : ℕ) (it : Description) → lowest_free desk ≡ Some fd → find nat_cmp d desk.descriptions ≡ Some it → IsDesk (record { descriptors = put nat_cmp fd d desk.descriptors; descriptions = desk.descriptions })
  sharing_is fd d it low has = record {
    held = λ e x f.
        let h = is.held e x f in
        (h.0, number_other h.0 fd d desk.descriptors (λ same. none_some _ e (ap (λ n. find nat_cmp n desk.descriptors) same ∙ (lowest_is desk fd low).0) h.1) ∙ h.1);
    there = λ g e f. elim (decide_number g fd) [
      | inl here ↦ let same = same_Some e d (sym f ∙ ap (λ n. find nat_cmp n (put nat_cmp fd d desk.descriptors)) here ∙ number_put fd d desk.descriptors) in (it, ap (λ n. find nat_cmp n desk.descriptions) same ∙ has)
      | inr there ↦ is.there g e (sym (number_other g fd d desk.descriptors there) ∙ f)
    ];
    low = λ g e f. elim (decide_number g fd) [
      | inl here ↦ let h = (lowest_is desk fd low).1 in omega arith
      | inr there ↦ is.low g e (sym (number_other g fd d desk.descriptors there) ∙ f)
    ];
    sorted_descriptors = is_sorted-put nat_cmp nat_cmp_total fd d desk.descriptors is.sorted_descriptors;
    sorted_descriptions = is.sorted_descriptions;
  }

  -- a description that is there changes
  pub moving_is : (d : ℕ) (was it : Description) → find nat_cmp d desk.descriptions ≡ Some was → IsDesk (with_description desk d it)
  moving_is d was it has = record {
    held = λ e x f. elim (decide_number e d) [
      | inl same ↦ let h = is.held d was has in (h.0, h.1 ∙ ap Some (sym same))
      | inr other ↦ is.held e x (sym (number_other e d it desk.descriptions other) ∙ f)
    ];
    there = λ g e f. elim (decide_number e d) [
      | inl same ↦ (it, ap (λ n. find nat_cmp n (put nat_cmp d it desk.descriptions)) same ∙ number_put d it desk.descriptions)
      | inr other ↦ let h = is.there g e f in (h.0, number_other e d it desk.descriptions other ∙ h.1)
    ];
    low = is.low;
    sorted_descriptors = is.sorted_descriptors;
    sorted_descriptions = is_sorted-put nat_cmp nat_cmp_total d it desk.descriptions is.sorted_descriptions;
  }

-- a descriptor closes, and with the last one of a description that goes
module _ (desk : Desk) (is : IsDesk desk) (fd : ℕ) where
  abbrev left : List (ℕ × ℕ)
  left = filter (λ e. not (e.0 == fd)) desk.descriptors

  abbrev has : ℕ → Bool
  has d = list_any (λ f. f.1 == d) left

  find_left : (g : ℕ) → find nat_cmp g left ≡ cond (not (g == fd)) (find nat_cmp g desk.descriptors) None
  find_left g = find-where_key nat_cmp (λ k. not (k == fd)) g (λ x e. ap (λ k. not (k == fd)) (sym (nat_cmp-IsAntisymmetric g x e))) desk.descriptors

  find_has : (d : ℕ) → find nat_cmp d (filter (λ e. has e.0) desk.descriptions) ≡ cond (has d) (find nat_cmp d desk.descriptions) None
  find_has d = find-where_key nat_cmp has d (λ x e. ap has (sym (nat_cmp-IsAntisymmetric d x e))) desk.descriptions

  open_before : (g d : ℕ) → find nat_cmp g left ≡ Some d → find nat_cmp g desk.descriptors ≡ Some d
  open_before g d e = (passed (not (g == fd)) (find nat_cmp g desk.descriptors) d (sym (find_left g) ∙ e)).1

  pub closed_before : (d : ℕ) (it : Description) → find nat_cmp d (filter (λ e. has e.0) desk.descriptions) ≡ Some it → find nat_cmp d desk.descriptions ≡ Some it
  closed_before d it e = (passed (has d) (find nat_cmp d desk.descriptions) it (sym (find_has d) ∙ e)).1

  pub closing_is : IsDesk (record { descriptors = left; descriptions = filter (λ e. has e.0) desk.descriptions })
  closing_is = record {
    held = λ d it e. number_found nat_cmp nat_cmp_total nat_cmp-IsAntisymmetric d left (is_sorted-where_key nat_cmp (λ k. not (k == fd)) desk.descriptors is.sorted_descriptors) (passed (has d) (find nat_cmp d desk.descriptions) it (sym (find_has d) ∙ e)).0;
    there = λ g d e. let h = is.there g d (open_before g d e) in (h.0, find_has d ∙ ap (λ b. cond b (find nat_cmp d desk.descriptions) None) (some_found nat_cmp left g d e) ∙ h.1);
    low = λ g d e. is.low g d (open_before g d e);
    sorted_descriptors = is_sorted-where_key nat_cmp (λ k. not (k == fd)) desk.descriptors is.sorted_descriptors;
    sorted_descriptions = is_sorted-where_key nat_cmp has desk.descriptions is.sorted_descriptions;
  }

-- what is free has no description
pub free_number : (w : Step.World) (d : ℕ) → IsFree w d → find nat_cmp d w.desk.descriptions ≡ None
free_number w d free = by (find nat_cmp d w.desk.descriptions) free
  where
    by : (o : Option Description) → IsNone o → o ≡ None
    by None h = refl
    by (Some x) h = absurd (let bad : true ≡ false = h in cc)

-- the same over all calls
module _ (k : Limits) (d : ℕ) (w : Step.World) (free : IsFree w d) (is : IsDesk w.desk) where
  abbrev P : Step.After → Type 0
  P after = IsDesk after.world.desk

  moved : (fd : ℕ) (was : ℕ × Description) (it : Description) → opened w.desk fd ≡ Some was → IsDesk (with_description w.desk was.0 it)
  moved fd was it e = moving_is w.desk is was.0 was.1 it (opened_is w.desk fd was e)

  pub desks : (call : Call) → Outcomes.Each P (Step.effect k d w call)
  desks (calls.Open path flags) = Outcomes.open_each P w k d path flags (record {
    new = λ place fd spot l. opening_is w.desk is fd d _ l (free_number w d free);
    dir = λ place fd n e may l. opening_is w.desk is fd d _ l (free_number w d free);
    file = λ place fd n bytes e l. opening_is w.desk is fd d _ l (free_number w d free);
    cut = λ place fd n bytes e l. opening_is w.desk is fd d _ l (free_number w d free);
  })
  desks (calls.Close fd) = Outcomes.close_each P w fd (λ it e. closing_is w.desk is fd)
  desks (calls.Dup fd) = Outcomes.dup_each P w fd (λ it new e l. sharing_is w.desk is new it.0 it.1 l (opened_is w.desk fd it e))
  desks (calls.Read fd count) = Outcomes.read_each P w fd count (λ bytes it p e. moved fd it _ e)
  desks (calls.Write fd bytes) = Outcomes.write_each P w k fd bytes is (λ it p e may some. moved fd it _ e)
  desks (calls.Pread fd count offset) = Outcomes.pread_each P w fd count offset (λ bytes. is)
  desks (calls.Pwrite fd bytes offset) = Outcomes.pwrite_each P w k fd bytes offset is (λ it p e may some. is)
  desks (calls.Lseek fd whence offset) = Outcomes.lseek_each P w fd whence offset (λ n it p e. moved fd it _ e)
  desks (calls.Truncate path size) = Outcomes.truncate_each P w k path size (λ place e at there dir low. is)
  desks (calls.Ftruncate fd size) = Outcomes.ftruncate_each P w k fd size (λ it e write low. is)
  desks (calls.Mkdir path) = Outcomes.mkdir_each P w k path (λ place spot. is)
  desks (calls.Rmdir path) = Outcomes.rmdir_each P w path (λ place spot. is)
  desks (calls.Unlink path) = Outcomes.unlink_each P w path (λ place there dir. is)
  desks (calls.Rename old new) = Outcomes.rename_each P w old new is (λ p q move. is)
  desks (calls.Stat path) = Outcomes.stat_each P w path (λ reply e. is)
  desks (calls.Fstat fd) = Outcomes.fstat_each P w fd (λ o reply e. is)
  desks (calls.List path) = Outcomes.list_each P w path (λ reply e. is)
  desks (calls.Fsync fd) = Outcomes.fsync_each P w fd is
  desks calls.Sync = is
  desks calls.Room = is
  desks calls.Tree = is
  desks (calls.Work operations) = is
