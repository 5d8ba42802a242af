-- The objects that a call can name.
use Rattle.std.proofs.Common.{◌≡◌, ℕ, true, false, cond, refl, sym, ◌∙◌, ap, List, Option, Some, None}
use Rattle.std.specs.Cmp.Lexicographic.{nat_list_cmp_total}
use Rattle.std.specs.FinMap as objects
use Rattle.std.specs.FinMap.{nat_cmp-IsAntisymmetric, slice_cmp-IsAntisymmetric}
use Rattle.kv_device.specs.Objects.{Objects}
use Rattle.kfs_judge.specs.Judging.{is_key, heard, AllHeard}

-- what is found in them
pub get_heard : (m : Objects) (key : List ℕ) → objects.get (heard m) key ≡ cond (is_key key) (objects.get m key) None
get_heard m key = objects.get-retain_keys m is_key key (λ x e. ap is_key (sym (slice_cmp-IsAntisymmetric nat_cmp-IsAntisymmetric key x e)))

pub all_heard : AllHeard
all_heard m nameable = objects.same_map nat_list_cmp_total (slice_cmp-IsAntisymmetric nat_cmp-IsAntisymmetric) (heard m) m (λ key. get_heard m key ∙ by key (objects.get m key) (nameable key))
  where
    by : (key : List ℕ) (found : Option (List ℕ)) → ((value : List ℕ) → found ≡ Some value → is_key key ≡ true) → cond (is_key key) found None ≡ found
    by key None named = elim (is_key key) as (λ b. cond {A = Option (List ℕ)} b None None ≡ None) [ true ↦ refl | false ↦ refl ]
    by key (Some value) named = ap (λ b. cond b (Some value) None) (named value refl)
