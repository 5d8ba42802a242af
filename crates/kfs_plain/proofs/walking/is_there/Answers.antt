use Rattle.std.proofs.Common.{◌≡◌, ◌∙◌, ap, is_some, refl, Option, Some, None}
use Rattle.std.specs.Option.{option_map}
use Rattle.kfs_plain.proofs.walking.is_there.Goals as goal

is_some-option_map : {A B : Type 0} (f : A → B) (o : Option A) → is_some o ≡ is_some (option_map f o)
is_some-option_map f None = refl
is_some-option_map f (Some x) = refl

pub returns : goal.returns
returns c = c.is_some.ensures ∙ is_some-option_map _ c.entry_at.result ∙ ap is_some c.entry_at.ensures
