-- The marks of pages.
use Rattle.std.specs.Prelude.{Bool, true, false}
use Rattle.kssd_values.specs.declared.mark.Mark.{Mark}
use Rattle.kssd_values.specs.declared.mark.Mark.TheVariants.{Pending, Visible, Dead}

-- whether an entry names the page: a visible one, or one of an open transaction
abbrev pub is_live : Mark → Bool
is_live Pending = true
is_live Visible = true
is_live Dead = false
