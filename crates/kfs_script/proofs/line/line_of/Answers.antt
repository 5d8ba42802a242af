use Rattle.kfs_script.proofs.ScriptLaws.{spells_line, spells_none}
use Rattle.kfs_script.proofs.line.line_of.Goals as goal

pub returns-in-Some-clause-read : goal.returns-in-Some-clause-read
returns-in-Some-clause-read c = rw (spells_line c.args.text.now c.cut.result.0.now _ c.in-Some.command c.cut.ensures.pieces c.in-Some.ensures) c.form_of.ensures.read

pub returns-in-None-clause-read : goal.returns-in-None-clause-read
returns-in-None-clause-read c = spells_none c.args.text.now c.cut.result.0.now _ c.cut.ensures.pieces c.in-None.ensures
