use Rattle.std.proofs.Common.{List, ℕ, subst}
use Rattle.kfs_script.specs.Script.{script_of}
use Rattle.kfs_runner.specs.declared.reading.Unread.{Unread}
use Rattle.kfs_runner.specs.Reading.{StopsReading}
use Rattle.kfs_runner.specs.Ending.{IsScriptDue}
use Rattle.kfs_runner.proofs.Coming.{length_refused, script_comes}
use Rattle.kfs_runner.proofs.running.run_source.Goals as goal

pub returns-in-Ok : goal.returns-in-Ok
returns-in-Ok g c =
    let shelf = g.H.Shelf.side c.args.shelf.now in
    let put = g.H.Shelf.side c.run_script.new.shelf in
    let before = g.S.Source.side c.args.script.now in
    let now = g.S.Source.side c.read_to_end.new.source in
    let P : List ℕ → Type 0 = λ bytes. IsScriptDue (script_of bytes) shelf put c.run_script.result in
    script_comes shelf put before now c.in-Ok.text c.run_script.result c.in-Ok.ensures.whole c.in-Ok.ensures.limit (subst P c.bytes.ensures c.run_script.ensures) c.in-Ok.ensures.steady

pub returns-in-Err-TooLong : goal.returns-in-Err-TooLong
returns-in-Err-TooLong g c =
    let shelf = g.H.Shelf.side c.args.shelf.now in
    let before = g.S.Source.side c.args.script.now in
    let now = g.S.Source.side c.read_to_end.new.source in
    let P : Unread → Type 0 = λ cause. StopsReading before.bytes before.faults cause now.bytes now.faults in
    let stops = subst P c.in-Err-TooLong.field-0-is c.in-Err-TooLong.ensures.stops in
    length_refused shelf before now c.refused.result stops.0 c.refused.ensures stops.1
