use Rattle.std.proofs.Common.{◌≡◌, ◌∙◌, true, refl, sym, ap, subst, arith}
use Rattle.std.proofs.lemmas.Result.{err_from_is_err_and}
use Rattle.kv_nand.proofs.Chaining.{works_blocks, stops_blocks, works_within, stops_within}
use Rattle.kssd_index.proofs.Anchored.{aged_still}
use Rattle.kssd_index.specs.Costs.{has_place_in}
use Rattle.kssd_machine.specs.Names.{are_valued}
use Rattle.kssd_collect.proofs.Named.{AreOrdered, few, rising, group_short, group_paged, keys_low, pages_low, objects_logged, leaves_logged, machine_logged, copies_stand, stand_still, copies_dead, visible_marked, copies_hold, pending_valued, emptied}
use Rattle.kssd_collect.proofs.collection.name_copies.Goals as goal

pub returns-in_err-moves-clause-leaves : goal.returns-in_err-moves-clause-leaves
returns-in_err-moves-clause-leaves g c =
    let flash = g.N.Nand.flash c.args.nand.now in
    let busy = c.requires.copied.busy in
    let aged = aged_still c.args.mounted.now.index flash.blocks flash.image busy.index in
    record { blocks = refl; whole = busy.whole; age_is = omega arith }

pub log_entries-requires-clause-size : goal.log_entries-requires-clause-size
log_entries-requires-clause-size g c =
    let flash = g.N.Nand.flash c.args.nand.now in
    few c.args.reclaim.now c.args.mounted.now flash c.in_ok-moves.moves (record { copied = c.requires.copied; is = c.in_ok-moves.ensures.value; fits = c.in_ok-moves.ensures.fits; sound = g.met.N.Nand.sound c.args.nand.now })

pub log_entries-requires-clause-rising : goal.log_entries-requires-clause-rising
log_entries-requires-clause-rising g c =
    let flash = g.N.Nand.flash c.args.nand.now in
    rising c.args.reclaim.now c.args.mounted.now flash c.in_ok-moves.moves (record { copied = c.requires.copied; is = c.in_ok-moves.ensures.value; fits = c.in_ok-moves.ensures.fits; sound = g.met.N.Nand.sound c.args.nand.now })

pub log_entries-requires-clause-keys : goal.log_entries-requires-clause-keys
log_entries-requires-clause-keys g c =
    let flash = g.N.Nand.flash c.args.nand.now in
    keys_low c.args.reclaim.now c.args.mounted.now flash c.in_ok-moves.moves (record { copied = c.requires.copied; is = c.in_ok-moves.ensures.value; fits = c.in_ok-moves.ensures.fits; sound = g.met.N.Nand.sound c.args.nand.now })

pub log_entries-requires-clause-pages : goal.log_entries-requires-clause-pages
log_entries-requires-clause-pages g c =
    let flash = g.N.Nand.flash c.args.nand.now in
    pages_low c.args.reclaim.now c.args.mounted.now flash c.in_ok-moves.moves (record { copied = c.requires.copied; is = c.in_ok-moves.ensures.value; fits = c.in_ok-moves.ensures.fits; sound = g.met.N.Nand.sound c.args.nand.now })

pub returns-in_err-log_entries-clause-objects : goal.returns-in_err-log_entries-clause-objects
returns-in_err-log_entries-clause-objects g c =
    let old = g.N.Nand.flash c.args.nand.now in
    let new = g.N.Nand.flash c.log_entries.new.nand in
    objects_logged c.args.reclaim.now c.args.mounted.now old new.image c.in_ok-moves.moves (record { copied = c.requires.copied; is = c.in_ok-moves.ensures.value; fits = c.in_ok-moves.ensures.fits; sound = g.met.N.Nand.sound c.args.nand.now }) c.in_err-log_entries.ensures.kept

pub returns-in_err-log_entries-clause-leaves : goal.returns-in_err-log_entries-clause-leaves
returns-in_err-log_entries-clause-leaves g c =
    let old = g.N.Nand.flash c.args.nand.now in
    let new = g.N.Nand.flash c.log_entries.new.nand in
    leaves_logged c.args.reclaim.now c.args.mounted.now old new c.in_ok-moves.moves _ (record { copied = c.requires.copied; is = c.in_ok-moves.ensures.value; fits = c.in_ok-moves.ensures.fits; sound = g.met.N.Nand.sound c.args.nand.now }) c.in_err-log_entries.ensures.kept
    (stops_blocks old new _ _ _ c.in_err-log_entries.ensures.stops) c.in_err-log_entries.ensures.aged c.in_err-log_entries.ensures.ages

pub move_pending-requires-clause-copies : goal.move_pending-requires-clause-copies
move_pending-requires-clause-copies g c =
    stand_still c.args.reclaim.now c.args.mounted.now.values c.move_visible.new.values c.move_visible.ensures.places (copies_stand c.args.reclaim.now c.args.mounted.now (g.N.Nand.flash c.args.nand.now) c.requires.copied)

pub move_pending-requires-clause-dead : goal.move_pending-requires-clause-dead
move_pending-requires-clause-dead g c = copies_dead c.args.reclaim.now c.args.mounted.now (g.N.Nand.flash c.args.nand.now) c.move_visible.new.values c.requires.copied c.move_visible.ensures.marks

pub returns-clause-emptied : goal.returns-clause-emptied
returns-clause-emptied g c =
    let old = g.N.Nand.flash c.args.nand.now in
    let new = g.N.Nand.flash c.log_entries.new.nand in
    let r = c.args.reclaim.now in
    let m = c.args.mounted.now in
    let es = c.in_ok-moves.moves in
    let logged = c.in_ok-log_entries.ensures in
    let visible = c.move_visible.ensures in
    let pending = c.move_pending.ensures in
    let w = c.move_visible.new.values in
    let device = visible.places.device ∙ c.requires.copied.busy.device in
    let h : AreOrdered r m old es = record { copied = c.requires.copied; is = c.in_ok-moves.ensures.value; fits = c.in_ok-moves.ensures.fits; sound = g.met.N.Nand.sound c.args.nand.now } in
    emptied r m old new es c.log_entries.new.index w c.move_pending.new.values c.move_pending.new.changes _ _ h logged.kept logged.works logged.stands logged.shown visible.marks visible.places pending.marks pending.places
    pending.count (pending.rising h.copied.busy.rising)
    (subst (λ n. are_valued n new.image c.move_pending.new.changes ≡ true) device (pending.valued new.image (copies_hold r m old new.image es w h logged.kept visible.marks) (subst (λ n. are_valued n new.image m.changes ≡ true) (sym device) (pending_valued r m old new.image es h logged.kept))))
    (pending.marked _ (visible_marked r m old new.image es w h logged.shown visible.marks))

pub returns-clause-machine : goal.returns-clause-machine
returns-clause-machine g c =
    let old = g.N.Nand.flash c.args.nand.now in
    let new = g.N.Nand.flash c.log_entries.new.nand in
    let r = c.args.reclaim.now in
    let m = c.args.mounted.now in
    let es = c.in_ok-moves.moves in
    let logged = c.in_ok-log_entries.ensures in
    let h : AreOrdered r m old es = record { copied = c.requires.copied; is = c.in_ok-moves.ensures.value; fits = c.in_ok-moves.ensures.fits; sound = g.met.N.Nand.sound c.args.nand.now } in
    machine_logged r m old new es _ _ c.move_pending.new.changes h logged.kept logged.works (c.move_pending.ensures.pending new.image (copies_hold r m old new.image es c.move_visible.new.values h logged.kept c.move_visible.ensures.marks))

pub returns-clause-objects : goal.returns-clause-objects
returns-clause-objects g c =
    let old = g.N.Nand.flash c.args.nand.now in
    let new = g.N.Nand.flash c.log_entries.new.nand in
    objects_logged c.args.reclaim.now c.args.mounted.now old new.image c.in_ok-moves.moves (record { copied = c.requires.copied; is = c.in_ok-moves.ensures.value; fits = c.in_ok-moves.ensures.fits; sound = g.met.N.Nand.sound c.args.nand.now }) c.in_ok-log_entries.ensures.kept

pub returns-clause-leaves : goal.returns-clause-leaves
returns-clause-leaves g c =
    let old = g.N.Nand.flash c.args.nand.now in
    let new = g.N.Nand.flash c.log_entries.new.nand in
    leaves_logged c.args.reclaim.now c.args.mounted.now old new c.in_ok-moves.moves _ (record { copied = c.requires.copied; is = c.in_ok-moves.ensures.value; fits = c.in_ok-moves.ensures.fits; sound = g.met.N.Nand.sound c.args.nand.now }) c.in_ok-log_entries.ensures.kept
    (works_blocks old new _ _ c.in_ok-log_entries.ensures.works) c.in_ok-log_entries.ensures.aged c.in_ok-log_entries.ensures.ages

pub returns-in_err-log_entries-clause-placed_stops : goal.returns-in_err-log_entries-clause-placed_stops
returns-in_err-log_entries-clause-placed_stops g c place =
    let old = g.N.Nand.flash c.args.nand.now in
    let new = g.N.Nand.flash c.log_entries.new.nand in
    let m = c.args.mounted.now in
    let es = c.in_ok-moves.moves in
    let has : has_place_in m.index es ≡ true = ap (has_place_in m.index) c.in_ok-moves.ensures.value ∙ place in
    let short = group_short c.args.reclaim.now m old es (record { copied = c.requires.copied; is = c.in_ok-moves.ensures.value; fits = c.in_ok-moves.ensures.fits; sound = g.met.N.Nand.sound c.args.nand.now }) in
    let p = err_from_is_err_and c.from_residual-in_err-log_entries.result c.from_residual-in_err-log_entries.ensures.1 in
    rw (p.1, p.2) (stops_within old new _ _ 0 3 0 (c.in_err-log_entries.ensures.placed_stops has) short (omega arith))

pub returns-clause-placed : goal.returns-clause-placed
returns-clause-placed g c place =
    let old = g.N.Nand.flash c.args.nand.now in
    let new = g.N.Nand.flash c.log_entries.new.nand in
    let m = c.args.mounted.now in
    let es = c.in_ok-moves.moves in
    let has : has_place_in m.index es ≡ true = ap (has_place_in m.index) c.in_ok-moves.ensures.value ∙ place in
    let short = group_short c.args.reclaim.now m old es (record { copied = c.requires.copied; is = c.in_ok-moves.ensures.value; fits = c.in_ok-moves.ensures.fits; sound = g.met.N.Nand.sound c.args.nand.now }) in
    works_within old new _ 0 3 0 (c.in_ok-log_entries.ensures.placed has) short (omega arith)

pub move_visible-requires : goal.move_visible-requires
move_visible-requires g c = record { copies = copies_stand c.args.reclaim.now c.args.mounted.now (g.N.Nand.flash c.args.nand.now) c.requires.copied }

pub returns-in_err-log_entries-clause-unfrozen_stops : goal.returns-in_err-log_entries-clause-unfrozen_stops
returns-in_err-log_entries-clause-unfrozen_stops g c none =
    let old = g.N.Nand.flash c.args.nand.now in
    let pages = group_paged c.args.reclaim.now c.args.mounted.now old c.in_ok-moves.moves (record { copied = c.requires.copied; is = c.in_ok-moves.ensures.value; fits = c.in_ok-moves.ensures.fits; sound = g.met.N.Nand.sound c.args.nand.now }) in
    let p = err_from_is_err_and c.from_residual-in_err-log_entries.result c.from_residual-in_err-log_entries.ensures.1 in
    rw (p.1, p.2) (c.in_err-log_entries.ensures.unfrozen_stops none pages)

pub returns-clause-unfrozen : goal.returns-clause-unfrozen
returns-clause-unfrozen g c none =
    let old = g.N.Nand.flash c.args.nand.now in
    let pages = group_paged c.args.reclaim.now c.args.mounted.now old c.in_ok-moves.moves (record { copied = c.requires.copied; is = c.in_ok-moves.ensures.value; fits = c.in_ok-moves.ensures.fits; sound = g.met.N.Nand.sound c.args.nand.now }) in
    c.in_ok-log_entries.ensures.unfrozen none pages

pub returns-in_err-log_entries-clause-usual : goal.returns-in_err-log_entries-clause-usual
returns-in_err-log_entries-clause-usual g c low =
    let old = g.N.Nand.flash c.args.nand.now in
    let pages = group_paged c.args.reclaim.now c.args.mounted.now old c.in_ok-moves.moves (record { copied = c.requires.copied; is = c.in_ok-moves.ensures.value; fits = c.in_ok-moves.ensures.fits; sound = g.met.N.Nand.sound c.args.nand.now }) in
    c.log_entries.ensures.usual low pages

pub returns-clause-usual : goal.returns-clause-usual
returns-clause-usual g c low =
    let old = g.N.Nand.flash c.args.nand.now in
    let pages = group_paged c.args.reclaim.now c.args.mounted.now old c.in_ok-moves.moves (record { copied = c.requires.copied; is = c.in_ok-moves.ensures.value; fits = c.in_ok-moves.ensures.fits; sound = g.met.N.Nand.sound c.args.nand.now }) in
    c.log_entries.ensures.usual low pages
