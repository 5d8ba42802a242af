use Rattle.std.proofs.Common.{◌≡◌, ◌≤◌, ◌<◌, ◌∙◌, ◌+◌, ◌++◌, [], length, take, drop, refl, sym, ap, subst, arith, length-append, take-append-drop}
use Rattle.std.proofs.lemmas.List.{take_all, append-nil}
use Rattle.std.proofs.lemmas.Result.{err_from_is_err_and}
use Rattle.kssd_entry.specs.Spelling.{entry_bytes}
use Rattle.kssd_entry.specs.Packing.{with_entry}
use Rattle.kssd_log.specs.Ring.{IsBehind, paged, room_of, turns_for}
use Rattle.kssd_log.specs.Append.{Appends, pages_of}
use Rattle.kssd_log.proofs.Turning.{on_err}
use Rattle.kssd_log.proofs.Counting.{step_is, room_same, room_next, room_left, last_is, first_fits, pages_begin, number_fits, empty_takes, entry_bound, paged_ring}
use Rattle.kssd_log.proofs.Writing.{IsReady, ready, under_way_begins, under_way_takes, turn_fails, middle_left, middle_done, last_left, last_done, put_middle, put_last, turn_stops, put_stops, group_behind, group_begins}
use Rattle.kssd_log.proofs.place.Place.append_group.Goals as goal
use Rattle.kssd_log.proofs.place.Place.append_group.Goals.{in-Taken, in-NoRoom+in_ok-advance-in-NoRoom+in_ok-put_page-in-NoRoom}

pub loop-entry-init : goal.loop-entry-init
loop-entry-init g c = record {
  way = rw c.in_ok-packer.ensures (under_way_begins (g.N.Nand.flash c.args.nand.now) c.args.self.now (g.met.N.Nand.sound c.args.nand.now) c.requires.place);
  ring = c.requires.ring;
  room = rw c.in_ok-packer.ensures refl;
  size = rw c.in_ok-packer.ensures (omega arith);
  some = λ h. absurd (omega arith);
  first = λ h. absurd (omega arith);
}

-- ---- a page in the middle

pub advance-requires-clause-room : goal.advance-requires-clause-room
advance-requires-clause-room g c =
    let inv = c.loop-entry.invariant in
    let items = c.as_slice-entry-items.result.now in
    let i = c.loop-entry.entry-index in
    let step = step_is items i c.entry-item.result c.offer.ensures.fits c.loop-entry-test.true c.entry-item.is in
    let begin = pages_begin items (omega (arith, c.loop-entry-test.true)) (first_fits items i c.entry-item.result step c.loop-entry-test.true inv.first) in
    (room_left (length c.loop-entry.packer.bytes) inv.way.pages (room_of c.args.self.now) (room_of c.loop-entry.self) items i begin (rw c.as_slice-entry-items.ensures c.requires.room) inv.way.behind.room inv.room).0

pub advance-requires-clause-number : goal.advance-requires-clause-number
advance-requires-clause-number g c =
    let w = c.loop-entry.invariant.way in
    omega (arith, number_fits c.args.self.now c.loop-entry.self w.pages w.moved c.requires.ring c.requires.number w.behind)

pub returns-in_err-advance-in-NoRoom-clause-err : goal.returns-in_err-advance-in-NoRoom-clause-err
returns-in_err-advance-in-NoRoom-clause-err g c =
    let flash = g.N.Nand.flash in
    let inv = c.loop-entry.invariant in
    let items = c.as_slice-entry-items.result.now in
    let i = c.loop-entry.entry-index in
    let same = c.as_slice-entry-items.ensures in
    let total = pages_of c.args.entries.now in
    let step = step_is items i c.entry-item.result c.offer.ensures.fits c.loop-entry-test.true c.entry-item.is in
    let begin = pages_begin items (omega (arith, c.loop-entry-test.true)) (first_fits items i c.entry-item.result step c.loop-entry-test.true inv.first) in
    let left = room_left (length c.loop-entry.packer.bytes) inv.way.pages (room_of c.args.self.now) (room_of c.loop-entry.self) items i begin (rw same c.requires.room) inv.way.behind.room inv.room in
    let all : take i items ++ drop i items ≡ c.args.entries.now = take-append-drop i items ∙ same in
    let less : inv.way.pages + 1 ≤ total = omega (arith, left.1, ap pages_of same) in
    on_err _ _ (turn_fails (flash c.args.nand.now) c.args.self.now (flash c.loop-entry.nand) c.loop-entry.self (flash c.advance.new.nand).image c.loop-entry.packer (take i items) (drop i items) c.args.entries.now total inv.way c.in_err-advance-in-NoRoom.ensures.err all less left.0)

pub returns-in_err-advance-in-NoRoom-clause-stops : goal.returns-in_err-advance-in-NoRoom-clause-stops
returns-in_err-advance-in-NoRoom-clause-stops g c =
    let flash = g.N.Nand.flash in
    let inv = c.loop-entry.invariant in
    let items = c.as_slice-entry-items.result.now in
    let i = c.loop-entry.entry-index in
    let same = c.as_slice-entry-items.ensures in
    let total = pages_of c.args.entries.now in
    let step = step_is items i c.entry-item.result c.offer.ensures.fits c.loop-entry-test.true c.entry-item.is in
    let begin = pages_begin items (omega (arith, c.loop-entry-test.true)) (first_fits items i c.entry-item.result step c.loop-entry-test.true inv.first) in
    let left = room_left (length c.loop-entry.packer.bytes) inv.way.pages (room_of c.args.self.now) (room_of c.loop-entry.self) items i begin (rw same c.requires.room) inv.way.behind.room inv.room in
    let all : take i items ++ drop i items ≡ c.args.entries.now = take-append-drop i items ∙ same in
    let less : inv.way.pages + 1 ≤ total = omega (arith, left.1, ap pages_of same) in
    let p = err_from_is_err_and c.from_residual-in_err-advance-in-NoRoom.result c.from_residual-in_err-advance-in-NoRoom.ensures.1 in
    rw (p.1, p.2) (turn_stops (flash c.args.nand.now) c.args.self.now (flash c.loop-entry.nand) c.loop-entry.self (flash c.advance.new.nand) c.loop-entry.packer (take i items) _ total inv.way c.in_err-advance-in-NoRoom.ensures.stops less left.0)

pub returns-in_err-put_page-in-NoRoom-clause-err : goal.returns-in_err-put_page-in-NoRoom-clause-err
returns-in_err-put_page-in-NoRoom-clause-err g c =
    let flash = g.N.Nand.flash in
    let inv = c.loop-entry.invariant in
    let items = c.as_slice-entry-items.result.now in
    let i = c.loop-entry.entry-index in
    let same = c.as_slice-entry-items.ensures in
    let total = pages_of c.args.entries.now in
    let step = step_is items i c.entry-item.result c.offer.ensures.fits c.loop-entry-test.true c.entry-item.is in
    let begin = pages_begin items (omega (arith, c.loop-entry-test.true)) (first_fits items i c.entry-item.result step c.loop-entry-test.true inv.first) in
    let left = room_left (length c.loop-entry.packer.bytes) inv.way.pages (room_of c.args.self.now) (room_of c.loop-entry.self) items i begin (rw same c.requires.room) inv.way.behind.room inv.room in
    let all : take i items ++ drop i items ≡ c.args.entries.now = take-append-drop i items ∙ same in
    let less : inv.way.pages + 1 ≤ total = omega (arith, left.1, ap pages_of same) in
    let ok = c.in_ok-advance-in-NoRoom.ensures in
    let offered = c.in-NoRoom.ensures.offer.1 in
    let before = ready (flash c.args.nand.now) c.args.self.now (flash c.loop-entry.nand) c.loop-entry.self (flash c.advance.new.nand) c.advance.new.self c.loop-entry.packer (take i items) total inv.way ok.ok ok.place ok.outside ok.behind (ok.works, ok.exact) ok.inner c.advance.ensures.ring left.0 less in
    let now = subst (λ p. IsReady (flash c.args.nand.now) c.args.self.now (flash c.advance.new.nand) c.advance.new.self p (take i items) total) (sym offered) before in
    let put = put_middle (flash c.args.nand.now) c.args.self.now (flash c.advance.new.nand) (flash c.put_page.new.nand) c.advance.new.self c.offer.new.self (take i items) c.entry-item.result total now c.put_page.ensures.left step.fits (rw offered c.in-NoRoom.ensures.offer.0) (rw offered inv.size) c.requires.ring c.requires.number in
    on_err _ _ (middle_left (flash c.args.nand.now) c.args.self.now (flash c.advance.new.nand) (flash c.put_page.new.nand) c.advance.new.self c.offer.new.self (take i items) (drop i items) c.args.entries.now total now.way put all now.less)

pub returns-in_err-put_page-in-NoRoom-clause-stops : goal.returns-in_err-put_page-in-NoRoom-clause-stops
returns-in_err-put_page-in-NoRoom-clause-stops g c =
    let flash = g.N.Nand.flash in
    let inv = c.loop-entry.invariant in
    let items = c.as_slice-entry-items.result.now in
    let i = c.loop-entry.entry-index in
    let same = c.as_slice-entry-items.ensures in
    let total = pages_of c.args.entries.now in
    let step = step_is items i c.entry-item.result c.offer.ensures.fits c.loop-entry-test.true c.entry-item.is in
    let begin = pages_begin items (omega (arith, c.loop-entry-test.true)) (first_fits items i c.entry-item.result step c.loop-entry-test.true inv.first) in
    let left = room_left (length c.loop-entry.packer.bytes) inv.way.pages (room_of c.args.self.now) (room_of c.loop-entry.self) items i begin (rw same c.requires.room) inv.way.behind.room inv.room in
    let all : take i items ++ drop i items ≡ c.args.entries.now = take-append-drop i items ∙ same in
    let less : inv.way.pages + 1 ≤ total = omega (arith, left.1, ap pages_of same) in
    let ok = c.in_ok-advance-in-NoRoom.ensures in
    let offered = c.in-NoRoom.ensures.offer.1 in
    let before = ready (flash c.args.nand.now) c.args.self.now (flash c.loop-entry.nand) c.loop-entry.self (flash c.advance.new.nand) c.advance.new.self c.loop-entry.packer (take i items) total inv.way ok.ok ok.place ok.outside ok.behind (ok.works, ok.exact) ok.inner c.advance.ensures.ring left.0 less in
    let now = subst (λ p. IsReady (flash c.args.nand.now) c.args.self.now (flash c.advance.new.nand) c.advance.new.self p (take i items) total) (sym offered) before in
    let p = err_from_is_err_and c.from_residual-in_err-put_page-in-NoRoom.result c.from_residual-in_err-put_page-in-NoRoom.ensures.1 in
    rw (p.1, p.2) (put_stops (flash c.args.nand.now) c.args.self.now (flash c.advance.new.nand) c.advance.new.self (flash c.put_page.new.nand) c.offer.new.self (take i items) _ total now.way c.in_err-put_page-in-NoRoom.ensures.stops now.less now.room)

pub loop-entry-preserved : goal.loop-entry-preserved
loop-entry-preserved g c =
    let flash = g.N.Nand.flash in
    let inv = c.loop-entry.invariant in
    let items = c.as_slice-entry-items.result.now in
    let i = c.loop-entry.entry-index in
    let e = c.entry-item.result in
    let same_items = c.as_slice-entry-items.ensures in
    let total = pages_of c.args.entries.now in
    let step = step_is items i e c.offer.ensures.fits c.loop-entry-test.true c.entry-item.is in
    let first = first_fits items i e step c.loop-entry-test.true inv.first in
    let begin = pages_begin items (omega (arith, c.loop-entry-test.true)) first in
    let left = room_left (length c.loop-entry.packer.bytes) inv.way.pages (room_of c.args.self.now) (room_of c.loop-entry.self) items i begin (rw same_items c.requires.room) inv.way.behind.room inv.room in
    let less : inv.way.pages + 1 ≤ total = omega (arith, left.1, ap pages_of same_items) in
    elim c.match-offer.branch [
      | in-Taken w ↦
          let now = w.in-Taken.ensures.offer.1 in
          let used = ap (λ p. length p.bytes) now ∙ length-append c.loop-entry.packer.bytes (entry_bytes e) in
          rw (w.self-is, w.nand-is, w.packer-is, step.taken) (record {
            way = under_way_takes (flash c.args.nand.now) c.args.self.now (flash c.loop-entry.nand) c.loop-entry.self c.loop-entry.packer c.offer.new.self (take i items) e inv.way step.fits now;
            ring = inv.ring;
            room = rw used (room_same items i e (length c.loop-entry.packer.bytes) _ _ step w.in-Taken.ensures.offer.0 inv.room);
            size = omega (arith, used, w.in-Taken.ensures.offer.0);
            some = λ _. omega (arith, ap (λ p. p.count) now);
            first = λ _. first;
          })
      | in-NoRoom+in_ok-advance-in-NoRoom+in_ok-put_page-in-NoRoom w ↦
          let turn = w.in_ok-advance-in-NoRoom.ensures in
          let ok = w.in_ok-put_page-in-NoRoom.ensures in
          let same = w.in-NoRoom.ensures.offer.1 in
          let more = w.in-NoRoom.ensures.offer.0 in
          let before = ready (flash c.args.nand.now) c.args.self.now (flash c.loop-entry.nand) c.loop-entry.self (flash w.advance.new.nand) w.advance.new.self c.loop-entry.packer (take i items) total inv.way turn.ok turn.place turn.outside turn.behind (turn.works, turn.exact) turn.inner w.advance.ensures.ring left.0 less in
          let now = subst (λ p. IsReady (flash c.args.nand.now) c.args.self.now (flash w.advance.new.nand) w.advance.new.self p (take i items) total) (sym same) before in
          let put = put_middle (flash c.args.nand.now) c.args.self.now (flash w.advance.new.nand) (flash w.put_page.new.nand) w.advance.new.self c.offer.new.self (take i items) e total now w.put_page.ensures.left step.fits (rw same more) (rw same inv.size) c.requires.ring c.requires.number in
          let after = middle_done (flash c.args.nand.now) c.args.self.now (flash w.advance.new.nand) (flash w.put_page.new.nand) w.advance.new.self c.offer.new.self (take i items) total now.way put ok.ok (ok.works, ok.exact) in
          let offered : w.offer-in-NoRoom.new.self ≡ with_entry (record { bytes = []; count = 0 }) e = empty_takes w.offer-in-NoRoom.result e w.offer-in-NoRoom.new.self step.fits (rw ok.packer at w.offer-in-NoRoom.ensures.offer) in
          let one : room_of (paged w.advance.new.self) + 1 ≡ room_of c.loop-entry.self = omega (arith, now.room, turn.inner, turn.behind.room) in
          rw (w.self-is, w.nand-is, w.packer-is, ok.next, step.taken, offered) (record {
            way = under_way_takes (flash c.args.nand.now) c.args.self.now (flash w.put_page.new.nand) _ _ _ (take i items) e after step.fits refl;
            ring = paged_ring w.advance.new.self turn.inner w.advance.ensures.ring;
            room = room_next items i e (length c.loop-entry.packer.bytes) _ _ _ _ step more one inv.room;
            size = omega (arith, entry_bound e step.fits);
            some = λ _. omega arith;
            first = λ _. first;
          })
    ]

-- ---- the last page

pub advance-requires-2-clause-room : goal.advance-requires-2-clause-room
advance-requires-2-clause-room g c =
    let flash = g.N.Nand.flash in
    let inv = c.loop-entry.invariant in
    let items = c.as_slice-entry-items.result.now in
    let i = c.loop-entry.entry-index in
    let same = c.as_slice-entry-items.ensures in
    let total = pages_of c.args.entries.now in
    let some : 0 < i = omega (arith, ap length same, c.requires.some, c.loop-entry-test.false) in
    let begin = pages_begin items (omega (arith, ap length same, c.requires.some)) (inv.first some) in
    let left = room_left (length c.loop-entry.packer.bytes) inv.way.pages (room_of c.args.self.now) (room_of c.loop-entry.self) items i begin (rw same c.requires.room) inv.way.behind.room inv.room in
    let all : take i items ≡ c.args.entries.now = take_all _ _ c.loop-entry-test.false ∙ same in
    let less : inv.way.pages + 1 ≤ total = omega (arith, left.1, ap pages_of same) in
    left.0

pub returns-in_err-advance-clause-err : goal.returns-in_err-advance-clause-err
returns-in_err-advance-clause-err g c =
    let flash = g.N.Nand.flash in
    let inv = c.loop-entry.invariant in
    let items = c.as_slice-entry-items.result.now in
    let i = c.loop-entry.entry-index in
    let same = c.as_slice-entry-items.ensures in
    let total = pages_of c.args.entries.now in
    let some : 0 < i = omega (arith, ap length same, c.requires.some, c.loop-entry-test.false) in
    let begin = pages_begin items (omega (arith, ap length same, c.requires.some)) (inv.first some) in
    let left = room_left (length c.loop-entry.packer.bytes) inv.way.pages (room_of c.args.self.now) (room_of c.loop-entry.self) items i begin (rw same c.requires.room) inv.way.behind.room inv.room in
    let all : take i items ≡ c.args.entries.now = take_all _ _ c.loop-entry-test.false ∙ same in
    let less : inv.way.pages + 1 ≤ total = omega (arith, left.1, ap pages_of same) in
    let whole : take i items ++ [] ≡ c.args.entries.now = append-nil (take i items) ∙ all in
    on_err _ _ (turn_fails (flash c.args.nand.now) c.args.self.now (flash c.loop-entry.nand) c.loop-entry.self (flash c.advance-2.new.nand).image c.loop-entry.packer (take i items) [] c.args.entries.now total inv.way c.in_err-advance.ensures.err whole less left.0)

pub returns-in_err-advance-clause-stops : goal.returns-in_err-advance-clause-stops
returns-in_err-advance-clause-stops g c =
    let flash = g.N.Nand.flash in
    let inv = c.loop-entry.invariant in
    let items = c.as_slice-entry-items.result.now in
    let i = c.loop-entry.entry-index in
    let same = c.as_slice-entry-items.ensures in
    let total = pages_of c.args.entries.now in
    let some : 0 < i = omega (arith, ap length same, c.requires.some, c.loop-entry-test.false) in
    let begin = pages_begin items (omega (arith, ap length same, c.requires.some)) (inv.first some) in
    let left = room_left (length c.loop-entry.packer.bytes) inv.way.pages (room_of c.args.self.now) (room_of c.loop-entry.self) items i begin (rw same c.requires.room) inv.way.behind.room inv.room in
    let all : take i items ≡ c.args.entries.now = take_all _ _ c.loop-entry-test.false ∙ same in
    let less : inv.way.pages + 1 ≤ total = omega (arith, left.1, ap pages_of same) in
    let p = err_from_is_err_and c.from_residual-in_err-advance.result c.from_residual-in_err-advance.ensures.1 in
    rw (p.1, p.2) (turn_stops (flash c.args.nand.now) c.args.self.now (flash c.loop-entry.nand) c.loop-entry.self (flash c.advance-2.new.nand) c.loop-entry.packer (take i items) _ total inv.way c.in_err-advance.ensures.stops less left.0)

pub returns-in_err-put_page-clause-err : goal.returns-in_err-put_page-clause-err
returns-in_err-put_page-clause-err g c =
    let flash = g.N.Nand.flash in
    let inv = c.loop-entry.invariant in
    let items = c.as_slice-entry-items.result.now in
    let i = c.loop-entry.entry-index in
    let same = c.as_slice-entry-items.ensures in
    let total = pages_of c.args.entries.now in
    let some : 0 < i = omega (arith, ap length same, c.requires.some, c.loop-entry-test.false) in
    let begin = pages_begin items (omega (arith, ap length same, c.requires.some)) (inv.first some) in
    let left = room_left (length c.loop-entry.packer.bytes) inv.way.pages (room_of c.args.self.now) (room_of c.loop-entry.self) items i begin (rw same c.requires.room) inv.way.behind.room inv.room in
    let all : take i items ≡ c.args.entries.now = take_all _ _ c.loop-entry-test.false ∙ same in
    let less : inv.way.pages + 1 ≤ total = omega (arith, left.1, ap pages_of same) in
    let ok = c.in_ok-advance.ensures in
    let before = ready (flash c.args.nand.now) c.args.self.now (flash c.loop-entry.nand) c.loop-entry.self (flash c.advance-2.new.nand) c.advance-2.new.self c.loop-entry.packer (take i items) total inv.way ok.ok ok.place ok.outside ok.behind (ok.works, ok.exact) ok.inner c.advance-2.ensures.ring left.0 less in
    let now = subst (λ taken. IsReady (flash c.args.nand.now) c.args.self.now (flash c.advance-2.new.nand) c.advance-2.new.self c.loop-entry.packer taken total) all before in
    let put = put_last (flash c.args.nand.now) c.args.self.now (flash c.advance-2.new.nand) (flash c.put_page-2.new.nand) c.advance-2.new.self c.loop-entry.packer c.args.entries.now total now c.put_page-2.ensures.left (inv.some some) inv.size c.requires.ring c.requires.number in
    on_err _ _ (last_left (flash c.args.nand.now) c.args.self.now (flash c.advance-2.new.nand) (flash c.put_page-2.new.nand) c.advance-2.new.self c.loop-entry.packer c.args.entries.now total now.way put now.less)

pub returns-in_err-put_page-clause-stops : goal.returns-in_err-put_page-clause-stops
returns-in_err-put_page-clause-stops g c =
    let flash = g.N.Nand.flash in
    let inv = c.loop-entry.invariant in
    let items = c.as_slice-entry-items.result.now in
    let i = c.loop-entry.entry-index in
    let same = c.as_slice-entry-items.ensures in
    let total = pages_of c.args.entries.now in
    let some : 0 < i = omega (arith, ap length same, c.requires.some, c.loop-entry-test.false) in
    let begin = pages_begin items (omega (arith, ap length same, c.requires.some)) (inv.first some) in
    let left = room_left (length c.loop-entry.packer.bytes) inv.way.pages (room_of c.args.self.now) (room_of c.loop-entry.self) items i begin (rw same c.requires.room) inv.way.behind.room inv.room in
    let all : take i items ≡ c.args.entries.now = take_all _ _ c.loop-entry-test.false ∙ same in
    let less : inv.way.pages + 1 ≤ total = omega (arith, left.1, ap pages_of same) in
    let ok = c.in_ok-advance.ensures in
    let before = ready (flash c.args.nand.now) c.args.self.now (flash c.loop-entry.nand) c.loop-entry.self (flash c.advance-2.new.nand) c.advance-2.new.self c.loop-entry.packer (take i items) total inv.way ok.ok ok.place ok.outside ok.behind (ok.works, ok.exact) ok.inner c.advance-2.ensures.ring left.0 less in
    let now = subst (λ taken. IsReady (flash c.args.nand.now) c.args.self.now (flash c.advance-2.new.nand) c.advance-2.new.self c.loop-entry.packer taken total) all before in
    let p = err_from_is_err_and c.from_residual-in_err-put_page.result c.from_residual-in_err-put_page.ensures.1 in
    rw (p.1, p.2) (put_stops (flash c.args.nand.now) c.args.self.now (flash c.advance-2.new.nand) c.advance-2.new.self (flash c.put_page-2.new.nand) c.loop-entry.packer c.args.entries.now _ total now.way c.in_err-put_page.ensures.stops now.less now.room)

pub returns-clause-ok : goal.returns-clause-ok
returns-clause-ok g c =
    let flash = g.N.Nand.flash in
    let inv = c.loop-entry.invariant in
    let items = c.as_slice-entry-items.result.now in
    let i = c.loop-entry.entry-index in
    let same = c.as_slice-entry-items.ensures in
    let total = pages_of c.args.entries.now in
    let some : 0 < i = omega (arith, ap length same, c.requires.some, c.loop-entry-test.false) in
    let begin = pages_begin items (omega (arith, ap length same, c.requires.some)) (inv.first some) in
    let left = room_left (length c.loop-entry.packer.bytes) inv.way.pages (room_of c.args.self.now) (room_of c.loop-entry.self) items i begin (rw same c.requires.room) inv.way.behind.room inv.room in
    let all : take i items ≡ c.args.entries.now = take_all _ _ c.loop-entry-test.false ∙ same in
    let less : inv.way.pages + 1 ≤ total = omega (arith, left.1, ap pages_of same) in
    let ok = c.in_ok-advance.ensures in
    let before = ready (flash c.args.nand.now) c.args.self.now (flash c.loop-entry.nand) c.loop-entry.self (flash c.advance-2.new.nand) c.advance-2.new.self c.loop-entry.packer (take i items) total inv.way ok.ok ok.place ok.outside ok.behind (ok.works, ok.exact) ok.inner c.advance-2.ensures.ring left.0 less in
    let now = subst (λ taken. IsReady (flash c.args.nand.now) c.args.self.now (flash c.advance-2.new.nand) c.advance-2.new.self c.loop-entry.packer taken total) all before in
    let done : inv.way.pages + 1 ≡ total = last_is (length c.loop-entry.packer.bytes) inv.way.pages (room_of c.args.self.now) (room_of c.loop-entry.self) items i begin c.loop-entry-test.false inv.way.behind.room inv.room ∙ ap pages_of same in
    let put = put_last (flash c.args.nand.now) c.args.self.now (flash c.advance-2.new.nand) (flash c.put_page-2.new.nand) c.advance-2.new.self c.loop-entry.packer c.args.entries.now total now c.put_page-2.ensures.left (inv.some some) inv.size c.requires.ring c.requires.number in
    subst (λ p. Appends (turns_for c.args.self.now total) (flash c.args.nand.now).image c.args.self.now c.args.entries.now (flash c.put_page-2.new.nand).image p) (sym c.in_ok-put_page.ensures.next)
    (last_done (flash c.args.nand.now) c.args.self.now (flash c.advance-2.new.nand) (flash c.put_page-2.new.nand) c.advance-2.new.self c.loop-entry.packer c.args.entries.now total now.way put (omega arith) c.in_ok-put_page.ensures.ok)

pub returns-clause-behind : goal.returns-clause-behind
returns-clause-behind g c =
    let flash = g.N.Nand.flash in
    let inv = c.loop-entry.invariant in
    let items = c.as_slice-entry-items.result.now in
    let i = c.loop-entry.entry-index in
    let same = c.as_slice-entry-items.ensures in
    let total = pages_of c.args.entries.now in
    let some : 0 < i = omega (arith, ap length same, c.requires.some, c.loop-entry-test.false) in
    let begin = pages_begin items (omega (arith, ap length same, c.requires.some)) (inv.first some) in
    let left = room_left (length c.loop-entry.packer.bytes) inv.way.pages (room_of c.args.self.now) (room_of c.loop-entry.self) items i begin (rw same c.requires.room) inv.way.behind.room inv.room in
    let all : take i items ≡ c.args.entries.now = take_all _ _ c.loop-entry-test.false ∙ same in
    let less : inv.way.pages + 1 ≤ total = omega (arith, left.1, ap pages_of same) in
    let ok = c.in_ok-advance.ensures in
    let before = ready (flash c.args.nand.now) c.args.self.now (flash c.loop-entry.nand) c.loop-entry.self (flash c.advance-2.new.nand) c.advance-2.new.self c.loop-entry.packer (take i items) total inv.way ok.ok ok.place ok.outside ok.behind (ok.works, ok.exact) ok.inner c.advance-2.ensures.ring left.0 less in
    let now = subst (λ taken. IsReady (flash c.args.nand.now) c.args.self.now (flash c.advance-2.new.nand) c.advance-2.new.self c.loop-entry.packer taken total) all before in
    let done : inv.way.pages + 1 ≡ total = last_is (length c.loop-entry.packer.bytes) inv.way.pages (room_of c.args.self.now) (room_of c.loop-entry.self) items i begin c.loop-entry-test.false inv.way.behind.room inv.room ∙ ap pages_of same in
    subst (λ p. IsBehind c.args.self.now total (turns_for c.args.self.now total) p) (sym c.in_ok-put_page.ensures.next)
    (group_behind (flash c.args.nand.now) c.args.self.now (flash c.advance-2.new.nand) c.advance-2.new.self c.loop-entry.packer c.args.entries.now total now (omega arith))

pub returns-clause-works : goal.returns-clause-works
returns-clause-works g c =
    let flash = g.N.Nand.flash in
    let inv = c.loop-entry.invariant in
    let items = c.as_slice-entry-items.result.now in
    let i = c.loop-entry.entry-index in
    let same = c.as_slice-entry-items.ensures in
    let total = pages_of c.args.entries.now in
    let some : 0 < i = omega (arith, ap length same, c.requires.some, c.loop-entry-test.false) in
    let begin = pages_begin items (omega (arith, ap length same, c.requires.some)) (inv.first some) in
    let left = room_left (length c.loop-entry.packer.bytes) inv.way.pages (room_of c.args.self.now) (room_of c.loop-entry.self) items i begin (rw same c.requires.room) inv.way.behind.room inv.room in
    let all : take i items ≡ c.args.entries.now = take_all _ _ c.loop-entry-test.false ∙ same in
    let less : inv.way.pages + 1 ≤ total = omega (arith, left.1, ap pages_of same) in
    let ok = c.in_ok-advance.ensures in
    let before = ready (flash c.args.nand.now) c.args.self.now (flash c.loop-entry.nand) c.loop-entry.self (flash c.advance-2.new.nand) c.advance-2.new.self c.loop-entry.packer (take i items) total inv.way ok.ok ok.place ok.outside ok.behind (ok.works, ok.exact) ok.inner c.advance-2.ensures.ring left.0 less in
    let now = subst (λ taken. IsReady (flash c.args.nand.now) c.args.self.now (flash c.advance-2.new.nand) c.advance-2.new.self c.loop-entry.packer taken total) all before in
    let done : inv.way.pages + 1 ≡ total = last_is (length c.loop-entry.packer.bytes) inv.way.pages (room_of c.args.self.now) (room_of c.loop-entry.self) items i begin c.loop-entry-test.false inv.way.behind.room inv.room ∙ ap pages_of same in
    (group_begins (flash c.args.nand.now) c.args.self.now (flash c.advance-2.new.nand) (flash c.put_page-2.new.nand) c.advance-2.new.self c.loop-entry.packer c.args.entries.now total now (omega arith) (c.in_ok-put_page.ensures.works, c.in_ok-put_page.ensures.exact)).0

pub returns-clause-exact : goal.returns-clause-exact
returns-clause-exact g c =
    let flash = g.N.Nand.flash in
    let inv = c.loop-entry.invariant in
    let items = c.as_slice-entry-items.result.now in
    let i = c.loop-entry.entry-index in
    let same = c.as_slice-entry-items.ensures in
    let total = pages_of c.args.entries.now in
    let some : 0 < i = omega (arith, ap length same, c.requires.some, c.loop-entry-test.false) in
    let begin = pages_begin items (omega (arith, ap length same, c.requires.some)) (inv.first some) in
    let left = room_left (length c.loop-entry.packer.bytes) inv.way.pages (room_of c.args.self.now) (room_of c.loop-entry.self) items i begin (rw same c.requires.room) inv.way.behind.room inv.room in
    let all : take i items ≡ c.args.entries.now = take_all _ _ c.loop-entry-test.false ∙ same in
    let less : inv.way.pages + 1 ≤ total = omega (arith, left.1, ap pages_of same) in
    let ok = c.in_ok-advance.ensures in
    let before = ready (flash c.args.nand.now) c.args.self.now (flash c.loop-entry.nand) c.loop-entry.self (flash c.advance-2.new.nand) c.advance-2.new.self c.loop-entry.packer (take i items) total inv.way ok.ok ok.place ok.outside ok.behind (ok.works, ok.exact) ok.inner c.advance-2.ensures.ring left.0 less in
    let now = subst (λ taken. IsReady (flash c.args.nand.now) c.args.self.now (flash c.advance-2.new.nand) c.advance-2.new.self c.loop-entry.packer taken total) all before in
    let done : inv.way.pages + 1 ≡ total = last_is (length c.loop-entry.packer.bytes) inv.way.pages (room_of c.args.self.now) (room_of c.loop-entry.self) items i begin c.loop-entry-test.false inv.way.behind.room inv.room ∙ ap pages_of same in
    (group_begins (flash c.args.nand.now) c.args.self.now (flash c.advance-2.new.nand) (flash c.put_page-2.new.nand) c.advance-2.new.self c.loop-entry.packer c.args.entries.now total now (omega arith) (c.in_ok-put_page.ensures.works, c.in_ok-put_page.ensures.exact)).1
