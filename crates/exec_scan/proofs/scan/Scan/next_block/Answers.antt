use Rattle.catalog_types.specs.Blank.{blank_container as blank}
use Rattle.std.proofs.Common.{◌≡◌, ◌≤◌, false, ◌<◌, ◌+◌, ◌*◌, ◌∙◌, List, ℕ, length, get_or, sym, subst, arith}
use Rattle.std.specs.Prelude.{Option, Some, IsSomeAnd}
use Rattle.std.specs.List.{slice_get}
use Rattle.common_laws.specs.Maps.{Contents}
use Rattle.col_disk.proofs.Moving.{moved_join}
use Rattle.pos_index.specs.Index.{blocks}
use Rattle.ros_container.specs.Encodings.{written_of}
use Rattle.ros_container.specs.Held.{BlamesContainer}
use Rattle.stored_rows.specs.Stored.{Beside, mark_in}
use Rattle.row_bounds.specs.declared.bound.Bound.{Bound}
use Rattle.exec_scan.specs.Opened.{HasOpened, IsOpening}
use Rattle.exec_scan.specs.Counting.{HaveIndexes, cost_left}
use Rattle.exec_scan.specs.Passing.{IsPassed, is_passed}
use Rattle.exec_scan.specs.Reading.{OfBlock, ShowsRows}
use Rattle.exec_scan.specs.Scanning.{AreLeft, Gives, HasOpenedAt, IsAtHand, IsScanOf, Place, steps_left}
use Rattle.exec_scan.proofs.Blames.{at_hand_on, blames_at, block_blames}
use Rattle.exec_scan.proofs.Costs.{block_spends, done_costs}
use Rattle.exec_scan.proofs.Stepping.{at_place, block_gives, block_unblamed, done_fewer, done_gives, done_scan, handed, next_fewer, next_scan, opening_here, unblamed_at}
use Rattle.exec_scan.proofs.scan.Scan.next_block.Goals as goal

pub returns-in-Err-clause-unblamed : goal.returns-in-Err-clause-unblamed
returns-in-Err-clause-unblamed g c = λ m told left are.
    let s = c.self.inside in
    let p = c.args.store.now.stored in
    let was = subst (λ (x : Place). AreLeft m p x left) (sym c.self.view_is) are in
    let there : s.container < length p.entry.containers = subst (λ (x : Place). x.container < length p.entry.containers) (sym c.self.view_is) c.requires.there in
    unblamed_at m (g.D.Disk.holds c.args.disk.now) p s.epoch s.places.items s.bounds.items s.stamps s.container s.block s.opened s.taken left c.in-Err.fault told there was c.in-Err.ensures.blamed

pub returns-in-Err-clause-blamed : goal.returns-in-Err-clause-blamed
returns-in-Err-clause-blamed g c = λ at. blames_at c.args.store.now.stored.entry c.self.inside.container (g.D.Disk.holds c.args.disk.now) c.in-Err.fault c.in-Err.ensures.blamed

pub returns-then-block-count-clause-scan : goal.returns-then-block-count-clause-scan
returns-then-block-count-clause-scan g c =
    let s = c.self.inside in
    let p = c.args.store.now.stored.entry in
    let scan = subst (λ (x : Place). IsScanOf p x) (sym c.self.view_is) c.requires.scan in
    done_scan p s.epoch s.places.items s.bounds.items s.stamps s.container s.block s.opened c.take-opened.new.self s.taken c.take-opened.ensures.after scan

pub returns-then-block-count-clause-gives : goal.returns-then-block-count-clause-gives
returns-then-block-count-clause-gives g c = λ m told left are.
    let s = c.self.inside in
    let p = c.args.store.now.stored in
    let was = subst (λ (x : Place). AreLeft m p x left) (sym c.self.view_is) are in
    let there : s.container < length p.entry.containers = subst (λ (x : Place). x.container < length p.entry.containers) (sym c.self.view_is) c.requires.there in
    let scan = subst (λ (x : Place). IsScanOf p.entry x) (sym c.self.view_is) c.requires.scan in
    let has = handed p s.container s.places.items c.as_slice.result.now s.opened c.take-opened.result m (g.D.Disk.holds c.args.disk.now) c.in-Ok.opened c.take-opened.ensures.value c.as_slice.ensures.value told was.at_hand c.in-Ok.ensures.held in
    let opening = subst (λ (ps : List (Option ℕ)). IsSomeAnd (slice_get p.entry.containers s.container) (λ k. IsOpening k.rows ps c.in-Ok.opened)) c.as_slice.ensures.value c.in-Ok.ensures.opening in
    let past : blocks (get_or c.as_slice-2.result.now s.container blank).rows ≤ c.next_needed-block.result = omega (arith, c.if-block-count.true, c.blocks_of-count.ensures) in
    let misses = subst (λ (w : List Bound). (j : ℕ) → s.block ≤ j → j < c.next_needed-block.result → IsPassed w c.in-Ok.opened.indexes j) c.as_slice-3.ensures.value c.next_needed-block.ensures.passed in
    subst (λ (x : Place). Gives m p x (at_place s.epoch s.places.items s.bounds.items s.stamps (s.container + 1) 0 c.take-opened.new.self s.taken) left (Some c.empty.result)) c.self.view_is
    (done_gives c.values_lie_between.ensures m (g.D.Disk.holds c.args.disk.now) p s.epoch s.places.items s.bounds.items s.stamps s.container s.block c.next_needed-block.result s.opened c.take-opened.new.self c.in-Ok.opened s.taken c.empty.result c.entry-shape.result.now c.as_slice-2.result.now left
    told c.entry-shape.ensures.entry c.as_slice-2.ensures there past c.take-opened.ensures.after c.empty.ensures.rows c.empty.ensures.inserted scan.own has opening misses was)

pub returns-then-block-count-clause-fewer : goal.returns-then-block-count-clause-fewer
returns-then-block-count-clause-fewer g c =
    let s = c.self.inside in
    let p = c.args.store.now.stored in
    let u = length p.unsaved in
    let scan = subst (λ (x : Place). IsScanOf p.entry x) (sym c.self.view_is) c.requires.scan in
    let there : s.container < length p.entry.containers = subst (λ (x : Place). x.container < length p.entry.containers) (sym c.self.view_is) c.requires.there in
    subst (λ (x : Place). steps_left p.entry u (at_place s.epoch s.places.items s.bounds.items s.stamps (s.container + 1) 0 c.take-opened.new.self s.taken) < steps_left p.entry u x) c.self.view_is
    (done_fewer p.entry u s.epoch s.places.items s.bounds.items s.stamps s.container s.block s.opened c.take-opened.new.self s.taken c.entry-shape.result.now c.as_slice-2.result.now c.entry-shape.ensures.entry c.as_slice-2.ensures there scan)

pub read_block-requires-clause-opening : goal.read_block-requires-clause-opening
read_block-requires-clause-opening g c =
    opening_here c.args.store.now.stored.entry c.entry-shape.result.now c.as_slice-2.result.now c.self.inside.container c.as_slice.result.now c.as_slice-4.result.now c.in-Ok.opened
    c.entry-shape.ensures.entry c.as_slice-2.ensures (c.as_slice-4.ensures.value ∙ sym c.as_slice.ensures.value) c.in-Ok.ensures.opening

pub returns-in-Err-read_block-clause-unblamed : goal.returns-in-Err-read_block-clause-unblamed
returns-in-Err-read_block-clause-unblamed g c = λ m told left are.
    let s = c.self.inside in
    let p = c.args.store.now.stored in
    let was = subst (λ (x : Place). AreLeft m p x left) (sym c.self.view_is) are in
    let there : s.container < length p.entry.containers = subst (λ (x : Place). x.container < length p.entry.containers) (sym c.self.view_is) c.requires.there in
    let has = handed p s.container s.places.items c.as_slice.result.now s.opened c.take-opened.result m (g.D.Disk.holds c.args.disk.now) c.in-Ok.opened c.take-opened.ensures.value c.as_slice.ensures.value told was.at_hand c.in-Ok.ensures.held in
    let entry = get_or c.as_slice-2.result.now s.container blank in
    let shape = c.entry-shape.result.now in
    let blames = subst (λ (ps : List (Option ℕ)). (bes : Beside) → HasOpened (written_of shape) entry (length shape.columns) bes ps (g.D.Disk.holds c.args.disk.now) c.in-Ok.opened → BlamesContainer (written_of shape) entry (g.D.Disk.holds c.args.disk.now) c.in-Err-read_block.fault) c.as_slice-4.ensures.value
    (subst (λ (h : Option Contents). (bes : Beside) → HasOpened (written_of shape) entry (length shape.columns) bes c.as_slice-4.result.now h c.in-Ok.opened → BlamesContainer (written_of shape) entry h c.in-Err-read_block.fault) c.at_hand.ensures.kept c.in-Err-read_block.ensures.blamed) in
    block_unblamed m (g.D.Disk.holds c.args.disk.now) p s.epoch s.places.items s.bounds.items s.stamps s.container s.block s.opened c.in-Ok.opened s.taken shape c.as_slice-2.result.now left c.in-Err-read_block.fault told
    c.entry-shape.ensures.entry c.as_slice-2.ensures there has blames was

pub returns-in-Err-read_block-clause-blamed : goal.returns-in-Err-read_block-clause-blamed
returns-in-Err-read_block-clause-blamed g c = λ at.
    let s = c.self.inside in
    let p = c.args.store.now.stored in
    let h = g.D.Disk.holds c.args.disk.now in
    let was = subst (λ (x : Place). IsAtHand h p x) (sym c.self.view_is) at in
    let has = at_hand_on p s.container s.places.items c.as_slice.result.now s.opened c.take-opened.result h c.in-Ok.opened c.take-opened.ensures.value c.as_slice.ensures.value was c.in-Ok.ensures.held in
    let entry = get_or c.as_slice-2.result.now s.container blank in
    let shape = c.entry-shape.result.now in
    let blames = subst (λ (ps : List (Option ℕ)). (bes : Beside) → HasOpened (written_of shape) entry (length shape.columns) bes ps h c.in-Ok.opened → BlamesContainer (written_of shape) entry h c.in-Err-read_block.fault) c.as_slice-4.ensures.value
    (subst (λ (x : Option Contents). (bes : Beside) → HasOpened (written_of shape) entry (length shape.columns) bes c.as_slice-4.result.now x c.in-Ok.opened → BlamesContainer (written_of shape) entry x c.in-Err-read_block.fault) c.at_hand.ensures.kept c.in-Err-read_block.ensures.blamed) in
    block_blames h p s.container s.places.items c.in-Ok.opened shape c.as_slice-2.result.now c.in-Err-read_block.fault c.entry-shape.ensures.entry c.as_slice-2.ensures has blames

pub returns-in-Err-read_block-clause-moved : goal.returns-in-Err-read_block-clause-moved
returns-in-Err-read_block-clause-moved g c = moved_join g.D.Disk c.at_hand.ensures.moved c.read_block.ensures.moved

pub returns-clause-scan : goal.returns-clause-scan
returns-clause-scan g c =
    let s = c.self.inside in
    let p = c.args.store.now.stored in
    let scan = subst (λ (x : Place). IsScanOf p.entry x) (sym c.self.view_is) c.requires.scan in
    let there : s.container < length p.entry.containers = subst (λ (x : Place). x.container < length p.entry.containers) (sym c.self.view_is) c.requires.there in
    let below : c.next_needed-block.result < blocks (get_or c.as_slice-2.result.now s.container blank).rows = omega (arith, c.if-block-count.false, c.blocks_of-count.ensures) in
    let opening = subst (λ (ps : List (Option ℕ)). IsSomeAnd (slice_get p.entry.containers s.container) (λ k. IsOpening k.rows ps c.in-Ok.opened)) c.as_slice.ensures.value c.in-Ok.ensures.opening in
    next_scan p.entry s.epoch s.places.items s.bounds.items s.stamps s.container s.block c.next_needed-block.result s.opened c.in-Ok.opened s.taken c.entry-shape.result.now c.as_slice-2.result.now c.entry-shape.ensures.entry c.as_slice-2.ensures there below opening scan

pub returns-clause-at_hand : goal.returns-clause-at_hand
returns-clause-at_hand g c = λ at.
    let s = c.self.inside in
    let p = c.args.store.now.stored in
    let h = g.D.Disk.holds c.args.disk.now in
    let was = subst (λ (x : Place). IsAtHand h p x) (sym c.self.view_is) at in
    subst (λ (x : Option Contents). HasOpenedAt p s.container s.places.items x c.in-Ok.opened) (sym (c.read_block.ensures.kept ∙ c.at_hand.ensures.kept))
    (at_hand_on p s.container s.places.items c.as_slice.result.now s.opened c.take-opened.result h c.in-Ok.opened c.take-opened.ensures.value c.as_slice.ensures.value was c.in-Ok.ensures.held)

pub returns-clause-gives : goal.returns-clause-gives
returns-clause-gives g c = λ m told left are.
    let s = c.self.inside in
    let p = c.args.store.now.stored in
    let block = c.next_needed-block.result in
    let was = subst (λ (x : Place). AreLeft m p x left) (sym c.self.view_is) are in
    let there : s.container < length p.entry.containers = subst (λ (x : Place). x.container < length p.entry.containers) (sym c.self.view_is) c.requires.there in
    let scan = subst (λ (x : Place). IsScanOf p.entry x) (sym c.self.view_is) c.requires.scan in
    let below : block < blocks (get_or c.as_slice-2.result.now s.container blank).rows = omega (arith, c.if-block-count.false, c.blocks_of-count.ensures) in
    let from : s.block ≤ block = c.next_needed-block.ensures.first (omega (arith, c.if-block-count.false)) in
    let has = handed p s.container s.places.items c.as_slice.result.now s.opened c.take-opened.result m (g.D.Disk.holds c.args.disk.now) c.in-Ok.opened c.take-opened.ensures.value c.as_slice.ensures.value told was.at_hand c.in-Ok.ensures.held in
    let opening = subst (λ (ps : List (Option ℕ)). IsSomeAnd (slice_get p.entry.containers s.container) (λ k. IsOpening k.rows ps c.in-Ok.opened)) c.as_slice.ensures.value c.in-Ok.ensures.opening in
    let misses = subst (λ (w : List Bound). (j : ℕ) → s.block ≤ j → j < block → IsPassed w c.in-Ok.opened.indexes j) c.as_slice-3.ensures.value c.next_needed-block.ensures.passed in
    let entry = get_or c.as_slice-2.result.now s.container blank in
    let shape = c.entry-shape.result.now in
    let shown = c.in-Ok-read_block.batch in
    let found = subst (λ (w : List Bound). (bes : Beside) → HasOpened (written_of shape) entry (length shape.columns) bes s.places.items (g.D.Disk.holds c.args.disk.now) c.in-Ok.opened → OfBlock (ShowsRows s.epoch s.places.items w s.stamps (mark_in bes) (1024 * block) shown) (g.D.Disk.holds c.args.disk.now) (written_of shape) entry block) c.as_slice-5.ensures.value
    (subst (λ (ps : List (Option ℕ)). (bes : Beside) → HasOpened (written_of shape) entry (length shape.columns) bes ps (g.D.Disk.holds c.args.disk.now) c.in-Ok.opened → OfBlock (ShowsRows s.epoch ps c.as_slice-5.result.now s.stamps (mark_in bes) (1024 * block) shown) (g.D.Disk.holds c.args.disk.now) (written_of shape) entry block) c.as_slice-4.ensures.value
    (subst (λ (h : Option Contents). (bes : Beside) → HasOpened (written_of shape) entry (length shape.columns) bes c.as_slice-4.result.now h c.in-Ok.opened → OfBlock (ShowsRows s.epoch c.as_slice-4.result.now c.as_slice-5.result.now s.stamps (mark_in bes) (1024 * block) shown) h (written_of shape) entry block) c.at_hand.ensures.kept c.in-Ok-read_block.ensures.found)) in
    subst (λ (x : Place). Gives m p x (at_place s.epoch s.places.items s.bounds.items s.stamps s.container (block + 1) (Some c.in-Ok.opened) s.taken) left (Some shown)) c.self.view_is
    (block_gives c.values_lie_between.ensures m (g.D.Disk.holds c.args.disk.now) p s.epoch s.places.items s.bounds.items s.stamps s.container s.block block s.opened c.in-Ok.opened s.taken shown shape c.as_slice-2.result.now left told
    c.entry-shape.ensures.entry c.as_slice-2.ensures there from below scan.own has opening misses found was)

pub returns-clause-fewer : goal.returns-clause-fewer
returns-clause-fewer g c =
    let s = c.self.inside in
    let p = c.args.store.now.stored in
    let u = length p.unsaved in
    let block = c.next_needed-block.result in
    let there : s.container < length p.entry.containers = subst (λ (x : Place). x.container < length p.entry.containers) (sym c.self.view_is) c.requires.there in
    let below : block < blocks (get_or c.as_slice-2.result.now s.container blank).rows = omega (arith, c.if-block-count.false, c.blocks_of-count.ensures) in
    let from : s.block ≤ block = c.next_needed-block.ensures.first (omega (arith, c.if-block-count.false)) in
    subst (λ (x : Place). steps_left p.entry u (at_place s.epoch s.places.items s.bounds.items s.stamps s.container (block + 1) (Some c.in-Ok.opened) s.taken) < steps_left p.entry u x) c.self.view_is
    (next_fewer p.entry u s.epoch s.places.items s.bounds.items s.stamps s.container s.block block s.opened c.in-Ok.opened s.taken c.entry-shape.result.now c.as_slice-2.result.now c.entry-shape.ensures.entry c.as_slice-2.ensures there from below)

pub returns-clause-moved : goal.returns-clause-moved
returns-clause-moved g c = moved_join g.D.Disk c.at_hand.ensures.moved c.read_block.ensures.moved

pub returns-in-Err-clause-at_most : goal.returns-in-Err-clause-at_most
returns-in-Err-clause-at_most g c = λ m told at all have. omega arith

pub returns-then-block-count-clause-steps : goal.returns-then-block-count-clause-steps
returns-then-block-count-clause-steps g c = λ m told at all have.
    let s = c.self.inside in
    let p = c.args.store.now.stored in
    let there : s.container < length p.entry.containers = subst (λ (x : Place). x.container < length p.entry.containers) (sym c.self.view_is) c.requires.there in
    let held = subst (λ (x : Place). HaveIndexes m p.entry x.places all) (sym c.self.view_is) have in
    let next = cost_left p.entry all (at_place s.epoch s.places.items s.bounds.items s.stamps (s.container + 1) 0 c.take-opened.new.self s.taken) in
    let less : next ≤ cost_left p.entry all c.args.self.now = subst (λ (x : Place). next ≤ cost_left p.entry all x) c.self.view_is
    (done_costs m p.entry all s.epoch s.places.items s.bounds.items s.stamps s.container s.block s.opened c.take-opened.new.self s.taken there held) in
    omega (arith, less)

pub returns-then-block-count-clause-at_most : goal.returns-then-block-count-clause-at_most
returns-then-block-count-clause-at_most g c = λ m told at all have. omega arith

pub returns-clause-steps : goal.returns-clause-steps
returns-clause-steps g c = λ m told at all have.
    let s = c.self.inside in
    let p = c.args.store.now.stored in
    let block = c.next_needed-block.result in
    let was = subst (λ (x : Place). IsAtHand (Some m) p x) (sym c.self.view_is) at in
    let there : s.container < length p.entry.containers = subst (λ (x : Place). x.container < length p.entry.containers) (sym c.self.view_is) c.requires.there in
    let has = handed p s.container s.places.items c.as_slice.result.now s.opened c.take-opened.result m (g.D.Disk.holds c.args.disk.now) c.in-Ok.opened c.take-opened.ensures.value c.as_slice.ensures.value told was c.in-Ok.ensures.held in
    let opening = subst (λ (ps : List (Option ℕ)). IsSomeAnd (slice_get p.entry.containers s.container) (λ k. IsOpening k.rows ps c.in-Ok.opened)) c.as_slice.ensures.value c.in-Ok.ensures.opening in
    let below : block < blocks (get_or c.as_slice-2.result.now s.container blank).rows = omega (arith, c.if-block-count.false, c.blocks_of-count.ensures) in
    let from : s.block ≤ block = c.next_needed-block.ensures.first (omega (arith, c.if-block-count.false)) in
    let needs = subst (λ (w : List Bound). is_passed w c.in-Ok.opened.indexes block ≡ false) c.as_slice-3.ensures.value (c.next_needed-block.ensures.needed (omega (arith, c.if-block-count.false))) in
    let held = subst (λ (x : Place). HaveIndexes m p.entry x.places all) (sym c.self.view_is) have in
    subst (λ (x : Place). c.read_block.new.steps + cost_left p.entry all (at_place s.epoch s.places.items s.bounds.items s.stamps s.container (block + 1) (Some c.in-Ok.opened) s.taken) ≤ c.args.steps.now + cost_left p.entry all x) c.self.view_is
    (block_spends m (g.D.Disk.holds c.args.disk.now) p all s.epoch s.places.items c.as_slice-4.result.now s.bounds.items s.stamps s.container s.block block s.opened c.in-Ok.opened s.taken c.args.steps.now c.read_block.new.steps c.entry-shape.result.now c.as_slice-2.result.now
    told c.entry-shape.ensures.entry c.as_slice-2.ensures c.as_slice-4.ensures.value there held has opening from below needs c.read_block.ensures.steps)

pub returns-clause-at_most : goal.returns-clause-at_most
returns-clause-at_most g c = λ m told at all have.
    omega (arith, returns-clause-steps g c m told at all have)

pub returns-in-Err-read_block-clause-at_most : goal.returns-in-Err-read_block-clause-at_most
returns-in-Err-read_block-clause-at_most g c = λ m told at all have.
    let s = c.self.inside in
    let p = c.args.store.now.stored in
    let block = c.next_needed-block.result in
    let was = subst (λ (x : Place). IsAtHand (Some m) p x) (sym c.self.view_is) at in
    let there : s.container < length p.entry.containers = subst (λ (x : Place). x.container < length p.entry.containers) (sym c.self.view_is) c.requires.there in
    let has = handed p s.container s.places.items c.as_slice.result.now s.opened c.take-opened.result m (g.D.Disk.holds c.args.disk.now) c.in-Ok.opened c.take-opened.ensures.value c.as_slice.ensures.value told was c.in-Ok.ensures.held in
    let opening = subst (λ (ps : List (Option ℕ)). IsSomeAnd (slice_get p.entry.containers s.container) (λ k. IsOpening k.rows ps c.in-Ok.opened)) c.as_slice.ensures.value c.in-Ok.ensures.opening in
    let below : block < blocks (get_or c.as_slice-2.result.now s.container blank).rows = omega (arith, c.if-block-count.false, c.blocks_of-count.ensures) in
    let from : s.block ≤ block = c.next_needed-block.ensures.first (omega (arith, c.if-block-count.false)) in
    let needs = subst (λ (w : List Bound). is_passed w c.in-Ok.opened.indexes block ≡ false) c.as_slice-3.ensures.value (c.next_needed-block.ensures.needed (omega (arith, c.if-block-count.false))) in
    let held = subst (λ (x : Place). HaveIndexes m p.entry x.places all) (sym c.self.view_is) have in
    let spent = block_spends m (g.D.Disk.holds c.args.disk.now) p all s.epoch s.places.items c.as_slice-4.result.now s.bounds.items s.stamps s.container s.block block s.opened c.in-Ok.opened s.taken c.args.steps.now c.read_block.new.steps c.entry-shape.result.now c.as_slice-2.result.now
    told c.entry-shape.ensures.entry c.as_slice-2.ensures c.as_slice-4.ensures.value there held has opening from below needs c.read_block.ensures.steps in
    subst (λ (x : Place). c.read_block.new.steps ≤ c.args.steps.now + cost_left p.entry all x) c.self.view_is (omega (arith, spent))
