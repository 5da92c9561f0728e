use Rattle.std.proofs.Common.{◌≡◌, ◌∙◌, List, ◌∷◌, Err, refl, sym, ap, subst}
use Rattle.col_disk.proofs.Moving.{moved_none}
use Rattle.query_run.specs.declared.fault.QueryFault.{QueryFault}
use Rattle.query_run.specs.declared.fault.QueryFault.TheVariants as query
use Rattle.query_cover.proofs.Enough.{great_enough, not_great_enough, printed_enough}
use Rattle.query_cover.proofs.Permuted.{great_seen, not_great_seen, printed_seen}
use Rattle.store_query.specs.declared.fault.SelectFault.{SelectFault}
use Rattle.store_query.specs.declared.fault.SelectFault.TheVariants as select
use Rattle.col_value.specs.declared.value.Value.{Value}
use Rattle.sql_bound.specs.declared.query.FromItem.{FromItem}
use Rattle.sql_bound.specs.Outputs.{IsSumTooGreat}
use Rattle.store_query.specs.Faults.{of_query, BlamesRead, IsUnblamed}
use Rattle.store_query.specs.Reading.{source_rows}
use Rattle.store_query.specs.Counting.{ReadsEach}
use Rattle.store_query.proofs.Counted.{reads_none}
use Rattle.store_query.proofs.Blames.{query_blames, read_blames}
use Rattle.store_query.proofs.ItemRows.{nothing_read, run_suffices, select_unblamed}
use Rattle.store_query.proofs.answering.select.Goals as goal

great_told : (f : QueryFault) → of_query f ≡ select.SumOutOfRange → f ≡ query.SumOutOfRange
great_told query.SumOutOfRange is = refl
great_told query.Memory is = absurd (cc)

pub returns-in-Ok-clause-moved : goal.returns-in-Ok-clause-moved
returns-in-Ok-clause-moved g c = moved_none g.D.Disk c.args.disk.now

pub returns-in-Err-clause-moved : goal.returns-in-Err-clause-moved
returns-in-Err-clause-moved g c = moved_none g.D.Disk c.args.disk.now

pub returns-in-Err-run_of-clause-unblamed : goal.returns-in-Err-run_of-clause-unblamed
returns-in-Err-run_of-clause-unblamed g c = λ d can.
    let q = c.args.query.now in
    let own = sym c.in-Some.ensures.cases.0 ∙ c.as_slice.ensures in
    subst (λ (x : SelectFault). IsUnblamed x) (sym c.from-in-Err-run_of.ensures)
    (select_unblamed g.D.Disk c.args.tables.now c.args.disk.now c.args.changes.now c.args.at q d (c.in-Some.first.now ∷ c.in-Some.others.now) c.in-Err-run_of.fault own c.in-Err-run_of.ensures.unblamed can)

pub returns-in-Err-clause-blamed : goal.returns-in-Err-clause-blamed
returns-in-Err-clause-blamed g c = subst (λ (x : SelectFault). BlamesRead c.args.tables.now.stores (g.D.Disk.holds c.args.disk.now) x) (sym c.from.ensures) (query_blames c.args.tables.now.stores (g.D.Disk.holds c.args.disk.now) c.in-Err.fault)

pub returns-in-Err-run_of-clause-blamed : goal.returns-in-Err-run_of-clause-blamed
returns-in-Err-run_of-clause-blamed g c =
    subst (λ (x : SelectFault). BlamesRead c.args.tables.now.stores (g.D.Disk.holds c.args.disk.now) x) (sym c.from-in-Err-run_of.ensures)
    (read_blames c.args.tables.now.stores (g.D.Disk.holds c.args.disk.now) c.in-Err-run_of.fault c.in-Err-run_of.ensures.blamed)

pub returns-in-Err-finish-clause-blamed : goal.returns-in-Err-finish-clause-blamed
returns-in-Err-finish-clause-blamed g c = subst (λ (x : SelectFault). BlamesRead c.args.tables.now.stores (g.D.Disk.holds c.args.disk.now) x) (sym c.from-in-Err-finish.ensures) (query_blames c.args.tables.now.stores (g.D.Disk.holds c.args.disk.now) c.in-Err-finish.fault)

pub returns-in-Ok-finish-clause-printed : goal.returns-in-Ok-finish-clause-printed
returns-in-Ok-finish-clause-printed g c = λ d can.
    let q = c.args.query.now in
    let own = sym c.in-Some.ensures.cases.0 ∙ c.as_slice.ensures in
    let (first, more, suffice, taken) = run_suffices g.D.Disk c.args.tables.now c.args.disk.now c.args.changes.now c.args.at q d (c.in-Some.first.now ∷ c.in-Some.others.now) c.in-Ok-run_of.run' own c.in-Ok-run_of.ensures.read can in
    printed_seen q suffice.rows (source_rows c.args.at d c.args.changes.now q) c.in-Ok-finish.rows.items suffice.seen
    (printed_enough q (first ∷ more) suffice.rows c.in-Ok-finish.rows.items suffice.enough (c.in-Ok-finish.ensures.printed more first taken))

pub returns-in-Ok-finish-clause-in_range : goal.returns-in-Ok-finish-clause-in_range
returns-in-Ok-finish-clause-in_range g c = λ d can great.
    let q = c.args.query.now in
    let own = sym c.in-Some.ensures.cases.0 ∙ c.as_slice.ensures in
    let (first, more, suffice, taken) = run_suffices g.D.Disk c.args.tables.now c.args.disk.now c.args.changes.now c.args.at q d (c.in-Some.first.now ∷ c.in-Some.others.now) c.in-Ok-run_of.run' own c.in-Ok-run_of.ensures.read can in
    c.in-Ok-finish.ensures.in_range more first taken
    (not_great_enough q (first ∷ more) suffice.rows suffice.enough (not_great_seen q suffice.rows (source_rows c.args.at d c.args.changes.now q) suffice.seen great))

pub returns-in-Ok-clause-in_range : goal.returns-in-Ok-clause-in_range
returns-in-Ok-clause-in_range g c = λ d can great.
    let q = c.args.query.now in
    let none = nothing_read c.args.at d c.args.changes.now q c.as_slice.result.now c.as_slice.ensures c.in_default.ensures.cases in
    c.in-Ok.ensures.in_range (subst (λ (inputs : List (List (List Value))). IsSumTooGreat q inputs) none great)

pub returns-in-Err-clause-great : goal.returns-in-Err-clause-great
returns-in-Err-clause-great g c = λ is d can.
    let q = c.args.query.now in
    let same : c.from.result ≡ select.SumOutOfRange = cc in
    let told = great_told c.in-Err.fault (sym c.from.ensures ∙ same) in
    let none = nothing_read c.args.at d c.args.changes.now q c.as_slice.result.now c.as_slice.ensures c.in_default.ensures.cases in
    subst (λ (inputs : List (List (List Value))). IsSumTooGreat q inputs) (sym none) (c.in-Err.ensures.great (ap (λ (f : QueryFault). Err f) told))

pub returns-in-Err-finish-clause-great : goal.returns-in-Err-finish-clause-great
returns-in-Err-finish-clause-great g c = λ is d can.
    let q = c.args.query.now in
    let own = sym c.in-Some.ensures.cases.0 ∙ c.as_slice.ensures in
    let same : c.from-in-Err-finish.result ≡ select.SumOutOfRange = cc in
    let told = great_told c.in-Err-finish.fault (sym c.from-in-Err-finish.ensures ∙ same) in
    let (first, more, suffice, taken) = run_suffices g.D.Disk c.args.tables.now c.args.disk.now c.args.changes.now c.args.at q d (c.in-Some.first.now ∷ c.in-Some.others.now) c.in-Ok-run_of.run' own c.in-Ok-run_of.ensures.read can in
    great_seen q suffice.rows (source_rows c.args.at d c.args.changes.now q) suffice.seen
    (great_enough q (first ∷ more) suffice.rows suffice.enough (c.in-Err-finish.ensures.great (ap (λ (f : QueryFault). Err f) told) more first taken))

pub returns-in-Ok-clause-steps : goal.returns-in-Ok-clause-steps
returns-in-Ok-clause-steps g c = λ m told. reads_none m c.args.tables.now c.args.query.now c.args.query.now.sources c.args.steps.now c.args.steps.now refl

pub returns-in-Err-clause-steps : goal.returns-in-Err-clause-steps
returns-in-Err-clause-steps g c = λ m told. reads_none m c.args.tables.now c.args.query.now c.args.query.now.sources c.args.steps.now c.args.steps.now refl

pub returns-in-Err-run_of-clause-steps : goal.returns-in-Err-run_of-clause-steps
returns-in-Err-run_of-clause-steps g c = λ m told.
    subst (λ (fs : List FromItem). ReadsEach m c.args.tables.now c.args.query.now fs c.args.steps.now c.run_of.new.steps) (sym c.in-Some.ensures.cases.0 ∙ c.as_slice.ensures) (c.run_of.ensures.steps m told)

pub returns-in-Ok-finish-clause-steps : goal.returns-in-Ok-finish-clause-steps
returns-in-Ok-finish-clause-steps g c = λ m told.
    subst (λ (fs : List FromItem). ReadsEach m c.args.tables.now c.args.query.now fs c.args.steps.now c.run_of.new.steps) (sym c.in-Some.ensures.cases.0 ∙ c.as_slice.ensures) (c.run_of.ensures.steps m told)

pub returns-in-Err-finish-clause-steps : goal.returns-in-Err-finish-clause-steps
returns-in-Err-finish-clause-steps g c = λ m told.
    subst (λ (fs : List FromItem). ReadsEach m c.args.tables.now c.args.query.now fs c.args.steps.now c.run_of.new.steps) (sym c.in-Some.ensures.cases.0 ∙ c.as_slice.ensures) (c.run_of.ensures.steps m told)
