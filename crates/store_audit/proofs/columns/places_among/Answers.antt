use Rattle.store_audit.proofs.Places.{all_among}
use Rattle.store_audit.proofs.columns.places_among.Goals as goal

pub returns : goal.returns
returns c =
    all_among c.args.first.now c.args.second.now c.as_slice-columns.result.now c.as_slice-others.result.now c.loop-column.column-index c.loop-column.places.items c.as_slice-columns.ensures c.as_slice-others.ensures
    c.loop-column-test.false c.loop-column.invariant
