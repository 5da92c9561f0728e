use Rattle.std.specs.Cmp.{eq_by_cmp_equiv}
use Rattle.indexmap.proofs.CallerLemmas.{updates-with_value_at}
use Rattle.write_store.specs.Order.{inserted_total}
use Rattle.wanted_rows.proofs.Counting.{sets_at}
use Rattle.wanted_rows.proofs.counts.set.Goals as goal

pub returns : goal.returns
returns c =
    let counts = c.args.counts.now in
    sets_at counts.entries c.args.place c.args.count (λ k was at. (updates-with_value_at counts c.args.place c.args.count (eq_by_cmp_equiv inserted_total) c.pair_mut-now.ensures.unique k was at).0)
