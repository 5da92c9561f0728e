use Rattle.std.proofs.Common.{refl, sym, subst}
use Rattle.std.specs.List.{All}
use Rattle.store_audit.specs.Passes.{CanRead}
use Rattle.store_audit.proofs.Behind.{pairs_judged}
use Rattle.store_audit.proofs.Firsts.{weaker_ok}
use Rattle.store_audit.proofs.Readable.{valid_read}
use Rattle.store_audit.proofs.pairs.judge_pairs.Goals as goal

pub judge_tables-requires : goal.judge_tables-requires
judge_tables-requires g c = subst (All (λ t. All (CanRead t) t.projections)) (sym c.as_slice.ensures) (valid_read c.args.catalogue.now c.requires)

pub returns-clause-judged : goal.returns-clause-judged
returns-clause-judged g c =
    let catalogue = c.args.catalogue.now in
    weaker_ok _ _ c.judge_tables.result
    (λ o judged.
    pairs_judged (g.D.Disk.holds c.args.disk.now) catalogue c.as_slice.result.now c.least_lge.result catalogue.ahm o c.as_slice.ensures c.least_lge.ensures refl judged) c.judge_tables.ensures.judged
