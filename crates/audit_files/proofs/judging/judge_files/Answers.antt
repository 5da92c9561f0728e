use Rattle.std.proofs.Common.{List, sym, subst}
use Rattle.std.specs.Prelude.{Ok}
use Rattle.std.specs.List.{All, flat_map}
use Rattle.catalog_types.specs.declared.catalogue.Table.{Table}
use Rattle.col_disk.specs.declared.disk.StoreFault.TheVariants.{Damaged}
use Rattle.audit_files.specs.Walks.{table_files, AreAllNamed, Faults, Judges}
use Rattle.audit_files.proofs.Lists.{all_spelled, first_file}
use Rattle.audit_files.proofs.Named.{all_named}
use Rattle.audit_files.proofs.judging.judge_files.Goals as goal

pub judge_tables-requires : goal.judge_tables-requires
judge_tables-requires g c = subst (All AreAllNamed) (sym c.as_slice.ensures) (all_named c.args.catalogue.now c.requires)

pub returns-in-Ok-clause-judged : goal.returns-in-Ok-clause-judged
returns-in-Ok-clause-judged g c = λ m told.
    all_spelled m c.args.catalogue.now (subst (λ (ts : List Table). Judges (g.D.Disk.holds c.args.disk.now) (flat_map table_files ts) (Ok tt)) c.as_slice.ensures c.in-Ok.ensures.judged m told)

pub returns-in-Err-Damaged-clause-judged : goal.returns-in-Err-Damaged-clause-judged
returns-in-Err-Damaged-clause-judged g c = λ m told.
    let stopped = rw c.in-Err-Damaged.field-0-is at c.in-Err-Damaged.ensures.judged in
    first_file m c.args.catalogue.now c.in-Err-Damaged.name (subst (λ (ts : List Table). Faults (g.D.Disk.holds c.args.disk.now) (flat_map table_files ts) (Damaged c.in-Err-Damaged.name)) c.as_slice.ensures stopped m told)
