use Rattle.std.proofs.Common.{◌∙◌, ap, sym, subst, Bor}
use Rattle.std.specs.List.{All}
use Rattle.std.specs.Option.{option_map}
use Rattle.col_disk.proofs.Moving.{moved_none}
use Rattle.catalog_types.specs.declared.catalogue.Projection.{Projection}
use Rattle.store_audit.specs.Passes.{CanCompare}
use Rattle.store_audit.proofs.Firsts.{judged_super, weaker_ok}
use Rattle.store_audit.proofs.Readable.{super_compares}
use Rattle.store_audit.proofs.pairs.judge_table.Goals as goal

pub judge_against-requires : goal.judge_against-requires
judge_against-requires g c =
    let t = c.args.table.now in
    let s = c.in-Some.first.now in
    subst (All (CanCompare s)) (sym c.as_slice.ensures) (super_compares t s (sym c.super_of.ensures ∙ ap (option_map (λ (p : Bor Projection). p.now)) c.in-Some.is) c.requires)

pub returns-in-Some-clause-judged : goal.returns-in-Some-clause-judged
returns-in-Some-clause-judged g c =
    let t = c.args.table.now in
    let s = c.in-Some.first.now in
    let found = sym c.super_of.ensures ∙ ap (option_map (λ (p : Bor Projection). p.now)) c.in-Some.is in
    weaker_ok _ _ c.judge_against.result
    (λ o judged. judged_super (g.D.Disk.holds c.args.disk.now) c.args.bounds.epoch c.args.bounds.mark t s c.as_slice.result.now o found c.as_slice.ensures judged) c.judge_against.ensures.judged

pub returns-in-None-clause-moved : goal.returns-in-None-clause-moved
returns-in-None-clause-moved g c = moved_none g.D.Disk c.args.disk.now
