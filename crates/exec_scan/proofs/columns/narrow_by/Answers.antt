use Rattle.std.proofs.Common.{◌<◌, ◌∙◌, List, length, subst, sym}
use Rattle.std.specs.Prelude.{Option, None}
use Rattle.std.proofs.lemmas.List.{get_or_default}
use Rattle.col_disk.proofs.Moving.{moved_none}
use Rattle.col_value.specs.declared.value.Value.{Value}
use Rattle.container_blocks.specs.Blocks.{rows_in}
use Rattle.exec_scan.specs.Opened.{IsNeeded}
use Rattle.exec_scan.specs.Reading.{RulesOut}
use Rattle.exec_scan.proofs.Handed.{zip_long}
use Rattle.exec_scan.proofs.Narrowing.{narrows_one}
use Rattle.exec_scan.proofs.columns.narrow_by.Goals as goal

pub bounds-indexes-column : goal.bounds-indexes-column
bounds-indexes-column g c =
    subst (λ n. c.args.bound.now.column < n) (zip_long (IsNeeded c.args.entry.now.rows) c.args.places.now c.args.indexes.now c.requires.needed) c.if-column-places.false

pub returns-then-column-places-clause-moved : goal.returns-then-column-places-clause-moved
returns-then-column-places-clause-moved g c = moved_none g.D.Disk c.args.disk.now

pub returns-in-Ok-clause-narrows : goal.returns-in-Ok-clause-narrows
returns-in-Ok-clause-narrows g c = λ held m told rows holding.
    let bound = c.args.bound.now in
    let columns = c.fill_column.new.columns in
    let here = c.index-columns-column.result in
    let lt : bound.column < length columns = subst (λ n. bound.column < n) (sym (c.in-Ok.ensures.width ∙ c.requires.width)) c.if-column-places.false in
    narrows_one bound c.args.places.now c.args.columns.now columns here c.args.alive.now c.rule_out.new.alive (rows_in c.args.k rows) (c.in-Ok.ensures.fills held m told rows holding)
    (c.index-columns-column.is ∙ get_or_default columns bound.column here None lt)
    (subst (λ (o : Option (List Value)). RulesOut bound o c.args.alive.now c.rule_out.new.alive) (sym c.index-columns-column.is) c.rule_out.ensures.rules)
