use Rattle.std.proofs.Common.{List, ◌++◌, arith, get_or}
use Rattle.std.specs.List.{flat_map}
use Rattle.catalog_types.specs.declared.catalogue.Container.{Container}
use Rattle.catalog_types.specs.Lists.{Ahead}
use Rattle.catalog_types.specs.Numbers.{container_spans, projection_spans, table_spans, AreApart}
use Rattle.catalog_types.specs.Blank.{blank_container}
use Rattle.catalog_types.proofs.Pairs.{refused, passed, ahead_append, read_again}
use Rattle.catalog_types.proofs.numbers.containers_ahead.Goals as goal

pub returns-then-not-container_ahead : goal.returns-then-not-container_ahead
returns-then-not-container_ahead c = refused (λ (ys : List Container). Ahead AreApart (flat_map container_spans ys) (flat_map projection_spans c.args.projections.now ++ flat_map table_spans c.args.tables.now)) (λ (y : Container) (ys : List Container). Ahead AreApart (container_spans y) (flat_map container_spans ys ++ (flat_map projection_spans c.args.projections.now ++ flat_map table_spans c.args.tables.now))) c.args.containers.now c.loop-i.i (get_or c.args.containers.now c.loop-i.i blank_container) c.split_at.result.1.now c.container_ahead.result (omega arith) (read_again c.args.containers.now c.loop-i.i blank_container (omega arith)) c.split_at.ensures.back (λ y ys. ahead_append AreApart (container_spans y) (flat_map container_spans ys) (flat_map projection_spans c.args.projections.now ++ flat_map table_spans c.args.tables.now)) c.loop-i.invariant c.container_ahead.ensures c.if-not-container_ahead.true

pub loop-i-preserved : goal.loop-i-preserved
loop-i-preserved c = passed (λ (ys : List Container). Ahead AreApart (flat_map container_spans ys) (flat_map projection_spans c.args.projections.now ++ flat_map table_spans c.args.tables.now)) (λ (y : Container) (ys : List Container). Ahead AreApart (container_spans y) (flat_map container_spans ys ++ (flat_map projection_spans c.args.projections.now ++ flat_map table_spans c.args.tables.now))) c.args.containers.now c.loop-i.i (get_or c.args.containers.now c.loop-i.i blank_container) c.split_at.result.1.now c.container_ahead.result (omega arith) (read_again c.args.containers.now c.loop-i.i blank_container (omega arith)) c.split_at.ensures.back (λ y ys. ahead_append AreApart (container_spans y) (flat_map container_spans ys) (flat_map projection_spans c.args.projections.now ++ flat_map table_spans c.args.tables.now)) c.loop-i.invariant c.container_ahead.ensures c.if-not-container_ahead.false
