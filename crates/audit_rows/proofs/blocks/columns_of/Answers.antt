use Rattle.std.proofs.Common.{◌∙◌, ◌<◌, ◌≤◌, ◌∷◌, [], List, length, map, refl, sym, ap, subst, arith}
use Rattle.std.specs.Prelude.{Option}
use Rattle.std.specs.List.{All}
use Rattle.std.proofs.lemmas.List.{length-append, take_all}
use Rattle.std.proofs.lemmas.List.Elements.{All-nil, All-push}
use Rattle.common_laws.specs.Maps.{Contents}
use Rattle.col_disk.proofs.Moving.{moved_join, moved_none}
use Rattle.col_value.specs.Order.{IsValue}
use Rattle.col_value.specs.declared.value.Value.{Value}
use Rattle.ros_container.specs.Encodings.{written_of}
use Rattle.ros_container.specs.Held.{BlamesContainer}
use Rattle.ros_container.specs.Rows.{column_values}
use Rattle.container_blocks.specs.Blocks.{rows_in}
use Rattle.audit_rows.proofs.Indexes.{columns_more, columns_none, index_here, own_column}
use Rattle.audit_rows.proofs.blocks.columns_of.Goals as goal

pub loop-i-init : goal.loop-i-init
loop-i-init g c = record {
  long = ap length c.new-out.ensures.items;
  values = subst (All (All IsValue)) (sym c.new-out.ensures.items) (All-nil (All IsValue));
  found = λ has. columns_none (written_of c.args.shape.now) c.args.container.now (g.D.Disk.holds c.args.disk.now) c.args.k c.new-out.result.items c.new-out.ensures.items;
  kept = refl;
  moved = moved_none g.D.Disk c.args.disk.now;
}

pub returns-in-Err-clause-moved : goal.returns-in-Err-clause-moved
returns-in-Err-clause-moved g c = moved_join g.D.Disk c.loop-i.invariant.moved c.block.ensures.moved

pub returns-in-Err-push-clause-moved : goal.returns-in-Err-push-clause-moved
returns-in-Err-push-clause-moved g c = moved_join g.D.Disk c.loop-i.invariant.moved c.block.ensures.moved

pub returns-in-Err-clause-blamed : goal.returns-in-Err-clause-blamed
returns-in-Err-clause-blamed g c = λ has.
    let now = c.loop-i.invariant in
    let lt : c.loop-i.i < length c.args.indexes.now = omega (arith, c.loop-i-test.true, c.requires.long) in
    subst (λ (h : Option Contents). BlamesContainer (written_of c.args.shape.now) c.args.container.now h c.in-Err.fault) now.kept
    (c.in-Err.ensures.blamed (index_here (written_of c.args.shape.now) c.args.container.now c.args.columns.now (g.D.Disk.holds c.loop-i.disk) (g.D.Disk.holds c.args.disk.now) c.args.indexes.now c.loop-i.i c.index-indexes-i.result now.kept has lt c.index-indexes-i.is))

pub loop-i-preserved : goal.loop-i-preserved
loop-i-preserved g c =
    let now = c.loop-i.invariant in
    let is = c.in-Ok-push.ensures.items in
    let lt : c.loop-i.i < length c.args.indexes.now = omega (arith, c.loop-i-test.true, c.requires.long) in
    let own = own_column c.args.shape.now c.args.columns.now c.loop-i.i c.requires.columns c.loop-i-test.true in
    record {
      long = omega (arith, ap length is, length-append c.loop-i.out.items (c.in-Ok.values ∷ []), now.long);
      values = subst (All (All IsValue)) (sym {A = List (List Value)} is) (All-push (All IsValue) c.loop-i.out.items c.in-Ok.values now.values c.in-Ok.ensures.values);
      found = λ has.
          columns_more (written_of c.args.shape.now) c.args.container.now (g.D.Disk.holds c.loop-i.disk) (g.D.Disk.holds c.args.disk.now) c.args.k c.args.columns.now c.loop-i.i c.loop-i.out.items c.push.new.self.items c.in-Ok.values
          now.kept c.loop-i-test.true own is (now.found has)
          (c.in-Ok.ensures.found (index_here (written_of c.args.shape.now) c.args.container.now c.args.columns.now (g.D.Disk.holds c.loop-i.disk) (g.D.Disk.holds c.args.disk.now) c.args.indexes.now c.loop-i.i c.index-indexes-i.result now.kept has lt c.index-indexes-i.is));
      kept = c.block.ensures.kept ∙ now.kept;
      moved = moved_join g.D.Disk now.moved c.block.ensures.moved;
    }

pub returns-clause-found : goal.returns-clause-found
returns-clause-found g c = λ has m told rows holding.
    let past : length c.args.columns.now ≤ c.loop-i.i = omega (arith, c.loop-i-test.false) in
    c.loop-i.invariant.found has m told rows holding ∙ ap (map (λ n. column_values n (rows_in c.args.k rows))) (take_all c.loop-i.i c.args.columns.now past)
