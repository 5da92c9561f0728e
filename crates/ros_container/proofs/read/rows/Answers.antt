use Rattle.std.proofs.Common.{◌≡◌, length, sym, subst, ap, ◌∙◌, ◌+◌, arith}
use Rattle.std.proofs.lemmas.List.{length-map}
use Rattle.col_disk.proofs.Moving.{moved_join}
use Rattle.ros_container.specs.Encodings.{written_as, written_of}
use Rattle.ros_container.specs.Held.{BlamesContainer}
use Rattle.ros_container.specs.Parts.{HasValues}
use Rattle.ros_container.specs.Rows.{AreRows, AreWide, AreWithin}
use Rattle.ros_container.proofs.Blames.{blamed_holds_none}
use Rattle.ros_container.proofs.Columns.{with_length, with_rows, with_wide, with_within}
use Rattle.ros_container.proofs.Reading.{each_more, epochs_more, all_read}
use Rattle.ros_container.proofs.read.rows.Goals as goal

pub returns-in-Err-clause-none : goal.returns-in-Err-clause-none
returns-in-Err-clause-none g c = blamed_holds_none (written_of c.args.shape.now) c.args.entry.now (g.D.Disk.holds c.args.disk.now) c.in-Err.fault c.in-Err.ensures.blamed

pub returns-in-Err-read_one-clause-none : goal.returns-in-Err-read_one-clause-none
returns-in-Err-read_one-clause-none g c =
    blamed_holds_none (written_of c.args.shape.now) c.args.entry.now (g.D.Disk.holds c.args.disk.now) c.in-Err-read_one.fault
    (subst (λ h. BlamesContainer (written_of c.args.shape.now) c.args.entry.now h c.in-Err-read_one.fault) c.loop-i.invariant.kept c.in-Err-read_one.ensures.blamed)

pub loop-i-preserved : goal.loop-i-preserved
loop-i-preserved g c =
    let now = c.loop-i.invariant in
    let is = c.in-Ok-with_values.ensures in
    let long : length c.loop-i.rows.items ≡ length c.in-Ok-read_one.values.items = now.long ∙ sym c.in-Ok-read_one.ensures.long in
    record {
      each = each_more (λ i m vs. HasValues m (written_of c.args.shape.now) c.args.entry.now i vs) c.loop-i.i (g.D.Disk.holds c.args.disk.now) (g.D.Disk.holds c.loop-i.disk) c.loop-i.rows.items c.in-Ok-with_values.rows.items c.in-Ok-read_one.values.items now.kept is long now.wide now.each
          c.in-Ok-read_one.ensures.found;
      epochs = epochs_more c.args.entry.now (g.D.Disk.holds c.args.disk.now) c.loop-i.rows.items c.in-Ok-with_values.rows.items c.in-Ok-read_one.values.items is long now.epochs;
      long = ap length is ∙ with_length c.loop-i.rows.items c.in-Ok-read_one.values.items long ∙ now.long;
      wide = subst (AreWide (c.loop-i.i + 1)) (sym is) (with_wide c.loop-i.i c.loop-i.rows.items c.in-Ok-read_one.values.items long now.wide);
      values = subst AreRows (sym is) (with_rows c.loop-i.rows.items c.in-Ok-read_one.values.items long now.values c.in-Ok-read_one.ensures.values);
      within = subst (AreWithin c.args.entry.now) (sym is) (with_within c.args.entry.now c.loop-i.rows.items c.in-Ok-read_one.values.items long now.within);
      kept = c.read_one.ensures.kept ∙ now.kept;
      moved = moved_join g.D.Disk now.moved c.read_one.ensures.moved;
    }

pub returns-in-Err-read_one-clause-moved : goal.returns-in-Err-read_one-clause-moved
returns-in-Err-read_one-clause-moved g c = moved_join g.D.Disk c.loop-i.invariant.moved c.read_one.ensures.moved

pub returns-in-Err-with_values-clause-moved : goal.returns-in-Err-with_values-clause-moved
returns-in-Err-with_values-clause-moved g c = moved_join g.D.Disk c.loop-i.invariant.moved c.read_one.ensures.moved

pub returns-clause-found : goal.returns-clause-found
returns-clause-found g c m told =
    let now = c.loop-i.invariant in
    let columns = ap length c.as_slice-i-end.ensures in
    let past = c.loop-i-test.false in
    let upto = c.loop-i.auto.i-end in
    all_read m (written_of c.args.shape.now) c.args.entry.now c.loop-i.i c.loop-i.rows.items
    (omega (arith, columns, past, upto, length-map c.args.shape.now.columns written_as)) (omega (arith, columns, past, upto, c.requires.entry.of_columns.most)) (λ i lt. now.each i lt m told) (now.epochs m told) now.wide now.within
