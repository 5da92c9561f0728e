use Rattle.std.proofs.Common.{◌≤◌, ◌<◌, ◌∙◌, length, sym, arith}
use Rattle.std.proofs.lemmas.Bool.{false≢true}
use Rattle.audit_rows.proofs.RowsFit.{fits_next, fits_not, fits_all}
use Rattle.audit_rows.proofs.fitting.row_fits.Goals as goal

pub loop-j-preserved : goal.loop-j-preserved
loop-j-preserved c =
    let also : c.loop-j.j < length c.args.columns.now = omega (arith, c.loop-j-test.true, c.requires) in
    fits_next c.args.table.now c.args.own.now c.args.columns.now c.args.i c.loop-j.j c.index-own-j.result c.index-columns-j.result c.loop-j-test.true also c.index-own-j.is c.index-columns-j.is
    (c.fits_at.ensures.0 c.if-not-fits_at.false) c.loop-j.invariant

pub returns-then-not-fits_at : goal.returns-then-not-fits_at
returns-then-not-fits_at c =
    let also : c.loop-j.j < length c.args.columns.now = omega (arith, c.loop-j-test.true, c.requires) in
    fits_not c.args.table.now c.args.own.now c.args.columns.now c.args.i c.loop-j.j c.index-own-j.result c.index-columns-j.result c.loop-j-test.true also c.index-own-j.is c.index-columns-j.is
    (λ fits. absurd (false≢true (sym c.if-not-fits_at.true ∙ c.fits_at.ensures.1 fits))) c.loop-j.invariant

pub returns : goal.returns
returns c =
    let past : length c.args.own.now ≤ c.loop-j.j = omega (arith, c.loop-j-test.false) in
    let also : length c.args.columns.now ≤ c.loop-j.j = omega (arith, c.loop-j-test.false, c.requires) in
    fits_all c.args.table.now c.args.own.now c.args.columns.now c.args.i c.loop-j.j past also c.loop-j.invariant
