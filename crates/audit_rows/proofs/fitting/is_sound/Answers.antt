use Rattle.std.proofs.Common.{◌∙◌, sym}
use Rattle.std.proofs.lemmas.Bool.{false≢true}
use Rattle.audit_rows.proofs.RowsFit.{sound_both, sound_not}
use Rattle.audit_rows.proofs.fitting.is_sound.Goals as goal

pub returns-then-not-is_later : goal.returns-then-not-is_later
returns-then-not-is_later c =
    sound_not c.args.table.now c.args.shape.now c.args.columns.now c.args.i c.args.ins c.args.del (λ later. absurd (false≢true (sym c.if-not-is_later.true ∙ c.is_later.ensures.1 later)))

pub returns : goal.returns
returns c =
    sound_both c.args.table.now c.args.shape.now c.as_slice.result.now c.args.columns.now c.args.i c.args.ins c.args.del c.row_fits.result c.as_slice.ensures c.requires.values (c.is_later.ensures.0 c.if-not-is_later.false)
    c.row_fits.ensures
