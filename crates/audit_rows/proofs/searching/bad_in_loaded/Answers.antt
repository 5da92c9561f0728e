use Rattle.std.proofs.Common.{◌∙◌, length, ap}
use Rattle.std.proofs.lemmas.List.FromFn.{length-range_with_len}
use Rattle.del_vector.specs.Marks.{epoch_at}
use Rattle.audit_rows.proofs.Finding.{all_below}
use Rattle.audit_rows.proofs.BlocksSearched.{block_finds}
use Rattle.audit_rows.proofs.searching.bad_in_loaded.Goals as goal

pub returns-clause-found : goal.returns-clause-found
returns-clause-found g c = λ of.
    block_finds (g.D.Disk.holds c.args.disk.now) (g.D.Disk.holds c.args.disk.now) c.args.epoch c.args.mark c.args.table.now c.args.shape.now c.args.container.now c.args.columns.now (epoch_at c.args.opened.now.vector.marks) c.args.k
    c.in-Ok.block.stamps.items c.in-Ok.block.columns.items c.bad_in_block.result c.requires.columns (c.in-Ok.ensures.found of) c.bad_in_block.ensures

pub load-requires-clause-columns : goal.load-requires-clause-columns
load-requires-clause-columns g c = all_below (length c.args.shape.now.columns) c.args.columns.now c.requires.columns

pub bad_in_block-requires-clause-wide : goal.bad_in_block-requires-clause-wide
bad_in_block-requires-clause-wide g c = c.in-Ok.ensures.wide ∙ ap length c.requires.columns ∙ length-range_with_len 0 (length c.args.shape.now.columns)
