use Rattle.catalog_laws.proofs.Stays.{kept_if}
use Rattle.catalog_laws.proofs.entries.keeps_numbers.Goals as goal

pub returns : goal.returns
returns c = kept_if c.args.first c.args.old.now c.args.new.now c.as_slice.result.now c.as_slice-containers.result.now c.are_drawn_once.result c.as_slice.ensures c.as_slice-containers.ensures (c.are_among.ensures c.if-not-are_among.false) c.are_drawn_once.ensures
