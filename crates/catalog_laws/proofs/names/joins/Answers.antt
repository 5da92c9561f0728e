use Rattle.std.proofs.Common.{List, subst}
use Rattle.catalog_types.specs.declared.catalogue.Table.{Table}
use Rattle.catalog_laws.specs.Going.{IsPlace}
use Rattle.catalog_laws.proofs.names.joins.Goals as goal

pub returns : goal.returns
returns c = λ says. record {
  few = c.has_room.ensures c.if-not-has_room.false;
  names = c.are_free.ensures c.if-not-are_free.false;
  place = subst (λ (ts : List Table). IsPlace ts c.args.place c.args.t.now.name) c.as_slice.ensures (c.is_place.ensures says);
}
