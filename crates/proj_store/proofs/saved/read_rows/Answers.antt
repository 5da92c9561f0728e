use Rattle.std.proofs.Common.{sym, subst}
use Rattle.ros_container.specs.Encodings.{written_of}
use Rattle.ros_container.specs.Held.{HoldsContainer}
use Rattle.proj_store.proofs.saved.read_rows.Goals as goal

pub returns-in-Ok-stamp-clause-found : goal.returns-in-Ok-stamp-clause-found
returns-in-Ok-stamp-clause-found g c = λ m told. record {
  held = subst (HoldsContainer m (written_of c.args.entry.now) c.args.container.now) (sym c.in-Ok-stamp.ensures.rows) (c.in-Ok.ensures.found m told);
  deleted = c.in-Ok-stamp.ensures.deleted;
}
