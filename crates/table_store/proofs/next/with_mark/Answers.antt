use Rattle.catalog_types.specs.Valid.{IsValid}
use Rattle.std.proofs.Common.{◌≡◌, arith, subst}
use Rattle.catalog_laws.specs.Going.{HaveReached}
use Rattle.table_store.specs.Creating.{with_mark}
use Rattle.table_store.proofs.Nexts.{one_ok, mark_put}
use Rattle.table_store.proofs.next.with_mark.Goals as goal

pub returns-clause-valid : goal.returns-clause-valid
returns-clause-valid c =
    one_ok c.with_mark.result (λ k. k ≡ with_mark c.args.last c.args.mark c.args.root.now) (λ k. IsValid k) c.with_mark.ensures
    (λ k is. mark_put c.args.root.now k c.args.last c.args.mark c.requires.valid (c.goes_on.ensures c.if-not-goes_on.false) (omega (arith, c.if-last-mark.false))
    (subst (HaveReached c.args.mark) c.as_slice.ensures (c.have_reached.ensures c.if-not-have_reached.false)) is)
