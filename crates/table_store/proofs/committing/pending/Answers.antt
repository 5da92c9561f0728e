use Rattle.std.proofs.Common.{◌∙◌, ℕ, List, ap}
use Rattle.db_model.specs.State.{pending_rows, pending_deletes}
use Rattle.txn_core.proofs.Taken.{rows_in, rows_on}
use Rattle.table_store.proofs.Readied.{deletes_in, deletes_on}
use Rattle.table_store.proofs.committing.pending.Goals as goal

pub returns-in-Some-clause-rows : goal.returns-in-Some-clause-rows
returns-in-Some-clause-rows c = c.rows.ensures.rows ∙ ap rows_in c.in-Some.ensures ∙ rows_on c.as_slice.result.now c.args.changes.now ∙ ap (λ (n : List ℕ). pending_rows n c.args.changes.now) c.as_slice.ensures

pub returns-in-Some-clause-deletes : goal.returns-in-Some-clause-deletes
returns-in-Some-clause-deletes c = c.deletes.ensures ∙ ap deletes_in c.in-Some.ensures ∙ deletes_on c.as_slice.result.now c.args.changes.now ∙ ap (λ (n : List ℕ). pending_deletes n c.args.changes.now) c.as_slice.ensures

pub returns-in-None-clause-rows : goal.returns-in-None-clause-rows
returns-in-None-clause-rows c = ap rows_in c.in-None.ensures ∙ rows_on c.as_slice.result.now c.args.changes.now ∙ ap (λ (n : List ℕ). pending_rows n c.args.changes.now) c.as_slice.ensures

pub returns-in-None-clause-deletes : goal.returns-in-None-clause-deletes
returns-in-None-clause-deletes c = ap deletes_in c.in-None.ensures ∙ deletes_on c.as_slice.result.now c.args.changes.now ∙ ap (λ (n : List ℕ). pending_deletes n c.args.changes.now) c.as_slice.ensures
