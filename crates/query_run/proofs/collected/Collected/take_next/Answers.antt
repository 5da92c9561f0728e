use Rattle.std.proofs.Common.{◌≡◌, ◌+◌, ap, length, map, refl, sym, take, true, ◌∙◌, ℕ}
use Rattle.std.specs.Prelude.{IsSomeAnd}
use Rattle.std.specs.Ordering.{is_lt}
use Rattle.std.proofs.lemmas.List.Elements.{All-map}
use Rattle.exec_group.specs.Columns.{row_of}
use Rattle.sql_bound.specs.Printed.{printed_cmp}
use Rattle.sql_bound.specs.Values.{of_row}
use Rattle.query_run.specs.Outputs.{items_in}
use Rattle.query_run.proofs.Bars.{held_passed}
use Rattle.query_run.proofs.Together.{count_at}
use Rattle.query_run.proofs.collected.Collected.take_next.Goals as goal

pub returns-then-n-gt0-clause-taken : goal.returns-then-n-gt0-clause-taken
returns-then-n-gt0-clause-taken c =
    let q = c.args.query.now in
    let old = c.args.self.now in
    let row = row_of c.args.columns.now in
    let places = c.args.places.now in
    let n = c.barred_run-n.result in
    let sum : c.in_ok-self.field-0 ≡ old.taken + length (map row (take n places)) = c.in_ok-self.ensures.sum ∙ ap (λ (k : ℕ). old.taken + k) (sym (count_at c.args.columns.now places n c.barred_run-n.ensures.within)) in
    held_passed q (map row (take n places)) old _ c.requires.plain refl refl sum c.in_ok-self.ensures.few
    (All-map (λ t. IsSomeAnd old.bar (λ b. is_lt (printed_cmp q.order b (items_in q (of_row t))) ≡ true)) row (take n places) c.barred_run-n.ensures.barred)

pub take_place-requires-clause-row : goal.take_place-requires-clause-row
take_place-requires-clause-row c = c.requires.rows 0 0 c.requires.some
