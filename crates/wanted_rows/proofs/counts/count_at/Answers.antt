use Rattle.std.proofs.Common.{◌≡◌, ◌∙◌, ℕ, sym, ap}
use Rattle.std.specs.Prelude.{Option, Some, unwrap_or}
use Rattle.write_store.specs.declared.held.Inserted.{Inserted}
use Rattle.wanted_rows.specs.Wanted.{asked_in, count_in}
use Rattle.wanted_rows.proofs.Counting.{key_exact}
use Rattle.wanted_rows.proofs.counts.count_at.Goals as goal

pub returns-then-eq-clause-there : goal.returns-then-eq-clause-there
returns-then-eq-clause-there c =
    let same : c.in_ok-key.key.now ≡ c.args.row.now = key_exact c.in_ok-key.key.now c.args.row.now (sym c.if-eq.ensures) in
    sym c.in_ok-key.ensures.entry ∙ ap (λ (k : Inserted). Some (k, c.in_ok-key.count.now)) same

pub returns-then-eq-clause-count : goal.returns-then-eq-clause-count
returns-then-eq-clause-count c =
    let same : c.in_ok-key.key.now ≡ c.args.row.now = key_exact c.in_ok-key.key.now c.args.row.now (sym c.if-eq.ensures) in
    ap (λ (k : Inserted). count_in c.args.counts.now.entries (asked_in k)) (sym same) ∙ ap (λ (o : Option ℕ). unwrap_or o 0) c.in_ok-key.ensures.value
