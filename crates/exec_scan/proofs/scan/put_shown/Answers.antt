use Rattle.std.proofs.Common.{◌≡◌, ◌∙◌, ◌++◌, ◌∷◌, [], Bool, List, ℕ, length, ap, ap₂, cond, rules, sym}
use Rattle.col_value.specs.declared.value.Value.{Value}
use Rattle.query_cover.specs.Seen.{placed}
use Rattle.exec_scan.specs.Batches.{rows_at}
use Rattle.exec_scan.proofs.Batched.{length_placed, row_joined}
use Rattle.exec_scan.proofs.scan.put_shown.Goals as goal

pub returns-then-shown-clause-rows : goal.returns-then-shown-clause-rows
returns-then-shown-clause-rows c =
    let w = length c.args.places.now in
    let from : c.len.result ≡ length c.args.values.now.items = search rules in
    let new = placed c.args.places.now c.args.row.now in
    ap₂ (λ (vs : List Value) (ss : List ℕ). rows_at w vs ss) c.in_ok-put_row.ensures.values c.in_ok-push.ensures.items
    ∙ ap (λ (n : ℕ). rows_at w (c.args.values.now.items ++ new) (c.args.starts.now.items ++ n ∷ [])) from
    ∙ row_joined w c.args.values.now.items new c.args.starts.now.items c.requires.batch (length_placed c.args.places.now c.args.row.now)
    ∙ ap (λ (b : Bool). rows_at w c.args.values.now.items c.args.starts.now.items ++ cond b (new ∷ []) []) (sym c.if-shown.true)
