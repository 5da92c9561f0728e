use Rattle.std.proofs.Common.{◌≡◌, ◌∙◌, ℕ, Bool, List, true, false, get_or, ap, sym}
use Rattle.std.specs.Prelude.{Option}
use Rattle.col_value.specs.declared.value.Value.{Value}
use Rattle.proj_store.specs.Candidates.{columns_in, row_of}
use Rattle.proj_store.proofs.Candidacy.{candidate_gone, candidate_is}
use Rattle.proj_store.proofs.rows.Candidates.row.Goals as goal

pub returns-then-not-is_alive : goal.returns-then-not-is_alive
returns-then-not-is_alive c =
    let dead : get_or c.self.inside.alive.items c.args.i false ≡ false =
    sym (c.is_alive.ensures ∙ ap (λ (xs : List Bool). get_or xs c.args.i false) c.as_slice.ensures.value) ∙ c.if-not-is_alive.true in
    sym (candidate_gone c.args.self.now c.self.inside.alive.items c.self.inside.stamps.items (columns_in c.self.inside.columns.items) c.args.i c.self.view_is dead)

pub returns : goal.returns
returns c =
    let live : get_or c.self.inside.alive.items c.args.i false ≡ true =
    sym (c.is_alive.ensures ∙ ap (λ (xs : List Bool). get_or xs c.args.i false) c.as_slice.ensures.value) ∙ c.if-not-is_alive.false in
    sym
    (candidate_is c.args.self.now c.self.inside.alive.items c.self.inside.stamps.items (columns_in c.self.inside.columns.items) c.args.i c.stamp_at-ins.result c.in_ok-row.row c.self.view_is live
    (c.stamp_at-ins.ensures ∙ ap (λ (xs : List ℕ). get_or xs c.args.i 0) c.as_slice-2.ensures.value)
    (c.in_ok-row.ensures ∙ ap (λ (cs : List (Option (List Value))). row_of (columns_in cs) c.args.i) c.as_slice-3.ensures.value))
