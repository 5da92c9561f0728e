use Rattle.std.proofs.Common.{◌≡◌, ◌∙◌, ℕ, Bool, List, true, false, get_or, ap, sym}
use Rattle.std.specs.Prelude.{Option}
use Rattle.col_value.specs.declared.value.Value.{Value}
use Rattle.proj_store.specs.Candidates.{columns_in, row_of}
use Rattle.proj_store.proofs.Candidacy.{candidate_is}
use Rattle.proj_store.proofs.rows.Candidates.is.Goals as goal

pub returns : goal.returns
returns c = λ same.
    let live : get_or c.self.inside.alive.items c.args.i false ≡ true =
    sym (c.is_alive.ensures ∙ ap (λ (xs : List Bool). get_or xs c.args.i false) c.as_slice.ensures.value) ∙ c.if-not-is_alive.false in
    candidate_is c.args.self.now c.self.inside.alive.items c.self.inside.stamps.items (columns_in c.self.inside.columns.items) c.args.i c.args.asked.now.ins c.args.asked.now.row c.self.view_is live
    (c.is_row.ensures.ins same ∙ c.stamp_at-ins.ensures ∙ ap (λ (xs : List ℕ). get_or xs c.args.i 0) c.as_slice-2.ensures.value)
    (c.is_row.ensures.row same ∙ ap (λ (cs : List (Option (List Value))). row_of (columns_in cs) c.args.i) c.as_slice-3.ensures.value)
