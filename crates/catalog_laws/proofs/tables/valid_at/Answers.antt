use Rattle.std.proofs.Common.{◌≡◌, ℕ, zero, suc, ◌<◌, List, [], ◌∷◌, get_or, set, length, sym, ◌∙◌, ap, subst, arith}
use Rattle.catalog_types.specs.declared.catalogue.Catalogue.{Catalogue}
use Rattle.catalog_types.specs.declared.catalogue.Table.{Table}
use Rattle.catalog_laws.proofs.tables.valid_at.Goals as goal

put_back : {X : Type 0} (xs : List X) (i : ℕ) (x y : X) → i < length xs → y ≡ get_or xs i y → set (set xs i x) i y ≡ xs
put_back [] i x y lt is = absurd (omega (arith, lt))
put_back {X} (z ∷ xs) zero x y lt is = ap (λ (w : X). w ∷ xs) is
put_back {X} (z ∷ xs) (suc i) x y lt is = ap (λ (ws : List X). z ∷ ws) (put_back xs i x y (omega (arith, lt)) is)

pub returns-clause-same : goal.returns-clause-same
returns-clause-same c =
    let k = c.args.catalogue in
    let items = c.into_vec-tables.result.items in
    let table = c.in_ok-tables.field-0 in
    let lt : c.args.place < length items = subst (λ (ts : List Table). c.args.place < length ts) (sym c.into_vec-tables.ensures) c.requires in
    let there : table ≡ get_or items c.args.place table = subst (λ (t : Table). t ≡ get_or items c.args.place t) (sym (c.in_ok-tables.ensures.same ∙ c.replace-table.ensures.value)) c.index_mut.ensures.value in
    ap {B = Catalogue} (λ (ts : List Table). record { last = k.last; ahm = k.ahm; next = k.next; tables = ts }) (c.new.ensures ∙ put_back items c.args.place c.replace-table.new.dest table lt there ∙ c.into_vec-tables.ensures)
