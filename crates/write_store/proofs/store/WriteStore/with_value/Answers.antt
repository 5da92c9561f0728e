use Rattle.std.proofs.Common.{◌≡◌, map, sym, ◌∙◌, ap, subst}
use Rattle.write_store.specs.Memory.{stamp, AreHeldRows, Memory, with_value, wider}
use Rattle.write_store.proofs.Widening.{wider_stamps, wider_valid}
use Rattle.write_store.proofs.store.WriteStore.with_value.Goals as goal

pub invariant_of-result : goal.invariant_of-result
invariant_of-result c =
    let v = c.args.last.now in
    let is : c.in_ok-rows.rows.items ≡ map (wider v) c.self.inside.rows.items = c.in_ok-rows.ensures ∙ ap (map (wider v)) c.as_slice.ensures.value in
    subst AreHeldRows (sym is) (wider_valid v c.self.inside.rows.items c.requires c.self.invariant)

pub returns : goal.returns
returns c =
    let v = c.args.last.now in
    let is : c.in_ok-rows.rows.items ≡ map (wider v) c.self.inside.rows.items = c.in_ok-rows.ensures ∙ ap (map (wider v)) c.as_slice.ensures.value in
    ap (map stamp) is ∙ wider_stamps v c.self.inside.rows.items ∙ ap (λ (m : Memory). map (with_value v) m.rows) c.self.view_is
