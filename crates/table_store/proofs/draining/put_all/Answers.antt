use Rattle.std.proofs.Common.{◌≡◌, List, ◌∷◌, length, map, reverse, set, refl, rules, sym, ◌∙◌, ap, subst, arith}
use Rattle.table_store.specs.Draining.{put_all, put_one}
use Rattle.table_store.specs.Held.{projections_of}
use Rattle.table_store.specs.declared.draining.Moved.{Moved}
use Rattle.table_store.proofs.Drained.{one_put, place_of_one, placed_in, placed_rest, placed_table, turned, AllPlaced}
use Rattle.table_store.proofs.draining.put_all.Goals as goal

pub index_mut-requires : goal.index_mut-requires
index_mut-requires c =
    let items = c.loop-one.tables.items in
    let all : AllPlaced (map projections_of items) (c.in-Some.one ∷ reverse c.pop.new.self.items) = subst (AllPlaced (map projections_of items)) (turned c.loop-one.rest.items c.pop.new.self.items c.in-Some.one c.in-Some.ensures.items) c.loop-one.invariant.placed in
    let lt = placed_table items c.in-Some.one (place_of_one items c.in-Some.one (reverse c.pop.new.self.items) all) in
    let long : c.loop-one.tables.len ≡ length items = search rules in
    omega (arith, lt, long)

pub replace-requires : goal.replace-requires
replace-requires c =
    let items = c.loop-one.tables.items in
    let all : AllPlaced (map projections_of items) (c.in-Some.one ∷ reverse c.pop.new.self.items) = subst (AllPlaced (map projections_of items)) (turned c.loop-one.rest.items c.pop.new.self.items c.in-Some.one c.in-Some.ensures.items) c.loop-one.invariant.placed in
    placed_in items c.in-Some.one c.index_mut.result.now (place_of_one items c.in-Some.one (reverse c.pop.new.self.items) all) c.index_mut.ensures.value

pub loop-one-preserved : goal.loop-one-preserved
loop-one-preserved c =
    let items = c.loop-one.tables.items in
    let one = c.in-Some.one in
    let left = reverse c.pop.new.self.items in
    let after = set items one.table c.replace.new.self in
    let turn = turned c.loop-one.rest.items c.pop.new.self.items one c.in-Some.ensures.items in
    let all : AllPlaced (map projections_of items) (one ∷ left) = subst (AllPlaced (map projections_of items)) turn c.loop-one.invariant.placed in
    let put : map projections_of after ≡ put_one one (map projections_of items) =
    one_put items after one c.index_mut.result.now c.replace.new.self (place_of_one items one left all) c.index_mut.ensures.value c.replace.ensures refl in
    record {
      placed = placed_rest items after one left all put;
      rest = ap (put_all left) put ∙ ap (λ (fs : List Moved). put_all fs (map projections_of items)) (sym turn) ∙ c.loop-one.invariant.rest;
    }
