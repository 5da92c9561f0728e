use Rattle.std.proofs.Common.{◌≡◌, ◌<◌, ℕ, length, set, get_or, refl, rules, sym, ◌∙◌, ap, subst, arith}
use Rattle.proj_store.specs.Loaded.{Loaded}
use Rattle.table_store.specs.Changing.{zipped}
use Rattle.table_store.specs.Widening.{CanTake, widened_by}
use Rattle.table_store.specs.Held.{projections_of}
use Rattle.table_store.proofs.Loops.{Fronts, fronts_of, fronts_long, fronts_last, fronts_set, used}
use Rattle.table_store.proofs.parts.columns.apply_columns.Goals as goal

pub loop-part-init : goal.loop-part-init
loop-part-init c = record { room = fronts_of CanTake c.args.ready.items c.args.stores.now c.requires; rest = refl }

pub offset_bounds-stores-len : goal.offset_bounds-stores-len
offset_bounds-stores-len c =
    let at : c.len.result ≡ length c.pop.new.self.items = search rules in
    let room = subst (λ zs. Fronts CanTake zs c.loop-part.stores) c.in-Some.ensures.items c.loop-part.invariant.room in
    let lt : c.len.result < length c.loop-part.stores = omega (arith, at, fronts_long CanTake c.pop.new.self.items c.in-Some.part c.loop-part.stores room) in
    search (rules, lt)

pub bounds-stores-len : goal.bounds-stores-len
bounds-stores-len c =
    let at : c.len.result ≡ length c.pop.new.self.items = search rules in
    let room = subst (λ zs. Fronts CanTake zs c.loop-part.stores) c.in-Some.ensures.items c.loop-part.invariant.room in
    omega (arith, at, fronts_long CanTake c.pop.new.self.items c.in-Some.part c.loop-part.stores room)

pub apply_one-requires : goal.apply_one-requires
apply_one-requires c =
    let at : c.len.result ≡ length c.pop.new.self.items = search rules in
    let room = subst (λ zs. Fronts CanTake zs c.loop-part.stores) c.in-Some.ensures.items c.loop-part.invariant.room in
    let old = c.index-stores-len.result in
    let is : old ≡ get_or c.loop-part.stores (length c.pop.new.self.items) old = c.index-stores-len.is ∙ ap (λ (n : ℕ). get_or c.loop-part.stores n old) at in
    subst (CanTake c.in-Some.part) c.index-stores-len.is (fronts_last CanTake c.pop.new.self.items c.in-Some.part c.loop-part.stores old is room)

pub loop-part-preserved : goal.loop-part-preserved
loop-part-preserved c =
    let xs = c.loop-part.stores in
    let ys = c.pop.new.self.items in
    let at : c.len.result ≡ length ys = search rules in
    let room = subst (λ zs. Fronts CanTake zs xs) c.in-Some.ensures.items c.loop-part.invariant.room in
    let old = c.index-stores-len.result in
    let is : old ≡ get_or xs (length ys) old = c.index-stores-len.is ∙ ap (λ (n : ℕ). get_or xs n old) at in
    let was = subst (λ zs. zipped widened_by zs (projections_of xs) ≡ zipped widened_by c.args.ready.items (projections_of c.args.stores.now)) c.in-Some.ensures.items c.loop-part.invariant.rest in
    record {
      room = subst (λ (n : ℕ). Fronts CanTake ys (set xs n c.apply_one.new.store)) (sym at) (fronts_set CanTake ys c.in-Some.part xs c.apply_one.new.store room);
      rest =
          subst (λ (n : ℕ). zipped widened_by ys (projections_of (set xs n c.apply_one.new.store)) ≡ zipped widened_by c.args.ready.items (projections_of c.args.stores.now)) (sym at)
          (used (λ (p : Loaded). p.stored) widened_by ys c.in-Some.part xs old c.apply_one.new.store (zipped widened_by c.args.ready.items (projections_of c.args.stores.now))
          (fronts_long CanTake ys c.in-Some.part xs room) is (c.apply_one.ensures ∙ ap (λ (p : Loaded). widened_by c.in-Some.part p.stored) (sym c.index-stores-len.is)) was);
    }
