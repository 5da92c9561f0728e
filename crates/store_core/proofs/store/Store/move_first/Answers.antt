use Rattle.std.proofs.Common.{◌≡◌, ◌∙◌, map, sym, ap}
use Rattle.std.specs.Prelude.{List, Some, None}
use Rattle.catalog_types.specs.declared.catalogue.Catalogue.{Catalogue}
use Rattle.catalog_types.specs.declared.catalogue.Table as kept
use Rattle.store_core.proofs.First.{found_at, there_now, entries_now, found_fresh, shape_first, first_done, first_failed, first_none}
use Rattle.store_core.proofs.Small.{moved_behind}
use Rattle.table_store.proofs.Moves.{any_blamed}
use Rattle.store_core.proofs.store.Store.move_first.Goals as goal

pub returns-in-None-clause-does : goal.returns-in-None-clause-does
returns-in-None-clause-does g c = λ state here.
    let s = c.self.inside.tables in
    let tables : s.catalogue.tables ≡ c.as_slice.result.now = ap (λ (x : Catalogue). x.tables) c.root.ensures.root ∙ sym c.as_slice.ensures in
    first_none g.D.Disk c.args.disk.now c.args.self.now state here
    (found_at c.as_slice.result.now c.last.result None s c.self.inside.txns c.self.inside.current c.self.inside.mover c.args.self.now tables c.last.ensures c.self.view_is c.in-None.ensures.first)

pub move_out-requires : goal.move_out-requires
move_out-requires g c =
    let s = c.self.inside.tables in
    let tables : s.catalogue.tables ≡ c.as_slice.result.now = ap (λ (x : Catalogue). x.tables) c.root.ensures.root ∙ sym c.as_slice.ensures in
    let at = c.in-Some.at in
    let there = there_now c.as_slice.result.now at s c.self.inside.txns c.self.inside.current c.self.inside.mover c.args.self.now tables c.self.view_is c.in-Some.ensures.there in
    found_fresh c.args.self.now at there.0
    (entries_now c.as_slice.result.now s c.self.inside.txns c.self.inside.current c.self.inside.mover c.args.self.now tables c.self.view_is (c.root.ensures.entries ∙ ap (λ (ts : List kept.Table). map (λ t. t.projections) ts) (sym c.as_slice.ensures))) there.1
    (found_at c.as_slice.result.now c.last.result (Some at) s c.self.inside.txns c.self.inside.current c.self.inside.mover c.args.self.now tables c.last.ensures c.self.view_is c.in-Some.ensures.first)

pub returns-in-Ok-clause-does : goal.returns-in-Ok-clause-does
returns-in-Ok-clause-does g c = λ state here.
    let s = c.self.inside.tables in
    let tables : s.catalogue.tables ≡ c.as_slice.result.now = ap (λ (x : Catalogue). x.tables) c.root.ensures.root ∙ sym c.as_slice.ensures in
    let at = c.in-Some.at in
    let there = there_now c.as_slice.result.now at s c.self.inside.txns c.self.inside.current c.self.inside.mover c.args.self.now tables c.self.view_is c.in-Some.ensures.there in
    let first = found_at c.as_slice.result.now c.last.result (Some at) s c.self.inside.txns c.self.inside.current c.self.inside.mover c.args.self.now tables c.last.ensures c.self.view_is c.in-Some.ensures.first in
    first_done g.D.Disk c.args.self.now _ state at there.0 here there.1 (shape_first c.args.self.now at there.0 there.1 first) (c.in-Ok.ensures.does state here)

pub returns-in-Err-clause-does : goal.returns-in-Err-clause-does
returns-in-Err-clause-does g c = λ state here.
    let s = c.self.inside.tables in
    let tables : s.catalogue.tables ≡ c.as_slice.result.now = ap (λ (x : Catalogue). x.tables) c.root.ensures.root ∙ sym c.as_slice.ensures in
    let at = c.in-Some.at in
    let there = there_now c.as_slice.result.now at s c.self.inside.txns c.self.inside.current c.self.inside.mover c.args.self.now tables c.self.view_is c.in-Some.ensures.there in
    let first = found_at c.as_slice.result.now c.last.result (Some at) s c.self.inside.txns c.self.inside.current c.self.inside.mover c.args.self.now tables c.last.ensures c.self.view_is c.in-Some.ensures.first in
    first_failed g.D.Disk c.args.self.now _ state c.in-Err.fault at there.0 here there.1 (shape_first c.args.self.now at there.0 there.1 first) (c.in-Err.ensures.does state here)

pub returns-in-Ok-clause-job : goal.returns-in-Ok-clause-job
returns-in-Ok-clause-job g c =
    let s = c.self.inside.tables in
    let tables : s.catalogue.tables ≡ c.as_slice.result.now = ap (λ (x : Catalogue). x.tables) c.root.ensures.root ∙ sym c.as_slice.ensures in
    let at = c.in-Some.at in
    let there = there_now c.as_slice.result.now at s c.self.inside.txns c.self.inside.current c.self.inside.mover c.args.self.now tables c.self.view_is c.in-Some.ensures.there in
    let first = found_at c.as_slice.result.now c.last.result (Some at) s c.self.inside.txns c.self.inside.current c.self.inside.mover c.args.self.now tables c.last.ensures c.self.view_is c.in-Some.ensures.first in
    moved_behind c.args.self.now.seen.catalogue c.move_out.new.self.seen.catalogue at there.0 there.1 (shape_first c.args.self.now at there.0 there.1 first) c.in-Ok.ensures.job

pub returns-in-Err-clause-blamed : goal.returns-in-Err-clause-blamed
returns-in-Err-clause-blamed g c = λ m told. any_blamed c.args.self.now.seen.stores c.in-Some.at.table c.in-Some.at.place m c.in-Err.fault (c.in-Err.ensures.blamed m told)
