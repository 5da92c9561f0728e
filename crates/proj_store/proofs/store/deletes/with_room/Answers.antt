use Rattle.std.proofs.Common.{◌∙◌, ℕ, List, length, ap, map, subst}
use Rattle.std.specs.List.{AllZip}
use Rattle.proj_store.specs.Loaded.{room_of}
use Rattle.proj_store.specs.Marking.{Places, HasRoom}
use Rattle.proj_store.proofs.store.deletes.with_room.Goals as goal

pub reserve_all-requires : goal.reserve_all-requires
reserve_all-requires c = ap length (c.as_slice.ensures.value ∙ ap (λ (r : Places). r.each) c.ready.view_is) ∙ c.requires

pub returns-in-Ok-clause-room : goal.returns-in-Ok-clause-room
returns-in-Ok-clause-room c =
    subst (λ (each : List (List ℕ)). AllZip HasRoom each (map room_of c.reserve_all.new.kept.items)) (c.as_slice.ensures.value ∙ ap (λ (r : Places). r.each) c.ready.view_is) c.in-Ok.ensures.room
