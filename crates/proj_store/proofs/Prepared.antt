-- Places of rows in memory, and of a whole projection.
use Rattle.std.proofs.Common.{◌≡◌, ◌<◌, ℕ, zero, suc, List, [], ◌∷◌, ◌++◌, length, map, get_or, refl, sym, ◌∙◌, ap, subst, arith}
use Rattle.std.specs.Prelude.{Option, None, Some}
use Rattle.std.specs.List.{All, AllZip}
use Rattle.std.proofs.lemmas.List.{length-map}
use Rattle.common_laws.specs.Maps.{Contents}
use Rattle.col_value.specs.declared.row.Asked.{Asked}
use Rattle.col_value.specs.declared.row.Stamped.{Stamped}
use Rattle.catalog_types.specs.declared.catalogue.Projection.{Projection}
use Rattle.ros_container.specs.Encodings.{written_of}
use Rattle.stored_rows.specs.Stored.{Projected, with_rows}
use Rattle.write_store.specs.declared.held.Held.{Held}
use Rattle.write_store.specs.Memory.{Memory as InMemory, stamp, IsLive}
use Rattle.wanted_rows.specs.Wanted.{tally}
use Rattle.wanted_rows.specs.Picked.{Picks, asked_of, del_at}
use Rattle.wanted_rows.specs.Taking.{asked_of as asked_in}
use Rattle.proj_store.specs.declared.kept.Kept.{Kept}
use Rattle.proj_store.specs.Loaded.{Loaded, beside_of, room_of, projected, seen}
use Rattle.proj_store.specs.Sound.{IsSound, MarksItsRows}
use Rattle.proj_store.specs.Marking.{Places, places, all_marked, PicksEach, Finds, IsPrepared, del_of, ArePlaces, HasRoom, CanMark}
use Rattle.proj_store.proofs.Picking.{picks_agree}
use Rattle.proj_store.proofs.Inside.{kept_marked}

dels_same : (held : List Held) (i : ℕ) → del_at held i ≡ del_of (map stamp held) i
dels_same [] i = refl
dels_same (h ∷ held) zero = refl
dels_same (h ∷ held) (suc i) = dels_same held i

asked_same : (held : List Held) → asked_of held ≡ map asked_in (map stamp held)
asked_same [] = refl
asked_same (h ∷ held) = ap (λ (xs : List Asked). asked_in (stamp h) ∷ xs) (asked_same held)

pub picks_unsaved : (held : List Held) (rows : List Stamped) (places : List ℕ) (need left : Asked → ℕ) → map stamp held ≡ rows → Picks (del_at held) (asked_of held) places need left
    → Picks (del_of rows) (map asked_in rows) places need left
picks_unsaved held rows places need left is picks =
    subst (λ (ss : List Stamped). Picks (del_of ss) (map asked_in ss) places need left) is
    (subst (λ (xs : List Asked). Picks (del_of (map stamp held)) xs places need left) (asked_same held) (picks_agree (del_at held) (del_of (map stamp held)) (asked_of held) places need left (dels_same held) picks))

live_at : (rows : List Stamped) (p : ℕ) → p < length rows → del_of rows p ≡ None → IsLive rows p
live_at [] p lt none = absurd (omega (arith, lt))
live_at (s ∷ rows) zero lt none = none
live_at (s ∷ rows) (suc p) lt none = live_at rows p (omega (arith, lt)) none

pub picks_live : (rows : List Stamped) (places : List ℕ) (need left : Asked → ℕ) → Picks (del_of rows) (map asked_in rows) places need left → All (IsLive rows) places
picks_live rows places need left picks i d lt =
    let at = picks.live i d lt in
    live_at rows (get_or places i d) (omega (arith, at.here, length-map rows asked_in)) at.live

-- the same of a projection as it is seen
pub prepared_seen : (m : Contents) (entry : Projection) (kept inside : List Kept) (memory : InMemory) (p : Loaded) (wanted : List Asked) (each : List (List ℕ)) (ps : List ℕ) (held : List Held) (need mid left : Asked → ℕ)
    → kept ≡ inside → seen entry inside memory ≡ p → ((q : Asked) → need q ≡ tally q wanted) → PicksEach m (written_of entry) entry.containers (map beside_of kept) each need mid → map stamp held ≡ memory.rows
    → Picks (del_at held) (asked_of held) ps mid left → IsPrepared m p.stored wanted (places each ps)
prepared_seen m entry kept inside memory p wanted each ps held need mid left same view starts picked rows picks =
    let there : PicksEach m (written_of entry) entry.containers (map beside_of inside) each need mid = subst (λ (ks : List Kept). PicksEach m (written_of entry) entry.containers (map beside_of ks) each need mid) same picked in
    let unsaved : Picks (del_of memory.rows) (map asked_in memory.rows) ps mid left = picks_unsaved held memory.rows ps mid left rows picks in
    let made : IsPrepared m (projected entry inside memory) wanted (places each ps) = record { need = need; mid = mid; left = left; starts = starts; containers = there; unsaved = unsaved } in
    subst (λ (x : Loaded). IsPrepared m x.stored wanted (places each ps)) view made

pub can_mark_seen : (entry : Projection) (new : List Kept) (memory : InMemory) (each slice : List (List ℕ)) (ps : List ℕ) (held : List Held) (mid left : Asked → ℕ) → AllZip ArePlaces entry.containers each → slice ≡ each
    → AllZip HasRoom slice (map room_of new) → map stamp held ≡ memory.rows → Picks (del_at held) (asked_of held) ps mid left → CanMark (places each ps) (seen entry new memory)
can_mark_seen entry new memory each slice ps held mid left inside same room rows picks = record {
  inside = inside;
  room = subst (λ (r : List (List ℕ)). AllZip HasRoom r (map room_of new)) same room;
  unsaved = picks_live memory.rows ps mid left (picks_unsaved held memory.rows ps mid left rows picks);
}

pub found_prepared : (m : Contents) (holds : Option Contents) (entry : Projection) (kept inside : List Kept) (memory : InMemory) (p : Loaded) (held : List Held) (wanted : List Asked) (found ready : Places)
    → kept ≡ inside → seen entry inside memory ≡ p → map stamp held ≡ memory.rows → holds ≡ Some m → Finds holds entry (map beside_of kept) held wanted found → ready ≡ found → IsPrepared m p.stored wanted ready
found_prepared m holds entry kept inside memory p held wanted found ready same view rows told finds is =
    subst (IsPrepared m p.stored wanted) (sym is)
    (prepared_seen m entry kept inside memory p wanted found.each found.unsaved held finds.need finds.picks.mid finds.left same view finds.starts (finds.picks.containers m told) rows finds.picks.unsaved)

pub found_can_mark : (holds : Option Contents) (entry : Projection) (kept new : List Kept) (memory : InMemory) (held : List Held) (wanted : List Asked) (found ready : Places) → AllZip ArePlaces entry.containers found.each
    → AllZip HasRoom found.each (map room_of new) → map stamp held ≡ memory.rows → Finds holds entry (map beside_of kept) held wanted found → ready ≡ found → CanMark ready (seen entry new memory)
found_can_mark holds entry kept new memory held wanted found ready inside room rows finds is =
    subst (λ (r : Places). CanMark r (seen entry new memory)) (sym is)
    (can_mark_seen entry new memory found.each found.each found.unsaved held finds.picks.mid finds.left inside refl room rows finds.picks.unsaved)

-- marks leave it sound
pub sound_marked : (epoch : ℕ) (entry : Projection) (kept new : List Kept) (memory : InMemory) (p : Loaded) (each slice : List (List ℕ)) (ps : List ℕ) (ready : Places) → seen entry kept memory ≡ p → places each ps ≡ ready → slice ≡ each
    → IsSound entry (map beside_of kept) → AllZip ArePlaces p.stored.entry.containers ready.each → map beside_of new ≡ all_marked epoch (map beside_of kept) slice → IsSound entry (map beside_of new)
sound_marked epoch entry kept new memory p each slice ps ready view is_ready same sound inside is =
    let theirs : AllZip ArePlaces p.stored.entry.containers each = subst (λ (r : Places). AllZip ArePlaces p.stored.entry.containers r.each) (sym is_ready) inside in
    let here : AllZip ArePlaces entry.containers each = subst (λ (x : Loaded). AllZip ArePlaces x.stored.entry.containers each) (sym view) theirs in
    record {
      loadable = sound.loadable;
      kept = subst (AllZip MarksItsRows entry.containers) (sym (is ∙ ap (all_marked epoch (map beside_of kept)) same)) (kept_marked epoch entry.containers (map beside_of kept) each sound.kept here);
    }

live_still : (rows more : List Stamped) (p : ℕ) → IsLive rows p → IsLive (rows ++ more) p
live_still [] more p live = absurd live
live_still (s ∷ rows) more zero live = live
live_still (s ∷ rows) more (suc p) live = live_still rows more p live

can_after : (p : Projected) (rooms : List ℕ) (rows : List Stamped) (spare : ℕ) (ready : Places) → AllZip ArePlaces p.entry.containers ready.each → AllZip HasRoom ready.each rooms → All (IsLive p.unsaved) ready.unsaved
    → CanMark ready (record { stored = with_rows rows p; spare = spare; rooms = rooms })
can_after p rooms rows spare ready inside room live = record { inside = inside; room = room; unsaved = λ i d lt. live_still p.unsaved rows (get_or ready.unsaved i d) (live i d lt) }

pub can_mark_after : (p q : Loaded) (rows : List Stamped) (ready : Places) → CanMark ready p → q.stored ≡ with_rows rows p.stored → q.rooms ≡ p.rooms → CanMark ready q
can_mark_after p q rows ready can is rooms =
    subst (λ (s : Projected). CanMark ready (record { stored = s; spare = q.spare; rooms = q.rooms })) (sym is)
    (subst (λ (r : List ℕ). CanMark ready (record { stored = with_rows rows p.stored; spare = q.spare; rooms = r })) (sym rooms) (can_after p.stored p.rooms rows q.spare ready can.inside can.room can.unsaved))
