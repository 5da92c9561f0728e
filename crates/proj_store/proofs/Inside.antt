-- Marks that come are of rows that the containers have.
use Rattle.std.proofs.Common.{◌<◌, ℕ, List, [], ◌∷◌, arith}
use Rattle.std.specs.List.{AllZip}
use Rattle.std.proofs.lemmas.List.Elements.{All-append, All-cons, All-head, All-tail}
use Rattle.catalog_types.specs.declared.catalogue.Container.{Container}
use Rattle.del_vector.specs.declared.mark.Mark.{Mark}
use Rattle.stored_rows.specs.Stored.{Beside}
use Rattle.proj_store.specs.Sound.{AreInside, MarksItsRows}
use Rattle.proj_store.specs.Marking.{marks_at, all_marked, ArePlaces}

marks_inside : (k : Container) (epoch : ℕ) (places : List ℕ) → ArePlaces k places → AreInside k (marks_at epoch places)
marks_inside k epoch [] all = λ i d lt. absurd (omega (arith, lt))
marks_inside k epoch (p ∷ ps) all =
    All-cons (λ (e : Mark). e.position < k.rows) (record { position = p; epoch = epoch }) (marks_at epoch ps) (All-head (λ (q : ℕ). q < k.rows) p ps all) (marks_inside k epoch ps (All-tail (λ (q : ℕ). q < k.rows) p ps all))

pub kept_marked : (epoch : ℕ) (ks : List Container) (bs : List Beside) (each : List (List ℕ)) → AllZip MarksItsRows ks bs → AllZip ArePlaces ks each → AllZip MarksItsRows ks (all_marked epoch bs each)
kept_marked epoch [] [] [] kept places = tt
kept_marked epoch [] [] (ps ∷ each) kept places = absurd places
kept_marked epoch [] (b ∷ bs) each kept places = absurd kept
kept_marked epoch (k ∷ ks) [] each kept places = absurd kept
kept_marked epoch (k ∷ ks) (b ∷ bs) [] kept places = absurd places
kept_marked epoch (k ∷ ks) (b ∷ bs) (ps ∷ each) (here, rest) (at, others) = (
  record { held = here.held; fresh = All-append (λ (e : Mark). e.position < k.rows) b.fresh (marks_at epoch ps) here.fresh (marks_inside k epoch ps at) },
  kept_marked epoch ks bs each rest others,
)
