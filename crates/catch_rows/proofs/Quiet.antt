-- Marks of containers, looked at one after the other.
use Rattle.std.proofs.Common.{◌≡◌, ℕ, zero, suc, ◌+◌, ◌<◌, ◌≤◌, List, [], ◌∷◌, length, take, refl, sym, ap, ◌∙◌, arith, subst}
use Rattle.std.specs.Prelude.{IsSomeAnd}
use Rattle.std.specs.List.{All, slice_get}
use Rattle.std.proofs.lemmas.List.{take_all}
use Rattle.std.proofs.lemmas.List.Elements.{All-cons, All-head, All-nil, All-tail}
use Rattle.std.proofs.lemmas.Slice.Zip.{AllZip-long}
use Rattle.catalog_types.specs.declared.catalogue.Container.{Container}
use Rattle.del_vector.specs.declared.mark.Mark.{Mark}
use Rattle.proj_store.specs.Sound.{MarksItsRows, IsSound}
use Rattle.stored_rows.specs.Stored.{Beside, Projected}

abbrev pub IsUnmarked : Beside → Type 0
IsUnmarked b = b.fresh ≡ []

pub within : (p : Projected) (shown : List Container) (i : ℕ) → shown ≡ p.entry.containers → IsSound p.entry p.beside → i < length shown → i < length p.beside
within p shown i same sound lt = omega (arith, lt, ap length same, AllZip-long MarksItsRows p.entry.containers p.beside sound.kept)

empty : (marks : List Mark) → length marks ≡ 0 → marks ≡ []
empty [] none = refl
empty (e ∷ marks) none = absurd (omega (arith, none))

pub one_more : (bs : List Beside) (i : ℕ) (fresh : List Mark) → i < length bs → IsSomeAnd (slice_get bs i) (λ b. fresh ≡ b.fresh) → length fresh ≡ 0 → All IsUnmarked (take i bs) → All IsUnmarked (take (i + 1) bs)
one_more [] i fresh lt is none all = absurd (omega (arith, lt))
one_more (b ∷ bs) zero fresh lt is none all = All-cons IsUnmarked b [] (sym is ∙ empty fresh none) (All-nil IsUnmarked)
one_more (b ∷ bs) (suc i) fresh lt is none all =
    let next : suc (i + 1) ≡ suc i + 1 = omega arith in
    subst (λ (n : ℕ). All IsUnmarked (take n (b ∷ bs))) next
    (All-cons IsUnmarked b (take (i + 1) bs) (All-head IsUnmarked b (take i bs) all) (one_more bs i fresh (omega (arith, lt)) is none (All-tail IsUnmarked b (take i bs) all)))

pub all_of : (p : Projected) (shown : List Container) (i : ℕ) → shown ≡ p.entry.containers → IsSound p.entry p.beside → length shown ≤ i → All IsUnmarked (take i p.beside) → All IsUnmarked p.beside
all_of p shown i same sound le all =
    let long : length p.beside ≤ i = omega (arith, le, ap length same, AllZip-long MarksItsRows p.entry.containers p.beside sound.kept) in
    subst (All IsUnmarked) (take_all i p.beside long) all
