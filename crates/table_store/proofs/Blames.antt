-- Which file is blamed where one projection among others can't be read.
use Rattle.std.proofs.Common.{◌≡◌, ℕ, zero, suc, ◌<◌, List, [], ◌∷◌, length, map, get_or, subst, arith}
use Rattle.std.specs.Prelude.{Option, Some}
use Rattle.std.specs.List.{Any, slice_get}
use Rattle.std.proofs.lemmas.List.{get_or-map, length-map}
use Rattle.common_laws.specs.Maps.{Contents}
use Rattle.col_disk.specs.declared.disk.StoreFault.{StoreFault}
use Rattle.col_disk.specs.declared.disk.StoreFault.TheVariants.{Disk, Damaged, Memory}
use Rattle.stored_rows.specs.Stored.{Projected}
use Rattle.proj_store.specs.Reading.{BlamesRows}
use Rattle.proj_store.specs.Loaded.{Loaded}
use Rattle.table_store.specs.Held.{projections_of}
use Rattle.table_store.specs.Faults.{BlamesParts, BlamesStored}

any_at : {X : Type 0} (P : X → Type 0) (xs : List X) (i : ℕ) (x : X) → slice_get xs i ≡ Some x → P x → Any P xs
any_at P [] i x at is = absurd (cc)
any_at P (y ∷ xs) zero x at is = let same : y ≡ x = cc in (zero, x, omega arith, same, is)
any_at P (y ∷ xs) (suc i) x at is = let (j, z, lt, same, has) = any_at P xs i x at is in (suc j, z, omega (arith, lt), same, has)

pub part_blamed : (ps : List Projected) (j : ℕ) (p : Projected) (holds : Option Contents) (f : StoreFault) → slice_get ps j ≡ Some p → BlamesRows p.entry holds f → BlamesParts ps holds f
part_blamed ps j p holds (Damaged q) at blames = any_at (λ p. BlamesRows p.entry holds (Damaged q)) ps j p at blames
part_blamed ps j p holds Disk at blames = tt
part_blamed ps j p holds Memory at blames = tt

pub parts_blamed : (pss : List (List Projected)) (i : ℕ) (ps : List Projected) (holds : Option Contents) (f : StoreFault) → slice_get pss i ≡ Some ps → BlamesParts ps holds f → BlamesStored pss holds f
parts_blamed pss i ps holds (Damaged q) at blames = any_at (λ ps. BlamesParts ps holds (Damaged q)) pss i ps at blames
parts_blamed pss i ps holds Disk at blames = tt
parts_blamed pss i ps holds Memory at blames = tt

-- a projection at a place of the table at a place
pub stored_blamed : (pss : List (List Projected)) (i j : ℕ) (ps : List Projected) (p : Projected) (holds : Option Contents) (f : StoreFault) → slice_get pss i ≡ Some ps → slice_get ps j ≡ Some p → BlamesRows p.entry holds f → BlamesStored pss holds f
stored_blamed pss i j ps p holds f table place blames = parts_blamed pss i ps holds f table (part_blamed ps j p holds f place blames)

-- ---- one of some that stand for the same as before

any_before : {X P : Type 0} (f : X → P) (Q : P → Type 0) (before now : List X) (i : ℕ) (x : X) → map f now ≡ map f before → i < length now → Q (f (get_or now i x)) → Any Q (map f before)
any_before {X} {P} f Q before now i x same lt is =
    let there : i < length (map f now) = omega (arith, lt, length-map now f) in
    subst (Any Q) same (i, f (get_or now i x), there, get_or-map f now i x (f (get_or now i x)) lt, is)

pub part_before : (before now : List Loaded) (i : ℕ) (x : Loaded) (was holds : Option Contents) (f : StoreFault) → projections_of now ≡ projections_of before → i < length now → was ≡ holds → BlamesRows (get_or now i x).stored.entry was f
    → BlamesParts (projections_of before) holds f
part_before before now i x was holds (Damaged q) same lt is blames =
    any_before (λ (p : Loaded). p.stored) (λ p. BlamesRows p.entry holds (Damaged q)) before now i x same lt (subst (λ (h : Option Contents). BlamesRows (get_or now i x).stored.entry h (Damaged q)) is blames)
part_before before now i x was holds Disk same lt is blames = tt
part_before before now i x was holds Memory same lt is blames = tt

pub parts_before : (before now : List (List Loaded)) (i : ℕ) (x : List Loaded) (was holds : Option Contents) (f : StoreFault) → map projections_of now ≡ map projections_of before → i < length now → was ≡ holds
    → BlamesParts (projections_of (get_or now i x)) was f → BlamesStored (map projections_of before) holds f
parts_before before now i x was holds (Damaged q) same lt is blames =
    any_before projections_of (λ ps. BlamesParts ps holds (Damaged q)) before now i x same lt (subst (λ (h : Option Contents). BlamesParts (projections_of (get_or now i x)) h (Damaged q)) is blames)
parts_before before now i x was holds Disk same lt is blames = tt
parts_before before now i x was holds Memory same lt is blames = tt
