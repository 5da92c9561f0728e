-- A container that is read block by block, and places that are picked of its rows.
use Rattle.std.proofs.Common.{◌≡◌, ℕ, ◌+◌, ◌-◌, ◌*◌, ◌^◌, ◌≤◌, ◌<◌, ◌++◌, Bool, true, false, List, [], ◌∷◌, length, get_or, min, nat_lt, refl, sym, ap, ◌∙◌, subst, arith}
use Rattle.std.specs.Prelude.{Option, Some}
use Rattle.std.specs.List.{All}
use Rattle.std.proofs.Math.ListN.{get_or-append}
use Rattle.std.proofs.Math.Seq.{get_or-append_seam}
use Rattle.std.proofs.lemmas.Bool.Decides.{nat_tests}
use Rattle.std.proofs.lemmas.List.{length-append}
use Rattle.common_laws.specs.Maps.{Contents}
use Rattle.catalog_types.specs.declared.catalogue.Container.{Container}
use Rattle.col_value.specs.declared.row.Asked.{Asked}
use Rattle.pos_index.specs.declared.index.PosIndex.{PosIndex}
use Rattle.pos_index.specs.Index.{blocks}
use Rattle.ros_container.specs.Encodings.{Written}
use Rattle.ros_container.specs.Held.{HoldsContainer}
use Rattle.ros_container.proofs.Long.{container_long}
use Rattle.container_blocks.specs.Blocks.{HasIndex, IsIndexOf}
use Rattle.write_store.specs.declared.held.Inserted.{Inserted}
use Rattle.wanted_rows.specs.Picked.{blank, Picks, PicksBefore, PicksFrom}
use Rattle.wanted_rows.proofs.Steps.{picks_none, picks_all, picks_past}
use Rattle.proj_store.specs.Blocks.{HasIndexes, PicksOn}
use Rattle.proj_store.specs.Candidates.{AreCandidates}
use Rattle.proj_store.specs.Marking.{ArePlaces}

-- ---- indexes, one after the other

indexes_push : (es : List Written) (k : Container) (holds : Option Contents) (ats : List PosIndex) (at : PosIndex) → HasIndexes es k holds ats → HasIndex es k (length ats) at holds → HasIndexes es k holds (ats ++ at ∷ [])
indexes_push es k holds ats at was one i d lt = by (nat_lt i (length ats)) refl
  where
    by : (b : Bool) → nat_lt i (length ats) ≡ b → HasIndex es k i (get_or (ats ++ at ∷ []) i d) holds
    by true e =
        let less : i < length ats = grind (arith, nat_tests) in
        subst (λ (x : PosIndex). HasIndex es k i x holds) (sym (get_or-append ats (at ∷ []) d i less)) (was i d less)
    by false e =
        let past : length ats ≤ i = grind (arith, nat_tests) in
        let is : length ats ≡ i = omega (arith, past, lt, length-append ats (at ∷ [])) in
        subst (λ (n : ℕ). HasIndex es k n (get_or (ats ++ at ∷ []) n d) holds) is
        (subst (λ (x : PosIndex). HasIndex es k (length ats) x holds) (sym (get_or-append_seam ats at [] d)) one)

pub indexes_more : (es : List Written) (k : Container) (now found : Option Contents) (i : ℕ) (ats next : List PosIndex) (at : PosIndex) → now ≡ found → length ats ≡ i → next ≡ ats ++ at ∷ [] → HasIndexes es k found ats → HasIndex es k i at now → HasIndexes es k found next
indexes_more es k now found i ats next at same long is was one =
    subst (HasIndexes es k found) (sym is)
    (indexes_push es k found ats at was (subst (λ (h : Option Contents). HasIndex es k (length ats) at h) same (subst (λ (n : ℕ). HasIndex es k n at now) (sym long) one)))

pub indexes_same : (es : List Written) (k : Container) (now found : Option Contents) (ats : List PosIndex) → now ≡ found → HasIndexes es k found ats → HasIndexes es k now ats
indexes_same es k now found ats same all = subst (λ (h : Option Contents). HasIndexes es k h ats) (sym same) all

pub indexes_seen : (es : List Written) (k : Container) (now found : Option Contents) (ats seen : List PosIndex) → now ≡ found → seen ≡ ats → HasIndexes es k found ats → HasIndexes es k now seen
indexes_seen es k now found ats seen same is all = subst (HasIndexes es k now) (sym is) (indexes_same es k now found ats same all)

pub indexes_none : (es : List Written) (k : Container) (holds : Option Contents) (ats : List PosIndex) → ats ≡ [] → HasIndexes es k holds ats
indexes_none es k holds ats is = subst (HasIndexes es k holds) (sym is) (λ i d lt. absurd (omega (arith, lt)))

pub index_here : (es : List Written) (k : Container) (holds : Option Contents) (ats : List PosIndex) (i : ℕ) (at : PosIndex) → HasIndexes es k holds ats → i < length ats → at ≡ get_or ats i at → HasIndex es k i at holds
index_here es k holds ats i at all lt is = subst (λ (x : PosIndex). HasIndex es k i x holds) (sym is) (all i at lt)

-- ---- places of a block

pub no_index : PosIndex
no_index = record { rows = 0; entries = [] }

-- the numbers of a container's rows fit into 64 bits, since its indexes tell how many there are
pub block_fits : (k : Container) (ats : List PosIndex) (n b more : ℕ) → length ats ≡ n + 1 → All (IsIndexOf k.rows) ats → b < blocks k.rows → more ≤ min 1024 (k.rows - 1024 * b) → 1024 * b + more < 2 ^ 64
block_fits k ats n b more long fit lt few =
    let first : IsIndexOf k.rows (get_or ats 0 no_index) = fit 0 no_index (omega (arith, long)) in
    omega (arith, first.fits.rows, first.of_rows, lt, few)

pub block_room : (b rows : ℕ) → b < blocks rows → 1024 * b < rows
block_room b rows lt = omega (arith, lt)

block_past : (rows : List Asked) (b n : ℕ) (mark : ℕ → Option ℕ) (places : List ℕ) (start left : Asked → ℕ) → n ≡ min 1024 (length rows - 1024 * b) → PicksBefore (1024 * b + n) mark rows places start left
    → PicksBefore (1024 * (b + 1)) mark rows places start left
block_past rows b n mark places start left long was =
    picks_past (1024 * b + n) (1024 * (b + 1)) mark rows places start left was (omega (arith, long)) (λ p from lt within. absurd (omega (arith, long, from, lt, within)))

pub picks_on : (holds : Option Contents) (es : List Written) (k : Container) (mark : ℕ → Option ℕ) (b : ℕ) (some : List (Option Inserted)) (old new : List ℕ) (need left : Asked → ℕ) → length some ≡ min 1024 (k.rows - 1024 * b)
    → AreCandidates holds es k mark b need some → PicksFrom (1024 * b) some old new need left → PicksOn holds es k mark b old new need left
picks_on holds es k mark b some old new need left long are picks m told rows holding start was =
    let all : length rows ≡ k.rows = container_long m es k rows holding in
    let here : length some ≡ min 1024 (length rows - 1024 * b) = omega (arith, long, all) in
    block_past rows b (length some) mark new start left here (picks mark rows (are m told rows holding) start was)

pub none_on : (holds : Option Contents) (es : List Written) (k : Container) (mark : ℕ → Option ℕ) (b : ℕ) (places : List ℕ) (need : Asked → ℕ) → ((q : Asked) → need q ≡ 0) → PicksOn holds es k mark b places places need need
none_on holds es k mark b places need nought m told rows holding start was =
    picks_past (1024 * b) (1024 * (b + 1)) mark rows places start need was (omega arith) (λ p from lt within. nought (get_or rows p blank))

pub inside_on : (k : Container) (b : ℕ) (some : List (Option Inserted)) (old new : List ℕ) → b < blocks k.rows → length some ≡ min 1024 (k.rows - 1024 * b)
    → ((n : ℕ) → 1024 * b + length some ≤ n → All (λ p. p < n) old → All (λ p. p < n) new) → ArePlaces k old → ArePlaces k new
inside_on k b some old new lt long inside all = inside k.rows (omega (arith, long, block_room b k.rows lt)) all

-- ---- all blocks

abbrev pub PickedUpto : Option Contents → List Written → Container → (ℕ → Option ℕ) → ℕ → List ℕ → (Asked → ℕ) → (Asked → ℕ) → Type 0
PickedUpto holds es k mark b places start need = (m : Contents) → holds ≡ Some m → (rows : List Asked) → HoldsContainer m es k rows → PicksBefore (1024 * b) mark rows places start need

pub picked_none : (holds : Option Contents) (es : List Written) (k : Container) (mark : ℕ → Option ℕ) (places : List ℕ) (need : Asked → ℕ) → places ≡ [] → PickedUpto holds es k mark 0 places need need
picked_none holds es k mark places need is m told rows holding = subst (λ (ps : List ℕ). PicksBefore (1024 * 0) mark rows ps need need) (sym is) (picks_none mark rows need)

pub none_inside : (k : Container) (places : List ℕ) → places ≡ [] → ArePlaces k places
none_inside k places is = subst (ArePlaces k) (sym is) (λ i d lt. absurd (omega (arith, lt)))

pub picked_more : (now found : Option Contents) (es : List Written) (k : Container) (mark : ℕ → Option ℕ) (b : ℕ) (old new : List ℕ) (start need left : Asked → ℕ) → now ≡ found → PickedUpto found es k mark b old start need
    → PicksOn now es k mark b old new need left → PickedUpto found es k mark (b + 1) new start left
picked_more now found es k mark b old new start need left same was on m told rows holding = on m (same ∙ told) rows holding start (was m told rows holding)

pub picked_all : (holds : Option Contents) (es : List Written) (k : Container) (mark : ℕ → Option ℕ) (b : ℕ) (places : List ℕ) (start need : Asked → ℕ) → blocks k.rows ≤ b → PickedUpto holds es k mark b places start need
    → (m : Contents) → holds ≡ Some m → (rows : List Asked) → HoldsContainer m es k rows → Picks mark rows places start need
picked_all holds es k mark b places start need past was m told rows holding =
    picks_all (1024 * b) mark rows places start need (was m told rows holding) (omega (arith, past, container_long m es k rows holding))
