-- Marks beside containers, and room for them.
use Rattle.std.proofs.Common.{◌≡◌, ◌+◌, ◌<◌, ◌≤◌, ◌++◌, ℕ, zero, suc, List, [], ◌∷◌, length, map, set, take, get_or, refl, sym, ◌∙◌, ap, ap₂, subst, arith, length-take-le}
use Rattle.std.specs.List.{AllZip}
use Rattle.std.proofs.lemmas.List.{take_more, take_all, get_or-map, get_or-set_other, length-map}
use Rattle.std.proofs.lemmas.Slice.Zip.{AllZip-long}
use Rattle.stored_rows.specs.Stored.{Beside}
use Rattle.proj_store.specs.declared.kept.Kept.{Kept}
use Rattle.proj_store.specs.Loaded.{beside_of, room_of}
use Rattle.proj_store.specs.Marking.{marked_beside, all_marked, HasRoom}
use Rattle.proj_store.proofs.SavedRows.{zip_at}

-- what is kept of a container has more room now
pub beside_stays : (kept : List Kept) (i : ℕ) (one x : Kept) → one ≡ get_or kept i one → beside_of x ≡ beside_of one → map beside_of (set kept i x) ≡ map beside_of kept
beside_stays [] i one x is same = refl
beside_stays (k ∷ kept) zero one x is same = ap (λ (b : Beside). b ∷ map beside_of kept) (same ∙ ap beside_of is)
beside_stays (k ∷ kept) (suc i) one x is same = ap (λ (bs : List Beside). beside_of k ∷ bs) (beside_stays kept i one x is same)

-- room
room_next : (each : List (List ℕ)) (kept : List Kept) (i : ℕ) (ps : List ℕ) (x : Kept) → i < length each → i < length kept → ps ≡ get_or each i ps → AllZip HasRoom (take i each) (take i (map room_of kept)) → length ps ≤ room_of x
    → AllZip HasRoom (take (suc i) each) (take (suc i) (map room_of (set kept i x)))
room_next [] kept i ps x lt also is all le = absurd (omega (arith, lt))
room_next (e ∷ each) [] i ps x lt also is all le = absurd (omega (arith, also))
room_next (e ∷ each) (k ∷ kept) zero ps x lt also is all le = (subst (λ (qs : List ℕ). length qs ≤ room_of x) is le, tt)
room_next (e ∷ each) (k ∷ kept) (suc i) ps x lt also is all le = (all.0, room_next each kept i ps x (omega (arith, lt)) (omega (arith, also)) is all.1 le)

pub room_more : (each : List (List ℕ)) (kept : List Kept) (i : ℕ) (ps : List ℕ) (x : Kept) → i < length each → i < length kept → ps ≡ get_or each i ps → AllZip HasRoom (take i each) (take i (map room_of kept)) → length ps ≤ room_of x
    → AllZip HasRoom (take (i + 1) each) (take (i + 1) (map room_of (set kept i x)))
room_more each kept i ps x lt also is all le =
    let up : suc i ≡ i + 1 = omega arith in
    subst (λ (n : ℕ). AllZip HasRoom (take n each) (take n (map room_of (set kept i x)))) up (room_next each kept i ps x lt also is all le)

pub room_all : (each : List (List ℕ)) (kept old : List Kept) (i : ℕ) → length each ≤ i → length each ≡ length old → length kept ≡ length old → AllZip HasRoom (take i each) (take i (map room_of kept)) → AllZip HasRoom each (map room_of kept)
room_all each kept old i past long also all =
    subst (λ (ps : List (List ℕ)). AllZip HasRoom ps (map room_of kept)) (take_all i each past)
    (subst (λ (rs : List ℕ). AllZip HasRoom (take i each) rs) (take_all i (map room_of kept) (omega (arith, past, long, also, length-map kept room_of))) all)

-- marks
all_none : (epoch : ℕ) (bs : List Beside) → all_marked epoch bs [] ≡ bs
all_none epoch [] = refl
all_none epoch (b ∷ bs) = refl

pub marked_start : (epoch : ℕ) (kept : List Kept) → map beside_of kept ≡ all_marked epoch (map beside_of kept) []
marked_start epoch kept = sym (all_none epoch (map beside_of kept))

marked_next : (epoch : ℕ) (bs : List Beside) (each : List (List ℕ)) (ps : List ℕ) (d : Beside) → length each < length bs
    → all_marked epoch bs (each ++ ps ∷ []) ≡ set (all_marked epoch bs each) (length each) (marked_beside epoch (get_or bs (length each) d) ps)
marked_next epoch [] each ps d lt = absurd (omega (arith, lt))
marked_next epoch (b ∷ bs) [] ps d lt = ap (λ (cs : List Beside). marked_beside epoch b ps ∷ cs) (all_none epoch bs)
marked_next epoch (b ∷ bs) (e ∷ each) ps d lt = ap (λ (cs : List Beside). marked_beside epoch b e ∷ cs) (marked_next epoch bs each ps d (omega (arith, lt)))

map_set : (kept : List Kept) (i : ℕ) (x : Kept) → map beside_of (set kept i x) ≡ set (map beside_of kept) i (beside_of x)
map_set [] i x = refl
map_set (k ∷ kept) zero x = refl
map_set (k ∷ kept) (suc i) x = ap (λ (bs : List Beside). beside_of k ∷ bs) (map_set kept i x)

pub marked_more : (epoch : ℕ) (old kept : List Kept) (each : List (List ℕ)) (i : ℕ) (ps : List ℕ) (one x : Kept) → i < length each → i < length old → ps ≡ get_or each i ps → one ≡ get_or kept i one
    → ((j : ℕ) (d : Kept) → i ≤ j → get_or kept j d ≡ get_or old j d) → map beside_of kept ≡ all_marked epoch (map beside_of old) (take i each) → beside_of x ≡ marked_beside epoch (beside_of one) ps
    → map beside_of (set kept i x) ≡ all_marked epoch (map beside_of old) (take (i + 1) each)
marked_more epoch old kept each i ps one x lt also ps_is one_is rest was x_is =
    let d = beside_of one in
    let long : length (take i each) ≡ i = length-take-le i each (omega (arith, lt)) in
    let at : get_or (map beside_of old) i d ≡ beside_of one = get_or-map beside_of old i one d also ∙ ap beside_of (sym (rest i one (omega arith)) ∙ sym one_is) in
    let more : take (i + 1) each ≡ take i each ++ ps ∷ [] = take_more each i ps lt ∙ ap (λ (q : List ℕ). take i each ++ q ∷ []) (sym ps_is) in
    let room : length (take i each) < length (map beside_of old) = omega (arith, long, also, length-map old beside_of) in
    let at_long : get_or (map beside_of old) (length (take i each)) d ≡ beside_of one = ap (λ (n : ℕ). get_or (map beside_of old) n d) long ∙ at in
    map_set kept i x ∙ ap₂ (λ (bs : List Beside) (b : Beside). set bs i b) was x_is
    ∙ ap (λ (n : ℕ). set (all_marked epoch (map beside_of old) (take i each)) n (marked_beside epoch (beside_of one) ps)) (sym long)
    ∙ ap (λ (b : Beside). set (all_marked epoch (map beside_of old) (take i each)) (length (take i each)) (marked_beside epoch b ps)) (sym at_long)
    ∙ sym (marked_next epoch (map beside_of old) (take i each) ps d room)
    ∙ ap (all_marked epoch (map beside_of old)) (sym more)

pub rest_more : (old kept : List Kept) (i : ℕ) (x : Kept) → ((j : ℕ) (d : Kept) → i ≤ j → get_or kept j d ≡ get_or old j d) → (j : ℕ) (d : Kept) → i + 1 ≤ j → get_or (set kept i x) j d ≡ get_or old j d
rest_more old kept i x rest j d le = get_or-set_other kept i j x d (λ is. absurd (omega (arith, is, le))) ∙ rest j d (omega (arith, le))

pub room_at : (each : List (List ℕ)) (old kept : List Kept) (i : ℕ) (ps : List ℕ) (one : Kept) → AllZip HasRoom each (map room_of old) → i < length each → i < length old → ps ≡ get_or each i ps → one ≡ get_or kept i one
    → ((j : ℕ) (d : Kept) → i ≤ j → get_or kept j d ≡ get_or old j d) → length ps ≤ room_of one
room_at each old kept i ps one all lt also ps_is one_is rest =
    let at : get_or (map room_of old) i (room_of one) ≡ room_of one = get_or-map room_of old i one (room_of one) also ∙ ap room_of (sym (rest i one (omega arith)) ∙ sym one_is) in
    let le : length (get_or each i ps) ≤ get_or (map room_of old) i (room_of one) = zip_at HasRoom each (map room_of old) i ps (room_of one) all lt in
    omega (arith, le, at, ap length ps_is)

pub rooms_long : (each : List (List ℕ)) (old : List Kept) → AllZip HasRoom each (map room_of old) → length old ≡ length each
rooms_long each old all = sym (length-map old room_of) ∙ AllZip-long HasRoom each (map room_of old) all
