-- Places that are picked, one container after the other.
use Rattle.std.proofs.Common.{◌≡◌, ◌+◌, ◌<◌, ◌≤◌, ◌++◌, ℕ, List, [], ◌∷◌, length, map, take, get_or, refl, sym, ◌∙◌, ap, subst, arith}
use Rattle.std.specs.Prelude.{Option, Some}
use Rattle.std.specs.List.{AllZip}
use Rattle.std.proofs.lemmas.List.{take_more, take_all}
use Rattle.std.proofs.lemmas.Slice.Zip.{AllZip-long}
use Rattle.common_laws.specs.Maps.{Contents}
use Rattle.col_value.specs.declared.row.Asked.{Asked}
use Rattle.catalog_types.specs.declared.catalogue.Container.{Container}
use Rattle.stored_rows.specs.Stored.{Beside, mark_in}
use Rattle.wanted_rows.specs.Picked.{Picks}
use Rattle.proj_store.specs.declared.kept.Kept.{Kept}
use Rattle.proj_store.specs.Loaded.{beside_of}
use Rattle.proj_store.specs.Sound.{MarksItsRows}
use Rattle.proj_store.specs.Marking.{PicksIn, PicksEach, ArePlaces}
use Rattle.proj_store.proofs.SavedRows.{beside_next}
use Rattle.ros_container.specs.Encodings.{Written}

pub picks_agree : (f mark : ℕ → Option ℕ) (rows : List Asked) (places : List ℕ) (need left : Asked → ℕ) → ((i : ℕ) → f i ≡ mark i) → Picks f rows places need left → Picks mark rows places need left
picks_agree f mark rows places need left same picks = record {
  rise = picks.rise;
  before = picks.before;
  live = λ i d lt. record { here = (picks.live i d lt).here; live = sym (same (get_or places i d)) ∙ (picks.live i d lt).live };
  taken = picks.taken;
  none = λ j lt in_rows live out. picks.none j lt in_rows (same j ∙ live) out;
}

picks_from : (mark : ℕ → Option ℕ) (rows : List Asked) (places : List ℕ) (need mid left : Asked → ℕ) → ((q : Asked) → mid q ≡ need q) → Picks mark rows places mid left → Picks mark rows places need left
picks_from mark rows places need mid left same picks = record {
  rise = picks.rise;
  before = picks.before;
  live = picks.live;
  taken = λ q. sym (same q) ∙ picks.taken q;
  none = picks.none;
}

-- no container yet
pub none_picked : (m : Contents) (es : List Written) (each : List (List ℕ)) (need : Asked → ℕ) → each ≡ [] → PicksEach m es [] [] each need need
none_picked m es each need is = subst (λ (ps : List (List ℕ)). PicksEach m es [] [] ps need need) (sym is) (λ q. refl)

pub none_placed : (each : List (List ℕ)) → each ≡ [] → AllZip ArePlaces [] each
none_placed each is = subst (AllZip ArePlaces []) (sym is) tt

-- one container more
each_more : (m : Contents) (es : List Written) (ks : List Container) (bs : List Beside) (each : List (List ℕ)) (k : Container) (b : Beside) (places : List ℕ) (need mid left : Asked → ℕ)
    → PicksEach m es ks bs each need mid → PicksIn m es k b places mid left → PicksEach m es (ks ++ k ∷ []) (bs ++ b ∷ []) (each ++ places ∷ []) need left
each_more m es [] [] [] k b places need mid left was one = (left, λ rows holds. picks_from (mark_in b) rows places need mid left was (one rows holds), λ q. refl)
each_more m es [] [] (e ∷ each) k b places need mid left was one = absurd was
each_more m es [] (c ∷ bs) each k b places need mid left was one = absurd was
each_more m es (j ∷ ks) [] each k b places need mid left was one = absurd was
each_more m es (j ∷ ks) (c ∷ bs) [] k b places need mid left was one = absurd was
each_more m es (j ∷ ks) (c ∷ bs) (e ∷ each) k b places need mid left (first, here, rest) one = (first, here, each_more m es ks bs each k b places first mid left rest one)

pub picks_more : (es : List Written) (ks : List Container) (kept : List Kept) (i : ℕ) (k : Container) (one : Kept) (old new : List (List ℕ)) (places : List ℕ) (need mid left : Asked → ℕ) (now found : Option Contents)
    → i < length ks → i < length kept → k ≡ get_or ks i k → one ≡ get_or kept i one → now ≡ found → new ≡ old ++ places ∷ []
    → ((m : Contents) → found ≡ Some m → PicksEach m es (take i ks) (take i (map beside_of kept)) old need mid)
    → ((m : Contents) → now ≡ Some m → PicksIn m es k (beside_of one) places mid left)
    → (m : Contents) → found ≡ Some m → PicksEach m es (take (i + 1) ks) (take (i + 1) (map beside_of kept)) new need left
picks_more es ks kept i k one old new places need mid left now found lt also k_is one_is same new_is was picks m told =
    let ks_next : take (i + 1) ks ≡ take i ks ++ k ∷ [] = take_more ks i k lt ∙ ap (λ (x : Container). take i ks ++ x ∷ []) (sym k_is) in
    let bs_next : take (i + 1) (map beside_of kept) ≡ take i (map beside_of kept) ++ beside_of one ∷ [] = beside_next kept i one also ∙ ap (λ (x : Kept). take i (map beside_of kept) ++ beside_of x ∷ []) (sym one_is) in
    subst (λ (js : List Container). PicksEach m es js (take (i + 1) (map beside_of kept)) new need left) (sym ks_next)
    (subst (λ (bs : List Beside). PicksEach m es (take i ks ++ k ∷ []) bs new need left) (sym bs_next)
    (subst (λ (r : List (List ℕ)). PicksEach m es (take i ks ++ k ∷ []) (take i (map beside_of kept) ++ beside_of one ∷ []) r need left) (sym new_is)
    (each_more m es (take i ks) (take i (map beside_of kept)) old k (beside_of one) places need mid left (was m told) (picks m (same ∙ told)))))

pub picks_all : (m : Contents) (es : List Written) (ks : List Container) (bs : List Beside) (each : List (List ℕ)) (need left : Asked → ℕ) (i : ℕ) → length ks ≤ i → length bs ≤ i
    → PicksEach m es (take i ks) (take i bs) each need left → PicksEach m es ks bs each need left
picks_all m es ks bs each need left i past also picks =
    subst (λ (js : List Container). PicksEach m es js bs each need left) (take_all i ks past) (subst (λ (cs : List Beside). PicksEach m es (take i ks) cs each need left) (take_all i bs also) picks)

places_push : (ks : List Container) (each : List (List ℕ)) (k : Container) (places : List ℕ) → AllZip ArePlaces ks each → ArePlaces k places → AllZip ArePlaces (ks ++ k ∷ []) (each ++ places ∷ [])
places_push [] [] k places all one = (one, tt)
places_push [] (e ∷ each) k places all one = absurd all
places_push (j ∷ ks) [] k places all one = absurd all
places_push (j ∷ ks) (e ∷ each) k places (here, rest) one = (here, places_push ks each k places rest one)

pub places_more : (ks : List Container) (i : ℕ) (k : Container) (old new : List (List ℕ)) (places : List ℕ) → i < length ks → k ≡ get_or ks i k → new ≡ old ++ places ∷ [] → AllZip ArePlaces (take i ks) old → ArePlaces k places
    → AllZip ArePlaces (take (i + 1) ks) new
places_more ks i k old new places lt k_is new_is was one =
    subst (λ (js : List Container). AllZip ArePlaces js new) (sym (take_more ks i k lt ∙ ap (λ (x : Container). take i ks ++ x ∷ []) (sym k_is)))
    (subst (λ (r : List (List ℕ)). AllZip ArePlaces (take i ks ++ k ∷ []) r) (sym new_is) (places_push (take i ks) old k places was one))

-- all containers are done
pub picks_done : (es : List Written) (ks ps : List Container) (kept : List Kept) (each : List (List ℕ)) (need left : Asked → ℕ) (i : ℕ) (found : Option Contents) → ks ≡ ps → AllZip MarksItsRows ps (map beside_of kept) → length ks ≤ i
    → ((m : Contents) → found ≡ Some m → PicksEach m es (take i ks) (take i (map beside_of kept)) each need left) → (m : Contents) → found ≡ Some m → PicksEach m es ps (map beside_of kept) each need left
picks_done es ks ps kept each need left i found same all past picks m told =
    let long : length (map beside_of kept) ≤ i = omega (arith, past, ap length same, AllZip-long MarksItsRows ps (map beside_of kept) all) in
    subst (λ (js : List Container). PicksEach m es js (map beside_of kept) each need left) same (picks_all m es ks (map beside_of kept) each need left i past long (picks m told))

pub places_done : (ks ps : List Container) (each : List (List ℕ)) (i : ℕ) → ks ≡ ps → length ks ≤ i → AllZip ArePlaces (take i ks) each → AllZip ArePlaces ps each
places_done ks ps each i same past all =
    subst (λ (js : List Container). AllZip ArePlaces js each) same (subst (λ (js : List Container). AllZip ArePlaces js each) (take_all i ks past) all)
