-- What came of the rows of a scan.
use Rattle.std.proofs.Common.{◌≡◌, ℕ, suc, ◌++◌, false, List, [], ◌∷◌, length, map, filter, drop, refl, sym, ap, ◌∙◌, arith, subst}
use Rattle.std.specs.Prelude.{◌*◌, min, Option, Some, None}
use Rattle.std.specs.Option.{option_map_or}
use Rattle.std.specs.List.{All, slice_get}
use Rattle.std.proofs.lemmas.List.{append_assoc, append-nil, map-append}
use Rattle.std.proofs.lemmas.List.Elements.{All-append, All-filter, All-map, All-nil, All-weaker, filter-append}
use Rattle.common_laws.specs.Bags.{SameBag}
use Rattle.common_laws.proofs.BagLaws.{bag_map, bag_refl, count_append}
use Rattle.common_laws.specs.Maps.{Contents}
use Rattle.col_value.specs.declared.row.Stamped.{Stamped}
use Rattle.col_value.specs.declared.value.Value.{Value}
use Rattle.row_history.specs.History.{is_visible, visible}
use Rattle.row_history.proofs.Histories.{bag_visible}
use Rattle.catalog_types.specs.declared.catalogue.Container.{Container}
use Rattle.stored_rows.specs.Stored.{Projected, Stores}
use Rattle.query_cover.specs.Seen.{placed}
use Rattle.row_bounds.specs.Bounds.{within}
use Rattle.row_bounds.specs.declared.bound.Bound.{Bound}
use Rattle.exec_scan.specs.Batches.{Shown}
use Rattle.exec_scan.specs.Scanning.{AreLeft, AsksSame, Gives, Place, Shows, start}
use Rattle.store_query.specs.Feeding.{IsBeyond, Passes}

abbrev Rows : Type 0
Rows = List (List Value)

abbrev pub shown : ℕ → List (Option ℕ) → List Stamped → Rows
shown epoch places rows = map (placed places) (visible epoch rows)

shown_both : (epoch : ℕ) (places : List (Option ℕ)) (xs ys : List Stamped) → shown epoch places (xs ++ ys) ≡ shown epoch places xs ++ shown epoch places ys
shown_both epoch places xs ys =
    ap (λ (ss : List Stamped). map (placed places) (map (λ (s : Stamped). s.row) ss)) (filter-append (is_visible epoch) xs ys)
    ∙ ap (map (placed places)) (map-append (λ (s : Stamped). s.row) (filter (is_visible epoch) xs) (filter (is_visible epoch) ys))
    ∙ map-append (placed places) (visible epoch xs) (visible epoch ys)

shown_bag : (epoch : ℕ) (places : List (Option ℕ)) (xs ys : List Stamped) → SameBag xs ys → SameBag (shown epoch places xs) (shown epoch places ys)
shown_bag epoch places xs ys bag = bag_map (placed places) (visible epoch xs) (visible epoch ys) (bag_visible epoch xs ys bag)

length_placed : (row : List Value) (places : List (Option ℕ)) → length (placed places row) ≡ length places
length_placed row [] = refl
length_placed row (p ∷ places) = ap suc (length_placed row places)

-- what was passed over lies out of the bounds
passed_beyond : (bounds : List Bound) (epoch : ℕ) (places : List (Option ℕ)) (passed : List Stamped) → All (λ a. within bounds (placed places a.row) ≡ false) passed → All (IsBeyond bounds (length places)) (shown epoch places passed)
passed_beyond bounds epoch places passed out =
    let each : All (λ a. IsBeyond bounds (length places) (placed places a.row)) passed =
    All-weaker (λ a. within bounds (placed places a.row) ≡ false) (λ a. IsBeyond bounds (length places) (placed places a.row)) (λ a is. (length_placed a.row places, is)) passed out in
    let seen : All (λ a. IsBeyond bounds (length places) (placed places a.row)) (filter (is_visible epoch) passed) =
    All-filter (is_visible epoch) (λ a. IsBeyond bounds (length places) (placed places a.row)) passed each in
    All-map (IsBeyond bounds (length places)) (placed places) (visible epoch passed)
    (All-map (λ row. IsBeyond bounds (length places) (placed places row)) (λ (a : Stamped). a.row) (filter (is_visible epoch) passed) seen)

passes_none : (bounds : List Bound) (columns : ℕ) → Passes bounds columns [] []
passes_none bounds columns = record { passed = []; parts = bag_refl []; beyond = All-nil (IsBeyond bounds columns) }

passes_both : (bounds : List Bound) (columns : ℕ) (rows more came next : Rows) → Passes bounds columns rows came → Passes bounds columns more next → Passes bounds columns (rows ++ more) (came ++ next)
passes_both bounds columns rows more came next one other = record {
  passed = one.passed ++ other.passed;
  parts = record {
    counts = λ p.
        omega (
          arith,
          count_append p rows more,
          count_append p (came ++ next) (one.passed ++ other.passed),
          count_append p came next,
          count_append p one.passed other.passed,
          one.parts.counts p,
          count_append p came one.passed,
          other.parts.counts p,
          count_append p next other.passed,
        );
  };
  beyond = All-append (IsBeyond bounds columns) one.passed other.passed one.beyond other.beyond;
}

batch_passes : (s : Place) (next : List Stamped) (b : Shown) → Shows s next b → Passes s.bounds (length s.places) (shown s.epoch s.places next) b.rows
batch_passes s next b shows =
    let both : shown s.epoch s.places (shows.came ++ shows.passed) ≡ b.rows ++ shown s.epoch s.places shows.passed =
    shown_both s.epoch s.places shows.came shows.passed ∙ ap (λ (xs : Rows). xs ++ shown s.epoch s.places shows.passed) (sym shows.rows) in
    record {
      passed = shown s.epoch s.places shows.passed;
      parts = subst (SameBag (shown s.epoch s.places next)) both (shown_bag s.epoch s.places next (shows.came ++ shows.passed) shows.parts);
      beyond = passed_beyond s.bounds s.epoch s.places shows.passed shows.out;
    }

-- a scan that asks for this
pub record Asks (epoch : ℕ) (places : List (Option ℕ)) (bounds : List Bound) (s : Place) : Type 0 where
  pub epoch_is : s.epoch ≡ epoch
  pub places_are : s.places ≡ places
  pub bounds_are : s.bounds ≡ bounds

pub asks_start : (epoch : ℕ) (places : List (Option ℕ)) (bounds : List Bound) (s : Place) → s ≡ start epoch places bounds false → Asks epoch places bounds s
asks_start epoch places bounds s is = record { epoch_is = ap (λ (x : Place). x.epoch) is; places_are = ap (λ (x : Place). x.places) is; bounds_are = ap (λ (x : Place). x.bounds) is }

pub asks_on : (epoch : ℕ) (places : List (Option ℕ)) (bounds : List Bound) (s new : Place) → AsksSame s new → Asks epoch places bounds s → Asks epoch places bounds new
asks_on epoch places bounds s new same asks = record { epoch_is = same.epoch ∙ asks.epoch_is; places_are = same.places ∙ asks.places_are; bounds_are = same.bounds ∙ asks.bounds_are }

asked_passes : (epoch : ℕ) (places : List (Option ℕ)) (bounds : List Bound) (s : Place) (next : List Stamped) (b : Shown) → Asks epoch places bounds s → Shows s next b → Passes bounds (length places) (shown epoch places next) b.rows
asked_passes epoch places bounds s next b asks shows =
    subst (λ (bs : List Bound). Passes bs (length places) (shown epoch places next) b.rows) asks.bounds_are
    (subst (λ (ps : List (Option ℕ)). Passes s.bounds (length ps) (shown epoch ps next) b.rows) asks.places_are
    (subst (λ (e : ℕ). Passes s.bounds (length s.places) (shown e s.places next) b.rows) asks.epoch_is (batch_passes s next b shows)))

-- The first rows of a scan are done, and these are what came of them.
pub record Gathered (m : Contents) (p : Projected) (epoch : ℕ) (places : List (Option ℕ)) (bounds : List Bound) (s : Place) (rows : List Stamped) (out : Rows) : Type 0 where
  pub done : List Stamped
  pub rest : List Stamped
  pub all : rows ≡ done ++ rest
  pub left : AreLeft m p s rest
  pub passes : Passes bounds (length places) (shown epoch places done) out

none_passed : (o : Option Container) → option_map_or (λ k. min (1024 * 0) k.rows) o 0 ≡ 0
none_passed None = refl
none_passed (Some k) = omega arith

all_left : (m : Contents) (p : Projected) (epoch : ℕ) (places : List (Option ℕ)) (bounds : List Bound) (rows : List Stamped) → Stores m p rows → AreLeft m p (start epoch places bounds false) rows
all_left m p epoch places bounds rows stores = record {
  saved = stores.0;
  stored = stores.1;
  at_hand = tt;
  left = stores.2 ∙ ap (λ (n : ℕ). drop n stores.0 ++ p.unsaved) (sym (none_passed (slice_get p.entry.containers 0)));
}

pub gathered_none : (m : Contents) (p : Projected) (epoch : ℕ) (places : List (Option ℕ)) (bounds : List Bound) (s : Place) (rows : List Stamped) (out : Rows) → s ≡ start epoch places bounds false → out ≡ [] → Stores m p rows
    → Gathered m p epoch places bounds s rows out
gathered_none m p epoch places bounds s rows out is none stores = record {
  done = [];
  rest = rows;
  all = refl;
  left = subst (λ (x : Place). AreLeft m p x rows) (sym is) (all_left m p epoch places bounds rows stores);
  passes = subst (λ (xs : Rows). Passes bounds (length places) [] xs) (sym none) (passes_none bounds (length places));
}

pub gathered_more : (m : Contents) (p : Projected) (epoch : ℕ) (places : List (Option ℕ)) (bounds : List Bound) (s new : Place) (batch : Shown) (rows : List Stamped) (out next : Rows) → next ≡ out ++ batch.rows → Asks epoch places bounds s
    → ((left : List Stamped) → AreLeft m p s left → Gives m p s new left (Some batch)) → Gathered m p epoch places bounds s rows out → Gathered m p epoch places bounds new rows next
gathered_more m p epoch places bounds s new batch rows out next is asks gives was =
    let given = gives was.rest was.left in
    let some = given.0 in
    let others = given.1 in
    record {
      done = was.done ++ some;
      rest = others;
      all = was.all ∙ ap (λ (xs : List Stamped). was.done ++ xs) given.2 ∙ sym (append_assoc was.done some others);
      left = given.4;
      passes =
          subst (λ (xs : Rows). Passes bounds (length places) (shown epoch places (was.done ++ some)) xs) (sym is)
          (subst (λ (xs : Rows). Passes bounds (length places) xs (out ++ batch.rows)) (sym (shown_both epoch places was.done some))
          (passes_both bounds (length places) (shown epoch places was.done) (shown epoch places some) out batch.rows was.passes (asked_passes epoch places bounds s some batch asks given.3)));
    }

pub gathered_all : (m : Contents) (p : Projected) (epoch : ℕ) (places : List (Option ℕ)) (bounds : List Bound) (s : Place) (rows : List Stamped) (out : Rows) → ((left : List Stamped) → AreLeft m p s left → left ≡ [])
    → Gathered m p epoch places bounds s rows out → Passes bounds (length places) (map (placed places) (visible epoch rows)) out
gathered_all m p epoch places bounds s rows out ends was =
    let all : was.done ≡ rows = sym (was.all ∙ ap (λ (xs : List Stamped). was.done ++ xs) (ends was.rest was.left) ∙ append-nil was.done) in
    subst (λ (xs : List Stamped). Passes bounds (length places) (shown epoch places xs) out) all was.passes
