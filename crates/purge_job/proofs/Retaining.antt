-- Rows that are retained from a mark on.
use Rattle.std.proofs.Common.{◌≡◌, ◌==◌, ◌+◌, ◌<◌, ◌++◌, ℕ, Bool, true, false, cond, List, [], ◌∷◌, map, find, nat_lt, refl, sym, ◌∙◌, ap, ap₂, arith}
use Rattle.std.proofs.lemmas.Bool.Decides.{nat_tests}
use Rattle.std.specs.Prelude.{Option, Some, None, IfSome}
use Rattle.std.specs.Option.{option_map, option_map_or, option_or}
use Rattle.std.specs.List.{All}
use Rattle.std.proofs.lemmas.List.Elements.{All-head, All-tail}
use Rattle.col_value.specs.declared.row.Asked.{Asked}
use Rattle.col_value.specs.declared.row.Stamped.{Stamped}
use Rattle.row_history.specs.History.{is_retained, retained, stamped}
use Rattle.del_vector.specs.declared.mark.Mark.{Mark}
use Rattle.del_vector.specs.Marks.{epoch_at}
use Rattle.ros_container.specs.Encodings.{Written}
use Rattle.stored_rows.specs.Held.{stamped_from}
use Rattle.stored_rows.specs.Stored.{Beside, mark_in}
use Rattle.container_cut.proofs.Fronts.{full_stamped}

-- ---- later marks

later_at : (mark i : ℕ) (marks : List Mark) → All (λ e. mark < e.epoch) marks → IfSome (epoch_at marks i) (λ e. mark < e)
later_at mark i [] all = tt
later_at mark i (m ∷ ms) all = by (m.position == i) (All-head (λ e. mark < e.epoch) m ms all) (later_at mark i ms (All-tail (λ e. mark < e.epoch) m ms all))
  where
    by : (b : Bool) → mark < m.epoch → IfSome (epoch_at ms i) (λ e. mark < e) → IfSome (option_map (λ (x : Mark). x.epoch) (cond b (Some m) (find (λ (x : Mark). x.position == i) ms))) (λ e. mark < e)
    by true here rest = here
    by false here rest = rest

later_either : (mark : ℕ) (o p : Option ℕ) → IfSome o (λ e. mark < e) → IfSome p (λ e. mark < e) → IfSome (option_or o p) (λ e. mark < e)
later_either mark None p first second = second
later_either mark (Some e) p first second = first

pub later_marks : (mark : ℕ) (b : Beside) → All (λ e. mark < e.epoch) b.held → All (λ e. mark < e.epoch) b.fresh → (i : ℕ) → IfSome (mark_in b i) (λ e. mark < e)
later_marks mark b held fresh i = later_either mark (epoch_at b.held i) (epoch_at b.fresh i) (later_at mark i b.held held) (later_at mark i b.fresh fresh)

-- ---- rows with later marks

kept_one : (mark : ℕ) (o : Option ℕ) → IfSome o (λ e. mark < e) → option_map_or (λ e. nat_lt mark e) o true ≡ true
kept_one mark None later = refl
kept_one mark (Some e) later = grind (arith, nat_tests)

kept_head : (mark : ℕ) (s : Stamped) (ss : List Stamped) → is_retained mark s ≡ true → retained mark ss ≡ ss → retained mark (s ∷ ss) ≡ s ∷ ss
kept_head mark s ss is rest = by (is_retained mark s) is
  where
    by : (b : Bool) → b ≡ true → cond b (s ∷ retained mark ss) (retained mark ss) ≡ s ∷ ss
    by true is = ap (λ (zs : List Stamped). s ∷ zs) rest
    by false is = absurd (cc)

pub all_kept : (mark i : ℕ) (del : ℕ → Option ℕ) (rows : List Asked) → ((j : ℕ) → IfSome (del j) (λ e. mark < e)) → retained mark (stamped_from i del rows) ≡ stamped_from i del rows
all_kept mark i del [] later = refl
all_kept mark i del (a ∷ rows) later = kept_head mark (stamped (del i) a) (stamped_from (i + 1) del rows) (kept_one mark (del i) (later i)) (all_kept mark (i + 1) del rows later)

-- ---- with the defaults of the columns that aren't stored

pub retained_full : (es : List Written) (n mark : ℕ) (rows : List Stamped) → retained mark (map (full_stamped es n) rows) ≡ map (full_stamped es n) (retained mark rows)
retained_full es n mark [] = refl
retained_full es n mark (s ∷ rows) = by (is_retained mark s) (retained_full es n mark rows)
  where
    f : Stamped → Stamped
    f = full_stamped es n

    by : (c : Bool) → retained mark (map f rows) ≡ map f (retained mark rows) → cond c (f s ∷ retained mark (map f rows)) (retained mark (map f rows)) ≡ map f (cond c (s ∷ retained mark rows) (retained mark rows))
    by true rest = ap (λ (ss : List Stamped). f s ∷ ss) rest
    by false rest = rest
