-- Rows that files hold whose epochs go up to one.
use Rattle.std.proofs.Common.{◌≡◌, ℕ, ◌+◌, ◌≤◌, Bool, true, false, cond, List, [], ◌∷◌, map, Option, Some, None, refl, sym, ap, arith, subst}
use Rattle.std.specs.Prelude.{nat_le, max, fold, find, ◌==◌}
use Rattle.std.specs.Option.{option_map}
use Rattle.std.specs.List.{All}
use Rattle.std.proofs.lemmas.Bool.Decides.{nat_tests}
use Rattle.std.proofs.lemmas.List.Elements.{All-head, All-tail, All-cons, All-nil, All-append, All-weaker}
use Rattle.common_laws.specs.Maps.{Contents}
use Rattle.col_value.specs.declared.row.Asked.{Asked}
use Rattle.col_value.specs.declared.row.Stamped.{Stamped}
use Rattle.row_history.specs.History.{cut_delete, cut_rows}
use Rattle.catalog_types.specs.declared.catalogue.Container.{Container}
use Rattle.catalog_types.specs.declared.catalogue.Projection.{Projection}
use Rattle.ros_container.specs.Encodings.{Written, written_of}
use Rattle.ros_container.specs.Rows.{IsWithin}
use Rattle.del_vector.specs.declared.mark.Mark.{Mark}
use Rattle.del_vector.specs.Marks.{epoch_at}
use Rattle.stored_rows.specs.Held.{HoldsVectorAt, HoldsRows, Holds, stamped_from}
use Rattle.stored_rows.specs.Early.{IsUpTo, EndsBy}
use Rattle.stored_rows.proofs.EarlyCuts.{cut_same}

marks_below : (a epoch : ℕ) (marks : List Mark) → fold max a (map (λ e. e.epoch) marks) ≤ epoch → (a ≤ epoch) × All (λ e. e.epoch ≤ epoch) marks
marks_below a epoch [] le = (le, All-nil (λ e. e.epoch ≤ epoch))
marks_below a epoch (x ∷ marks) le =
    let k = marks_below (max a x.epoch) epoch marks le in
    (omega (arith, k.0), All-cons (λ e. e.epoch ≤ epoch) x marks (omega (arith, k.0)) k.1)

epoch_below : (epoch i : ℕ) (marks : List Mark) → All (λ e. e.epoch ≤ epoch) marks → cut_delete epoch (epoch_at marks i) ≡ epoch_at marks i
epoch_below epoch i [] all = refl
epoch_below epoch i (x ∷ marks) all = by (x.position == i) (All-head (λ e. e.epoch ≤ epoch) x marks all) (epoch_below epoch i marks (All-tail (λ e. e.epoch ≤ epoch) x marks all))
  where
    by : (b : Bool) → x.epoch ≤ epoch → cut_delete epoch (epoch_at marks i) ≡ epoch_at marks i
        → cut_delete epoch (option_map (λ e. e.epoch) (cond b (Some x) (find (λ e. e.position == i) marks))) ≡ option_map (λ e. e.epoch) (cond b (Some x) (find (λ e. e.position == i) marks))
    by true le rest = let test : nat_le x.epoch epoch ≡ true = grind (arith, nat_tests) in ap (λ (b : Bool). cond b (Some x.epoch) None) test
    by false le rest = rest

vector_below : (m : Contents) (epoch : ℕ) (k : Container) (o : Option ℕ) (marks : List Mark) → k.greatest_mark ≤ epoch → HoldsVectorAt m k o marks → All (λ e. e.epoch ≤ epoch) marks
vector_below m epoch k None marks le is = subst (All (λ e. e.epoch ≤ epoch)) (sym is) (All-nil (λ e. e.epoch ≤ epoch))
vector_below m epoch k (Some n) marks le (of, file) = let great = of.greatest in (marks_below 0 epoch marks (omega (arith, le, great))).1

pub stamped_up : (epoch i : ℕ) (mark : ℕ → Option ℕ) (rows : List Asked) → All (λ a. a.ins ≤ epoch) rows → ((j : ℕ) → cut_delete epoch (mark j) ≡ mark j) → All (IsUpTo epoch) (stamped_from i mark rows)
stamped_up epoch i mark [] all same = All-nil (IsUpTo epoch)
stamped_up epoch i mark (a ∷ rows) all same =
    All-cons (IsUpTo epoch) (record { row = a.row; ins = a.ins; del = mark i }) (stamped_from (i + 1) mark rows) (All-head (λ x. x.ins ≤ epoch) a rows all, same i)
    (stamped_up epoch (i + 1) mark rows (All-tail (λ x. x.ins ≤ epoch) a rows all) same)

pub held_up : (m : Contents) (es : List Written) (epoch : ℕ) (ks : List Container) (rows : List Stamped) → All (EndsBy epoch) ks → HoldsRows m es ks rows → All (IsUpTo epoch) rows
held_up m es epoch [] rows all held = subst (All (IsUpTo epoch)) (sym held) (All-nil (IsUpTo epoch))
held_up m es epoch (k ∷ ks) rows all (v, here, more, vector, (asked, held, is), rest, are) =
    let (inserted, marked) = All-head (EndsBy epoch) k ks all in
    let ins : All (λ a. a.ins ≤ epoch) asked = All-weaker (λ a. IsWithin k a.ins) (λ a. a.ins ≤ epoch) (λ a w. let high = w.1 in omega (arith, high, inserted)) asked held.within in
    let marks : All (λ e. e.epoch ≤ epoch) v = vector_below m epoch k k.marks v marked vector in
    let front : All (IsUpTo epoch) here =
    subst (All (IsUpTo epoch)) (sym is) (stamped_up epoch 0 (epoch_at v) asked ins (λ j. epoch_below epoch j v marks)) in
    subst (All (IsUpTo epoch)) (sym are) (All-append (IsUpTo epoch) here more front (held_up m es epoch ks more (All-tail (EndsBy epoch) k ks all) rest))

pub entry_same : (m : Contents) (epoch : ℕ) (p : Projection) (rows : List Stamped) → All (EndsBy epoch) p.containers → Holds m p rows → cut_rows epoch rows ≡ rows
entry_same m epoch p rows ends held = cut_same epoch rows (held_up m (written_of p) epoch p.containers rows ends held)
