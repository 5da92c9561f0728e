-- Epochs of positions, mark by mark.
use Rattle.std.proofs.Common.{◌≡◌, ◌≢◌, ◌+◌, ◌<◌, ◌++◌, ℕ, zero, suc, Bool, true, false, cond, List, [], ◌∷◌, length, map, set, take, get_or, refl, sym, ◌∙◌, ap, subst, arith}
use Rattle.std.specs.Prelude.{Option, Some, None, ◌==◌, find, option_map}
use Rattle.std.specs.Option.{option_or}
use Rattle.std.proofs.lemmas.Bool.Decides.{nat_tests}
use Rattle.std.proofs.lemmas.List.{take_more, map-set, get_or-map, get_or-set_same, get_or-set_other, length-map}
use Rattle.std.proofs.lemmas.List.Folds.{find-append}
use Rattle.col_value.specs.declared.row.Asked.{Asked}
use Rattle.del_vector.specs.declared.mark.Mark.{Mark}
use Rattle.del_vector.specs.Marks.{epoch_at}
use Rattle.write_store.specs.declared.held.Held.{Held}
use Rattle.write_store.specs.Memory.{held_of}
use Rattle.wanted_rows.specs.Picked.{asked_of, del_at}

or_by : {X Y : Type 0} (f : X → Y) (a b : Option X) → option_map f (option_or a b) ≡ option_or (option_map f a) (option_map f b)
or_by f None b = refl
or_by f (Some x) b = refl

pub or_twice : (a b c : Option ℕ) → option_or (option_or a b) c ≡ option_or a (option_or b c)
or_twice None b c = refl
or_twice (Some x) b c = refl

-- marks behind others
pub epochs_join : (v w : List Mark) (i : ℕ) → epoch_at (v ++ w) i ≡ option_or (epoch_at v i) (epoch_at w i)
epochs_join v w i = ap (option_map (λ m. m.epoch)) (find-append (λ m. m.position == i) v w) ∙ or_by (λ m. m.epoch) (find (λ m. m.position == i) v) (find (λ m. m.position == i) w)

-- one mark more of those that are put
pub put_more : (old now new : List Held) (marks : List Mark) (k i : ℕ) (d : Mark) → k < length marks
    → del_at now i ≡ option_or (del_at old i) (epoch_at (take k marks) i) → del_at new i ≡ option_or (del_at now i) (epoch_at (get_or marks k d ∷ []) i)
    → del_at new i ≡ option_or (del_at old i) (epoch_at (take (k + 1) marks) i)
put_more old now new marks k i d lt was step =
    step ∙ ap (λ (o : Option ℕ). option_or o (epoch_at (get_or marks k d ∷ []) i)) was
    ∙ or_twice (del_at old i) (epoch_at (take k marks) i) (epoch_at (get_or marks k d ∷ []) i)
    ∙ ap (option_or (del_at old i)) (sym (epochs_join (take k marks) (get_or marks k d ∷ []) i) ∙ ap (λ (v : List Mark). epoch_at v i) (sym (take_more marks k d lt)))

pub put_none : (old : List Held) (i : ℕ) → del_at old i ≡ option_or (del_at old i) (epoch_at [] i)
put_none old i = by (del_at old i)
  where
    by : (o : Option ℕ) → o ≡ option_or o None
    by None = refl
    by (Some e) = refl

-- rows of which none is deleted
pub none_deleted : (rows : List Asked) (i : ℕ) → del_at (map (held_of None) rows) i ≡ None
none_deleted [] i = refl
none_deleted (a ∷ rows) zero = refl
none_deleted (a ∷ rows) (suc i) = none_deleted rows i

pub rows_there : (rows : List Asked) → asked_of (map (held_of None) rows) ≡ rows
rows_there [] = refl
rows_there (a ∷ rows) = ap (λ (xs : List Asked). a ∷ xs) (rows_there rows)

-- a row at a place is deleted, its values and its epoch stay
pub rows_stay : (rows : List Held) (k : ℕ) (d : Held) (del : Option ℕ) → k < length rows → asked_of (set rows k (record (get_or rows k d) { del = del })) ≡ asked_of rows
rows_stay [] k d del lt = refl
rows_stay (h ∷ rows) zero d del lt = refl
rows_stay (h ∷ rows) (suc k) d del lt = ap (λ (xs : List Asked). (record { row = h.inserted.row; ins = h.inserted.ins }) ∷ xs) (rows_stay rows k d del (omega (arith, lt)))

or_none : (o : Option ℕ) → option_or o None ≡ o
or_none None = refl
or_none (Some e) = refl

-- a row that isn't deleted is deleted by a mark
put_by : (rows new : List Held) (k : ℕ) (mark : Mark) (i : ℕ) → map (λ (h : Held). h.del) new ≡ set (map (λ (h : Held). h.del) rows) k (Some mark.epoch) → k ≡ mark.position → k < length rows → del_at rows k ≡ None
    → del_at new i ≡ option_or (del_at rows i) (epoch_at (mark ∷ []) i)
put_by rows new k mark i is at lt none = by (mark.position == i) refl
  where
    by : (b : Bool) → (mark.position == i) ≡ b → del_at new i ≡ option_or (del_at rows i) (option_map (λ (m : Mark). m.epoch) (cond b (Some mark) None))
    by true e =
        let same : k ≡ i = grind (arith, nat_tests) in
        let room : k < length (map (λ (h : Held). h.del) rows) = omega (arith, lt, length-map rows (λ (h : Held). h.del)) in
        let here : del_at new k ≡ option_or (del_at rows k) (Some mark.epoch) =
        ap (λ (ds : List (Option ℕ)). get_or ds k None) is ∙ get_or-set_same (map (λ (h : Held). h.del) rows) k (Some mark.epoch) None room ∙ ap (λ (o : Option ℕ). option_or o (Some mark.epoch)) (sym none) in
        subst (λ (j : ℕ). del_at new j ≡ option_or (del_at rows j) (Some mark.epoch)) same here
    by false e =
        let other : i ≢ k = λ eq. absurd (grind (arith, nat_tests)) in
        ap (λ (ds : List (Option ℕ)). get_or ds i None) is ∙ get_or-set_other (map (λ (h : Held). h.del) rows) k i (Some mark.epoch) None other ∙ sym (or_none (del_at rows i))

pub put_one : (rows : List Held) (k : ℕ) (d e : Held) (mark : Mark) (i : ℕ) → k ≡ mark.position → k < length rows → (get_or rows k e).del ≡ None
    → del_at (set rows k (record (get_or rows k d) { del = Some mark.epoch })) i ≡ option_or (del_at rows i) (epoch_at (mark ∷ []) i)
put_one rows k d e mark i at lt none =
    put_by rows (set rows k (record (get_or rows k d) { del = Some mark.epoch })) k mark i (map-set (λ (h : Held). h.del) rows k (record (get_or rows k d) { del = Some mark.epoch })) at lt
    (get_or-map (λ (h : Held). h.del) rows k e None lt ∙ none)

-- marks of two vectors, put one after the other over rows of which none is deleted
pub put_both : (v w : List Mark) (i : ℕ) (none one both : Option ℕ) → none ≡ None → one ≡ option_or none (epoch_at v i) → both ≡ option_or one (epoch_at w i) → both ≡ option_or (epoch_at v i) (epoch_at w i)
put_both v w i none one both is first second =
    second ∙ ap (λ (o : Option ℕ). option_or o (epoch_at w i)) (first ∙ ap (λ (o : Option ℕ). option_or o (epoch_at v i)) is)
