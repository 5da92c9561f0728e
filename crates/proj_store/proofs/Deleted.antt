-- Which rows are deleted, mark by mark.
use Rattle.std.proofs.Common.{◌≡◌, ℕ, zero, suc, ◌+◌, ◌<◌, List, [], ◌∷◌, length, take, replicate, get_or, refl, sym, ◌∙◌, ap}
use Rattle.std.specs.Prelude.{Option, Some, None}
use Rattle.std.specs.Option.{option_or}
use Rattle.std.proofs.lemmas.List.{take_more}
use Rattle.del_vector.specs.declared.mark.Mark.{Mark}
use Rattle.del_vector.specs.Marks.{epoch_at}
use Rattle.proj_store.proofs.Epochs.{epochs_join, or_twice}

-- one mark more of those that are put
pub put_more : (old now new : List (Option ℕ)) (marks : List Mark) (k i : ℕ) (d : Mark) → k < length marks
    → get_or now i None ≡ option_or (get_or old i None) (epoch_at (take k marks) i) → get_or new i None ≡ option_or (get_or now i None) (epoch_at (get_or marks k d ∷ []) i)
    → get_or new i None ≡ option_or (get_or old i None) (epoch_at (take (k + 1) marks) i)
put_more old now new marks k i d lt was step =
    step ∙ ap (λ (o : Option ℕ). option_or o (epoch_at (get_or marks k d ∷ []) i)) was
    ∙ or_twice (get_or old i None) (epoch_at (take k marks) i) (epoch_at (get_or marks k d ∷ []) i)
    ∙ ap (option_or (get_or old i None)) (sym (epochs_join (take k marks) (get_or marks k d ∷ []) i) ∙ ap (λ (v : List Mark). epoch_at v i) (sym (take_more marks k d lt)))

pub put_none : (o : Option ℕ) → o ≡ option_or o None
put_none None = refl
put_none (Some e) = refl

abbrev no_epoch : Option ℕ
no_epoch = None

pub none_deleted : (n i : ℕ) → get_or (replicate n no_epoch) i no_epoch ≡ no_epoch
none_deleted zero i = refl
none_deleted (suc n) zero = refl
none_deleted (suc n) (suc i) = none_deleted n i

-- marks of two vectors, put one after the other over rows of which none is deleted
pub put_both : (v w : List Mark) (i : ℕ) (zeroth one both : Option ℕ) → zeroth ≡ None → one ≡ option_or zeroth (epoch_at v i) → both ≡ option_or one (epoch_at w i) → both ≡ option_or (epoch_at v i) (epoch_at w i)
put_both v w i zeroth one both is first second =
    second ∙ ap (λ (o : Option ℕ). option_or o (epoch_at w i)) (first ∙ ap (λ (o : Option ℕ). option_or o (epoch_at v i)) is)
