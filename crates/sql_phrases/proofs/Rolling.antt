-- The turns of a loop that reads again and again.
use Rattle.std.proofs.Common.{◌≡◌, Bool, true, false, if◌then◌else◌, List, [], ◌∷◌, ◌++◌, length, ◌<◌, arith, refl, sym, ◌∙◌, ap, append_assoc, append-nil}
use Rattle.std.specs.Prelude.{Err}
use Rattle.sql_words.specs.Symbols.{Symbol}
use Rattle.sql_phrases.specs.declared.stop.Stop.{Stop}
use Rattle.sql_phrases.specs.Gives.{Gives}
use Rattle.sql_phrases.specs.Readings.{Read, Shortens, after, picked, one, nothing, both, head_is, choose, marked, mark, turn, many, turns, joined}
use Rattle.sql_phrases.proofs.Repeats.{many_is, turns_is}
use Rattle.sql_phrases.proofs.Agains.{turn_ends}

mark_takes : {T V : Type 0} (a : List T → Read T V) → Shortens a → (t : T) (ts : List T) (v : V) (rest : List T) (b : Bool) → after (picked t ts (marked b)) (λ u. a) ≡ Read.Took v rest → length rest < length (t ∷ ts)
mark_takes a shorter t ts v rest true e = let s = shorter ts v rest e in omega arith
mark_takes a shorter t ts v rest false e = absurd cc

-- what stands behind a mark is shorter still
pub mark_shortens : {T V : Type 0} (p : T → Bool) (a : List T → Read T V) → Shortens a → Shortens (mark p a)
unfolding mark both one
mark_shortens p a shorter [] v rest e = absurd cc
mark_shortens p a shorter (t ∷ ts) v rest e = mark_takes a shorter t ts v rest (p t) e

joined_step : {T V : Type 0} (vs : List V) (v : V) (q : Read T (List V)) → joined vs (after q (λ ws. nothing (v ∷ ws))) ≡ joined (vs ++ (v ∷ [])) q
unfolding nothing
joined_step vs v (Read.Took ws rest) = ap (λ z. Read.Took z rest) (sym (append_assoc vs (v ∷ []) ws))
joined_step vs v (Read.Stopped rest) = refl

turn_true : {T V : Type 0} (p : T → Bool) (a : List T → Read T V) (m : V → List T → Read T (List V)) (ts : List T) (q : Read T V) → head_is p ts ≡ true → a ts ≡ q → turn p a m ts ≡ after q (λ v. both (m v) (λ vs. nothing (v ∷ vs)))
unfolding turn choose both
turn_true p a m ts q h e = ap (λ z. if z then after (a ts) (λ v. both (m v) (λ vs. nothing (v ∷ vs))) else nothing [] ts) h ∙ ap (λ z. after z (λ v. both (m v) (λ vs. nothing (v ∷ vs)))) e

-- what is still to be read is a turn and what goes on behind it: one more was taken
rolls_on : {T V : Type 0} (p : T → Bool) (a : List T → Read T V) (m : V → List T → Read T (List V)) (whole : Read T (List V)) (vs : List V) (ts : List T) (v : V) (rest : List T) (goal : Read T (List V)) → whole ≡ turn p a m ts → joined vs whole ≡ goal → head_is p ts ≡ true → a ts ≡ Read.Took v rest → joined (vs ++ (v ∷ [])) (m v rest) ≡ goal
unfolding both
rolls_on p a m whole vs ts v rest goal is so_far h e = sym (joined_step vs v (m v rest)) ∙ ap (joined vs) (sym (is ∙ turn_true p a m ts (Read.Took v rest) h e)) ∙ so_far

-- the next one is wrong
rolls_wrong : {T V : Type 0} (p : T → Bool) (a : List T → Read T V) (m : V → List T → Read T (List V)) (whole : Read T (List V)) (vs : List V) (ts : List T) (rest : List T) (goal : Read T (List V)) → whole ≡ turn p a m ts → joined vs whole ≡ goal → head_is p ts ≡ true → a ts ≡ Read.Stopped rest → goal ≡ Read.Stopped rest
rolls_wrong p a m whole vs ts rest goal is so_far h e = sym so_far ∙ ap (joined vs) (is ∙ turn_true p a m ts (Read.Stopped rest) h e)

-- there is no next one
rolls_out : {T V : Type 0} (p : T → Bool) (a : List T → Read T V) (m : V → List T → Read T (List V)) (whole : Read T (List V)) (vs : List V) (ts : List T) (goal : Read T (List V)) → whole ≡ turn p a m ts → joined vs whole ≡ goal → head_is p ts ≡ false → goal ≡ Read.Took vs ts
rolls_out p a m whole vs ts goal is so_far h = sym so_far ∙ ap (joined vs) (is ∙ turn_ends p a m ts h) ∙ ap (λ z. Read.Took z ts) (append-nil vs)

-- of a repetition

pub roll_goes : {T V : Type 0} (p : T → Bool) (a : List T → Read T V) → Shortens a → (vs : List V) (ts : List T) (v : V) (rest : List T) (goal : Read T (List V)) → joined vs (many p a ts) ≡ goal → head_is p ts ≡ true → a ts ≡ Read.Took v rest → joined (vs ++ (v ∷ [])) (many p a rest) ≡ goal
roll_goes p a shorter vs ts v rest goal so_far h e = rolls_on p a (λ w. many p a) (many p a ts) vs ts v rest goal (many_is p a shorter ts) so_far h e

pub roll_ends : {T V : Type 0} (p : T → Bool) (a : List T → Read T V) → Shortens a → (vs : List V) (ts : List T) (goal : Read T (List V)) → joined vs (many p a ts) ≡ goal → head_is p ts ≡ false → goal ≡ Read.Took vs ts
roll_ends p a shorter vs ts goal so_far h = rolls_out p a (λ w. many p a) (many p a ts) vs ts goal (many_is p a shorter ts) so_far h

-- the next one could not be read
pub roll_err : {V : Type 0} (p : Symbol → Bool) (a : List Symbol → Read Symbol V) → Shortens a → (vs : List V) (ts left : List Symbol) (goal : Read Symbol (List V)) (stop : Stop) → joined vs (many p a ts) ≡ goal → head_is p ts ≡ true → Gives {V = V} (Err stop) left (a ts) → Gives {V = List V} (Err stop) left goal
roll_err p a shorter vs ts left goal Stop.Here so_far h e = rolls_wrong p a (λ w. many p a) (many p a ts) vs ts left goal (many_is p a shorter ts) so_far h e
roll_err p a shorter vs ts left goal Stop.Memory so_far h e = tt

-- of turns in a state

pub turns_go : {T S V : Type 0} (p : T → Bool) (a : S → List T → Read T V) (next : S → V → S) → ((s : S) → Shortens (a s)) → (s : S) (vs : List V) (ts : List T) (v : V) (rest : List T) (goal : Read T (List V)) → joined vs (turns p a next s ts) ≡ goal → head_is p ts ≡ true → a s ts ≡ Read.Took v rest → joined (vs ++ (v ∷ [])) (turns p a next (next s v) rest) ≡ goal
turns_go p a next shorter s vs ts v rest goal so_far h e = rolls_on p (a s) (λ w. turns p a next (next s w)) (turns p a next s ts) vs ts v rest goal (turns_is p a next shorter s ts) so_far h e

pub turns_end : {T S V : Type 0} (p : T → Bool) (a : S → List T → Read T V) (next : S → V → S) → ((s : S) → Shortens (a s)) → (s : S) (vs : List V) (ts : List T) (goal : Read T (List V)) → joined vs (turns p a next s ts) ≡ goal → head_is p ts ≡ false → goal ≡ Read.Took vs ts
turns_end p a next shorter s vs ts goal so_far h = rolls_out p (a s) (λ w. turns p a next (next s w)) (turns p a next s ts) vs ts goal (turns_is p a next shorter s ts) so_far h

pub turns_err : {S V : Type 0} (p : Symbol → Bool) (a : S → List Symbol → Read Symbol V) (next : S → V → S) → ((s : S) → Shortens (a s)) → (s : S) (vs : List V) (ts left : List Symbol) (goal : Read Symbol (List V)) (stop : Stop) → joined vs (turns p a next s ts) ≡ goal → head_is p ts ≡ true → Gives {V = V} (Err stop) left (a s ts) → Gives {V = List V} (Err stop) left goal
turns_err p a next shorter s vs ts left goal Stop.Here so_far h e = rolls_wrong p (a s) (λ w. turns p a next (next s w)) (turns p a next s ts) vs ts left goal (turns_is p a next shorter s ts) so_far h e
turns_err p a next shorter s vs ts left goal Stop.Memory so_far h e = tt
