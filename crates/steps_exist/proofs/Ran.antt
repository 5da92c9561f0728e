-- Texts and scripts have runs.
use Rattle.std.proofs.Common.{◌≡◌, ◌++◌, ◌∙◌, ℕ, Bool, true, false, List, [], ◌∷◌, refl, sym, ap, subst, append_assoc}
use Rattle.std.specs.Prelude.{◌||◌, Option, is_some}
use Rattle.sql_words.specs.Texts.{statement_texts}
use Rattle.sql_tree.specs.declared.refusal.Refusal.{Refusal}
use Rattle.db_model.specs.Run.{EndsUnless, Passes, Run, RunTexts, Setting, all_dropped}
use Rattle.db_model.specs.Sound.{IsSound}
use Rattle.db_model.specs.State.{State}
use Rattle.db_model.specs.Step.{Step}
use Rattle.step_laws.proofs.Moves.{sound_same, mover_ran}
use Rattle.step_laws.proofs.Runs.{StepsKeepSound}
use Rattle.steps_exist.proofs.Moves.{all_moved, mover_runs}
use Rattle.steps_exist.proofs.Stepped.{step_there}

-- ---- one text, and the steps of the mover behind it

abbrev SomePass : Setting → State → List ℕ → Type 0
SomePass setting old text = (printed : List ℕ) × (refusal : Option Refusal) × (new : State) × Passes setting old text printed refusal new

pass_there : (setting : Setting) (old : State) (text : List ℕ) → IsSound old → SomePass setting old text
pass_there setting old text is =
    let (printed, refusal, answered, step) = step_there setting.serves old setting.files text is.database.names in
    let (new, mover) = mover_runs setting.steps answered in
    (printed, refusal, new, record { answered = answered; step = step; mover = mover })

pass_sound : StepsKeepSound → (setting : Setting) (old : State) (text printed : List ℕ) (refusal : Option Refusal) (new : State) → Passes setting old text printed refusal new → IsSound old → IsSound new
pass_sound keep setting old text printed refusal new passes is =
    mover_ran setting.steps passes.answered new passes.mover (keep setting.serves old passes.answered setting.files text printed refusal passes.step is)

-- ---- texts

abbrev SomeTexts : Setting → State → List (List ℕ) → Type 0
SomeTexts setting old texts = (printed : List ℕ) × (refused : Bool) × (new : State) × RunTexts setting old texts printed refused new

pub texts_there : StepsKeepSound → (setting : Setting) → (old : State) → IsSound old → (texts : List (List ℕ)) → SomeTexts setting old texts
texts_there keep setting old is [] = ([], false, old, (refl, refl, refl))
texts_there keep setting old is (text ∷ more) =
    let (first, why, mid, passes) = pass_there setting old text is in
    let (rest, later, new, ran) = texts_there keep setting mid (pass_sound keep setting old text first why mid passes is) more in
    (first ++ rest, is_some why || later, new, (first, why, mid, rest, later, passes, ran, refl, refl))

texts_sound : StepsKeepSound → (setting : Setting) (old : State) (texts : List (List ℕ)) (printed : List ℕ) (refused : Bool) (new : State) → RunTexts setting old texts printed refused new → IsSound old → IsSound new
texts_sound keep setting old [] printed refused new (none, never, same) is = sound_same old new same is
texts_sound keep setting old (text ∷ more) printed refused new (first, why, mid, rest, later, passes, ran, whole, any) is =
    texts_sound keep setting mid more rest later new ran (pass_sound keep setting old text first why mid passes is)

or_assoc : (a b c : Bool) → ((a || b) || c) ≡ (a || (b || c))
or_assoc true b c = refl
or_assoc false b c = refl

-- texts, and more behind them
texts_join : (setting : Setting) (old : State) (front more : List (List ℕ)) (printed rest : List ℕ) (refused later : Bool) (mid new : State)
    → RunTexts setting old front printed refused mid → RunTexts setting mid more rest later new → RunTexts setting old (front ++ more) (printed ++ rest) (refused || later) new
texts_join setting old [] more printed rest refused later mid new (none, never, same) ran =
    let here : RunTexts setting old more rest later new = subst (λ (s : State). RunTexts setting s more rest later new) same ran in
    subst (λ (p : List ℕ). RunTexts setting old more (p ++ rest) (refused || later) new) (sym none) (subst (λ (b : Bool). RunTexts setting old more rest (b || later) new) (sym never) here)
texts_join setting old (text ∷ front) more printed rest refused later mid new (first, why, here, tail, also, passes, ran, whole, any) behind = (
  first,
  why,
  here,
  tail ++ rest,
  also || later,
  passes,
  texts_join setting here front more tail rest also later mid new ran behind,
  ap (λ (p : List ℕ). p ++ rest) whole ∙ append_assoc first tail rest,
  ap (λ (b : Bool). b || later) any ∙ or_assoc (is_some why) also later,
)

-- ---- scripts

end_there : (halts : Bool) (old : State) → IsSound old → (new : State) × EndsUnless halts old new
end_there true old is = (old, refl)
end_there false old is = let (stopped, new, moves) = all_moved (all_dropped old) is.database.names in (new, (stopped, moves))

abbrev SomeRun : Setting → State → List ℕ → Type 0
SomeRun setting start script = (printed : List ℕ) × (refused : Bool) × (new : State) × Run setting start script printed refused new

pub run_there : StepsKeepSound → (setting : Setting) → (start : State) → IsSound start → (script : List ℕ) → SomeRun setting start script
run_there keep setting start is script =
    let (printed, refused, mid, ran) = texts_there keep setting start is (statement_texts script) in
    let (new, ends) = end_there setting.halts mid (texts_sound keep setting start (statement_texts script) printed refused mid ran is) in
    (printed, refused, new, (mid, ran, ends))

-- texts that ran, and all others of the script behind them
joined_run : StepsKeepSound → (setting : Setting) (start : State) → IsSound start → (script : List ℕ) (front more : List (List ℕ)) (printed rest : List ℕ) (refused later : Bool) (mid last : State) → statement_texts script ≡ front ++ more
    → RunTexts setting start front printed refused mid → RunTexts setting mid more rest later last → (new : State) × Run setting start script (printed ++ rest) (refused || later) new
joined_run keep setting start is script front more printed rest refused later mid last split ran behind =
    let whole : RunTexts setting start (statement_texts script) (printed ++ rest) (refused || later) last =
    subst (λ (texts : List (List ℕ)). RunTexts setting start texts (printed ++ rest) (refused || later) last) (sym split) (texts_join setting start front more printed rest refused later mid last ran behind) in
    let (new, ends) = end_there setting.halts last (texts_sound keep setting start (statement_texts script) (printed ++ rest) (refused || later) last whole is) in
    (new, (last, whole, ends))

pub run_goes_on : StepsKeepSound → (setting : Setting) → (start : State) → IsSound start → (script : List ℕ) (front more : List (List ℕ)) (printed : List ℕ) (refused : Bool) (mid : State)
    → statement_texts script ≡ front ++ more → RunTexts setting start front printed refused mid → (rest : List ℕ) × (later : Bool) × (new : State) × Run setting start script (printed ++ rest) (refused || later) new
run_goes_on keep setting start is script front more printed refused mid split ran =
    let (rest, later, last, behind) = texts_there keep setting mid (texts_sound keep setting start front printed refused mid ran is) more in
    let (new, run) = joined_run keep setting start is script front more printed rest refused later mid last split ran behind in
    (rest, later, new, run)

pub answer_goes_on : StepsKeepSound → (setting : Setting) → (start : State) → IsSound start → (script : List ℕ) (front more : List (List ℕ)) (text printed answer : List ℕ) (refused : Bool) (mid answered : State) (refusal : Option Refusal)
    → statement_texts script ≡ front ++ text ∷ more → RunTexts setting start front printed refused mid → Step setting.serves mid setting.files text answer refusal answered
    → (rest : List ℕ) × (later : Bool) × (new : State) × Run setting start script (printed ++ (answer ++ rest)) (refused || (is_some refusal || later)) new
answer_goes_on keep setting start is script front more text printed answer refused mid answered refusal split ran step =
    let mid_sound : IsSound mid = texts_sound keep setting start front printed refused mid ran is in
    let (next, mover) = mover_runs setting.steps answered in
    let passes : Passes setting mid text answer refusal next = record { answered = answered; step = step; mover = mover } in
    let (rest, later, last, behind) = texts_there keep setting next (pass_sound keep setting mid text answer refusal next passes mid_sound) more in
    let (new, run) =
    joined_run keep setting start is script front (text ∷ more) printed (answer ++ rest) refused (is_some refusal || later) mid last split ran (answer, refusal, next, rest, later, passes, behind, refl, refl) in
    (rest, later, new, run)
