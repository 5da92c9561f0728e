-- Statement texts that run one after the other, and what is taken of their text.
use Rattle.std.proofs.Common.{ℕ, ◌+◌, ◌<◌, ◌≡◌, ◌∙◌, ◌||◌, ◌++◌, Bool, true, false, List, [], ◌∷◌, take, drop, map, length, get_or, sym, ap, subst, refl, append_assoc}
use Rattle.std.specs.Prelude.{Option, is_some}
use Rattle.std.proofs.Math.Bool.{or_assoc}
use Rattle.std.proofs.lemmas.List.{append-nil, take_more, drop_more, get_or-map, length-map}
use Rattle.common_laws.specs.Told.{Appends}
use Rattle.common_laws.proofs.Telling.{appends_nothing, appends_join}
use Rattle.col_disk.specs.declared.disk.Disk.{Ghosts}
use Rattle.sql_tree.specs.declared.refusal.Refusal.{Refusal}
use Rattle.db_model.specs.State.{State}
use Rattle.db_model.specs.Loading.{Files}
use Rattle.db_model.specs.Mover.{MoverRuns}
use Rattle.db_model.specs.Run.{Setting, Passes, RunTexts}
use Rattle.vert_cli.specs.declared.faults.RunFault.{RunFault}
use Rattle.vert_cli.specs.Statements.{Answered}
use Rattle.vert_cli.specs.Statuses.{status_of}
use Rattle.vert_cli.specs.Runs.{StopsInNext, StopsInText, RanAndStopped, setting_of}

-- all of these texts ran, and the sink took exactly their text
pub record RanWhole (setting : Setting) (old : State) (texts : List (List ℕ)) (refused : Bool) (new : State) (before after : Option (List ℕ)) : Type 0 where
  pub printed : List ℕ
  pub ran : RunTexts setting old texts printed refused new
  pub taken : Appends before after printed

or_false : (b : Bool) → b ≡ (b || false)
or_false true = refl
or_false false = refl

-- texts that ran, and behind them others
run_join : (setting : Setting) (xs ys : List (List ℕ)) (old mid new : State) (p q : List ℕ) (r s : Bool)
    → RunTexts setting old xs p r mid → RunTexts setting mid ys q s new → RunTexts setting old (xs ++ ys) (p ++ q) (r || s) new
run_join setting [] ys old mid new p q r s (nothing, none, same) second =
    subst (λ (text : List ℕ). RunTexts setting old ys (text ++ q) (r || s) new) (sym nothing)
    (subst (λ (refused : Bool). RunTexts setting old ys q (refused || s) new) (sym none)
    (subst (λ (state : State). RunTexts setting state ys q s new) same second))
run_join setting (text ∷ more) ys old mid new p q r s (first, why, between, rest, later, passes, ran, text_is, refused_is) second = (
  first,
  why,
  between,
  rest ++ q,
  later || s,
  passes,
  run_join setting more ys between mid new rest q later s ran second,
  ap (λ (printed : List ℕ). printed ++ q) text_is ∙ append_assoc first rest q,
  ap (λ (refused : Bool). refused || s) refused_is ∙ or_assoc (is_some why) later s,
)

-- one text that ran
run_one : (setting : Setting) (old new : State) (text printed : List ℕ) (why : Option Refusal) → Passes setting old text printed why new → RunTexts setting old (text ∷ []) printed (is_some why) new
run_one setting old new text printed why passes =
    (printed, why, new, [], false, passes, (refl, refl, refl), sym (append-nil printed), or_false (is_some why))

-- no text ran yet
pub whole_none : (setting : Setting) (start : State) (told : Option (List ℕ)) → RanWhole setting start [] false start told told
whole_none setting start told = record { printed = []; ran = (refl, refl, refl); taken = appends_nothing told }

-- texts that ran, and one text behind them
whole_more : (setting : Setting) (old mid new : State) (texts : List (List ℕ)) (text printed : List ℕ) (refused : Bool) (why : Option Refusal) (before between after : Option (List ℕ))
    → RanWhole setting old texts refused mid before between → Passes setting mid text printed why new → Appends between after printed
    → RanWhole setting old (texts ++ text ∷ []) (refused || is_some why) new before after
whole_more setting old mid new texts text printed refused why before between after whole passes taken = record {
  printed = whole.printed ++ printed;
  ran = run_join setting texts (text ∷ []) old mid new whole.printed printed refused (is_some why) whole.ran (run_one setting mid new text printed why passes);
  taken = appends_join before between after whole.printed printed whole.taken taken;
}

below_map : {X : Type 0} (f : X → List ℕ) (xs : List X) (i : ℕ) → i < length xs → i < length (map f xs)
below_map f xs i below = subst (λ (n : ℕ). i < n) (sym (length-map xs f)) below

-- of the texts of some spans the next one ran
pub whole_next : {X : Type 0} (f : X → List ℕ) (spans : List X) (i : ℕ) (d : X) (setting : Setting) (old mid new : State) (refused told was : Bool) (why : Option Refusal) (printed : List ℕ) (before between after : Option (List ℕ))
    → i < length spans → told ≡ (refused || was) → was ≡ is_some why → RanWhole setting old (take i (map f spans)) refused mid before between
    → Passes setting mid (f (get_or spans i d)) printed why new → Appends between after printed
    → RanWhole setting old (take (i + 1) (map f spans)) told new before after
whole_next f spans i d setting old mid new refused told was why printed before between after below told_is was_is whole passes taken =
    let next_is = take_more (map f spans) i (f d) (below_map f spans i below)
    ∙ ap (λ (text : List ℕ). take i (map f spans) ++ text ∷ []) (get_or-map f spans i d (f d) below) in
    subst (λ (b : Bool). RanWhole setting old (take (i + 1) (map f spans)) b new before after) (sym (told_is ∙ ap (λ (b : Bool). refused || b) was_is))
    (subst (λ (texts : List (List ℕ)). RanWhole setting old texts (refused || is_some why) new before after) (sym next_is)
    (whole_more setting old mid new (take i (map f spans)) (f (get_or spans i d)) printed refused why before between after whole passes taken))

-- the texts that are still to come
pub rest_is : {X : Type 0} (f : X → List ℕ) (spans : List X) (i : ℕ) (d : X) → i < length spans → drop i (map f spans) ≡ f (get_or spans i d) ∷ drop (i + 1) (map f spans)
rest_is f spans i d below = drop_more (map f spans) i (f d) (below_map f spans i below) ∙ ap (λ (text : List ℕ). text ∷ drop (i + 1) (map f spans)) (get_or-map f spans i d (f d) below)

in_more : {D : Type 0} (disk : Ghosts D) (setting : Setting) (mid : State) (text : List ℕ) (more : List (List ℕ)) (now : D) (before after : Option (List ℕ)) (fault : RunFault)
    → StopsInText disk setting mid text now before after fault → StopsInNext disk setting mid (text ∷ more) now before after fault
in_more disk setting mid text more now before after fault stops = stops

-- of the texts of some spans the next one stopped
pub stopped_next : {D : Type 0} (disk : Ghosts D) {X : Type 0} (f : X → List ℕ) (spans : List X) (i : ℕ) (d : X) (setting : Setting) (old mid : State) (refused : Bool) (now : D) (before between after : Option (List ℕ)) (fault : RunFault)
    → i < length spans → RanWhole setting old (take i (map f spans)) refused mid before between → StopsInText disk setting mid (f (get_or spans i d)) now between after fault
    → RanAndStopped (status_of fault) disk setting old (map f spans) now before after
stopped_next disk f spans i d setting old mid refused now before between after fault below whole stops = record {
  fault = fault;
  status_is = refl;
  count = i;
  printed = whole.printed;
  refused = refused;
  mid = mid;
  between = between;
  ran = whole.ran;
  taken = whole.taken;
  stops = subst (λ (texts : List (List ℕ)). StopsInNext disk setting mid texts now between after fault) (sym (rest_is f spans i d below))
      (in_more disk setting mid (f (get_or spans i d)) (drop (i + 1) (map f spans)) now between after fault stops);
}

-- a text and the mover's steps behind it
pub passes_of : (files : Files) (steps : ℕ) (halts : Bool) (old answered new : State) (text : List ℕ) (why : Option Refusal) (before after : Option (List ℕ))
    → (is : Answered files old text why answered before after) → MoverRuns steps answered new → Passes (setting_of files steps halts) old text is.printed why new
passes_of files steps halts old answered new text why before after is runs = record { answered = answered; step = is.step; mover = runs }
