-- Runs over alike states.
use Rattle.std.proofs.Common.{◌≡◌, ℕ, ◌≤◌, ◌++◌, ◌||◌, Bool, true, false, List, [], ◌∷◌, map, refl, sym, ap, ◌∙◌, arith, subst}
use Rattle.std.specs.Prelude.{Option, Some, None, is_some}
use Rattle.std.specs.List.{All}
use Rattle.std.proofs.lemmas.List.Elements.{All-head, All-tail}
use Rattle.sql_words.specs.Texts.{statement_texts}
use Rattle.sql_tree.specs.declared.refusal.Refusal.{Refusal}
use Rattle.sql_tree.specs.declared.statement.Statement.{Statement}
use Rattle.db_model.specs.Alike.{AreAlikeStates}
use Rattle.db_model.specs.Loading.{Files}
use Rattle.db_model.specs.Mover.{MoverRuns}
use Rattle.db_model.specs.Numbers.{are_spent}
use Rattle.db_model.specs.Run.{EndsUnless, Passes, RunTexts, Setting, all_dropped}
use Rattle.db_model.specs.Sound.{IsSound}
use Rattle.db_model.specs.State.{State}
use Rattle.db_model.specs.Step.{Step}
use Rattle.alike_laws.proofs.Changes.{none_alike, sessions_themselves}
use Rattle.alike_laws.specs.Reordered.{AreAlikeSessions}
use Rattle.one_text.specs.Scripts.{AsksNoMover}
use Rattle.one_text.proofs.Numbered.{left_before, step_grows}
use Rattle.alike_steps.specs.Runs.{AlikeRunsGoThrough, AlikeRunsPrintAlike, AlikeTextsGoThrough, AlikeTextsRunAlike, AreAlikeStarts, HaveNumbersLeft}
use Rattle.alike_steps.specs.Steps.{AlikeStatesStepAlike, IsDetermined, UnrefusedStepsAlike}
use Rattle.alike_steps.proofs.Moved.{all_alike, left_goes}
use Rattle.alike_steps.proofs.Shaped.{left_alike}

-- a step leaves a sound state sound
abbrev pub StepsKeepSound : Type 0
StepsKeepSound = (serves : Statement → Bool) (old new : State) (files : Files) (text printed : List ℕ) (why : Option Refusal) → Step serves old files text printed why new → IsSound old → IsSound new

-- without steps of the mover a statement text passes into what its step leaves
passed : (setting : Setting) (a : State) (text printed : List ℕ) (why : Option Refusal) (x : State) → setting.steps ≡ 0 → Passes setting a text printed why x → Step setting.serves a setting.files text printed why x
passed setting a text printed why x none passes =
    let still : x ≡ passes.answered = subst (λ (n : ℕ). MoverRuns n passes.answered x) none passes.mover in
    subst (λ (s : State). Step setting.serves a setting.files text printed why s) (sym still) passes.step

texts_grow : (setting : Setting) (texts : List (List ℕ)) (a : State) (printed : List ℕ) (refused : Bool) (x : State) → setting.steps ≡ 0 → All AsksNoMover texts → RunTexts setting a texts printed refused x → a.next ≤ x.next
texts_grow setting [] a printed refused x none quiet (p_is, r_is, is) = let at : x.next ≡ a.next = ap (λ (s : State). s.next) is in omega (arith, at)
texts_grow setting (text ∷ more) a printed refused x none quiet (first, why, mid, rest, later, passes, ran, p_is, r_is) =
    let here = step_grows setting.serves a setting.files text first why mid (All-head AsksNoMover text more quiet) (passed setting a text first why mid none passes) in
    let behind = texts_grow setting more mid rest later x none (All-tail AsksNoMover text more quiet) ran in
    omega (arith, here, behind)

pub texts_alike : AlikeStatesStepAlike → StepsKeepSound → AlikeTextsRunAlike
texts_alike steps keep setting a b [] p q r s x y none quiet starts left (p_is, r_is, x_is) (q_is, s_is, y_is) = (p_is ∙ sym q_is, r_is ∙ sym s_is, left_alike a b x y x_is y_is starts.alike)
texts_alike steps keep setting a b (text ∷ more) p q r s x y none quiet starts left (first, why, mid, rest, later, passes, ran, p_is, r_is) (first', why', mid', rest', later', passes', ran', q_is, s_is) =
    let here = All-head AsksNoMover text more quiet in
    let others : All AsksNoMover more = All-tail AsksNoMover text more quiet in
    let step = passed setting a text first why mid none passes in
    let step' = passed setting b text first' why' mid' none passes' in
    let left_mid : are_spent mid ≡ false = left_before mid.next x.next (texts_grow setting more mid rest later x none others ran) left.one in
    let left_mid' : are_spent mid' ≡ false = left_before mid'.next y.next (texts_grow setting more mid' rest' later' y none others ran') left.other in
    let left_a : are_spent a ≡ false = left_before a.next mid.next (step_grows setting.serves a setting.files text first why mid here step) left_mid in
    let left_b : are_spent b ≡ false = left_before b.next mid'.next (step_grows setting.serves b setting.files text first' why' mid' here step') left_mid' in
    let both = steps setting.serves a b setting.files text first first' why why' mid mid' starts.alike starts.sound here (left_a ∙ sym left_b) step step' in
    let next : AreAlikeStarts mid mid' = record {
      alike = both.2;
      sound = keep setting.serves a mid setting.files text first why step starts.sound;
    } in
    let behind = texts_alike steps keep setting mid mid' more rest rest' later later' x y none others next left ran ran' in
    let texts : first ++ rest ≡ first' ++ rest' = ap (λ (t : List ℕ). t ++ rest) both.0 ∙ ap (λ (t : List ℕ). first' ++ t) behind.0 in
    let flags : (is_some why || later) ≡ (is_some why' || later') = ap (λ (t : Option Refusal). is_some t || later) both.1 ∙ ap (λ (t : Bool). is_some why' || t) behind.1 in
    (p_is ∙ texts ∙ sym q_is, r_is ∙ flags ∙ sym s_is, behind.2)

-- ---- runs in which nothing is refused

neither : (o : Option Refusal) (later : Bool) → false ≡ (is_some o || later) → (o ≡ None) × (later ≡ false)
neither None later is = (refl, sym is)
neither (Some refusal) later is = absurd (cc)

pub texts_through : UnrefusedStepsAlike → StepsKeepSound → AlikeTextsGoThrough
texts_through steps keep setting a b [] p q x y none determined starts (p_is, r_is, x_is) (q_is, s_is, y_is) = (p_is ∙ sym q_is, left_alike a b x y x_is y_is starts.alike)
texts_through steps keep setting a b (text ∷ more) p q x y none determined starts (first, why, mid, rest, later, passes, ran, p_is, r_is) (first', why', mid', rest', later', passes', ran', q_is, s_is) =
    let here = neither why later r_is in
    let there = neither why' later' s_is in
    let step = passed setting a text first None mid none (subst (λ (o : Option Refusal). Passes setting a text first o mid) here.0 passes) in
    let step' = passed setting b text first' None mid' none (subst (λ (o : Option Refusal). Passes setting b text first' o mid') there.0 passes') in
    let both = steps setting.serves a b setting.files text first first' mid mid' starts.alike starts.sound (All-head IsDetermined text more determined) step step' in
    let next : AreAlikeStarts mid mid' = record {
      alike = both.1;
      sound = keep setting.serves a mid setting.files text first None step starts.sound;
    } in
    let behind =
    texts_through steps keep setting mid mid' more rest rest' x y none (All-tail IsDetermined text more determined) next (subst (λ (l : Bool). RunTexts setting mid more rest l x) here.1 ran)
    (subst (λ (l : Bool). RunTexts setting mid' more rest' l y) there.1 ran') in
    (p_is ∙ ap (λ (t : List ℕ). t ++ rest) both.0 ∙ ap (λ (t : List ℕ). first' ++ t) behind.0 ∙ sym q_is, behind.1)

-- ---- the end

all_dropped_alike : (a b : State) → AreAlikeStates a b → AreAlikeStates (all_dropped a) (all_dropped b)
all_dropped_alike a b alike = record {
  database = alike.database;
  sessions = subst (AreAlikeSessions (map (λ changes. []) a.sessions)) (none_alike a.sessions b.sessions alike.sessions) (sessions_themselves (map (λ changes. []) a.sessions));
  current = alike.current;
  asked = alike.asked;
}

ends_grow : (halts : Bool) (a x : State) → EndsUnless halts a x → a.next ≤ x.next
ends_grow true a x is = let at : x.next ≡ a.next = ap (λ (s : State). s.next) is in omega (arith, at)
ends_grow false a x (stopped, moves) = moves.drawn.from

ends_alike : (halts : Bool) (a b x y : State) → AreAlikeStates a b → HaveNumbersLeft x y → EndsUnless halts a x → EndsUnless halts b y → AreAlikeStates x y
ends_alike true a b x y alike left x_is y_is = left_alike a b x y x_is y_is alike
ends_alike false a b x y alike left (stopped, first) (halted, second) =
    all_alike (all_dropped a) (all_dropped b) x y (all_dropped_alike a b alike) (left_goes (all_dropped a) x stopped left.one first) (left_goes (all_dropped b) y halted left.other second)

pub runs_alike : AlikeTextsRunAlike → AlikeRunsPrintAlike
runs_alike law setting start begin script printed other refused also new left none quiet starts numbers (mid, ran, ends) (mid', ran', ends') =
    let left_mid : HaveNumbersLeft mid mid' = record {
      one = left_before mid.next new.next (ends_grow setting.halts mid new ends) numbers.one;
      other = left_before mid'.next left.next (ends_grow setting.halts mid' left ends') numbers.other;
    } in
    let both = law setting start begin (statement_texts script) printed other refused also mid mid' none quiet starts left_mid ran ran' in
    (both.0, both.1, ends_alike setting.halts mid mid' new left both.2 numbers ends ends')

pub runs_through : AlikeTextsGoThrough → AlikeRunsGoThrough
runs_through law setting start begin script printed other new left none determined starts (mid, ran, ends) (mid', ran', ends') =
    let both = law setting start begin (statement_texts script) printed other mid mid' none determined starts ran ran' in
    (both.0, λ numbers. ends_alike setting.halts mid mid' new left both.1 numbers ends ends')
