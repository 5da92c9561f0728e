-- Two runs of one script over states that are the same but for the numbers of the storage.
use Rattle.std.proofs.Common.{◌≡◌, ℕ, zero, suc, ◌≤◌, ◌++◌, ◌||◌, Bool, true, false, List, [], ◌∷◌, length, sym, ap, ◌∙◌, arith, subst, inl, inr}
use Rattle.std.specs.Prelude.{Option, Some, None, is_some}
use Rattle.std.specs.List.{All}
use Rattle.std.proofs.lemmas.List.Elements.{All-head, All-tail}
use Rattle.sql_words.specs.Texts.{statement_texts}
use Rattle.sql_tree.specs.declared.refusal.Refusal.{Refusal}
use Rattle.db_model.specs.Database.{Database, Shape}
use Rattle.db_model.specs.Mover.{MoverRuns, MovesFirst, MovesOut, behind, first_behind, given_up, reached_to, with_change}
use Rattle.db_model.specs.Numbers.{are_spent}
use Rattle.db_model.specs.Run.{EndsUnless, Passes, RunTexts, Setting, all_dropped}
use Rattle.db_model.specs.State.{State}
use Rattle.db_model.specs.Step.{Step}
use Rattle.one_text.specs.Scripts.{AsksNoMover, IsSameButNumbers, ScriptsHaveOneText}
use Rattle.one_text.proofs.Numbered.{left_before, same_states, same_step, step_grows}
use Rattle.one_text.proofs.OneStep.{OneList, OneReading}

-- without steps of the mover a statement text passes into what its step leaves
pub passed : (setting : Setting) (a : State) (text printed : List ℕ) (why : Option Refusal) (x : State) → setting.steps ≡ 0 → Passes setting a text printed why x → Step setting.serves a setting.files text printed why x
passed setting a text printed why x none passes =
    let still : x ≡ passes.answered = subst (λ (n : ℕ). MoverRuns n passes.answered x) none passes.mover in
    subst (λ (s : State). Step setting.serves a setting.files text printed why s) (sym still) passes.step

texts_grow : (setting : Setting) (texts : List (List ℕ)) (a : State) (printed : List ℕ) (refused : Bool) (x : State) → setting.steps ≡ 0 → All AsksNoMover texts → RunTexts setting a texts printed refused x → a.next ≤ x.next
texts_grow setting [] a printed refused x none quiet (p_is, r_is, is) = let at : x.next ≡ a.next = ap (λ (s : State). s.next) is in omega (arith, at)
texts_grow setting (text ∷ more) a printed refused x none quiet (first, why, mid, rest, later, passes, ran, p_is, r_is) =
    let here = step_grows setting.serves a setting.files text first why mid (All-head AsksNoMover text more quiet) (passed setting a text first why mid none passes) in
    let behind = texts_grow setting more mid rest later x none (All-tail AsksNoMover text more quiet) ran in
    omega (arith, here, behind)

texts_same : OneReading → OneList → (setting : Setting) (texts : List (List ℕ)) (a b : State) (p q : List ℕ) (r s : Bool) (x y : State) → setting.steps ≡ 0 → All AsksNoMover texts → IsSameButNumbers a b
    → are_spent x ≡ false → are_spent y ≡ false → RunTexts setting a texts p r x → RunTexts setting b texts q s y → (p ≡ q) × (r ≡ s) × IsSameButNumbers x y
texts_same reading list setting [] a b p q r s x y none quiet same left_x left_y (p_is, r_is, x_is) (q_is, s_is, y_is) = (p_is ∙ sym q_is, r_is ∙ sym s_is, same_states a b x y x_is y_is same)
texts_same reading list setting (text ∷ more) a b p q r s x y none quiet same left_x left_y (first, why, mid, rest, later, passes, ran, p_is, r_is) (first', why', mid', rest', later', passes', ran', q_is, s_is) =
    let others : All AsksNoMover more = All-tail AsksNoMover text more quiet in
    let left_mid : are_spent mid ≡ false = left_before mid.next x.next (texts_grow setting more mid rest later x none others ran) left_x in
    let left_mid' : are_spent mid' ≡ false = left_before mid'.next y.next (texts_grow setting more mid' rest' later' y none others ran') left_y in
    let here =
    same_step reading list setting.serves a b setting.files text first first' why why' mid mid' (All-head AsksNoMover text more quiet) same left_mid left_mid'
    (passed setting a text first why mid none passes) (passed setting b text first' why' mid' none passes') in
    let behind = texts_same reading list setting more mid mid' rest rest' later later' x y none others here.2 left_x left_y ran ran' in
    let texts : first ++ rest ≡ first' ++ rest' = ap (λ (t : List ℕ). t ++ rest) here.0 ∙ ap (λ (t : List ℕ). first' ++ t) behind.0 in
    let flags : (is_some why || later) ≡ (is_some why' || later') = ap (λ (t : Option Refusal). is_some t || later) here.1 ∙ ap (λ (t : Bool). is_some why' || t) behind.1 in
    (p_is ∙ texts ∙ sym q_is, r_is ∙ flags ∙ sym s_is, behind.2)

-- ---- the end

first_same : (o : Option Shape) (a b x y : State) → a.database ≡ b.database → MovesFirst o a x → MovesFirst o b y → x.database ≡ y.database
first_same None a b x y same first second = absurd first
first_same (Some s) a b x y same first second =
    ap (λ (z : State). z.database) first.same ∙ ap (λ (d : Database). with_change s.name (reached_to d.last) d) same ∙ sym (ap (λ (z : State). z.database) second.same)

moves_same : (n : ℕ) (a b : State) (stopped halted : Bool) (x y : State) → a.database ≡ b.database → are_spent x ≡ false → are_spent y ≡ false → MovesOut n a stopped x → MovesOut n b halted y → x.database ≡ y.database
moves_same zero a b stopped halted x y same left_x left_y (s_is, x_is) (h_is, y_is) = ap (λ (z : State). z.database) x_is ∙ same ∙ sym (ap (λ (z : State). z.database) y_is)
moves_same (suc n) a b stopped halted x y same left_x left_y (inl (spent, s_is, x_is)) second =
    let never : true ≡ false = sym spent ∙ sym (ap (λ (z : State). are_spent z) x_is) ∙ left_x in
    absurd (cc)
moves_same (suc n) a b stopped halted x y same left_x left_y (inr first) (inl (spent, h_is, y_is)) =
    let never : true ≡ false = sym spent ∙ sym (ap (λ (z : State). are_spent z) y_is) ∙ left_y in
    absurd (cc)
moves_same (suc n) a b stopped halted x y same left_x left_y (inr (has, mid, first, more)) (inr (also, other, second, later)) =
    let moved : mid.database ≡ other.database =
    first_same (first_behind b.database) a b mid other same (subst (λ (d : Database). MovesFirst (first_behind d) a mid) same first) second in
    moves_same n mid other stopped halted x y moved left_x left_y more later

pub ends_grow : (halts : Bool) (a x : State) → EndsUnless halts a x → a.next ≤ x.next
ends_grow true a x is = let at : x.next ≡ a.next = ap (λ (s : State). s.next) is in omega (arith, at)
ends_grow false a x (stopped, moves) = moves.drawn.from

ends_same : (halts : Bool) (a b x y : State) → a.database ≡ b.database → are_spent x ≡ false → are_spent y ≡ false → EndsUnless halts a x → EndsUnless halts b y → x.database ≡ y.database
ends_same true a b x y same left_x left_y x_is y_is = ap (λ (z : State). z.database) x_is ∙ same ∙ sym (ap (λ (z : State). z.database) y_is)
ends_same false a b x y same left_x left_y (stopped, first) (halted, second) =
    moves_same (length (behind b.database)) (given_up (all_dropped a)) (given_up (all_dropped b)) stopped halted x y same left_x left_y
    (subst (λ (d : Database). MovesOut (length (behind d)) (given_up (all_dropped a)) stopped x) same first.jobs) second.jobs

pub scripts_once : OneReading → OneList → ScriptsHaveOneText
scripts_once reading list setting start begin script printed other refused also new left none quiet same (mid, ran, ends) (mid', ran', ends') left_new left_left =
    let left_mid : are_spent mid ≡ false = left_before mid.next new.next (ends_grow setting.halts mid new ends) left_new in
    let left_mid' : are_spent mid' ≡ false = left_before mid'.next left.next (ends_grow setting.halts mid' left ends') left_left in
    let both = texts_same reading list setting (statement_texts script) start begin printed other refused also mid mid' none quiet same left_mid left_mid' ran ran' in
    (both.0, both.1, ends_same setting.halts mid mid' new left both.2.database left_new left_left ends ends')
