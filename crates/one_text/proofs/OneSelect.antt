-- Two steps of a SELECT over states that are alike.
use Rattle.std.proofs.Common.{◌≡◌, ℕ, ◌≤◌, Bool, true, false, List, refl, sym, ◌∙◌, subst}
use Rattle.std.specs.Prelude.{Option, Some, None}
use Rattle.col_value.specs.declared.value.Value.{Value}
use Rattle.sql_tree.specs.declared.query.At.{At}
use Rattle.sql_tree.specs.declared.query.Query.{Query}
use Rattle.sql_tree.specs.declared.refusal.Refusal.{Refusal}
use Rattle.sql_tree.specs.declared.statement.Statement.{Statement}
use Rattle.sql_bound.specs.declared.query.BoundQuery.{BoundQuery}
use Rattle.sql_binding.specs.Firsts.{first_of}
use Rattle.db_model.specs.Alike.{AreAlikeStates}
use Rattle.db_model.specs.Loading.{Files}
use Rattle.db_model.specs.Refusals.{SumRefuses, query_refusal_in}
use Rattle.db_model.specs.Refusing.{epoch_refusal}
use Rattle.db_model.specs.State.{State}
use Rattle.db_model.specs.Step.{Decides, Effect, RefusesForm}
use Rattle.db_model.specs.Views.{bound_in, inputs}
use Rattle.one_text.specs.OneText.{QueriesHaveOneCause, QueriesHaveOneText, SelectsHaveOneText}
use Rattle.one_text.proofs.OneQuery.{first_none}
use Rattle.one_text.proofs.OneStep.{OneReading, read_once}

form_same : QueriesHaveOneCause → (a b : State) (files : Files) (at : At) (q : Query) (served : Bool) (why also : Option Refusal) → AreAlikeStates a b → a.database.ahm ≤ a.database.last
    → RefusesForm a files (Statement.Select at q) served why → RefusesForm b files (Statement.Select at q) served also → why ≡ also
form_same cause a b files at q true why also alike mark first second = cause a b files at q why also alike mark first second
form_same cause a b files at q false why also alike mark first second = first ∙ sym second

none_before : (before : Option Refusal) (q : BoundQuery) (rows : List (List (List Value))) → SumRefuses before q rows None → before ≡ None
none_before None q rows is = refl
none_before (Some refusal) q rows is = absurd (cc)

-- where a SELECT isn't refused its epoch isn't before the mark
not_refused : (a : State) (files : Files) (at : At) (q : Query) (served : Bool) → RefusesForm a files (Statement.Select at q) served None → epoch_refusal a.database.ahm a.database.last at ≡ None
not_refused a files at q true is =
    first_none (query_refusal_in a q) (epoch_refusal a.database.ahm a.database.last at)
    (none_before (first_of (query_refusal_in a q) (epoch_refusal a.database.ahm a.database.last at)) (bound_in a q) (inputs at a q) is)
not_refused a files at q false is = absurd (cc)

effect_same : QueriesHaveOneText → (serves : Statement → Bool) (a b : State) (files : Files) (at : At) (query : Query) (p q : List ℕ) (why : Option Refusal) (m n : State) → AreAlikeStates a b → a.database.ahm ≤ a.database.last
    → RefusesForm a files (Statement.Select at query) (serves (Statement.Select at query)) why → Effect a files (Some (Statement.Select at query)) why p m → Effect b files (Some (Statement.Select at query)) why q n → p ≡ q
effect_same text serves a b files at query p q (Some refusal) m n alike mark is (first, left) (second, also_left) = first ∙ sym second
effect_same text serves a b files at query p q None m n alike mark is (first, left) (second, also_left) =
    text a b files at query p q alike mark (not_refused a files at query (serves (Statement.Select at query)) is) first second

pub selects_once : OneReading → QueriesHaveOneCause → QueriesHaveOneText → SelectsHaveOneText
selects_once reading cause text serves a b files at query words p q why also m n spelled alike mark first second =
    let s : Statement = Statement.Select at query in
    let here : first.read ≡ Some s = read_once reading words first.read (Some s) first.reads spelled in
    let there : second.read ≡ Some s = read_once reading words second.read (Some s) second.reads spelled in
    let decided : RefusesForm a files s (serves s) why = subst (λ (r : Option Statement). Decides serves a files words r why) here first.decided in
    let decided_too : RefusesForm b files s (serves s) also = subst (λ (r : Option Statement). Decides serves b files words r also) there second.decided in
    let same : why ≡ also = form_same cause a b files at query (serves s) why also alike mark decided decided_too in
    let effect : Effect a files (Some s) also p m = subst (λ (r : Option Refusal). Effect a files (Some s) r p m) same (subst (λ (r : Option Statement). Effect a files r why p m) here first.effect) in
    let effect_too : Effect b files (Some s) also q n = subst (λ (r : Option Statement). Effect b files r also q n) there second.effect in
    (effect_same text serves a b files at query p q also m n alike mark (subst (λ (r : Option Refusal). RefusesForm a files s (serves s) r) same decided) effect effect_too, same)
