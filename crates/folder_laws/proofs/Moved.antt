-- Runs over one folder, each with its own steps of the mover.
use Rattle.std.proofs.Common.{◌∙◌, refl, sym}
use Rattle.std.specs.List.{All}
use Rattle.std.proofs.lemmas.List.Elements.{All-weaker}
use Rattle.common_laws.specs.Maps.{Contents}
use Rattle.sql_words.specs.Texts.{statement_texts}
use Rattle.db_model.specs.Run.{Setting}
use Rattle.db_model.specs.State.{State}
use Rattle.one_text.specs.Lasting.{NumbersLast}
use Rattle.one_text.specs.Movers.{IsSameButMoved, MoversHaveOneText, with_steps}
use Rattle.one_text.specs.OneText.{AsksForJobs}
use Rattle.one_text.specs.Scripts.{AsksNoMover}
use Rattle.alike_steps.specs.Runs.{AlikeRunsPrintAlike, AreAlikeStarts}
use Rattle.steps_exist.specs.Exist.{EveryScriptHasARun}
use Rattle.folder_laws.specs.OneText.{FoldersHaveOneText, IsOpening}

abbrev BeginAlike : Type 0
BeginAlike = (m : Contents) (start begin : State) → IsOpening m start → IsOpening m begin → AreAlikeStarts start begin

itself : (a : State) → IsSameButMoved a a
itself a = record { database = refl; sessions = refl; current = refl }

-- by a run of each without steps of the mover
pub folders_once : BeginAlike → AlikeRunsPrintAlike → MoversHaveOneText → NumbersLast → EveryScriptHasARun → FoldersHaveOneText
folders_once alike runs movers last exists m setting steps start begin script printed other refused also new left one two many more short quiet blind numbers ran again =
    let still : Setting = with_steps 0 setting in
    let none : All (λ text. AsksForJobs text → ⊥) (statement_texts script) = All-weaker AsksNoMover (λ text. AsksForJobs text → ⊥) (λ text is. is.no_jobs) (statement_texts script) quiet in
    let starts : AreAlikeStarts start begin = alike m start begin one two in
    let back : AreAlikeStarts begin start = alike m begin start two one in
    let (p, r, x, first) = exists still start script starts.sound in
    let (q, s, y, second) = exists still begin script back.sound in
    let left_x = last still start script p r x refl short many first in
    let left_y = last still begin script q s y refl short more second in
    let here = movers setting 0 start start script printed p refused r new x blind none (itself start) ran first numbers.one left_x in
    let there = movers (with_steps steps setting) 0 begin begin script other q also s left y blind none (itself begin) again second numbers.other left_y in
    let both = runs still start begin script p q r s x y refl quiet starts (record { one = left_x; other = left_y }) first second in
    (here.0 ∙ both.0 ∙ sym there.0, here.1 ∙ both.1 ∙ sym there.1)
