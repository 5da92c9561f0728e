use Rattle.std.proofs.Common.{◌≡◌, ◌∙◌, false, refl, sym, true}
use Rattle.std.proofs.lemmas.Result.{IfOk-weaker}
use Rattle.query_laws.specs.Scopes.{is_shown}
use Rattle.query_run.proofs.Bars.{row_behind}
use Rattle.query_run.proofs.Scopes.{shown_none, shown_one}
use Rattle.query_run.specs.Outputs.{items_in, scope_of}
use Rattle.query_run.proofs.output.add_shown.Goals as goal

pub returns-then-not-is_shown-clause-enough : goal.returns-then-not-is_shown-clause-enough
returns-then-not-is_shown-clause-enough c =
    let q = c.args.query.now in
    let s = scope_of c.args.keys.now c.args.aggs.now in
    let hidden : is_shown q s ≡ false = sym c.is_shown.ensures ∙ c.if-not-is_shown.true in
    shown_none q s c.args.out.now.items hidden

pub returns-then-is_group_barred-clause-enough : goal.returns-then-is_group_barred-clause-enough
returns-then-is_group_barred-clause-enough c =
    let q = c.args.query.now in
    let s = scope_of c.args.keys.now c.args.aggs.now in
    let shows : is_shown q s ≡ true = sym c.is_shown.ensures ∙ c.if-not-is_shown.false in
    let behind = row_behind q (items_in q s) c.args.out.now.items c.args.bar.now c.requires.few c.requires.bar (c.is_group_barred.ensures c.if-is_group_barred.true) in
    shown_one q s (items_in q s) c.args.out.now.items c.args.out.now.items c.args.bar.now c.args.bar.now shows refl behind

pub returns-clause-enough : goal.returns-clause-enough
returns-clause-enough c =
    let q = c.args.query.now in
    let s = scope_of c.args.keys.now c.args.aggs.now in
    let shows : is_shown q s ≡ true = sym c.is_shown.ensures ∙ c.if-not-is_shown.false in
    IfOk-weaker c.add_made.result _ _ (λ done added. shown_one q s c.in_ok-row.row c.args.out.now.items c.add_made.new.rows.items c.args.bar.now c.add_made.new.bar shows c.in_ok-row.ensures added) c.add_made.ensures

pub returns-clause-few : goal.returns-clause-few
returns-clause-few c = IfOk-weaker c.add_made.result _ _ (λ done added. added.few) c.add_made.ensures

pub returns-clause-bar : goal.returns-clause-bar
returns-clause-bar c = IfOk-weaker c.add_made.result _ _ (λ done added. added.barred c.requires.bar) c.add_made.ensures
