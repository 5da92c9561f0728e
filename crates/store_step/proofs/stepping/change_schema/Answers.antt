use Rattle.std.proofs.Common.{◌≡◌, ℕ, List, rules, subst, sym}
use Rattle.sql_tree.specs.declared.statement.Statement.{Statement}
use Rattle.std.specs.Prelude.{None}
use Rattle.db_model.specs.Refusals.{table_dropped_refusal}
use Rattle.statement_plan.specs.Planned.{IsPlanned}
use Rattle.statement_plan.specs.declared.plans.Plan.{Plan}
use Rattle.store_step.proofs.Answered.{same_answers}
use Rattle.store_step.proofs.Works.{no_work}
use Rattle.store_step.proofs.stepping.change_schema.Goals as goal

pub returns-in-CreateTable-default-clause-answers : goal.returns-in-CreateTable-default-clause-answers
returns-in-CreateTable-default-clause-answers g c = λ files state here.
    let s = Statement.CreateTable c.in-CreateTable-default.name c.in-CreateTable-default.columns in
    let is : c.args.statement ≡ s = search rules in
    let all = c.frames_are_of_the_state.ensures.plan c.args.disk.now c.args.store.now state c.args.statement c.args.plan here c.requires.planned in
    let planned : IsPlanned state s c.args.plan = rw c.in-CreateTable-default.is-0 at all in
    same_answers g.D.Disk files c.args.statement s c.create_table.new.store c.create_table.result state is (c.create_table.ensures.answers files state here planned.accepted)

pub returns-in-DropTable-DropTable-clause-answers : goal.returns-in-DropTable-DropTable-clause-answers
returns-in-DropTable-DropTable-clause-answers g c = λ files state here.
    let s = Statement.DropTable c.as_slice.result.now in
    let is : c.args.statement ≡ s = search rules in
    let all = c.frames_are_of_the_state.ensures.plan c.args.disk.now c.args.store.now state c.args.statement c.args.plan here c.requires.planned in
    let planned : IsPlanned state (Statement.DropTable c.in-DropTable-DropTable.name) (Plan.DropTable c.in-DropTable-DropTable.place) = rw (c.in-DropTable-DropTable.is-0, c.in-DropTable-DropTable.is-1) at all in
    same_answers g.D.Disk files c.args.statement s c.drop_table.new.store c.drop_table.result state is (c.drop_table.ensures.answers files state here (subst (λ (n : List ℕ). table_dropped_refusal state n ≡ None) (sym c.as_slice.ensures) planned.accepted))

pub returns-in-CreateProjection-CreateProjection-clause-answers : goal.returns-in-CreateProjection-CreateProjection-clause-answers
returns-in-CreateProjection-CreateProjection-clause-answers g c = λ files state here.
    let s = Statement.CreateProjection c.in-CreateProjection-CreateProjection.projection in
    let is : c.args.statement ≡ s = search rules in
    same_answers g.D.Disk files c.args.statement s c.create_projection.new.store c.create_projection.result state is (c.create_projection.ensures.answers files state here)

pub returns-in-DropProjection-DropProjection-clause-answers : goal.returns-in-DropProjection-DropProjection-clause-answers
returns-in-DropProjection-DropProjection-clause-answers g c = λ files state here.
    let s = Statement.DropProjection c.as_slice-in-DropProjection-DropProjection.result.now in
    let is : c.args.statement ≡ s = search rules in
    same_answers g.D.Disk files c.args.statement s c.drop_projection.new.store c.drop_projection.result state is (c.drop_projection.ensures.answers files state here)

pub returns-in-AddColumn-AddColumn-clause-answers : goal.returns-in-AddColumn-AddColumn-clause-answers
returns-in-AddColumn-AddColumn-clause-answers g c = λ files state here.
    let s = Statement.AddColumn c.in-AddColumn-AddColumn.add in
    let is : c.args.statement ≡ s = search rules in
    same_answers g.D.Disk files c.args.statement s c.add_column.new.store c.add_column.result state is (c.add_column.ensures.answers files state here)

pub returns-in-CreateTable-default-clause-works : goal.returns-in-CreateTable-default-clause-works
returns-in-CreateTable-default-clause-works g c = no_work g.D.Disk c.args.store.now c.create_table.new.store c.args.disk.now c.args.statement (Statement.CreateTable c.in-CreateTable-default.name c.in-CreateTable-default.columns) c.create_table.result c.in-CreateTable-default.is-0 tt

pub returns-in-DropTable-DropTable-clause-works : goal.returns-in-DropTable-DropTable-clause-works
returns-in-DropTable-DropTable-clause-works g c = no_work g.D.Disk c.args.store.now c.drop_table.new.store c.args.disk.now c.args.statement (Statement.DropTable c.in-DropTable-DropTable.name) c.drop_table.result c.in-DropTable-DropTable.is-0 tt

pub returns-in-CreateProjection-CreateProjection-clause-works : goal.returns-in-CreateProjection-CreateProjection-clause-works
returns-in-CreateProjection-CreateProjection-clause-works g c = no_work g.D.Disk c.args.store.now c.create_projection.new.store c.args.disk.now c.args.statement (Statement.CreateProjection c.in-CreateProjection-CreateProjection.projection) c.create_projection.result c.in-CreateProjection-CreateProjection.is-0 tt

pub returns-in-DropProjection-DropProjection-clause-works : goal.returns-in-DropProjection-DropProjection-clause-works
returns-in-DropProjection-DropProjection-clause-works g c = no_work g.D.Disk c.args.store.now c.drop_projection.new.store c.args.disk.now c.args.statement (Statement.DropProjection c.in-DropProjection-DropProjection.name) c.drop_projection.result c.in-DropProjection-DropProjection.is-0 tt

pub returns-in-AddColumn-AddColumn-clause-works : goal.returns-in-AddColumn-AddColumn-clause-works
returns-in-AddColumn-AddColumn-clause-works g c = no_work g.D.Disk c.args.store.now c.add_column.new.store c.args.disk.now c.args.statement (Statement.AddColumn c.in-AddColumn-AddColumn.add) c.add_column.result c.in-AddColumn-AddColumn.is-0 tt
