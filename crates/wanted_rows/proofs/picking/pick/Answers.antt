use Rattle.std.proofs.Common.{◌≡◌, ◌++◌, ◌∷◌, [], cond, rules}
use Rattle.wanted_rows.specs.Wanted.{need_in}
use Rattle.wanted_rows.proofs.Rows.{pick_all_held, pick_held, pick_none_yet}
use Rattle.wanted_rows.proofs.picking.pick.Goals.{then-branch+in_ok-push, else-branch}
use Rattle.wanted_rows.proofs.picking.pick.Goals as goal

pub loop-i-init : goal.loop-i-init
loop-i-init c = pick_none_yet c.args.rows.now c.new-places.result.items (need_in c.args.wants.now) c.new-places.ensures.items

pub loop-i-preserved : goal.loop-i-preserved
loop-i-preserved c =
    let next : c.if-branch.places.items ≡ cond c.in_ok-try_row.field-0 (c.loop-i.places.items ++ c.loop-i.i ∷ []) c.loop-i.places.items =
    elim c.if-branch.branch [ then-branch+in_ok-push w ↦ search rules | else-branch w ↦ search rules ] in
    pick_held c.args.rows.now c.loop-i.i c.index-rows-i.result c.loop-i.places.items c.if-branch.places.items (need_in c.args.wants.now) _ _ c.in_ok-try_row.field-0
    c.loop-i.invariant c.loop-i-test.true c.index-rows-i.is c.in_ok-try_row.ensures next

pub returns : goal.returns
returns c = pick_all_held c.args.rows.now c.loop-i.i c.loop-i.places.items (need_in c.args.wants.now) (need_in c.loop-i.wants) c.loop-i.invariant c.loop-i-test.false
