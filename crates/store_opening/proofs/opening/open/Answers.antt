use Rattle.std.proofs.Common.{inl, inr, ◌∙◌}
use Rattle.std.proofs.lemmas.Result.{IfOk-weaker, IfErr-weaker}
use Rattle.col_disk.proofs.Moving.{leaves_join, leaves_wider, moved_read}
use Rattle.store_opening.proofs.Quieted.{fresh_stands, opened_quiet, leaves_looked}
use Rattle.store_opening.proofs.Untouched.{root_unwritten}
use Rattle.store_opening.proofs.Started.{fresh_numbers, root_numbers}
use Rattle.store_opening.proofs.There.{fresh_opening, left_alone, root_opening, where_always, where_wider}
use Rattle.store_opening.proofs.opening.open.Goals as goal

pub returns-in-Ok-Fresh-clause-stands : goal.returns-in-Ok-Fresh-clause-stands
returns-in-Ok-Fresh-clause-stands g c = λ m d told r.
    fresh_stands g.D.Disk {old = c.args.disk.now} c.empty.result c.in-Ok-Fresh.field-0 m d c.empty.ensures c.in-Ok-Fresh.field-0-is told c.open.ensures.kept (c.in-Ok-Fresh.ensures.found m told) (c.in-Ok-Fresh.ensures.settled m told) r

pub returns-in-Ok-Root-clause-stands : goal.returns-in-Ok-Root-clause-stands
returns-in-Ok-Root-clause-stands g c =
    let k = c.in-Ok-Root in
    IfOk-weaker c.open_root.result _ _
    (λ s h m d told r.
    h m d
    (opened_quiet g.D.Disk {old = c.args.disk.now} {now = c.open.new.disk} k.version k.catalogue k.field-0 m d k.field-0-is told c.open.ensures.kept (k.ensures.found m told) (k.ensures.settled m told) r))
    c.open_root.ensures.stands

pub returns-in-Ok-Fresh-clause-numbers : goal.returns-in-Ok-Fresh-clause-numbers
returns-in-Ok-Fresh-clause-numbers g c = λ m d told r. fresh_numbers m c.empty.result c.in-Ok-Fresh.field-0 c.empty.ensures c.in-Ok-Fresh.field-0-is (c.in-Ok-Fresh.ensures.found m told)

pub returns-in-Ok-Root-clause-numbers : goal.returns-in-Ok-Root-clause-numbers
returns-in-Ok-Root-clause-numbers g c =
    let k = c.in-Ok-Root in
    IfOk-weaker c.open_root.result _ _
    (λ s h m d told r.
    root_numbers m s k.version k.catalogue k.field-0 k.field-0-is (k.ensures.found m told)
    (h m d
    (opened_quiet g.D.Disk {old = c.args.disk.now} {now = c.open.new.disk} k.version k.catalogue k.field-0 m d k.field-0-is told c.open.ensures.kept (k.ensures.found m told) (k.ensures.settled m told) r)))
    c.open_root.ensures.numbers

pub returns-in-Ok-Fresh-clause-any_moment : goal.returns-in-Ok-Fresh-clause-any_moment
returns-in-Ok-Fresh-clause-any_moment g c = λ m d told r. leaves_looked g.D.Disk {old = c.args.disk.now} {new = c.open.new.disk} (λ x is. inl is) c.open.ensures.looks

pub returns-in-Ok-Root-clause-any_moment : goal.returns-in-Ok-Root-clause-any_moment
returns-in-Ok-Root-clause-any_moment g c = λ m d told r.
    let k = c.in-Ok-Root in
    leaves_join g.D.Disk (leaves_looked g.D.Disk {old = c.args.disk.now} {new = c.open.new.disk} (λ x is. inl is) c.open.ensures.looks)
    (leaves_wider g.D.Disk (λ x reopens. inr reopens)
    (c.open_root.ensures.any_moment m d
    (opened_quiet g.D.Disk {old = c.args.disk.now} {now = c.open.new.disk} k.version k.catalogue k.field-0 m d k.field-0-is told c.open.ensures.kept (k.ensures.found m told) (k.ensures.settled m told) r)))

pub returns-in-Err-clause-any_moment : goal.returns-in-Err-clause-any_moment
returns-in-Err-clause-any_moment g c = λ m d told r. leaves_looked g.D.Disk {old = c.args.disk.now} {new = c.open.new.disk} (λ x is. inl is) c.open.ensures.looks

pub returns-in-Ok-Fresh-clause-unwritten : goal.returns-in-Ok-Fresh-clause-unwritten
returns-in-Ok-Fresh-clause-unwritten g c = λ m v r told root whole. moved_read g.D.Disk c.open.ensures.looks

pub returns-in-Ok-Root-clause-unwritten : goal.returns-in-Ok-Root-clause-unwritten
returns-in-Ok-Root-clause-unwritten g c = λ m v r told root whole.
    let k = c.in-Ok-Root in
    root_unwritten g.D.Disk {old = c.args.disk.now} {mid = c.open.new.disk} {new = c.open_root.new.disk} m v k.version r k.catalogue k.field-0 k.field-0-is (k.ensures.found m told) root whole c.open.ensures.looks c.open_root.ensures.unwritten

pub returns-in-Err-clause-unwritten : goal.returns-in-Err-clause-unwritten
returns-in-Err-clause-unwritten g c = λ m v r told root whole. moved_read g.D.Disk c.open.ensures.looks

pub returns-in-Ok-Fresh-clause-opens : goal.returns-in-Ok-Fresh-clause-opens
returns-in-Ok-Fresh-clause-opens g c = λ m told. fresh_opening m c.in-Ok-Fresh.field-0 c.in-Ok-Fresh.field-0-is (c.in-Ok-Fresh.ensures.found m told)

pub returns-in-Ok-Root-clause-opens : goal.returns-in-Ok-Root-clause-opens
returns-in-Ok-Root-clause-opens g c =
    let k = c.in-Ok-Root in
    IfOk-weaker c.open_root.result _ _ (λ s there m told. root_opening m k.version k.catalogue k.field-0 k.field-0-is (k.ensures.found m told) (there m (c.open.ensures.kept ∙ told))) c.open_root.ensures.there

pub returns-in-Err-clause-untouched : goal.returns-in-Err-clause-untouched
returns-in-Err-clause-untouched g c = where_always _ c.in-Err.fault (inl c.open.ensures.looks)

pub returns-in-Ok-Root-clause-untouched : goal.returns-in-Ok-Root-clause-untouched
returns-in-Ok-Root-clause-untouched g c =
    let k = c.in-Ok-Root in
    IfErr-weaker c.open_root.result _ _ (λ fault left. where_wider _ _ fault (left_alone g.D.Disk {old = c.args.disk.now} {mid = c.open.new.disk} {new = c.open_root.new.disk} k.version k.catalogue k.field-0 k.field-0-is k.ensures.found c.open.ensures.looks) left)
    c.open_root.ensures.untouched
