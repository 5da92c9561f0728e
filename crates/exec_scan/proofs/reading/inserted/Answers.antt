use Rattle.std.proofs.Common.{◌≤◌, arith}
use Rattle.std.proofs.lemmas.List.Elements.{All-weaker}
use Rattle.ros_container.specs.Rows.{IsWithin}
use Rattle.container_blocks.specs.Blocks.{rows_in}
use Rattle.exec_scan.proofs.Blocks.{as_read, none_later}
use Rattle.exec_scan.proofs.reading.inserted.Goals as goal

pub returns-then-entry-epoch-clause-found : goal.returns-then-entry-epoch-clause-found
returns-then-entry-epoch-clause-found g c = λ has m told rows held.
    none_later c.args.epoch c.args.k rows c.new.result.items c.new.ensures.items
    (All-weaker (λ a. IsWithin c.args.entry.now a.ins) (λ a. a.ins ≤ c.args.epoch) (λ a within. omega (arith, within.1, c.if-entry-epoch.true)) rows held.within)

pub returns-clause-found : goal.returns-clause-found
returns-clause-found g c = λ has m told rows held. as_read c.args.epoch c.in-Ok-epochs.inserted.items (rows_in c.args.k rows) (c.in-Ok-epochs.ensures.found has m told rows held)

pub returns-clause-told : goal.returns-clause-told
returns-clause-told g c = λ has m told rows held on. c.in-Ok-epochs.ensures.found has m told rows held
