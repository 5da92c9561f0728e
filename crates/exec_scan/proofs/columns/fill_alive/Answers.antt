use Rattle.std.proofs.Common.{◌≡◌, ◌∙◌, Bool, true, rules}
use Rattle.std.specs.List.{Any}
use Rattle.col_disk.proofs.Moving.{moved_none}
use Rattle.container_blocks.specs.Blocks.{rows_in}
use Rattle.exec_scan.proofs.Filled.{rows_filled}
use Rattle.exec_scan.proofs.Narrowing.{no_rows}
use Rattle.exec_scan.proofs.columns.fill_alive.Goals as goal

pub returns-then-not-has_any-clause-moved : goal.returns-then-not-has_any-clause-moved
returns-then-not-has_any-clause-moved g c = moved_none g.D.Disk c.args.disk.now

pub returns-then-not-has_any-clause-fills : goal.returns-then-not-has_any-clause-fills
returns-then-not-has_any-clause-fills g c =
    let none : Any (λ (a : Bool). a ≡ true) c.args.alive.now → ⊥ = search rules in
    λ held m told rows holding are. no_rows c.args.places.now c.args.alive.now c.args.columns.now (rows_in c.args.k rows) none

pub returns-in-Ok-clause-fills : goal.returns-in-Ok-clause-fills
returns-in-Ok-clause-fills g c = λ held m told rows holding are.
    rows_filled c.args.places.now c.args.alive.now c.fill_columns.new.columns (rows_in c.args.k rows) (c.in-Ok.ensures.width ∙ c.requires.width) (c.in-Ok.ensures.fills held m told rows holding are)
