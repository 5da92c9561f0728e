use Rattle.std.proofs.Common.{◌≡◌, ◌∙◌, List, length, subst, sym, ap, arith}
use Rattle.std.specs.Prelude.{Option}
use Rattle.col_disk.proofs.Moving.{moved_none}
use Rattle.ros_container.specs.Encodings.{written_of}
use Rattle.col_value.specs.declared.value.Value.{Value}
use Rattle.proj_store.specs.Candidates.{columns_in, HaveRows}
use Rattle.proj_store.proofs.Candidacy.{written}
use Rattle.proj_store.proofs.Narrowing.{read_none}
use Rattle.proj_store.proofs.candidates.read_columns.Goals as goal

pub returns-in-Err-clause-moved : goal.returns-in-Err-clause-moved
returns-in-Err-clause-moved g c = moved_none g.D.Disk c.args.disk.now

pub returns-in-Ok-look_through-clause-rows : goal.returns-in-Ok-look_through-clause-rows
returns-in-Ok-look_through-clause-rows g c = λ held.
    let holds = g.D.Disk.holds c.args.disk.now in
    let es = written_of c.args.entry.now in
    let columns = c.in-Ok.columns in
    let columns_is = c.as_mut_slice-read.ensures.value in
    let columns_long : columns.len ≡ length columns.items = omega (arith, c.as_mut_slice-read.ensures.len, ap length columns_is) in
    let read_is = written columns.len columns.items c.look_through.new.columns columns_long (c.look_through.ensures.columns ∙ ap length columns_is) in
    subst (λ (cs : List (Option (List Value))). HaveRows holds es c.args.container.now c.args.k c.look_through.new.alive (columns_in cs)) (sym read_is)
    (c.in-Ok-look_through.ensures.rows held (read_none holds es c.args.container.now c.args.k _ c.as_mut_slice-read.result.now (columns_is ∙ c.in-Ok.ensures)))
