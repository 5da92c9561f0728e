use Rattle.std.proofs.Common.{◌≡◌, ◌∙◌, length, refl, subst, ap, arith}
use Rattle.col_disk.proofs.Moving.{moved_join, moved_none}
use Rattle.ros_container.specs.Encodings.{written_of}
use Rattle.container_blocks.specs.Blocks.{HasIndex}
use Rattle.wanted_rows.specs.Wanted.{need_in}
use Rattle.proj_store.specs.Candidates.{columns_in}
use Rattle.proj_store.proofs.BlockRows.{index_here, indexes_same}
use Rattle.proj_store.proofs.Candidacy.{candidates_long, written}
use Rattle.proj_store.proofs.Standing.{candidates_made}
use Rattle.proj_store.proofs.candidates.find_candidates.Goals as goal

pub returns-in-Err-clause-moved : goal.returns-in-Err-clause-moved
returns-in-Err-clause-moved g c = moved_none g.D.Disk c.args.disk.now

pub returns-in-Ok-stamps-clause-found : goal.returns-in-Ok-stamps-clause-found
returns-in-Ok-stamps-clause-found g c = λ held.
    let holds = g.D.Disk.holds c.args.disk.now in
    let now = g.D.Disk.holds c.read_columns.new.disk in
    let es = written_of c.args.entry.now in
    let k = c.args.container.now in
    let looked = c.read_columns.ensures in
    let alive = c.in-Ok.alive in
    let first_is = c.as_mut_slice-looked.ensures.value in
    let alive_long : alive.len ≡ length alive.items = omega (arith, c.as_mut_slice-looked.ensures.len, ap length first_is) in
    let end_is = written alive.len alive.items c.read_columns.new.alive alive_long (looked.long ∙ ap length first_is) in
    let n_is : length c.as_slice.result.now ≡ length c.args.entry.now.columns = ap length c.as_slice.ensures in
    let index = index_here (written_of c.args.entry.now) k now c.args.indexes.now (length c.as_slice.result.now) c.index-indexes-as_slice.result (indexes_same (written_of c.args.entry.now) k now holds c.args.indexes.now looked.kept held)
    (omega (arith, c.requires.many, n_is)) c.index-indexes-as_slice.is in
    candidates_made holds now es k c.args.deletes.now c.args.k (need_in c.args.wants.now) alive.items c.as_mut_slice-looked.result.now c.read_columns.new.alive _ c.as_slice-2.result.now c.in-Ok-stamps.stamps.items
    (columns_in c.in-Ok-read_columns.columns.items) _ c.requires.block looked.kept first_is end_is (c.as_slice-2.ensures.value ∙ end_is) refl (c.in-Ok.ensures.long ∙ c.rows_of.ensures) looked.long c.in-Ok.ensures.live
    (c.in-Ok-read_columns.ensures.narrows held)
    (λ some. c.in-Ok-stamps.ensures.found some (subst (λ n. HasIndex (written_of c.args.entry.now) k n c.index-indexes-as_slice.result now) n_is index))
    (c.in-Ok-read_columns.ensures.rows held)

pub returns-in-Ok-stamps-clause-long : goal.returns-in-Ok-stamps-clause-long
returns-in-Ok-stamps-clause-long g c =
    let looked = c.read_columns.ensures in
    let alive = c.in-Ok.alive in
    let first_is = c.as_mut_slice-looked.ensures.value in
    let alive_long : alive.len ≡ length alive.items = omega (arith, c.as_mut_slice-looked.ensures.len, ap length first_is) in
    let end_is = written alive.len alive.items c.read_columns.new.alive alive_long (looked.long ∙ ap length first_is) in
    candidates_long 0 _ _ _ ∙ ap length end_is ∙ looked.long ∙ ap length first_is ∙ c.in-Ok.ensures.long ∙ c.rows_of.ensures

pub returns-in-Ok-stamps-clause-moved : goal.returns-in-Ok-stamps-clause-moved
returns-in-Ok-stamps-clause-moved g c = moved_join g.D.Disk c.read_columns.ensures.moved c.stamps.ensures.moved

pub returns-in-Err-stamps-clause-moved : goal.returns-in-Err-stamps-clause-moved
returns-in-Err-stamps-clause-moved g c = moved_join g.D.Disk c.read_columns.ensures.moved c.stamps.ensures.moved
