use Rattle.std.proofs.Common.{◌≡◌, ◌<◌, ◌≤◌, length, arith, subst, sym, List}
use Rattle.std.specs.List.{slice_get}
use Rattle.std.specs.Option.{IsSomeAnd}
use Rattle.col_value.specs.declared.value.Value.{Value}
use Rattle.std.proofs.lemmas.List.{take_all}
use Rattle.col_value.specs.declared.row.Asked.{Asked}
use Rattle.wanted_rows.specs.Wanted.{need_in}
use Rattle.row_matching.specs.Seeing.{SiftsMore, told_rows}
use Rattle.row_matching.proofs.Others.{sifts_next, sifts_none, told_long}
use Rattle.row_matching.proofs.sifting.sift_batch.Goals as goal

pub loop-i-init : goal.loop-i-init
loop-i-init c = record {
  sifted = sifts_none c.args.keeps.now c.args.batch.now.rows c.args.batch.now.inserted (need_in c.args.wants.now) c.args.out.now.items;
  valid = c.requires.valid;
}

pub loop-i-preserved : goal.loop-i-preserved
loop-i-preserved c =
    let lt : c.loop-i.i < length c.args.batch.now.rows = grind (arith, c.loop-i-test.true, c.len-i-end.ensures) in
    record {
      sifted = sifts_next c.args.keeps.now c.args.batch.now c.loop-i.i c.as_slice.result.now c.inserted.result (need_in c.args.wants.now) (need_in c.loop-i.wants) (need_in c.sift.new.wants) c.args.out.now.items c.loop-i.out.items c.sift.new.out.items lt
          (subst (λ (x : List Value). IsSomeAnd (slice_get c.args.batch.now.rows c.loop-i.i) (λ r. x ≡ r)) (sym c.as_slice.ensures.value) c.in_ok-copy_row.ensures.row)
          c.inserted.ensures c.in_ok-sift.ensures.sifted c.loop-i.invariant.sifted;
      valid = c.in_ok-sift.ensures.valid;
    }

pub returns-clause-sifted : goal.returns-clause-sifted
returns-clause-sifted c =
    let all = told_rows c.args.batch.now.rows c.args.batch.now.inserted in
    let past : length all ≤ c.loop-i.i = omega (arith, c.loop-i-test.false, c.len-i-end.ensures, told_long c.args.batch.now.rows c.args.batch.now.inserted) in
    subst (λ (xs : List Asked). SiftsMore c.args.keeps.now xs (need_in c.args.wants.now) c.args.out.now.items (need_in c.loop-i.wants) c.loop-i.out.items) (take_all c.loop-i.i all past) c.loop-i.invariant.sifted
