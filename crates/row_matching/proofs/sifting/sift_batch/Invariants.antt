use Rattle.std.proofs.Common.{take}
use Rattle.std.specs.List.{All}
use Rattle.col_value.specs.Order.{IsRow}
use Rattle.wanted_rows.specs.Wanted.{need_in}
use Rattle.row_matching.specs.Seeing.{SiftsMore, told_rows}
use Rattle.row_matching.proofs.sifting.sift_batch.Given as goal

abbrev pub invariant-loop-i : goal.invariant-loop-i
invariant-loop-i l = record {
  sifted : SiftsMore l.keeps (take l.i (told_rows l.batch.rows l.batch.inserted)) (need_in l.fn.wants) l.fn.out.items (need_in l.wants) l.out.items;
  valid : All (λ a. IsRow a.row) l.out.items;
}
