use Rattle.std.proofs.Common.{rules, [], ◌∷◌, subst}
use Rattle.col_value.specs.declared.row.Stamped.{Stamped}
use Rattle.row_matching.specs.Keeping.{history, KeepsAll}
use Rattle.row_matching.proofs.Kept.{keeps_more, keeps_nothing}
use Rattle.row_matching.proofs.history.retain.Goals as goal

pub loop-row-init : goal.loop-row-init
loop-row-init c = record { valid = search rules; kept = keeps_nothing c.args.mark c.args.places.now c.args.stored.now c.new-out.result.items (search rules) }

pub loop-row-preserved : goal.loop-row-preserved
loop-row-preserved c =
    let row = c.row-item.result in
    let mark = c.args.mark in
    let places = c.args.places.now in
    let out = c.loop-row.out.items in
    let next = c.keep.new.out.items in
    record {
      valid = c.in_ok-keep.ensures.valid;
      kept = keeps_more mark places c.args.stored.now c.loop-row.row-index row out next c.loop-row-test.true
          (subst (λ (x : Stamped). KeepsAll (history mark places (x ∷ [])) out next) c.row-item.is c.in_ok-keep.ensures.kept) c.loop-row.invariant.kept;
    }
