use Rattle.std.proofs.Common.{◌≡◌, ◌+◌, ◌∷◌, ◌++◌, ◌∙◌, [], length, Bool, List, ap₂, sym, arith, replicate, rules, true}
use Rattle.std.proofs.lemmas.List.FromFn.{map-range_with_len_more}
use Rattle.exec_scan.specs.Batches.{is_shown}
use Rattle.exec_scan.proofs.Unhidden.{all_shown}
use Rattle.exec_scan.proofs.shown.shown_rows.Goals as goal

pub loop-i-preserved : goal.loop-i-preserved
loop-i-preserved c =
    let same : 0 + c.loop-i.i ≡ c.loop-i.i = omega arith in
    c.in_ok-push.ensures.items ∙ ap₂ (λ (bs : List Bool) (b : Bool). bs ++ b ∷ []) c.loop-i.invariant c.is_shown.ensures
    ∙ sym (map-range_with_len_more (is_shown c.args.epoch c.args.inserted.now c.args.deletes.now c.args.first) 0 c.loop-i.i c.loop-i.i same)

pub returns-then-is_empty-2 : goal.returns-then-is_empty-2
returns-then-is_empty-2 c =
    let items : c.in_ok-shown.shown.items ≡ replicate c.args.count true = search rules in
    let no_epochs : length c.args.inserted.now ≡ 0 = search rules in
    let no_deletes : length c.args.deletes.now ≡ 0 = search rules in
    items ∙ all_shown c.args.epoch c.args.first c.args.count c.args.inserted.now c.args.deletes.now no_epochs no_deletes
