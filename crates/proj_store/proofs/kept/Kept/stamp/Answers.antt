use Rattle.std.proofs.Common.{◌∙◌, List, ap}
use Rattle.std.specs.Option.{option_or}
use Rattle.del_vector.specs.declared.mark.Mark.{Mark}
use Rattle.del_vector.specs.Marks.{epoch_at}
use Rattle.write_store.specs.declared.held.Held.{Held}
use Rattle.wanted_rows.specs.Picked.{asked_of, del_at}
use Rattle.proj_store.proofs.Epochs.{rows_there, none_deleted, put_both}
use Rattle.proj_store.proofs.kept.Kept.stamp.Goals as goal

pub returns-clause-rows : goal.returns-clause-rows
returns-clause-rows c = c.put_all-2.ensures.rows ∙ c.put_all.ensures.rows ∙ ap (λ (hs : List Held). asked_of hs) c.in_ok-stamped.ensures ∙ rows_there c.args.rows.items

pub returns-clause-deleted : goal.returns-clause-deleted
returns-clause-deleted c = λ i.
    let first = c.in_ok-stamped.stamped.items in
    let second = c.put_all.new.rows.items in
    put_both c.args.self.now.held.marks c.args.self.now.fresh.items i (del_at first i) (del_at second i) (del_at c.put_all-2.new.rows.items i)
    (ap (λ (hs : List Held). del_at hs i) c.in_ok-stamped.ensures ∙ none_deleted c.args.rows.items i)
    (c.put_all.ensures.deleted i ∙ ap (λ (v : List Mark). option_or (del_at first i) (epoch_at v i)) c.marks.ensures)
    (c.put_all-2.ensures.deleted i ∙ ap (λ (v : List Mark). option_or (del_at second i) (epoch_at v i)) c.as_slice.ensures.value)
