use Rattle.std.proofs.Common.{◌≡◌, ◌<◌, ◌+◌, ◌∙◌, List, [], length, refl, sym, ap, subst, arith, length-append}
use Rattle.std.specs.List.{All}
use Rattle.std.proofs.lemmas.List.Elements.{All-nil, All-push}
use Rattle.col_disk.proofs.Moving.{moved_join, moved_none}
use Rattle.col_value.specs.declared.value.Value.{Value}
use Rattle.ros_container.specs.Encodings.{written_of}
use Rattle.container_draft.proofs.Loaded.{each_more}
use Rattle.container_draft.proofs.loading.read_all.Goals as goal

pub loop-i-init : goal.loop-i-init
loop-i-init g c =
    let none : length c.new-out.result.items ≡ 0 = ap length c.new-out.ensures.items in
    record {
      found = λ m told i lt. absurd (omega (arith, none, lt));
      many = none;
      long = λ k d lt. absurd (omega (arith, none, lt));
      kept = refl;
      moved = moved_none g.D.Disk c.args.disk.now;
    }

pub returns-in-Err-clause-moved : goal.returns-in-Err-clause-moved
returns-in-Err-clause-moved g c = moved_join g.D.Disk c.loop-i.invariant.moved c.read_one.ensures.moved

pub returns-in-Err-push-clause-moved : goal.returns-in-Err-push-clause-moved
returns-in-Err-push-clause-moved g c = moved_join g.D.Disk c.loop-i.invariant.moved c.read_one.ensures.moved

pub loop-i-preserved : goal.loop-i-preserved
loop-i-preserved g c =
    let now = c.loop-i.invariant in
    let is = c.in-Ok-push.ensures.items in
    let many = now.many in
    record {
      found = λ m told. each_more m (written_of c.args.shape.now) c.args.entry.now c.args.via.now c.loop-i.out.items c.push.new.self.items c.loop-i.i c.in-Ok.column is many (c.in-Ok.ensures.found m (now.kept ∙ told)) (now.found m told);
      many = ap length is ∙ length-append c.loop-i.out.items _ ∙ (omega (arith, many));
      long = subst (All (λ (vs : List Value). length vs ≡ c.args.entry.now.rows)) (sym is) (All-push (λ (vs : List Value). length vs ≡ c.args.entry.now.rows) c.loop-i.out.items c.in-Ok.column now.long c.in-Ok.ensures.long);
      kept = c.read_one.ensures.kept ∙ now.kept;
      moved = moved_join g.D.Disk now.moved c.read_one.ensures.moved;
    }
