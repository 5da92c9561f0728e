use Rattle.std.proofs.Common.{◌≡◌, ◌+◌, ◌++◌, ◌∙◌, List, [], ◌∷◌, length, refl, sym, ap, subst, arith}
use Rattle.std.proofs.lemmas.Result.{err_from_is_err_and}
use Rattle.col_disk.proofs.Moving.{moved_join, moved_none}
use Rattle.catch_tables.specs.Told.{History}
use Rattle.buddy_link.specs.Linking.{mark_between}
use Rattle.buddy_link.proofs.Begun.{compared}
use Rattle.buddy_link.proofs.Compared.{all_older, are_told, ends_at, none_told, one_longer, told_more, AreToldTo}
use Rattle.buddy_link.proofs.Stays.{length_told, state_stays}
use Rattle.buddy_link.proofs.histories.tell_all.Goals as goal

pub loop-place-init : goal.loop-place-init
loop-place-init g c = record {
  count = sym (ap length c.new-out.ensures.items);
  within = omega arith;
  told = λ a b here there last le.
      subst (λ (hs : List History). AreToldTo (mark_between c.args.pair.now.behind.now c.args.pair.now.ahead.now) c.args.pair.now.epoch hs a.database b.database) (sym c.new-out.ensures.items)
      (none_told (mark_between c.args.pair.now.behind.now c.args.pair.now.ahead.now) c.args.pair.now.epoch a.database b.database);
  behind_kept = refl;
  behind_moved = moved_none g.A.Disk c.args.at.now;
  ahead_kept = refl;
  ahead_moved = moved_none g.B.Disk c.args.from.now;
}

pub returns-in_err-tell_one-clause-ends : goal.returns-in_err-tell_one-clause-ends
returns-in_err-tell_one-clause-ends g c =
    let r = c.args.pair.now.behind.now in
    let t = c.args.pair.now.ahead.now in
    let now = c.loop-place.invariant in
    let fault = err_from_is_err_and c.from_residual.result c.from_residual.ensures.1 in
    rw (fault.1, fault.2)
    (λ a b here there is last le.
    ends_at (mark_between r t) c.args.pair.now.epoch c.loop-place.place c.loop-place.out.items a.database b.database c.in_err-tell_one.field-0.0 (compared g.A.Disk g.B.Disk c.args.at.now c.args.from.now r t a b c.args.pair.now.epoch here there is) is now.count
    (now.told a b here there last le)
    (c.in_err-tell_one.ensures.ends a b (state_stays g.A.Disk c.args.at.now c.loop-place.at r a now.behind_moved now.behind_kept here) (state_stays g.B.Disk c.args.from.now c.loop-place.from t b now.ahead_moved now.ahead_kept there) last le))

pub returns-in_err-tell_one-clause-behind_moved : goal.returns-in_err-tell_one-clause-behind_moved
returns-in_err-tell_one-clause-behind_moved g c = moved_join g.A.Disk c.loop-place.invariant.behind_moved c.tell_one.ensures.behind_moved

pub returns-in_err-tell_one-clause-ahead_moved : goal.returns-in_err-tell_one-clause-ahead_moved
returns-in_err-tell_one-clause-ahead_moved g c = moved_join g.B.Disk c.loop-place.invariant.ahead_moved c.tell_one.ensures.ahead_moved

pub returns-in_err-push-clause-behind_moved : goal.returns-in_err-push-clause-behind_moved
returns-in_err-push-clause-behind_moved g c = moved_join g.A.Disk c.loop-place.invariant.behind_moved c.tell_one.ensures.behind_moved

pub returns-in_err-push-clause-ahead_moved : goal.returns-in_err-push-clause-ahead_moved
returns-in_err-push-clause-ahead_moved g c = moved_join g.B.Disk c.loop-place.invariant.ahead_moved c.tell_one.ensures.ahead_moved

pub loop-place-preserved : goal.loop-place-preserved
loop-place-preserved g c =
    let r = c.args.pair.now.behind.now in
    let t = c.args.pair.now.ahead.now in
    let now = c.loop-place.invariant in
    let one = c.in_ok-tell_one.field-0 in
    let more : c.push.new.self.items ≡ c.loop-place.out.items ++ one ∷ [] = c.in_ok-push.ensures.items in
    let long = one_longer c.loop-place.out.items one in
    let count = now.count in
    let less = c.loop-place-test.true in
    let ends = ap length c.tables-place-end.ensures in
    let grown : c.loop-place.place + 1 ≡ length (c.loop-place.out.items ++ one ∷ []) = omega (arith, count, long) in
    record {
      count = grown ∙ sym (ap length more);
      within = omega (arith, less, ends);
      told = λ a b here there last le.
          subst (λ (hs : List History). AreToldTo (mark_between r t) c.args.pair.now.epoch hs a.database b.database) (sym more)
          (told_more (mark_between r t) c.args.pair.now.epoch c.loop-place.place c.loop-place.out.items one a.database b.database now.count (now.told a b here there last le)
          (c.in_ok-tell_one.ensures.told a b (state_stays g.A.Disk c.args.at.now c.loop-place.at r a now.behind_moved now.behind_kept here) (state_stays g.B.Disk c.args.from.now c.loop-place.from t b now.ahead_moved now.ahead_kept there) last le));
      behind_kept = c.tell_one.ensures.behind_kept ∙ now.behind_kept;
      behind_moved = moved_join g.A.Disk now.behind_moved c.tell_one.ensures.behind_moved;
      ahead_kept = c.tell_one.ensures.ahead_kept ∙ now.ahead_kept;
      ahead_moved = moved_join g.B.Disk now.ahead_moved c.tell_one.ensures.ahead_moved;
    }

pub returns-clause-told : goal.returns-clause-told
returns-clause-told g c = λ a b here there is last le.
    let r = c.args.pair.now.behind.now in
    let t = c.args.pair.now.ahead.now in
    let now = c.loop-place.invariant in
    let hs : List History = c.loop-place.out.items in
    let count = now.count in
    let within = now.within in
    let most = c.loop-place-test.false in
    let ends = ap length c.tables-place-end.ensures in
    let all = length_told g.B.Disk c.args.from.now t b there in
    let whole : length hs ≡ length b.database.tables = omega (arith, count, within, most, ends, all) in
    let pair = compared g.A.Disk g.B.Disk c.args.at.now c.args.from.now r t a b c.args.pair.now.epoch here there is in (
      are_told (mark_between r t) c.args.pair.now.epoch hs a.database b.database whole (now.told a b here there last le),
      all_older (mark_between r t) c.args.pair.now.epoch hs a.database b.database pair.is pair.alike whole (now.told a b here there last le),
    )
