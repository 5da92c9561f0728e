use Rattle.std.proofs.Common.{◌≡◌, ◌++◌, ◌∷◌, [], map, ap, ◌∙◌}
use Rattle.std.proofs.lemmas.List.{map-append}
use Rattle.std.proofs.lemmas.Result.{err_from_is_err_and}
use Rattle.col_bytes.specs.Parts.{many}
use Rattle.col_bytes.proofs.ReadOn.{goes_on, stops, is_done}
use Rattle.block_codec.specs.Held.{day_value}
use Rattle.enc_delta.specs.DateFronts.{since_at}
use Rattle.enc_delta.proofs.day_read.read_dates.Goals as goal

pub returns-in_err-day : goal.returns-in_err-day
returns-in_err-day c =
    let p = err_from_is_err_and c.from_residual-in_err-day.result c.from_residual-in_err-day.ensures.1 in
    rw (p.1, p.2) (stops (since_at c.args.base) c.in_err-day.field-0.0 (map day_value c.loop.days.items) c.args.count c.loop.counter c.loop.rest.now (many (since_at c.args.base) c.args.count c.args.bytes.now) c.loop-test.true c.in_err-day.ensures c.loop.invariant)

pub loop-preserved : goal.loop-preserved
loop-preserved c =
    let e : c.push.new.self.items ≡ c.loop.days.items ++ c.in_ok-day.day ∷ [] = c.in_ok-push.ensures.items in
    let m : map day_value c.push.new.self.items ≡ map day_value c.loop.days.items ++ day_value c.in_ok-day.day ∷ [] =
    ap (map day_value) e ∙ map-append day_value c.loop.days.items (c.in_ok-day.day ∷ []) in
    rw m (goes_on (since_at c.args.base) (map day_value c.loop.days.items) c.args.count c.loop.counter c.loop.rest.now (day_value c.in_ok-day.day) c.in_ok-day.after.now (many (since_at c.args.base) c.args.count c.args.bytes.now) c.loop-test.true c.in_ok-day.ensures c.loop.invariant)

pub returns : goal.returns
returns c = is_done (since_at c.args.base) (map day_value c.loop.days.items) c.args.count c.loop.counter c.loop.rest.now (many (since_at c.args.base) c.args.count c.args.bytes.now) c.loop-test.false c.loop.invariant
