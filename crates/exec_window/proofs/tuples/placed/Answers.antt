use Rattle.std.proofs.Common.{◌≡◌, ◌<◌, get_or, length, rules}
use Rattle.exec_window.proofs.Leading.{led_more, placed_more}
use Rattle.exec_window.proofs.tuples.placed.Goals as goal

pub loop-place-preserved : goal.loop-place-preserved
loop-place-preserved c =
    let rows = c.args.rows.now in
    let i = c.loop-place.place in
    let t = c.led.result in
    let h : i < length rows = search rules in
    let is : t.row.now ≡ get_or rows i t.row.now = search rules in
    record {
      placed = placed_more rows i t.row.now t c.loop-place.out.items c.push.new.self.items _ h is (search rules) c.in_ok-push.ensures.items c.loop-place.invariant.placed;
      led = led_more c.args.window.now c.loop-place.out.items c.push.new.self.items t c.in_ok-push.ensures.items c.led.ensures.led c.loop-place.invariant.led;
    }
