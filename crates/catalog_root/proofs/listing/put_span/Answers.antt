use Rattle.std.proofs.Common.{arith, ◌≤◌}
use Rattle.catalog_root.proofs.Listings.{span_more, span_all}
use Rattle.catalog_root.proofs.listing.put_span.Goals as goal

pub loop-n-preserved : goal.loop-n-preserved
loop-n-preserved c = span_more c.args.out.now.items c.loop-n.out.items c.push.new.self.items c.args.first c.loop-n.n c.loop-n.auto.n c.loop-n.invariant c.in_ok-push.ensures.items

pub returns : goal.returns
returns c =
    let most : c.loop-n.n ≤ c.args.end = c.loop-n.auto.n-end c.requires in
    span_all c.args.out.now.items c.loop-n.out.items c.args.first c.loop-n.n c.args.end (omega (arith, most, c.loop-n-test.false)) c.loop-n.invariant
