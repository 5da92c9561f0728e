use Rattle.std.proofs.Common.{◌≡◌, false, rules}
use Rattle.std.specs.Prelude.{IsTrue}
use Rattle.moveout_job.proofs.Renewed.{beside_within}
use Rattle.purge_job.proofs.Late.{kept_whole, late_all, late_at, late_more}
use Rattle.purge_job.proofs.gone.is_kept_whole.Goals as goal

pub vector-held-requires : goal.vector-held-requires
vector-held-requires c =
    let shown : c.as_slice-containers.result.now ≡ c.args.p.now.stored.entry.containers = search rules in
    beside_within c.args.p.now.stored c.as_slice-containers.result.now c.loop-i.i shown c.entry.ensures.sound c.loop-i-test.true

pub fresh_marks-fresh-requires : goal.fresh_marks-fresh-requires
fresh_marks-fresh-requires c =
    let shown : c.as_slice-containers.result.now ≡ c.args.p.now.stored.entry.containers = search rules in
    beside_within c.args.p.now.stored c.as_slice-containers.result.now c.loop-i.i shown c.entry.ensures.sound c.loop-i-test.true

pub returns-then-not-are_late : goal.returns-then-not-are_late
returns-then-not-are_late c =
    let p = c.args.p.now.stored in
    let shown : c.as_slice-containers.result.now ≡ p.entry.containers = search rules in
    let within = beside_within p c.as_slice-containers.result.now c.loop-i.i shown c.entry.ensures.sound c.loop-i-test.true in
    let never : IsTrue c.are_late.result → IsTrue false = search rules in (
      (λ yes. absurd (cc)),
      (λ whole. never (c.are_late.ensures.1 (late_at c.args.mark c.loop-i.i p.beside c.vector-held.result.now c.fresh_marks-fresh.result.now within c.vector-held.ensures c.fresh_marks-fresh.ensures whole.marks))),
    )

pub loop-i-preserved : goal.loop-i-preserved
loop-i-preserved c =
    let p = c.args.p.now.stored in
    let shown : c.as_slice-containers.result.now ≡ p.entry.containers = search rules in
    let within = beside_within p c.as_slice-containers.result.now c.loop-i.i shown c.entry.ensures.sound c.loop-i-test.true in
    let late : IsTrue c.are_late.result = search rules in
    late_more c.args.mark c.loop-i.i p.beside c.vector-held.result.now c.fresh_marks-fresh.result.now within c.vector-held.ensures c.fresh_marks-fresh.ensures (c.are_late.ensures.0 late) c.loop-i.invariant

pub returns : goal.returns
returns c =
    let p = c.args.p.now.stored in
    let shown : c.as_slice-containers.result.now ≡ p.entry.containers = search rules in
    kept_whole c.args.mark p c.unsaved.result.now c.are_kept.result c.unsaved.ensures.rows (late_all c.args.mark c.loop-i.i c.as_slice-containers.result.now p shown c.entry.ensures.sound c.loop-i-test.false c.loop-i.invariant) c.are_kept.ensures
