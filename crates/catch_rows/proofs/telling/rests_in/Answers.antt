use Rattle.std.proofs.Common.{◌≡◌, ◌∙◌, ap, subst, sym}
use Rattle.std.proofs.lemmas.Result.{err_from_is_err_and}
use Rattle.catalog_types.specs.declared.catalogue.Projection.{Projection}
use Rattle.col_disk.proofs.Moving.{moved_join}
use Rattle.proj_store.specs.Sound.{IsLoadable}
use Rattle.catch_rows.proofs.Resting.{are_parted, first_loads, first_short, rest_of, second_loads, second_short}
use Rattle.catch_rows.proofs.telling.rests_in.Goals as goal

pub rest_behind-requires : goal.rest_behind-requires
rest_behind-requires g c =
    let out = c.in_ok-behind.field-0 in
    first_loads (g.A.Disk.holds c.args.at.now) (g.B.Disk.holds c.args.from.now) c.entry-first.result.now c.as_slice.result.now c.as_slice-2.result.now out.behind.items out.ahead.items c.as_slice.ensures (subst IsLoadable (sym c.entry-first.ensures.entry) c.entry-first.ensures.sound.loadable) c.in_ok-behind.ensures.parted

pub returns-in_err-old-clause-short : goal.returns-in_err-old-clause-short
returns-in_err-old-clause-short g c =
    let p = c.args.pair.now.first.now.stored.entry in
    let q = c.args.pair.now.second.now.stored.entry in
    let out = c.in_ok-behind.field-0 in
    let fault = err_from_is_err_and c.from_residual-in_err-old.result c.from_residual-in_err-old.ensures.1 in
    rw (fault.1, fault.2)
    (first_short (g.A.Disk.holds c.args.at.now) (g.B.Disk.holds c.args.from.now) (g.A.Disk.holds c.parted.new.at) p q c.entry-first.result.now c.as_slice.result.now c.as_slice-2.result.now out.behind.items out.ahead.items c.in_err-old.field-0.0 c.parted.ensures.behind_kept
    c.entry-first.ensures.entry c.as_slice.ensures c.in_ok-behind.ensures.parted c.in_err-old.ensures.short)

pub returns-in_err-old-clause-behind_moved : goal.returns-in_err-old-clause-behind_moved
returns-in_err-old-clause-behind_moved g c = moved_join g.A.Disk c.parted.ensures.behind_moved c.rest_behind.ensures.moved

pub rest_ahead-requires : goal.rest_ahead-requires
rest_ahead-requires g c =
    let out = c.in_ok-behind.field-0 in
    second_loads (g.A.Disk.holds c.args.at.now) (g.B.Disk.holds c.args.from.now) c.entry-second.result.now c.as_slice.result.now c.as_slice-2.result.now out.behind.items out.ahead.items c.as_slice-2.ensures (subst IsLoadable (sym c.entry-second.ensures.entry) c.entry-second.ensures.sound.loadable) c.in_ok-behind.ensures.parted

pub returns-in_err-new-clause-short : goal.returns-in_err-new-clause-short
returns-in_err-new-clause-short g c =
    let p = c.args.pair.now.first.now.stored.entry in
    let q = c.args.pair.now.second.now.stored.entry in
    let out = c.in_ok-behind.field-0 in
    let fault = err_from_is_err_and c.from_residual-in_err-new.result c.from_residual-in_err-new.ensures.1 in
    rw (fault.1, fault.2)
    (second_short (g.A.Disk.holds c.args.at.now) (g.B.Disk.holds c.args.from.now) (g.B.Disk.holds c.parted.new.from) p q c.entry-second.result.now c.as_slice.result.now c.as_slice-2.result.now out.behind.items out.ahead.items c.in_err-new.field-0.0 c.parted.ensures.ahead_kept
    c.entry-second.ensures.entry c.as_slice-2.ensures c.in_ok-behind.ensures.parted c.in_err-new.ensures.short)

pub returns-in_err-new-clause-behind_moved : goal.returns-in_err-new-clause-behind_moved
returns-in_err-new-clause-behind_moved g c = moved_join g.A.Disk c.parted.ensures.behind_moved c.rest_behind.ensures.moved

pub returns-in_err-new-clause-ahead_moved : goal.returns-in_err-new-clause-ahead_moved
returns-in_err-new-clause-ahead_moved g c = moved_join g.B.Disk c.parted.ensures.ahead_moved c.rest_ahead.ensures.moved

pub returns-clause-found : goal.returns-clause-found
returns-clause-found g c =
    let p = c.args.pair.now.first.now.stored.entry in
    let q = c.args.pair.now.second.now.stored.entry in
    let out = c.in_ok-behind.field-0 in
    let first : c.as_slice.result.now ≡ p.containers = c.as_slice.ensures ∙ ap (λ (x : Projection). x.containers) c.entry-first.ensures.entry in
    let second : c.as_slice-2.result.now ≡ q.containers = c.as_slice-2.ensures ∙ ap (λ (x : Projection). x.containers) c.entry-second.ensures.entry in
    record {
      ks = out.behind.items;
      js = out.ahead.items;
      parted = are_parted (g.A.Disk.holds c.args.at.now) (g.B.Disk.holds c.args.from.now) c.as_slice.result.now c.as_slice-2.result.now p.containers q.containers out.behind.items out.ahead.items first second c.in_ok-behind.ensures.parted;
      first = rest_of (g.A.Disk.holds c.args.at.now) (g.A.Disk.holds c.parted.new.at) c.args.mark c.args.pair.now.places.items c.as_slice-places.result.now p c.entry-first.result.now out.behind.items c.in_ok-old.old.items c.parted.ensures.behind_kept
          c.as_slice-places.ensures.value c.entry-first.ensures.entry c.in_ok-old.ensures.found;
      second = rest_of (g.B.Disk.holds c.args.from.now) (g.B.Disk.holds c.parted.new.from) c.args.mark c.args.pair.now.places.items c.as_slice-places.result.now q c.entry-second.result.now out.ahead.items c.in_ok-new.new.items c.parted.ensures.ahead_kept
          c.as_slice-places.ensures.value c.entry-second.ensures.entry c.in_ok-new.ensures.found;
    }

pub returns-clause-behind_moved : goal.returns-clause-behind_moved
returns-clause-behind_moved g c = moved_join g.A.Disk c.parted.ensures.behind_moved c.rest_behind.ensures.moved

pub returns-clause-ahead_moved : goal.returns-clause-ahead_moved
returns-clause-ahead_moved g c = moved_join g.B.Disk c.parted.ensures.ahead_moved c.rest_ahead.ensures.moved
