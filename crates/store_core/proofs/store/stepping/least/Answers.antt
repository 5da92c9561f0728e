use Rattle.std.proofs.Common.{◌≡◌, ◌<◌, ℕ, [], false, List, get_or, length, take, sym, subst, arith, rules}
use Rattle.std.specs.List.{All}
use Rattle.std.proofs.lemmas.List.{take_all, take_more}
use Rattle.std.proofs.lemmas.List.Elements.{Contains-get_or}
use Rattle.store_core.specs.Stepping.{is_less}
use Rattle.store_core.proofs.LeastNames.{first_least}
use Rattle.store_core.proofs.store.stepping.least.Goals as goal

pub loop-place-init : goal.loop-place-init
loop-place-init c = let some : 0 < length c.args.names.now = search rules in record { within = some; least = first_least c.args.names.now some }

pub loop-place-preserved : goal.loop-place-preserved
loop-place-preserved c =
    let names = c.args.names.now in
    let best = get_or names c.lesser_of-best.result [] in
    record {
      within = c.lesser_of-best.ensures.within;
      least =
          subst (λ (seen : List (List ℕ)). All (λ m. is_less m best ≡ false) seen) (sym (take_more names c.loop-place.place [] c.loop-place-test.true))
          (c.lesser_of-best.ensures.least (take c.loop-place.place names) c.loop-place.invariant.least);
    }

pub returns : goal.returns
returns c =
    let names = c.args.names.now in
    let best = get_or names c.loop-place.best [] in
    let all = take_all c.loop-place.place names (omega (arith, c.loop-place-test.false)) in (
      c.loop-place.invariant.within,
      record {
        among = Contains-get_or names c.loop-place.best [] c.loop-place.invariant.within;
        least = subst (λ (seen : List (List ℕ)). All (λ m. is_less m best ≡ false) seen) all c.loop-place.invariant.least;
      },
    )
