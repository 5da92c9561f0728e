use Rattle.std.proofs.Common.{◌≡◌, ◌<◌, [], false, get_or, length, take}
use Rattle.std.specs.List.{All}
use Rattle.store_core.specs.Stepping.{is_less}
use Rattle.store_core.proofs.store.stepping.least.Given as goal

abbrev pub invariant-loop-place : goal.invariant-loop-place
invariant-loop-place l = record {
  within : l.best < length l.names;
  least : All (λ m. is_less m (get_or l.names l.best []) ≡ false) (take l.place l.names);
}
