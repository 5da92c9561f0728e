-- The frame of a running store.
use Rattle.std.proofs.Common.{◌≡◌, ℕ, List, sym}
use Rattle.catalog_types.specs.declared.catalogue.Table as kept
use Rattle.db_model.specs.State.{State, Changes}
use Rattle.alike_laws.specs.Reordered.{AreAlikeSessions}
use Rattle.statement_plan.specs.Bare.{bare_state, IsBare}

pub framed : (tables : List kept.Table) (last mark : ℕ) (state : State) (next : ℕ) (sessions : List (List Changes)) (current : ℕ) → state.next ≡ next → AreAlikeSessions sessions state.sessions → state.current ≡ current
    → IsBare (bare_state tables last mark state.next state.sessions state.current) state → IsBare (bare_state tables last mark next sessions current) state
framed tables last mark state next sessions current numbers all now bare = record {
  tables = bare.tables;
  last = bare.last;
  mark = bare.mark;
  sessions = all;
  current = sym now;
  next = sym numbers;
}
