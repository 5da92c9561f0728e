-- The numbers that files are called by: how many an event draws, and when they are spent.
use Rattle.std.specs.Prelude.{ℕ, ◌≡◌, ◌≤◌, ◌+◌, ◌*◌, nat_le, Bool, Option}
use Rattle.sql_tree.specs.declared.refusal.Refusal.{Refusal}
use Rattle.sql_binding.specs.Firsts.{refused_where}
use Rattle.db_model.specs.State.{State}

-- No event draws where the next number has reached 2^60.
abbrev pub are_spent : State → Bool
are_spent state = nat_le 1152921504606846976 state.next

abbrev pub spent_refusal : State → Option Refusal
spent_refusal state = refused_where (are_spent state) Refusal.NumbersSpent

-- by how much the next number rises in an event at most, where a projection has at most so many containers
abbrev pub most_drawn : ℕ → ℕ
most_drawn parts = 4194304 * ((parts + 3) * (parts + 3))

-- The numbers of an event that may draw. How many it draws, and how many containers there are then, the containers decide.
pub record DrawsWithin (old new : State) : Type 0 where
  pub from : old.next ≤ new.next
  pub to : new.next ≤ old.next + most_drawn old.parts
  pub parts : new.parts ≤ old.parts + 2

-- `new` is what an event makes of `old`, with the numbers that it drew
pub record IsDrawn (old made new : State) : Type 0 where
  pub same : new ≡ record made { next = new.next; parts = new.parts }
  pub drawn : DrawsWithin old new
