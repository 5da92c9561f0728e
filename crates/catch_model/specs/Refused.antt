-- Why a database can't be brought up to another one, from an epoch on.
use Rattle.std.specs.Prelude.{ℕ, ◌≡◌, ◌≢◌, ◌≤◌, ◌<◌, not, Bool, true, false, List}
use Rattle.std.specs.Ordering.{is_lt, nat_cmp}
use Rattle.std.specs.Cmp.Lexicographic.{slice_cmp}
use Rattle.common_laws.specs.Bags.{SameBag}
use Rattle.col_value.specs.declared.row.Stamped.{Stamped}
use Rattle.bag_difference.specs.Differences.{IsLeastDifference}
use Rattle.db_model.specs.Database.{Database}
use Rattle.db_model.specs.Epochs.{cut}
use Rattle.catch_model.specs.Added.{has_change, has_too_many}
use Rattle.catch_model.specs.Caught.{columns_of, history, later_mark, HaveSameTables, HaveSameHistory}
use Rattle.catch_model.specs.declared.fault.LinkFault.{LinkFault}
use Rattle.catch_model.specs.declared.fault.LinkFault.TheVariants.{SchemaDiffers, NotBehind, HistoryGone, Differs, Gap, TooMany, NumbersSpent, BehindDisk, AheadDisk, Damaged, Memory}

-- the least name of those that lack a property
pub record IsLeastName (Good : List ℕ → Type 0) (name : List ℕ) : Type 0 where
  pub bad : Good name → ⊥
  pub least : (other : List ℕ) → is_lt (slice_cmp nat_cmp other name) ≡ true → Good other

-- no epoch after one, up to another, is such
abbrev pub NoEpoch : (ℕ → Bool) → ℕ → ℕ → Type 0
NoEpoch is_such after last = (n : ℕ) → after < n → n ≤ last → is_such n ≡ false

-- the least epoch after one, up to another, that is such
pub record IsLeastEpoch (is_such : ℕ → Bool) (after last n : ℕ) : Type 0 where
  pub later : after < n
  pub closed : n ≤ last
  pub such : is_such n ≡ true
  pub least : (k : ℕ) → after < k → k < n → is_such k ≡ false

-- nothing was inserted or deleted
abbrev pub is_gap : Database → ℕ → Bool
is_gap d epoch = not (has_change d epoch)

-- the one ahead is no older, and tells its history from the epoch on
pub record IsAhead (a b : Database) (epoch : ℕ) : Type 0 where
  pub tables : HaveSameTables a b
  pub last : a.last ≤ b.last
  pub mark : b.ahm ≤ epoch

-- the history of the one behind is that of the one ahead, cut at the epoch
abbrev pub IsOlder : Database → Database → ℕ → Type 0
IsOlder a b epoch = HaveSameHistory (later_mark a b) a (cut epoch b)

-- the same of the table of a name
abbrev pub IsOlderIn : Database → Database → ℕ → List ℕ → Type 0
IsOlderIn a b epoch name = SameBag (history (later_mark a b) name a) (history (later_mark a b) name (cut epoch b))

-- a row is the least in which the two differ in the table of a name
abbrev pub IsLeastRow : Database → Database → ℕ → List ℕ → Stamped → Type 0
IsLeastRow a b epoch name row =
    (behind : ℕ) × (ahead : ℕ) × IsLeastDifference (history (later_mark a b) name a) (history (later_mark a b) name (cut epoch b)) row behind ahead

-- Why the database behind (`a`) isn't brought from an epoch on up to the one ahead (`b`). They are looked for in this order: none of those before it
-- holds.
abbrev pub IsRefused : Database → Database → ℕ → LinkFault → Type 0
IsRefused a b epoch (SchemaDiffers name) = IsLeastName (λ n. columns_of n a ≡ columns_of n b) name
IsRefused a b epoch (NotBehind behind ahead) = HaveSameTables a b × (b.last < a.last) × (behind ≡ a.last) × (ahead ≡ b.last)
IsRefused a b epoch (HistoryGone at ahm) = HaveSameTables a b × (a.last ≤ b.last) × (epoch < b.ahm) × (at ≡ epoch) × (ahm ≡ b.ahm)
IsRefused a b epoch (Differs table row) = IsAhead a b epoch × IsLeastName (IsOlderIn a b epoch) table × IsLeastRow a b epoch table row
IsRefused a b epoch (Gap n) = IsAhead a b epoch × IsOlder a b epoch × IsLeastEpoch (is_gap b) epoch b.last n
IsRefused a b epoch (TooMany n) = IsAhead a b epoch × IsOlder a b epoch × NoEpoch (is_gap b) epoch b.last × IsLeastEpoch (has_too_many b) epoch b.last n
IsRefused a b epoch NumbersSpent = ⊥
IsRefused a b epoch BehindDisk = ⊥
IsRefused a b epoch AheadDisk = ⊥
IsRefused a b epoch (Damaged name) = ⊥
IsRefused a b epoch Memory = ⊥

-- nothing is in the way
pub record IsAccepted (a b : Database) (epoch : ℕ) : Type 0 where
  pub ahead : IsAhead a b epoch
  pub older : IsOlder a b epoch
  pub no_gap : NoEpoch (is_gap b) epoch b.last
  pub no_more : NoEpoch (has_too_many b) epoch b.last

-- a fault that isn't one of these refusals
abbrev pub IsNoRefusal : LinkFault → Type 0
IsNoRefusal (SchemaDiffers name) = ⊥
IsNoRefusal (NotBehind behind ahead) = ⊥
IsNoRefusal (HistoryGone at ahm) = ⊥
IsNoRefusal (Differs table row) = ⊥
IsNoRefusal (Gap n) = ⊥
IsNoRefusal (TooMany n) = ⊥
IsNoRefusal NumbersSpent = Unit {0}
IsNoRefusal BehindDisk = Unit {0}
IsNoRefusal AheadDisk = Unit {0}
IsNoRefusal (Damaged name) = Unit {0}
IsNoRefusal Memory = Unit {0}
