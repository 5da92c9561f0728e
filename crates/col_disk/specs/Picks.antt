-- What may be picked of the names of which a crash may make another thing.
use Rattle.std.specs.Prelude.{ℕ, Bool, true, false, not, List, [], ◌∷◌, ◌&&◌}
use Rattle.std.specs.Option.{unwrap_or}
use Rattle.std.specs.Ordering.{nat_cmp}
use Rattle.std.specs.BTreeMap.{insert_entry, is_at}
use Rattle.std.specs.Map.{lookup, remove_entry}
use Rattle.col_disk.specs.declared.did.Did.{Did}
use Rattle.col_disk.specs.declared.did.Did.TheVariants.{Placed, Wrote, Removed, Kept, Synced}
use Rattle.col_disk.specs.declared.memory.crash.Keep.{Keep}
use Rattle.col_disk.specs.declared.memory.crash.Keep.TheVariants.{Absent, Held, Bytes}

-- whether a name was written since the last good sync
abbrev pub was_written : List (ℕ × Bool) → ℕ → Bool
was_written names name = unwrap_or (lookup (is_at (nat_cmp name)) names) false

-- Names that were written or removed since the last good sync, in ascending order, and of each whether it was written; and those behind one thing
-- more that was done. What was written and is gone counts as written.
abbrev pub noted : List (ℕ × Bool) → Did → List (ℕ × Bool)
noted names (Placed name bytes) = remove_entry (is_at (nat_cmp name)) names
noted names (Wrote name bytes) = insert_entry nat_cmp names name true
noted names (Removed name) = insert_entry nat_cmp names name (was_written names name)
noted names (Kept name) = insert_entry nat_cmp names name (was_written names name)
noted names Synced = []

abbrev pub noted_all : List (ℕ × Bool) → List Did → List (ℕ × Bool)
noted_all names [] = names
noted_all names (did ∷ more) = noted_all (noted names did) more

-- those of a disk to which this was done
abbrev pub unsynced : List Did → List (ℕ × Bool)
unsynced dids = noted_all [] dids

-- of a name that was written other bytes may be picked, and of one that was only removed what it held
abbrev pub may_be : Keep → Bool → Bool
may_be Absent written = true
may_be Held written = not written
may_be (Bytes bytes) written = written

-- one pick for each name, in their order
abbrev pub are_picks : List (ℕ × Bool) → List Keep → Bool
are_picks [] [] = true
are_picks [] (pick ∷ picks) = false
are_picks (name ∷ names) [] = false
are_picks (name ∷ names) (pick ∷ picks) = may_be pick name.1 && are_picks names picks
