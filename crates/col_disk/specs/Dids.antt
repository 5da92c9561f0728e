-- What a crash may leave of a disk in memory, by what was done to it.
use Rattle.std.specs.Prelude.{◌≡◌, ℕ, ◌≤◌, ◌<◌, Bool, true, false, List, [], ◌∷◌, length, take}
use Rattle.std.specs.FinMap.{empty, insert, remove}
use Rattle.common_laws.specs.Maps.{Contents}
use Rattle.col_disk.specs.Calls.{Elsewhere, GoneOrKept}
use Rattle.col_disk.specs.declared.did.Did.{Did}
use Rattle.col_disk.specs.declared.did.Did.TheVariants.{Placed, Wrote, Removed, Kept, Synced}

-- the contents after it
abbrev pub after : Contents → Did → Contents
after m (Placed name bytes) = insert m name bytes
after m (Wrote name bytes) = insert m name bytes
after m (Removed name) = remove m name
after m (Kept name) = m
after m Synced = m

abbrev pub replayed : Contents → List Did → Contents
replayed m [] = m
replayed m (did ∷ more) = replayed (after m did) more

-- the images after it, by the contents and the images before it
abbrev pub Then : Contents → (Contents → Type 0) → Did → Contents → Type 0
Then m before (Placed name bytes) c = (d : Contents) × before d × (c ≡ insert d name bytes)
Then m before (Wrote name bytes) c = (d : Contents) × before d × Elsewhere name d c
Then m before (Removed name) c = (d : Contents) × before d × GoneOrKept name d c
Then m before (Kept name) c = (d : Contents) × before d × GoneOrKept name d c
Then m before Synced c = c ≡ m

abbrev pub Images : Contents → (Contents → Type 0) → List Did → Contents → Type 0
Images m before [] c = before c
Images m before (did ∷ more) c = Images (after m did) (Then m before did) more c

-- an empty disk, to which this was done
abbrev pub contents_of : List Did → Contents
contents_of dids = replayed empty dids

abbrev pub ImagesOf : List Did → Contents → Type 0
ImagesOf dids c = Images empty (λ m. m ≡ empty) dids c

-- what a crash may have left since so much was done
abbrev pub ImagesSince : List Did → ℕ → Contents → Type 0
ImagesSince dids t c = (k : ℕ) × (t ≤ k) × (k ≤ length dids) × ImagesOf (take k dids) c

-- What a disk in memory keeps: the contents; room for a sync, where one has something to do; and where it has nothing to do, the
-- contents are the only image.
pub record IsMemDisk (held : Contents) (dids : List Did) (dirty : Bool) (len capacity : ℕ) : Type 0 where
  pub held_is : held ≡ contents_of dids
  pub room : dirty ≡ true → len < capacity
  pub clean : dirty ≡ false → (c : Contents) → ImagesOf dids c → c ≡ contents_of dids
