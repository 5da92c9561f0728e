-- Reading part after part: how readings of the front are put together, and what a reader owes.
use Rattle.std.specs.Allocator.{alloc_error}
use Rattle.std.specs.Prelude.{◌≡◌, ℕ, zero, suc, ◌==◌, Bool, List, [], ◌∷◌, length, Option, Some, None, Result, Ok, Err, option_map, option_and_then, if◌then◌else◌}
use Rattle.std.specs.declared.alloc.AllocError.{AllocError}
use Rattle.col_bytes.specs.Fronts.{vint_at}
use Rattle.col_bytes.specs.declared.stop.Stop.{Stop}
use Rattle.col_bytes.specs.declared.stop.Stop.TheVariants.{Memory, Malformed}

-- what a function returned, seen by a view, is what reading gives, unless memory ran out
abbrev pub Stops : {A : Type 0} → Stop → Option A → Type 0
Stops Memory read = Unit {0}
Stops Malformed read = read ≡ None

abbrev pub Gives : {X A : Type 0} → (X → A) → Result X Stop → Option A → Type 0
Gives view (Ok x) read = read ≡ Some (view x)
Gives view (Err e) read = Stops e read

-- one part, and another behind it
abbrev pub both : {A B : Type 0} → (List ℕ → Option (A × List ℕ)) → (List ℕ → Option (B × List ℕ)) → List ℕ → Option ((A × B) × List ℕ)
both f g bytes = option_and_then (λ x. option_map (λ y. ((x.0, y.0), y.1)) (g x.1)) (f bytes)

-- a part that is made of what is read
abbrev pub made : {A B : Type 0} → (A → B) → (List ℕ → Option (A × List ℕ)) → List ℕ → Option (B × List ℕ)
made f read bytes = option_map (λ x. (f x.0, x.1)) (read bytes)

-- so many parts
unfoldable pub many : {A : Type 0} → (List ℕ → Option (A × List ℕ)) → ℕ → List ℕ → Option (List A × List ℕ)
many read zero bytes = Some ([], bytes)
many read (suc n) bytes = option_and_then (λ x. option_map (λ y. (x.0 ∷ y.0, y.1)) (many read n x.1)) (read bytes)

-- their number, and so many parts
abbrev pub counted_at : {A : Type 0} → (List ℕ → Option (A × List ℕ)) → List ℕ → Option (List A × List ℕ)
counted_at read bytes = option_and_then (λ n. many read n.0 n.1) (vint_at bytes)

-- nothing stands behind it
abbrev pub ended : {A : Type 0} → A × List ℕ → Option A
ended x = if length x.1 == 0 then Some x.0 else None

-- the bytes behind this one
abbrev pub after : ℕ → List ℕ → Option (List ℕ)
after tag [] = None
after tag (b ∷ rest) = if b == tag then Some rest else None

-- what all of the bytes are: a tag, and what is read behind it
abbrev pub whole : {A : Type 0} → ℕ → (List ℕ → Option (A × List ℕ)) → List ℕ → Option A
whole tag read bytes = option_and_then ended (option_and_then read (after tag bytes))

-- what is read, where it passes a test
abbrev pub tested : {A : Type 0} → (A → Bool) → Option A → Option A
tested test read = option_and_then (λ x. if test x then Some x else None) read

-- the answer of a reader: None where nothing is spelled so
abbrev pub told : {T : Type 0} → Result T Stop → Result (Option T) AllocError
told (Ok x) = Ok (Some x)
told (Err Malformed) = Ok None
told (Err Memory) = Err alloc_error
