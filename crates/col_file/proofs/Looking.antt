-- An entry that was looked up, and the one behind it.
use Rattle.std.proofs.Common.{◌≡◌, ℕ, ◌+◌, ◌<◌, ◌≤◌, List, length, get_or, refl, sym, subst}
use Rattle.std.specs.Prelude.{Option, Some, None, IfSome}
use Rattle.std.specs.Option.{option_map, MatchOption}
use Rattle.std.specs.List.{slice_get, HoldsAt}
use Rattle.std.proofs.lemmas.Option.{slice_get_past, slice_get_read}
use Rattle.pos_index.specs.declared.index.Entry.{Entry}

-- what was found behind a reference is what the list has there
behind : {B : Type 0} (now : B → Entry) (xs : List Entry) (i : ℕ) (r : Option B) → MatchOption r (length xs ≤ i) (λ b. (i < length xs) × HoldsAt (λ x. now b ≡ x) xs i) → option_map now r ≡ slice_get xs i
behind now xs i None past = sym (slice_get_past xs i past)
behind now xs i (Some b) (lt, at) = sym (slice_get_read xs (length xs) i (now b) refl lt (at (now b)))

there : (F : Entry → Option Entry → Type 0) (xs : List Entry) (k : ℕ) (x : Entry) (next : Option Entry) → k < length xs → x ≡ get_or xs k x → next ≡ slice_get xs (k + 1) → F x next
    → IfSome (slice_get xs k) (λ e. F e (slice_get xs (k + 1)))
there F xs k x next lt is same f =
    subst (λ (o : Option Entry). IfSome o (λ e. F e (slice_get xs (k + 1)))) (sym (slice_get_read xs (length xs) k x refl lt is)) (subst (F x) same f)

-- what holds of the entry that was read and of the next holds of them as the list has them
pub at_entry : {B : Type 0} (F : Entry → Option Entry → Type 0) (now : B → Entry) (xs ys : List Entry) (k : ℕ) (x : Entry) (r : Option B) → ys ≡ xs → k < length xs → x ≡ get_or ys k x
    → MatchOption r (length ys ≤ k + 1) (λ b. (k + 1 < length ys) × HoldsAt (λ y. now b ≡ y) ys (k + 1)) → F x (option_map now r) → IfSome (slice_get xs k) (λ e. F e (slice_get xs (k + 1)))
at_entry F now xs ys k x r same lt is next f =
    there F xs k x (option_map now r) lt (subst (λ (zs : List Entry). x ≡ get_or zs k x) same is) (subst (λ (zs : List Entry). option_map now r ≡ slice_get zs (k + 1)) same (behind now ys (k + 1) r next)) f
