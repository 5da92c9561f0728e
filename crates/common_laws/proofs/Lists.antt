-- What holds of some item of a list, of the parts of it.
use Rattle.std.proofs.Common.{List, ◌++◌, inl, inr}
use Rattle.std.specs.Prelude.{◌⊎◌, Contains}
use Rattle.std.specs.List.{Any}
use Rattle.std.proofs.lemmas.List.Elements.{Contains-append_left, Contains-append_right, Contains-append_cases}

pub any_left : {X : Type 0} (P : X → Type 0) (xs ys : List X) → Any P xs → Any P (xs ++ ys)
any_left P xs ys (k, x, lt, is, p) = let c = Contains-append_left xs ys x (k, lt, is) in (c.0, x, c.1, c.2, p)

pub any_right : {X : Type 0} (P : X → Type 0) (xs ys : List X) → Any P ys → Any P (xs ++ ys)
any_right P xs ys (k, x, lt, is, p) = let c = Contains-append_right xs ys x (k, lt, is) in (c.0, x, c.1, c.2, p)

pub any_cases : {X : Type 0} (P : X → Type 0) (xs ys : List X) → Any P (xs ++ ys) → Any P xs ⊎ Any P ys
any_cases {X} P xs ys (k, x, lt, is, p) = cases (Contains-append_cases xs ys x (k, lt, is))
  where
    cases : Contains xs x ⊎ Contains ys x → Any P xs ⊎ Any P ys
    cases (inl c) = inl (c.0, x, c.1, c.2, p)
    cases (inr c) = inr (c.0, x, c.1, c.2, p)
