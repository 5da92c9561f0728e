-- What is spelled is read again, where nothing that could go on stands behind it.
use Rattle.std.proofs.Common.{◌≡◌, inl, inr, Bool, true, false, if◌then◌else◌, List, [], ◌∷◌, ◌++◌, Option, sym, ◌∙◌, ap, append_assoc}
use Rattle.sql_tree.specs.Phrases.{One, Mark, Nothing, Then, Either, Many, Turns}
use Rattle.sql_phrases.specs.Readings.{Read, Shortens, after, picked, one, nothing, both, head_is, choose, stop, refuse, marked, mark, turn, many, turns}
use Rattle.sql_phrases.proofs.Repeats.{many_is, turns_is}

-- no element that `more` holds of stands at the front
abbrev pub Ends : {T : Type 0} → (T → Bool) → List T → Type 0
Ends more [] = Unit {0}
Ends more (t ∷ ts) = more t ≡ false

pub record Again {T V : Type 0} (L : List T → V → Type 0) (more : T → Bool) (read : List T → Read T V) : Type 0 where
  pub reads : (front : List T) (v : V) (rest : List T) → L front v → Ends more rest → read (front ++ rest) ≡ Read.Took v rest

pub again_one : {T V : Type 0} (pick : T → Option V) (more : T → Bool) → Again (One pick) more (one pick)
unfolding one
again_one pick more = record { reads = λ front v rest (t, e, h) k. ap (λ z. one pick (z ++ rest)) e ∙ ap (picked t rest) h }

pub again_nothing : {T V : Type 0} (x : V) (more : T → Bool) → Again (Nothing x) more (nothing x)
unfolding nothing
again_nothing x more = record { reads = λ front v rest (e, h) k. ap (λ z. Read.Took x (z ++ rest)) e ∙ ap (λ z. Read.Took z rest) (sym h) }

pub again_both : {T X V : Type 0} {A : List T → X → Type 0} {B : X → List T → V → Type 0} {a : List T → Read T X} {b : X → List T → Read T V} (ma mb more : T → Bool) → Again A ma a → ((x : X) → Again (B x) mb (b x)) → ((front : List T) (x : X) (v : V) (rest : List T) → B x front v → Ends more rest → Ends ma (front ++ rest)) → ((rest : List T) → Ends more rest → Ends mb rest) → Again (Then A B) more (both a b)
unfolding both
again_both {a = a} {b = b} ma mb more ka kb apart down = record {
  reads = λ front v rest (f, x, g, e, h, k) n.
      ap (λ z. after (a (z ++ rest)) b) e ∙ ap (λ z. after (a z) b) (append_assoc f g rest) ∙ ap (λ q. after q b) (ka.reads f x (g ++ rest) h (apart g x v rest k n)) ∙ (kb x).reads g v rest k (down rest n);
}

pub again_choose : {T V : Type 0} {A B : List T → V → Type 0} {a b : List T → Read T V} (p ma mb more : T → Bool) → Again A ma a → Again B mb b → ((front : List T) (v : V) (rest : List T) → A front v → Ends more rest → head_is p (front ++ rest) ≡ true) → ((front : List T) (v : V) (rest : List T) → B front v → Ends more rest → head_is p (front ++ rest) ≡ false) → ((rest : List T) → Ends more rest → Ends ma rest) → ((rest : List T) → Ends more rest → Ends mb rest) → Again (Either A B) more (choose p a b)
unfolding choose
again_choose {A = A} {B = B} {a = a} {b = b} p ma mb more ka kb stands not_so down_a down_b = record { reads = pick }
  where
    pick : (front : List _) (v : _) (rest : List _) → Either A B front v → Ends more rest → choose p a b (front ++ rest) ≡ Read.Took v rest
    pick front v rest (inl h) n = ap (λ z. if z then a (front ++ rest) else b (front ++ rest)) (stands front v rest h n) ∙ ka.reads front v rest h (down_a rest n)
    pick front v rest (inr h) n = ap (λ z. if z then a (front ++ rest) else b (front ++ rest)) (not_so front v rest h n) ∙ kb.reads front v rest h (down_b rest n)

pub again_refuse : {T V : Type 0} {A : List T → V → Type 0} {a : List T → Read T V} (p ma more : T → Bool) → Again A ma a → ((front : List T) (v : V) (rest : List T) → A front v → Ends more rest → head_is p (front ++ rest) ≡ false) → ((rest : List T) → Ends more rest → Ends ma rest) → Again A more (refuse p a)
unfolding refuse choose
again_refuse {a = a} p ma more k not_so down = record {
  reads = λ front v rest h n. ap (λ z. if z then stop (front ++ rest) else a (front ++ rest)) (not_so front v rest h n) ∙ k.reads front v rest h (down rest n);
}

again_mark_at : {T V : Type 0} (t : T) (p : T → Bool) (a : List T → Read T V) → p t ≡ true → (ts : List T) → mark p a (t ∷ ts) ≡ a ts
unfolding mark both one
again_mark_at t p a hit ts = ap (λ z. after (picked t ts (marked z)) (λ u. a)) hit

pub again_mark : {T V : Type 0} {A : List T → V → Type 0} {a : List T → Read T V} (t : T) (p : T → Bool) (more : T → Bool) → p t ≡ true → Again A more a → Again (Mark t A) more (mark p a)
again_mark {a = a} t p more hit k = record { reads = λ front v rest (b, e, h) n. ap (λ z. mark p a (z ++ rest)) e ∙ again_mark_at t p a hit (b ++ rest) ∙ k.reads b v rest h n }

-- a turn that goes on
turn_goes : {T V : Type 0} (p : T → Bool) (a : List T → Read T V) (m : V → List T → Read T (List V)) (ts mid : List T) (v : V) (vs : List V) (rest : List T) → head_is p ts ≡ true → a ts ≡ Read.Took v mid → m v mid ≡ Read.Took vs rest → turn p a m ts ≡ Read.Took (v ∷ vs) rest
unfolding turn choose both nothing
turn_goes p a m ts mid v vs rest h e k = ap (λ z. if z then after (a ts) (λ w r. after (m w r) (λ ws l. Read.Took (w ∷ ws) l)) else Read.Took [] ts) h ∙ ap (λ q. after q (λ w r. after (m w r) (λ ws l. Read.Took (w ∷ ws) l))) e ∙ ap (λ q. after q (λ ws l. Read.Took (v ∷ ws) l)) k

-- a turn that ends
pub turn_ends : {T V : Type 0} (p : T → Bool) (a : List T → Read T V) (m : V → List T → Read T (List V)) (ts : List T) → head_is p ts ≡ false → turn p a m ts ≡ Read.Took [] ts
unfolding turn choose nothing
turn_ends p a m ts h = ap (λ z. if z then both a (λ v. both (m v) (λ vs. nothing (v ∷ vs))) ts else Read.Took [] ts) h

pub again_many : {T V : Type 0} {A : List T → V → Type 0} {a : List T → Read T V} (p ma more : T → Bool) → Shortens a → Again A ma a → ((front : List T) (v : V) (rest : List T) → A front v → head_is p (front ++ rest) ≡ true) → ((rest : List T) → Ends more rest → head_is p rest ≡ false) → ((front : List T) (vs : List V) (rest : List T) → Many A front vs → Ends more rest → Ends ma (front ++ rest)) → Again (Many A) more (many p a)
again_many {T = T} {V = V} {A = A} {a = a} p ma more shorter k stands no_more apart = record { reads = λ front v rest h n. go v front rest h n }
  where
    go : (vs : List V) (front : List T) (rest : List T) → Many A front vs → Ends more rest → many p a (front ++ rest) ≡ Read.Took vs rest
    go [] front rest h n = ap (λ z. many p a (z ++ rest)) h ∙ many_is p a shorter rest ∙ turn_ends p a (λ v. many p a) rest (no_more rest n)
    go (v ∷ vs) front rest (f, g, e, h, hs) n =
        ap (λ z. many p a (z ++ rest)) e ∙ ap (many p a) (append_assoc f g rest) ∙ many_is p a shorter (f ++ (g ++ rest)) ∙ turn_goes p a (λ v. many p a) (f ++ (g ++ rest)) (g ++ rest) v vs rest (stands f v (g ++ rest) h) (k.reads f v (g ++ rest) h (apart g vs rest hs n)) (go vs g rest hs n)

pub again_turns : {T S V : Type 0} {A : S → List T → V → Type 0} {a : S → List T → Read T V} (p ma more : T → Bool) (next : S → V → S) → ((s : S) → Shortens (a s)) → ((s : S) → Again (A s) ma (a s)) → ((s : S) (front : List T) (v : V) (rest : List T) → A s front v → head_is p (front ++ rest) ≡ true) → ((rest : List T) → Ends more rest → head_is p rest ≡ false) → ((s : S) (front : List T) (vs : List V) (rest : List T) → Turns A next s front vs → Ends more rest → Ends ma (front ++ rest)) → (s : S) → Again (Turns A next s) more (turns p a next s)
again_turns {T = T} {S = S} {V = V} {A = A} {a = a} p ma more next shorter k stands no_more apart s = record { reads = λ front v rest h n. go v s front rest h n }
  where
    go : (vs : List V) (s : S) (front : List T) (rest : List T) → Turns A next s front vs → Ends more rest → turns p a next s (front ++ rest) ≡ Read.Took vs rest
    go [] s front rest h n = ap (λ z. turns p a next s (z ++ rest)) h ∙ turns_is p a next shorter s rest ∙ turn_ends p (a s) (λ v. turns p a next (next s v)) rest (no_more rest n)
    go (v ∷ vs) s front rest (f, g, e, h, hs) n =
        ap (λ z. turns p a next s (z ++ rest)) e ∙ ap (turns p a next s) (append_assoc f g rest) ∙ turns_is p a next shorter s (f ++ (g ++ rest)) ∙ turn_goes p (a s) (λ w. turns p a next (next s w)) (f ++ (g ++ rest)) (g ++ rest) v vs rest (stands s f v (g ++ rest) h) ((k s).reads f v (g ++ rest) h (apart (next s v) g vs rest hs n)) (go vs (next s v) g rest hs n)

-- what is spelled alike has one value
pub again_one_value : {T V : Type 0} (L : List T → V → Type 0) (more : T → Bool) (read : List T → Read T V) → Again L more read → (ts : List T) (s t : V) → L ts s → L ts t → s ≡ t
again_one_value L more read k ts s t h g =
    let one_way : read (ts ++ []) ≡ Read.Took s [] = k.reads ts s [] h tt in
    let other : read (ts ++ []) ≡ Read.Took t [] = k.reads ts t [] g tt in
    let e : Read.Took s [] ≡ Read.Took t [] = sym one_way ∙ other in
    cc
