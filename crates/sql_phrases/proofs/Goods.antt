-- One record for each production: with which symbols it begins and goes on, that its reader is judged, and that it
-- reads again. The side conditions are tests that compute.
use Rattle.std.proofs.Common.{◌≡◌, ◌<◌, inl, inr, Bool, true, false, ◌&&◌, if◌then◌else◌, List, [], ◌∷◌, ◌++◌, length, Option, Some, refl, sym, ◌∙◌, ap, subst, arith, length-append, rules}
use denote.Enum.Bare.{same_true}
use Rattle.sql_words.specs.declared.token.Key.{Key}
use Rattle.sql_words.specs.declared.token.Sign.{Sign}
use Rattle.sql_words.specs.declared.token.Back.{Back}
use Rattle.sql_words.specs.contracts.token.Key as the_key
use Rattle.sql_words.specs.contracts.token.Sign as the_sign
use Rattle.sql_words.specs.contracts.token.Back as the_back
use Rattle.sql_words.specs.contracts.token.KeyPartialEq.TheImpl as keys
use Rattle.sql_words.specs.contracts.token.SignPartialEq.TheImpl as signs
use Rattle.sql_words.specs.contracts.token.BackPartialEq.TheImpl as backs
use Rattle.sql_words.specs.Symbols.{Symbol}
use Rattle.sql_tree.specs.Phrases.{One, Nothing, Then, Either, Many, Turns}
use Rattle.sql_tree.specs.Symbols.{Word, Glyph, Command}
use Rattle.sql_phrases.specs.Readings.{Read, Shortens, one, nothing, both, head_is, choose, refuse, many, turns}
use Rattle.sql_phrases.specs.Classes.{Class, class_of, is_key, is_sign, is_back, same_class, has, in_set, disjoint, subset}
use Rattle.sql_phrases.specs.Readers.{word, glyph, command}
use Rattle.sql_phrases.proofs.Judges.{Takes, Judged, Judge, widen, judge_nothing, judge_one, judge_both, judge_choose, judge_refuse, judge_mark}
use Rattle.sql_phrases.proofs.Repeats.{judge_many, judge_turns}
use Rattle.sql_phrases.proofs.Agains.{Ends, Again, again_one, again_nothing, again_both, again_choose, again_refuse, again_mark, again_many, again_turns}

pub key_same : (j k : Key) → keys.ghosts.eq j k ≡ true → j ≡ k
key_same j k h = same_true the_key.the_type (search rules) _ _ h

pub sign_same : (r s : Sign) → signs.ghosts.eq r s ≡ true → r ≡ s
sign_same r s h = same_true the_sign.the_type (search rules) _ _ h

pub back_same : (a b : Back) → backs.ghosts.eq a b ≡ true → a ≡ b
back_same a b h = same_true the_back.the_type (search rules) _ _ h

pub key_hits : (k : Key) → keys.ghosts.eq k k ≡ true
key_hits k = search rules

pub sign_hits : (s : Sign) → signs.ghosts.eq s s ≡ true
sign_hits s = search rules

pub back_hits : (b : Back) → backs.ghosts.eq b b ≡ true
back_hits b = search rules

class_same : (c d : Class) → same_class c d ≡ true → c ≡ d
class_same (Class.OfKey j) (Class.OfKey k) h = ap Class.OfKey (key_same j k h)
class_same (Class.OfSign r) (Class.OfSign s) h = ap Class.OfSign (sign_same r s h)
class_same (Class.OfBack a) (Class.OfBack b) h = ap Class.OfBack (back_same a b h)
class_same Class.OfName Class.OfName h = refl
class_same Class.OfNumber Class.OfNumber h = refl
class_same Class.OfText Class.OfText h = refl
class_same Class.OfUnknown Class.OfUnknown h = refl
class_same _ _ h = cc

-- sets of classes

apart_step : (d : Class) (cs ds : List Class) (c : Class) (same there : Bool) → same_class c d ≡ same → has ds d ≡ there → (if there then false else disjoint cs ds) ≡ true → (if same then true else has cs c) ≡ true → (disjoint cs ds ≡ true → has cs c ≡ true → has ds c ≡ false) → has ds c ≡ false
apart_step d cs ds c same true e f h k go = cc
apart_step d cs ds c true false e f h k go = ap (has ds) (class_same c d e) ∙ f
apart_step d cs ds c false false e f h k go = go h k

-- a class of the one set is none of the other
apart : (cs ds : List Class) → disjoint cs ds ≡ true → (c : Class) → has cs c ≡ true → has ds c ≡ false
apart [] ds h c k = cc
apart (d ∷ cs) ds h c k = apart_step d cs ds c (same_class c d) (has ds d) refl refl h k (λ g m. apart cs ds g c m)

within_step : (d : Class) (cs ds : List Class) (c : Class) (same there : Bool) → same_class c d ≡ same → has ds d ≡ there → (if there then subset cs ds else false) ≡ true → (if same then true else has cs c) ≡ true → (subset cs ds ≡ true → has cs c ≡ true → has ds c ≡ true) → has ds c ≡ true
within_step d cs ds c same false e f h k go = cc
within_step d cs ds c true true e f h k go = ap (has ds) (class_same c d e) ∙ f
within_step d cs ds c false true e f h k go = go h k

-- a class of the lesser set is one of the greater
within : (cs ds : List Class) → subset cs ds ≡ true → (c : Class) → has cs c ≡ true → has ds c ≡ true
within [] ds h c k = cc
within (d ∷ cs) ds h c k = within_step d cs ds c (same_class c d) (has ds d) refl refl h k (λ g m. within cs ds g c m)

in_left_step : (d : Class) (cs ds : List Class) (c : Class) (same : Bool) → (if same then true else has cs c) ≡ true → (has cs c ≡ true → has (cs ++ ds) c ≡ true) → (if same then true else has (cs ++ ds) c) ≡ true
in_left_step d cs ds c true h go = refl
in_left_step d cs ds c false h go = go h

in_left : (cs ds : List Class) (c : Class) → has cs c ≡ true → has (cs ++ ds) c ≡ true
in_left [] ds c h = cc
in_left (d ∷ cs) ds c h = in_left_step d cs ds c (same_class c d) h (in_left cs ds c)

in_right_step : (b : Bool) (x : Bool) → x ≡ true → (if b then true else x) ≡ true
in_right_step true x h = refl
in_right_step false x h = h

in_right : (cs ds : List Class) (c : Class) → has ds c ≡ true → has (cs ++ ds) c ≡ true
in_right [] ds c h = h
in_right (d ∷ cs) ds c h = in_right_step (same_class c d) (has (cs ++ ds) c) (in_right cs ds c h)

-- a class that is in no part of a set
out_of_true : (b : Bool) → (b ≡ true → false ≡ true) → b ≡ false
out_of_true true h = sym (h refl)
out_of_true false h = refl

out_left : (cs ds : List Class) (c : Class) → has (cs ++ ds) c ≡ false → has cs c ≡ false
out_left cs ds c h = out_of_true (has cs c) (λ k. sym h ∙ in_left cs ds c k)

out_right : (cs ds : List Class) (c : Class) → has (cs ++ ds) c ≡ false → has ds c ≡ false
out_right cs ds c h = out_of_true (has ds c) (λ k. sym h ∙ in_right cs ds c k)

out_within : (cs ds : List Class) → subset cs ds ≡ true → (c : Class) → has ds c ≡ false → has cs c ≡ false
out_within cs ds s c h = out_of_true (has cs c) (λ k. sym h ∙ within cs ds s c k)

ends_left : (cs ds : List Class) (rest : List Symbol) → Ends (in_set (cs ++ ds)) rest → Ends (in_set cs) rest
ends_left cs ds [] h = tt
ends_left cs ds (t ∷ ts) h = out_left cs ds (class_of t) h

ends_right : (cs ds : List Class) (rest : List Symbol) → Ends (in_set (cs ++ ds)) rest → Ends (in_set ds) rest
ends_right cs ds [] h = tt
ends_right cs ds (t ∷ ts) h = out_right cs ds (class_of t) h

ends_within : (cs ds : List Class) → subset cs ds ≡ true → (rest : List Symbol) → Ends (in_set ds) rest → Ends (in_set cs) rest
ends_within cs ds s [] h = tt
ends_within cs ds s (t ∷ ts) h = out_within cs ds s (class_of t) h

-- a front that is empty, where it may be, or begins with a class of the set
abbrev pub Begins : List Class → Bool → List Symbol → Type 0
Begins cs empty [] = empty ≡ true
Begins cs empty (t ∷ ts) = in_set cs t ≡ true

-- `first`: the classes that L begins with; `empty`: whether no symbol may spell it; `more`: the classes that may go on
pub record Good {V : Type 0} (L : List Symbol → V → Type 0) (read : List Symbol → Read Symbol V) (first : List Class) (empty : Bool) (more : List Class) : Type 0 where
  pub judge : Judge L read
  pub again : Again L (in_set more) read
  pub begins : (front : List Symbol) (v : V) → L front v → Begins first empty front

pub good_nothing : {V : Type 0} (v : V) → Good (Nothing v) (nothing v) [] true []
good_nothing v = record {
  judge = judge_nothing v;
  again = again_nothing v (in_set []);
  begins = λ front w (e, h). subst (Begins [] true) (sym e) refl;
}

-- t is one symbol that carries a value, and each that does is of the set
pub good_one : {V : Type 0} (pick : Symbol → Option V) (cs : List Class) (t : Symbol) (v : V) → pick t ≡ Some v → ((u : Symbol) (w : V) → pick u ≡ Some w → in_set cs u ≡ true) → Good (One pick) (one pick) cs false []
good_one pick cs t v e only = record {
  judge = judge_one pick t v e;
  again = again_one pick (in_set []);
  begins = λ front w (u, f, h). subst (Begins cs false) (sym f) (only u w h);
}

key_only : (k : Key) (u : Symbol) → is_key k u ≡ true → u ≡ Symbol.Keyword k
key_only k (Symbol.Keyword j) h = ap Symbol.Keyword (key_same j k h)
key_only k (Symbol.Name n) h = cc
key_only k (Symbol.Number n) h = cc
key_only k (Symbol.Text n) h = cc
key_only k (Symbol.Mark n) h = cc
key_only k (Symbol.Command n) h = cc
key_only k Symbol.Unknown h = cc

sign_only : (s : Sign) (u : Symbol) → is_sign s u ≡ true → u ≡ Symbol.Mark s
sign_only s (Symbol.Keyword j) h = cc
sign_only s (Symbol.Name n) h = cc
sign_only s (Symbol.Number n) h = cc
sign_only s (Symbol.Text n) h = cc
sign_only s (Symbol.Mark r) h = ap Symbol.Mark (sign_same r s h)
sign_only s (Symbol.Command n) h = cc
sign_only s Symbol.Unknown h = cc

back_only : (b : Back) (u : Symbol) → is_back b u ≡ true → u ≡ Symbol.Command b
back_only b (Symbol.Keyword n) h = cc
back_only b (Symbol.Name n) h = cc
back_only b (Symbol.Number n) h = cc
back_only b (Symbol.Text n) h = cc
back_only b (Symbol.Mark n) h = cc
back_only b (Symbol.Command a) h = ap Symbol.Command (back_same a b h)
back_only b Symbol.Unknown h = cc

one_class : (b : Bool) → b ≡ (if b then true else false)
one_class true = refl
one_class false = refl

pub key_tells : (k : Key) (t : Symbol) → is_key k t ≡ in_set (Class.OfKey k ∷ []) t
key_tells k (Symbol.Keyword j) = one_class (keys.ghosts.eq j k)
key_tells k (Symbol.Name n) = refl
key_tells k (Symbol.Number n) = refl
key_tells k (Symbol.Text n) = refl
key_tells k (Symbol.Mark n) = refl
key_tells k (Symbol.Command n) = refl
key_tells k Symbol.Unknown = refl

pub sign_tells : (s : Sign) (t : Symbol) → is_sign s t ≡ in_set (Class.OfSign s ∷ []) t
sign_tells s (Symbol.Keyword j) = refl
sign_tells s (Symbol.Name n) = refl
sign_tells s (Symbol.Number n) = refl
sign_tells s (Symbol.Text n) = refl
sign_tells s (Symbol.Mark r) = one_class (signs.ghosts.eq r s)
sign_tells s (Symbol.Command n) = refl
sign_tells s Symbol.Unknown = refl

pub back_tells : (b : Back) (t : Symbol) → is_back b t ≡ in_set (Class.OfBack b ∷ []) t
back_tells b (Symbol.Keyword n) = refl
back_tells b (Symbol.Name n) = refl
back_tells b (Symbol.Number n) = refl
back_tells b (Symbol.Text n) = refl
back_tells b (Symbol.Mark n) = refl
back_tells b (Symbol.Command a) = one_class (backs.ghosts.eq a b)
back_tells b Symbol.Unknown = refl

pub good_key : {V : Type 0} {A : List Symbol → V → Type 0} {a : List Symbol → Read Symbol V} {fa ma : List Class} {ea : Bool} (k : Key) → Good A a fa ea ma → Good (Word k A) (word k a) (Class.OfKey k ∷ []) false ma
good_key {ma = ma} k g = record {
  judge = judge_mark (Symbol.Keyword k) (is_key k) (key_hits k) (key_only k) g.judge;
  again = again_mark (Symbol.Keyword k) (is_key k) (in_set ma) (key_hits k) g.again;
  begins = λ front v (b, e, h). subst (Begins (Class.OfKey k ∷ []) false) (sym e) (sym (key_tells k (Symbol.Keyword k)) ∙ key_hits k);
}

pub good_sign : {V : Type 0} {A : List Symbol → V → Type 0} {a : List Symbol → Read Symbol V} {fa ma : List Class} {ea : Bool} (s : Sign) → Good A a fa ea ma → Good (Glyph s A) (glyph s a) (Class.OfSign s ∷ []) false ma
good_sign {ma = ma} s g = record {
  judge = judge_mark (Symbol.Mark s) (is_sign s) (sign_hits s) (sign_only s) g.judge;
  again = again_mark (Symbol.Mark s) (is_sign s) (in_set ma) (sign_hits s) g.again;
  begins = λ front v (b, e, h). subst (Begins (Class.OfSign s ∷ []) false) (sym e) (sym (sign_tells s (Symbol.Mark s)) ∙ sign_hits s);
}

pub good_back : {V : Type 0} {A : List Symbol → V → Type 0} {a : List Symbol → Read Symbol V} {fa ma : List Class} {ea : Bool} (b : Back) → Good A a fa ea ma → Good (Command b A) (command b a) (Class.OfBack b ∷ []) false ma
good_back {ma = ma} b g = record {
  judge = judge_mark (Symbol.Command b) (is_back b) (back_hits b) (back_only b) g.judge;
  again = again_mark (Symbol.Command b) (is_back b) (in_set ma) (back_hits b) g.again;
  begins = λ front v (r, e, h). subst (Begins (Class.OfBack b ∷ []) false) (sym e) (sym (back_tells b (Symbol.Command b)) ∙ back_hits b);
}

abbrev pub first_then : List Class → Bool → List Class → List Class
first_then fa true fb = fa ++ fb
first_then fa false fb = fa

abbrev pub more_then : List Class → Bool → List Class → List Class
more_then ma true mb = ma ++ mb
more_then ma false mb = mb

then_apart : (fb ma mb : List Class) (eb : Bool) → disjoint fb ma ≡ true → (front rest : List Symbol) → Begins fb eb front → Ends (in_set (more_then ma eb mb)) rest → Ends (in_set ma) (front ++ rest)
then_apart fb ma mb true d [] rest h n = ends_left ma mb rest n
then_apart fb ma mb false d [] rest h n = absurd cc
then_apart fb ma mb eb d (t ∷ ts) rest h n = apart fb ma d (class_of t) h

then_down : (ma mb : List Class) (eb : Bool) (rest : List Symbol) → Ends (in_set (more_then ma eb mb)) rest → Ends (in_set mb) rest
then_down ma mb true rest n = ends_right ma mb rest n
then_down ma mb false rest n = n

then_begins : (fa fb : List Class) (ea eb : Bool) (f g : List Symbol) → Begins fa ea f → Begins fb eb g → Begins (first_then fa ea fb) (ea && eb) (f ++ g)
then_begins fa fb true eb [] [] h k = k
then_begins fa fb false eb [] [] h k = h
then_begins fa fb true eb [] (t ∷ ts) h k = in_right fa fb (class_of t) k
then_begins fa fb false eb [] (t ∷ ts) h k = absurd cc
then_begins fa fb true eb (t ∷ ts) g h k = in_left fa fb (class_of t) h
then_begins fa fb false eb (t ∷ ts) g h k = h

pub good_then : {X V : Type 0} {A : List Symbol → X → Type 0} {B : X → List Symbol → V → Type 0} {a : List Symbol → Read Symbol X} {b : X → List Symbol → Read Symbol V} {fa ma fb mb : List Class} {ea eb : Bool} → disjoint fb ma ≡ true → Good A a fa ea ma → ((x : X) → Good (B x) (b x) fb eb mb) → Good (Then A B) (both a b) (first_then fa ea fb) (ea && eb) (more_then ma eb mb)
good_then {fa = fa} {ma = ma} {fb = fb} {mb = mb} {ea = ea} {eb = eb} d g h = record {
  judge = judge_both g.judge (λ x. (h x).judge);
  again = again_both (in_set ma) (in_set mb) (in_set (more_then ma eb mb)) g.again (λ x. (h x).again) (λ front x v rest k n. then_apart fb ma mb eb d front rest ((h x).begins front v k) n) (then_down ma mb eb);
  begins = λ front v (f, x, k, e, m, n). subst (Begins (first_then fa ea fb) (ea && eb)) (sym e) (then_begins fa fb ea eb f k (g.begins f x m) ((h x).begins k v n));
}

-- A's value made to another
pub good_made : {X V : Type 0} {A : List Symbol → X → Type 0} {a : List Symbol → Read Symbol X} {fa ma : List Class} {ea : Bool} (f : X → V) → Good A a fa ea ma → Good (Then A (λ x. Nothing (f x))) (both a (λ x. nothing (f x))) (first_then fa ea []) (ea && true) (more_then ma true [])
good_made f g = good_then refl g (λ x. good_nothing (f x))

abbrev pub empty_more : Bool → List Class → List Class
empty_more true cs = cs
empty_more false cs = []

either_yes : (p : Symbol → Bool) (cs fa : List Class) → ((t : Symbol) → p t ≡ in_set cs t) → subset fa cs ≡ true → (front rest : List Symbol) → Begins fa false front → head_is p (front ++ rest) ≡ true
either_yes p cs fa tells s [] rest h = cc
either_yes p cs fa tells s (t ∷ ts) rest h = tells t ∙ within fa cs s (class_of t) h

either_no : (p : Symbol → Bool) (cs fb ma mb : List Class) (eb : Bool) → ((t : Symbol) → p t ≡ in_set cs t) → disjoint fb cs ≡ true → (front rest : List Symbol) → Begins fb eb front → Ends (in_set (ma ++ (mb ++ empty_more eb cs))) rest → head_is p (front ++ rest) ≡ false
either_no p cs fb ma mb true tells d [] [] h n = refl
either_no p cs fb ma mb true tells d [] (t ∷ ts) h n = tells t ∙ out_right mb cs (class_of t) (out_right ma (mb ++ cs) (class_of t) n)
either_no p cs fb ma mb false tells d [] rest h n = absurd cc
either_no p cs fb ma mb eb tells d (t ∷ ts) rest h n = tells t ∙ apart fb cs d (class_of t) h

either_begins_left : (fa fb : List Class) (eb : Bool) (front : List Symbol) → Begins fa false front → Begins (fa ++ fb) eb front
either_begins_left fa fb eb [] h = absurd cc
either_begins_left fa fb eb (t ∷ ts) h = in_left fa fb (class_of t) h

either_begins_right : (fa fb : List Class) (eb : Bool) (front : List Symbol) → Begins fb eb front → Begins (fa ++ fb) eb front
either_begins_right fa fb eb [] h = h
either_begins_right fa fb eb (t ∷ ts) h = in_right fa fb (class_of t) h

either_begins : {V : Type 0} {A B : List Symbol → V → Type 0} (fa fb : List Class) (eb : Bool) → ((front : List Symbol) (v : V) → A front v → Begins fa false front) → ((front : List Symbol) (v : V) → B front v → Begins fb eb front) → (front : List Symbol) (v : V) → Either A B front v → Begins (fa ++ fb) eb front
either_begins fa fb eb left right front v (inl h) = either_begins_left fa fb eb front (left front v h)
either_begins fa fb eb left right front v (inr h) = either_begins_right fa fb eb front (right front v h)

-- the test p tells which of the two stands there
pub good_either : {V : Type 0} {A B : List Symbol → V → Type 0} {a b : List Symbol → Read Symbol V} {fa ma fb mb : List Class} {eb : Bool} (p : Symbol → Bool) (cs : List Class) → ((t : Symbol) → p t ≡ in_set cs t) → subset fa cs ≡ true → disjoint fb cs ≡ true → Good A a fa false ma → Good B b fb eb mb → Good (Either A B) (choose p a b) (fa ++ fb) eb (ma ++ (mb ++ empty_more eb cs))
good_either {A = A} {B = B} {fa = fa} {ma = ma} {fb = fb} {mb = mb} {eb = eb} p cs tells s d g h = record {
  judge = judge_choose p g.judge h.judge;
  again = again_choose p (in_set ma) (in_set mb) (in_set (ma ++ (mb ++ empty_more eb cs))) g.again h.again
      (λ front v rest k n. either_yes p cs fa tells s front rest (g.begins front v k))
      (λ front v rest k n. either_no p cs fb ma mb eb tells d front rest (h.begins front v k) n)
      (λ rest n. ends_left ma (mb ++ empty_more eb cs) rest n)
      (λ rest n. ends_left mb (empty_more eb cs) rest (ends_right ma (mb ++ empty_more eb cs) rest n));
  begins = either_begins fa fb eb g.begins h.begins;
}

shorter_front : (fa : List Class) (front rest ts : List Symbol) → Begins fa false front → ts ≡ front ++ rest → length rest < length ts
shorter_front fa [] rest ts h e = absurd cc
shorter_front fa (t ∷ front) rest ts h e = let n = ap length e in let m = length-append front rest in omega arith

-- what isn't empty shortens
pub good_shortens : {V : Type 0} {A : List Symbol → V → Type 0} {a : List Symbol → Read Symbol V} {fa ma : List Class} → Good A a fa false ma → Shortens a
good_shortens {A = A} {a = a} {fa = fa} g = λ ts v rest e.
    let k : Takes A a ts v rest = subst (λ q. Judged A a ts q) e (g.judge.each ts) in
    shorter_front fa k.front rest ts (g.begins k.front v k.spelled) k.is

many_begins : (fa : List Class) (f g : List Symbol) → Begins fa false f → Begins fa true (f ++ g)
many_begins fa [] g h = absurd cc
many_begins fa (t ∷ ts) g h = h

many_front : {V : Type 0} {A : List Symbol → V → Type 0} (fa : List Class) → ((front : List Symbol) (v : V) → A front v → Begins fa false front) → (vs : List V) (front : List Symbol) → Many A front vs → Begins fa true front
many_front fa begins [] front e = subst (Begins fa true) (sym e) refl
many_front fa begins (v ∷ vs) front (f, g, e, h, k) = subst (Begins fa true) (sym e) (many_begins fa f g (begins f v h))

many_apart : (fa ma cs : List Class) → disjoint fa ma ≡ true → (front rest : List Symbol) → Begins fa true front → Ends (in_set (ma ++ cs)) rest → Ends (in_set ma) (front ++ rest)
many_apart fa ma cs d [] rest h n = ends_left ma cs rest n
many_apart fa ma cs d (t ∷ ts) rest h n = apart fa ma d (class_of t) h

many_no : (p : Symbol → Bool) (ma cs : List Class) → ((t : Symbol) → p t ≡ in_set cs t) → (rest : List Symbol) → Ends (in_set (ma ++ cs)) rest → head_is p rest ≡ false
many_no p ma cs tells [] n = refl
many_no p ma cs tells (t ∷ ts) n = tells t ∙ out_right ma cs (class_of t) n

-- the test p tells whether one more stands there
pub good_many : {V : Type 0} {A : List Symbol → V → Type 0} {a : List Symbol → Read Symbol V} {fa ma : List Class} (p : Symbol → Bool) (cs : List Class) → ((t : Symbol) → p t ≡ in_set cs t) → subset fa cs ≡ true → disjoint fa ma ≡ true → Good A a fa false ma → Good (Many A) (many p a) fa true (ma ++ cs)
good_many {fa = fa} {ma = ma} p cs tells s d g = record {
  judge = judge_many p (good_shortens g) g.judge;
  again = again_many p (in_set ma) (in_set (ma ++ cs)) (good_shortens g) g.again
      (λ front v rest h. either_yes p cs fa tells s front rest (g.begins front v h))
      (λ rest n. many_no p ma cs tells rest n)
      (λ front vs rest h n. many_apart fa ma cs d front rest (many_front fa g.begins vs front h) n);
  begins = λ front vs h. many_front fa g.begins vs front h;
}

turns_front : {S V : Type 0} {A : S → List Symbol → V → Type 0} (fa : List Class) (next : S → V → S) → ((s : S) (front : List Symbol) (v : V) → A s front v → Begins fa false front) → (vs : List V) (s : S) (front : List Symbol) → Turns A next s front vs → Begins fa true front
turns_front fa next begins [] s front e = subst (Begins fa true) (sym e) refl
turns_front fa next begins (v ∷ vs) s front (f, g, e, h, k) = subst (Begins fa true) (sym e) (many_begins fa f g (begins s f v h))

-- the same in a state, which changes neither with which symbols one begins nor which go on
pub good_turns : {S V : Type 0} {A : S → List Symbol → V → Type 0} {a : S → List Symbol → Read Symbol V} {fa ma : List Class} (p : Symbol → Bool) (cs : List Class) → ((t : Symbol) → p t ≡ in_set cs t) → subset fa cs ≡ true → disjoint fa ma ≡ true → (next : S → V → S) → ((s : S) → Good (A s) (a s) fa false ma) → (s : S) → Good (Turns A next s) (turns p a next s) fa true (ma ++ cs)
good_turns {fa = fa} {ma = ma} p cs tells s d next g state = record {
  judge = judge_turns p next (λ z. good_shortens (g z)) (λ z. (g z).judge) state;
  again = again_turns p (in_set ma) (in_set (ma ++ cs)) next (λ z. good_shortens (g z)) (λ z. (g z).again)
      (λ z front v rest h. either_yes p cs fa tells s front rest ((g z).begins front v h))
      (λ rest n. many_no p ma cs tells rest n)
      (λ z front vs rest h n. many_apart fa ma cs d front rest (turns_front fa next (λ y f v k. (g y).begins f v k) vs z front h) n) state;
  begins = λ front vs h. turns_front fa next (λ y f v k. (g y).begins f v k) vs state front h;
}

refuse_no : (p : Symbol → Bool) (cs fa ma : List Class) (ea : Bool) → ((t : Symbol) → p t ≡ in_set cs t) → disjoint fa cs ≡ true → (front rest : List Symbol) → Begins fa ea front → Ends (in_set (ma ++ cs)) rest → head_is p (front ++ rest) ≡ false
refuse_no p cs fa ma ea tells d [] [] h n = refl
refuse_no p cs fa ma ea tells d [] (t ∷ ts) h n = tells t ∙ out_right ma cs (class_of t) n
refuse_no p cs fa ma ea tells d (t ∷ ts) rest h n = tells t ∙ apart fa cs d (class_of t) h

-- nothing that the test p holds of may stand there
pub good_refuse : {V : Type 0} {A : List Symbol → V → Type 0} {a : List Symbol → Read Symbol V} {fa ma : List Class} {ea : Bool} (p : Symbol → Bool) (cs : List Class) → ((t : Symbol) → p t ≡ in_set cs t) → disjoint fa cs ≡ true → Good A a fa ea ma → Good A (refuse p a) fa ea (ma ++ cs)
good_refuse {fa = fa} {ma = ma} {ea = ea} p cs tells d g = record {
  judge = judge_refuse p g.judge;
  again = again_refuse p (in_set ma) (in_set (ma ++ cs)) g.again
      (λ front v rest k n. refuse_no p cs fa ma ea tells d front rest (g.begins front v k) n)
      (λ rest n. ends_left ma cs rest n);
  begins = g.begins;
}

-- the same where the same symbols spell it
pub good_alike : {V : Type 0} {A L : List Symbol → V → Type 0} {a : List Symbol → Read Symbol V} {fa ma : List Class} {ea : Bool} → ((front : List Symbol) (v : V) → A front v → L front v) → ((front : List Symbol) (v : V) → L front v → A front v) → Good A a fa ea ma → Good L a fa ea ma
good_alike {A = A} {L = L} {a = a} up down g =
    let some = g.judge.some in
    record {
      judge = record {
        some = record { more = some.more; value = some.value; spelled = up some.more some.value some.spelled };
        each = λ ts. widen A L a a ts up (λ f t r s e. refl) (a ts) (g.judge.each ts);
      };
      again = record { reads = λ front v rest k n. g.again.reads front v rest (down front v k) n };
      begins = λ front v k. g.begins front v (down front v k);
    }

begins_wider : (fa f : List Class) (ea e : Bool) → subset fa f ≡ true → ea ≡ e → (front : List Symbol) → Begins fa ea front → Begins f e front
begins_wider fa f ea e s h [] b = sym h ∙ b
begins_wider fa f ea e s h (t ∷ ts) b = within fa f s (class_of t) b

-- the same for greater sets
pub good_wider : {V : Type 0} {A : List Symbol → V → Type 0} {a : List Symbol → Read Symbol V} {fa ma : List Class} {ea : Bool} (f : List Class) (e : Bool) (m : List Class) → subset fa f ≡ true → ea ≡ e → subset ma m ≡ true → Good A a fa ea ma → Good A a f e m
good_wider {fa = fa} {ma = ma} {ea = ea} f e m s h n g = record {
  judge = g.judge;
  again = record { reads = λ front v rest k w. g.again.reads front v rest k (ends_within ma m n rest w) };
  begins = λ front v k. begins_wider fa f ea e s h front (g.begins front v k);
}

prefer_left : {V : Type 0} (A : List Symbol → V → Type 0) (a b : List Symbol → Read Symbol V) (p : Symbol → Bool) (ma mb : List Class) → Again A (in_set ma) a → (front : List Symbol) (v : V) (rest : List Symbol) → A front v → head_is p (front ++ rest) ≡ true → Ends (in_set (ma ++ mb)) rest → choose p a b (front ++ rest) ≡ Read.Took v rest
unfolding choose
prefer_left A a b p ma mb k front v rest h e n = ap (λ z. if z then a (front ++ rest) else b (front ++ rest)) e ∙ k.reads front v rest h (ends_left ma mb rest n)

prefer_right : {V : Type 0} (A B : List Symbol → V → Type 0) (a b : List Symbol → Read Symbol V) (p : Symbol → Bool) (ma mb : List Class) → Again A (in_set ma) a → Again B (in_set mb) b → ((front : List Symbol) (v : V) → B front v → head_is p front ≡ true → A front v) → (t : Symbol) (front : List Symbol) (v : V) (rest : List Symbol) → B (t ∷ front) v → Ends (in_set (ma ++ mb)) rest → (flag : Bool) → p t ≡ flag → choose p a b ((t ∷ front) ++ rest) ≡ Read.Took v rest
unfolding choose
prefer_right A B a b p ma mb ka kb also t front v rest h n true e = prefer_left A a b p ma mb ka (t ∷ front) v rest (also (t ∷ front) v h e) e n
prefer_right A B a b p ma mb ka kb also t front v rest h n false e = ap (λ z. if z then a (t ∷ (front ++ rest)) else b (t ∷ (front ++ rest))) e ∙ kb.reads (t ∷ front) v rest h (ends_right ma mb rest n)

prefer_reads : {V : Type 0} (A B : List Symbol → V → Type 0) (a b : List Symbol → Read Symbol V) (p : Symbol → Bool) (fb ma mb : List Class) → Again A (in_set ma) a → Again B (in_set mb) b → ((front : List Symbol) (v : V) → A front v → (rest : List Symbol) → head_is p (front ++ rest) ≡ true) → ((front : List Symbol) (v : V) → B front v → Begins fb false front) → ((front : List Symbol) (v : V) → B front v → head_is p front ≡ true → A front v) → (front : List Symbol) (v : V) (rest : List Symbol) → Either A B front v → Ends (in_set (ma ++ mb)) rest → choose p a b (front ++ rest) ≡ Read.Took v rest
prefer_reads A B a b p fb ma mb ka kb stands begins also front v rest (inl h) n = prefer_left A a b p ma mb ka front v rest h (stands front v h rest) n
prefer_reads A B a b p fb ma mb ka kb stands begins also [] v rest (inr h) n = let none = begins [] v h in absurd cc
prefer_reads A B a b p fb ma mb ka kb stands begins also (t ∷ front) v rest (inr h) n = prefer_right A B a b p ma mb ka kb also t front v rest h n (p t) refl

-- the test p tells of the first of two; what the second spells from such a symbol on, the first spells too
pub good_prefer : {V : Type 0} {A B : List Symbol → V → Type 0} {a b : List Symbol → Read Symbol V} {fa ma fb mb : List Class} (p : Symbol → Bool) (cs : List Class) → ((t : Symbol) → p t ≡ in_set cs t) → subset fa cs ≡ true → Good A a fa false ma → Good B b fb false mb → ((front : List Symbol) (v : V) → B front v → head_is p front ≡ true → A front v) → Good (Either A B) (choose p a b) (fa ++ fb) false (ma ++ mb)
good_prefer {A = A} {B = B} {a = a} {b = b} {fa = fa} {ma = ma} {fb = fb} {mb = mb} p cs tells s g h also = record {
  judge = judge_choose p g.judge h.judge;
  again = record { reads = prefer_reads A B a b p fb ma mb g.again h.again (λ front v k rest. either_yes p cs fa tells s front rest (g.begins front v k)) h.begins also };
  begins = either_begins fa fb false g.begins h.begins;
}

-- what stands at the head of a list, by sets of classes

-- a symbol of one set is none of another
pub head_apart : (p : Symbol → Bool) (ds cs : List Class) → ((t : Symbol) → p t ≡ in_set ds t) → disjoint cs ds ≡ true → (ts : List Symbol) → head_is (in_set cs) ts ≡ true → head_is p ts ≡ false
head_apart p ds cs tells d [] h = refl
head_apart p ds cs tells d (t ∷ ts) h = tells t ∙ apart cs ds d (class_of t) h

-- a symbol of the lesser set is one of the greater
pub head_within : (cs ds : List Class) → subset cs ds ≡ true → (ts : List Symbol) → head_is (in_set cs) ts ≡ true → head_is (in_set ds) ts ≡ true
head_within cs ds s [] h = h
head_within cs ds s (t ∷ ts) h = within cs ds s (class_of t) h

pub begins_head : (cs : List Class) (front : List Symbol) → Begins cs false front → head_is (in_set cs) front ≡ true
begins_head cs [] b = b
begins_head cs (t ∷ ts) b = b

clash : (fa cs : List Class) → disjoint fa cs ≡ true → (t : Symbol) (front ts : List Symbol) → in_set fa t ≡ true → ts ≡ t ∷ front → head_is (in_set cs) ts ≡ true → ⊥
clash fa cs d t front ts b e h =
    let out : in_set cs t ≡ false = apart fa cs d (class_of t) b in
    let there : in_set cs t ≡ true = ap (head_is (in_set cs)) (sym e) ∙ h in
    cc

never_taken : (fa cs : List Class) → disjoint fa cs ≡ true → (front rest ts : List Symbol) → Begins fa false front → ts ≡ front ++ rest → head_is (in_set cs) ts ≡ true → ⊥
never_taken fa cs d [] rest ts b e h = cc
never_taken fa cs d (t ∷ front) rest ts b e h = clash fa cs d t (front ++ rest) ts b e h

at_once : (fa cs : List Class) → disjoint fa cs ≡ true → (front more rest ts : List Symbol) → Begins fa false (front ++ more) → ts ≡ front ++ rest → head_is (in_set cs) ts ≡ true → rest ≡ ts
at_once fa cs d [] more rest ts b e h = sym e
at_once fa cs d (t ∷ front) more rest ts b e h = absurd (clash fa cs d t (front ++ rest) ts b e h)

stops_so : {V : Type 0} (A : List Symbol → V → Type 0) (a : List Symbol → Read Symbol V) (fa cs : List Class) → disjoint fa cs ≡ true → ((front : List Symbol) (v : V) → A front v → Begins fa false front) → (ts : List Symbol) → head_is (in_set cs) ts ≡ true → (q : Read Symbol V) → Judged A a ts q → q ≡ Read.Stopped ts
stops_so A a fa cs d begins ts h (Read.Took v rest) k = absurd (never_taken fa cs d k.front rest ts (begins k.front v k.spelled) k.is h)
stops_so A a fa cs d begins ts h (Read.Stopped rest) k = ap Read.Stopped (at_once fa cs d k.front k.opens.more rest ts (begins (k.front ++ k.opens.more) k.opens.value k.opens.spelled) k.is h)

-- a reader stops at once at a symbol with which nothing begins that it reads
pub good_stops : {V : Type 0} {A : List Symbol → V → Type 0} {a : List Symbol → Read Symbol V} {fa ma : List Class} (cs : List Class) → Good A a fa false ma → disjoint fa cs ≡ true → (ts : List Symbol) → head_is (in_set cs) ts ≡ true → a ts ≡ Read.Stopped ts
good_stops {A = A} {a = a} {fa = fa} cs g d ts h = stops_so A a fa cs d g.begins ts h (a ts) (g.judge.each ts)
