-- The shapes that productions have, good where their parts are.
use Rattle.std.proofs.Common.{◌≡◌, Bool, true, false, if◌then◌else◌, List, [], ◌∷◌, ◌++◌, refl, ap}
use Rattle.sql_words.specs.declared.token.Key.{Key}
use Rattle.sql_words.specs.declared.token.Sign.{Sign}
use Rattle.sql_words.specs.declared.token.Back.{Back}
use Rattle.sql_words.specs.Symbols.{Symbol}
use Rattle.sql_tree.specs.Phrases.{Mark, Nothing, Then, Either, Many, Chain}
use Rattle.sql_tree.specs.Symbols.{Inside, Listed}
use Rattle.sql_phrases.specs.Readings.{Read, choose}
use Rattle.sql_phrases.specs.Classes.{Class, is_key, is_sign, is_back, in_set, disjoint, subset}
use Rattle.sql_phrases.specs.Readers.{inside, word_rest, glyph_rest, by_word, by_glyph, listed}
use Rattle.sql_phrases.proofs.Goods.{Good, key_hits, sign_hits, back_hits, key_tells, sign_tells, back_tells, good_nothing, good_key, good_sign, good_then, good_made, empty_more, good_either, good_many}

key_self : (k : Key) → subset (Class.OfKey k ∷ []) (Class.OfKey k ∷ []) ≡ true
key_self k = ap (λ b. if (if b then true else false) then true else false) (key_hits k)

sign_self : (s : Sign) → subset (Class.OfSign s ∷ []) (Class.OfSign s ∷ []) ≡ true
sign_self s = ap (λ b. if (if b then true else false) then true else false) (sign_hits s)

back_self : (b : Back) → subset (Class.OfBack b ∷ []) (Class.OfBack b ∷ []) ≡ true
back_self b = ap (λ z. if (if z then true else false) then true else false) (back_hits b)

-- the first of two begins with a keyword
pub good_at_key : {V : Type 0} {A B : List Symbol → V → Type 0} {a b : List Symbol → Read Symbol V} {ma fb mb : List Class} {eb : Bool} (k : Key) → disjoint fb (Class.OfKey k ∷ []) ≡ true → Good A a (Class.OfKey k ∷ []) false ma → Good B b fb eb mb → Good (Either A B) (choose (is_key k) a b) (Class.OfKey k ∷ fb) eb (ma ++ (mb ++ empty_more eb (Class.OfKey k ∷ [])))
good_at_key k d g h = good_either (is_key k) (Class.OfKey k ∷ []) (key_tells k) (key_self k) d g h

-- the first of two begins with a sign
pub good_at_sign : {V : Type 0} {A B : List Symbol → V → Type 0} {a b : List Symbol → Read Symbol V} {ma fb mb : List Class} {eb : Bool} (s : Sign) → disjoint fb (Class.OfSign s ∷ []) ≡ true → Good A a (Class.OfSign s ∷ []) false ma → Good B b fb eb mb → Good (Either A B) (choose (is_sign s) a b) (Class.OfSign s ∷ fb) eb (ma ++ (mb ++ empty_more eb (Class.OfSign s ∷ [])))
good_at_sign s d g h = good_either (is_sign s) (Class.OfSign s ∷ []) (sign_tells s) (sign_self s) d g h

-- the first of two begins with a command
pub good_at_back : {V : Type 0} {A B : List Symbol → V → Type 0} {a b : List Symbol → Read Symbol V} {ma fb mb : List Class} {eb : Bool} (c : Back) → disjoint fb (Class.OfBack c ∷ []) ≡ true → Good A a (Class.OfBack c ∷ []) false ma → Good B b fb eb mb → Good (Either A B) (choose (is_back c) a b) (Class.OfBack c ∷ fb) eb (ma ++ (mb ++ empty_more eb (Class.OfBack c ∷ [])))
good_at_back c d g h = good_either (is_back c) (Class.OfBack c ∷ []) (back_tells c) (back_self c) d g h

-- the first of two begins with a class of the set
pub good_at_set : {V : Type 0} {A B : List Symbol → V → Type 0} {a b : List Symbol → Read Symbol V} {fa ma fb mb : List Class} {eb : Bool} (cs : List Class) → subset fa cs ≡ true → disjoint fb cs ≡ true → Good A a fa false ma → Good B b fb eb mb → Good (Either A B) (choose (in_set cs) a b) (fa ++ fb) eb (ma ++ (mb ++ empty_more eb cs))
good_at_set cs s d g h = good_either (in_set cs) cs (λ t. refl) s d g h

pub good_inside : {V : Type 0} {A : List Symbol → V → Type 0} {a : List Symbol → Read Symbol V} {fa ma : List Class} {ea : Bool} → disjoint (Class.OfSign Sign.Close ∷ []) ma ≡ true → Good A a fa ea ma → Good (Inside A) (inside a) (Class.OfSign Sign.Open ∷ []) false []
unfolding inside
good_inside d g = good_sign Sign.Open (good_then d g (λ x. good_sign Sign.Close (good_nothing x)))

-- what stands behind the first part of a chain
abbrev pub Rest : {X V : Type 0} → Symbol → (List Symbol → X → Type 0) → (X → List X → V) → X → List Symbol → V → Type 0
Rest t A f x = Then (Many (Mark t A)) (λ xs. Nothing (f x xs))

pub good_word_rest : {X V : Type 0} {A : List Symbol → X → Type 0} {a : List Symbol → Read Symbol X} {fa ma : List Class} (k : Key) (f : X → List X → V) → disjoint (Class.OfKey k ∷ []) ma ≡ true → Good A a fa false ma → (x : X) → Good (Rest (Symbol.Keyword k) A f x) (word_rest k a f x) (Class.OfKey k ∷ []) true ((ma ++ (Class.OfKey k ∷ [])) ++ [])
unfolding word_rest
good_word_rest k f d g x = good_made (f x) (good_many (is_key k) (Class.OfKey k ∷ []) (key_tells k) (key_self k) d (good_key k g))

pub good_glyph_rest : {X V : Type 0} {A : List Symbol → X → Type 0} {a : List Symbol → Read Symbol X} {fa ma : List Class} (s : Sign) (f : X → List X → V) → disjoint (Class.OfSign s ∷ []) ma ≡ true → Good A a fa false ma → (x : X) → Good (Rest (Symbol.Mark s) A f x) (glyph_rest s a f x) (Class.OfSign s ∷ []) true ((ma ++ (Class.OfSign s ∷ [])) ++ [])
unfolding glyph_rest
good_glyph_rest s f d g x = good_made (f x) (good_many (is_sign s) (Class.OfSign s ∷ []) (sign_tells s) (sign_self s) d (good_sign s g))

pub good_by_word : {X V : Type 0} {A : List Symbol → X → Type 0} {a : List Symbol → Read Symbol X} {fa ma : List Class} (k : Key) (f : X → List X → V) → disjoint (Class.OfKey k ∷ []) ma ≡ true → Good A a fa false ma → Good (Chain (Symbol.Keyword k) A f) (by_word k a f) fa false (ma ++ ((ma ++ (Class.OfKey k ∷ [])) ++ []))
unfolding by_word
good_by_word k f d g = good_then d g (good_word_rest k f d g)

pub good_by_glyph : {X V : Type 0} {A : List Symbol → X → Type 0} {a : List Symbol → Read Symbol X} {fa ma : List Class} (s : Sign) (f : X → List X → V) → disjoint (Class.OfSign s ∷ []) ma ≡ true → Good A a fa false ma → Good (Chain (Symbol.Mark s) A f) (by_glyph s a f) fa false (ma ++ ((ma ++ (Class.OfSign s ∷ [])) ++ []))
unfolding by_glyph
good_by_glyph s f d g = good_then d g (good_glyph_rest s f d g)

pub good_listed : {V : Type 0} {A : List Symbol → V → Type 0} {a : List Symbol → Read Symbol V} {fa ma : List Class} → disjoint (Class.OfSign Sign.Comma ∷ []) ma ≡ true → Good A a fa false ma → Good (Listed A) (listed a) fa false (ma ++ ((ma ++ (Class.OfSign Sign.Comma ∷ [])) ++ []))
unfolding listed
good_listed d g = good_then d g (λ x. good_made (λ xs. x ∷ xs) (good_many (is_sign Sign.Comma) (Class.OfSign Sign.Comma ∷ []) (sign_tells Sign.Comma) refl d (good_sign Sign.Comma g)))
