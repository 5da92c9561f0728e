-- What a reader takes is spelled, and where it stops something is begun: the judge of each word.
use Rattle.std.proofs.Common.{◌≡◌, inl, inr, Bool, true, false, if◌then◌else◌, List, [], ◌∷◌, ◌++◌, Option, Some, None, refl, sym, ◌∙◌, ap, append_assoc}
use Rattle.sql_tree.specs.Phrases.{One, Mark, Nothing, Then, Either, Opens}
use Rattle.sql_phrases.specs.Readings.{Read, after, picked, one, nothing, both, head_is, choose, stop, refuse, marked, the, mark}

-- v was taken from the front and `rest` is left, whatever stands behind the first element of `rest`
pub record Takes {T V : Type 0} (L : List T → V → Type 0) (read : List T → Read T V) (ts : List T) (v : V) (rest : List T) : Type 0 where
  pub front : List T
  pub is : ts ≡ front ++ rest
  pub spelled : L front v
  pub same : (t : T) (r s : List T) → rest ≡ t ∷ r → read (front ++ (t ∷ s)) ≡ Read.Took v (t ∷ s)

-- the reader stopped at `rest`, whatever stands behind the first element of `rest`, and something begins with the front
pub record Stops {T V : Type 0} (L : List T → V → Type 0) (read : List T → Read T V) (ts : List T) (rest : List T) : Type 0 where
  pub front : List T
  pub is : ts ≡ front ++ rest
  pub opens : Opens L front
  pub same : (t : T) (r s : List T) → rest ≡ t ∷ r → read (front ++ (t ∷ s)) ≡ Read.Stopped (t ∷ s)

abbrev pub Judged : {T V : Type 0} → (List T → V → Type 0) → (List T → Read T V) → List T → Read T V → Type 0
Judged L read ts (Read.Took v rest) = Takes L read ts v rest
Judged L read ts (Read.Stopped rest) = Stops L read ts rest

pub record Judge {T V : Type 0} (L : List T → V → Type 0) (read : List T → Read T V) : Type 0 where
  pub some : Opens L []
  pub each : (ts : List T) → Judged L read ts (read ts)

-- what is judged for one phrase and reader is judged for a wider phrase and a reader that reads alike
pub widen : {T V : Type 0} (A L : List T → V → Type 0) (a read : List T → Read T V) (ts : List T) → ((front : List T) (v : V) → A front v → L front v) → ((front : List T) (t : T) (r s : List T) → ts ≡ front ++ (t ∷ r) → read (front ++ (t ∷ s)) ≡ a (front ++ (t ∷ s))) → (q : Read T V) → Judged A a ts q → Judged L read ts q
widen A L a read ts up alike (Read.Took v rest) k = record {
  front = k.front;
  is = k.is;
  spelled = up k.front v k.spelled;
  same = λ t r s e. alike k.front t r s (k.is ∙ ap (λ z. k.front ++ z) e) ∙ k.same t r s e;
}
widen A L a read ts up alike (Read.Stopped rest) k = record {
  front = k.front;
  is = k.is;
  opens = record { more = k.opens.more; value = k.opens.value; spelled = up (k.front ++ k.opens.more) k.opens.value k.opens.spelled };
  same = λ t r s e. alike k.front t r s (k.is ∙ ap (λ z. k.front ++ z) e) ∙ k.same t r s e;
}

pub judge_nothing : {T V : Type 0} (v : V) → Judge (Nothing {T = T} v) (nothing {T = T} v)
unfolding nothing
judge_nothing v = record {
  some = record { more = []; value = v; spelled = (refl, refl) };
  each = λ ts. record { front = []; is = refl; spelled = (refl, refl); same = λ t r s e. refl };
}

one_picked : {T V : Type 0} (pick : T → Option V) (some : Opens (One pick) []) (t : T) (ts : List T) (o : Option V) → pick t ≡ o → Judged (One pick) (one pick) (t ∷ ts) (picked t ts o)
unfolding one
one_picked pick some t ts (Some v) e = record {
  front = t ∷ [];
  is = refl;
  spelled = (t, refl, e);
  same = λ u r s h. ap (picked t (u ∷ s)) e;
}
one_picked pick some t ts None e = record {
  front = [];
  is = refl;
  opens = some;
  same = λ u r s h. let same : t ≡ u = cc in ap (picked u s) (ap pick (sym same) ∙ e);
}

one_each : {T V : Type 0} (pick : T → Option V) (some : Opens (One pick) []) (ts : List T) → Judged (One pick) (one pick) ts (one pick ts)
unfolding one
one_each pick some [] = record { front = []; is = refl; opens = some; same = λ u r s h. cc }
one_each pick some (t ∷ ts) = one_picked pick some t ts (pick t) refl

-- some element carries a value
pub judge_one : {T V : Type 0} (pick : T → Option V) (t : T) (v : V) → pick t ≡ Some v → Judge (One pick) (one pick)
judge_one pick t v e =
    let some : Opens (One pick) [] = record { more = t ∷ []; value = v; spelled = (t, refl, e) } in
    record { some = some; each = one_each pick some }

-- a has taken what stands before `front ++ rest`, so it does where `rest` goes on otherwise
took_before : {T X : Type 0} (A : List T → X → Type 0) (a : List T → Read T X) (ts : List T) (x : X) (mid : List T) (k : Takes A a ts x mid) (front rest : List T) (t : T) (r s : List T) → mid ≡ front ++ rest → rest ≡ t ∷ r → a (k.front ++ (front ++ (t ∷ s))) ≡ Read.Took x (front ++ (t ∷ s))
took_before A a ts x mid k [] rest t r s e h = k.same t r s (e ∙ h)
took_before A a ts x mid k (u ∷ us) rest t r s e h = k.same u (us ++ rest) (us ++ (t ∷ s)) e

both_took : {T X V : Type 0} (A : List T → X → Type 0) (B : X → List T → V → Type 0) (a : List T → Read T X) (b : X → List T → Read T V) (ts : List T) (x : X) (mid : List T) → Takes A a ts x mid → (q : Read T V) → Judged (B x) (b x) mid q → Judged (Then A B) (both a b) ts q
unfolding both
both_took A B a b ts x mid k (Read.Took v rest) h = record {
  front = k.front ++ h.front;
  is = k.is ∙ ap (λ z. k.front ++ z) h.is ∙ sym (append_assoc k.front h.front rest);
  spelled = (k.front, x, h.front, refl, k.spelled, h.spelled);
  same = λ t r s e. ap (λ z. after (a z) b) (append_assoc k.front h.front (t ∷ s)) ∙ ap (λ q. after q b) (took_before A a ts x mid k h.front rest t r s h.is e) ∙ h.same t r s e;
}
both_took A B a b ts x mid k (Read.Stopped rest) h = record {
  front = k.front ++ h.front;
  is = k.is ∙ ap (λ z. k.front ++ z) h.is ∙ sym (append_assoc k.front h.front rest);
  opens = record { more = h.opens.more; value = h.opens.value; spelled = (k.front, x, h.front ++ h.opens.more, append_assoc k.front h.front h.opens.more, k.spelled, h.opens.spelled) };
  same = λ t r s e. ap (λ z. after (a z) b) (append_assoc k.front h.front (t ∷ s)) ∙ ap (λ q. after q b) (took_before A a ts x mid k h.front rest t r s h.is e) ∙ h.same t r s e;
}

both_read : {T X V : Type 0} (A : List T → X → Type 0) (B : X → List T → V → Type 0) (a : List T → Read T X) (b : X → List T → Read T V) (ts : List T) → ((x : X) → Opens (B x) []) → (q : Read T X) → Judged A a ts q → ((x : X) (mid : List T) → q ≡ Read.Took x mid → Judged (B x) (b x) mid (b x mid)) → Judged (Then A B) (both a b) ts (after q b)
unfolding both
both_read A B a b ts some (Read.Took x mid) k next = both_took A B a b ts x mid k (b x mid) (next x mid refl)
both_read A B a b ts some (Read.Stopped rest) k next =
    let here = some k.opens.value in
    record {
      front = k.front;
      is = k.is;
      opens = record { more = k.opens.more ++ here.more; value = here.value; spelled = (k.front ++ k.opens.more, k.opens.value, here.more, sym (append_assoc k.front k.opens.more here.more), k.opens.spelled, here.spelled) };
      same = λ t r s e. ap (λ q. after q b) (k.same t r s e);
    }

-- at one list: the second reader is judged at what the first leaves
pub both_at : {T X V : Type 0} (A : List T → X → Type 0) (B : X → List T → V → Type 0) (a : List T → Read T X) (b : X → List T → Read T V) (ts : List T) → ((x : X) → Opens (B x) []) → Judged A a ts (a ts) → ((x : X) (mid : List T) → a ts ≡ Read.Took x mid → Judged (B x) (b x) mid (b x mid)) → Judged (Then A B) (both a b) ts (both a b ts)
unfolding both
both_at A B a b ts some k next = both_read A B a b ts some (a ts) k next

both_some : {T X V : Type 0} (A : List T → X → Type 0) (B : X → List T → V → Type 0) → Opens A [] → ((x : X) → Opens (B x) []) → Opens (Then A B) []
both_some A B one more =
    let here = more one.value in
    record { more = one.more ++ here.more; value = here.value; spelled = (one.more, one.value, here.more, refl, one.spelled, here.spelled) }

pub judge_both : {T X V : Type 0} {A : List T → X → Type 0} {B : X → List T → V → Type 0} {a : List T → Read T X} {b : X → List T → Read T V} → Judge A a → ((x : X) → Judge (B x) (b x)) → Judge (Then A B) (both a b)
judge_both {A = A} {B = B} {a = a} {b = b} ja jb = record {
  some = both_some A B ja.some (λ x. (jb x).some);
  each = λ ts. both_at A B a b ts (λ x. (jb x).some) (ja.each ts) (λ x mid e. (jb x).each mid);
}

-- the first element stays where only what stands behind it changes
head_same : {T : Type 0} (p : T → Bool) (front : List T) (t : T) (r s : List T) → head_is p (front ++ (t ∷ s)) ≡ head_is p (front ++ (t ∷ r))
head_same p [] t r s = refl
head_same p (u ∷ us) t r s = refl

choose_picks : {T V : Type 0} (A B : List T → V → Type 0) (p : T → Bool) (a b : List T → Read T V) (ts : List T) → Judged A a ts (a ts) → Judged B b ts (b ts) → (flag : Bool) → head_is p ts ≡ flag → Judged (Either A B) (choose p a b) ts (if flag then a ts else b ts)
unfolding choose
choose_picks A B p a b ts ka kb true e = widen A (Either A B) a (choose p a b) ts (λ f v k. inl k) (λ f t r s h. ap (λ z. if z then a (f ++ (t ∷ s)) else b (f ++ (t ∷ s))) (head_same p f t r s ∙ ap (head_is p) (sym h) ∙ e)) (a ts) ka
choose_picks A B p a b ts ka kb false e = widen B (Either A B) b (choose p a b) ts (λ f v k. inr k) (λ f t r s h. ap (λ z. if z then a (f ++ (t ∷ s)) else b (f ++ (t ∷ s))) (head_same p f t r s ∙ ap (head_is p) (sym h) ∙ e)) (b ts) kb

pub choose_at : {T V : Type 0} (A B : List T → V → Type 0) (p : T → Bool) (a b : List T → Read T V) (ts : List T) → Judged A a ts (a ts) → Judged B b ts (b ts) → Judged (Either A B) (choose p a b) ts (choose p a b ts)
unfolding choose
choose_at A B p a b ts ka kb = choose_picks A B p a b ts ka kb (head_is p ts) refl

pub judge_choose : {T V : Type 0} {A B : List T → V → Type 0} {a b : List T → Read T V} (p : T → Bool) → Judge A a → Judge B b → Judge (Either A B) (choose p a b)
judge_choose {A = A} {B = B} {a = a} {b = b} p ja jb = record {
  some = record { more = ja.some.more; value = ja.some.value; spelled = inl ja.some.spelled };
  each = λ ts. choose_at A B p a b ts (ja.each ts) (jb.each ts);
}

judge_stop : {T V : Type 0} {L : List T → V → Type 0} → Opens L [] → Judge L (stop {T = T} {V = V})
unfolding stop
judge_stop some = record { some = some; each = λ ts. record { front = []; is = refl; opens = some; same = λ t r s e. refl } }

either_same : {T V : Type 0} (L : List T → V → Type 0) (front : List T) (v : V) → Either L L front v → L front v
either_same L front v (inl h) = h
either_same L front v (inr h) = h

pub judge_refuse : {T V : Type 0} {L : List T → V → Type 0} {a : List T → Read T V} (p : T → Bool) → Judge L a → Judge L (refuse p a)
unfolding refuse
judge_refuse {L = L} {a = a} p ja =
    let j = judge_choose p (judge_stop ja.some) ja in
    record {
      some = ja.some;
      each = λ ts. widen (Either L L) L (choose p stop a) (refuse p a) ts (either_same L) (λ f t r s e. refl) (refuse p a ts) (j.each ts);
    }

the_only : {T : Type 0} (p : T → Bool) (t : T) (b : Bool) → p t ≡ b → marked b ≡ Some tt → p t ≡ true
the_only p t true e h = e
the_only p t false e h = cc

mark_up : {T V : Type 0} (t : T) (p : T → Bool) (A : List T → V → Type 0) → ((u : T) → p u ≡ true → u ≡ t) → (front : List T) (v : V) → Then (One (the p)) (λ u. A) front v → Mark t A front v
mark_up t p A only front v (f, x, b, e, (u, f_is, h), k) =
    let same : u ≡ t = only u (the_only p u (p u) refl h) in
    (b, e ∙ ap (λ z. z ++ b) f_is ∙ ap (λ z. z ∷ b) same, k)

-- p holds of the one element t
pub judge_mark : {T V : Type 0} {A : List T → V → Type 0} {a : List T → Read T V} (t : T) (p : T → Bool) → p t ≡ true → ((u : T) → p u ≡ true → u ≡ t) → Judge A a → Judge (Mark t A) (mark p a)
unfolding mark
judge_mark {A = A} {a = a} t p hit only ja =
    let hits : the p t ≡ Some tt = ap marked hit in
    let j = judge_both (judge_one (the p) t tt hits) (λ u. ja) in
    record {
      some = record { more = t ∷ ja.some.more; value = ja.some.value; spelled = (ja.some.more, refl, ja.some.spelled) };
      each = λ ts. widen (Then (One (the p)) (λ u. A)) (Mark t A) (both (one (the p)) (λ u. a)) (mark p a) ts (mark_up t p A only) (λ f u r s e. refl) (mark p a ts) (j.each ts);
    }
