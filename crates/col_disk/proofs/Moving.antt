-- The laws of what moved. A caller cites one for each call that it made, and joins them.
use Rattle.std.proofs.Common.{◌≡◌, ◌≤◌, ℕ, List, ◌++◌, Bool, true, false, cond, refl, sym, ◌∙◌, ap, subst, inl, inr, arith}
use Rattle.std.specs.Prelude.{◌⊎◌, Option, Some, None, Result, Ok, Err}
use Rattle.std.specs.Option.{option_map}
use Rattle.std.specs.Ordering.{nat_cmp, eq_by_cmp}
use Rattle.std.specs.FinMap.{get, insert, remove, get-insert, get-remove}
use Rattle.std.specs.Cmp.{nat_cmp_total, unsigned_tied}
use Rattle.std.proofs.lemmas.Bool.Decides.{eqb_tells}
use Rattle.std.proofs.Math.Dec.{eqb}
use Rattle.common_laws.specs.Maps.{Contents}
use Rattle.col_disk.specs.declared.disk.Disk.{Ghosts}
use Rattle.col_disk.specs.declared.disk.DiskFault.{DiskFault}
use Rattle.col_disk.specs.declared.disk.DiskFault.TheVariants.{Failed, Memory}
use Rattle.col_disk.specs.Calls.{Stepped, Elsewhere, GoneOrKept, WriteLeaves, RemoveLeaves, Keeps, Writes, Removes}
use Rattle.col_disk.specs.Crashes.{Image, TimePasses, StepLeaves}
use Rattle.col_disk.specs.Moved.{Changed, Moved, Looks, LikeOne, Leaves, NoName, Among, Either}
use Rattle.std.proofs.lemmas.List.Elements.{Contains-append_left, Contains-append_right}

-- contents: a step, where there is one before and after
pub stepped_weaker : (P Q : Contents → Contents → Type 0) (old new : Option Contents) → ((m n : Contents) → P m n → Q m n) → Stepped P old new → Stepped Q old new
stepped_weaker P Q None None h step = tt
stepped_weaker P Q (Some m) (Some n) h step = h m n step
stepped_weaker P Q None (Some n) h step = absurd step
stepped_weaker P Q (Some m) None h step = absurd step

pub stepped_same : (P : Contents → Contents → Type 0) (told : Option Contents) → ((m : Contents) → P m m) → Stepped P told told
stepped_same P None h = tt
stepped_same P (Some m) h = h m

pub stepped_map : (P : Contents → Contents → Type 0) (f : Contents → Contents) (told : Option Contents) → ((m : Contents) → P m (f m)) → Stepped P told (option_map f told)
stepped_map P f None h = tt
stepped_map P f (Some m) h = h m

pub stepped_join : (P Q R : Contents → Contents → Type 0) (old mid new : Option Contents) → ((l m n : Contents) → P l m → Q m n → R l n) → Stepped P old mid → Stepped Q mid new → Stepped R old new
stepped_join P Q R None None None h first second = tt
stepped_join P Q R None None (Some n) h first second = absurd second
stepped_join P Q R None (Some m) new h first second = absurd first
stepped_join P Q R (Some l) None new h first second = absurd first
stepped_join P Q R (Some l) (Some m) None h first second = absurd second
stepped_join P Q R (Some l) (Some m) (Some n) h first second = h l m n first second

-- the contents after a step of told ones
pub stepped_told : (P : Contents → Contents → Type 0) (old new : Option Contents) (m : Contents) → old ≡ Some m → Stepped P old new → (n : Contents) × (new ≡ Some n) × P m n
stepped_told P old new m told step = there new (subst (λ (o : Option Contents). Stepped P o new) told step)
  where
    there : (o : Option Contents) → Stepped P (Some m) o → (n : Contents) × (o ≡ Some n) × P m n
    there (Some n) taken = (n, refl, taken)
    there None taken = absurd taken

-- two names are one, or they aren't
tells : (q name : ℕ) → ((q ≡ name) × (eq_by_cmp nat_cmp q name ≡ true)) ⊎ ((q ≡ name → ⊥) × (eq_by_cmp nat_cmp q name ≡ false))
tells q name = known (eqb_tells q name)
  where
    known : ((eqb q name ≡ true) × (q ≡ name)) ⊎ ((eqb q name ≡ false) × (q ≡ name → ⊥)) → ((q ≡ name) × (eq_by_cmp nat_cmp q name ≡ true)) ⊎ ((q ≡ name → ⊥) × (eq_by_cmp nat_cmp q name ≡ false))
    known (inl (test, is)) = inl (is, unsigned_tied q name ∙ test)
    known (inr (test, other)) = inr (other, unsigned_tied q name ∙ test)

at_same : {X : Type 0} (q name : ℕ) (x y : X) → q ≡ name → cond (eq_by_cmp nat_cmp q name) x y ≡ x
at_same {X} q name x y is = known (tells q name)
  where
    known : ((q ≡ name) × (eq_by_cmp nat_cmp q name ≡ true)) ⊎ ((q ≡ name → ⊥) × (eq_by_cmp nat_cmp q name ≡ false)) → cond (eq_by_cmp nat_cmp q name) x y ≡ x
    known (inl (_, test)) = ap (λ (b : Bool). cond b x y) test
    known (inr (other, test)) = absurd (other is)

at_other : {X : Type 0} (q name : ℕ) (x y : X) → (q ≡ name → ⊥) → cond (eq_by_cmp nat_cmp q name) x y ≡ y
at_other {X} q name x y differs = known (tells q name)
  where
    known : ((q ≡ name) × (eq_by_cmp nat_cmp q name ≡ true)) ⊎ ((q ≡ name → ⊥) × (eq_by_cmp nat_cmp q name ≡ false)) → cond (eq_by_cmp nat_cmp q name) x y ≡ y
    known (inl (is, test)) = absurd (differs is)
    known (inr (_, test)) = ap (λ (b : Bool). cond b x y) test

-- a name that differs from the one that was set or taken is as it was
pub insert_elsewhere : (m : Contents) (name : ℕ) (bytes : List ℕ) → Elsewhere name m (insert m name bytes)
insert_elsewhere m name bytes q other = get-insert nat_cmp_total m name bytes q ∙ at_other q name _ _ other

pub remove_elsewhere : (m : Contents) (name : ℕ) → Elsewhere name m (remove m name)
remove_elsewhere m name q other = get-remove nat_cmp_total m name q ∙ at_other q name _ _ other

pub insert_there : (m : Contents) (name : ℕ) (bytes : List ℕ) → get (insert m name bytes) name ≡ Some bytes
insert_there m name bytes = get-insert nat_cmp_total m name bytes name ∙ at_same name name _ _ refl

pub remove_there : (m : Contents) (name : ℕ) → get (remove m name) name ≡ None
remove_there m name = get-remove nat_cmp_total m name name ∙ at_same name name _ _ refl

-- changes
pub changed_elsewhere : (W R : ℕ → Type 0) (name : ℕ) (m n : Contents) → W name → Elsewhere name m n → Changed W R m n
changed_elsewhere W R name m n w same q other = inl (same q (λ is. other (subst W (sym is) w)))

pub changed_gone : (W R : ℕ → Type 0) (name : ℕ) (m n : Contents) → R name → GoneOrKept name m n → Changed W R m n
changed_gone W R name m n r (inr same) q other = inl (ap (λ (c : Contents). get c q) same)
changed_gone W R name m n r (inl gone) q other = known (tells q name)
  where
    known : ((q ≡ name) × (eq_by_cmp nat_cmp q name ≡ true)) ⊎ ((q ≡ name → ⊥) × (eq_by_cmp nat_cmp q name ≡ false)) → (get n q ≡ get m q) ⊎ (R q × (get n q ≡ None))
    known (inl (is, test)) = inr (subst R (sym is) r, ap (λ (c : Contents). get c q) gone ∙ get-remove nat_cmp_total m name q ∙ at_same q name _ _ is)
    known (inr (differs, test)) = inl (ap (λ (c : Contents). get c q) gone ∙ remove_elsewhere m name q differs)

pub changed_join : (W R : ℕ → Type 0) (l m n : Contents) → Changed W R l m → Changed W R m n → Changed W R l n
changed_join W R l m n first second q other = joined (second q other) (first q other)
  where
    joined : (get n q ≡ get m q) ⊎ (R q × (get n q ≡ None)) → (get m q ≡ get l q) ⊎ (R q × (get m q ≡ None)) → (get n q ≡ get l q) ⊎ (R q × (get n q ≡ None))
    joined (inr gone) before = inr gone
    joined (inl same) (inl earlier) = inl (same ∙ earlier)
    joined (inl same) (inr (r, gone)) = inr (r, same ∙ gone)

pub changed_wider : (W R V S : ℕ → Type 0) (m n : Contents) → ((q : ℕ) → W q → V q) → ((q : ℕ) → R q → S q) → Changed W R m n → Changed V S m n
changed_wider W R V S m n w r changed q other = wider (changed q (λ is. other (w q is)))
  where
    wider : (get n q ≡ get m q) ⊎ (R q × (get n q ≡ None)) → (get n q ≡ get m q) ⊎ (S q × (get n q ≡ None))
    wider (inl same) = inl same
    wider (inr (is, gone)) = inr (r q is, gone)

-- images
like_itself : (W R : ℕ → Type 0) (before : Contents → Type 0) (c : Contents) → before c → LikeOne W R before c
like_itself W R before c is = (c, is, λ q other. inl refl)

like_wider : (W R V S : ℕ → Type 0) (before : Contents → Type 0) (c : Contents) → ((q : ℕ) → W q → V q) → ((q : ℕ) → R q → S q) → LikeOne W R before c → LikeOne V S before c
like_wider W R V S before c w r (d, is, changed) = (d, is, changed_wider W R V S d c w r changed)

-- nothing was called
pub moved_none : {D : Type 0} (disk : Ghosts D) {W R : ℕ → Type 0} (now : D) → Moved disk W R now now
moved_none disk {W} {R} now = record {
  contents = stepped_same (Changed W R) (disk.holds now) (λ m q other. inl refl);
  counted = omega arith;
  later = omega arith;
  now = λ c is. like_itself W R (disk.since now (disk.clock now)) c is;
  each = λ t c le is. inl is;
}

-- nothing was called; two calls that only look
pub looks_none : {D : Type 0} (disk : Ghosts D) (now : D) → Looks disk now now
looks_none disk now = record {
  contents = refl;
  counted = omega arith;
  images = λ c is. is;
  time = record { later = omega arith; each = λ t c le is. inl is };
  remembered = refl;
}

pub looks_join : {D : Type 0} (disk : Ghosts D) {old mid new : D} → Looks disk old mid → Looks disk mid new → Looks disk old new
looks_join disk {old} {mid} {new} first second = record {
  contents = second.contents ∙ first.contents;
  counted = omega (arith, first.counted, second.counted);
  images = λ c is. first.images c (second.images c is);
  time = record { later = omega (arith, first.time.later, second.time.later); each = λ t c le is. before t c le (second.time.each t c (omega (arith, le, first.time.later)) is) };
  remembered = second.remembered ∙ first.remembered;
}
  where
    before : (t : ℕ) (c : Contents) → t ≤ disk.clock old → disk.since mid t c ⊎ disk.since new (disk.clock new) c → disk.since old t c ⊎ disk.since new (disk.clock new) c
    before t c le (inr now) = inr now
    before t c le (inl at_mid) = known (first.time.each t c le at_mid)
      where
        known : disk.since old t c ⊎ disk.since mid (disk.clock mid) c → disk.since old t c ⊎ disk.since new (disk.clock new) c
        known (inl at_old) = inl at_old
        known (inr image) = inl (disk.laws.reaches old t (disk.clock old) c le (omega arith) (first.images c image))

-- a call that only looks moved no name, so none but those of any predicate
pub moved_read : {D : Type 0} (disk : Ghosts D) {W R : ℕ → Type 0} {old new : D} → Keeps disk.holds disk.faults disk.since disk.clock disk.changed old new → Moved disk W R old new
moved_read disk {W} {R} {old} {new} keeps = record {
  contents = subst (λ (told : Option Contents). Stepped (Changed W R) (disk.holds old) told) (sym keeps.contents) (stepped_same (Changed W R) (disk.holds old) (λ m q other. inl refl));
  counted = keeps.counted;
  later = keeps.time.later;
  now = λ c is. like_itself W R (disk.since old (disk.clock old)) c (keeps.images c is);
  each = λ t c le is. came (keeps.time.each t c le is);
}
  where
    came : {t : ℕ} {c : Contents} → disk.since old t c ⊎ disk.since new (disk.clock new) c → disk.since old t c ⊎ LikeOne W R (disk.since old (disk.clock old)) c
    came (inl before) = inl before
    came {t} {c} (inr now) = inr (like_itself W R (disk.since old (disk.clock old)) c (keeps.images c now))

after_write : (W R : ℕ → Type 0) (name : ℕ) (bytes : List ℕ) (old new : Option Contents) (result : Result (Unit {0}) DiskFault) → W name → WriteLeaves name bytes old new result → Stepped (Changed W R) old new
after_write W R name bytes old new (Ok done) w is =
    subst (λ (told : Option Contents). Stepped (Changed W R) old told) (sym is)
    (stepped_map (Changed W R) (λ m. insert m name bytes) old (λ m. changed_elsewhere W R name m (insert m name bytes) w (insert_elsewhere m name bytes)))
after_write W R name bytes old new (Err Failed) w step = stepped_weaker (Elsewhere name) (Changed W R) old new (λ m n. changed_elsewhere W R name m n w) step
after_write W R name bytes old new (Err Memory) w is =
    subst (λ (told : Option Contents). Stepped (Changed W R) old told) (sym is) (stepped_same (Changed W R) old (λ m q other. inl refl))

-- each image after a step is one from before, changed on these names alone
after_step : (W R : ℕ → Type 0) (step : Contents → Contents → Type 0) (before now : Contents → Type 0) (result : Result (Unit {0}) DiskFault) → ((d c : Contents) → step d c → Changed W R d c)
    → StepLeaves step before now result → (c : Contents) → now c → LikeOne W R before c
after_step W R step before now (Ok done) h follows c is = let f = follows c is in (f.0, f.1, h f.0 c f.2)
after_step W R step before now (Err Failed) h follows c is = let f = follows c is in (f.0, f.1, h f.0 c f.2)
after_step W R step before now (Err Memory) h none c is = like_itself W R before c (none c is)

-- a call that changes these names, seen by its contents, its images and its time
moved_step : {D : Type 0} (disk : Ghosts D) (W R : ℕ → Type 0) (old new : D) → Stepped (Changed W R) (disk.holds old) (disk.holds new) → disk.faults old ≤ disk.faults new
    → ((c : Contents) → disk.since new (disk.clock new) c → LikeOne W R (disk.since old (disk.clock old)) c) → TimePasses disk.since disk.clock old new → Moved disk W R old new
moved_step disk W R old new contents counted now time = record {
  contents = contents;
  counted = counted;
  later = time.later;
  now = now;
  each = λ t c le is. came t c (time.each t c le is);
}
  where
    came : (t : ℕ) (c : Contents) → disk.since old t c ⊎ disk.since new (disk.clock new) c → disk.since old t c ⊎ LikeOne W R (disk.since old (disk.clock old)) c
    came t c (inl before) = inl before
    came t c (inr is) = inr (now c is)

-- a write moved its name, whatever it answered
pub moved_write : {D : Type 0} (disk : Ghosts D) {W R : ℕ → Type 0} {name : ℕ} {bytes : List ℕ} {old new : D} {result : Result (Unit {0}) DiskFault}
    → W name → Writes disk.holds disk.faults disk.since disk.clock disk.changed name bytes old new result → Moved disk W R old new
moved_write disk {W} {R} {name} {bytes} {old} {new} {result} w writes =
    moved_step disk W R old new (after_write W R name bytes (disk.holds old) (disk.holds new) result w writes.contents) writes.counted
    (after_step W R (Elsewhere name) (disk.since old (disk.clock old)) (disk.since new (disk.clock new)) result (λ d c. changed_elsewhere W R name d c w) writes.images) writes.time

after_remove : (W R : ℕ → Type 0) (name : ℕ) (old new : Option Contents) (result : Result (Unit {0}) DiskFault) → R name → RemoveLeaves name old new result → Stepped (Changed W R) old new
after_remove W R name old new (Ok done) r is =
    subst (λ (told : Option Contents). Stepped (Changed W R) old told) (sym is)
    (stepped_map (Changed W R) (λ m. remove m name) old (λ m. changed_gone W R name m (remove m name) r (inl refl)))
after_remove W R name old new (Err Failed) r step = stepped_weaker (GoneOrKept name) (Changed W R) old new (λ m n. changed_gone W R name m n r) step
after_remove W R name old new (Err Memory) r is =
    subst (λ (told : Option Contents). Stepped (Changed W R) old told) (sym is) (stepped_same (Changed W R) old (λ m q other. inl refl))

-- a removal moved its name, whatever it answered, and left it as it was or absent
pub moved_remove : {D : Type 0} (disk : Ghosts D) {W R : ℕ → Type 0} {name : ℕ} {old new : D} {result : Result (Unit {0}) DiskFault}
    → R name → Removes disk.holds disk.faults disk.since disk.clock disk.changed name old new result → Moved disk W R old new
moved_remove disk {W} {R} {name} {old} {new} {result} r removes =
    moved_step disk W R old new (after_remove W R name (disk.holds old) (disk.holds new) result r removes.contents) removes.counted
    (after_step W R (GoneOrKept name) (disk.since old (disk.clock old)) (disk.since new (disk.clock new)) result (λ d c. changed_gone W R name d c r) removes.images) removes.time

-- two pieces of work, one after the other, on the same names
pub moved_join : {D : Type 0} (disk : Ghosts D) {W R : ℕ → Type 0} {old mid new : D} → Moved disk W R old mid → Moved disk W R mid new → Moved disk W R old new
moved_join disk {W} {R} {old} {mid} {new} first second = record {
  contents = stepped_join (Changed W R) (Changed W R) (Changed W R) (disk.holds old) (disk.holds mid) (disk.holds new) (changed_join W R) first.contents second.contents;
  counted = omega (arith, first.counted, second.counted);
  later = omega (arith, first.later, second.later);
  now = λ c is. back c (second.now c is);
  each = λ t c le is. came t c le (second.each t c (omega (arith, le, first.later)) is);
}
  where
    back : (c : Contents) → LikeOne W R (disk.since mid (disk.clock mid)) c → LikeOne W R (disk.since old (disk.clock old)) c
    back c (d, is, changed) = let f = first.now d is in (f.0, f.1, changed_join W R f.0 d c f.2 changed)

    came : (t : ℕ) (c : Contents) → t ≤ disk.clock old → disk.since mid t c ⊎ LikeOne W R (disk.since mid (disk.clock mid)) c → disk.since old t c ⊎ LikeOne W R (disk.since old (disk.clock old)) c
    came t c le (inl before) = first.each t c le before
    came t c le (inr like) = inr (back c like)

-- more names are allowed
pub moved_wider : {D : Type 0} (disk : Ghosts D) {W R V S : ℕ → Type 0} {old new : D}
    → ((q : ℕ) → W q → V q) → ((q : ℕ) → R q → S q) → Moved disk W R old new → Moved disk V S old new
moved_wider disk {W} {R} {V} {S} {old} {new} w r moved = record {
  contents = stepped_weaker (Changed W R) (Changed V S) (disk.holds old) (disk.holds new) (λ m n. changed_wider W R V S m n w r) moved.contents;
  counted = moved.counted;
  later = moved.later;
  now = λ c is. like_wider W R V S (disk.since old (disk.clock old)) c w r (moved.now c is);
  each = λ t c le is. came t c (moved.each t c le is);
}
  where
    came : (t : ℕ) (c : Contents) → disk.since old t c ⊎ LikeOne W R (disk.since old (disk.clock old)) c → disk.since old t c ⊎ LikeOne V S (disk.since old (disk.clock old)) c
    came t c (inl before) = inl before
    came t c (inr like) = inr (like_wider W R V S (disk.since old (disk.clock old)) c w r like)

-- no name was moved, so none but those of any predicate
pub moved_still : {D : Type 0} (disk : Ghosts D) {W R : ℕ → Type 0} {old new : D} → Moved disk NoName NoName old new → Moved disk W R old new
moved_still disk moved = moved_wider disk (λ q is. absurd is) (λ q is. absurd is) moved

-- two pieces of work, each on its own names
pub moved_both : {D : Type 0} (disk : Ghosts D) {W R V S : ℕ → Type 0} {old mid new : D}
    → Moved disk W R old mid → Moved disk V S mid new → Moved disk (Either W V) (Either R S) old new
moved_both disk first second =
    moved_join disk (moved_wider disk (λ q is. inl is) (λ q is. inl is) first) (moved_wider disk (λ q is. inr is) (λ q is. inr is) second)

-- and on lists of names: on the two lists joined
pub moved_lists : {D : Type 0} (disk : Ghosts D) (xs ys us vs : List ℕ) {old mid new : D}
    → Moved disk (Among xs) (Among us) old mid → Moved disk (Among ys) (Among vs) mid new → Moved disk (Among (xs ++ ys)) (Among (us ++ vs)) old new
moved_lists disk xs ys us vs first second = moved_wider disk (joined xs ys) (joined us vs) (moved_both disk first second)
  where
    joined : (xs ys : List ℕ) (q : ℕ) → Either (Among xs) (Among ys) q → Among (xs ++ ys) q
    joined xs ys q (inl is) = Contains-append_left xs ys q is
    joined xs ys q (inr is) = Contains-append_right xs ys q is

-- contents that were told are told after it, and changed on these names alone
pub moved_told : {D : Type 0} (disk : Ghosts D) {W R : ℕ → Type 0} {old new : D} (m : Contents)
    → disk.holds old ≡ Some m → Moved disk W R old new → (n : Contents) × (disk.holds new ≡ Some n) × Changed W R m n
moved_told disk {W} {R} {old} {new} m told moved = stepped_told (Changed W R) (disk.holds old) (disk.holds new) m told moved.contents

-- what is neither written nor removed is as it was
pub changed_kept : (W R : ℕ → Type 0) (m n : Contents) (q : ℕ) → (W q → ⊥) → (R q → ⊥) → Changed W R m n → get n q ≡ get m q
changed_kept W R m n q w r changed = kept (changed q w)
  where
    kept : (get n q ≡ get m q) ⊎ (R q × (get n q ≡ None)) → get n q ≡ get m q
    kept (inl same) = same
    kept (inr (is, gone)) = absurd (r is)

-- told contents, after a call that answered Ok
pub written_told : {D : Type 0} (disk : Ghosts D) {name : ℕ} {bytes : List ℕ} {old new : D} {done : Unit {0}} (m : Contents)
    → disk.holds old ≡ Some m → Writes disk.holds disk.faults disk.since disk.clock disk.changed name bytes old new (Ok done) → disk.holds new ≡ Some (insert m name bytes)
written_told disk {name} {bytes} m told writes = writes.contents ∙ ap (option_map (λ (c : Contents). insert c name bytes)) told

pub removed_told : {D : Type 0} (disk : Ghosts D) {name : ℕ} {old new : D} {done : Unit {0}} (m : Contents)
    → disk.holds old ≡ Some m → Removes disk.holds disk.faults disk.since disk.clock disk.changed name old new (Ok done) → disk.holds new ≡ Some (remove m name)
removed_told disk {name} m told removes = removes.contents ∙ ap (option_map (λ (c : Contents). remove c name)) told

-- and after one that only looked
pub kept_told : {D : Type 0} (disk : Ghosts D) {old new : D} (m : Contents)
    → disk.holds old ≡ Some m → Keeps disk.holds disk.faults disk.since disk.clock disk.changed old new → disk.holds new ≡ Some m
kept_told disk m told keeps = keeps.contents ∙ told

-- ---- what a crash leaves at any moment

-- a piece of work that moved some names left images changed so
pub leaves_moved : {D : Type 0} (disk : Ghosts D) {W R : ℕ → Type 0} {P : Contents → Type 0} {old new : D} → ((c : Contents) → LikeOne W R (disk.since old (disk.clock old)) c → P c) → Moved disk W R old new → Leaves disk P old new
leaves_moved disk {W} {R} {P} {old} {new} h moved = record {
  later = moved.later;
  since_then = λ c is. here c (moved.each (disk.clock old) c (omega arith) is);
  each = λ t c le is. came t c (moved.each t c le is);
}
  where
    here : (c : Contents) → disk.since old (disk.clock old) c ⊎ LikeOne W R (disk.since old (disk.clock old)) c → P c
    here c (inl before) = h c (like_itself W R (disk.since old (disk.clock old)) c before)
    here c (inr like) = h c like

    came : (t : ℕ) (c : Contents) → disk.since old t c ⊎ LikeOne W R (disk.since old (disk.clock old)) c → disk.since old t c ⊎ P c
    came t c (inl before) = inl before
    came t c (inr like) = inr (h c like)

pub leaves_join : {D : Type 0} (disk : Ghosts D) {P : Contents → Type 0} {old mid new : D} → Leaves disk P old mid → Leaves disk P mid new → Leaves disk P old new
leaves_join disk {P} {old} {mid} {new} first second = record {
  later = omega (arith, first.later, second.later);
  since_then = λ c is. here c (second.each (disk.clock old) c first.later is);
  each = λ t c le is. came t c le (second.each t c (omega (arith, le, first.later)) is);
}
  where
    here : (c : Contents) → disk.since mid (disk.clock old) c ⊎ P c → P c
    here c (inl before) = first.since_then c before
    here c (inr is) = is

    came : (t : ℕ) (c : Contents) → t ≤ disk.clock old → disk.since mid t c ⊎ P c → disk.since old t c ⊎ P c
    came t c le (inl before) = first.each t c le before
    came t c le (inr is) = inr is

pub leaves_wider : {D : Type 0} (disk : Ghosts D) {P Q : Contents → Type 0} {old new : D} → ((c : Contents) → P c → Q c) → Leaves disk P old new → Leaves disk Q old new
leaves_wider disk {P} {Q} {old} {new} h leaves = record {
  later = leaves.later;
  since_then = λ c is. h c (leaves.since_then c is);
  each = λ t c le is. came t c (leaves.each t c le is);
}
  where
    came : (t : ℕ) (c : Contents) → disk.since old t c ⊎ P c → disk.since old t c ⊎ Q c
    came t c (inl before) = inl before
    came t c (inr is) = inr (h c is)
