-- What a disk in memory keeps after one thing more, and what its calls are.
use Rattle.std.proofs.Common.{◌≡◌, ◌≤◌, ◌<◌, ◌+◌, ℕ, Bool, true, false, List, [], ◌∷◌, ◌++◌, length, refl, sym, ◌∙◌, ap, subst, inl, inr, arith}
use Rattle.std.specs.Prelude.{◌⊎◌, Option, Some, Result, Ok, Err}
use Rattle.std.proofs.lemmas.List.{length-append}
use Rattle.std.specs.FinMap.{empty, insert, remove, get}
use Rattle.common_laws.specs.Maps.{Contents}
use Rattle.col_disk.specs.Calls.{Elsewhere, GoneOrKept, Keeps, Writes, Removes}
use Rattle.col_disk.specs.Crashes.{Image, TimePasses}
use Rattle.col_disk.specs.declared.disk.DiskFault.{DiskFault}
use Rattle.col_disk.specs.declared.disk.DiskFault.TheVariants.{Failed, Memory as no_memory}
use Rattle.col_disk.specs.declared.did.Did.{Did}
use Rattle.col_disk.specs.declared.did.Did.TheVariants.{Placed, Wrote, Removed, Kept, Synced}
use Rattle.col_disk.specs.Dids.{after, replayed, Then, Images, contents_of, ImagesOf, ImagesSince, IsMemDisk}
use Rattle.col_disk.specs.Done.{replayed_more, images_more, at_last, at_now, since_more, now_shown}
use Rattle.col_disk.specs.Memory.{Memory, held_by}
use Rattle.col_disk.proofs.Moving.{insert_elsewhere}

-- one thing more was noted, and there is room for a sync
pub kept_more : (held now : Contents) (dids : List Did) (did : Did) (dirty : Bool) (len capacity len_now capacity_now : ℕ) → now ≡ after held did → len_now < capacity_now → IsMemDisk held dids dirty len capacity → IsMemDisk now (dids ++ did ∷ []) true len_now capacity_now
kept_more held now dids did dirty len capacity len_now capacity_now is room kept = record {
  held_is = is ∙ ap (λ (m : Contents). after m did) kept.held_is ∙ sym (replayed_more empty dids did);
  room = λ _. room;
  clean = λ clean. absurd (cc);
}

-- a sync was noted
pub kept_synced : (held : Contents) (dids : List Did) (dirty : Bool) (len capacity len_now capacity_now : ℕ) → IsMemDisk held dids dirty len capacity → IsMemDisk held (dids ++ Synced ∷ []) false len_now capacity_now
kept_synced held dids dirty len capacity len_now capacity_now kept = record {
  held_is = kept.held_is ∙ sym (replayed_more empty dids Synced);
  room = λ dirty_now. absurd (cc);
  clean = λ _ c is. images_more empty (λ m. m ≡ empty) dids Synced c is ∙ sym (replayed_more empty dids Synced);
}

pub synced_only : (dids : List Did) (c : Contents) → ImagesOf (dids ++ Synced ∷ []) c → c ≡ contents_of (dids ++ Synced ∷ [])
synced_only dids c is = images_more empty (λ m. m ≡ empty) dids Synced c is ∙ sym (replayed_more empty dids Synced)

-- one thing more, by what was done before and after it
passes_more : (dids news : List Did) (did : Did) → news ≡ dids ++ did ∷ [] → (t : ℕ) (c : Contents) → t ≤ length dids → ImagesSince news t c → ImagesSince dids t c ⊎ ImagesSince news (length news) c
passes_more dids news did is t c le since =
    subst (λ (ds : List Did). ImagesSince ds t c → ImagesSince dids t c ⊎ ImagesSince ds (length ds) c) (sym is) (since_more dids did t c le) since

longer : (dids news : List Did) (did : Did) → news ≡ dids ++ did ∷ [] → length dids ≤ length news
longer dids news did is = let long : length news ≡ length (dids ++ did ∷ []) = ap length is in omega (arith, long, length-append dids (did ∷ []))

images_step : (dids news : List Did) (did : Did) → news ≡ dids ++ did ∷ [] → (c : Contents) → ImagesSince news (length news) c → Then (contents_of dids) (ImagesOf dids) did c
images_step dids news did is c since = images_more empty (λ m. m ≡ empty) dids did c (subst (λ (ds : List Did). ImagesOf ds c) is (at_now news c since))

contents_step : (dids news : List Did) (did : Did) → news ≡ dids ++ did ∷ [] → contents_of news ≡ after (contents_of dids) did
contents_step dids news did is = ap contents_of is ∙ replayed_more empty dids did

lifted : (dids : List Did) (step : Contents → Contents → Type 0) (c : Contents) → (d : Contents) × ImagesOf dids d × step d c → (d : Contents) × ImagesSince dids (length dids) d × step d c
lifted dids step c (d, is, s) = (d, at_last dids d is, s)

abbrev pub Written : ℕ → List ℕ → Memory → Memory → Result (Unit {0}) DiskFault → Type 0
Written name bytes old new result = Writes {D = Memory} (λ d. Some (held_by d)) (λ d. d.faults) (λ d t c. ImagesSince d.done t c) (λ d. length d.done) (λ d. d.changed) name bytes old new result

abbrev pub Taken : ℕ → Memory → Memory → Result (Unit {0}) DiskFault → Type 0
Taken name old new result = Removes {D = Memory} (λ d. Some (held_by d)) (λ d. d.faults) (λ d t c. ImagesSince d.done t c) (λ d. length d.done) (λ d. d.changed) name old new result

pub written : (name : ℕ) (bytes : List ℕ) (old new : Memory) (done : Unit {0}) → new.done ≡ old.done ++ Wrote name bytes ∷ [] → old.faults ≤ new.faults → new.changed ≡ true → Written name bytes old new (Ok done)
written name bytes old new done is counted changed = record {
  contents = ap (λ (m : Contents). Some m) (contents_step old.done new.done (Wrote name bytes) is);
  counted = counted;
  images = λ c since. lifted old.done (Elsewhere name) c (images_step old.done new.done (Wrote name bytes) is c since);
  time = record { later = longer old.done new.done (Wrote name bytes) is; each = passes_more old.done new.done (Wrote name bytes) is };
  remembered = changed;
}

pub torn : (name : ℕ) (bytes taken : List ℕ) (old new : Memory) → new.done ≡ old.done ++ Wrote name taken ∷ [] → old.faults ≤ new.faults → new.changed ≡ true → Written name bytes old new (Err Failed)
torn name bytes taken old new is counted changed = record {
  contents = λ q other. ap (λ (m : Contents). get m q) (contents_step old.done new.done (Wrote name taken) is) ∙ insert_elsewhere (contents_of old.done) name taken q other;
  counted = counted;
  images = λ c since. lifted old.done (Elsewhere name) c (images_step old.done new.done (Wrote name taken) is c since);
  time = record { later = longer old.done new.done (Wrote name taken) is; each = passes_more old.done new.done (Wrote name taken) is };
  remembered = changed;
}

pub removed : (name : ℕ) (old new : Memory) (done : Unit {0}) → new.done ≡ old.done ++ Removed name ∷ [] → old.faults ≤ new.faults → new.changed ≡ true → Taken name old new (Ok done)
removed name old new done is counted changed = record {
  contents = ap (λ (m : Contents). Some m) (contents_step old.done new.done (Removed name) is);
  counted = counted;
  images = λ c since. lifted old.done (GoneOrKept name) c (images_step old.done new.done (Removed name) is c since);
  time = record { later = longer old.done new.done (Removed name) is; each = passes_more old.done new.done (Removed name) is };
  remembered = changed;
}

pub not_removed : (name : ℕ) (old new : Memory) → new.done ≡ old.done ++ Kept name ∷ [] → old.faults ≤ new.faults → new.changed ≡ true → Taken name old new (Err Failed)
not_removed name old new is counted changed = record {
  contents = inr (contents_step old.done new.done (Kept name) is);
  counted = counted;
  images = λ c since. lifted old.done (GoneOrKept name) c (images_step old.done new.done (Kept name) is c since);
  time = record { later = longer old.done new.done (Kept name) is; each = passes_more old.done new.done (Kept name) is };
  remembered = changed;
}

-- a good sync, that had something to do or not
pub kept_still : (old begun new : Memory) → begun.done ≡ old.done → begun.changed ≡ old.changed → old.faults ≤ begun.faults → (new ≡ begun) ⊎ (new ≡ record begun { done = begun.done ++ Synced ∷ [] })
    → ((c : Contents) → ImagesOf new.done c → c ≡ held_by new)
    → Keeps {D = Memory} (λ d. Some (held_by d)) (λ d. d.faults) (λ d t c. ImagesSince d.done t c) (λ d. length d.done) (λ d. d.changed) old new
kept_still old begun new same changed counted (inl is) only =
    let dids : new.done ≡ old.done = ap (λ (m : Memory). m.done) is ∙ same in
    record {
      contents = ap (λ (ds : List Did). Some (contents_of ds)) dids;
      counted = subst (λ (m : Memory). old.faults ≤ m.faults) (sym is) counted;
      images = λ c since. subst (λ (ds : List Did). ImagesSince ds (length ds) c) dids since;
      time = record {
        later = let long : length new.done ≡ length old.done = ap length dids in omega (arith, long);
        each = λ t c le since. inl (subst (λ (ds : List Did). ImagesSince ds t c) dids since);
      };
      remembered = ap (λ (m : Memory). m.changed) is ∙ changed;
    }
kept_still old begun new same changed counted (inr is) only =
    let dids : new.done ≡ old.done ++ Synced ∷ [] = ap (λ (m : Memory). m.done) is ∙ ap (λ (ds : List Did). ds ++ Synced ∷ []) same in
    let contents : contents_of new.done ≡ contents_of old.done = contents_step old.done new.done Synced dids in
    record {
      contents = ap (λ (m : Contents). Some m) contents;
      counted = subst (λ (m : Memory). old.faults ≤ m.faults) (sym is) counted;
      images = λ c since. subst (λ (m : Contents). ImagesSince old.done (length old.done) m) (sym (images_step old.done new.done Synced dids c since)) (at_last old.done (contents_of old.done) (now_shown old.done));
      time = record { later = longer old.done new.done Synced dids; each = passes_more old.done new.done Synced dids };
      remembered = ap (λ (m : Memory). m.changed) is ∙ changed;
    }

pub settled_now : (old begun new : Memory) → begun.done ≡ old.done → (new ≡ begun) ⊎ (new ≡ record begun { done = begun.done ++ Synced ∷ [] }) → ((c : Contents) → ImagesOf new.done c → c ≡ held_by new)
    → (m : Contents) → ◌≡◌ {A = Option Contents} (Some (held_by old)) (Some m) → (c : Contents) → ImagesSince new.done (length new.done) c → c ≡ m
settled_now old begun new same noted only m told c since = only c (at_now new.done c since) ∙ contents noted ∙ held
  where
    held : held_by old ≡ m
    held = cc

    contents : (new ≡ begun) ⊎ (new ≡ record begun { done = begun.done ++ Synced ∷ [] }) → held_by new ≡ held_by old
    contents (inl is) = ap (λ (d : Memory). held_by d) is ∙ ap contents_of same
    contents (inr is) = contents_step old.done new.done Synced (ap (λ (d : Memory). d.done) is ∙ ap (λ (ds : List Did). ds ++ Synced ∷ []) same)
