-- The word that clap takes for DIR is the one that `dir_of_words` names.
use Rattle.std.proofs.Common.{arith, ◌≡◌, ◌∙◌, ◌||◌, ℕ, suc, drop, Bool, true, false, not, List, [], ◌∷◌, length, Option, Some, None, refl, sym, ap, subst, inl, inr}
use Rattle.std.specs.Prelude.{◌⊎◌, bytes_eq, codes, fold, slice_get}
use Rattle.std.specs.List.{list_all}
use Rattle.std.specs.Option.{option_map_or}
use Rattle.std.specs.Str.{chars}
use Rattle.std.proofs.lemmas.Bool.{eqb-true}
use Rattle.std.proofs.lemmas.Slice.Eq.{bytes_eq-Decides}
use Rattle.clap.specs.Lexer.{name_and_value, short_of}
use Rattle.clap.specs.Kinds.{Kinds}
use Rattle.clap.specs.Faults.{bundle_fault, bundle_step_fault, fault_of, flags_fault, long_fault, other_fault, settle_fault, turn_fault, walk_fault, word_fault}
use Rattle.clap.specs.Simple.{matches_of}
use Rattle.clap.specs.Walk.{Held, Outcome, Row, Rule, Step, Text, Waiting, Walk, after_flag, after_step, arg_by_long, bundle_met, bundle_step, has_row, idle, is_empty, long_word, option, plain, plain_word, settled, settled_rows, short_or_plain, subcommand_or_other, walked, with_default}
use Rattle.clap.proofs.WalkLemmas.{both as both_of}
use Rattle.run_words.specs.Command.{vert}
use Rattle.run_words.specs.Words.{Wanted, dir_behind, dir_of_words, is_form, takes_value, wanted}
use Rattle.run_words.proofs.WordForms.{Form, IsOther, dashes, form_of, long, named_alone, other, valued_takes_none}
use Rattle.run_words.proofs.DirRows.{dir_in, dir_of_row, dir_row, other_given}
use Rattle.run_words.proofs.DirPlaces.{top, rules, Valued, text_of, Place, position_of, IsAt, answer, Wait, held, standing, At, end_of, Found, IsFaultless, nothing_else, one_word, rows_used, row_kept, Flag, name_of, rows_flagged, flag_kept, at_kept, at_end, taken, rows_taken, pending_taken, to_place, at_taken, same_answer, found_behind, mover, lines, seed, halt, audit, neither, dir, both, free, valued}

-- ---- an option that lacks its value

no_value : (o : Valued) (rows : List Row) → settle_fault rules false (held rows (valued o)) ≡ [] → ⊥
no_value mover rows is = cc
no_value lines rows is = cc
no_value seed rows is = cc

no_word : (o : Valued) (place : Place) (rows : List Row) (word : Text) → turn_fault top [] (standing rows (valued o) place true) word ≡ [] → ⊥
no_word mover neither rows word is = cc
no_word lines neither rows word is = cc
no_word seed neither rows word is = cc
no_word mover (dir d) rows word is = cc
no_word lines (dir d) rows word is = cc
no_word seed (dir d) rows word is = cc
no_word o (both d) rows word is = cc

-- `--` doesn't stand behind it
stuck : (ws : List Text) (o : Valued) (place : Place) (rows : List Row) → IsFaultless (standing rows (valued o) place true) ws → ⊥
stuck [] o place rows ok = no_value o rows ok.last
stuck (word ∷ ws) o place rows ok = no_word o place rows word (one_word (standing rows (valued o) place true) word ws ok).0

-- ---- a word behind `--`, by the name that it has

abbrev IsNamed : Text → Type 0
IsNamed name = ((o : Valued) × (name ≡ text_of o)) ⊎ (((f : Flag) × (name ≡ name_of f)) ⊎ (arg_by_long rules name ≡ None))

is_named : (name : Text) → IsNamed name
is_named name = by (bytes_eq (codes "mover") name) refl (bytes_eq (codes "halt") name) refl (bytes_eq (codes "audit") name) refl (bytes_eq (codes "gen") name) refl (bytes_eq (codes "seed") name) refl
  where
    same : (text : Text) → bytes_eq text name ≡ true → name ≡ text
    same text is = sym ((bytes_eq-Decides text name).0 is)

    by : (a : Bool) → bytes_eq (codes "mover") name ≡ a → (b : Bool) → bytes_eq (codes "halt") name ≡ b → (e : Bool) → bytes_eq (codes "audit") name ≡ e → (c : Bool) → bytes_eq (codes "gen") name ≡ c
        → (d : Bool) → bytes_eq (codes "seed") name ≡ d → IsNamed name
    by true is b bs e es c cs d ds = inl (mover, same (codes "mover") is)
    by false is true bs e es c cs d ds = inr (inl (halt, same (codes "halt") bs))
    by false is false bs true es c cs d ds = inr (inl (audit, same (codes "audit") es))
    by false is false bs false es true cs d ds = inl (lines, same (codes "gen") cs)
    by false is false bs false es false cs true ds = inl (seed, same (codes "seed") ds)
    by false is false bs false es false cs false ds = inr (inr (rw (is, bs, es, cs, ds) refl))

abbrev long_faults : Held → Text × Option Text → Kinds
long_faults h named = long_fault rules false (arg_by_long rules named.0) named.1 h

abbrev long_walked : Walk → Text → Text × Option Text → Walk
long_walked w word named = let met = long_word rules w.waiting word named.0 named.1 w.held in after_step rules word w met.0 met.1

-- an option that lacks its value has no other behind it
settles_first : (h : Held) (name : Text) (value : Option Text) → IsNamed name → long_faults h (name, value) ≡ [] → settle_fault rules false h ≡ []
settles_first h name value (inl (o, is)) fault = by o value (subst (λ (n : Text). long_faults h (n, value) ≡ []) is fault)
  where
    by : (o : Valued) (value : Option Text) → long_faults h (text_of o, value) ≡ [] → settle_fault rules false h ≡ []
    by mover None fault = fault
    by lines None fault = fault
    by seed None fault = fault
    by mover (Some v) fault = (nothing_else _ _ fault).0
    by lines (Some v) fault = (nothing_else _ _ fault).0
    by seed (Some v) fault = (nothing_else _ _ fault).0
settles_first h name value (inr (inl (f, is))) fault = by f value (subst (λ (n : Text). long_faults h (n, value) ≡ []) is fault)
  where
    by : (f : Flag) (value : Option Text) → long_faults h (name_of f, value) ≡ [] → settle_fault rules false h ≡ []
    by halt None fault = (nothing_else _ _ fault).0
    by audit None fault = (nothing_else _ _ fault).0
    by halt (Some v) fault = absurd cc
    by audit (Some v) fault = absurd cc
settles_first h name value (inr (inr is)) fault = let never : long_fault rules false None value h ≡ [] = rw is at fault in absurd cc

option_alone : (o : Valued) (p : Option (Text × List Text)) (place : Place) (rows : List Row) (word : Text)
    → long_walked (standing rows (free p) place false) word (text_of o, None) ≡ standing (settled_rows rules p rows) (valued o) place false
option_alone mover p place rows word = refl
option_alone lines p place rows word = refl
option_alone seed p place rows word = refl

option_valued : (o : Valued) (value : Text) (p : Option (Text × List Text)) (place : Place) (rows : List Row) (word : Text)
    → long_walked (standing rows (free p) place false) word (text_of o, Some value) ≡ standing (rows_used o (value ∷ []) (settled_rows rules p rows)) (free None) place false
unfolding rows_used
option_valued mover value p place rows word = refl
option_valued lines value p place rows word = refl
option_valued seed value p place rows word = refl

flag_alone : (f : Flag) (p : Option (Text × List Text)) (place : Place) (rows : List Row) (word : Text)
    → long_walked (standing rows (free p) place false) word (name_of f, None) ≡ standing (rows_flagged f (settled_rows rules p rows)) (free None) place false
unfolding rows_flagged
flag_alone halt p place rows word = refl
flag_alone audit p place rows word = refl

abbrev skips : Wait → Bool
skips (free p) = false
skips (valued o) = true

-- what is found over the words behind, from wherever the walk then stands
abbrev Next : List Text → Type 0
Next ws = (wait : Wait) (place : Place) (rows : List Row) → At wait place rows → IsFaultless (standing rows wait place false) ws → Found (standing rows wait place false) ws (answer place (dir_behind (skips wait) ws))

abbrev named_as : Text → Option Text → Text × Option Text
named_as name value = (name, value)

abbrev dashed : Text → Text
dashed text = 45 ∷ (45 ∷ text)

takes_word : (o : Valued) (ws : List Text) → dir_behind (takes_value (dashed (text_of o))) ws ≡ dir_behind true ws
takes_word mover ws = refl
takes_word lines ws = refl
takes_word seed ws = refl

takes_no_word : (f : Flag) (ws : List Text) → dir_behind (takes_value (dashed (name_of f))) ws ≡ dir_behind false ws
takes_no_word halt ws = refl
takes_no_word audit ws = refl

module _ (ws : List Text) (x : ℕ) (rest : Text) (p : Option (Text × List Text)) (place : Place) (rows : List Row) where
  abbrev from : Walk
  from = standing rows (free p) place false

  abbrev now : List Row
  now = settled_rows rules p rows

  abbrev FoundBy : Text × Option Text → Type 0
  FoundBy named = IsAt place now → IsFaultless (long_walked from (dashed (x ∷ rest)) named) ws → Next ws
      → Found (long_walked from (dashed (x ∷ rest)) named) ws (answer place (dir_behind (takes_value (dashed (x ∷ rest))) ws))

  by_option : (o : Valued) → name_and_value (x ∷ rest) ≡ named_as (text_of o) None → FoundBy (named_as (text_of o) None)
  by_option o named is ok next =
      let stands = option_alone o p place rows (dashed (x ∷ rest)) in
      let there = next (valued o) place now is (subst (λ (w : Walk). IsFaultless w ws) stands ok) in
      let text : dir_behind (takes_value (dashed (x ∷ rest))) ws ≡ dir_behind true ws =
      ap (λ (t : Text). dir_behind (takes_value (dashed t)) ws) (named_alone (x ∷ rest) (text_of o) named) ∙ takes_word o ws in
      subst (λ (w : Walk). Found w ws (answer place (dir_behind (takes_value (dashed (x ∷ rest))) ws))) (sym stands) (there ∙ ap (answer place) (sym text))

  by_valued : (o : Valued) (value : Text) → name_and_value (x ∷ rest) ≡ named_as (text_of o) (Some value) → FoundBy (named_as (text_of o) (Some value))
  by_valued o value named is ok next =
      let stands = option_valued o value p place rows (dashed (x ∷ rest)) in
      let kept = at_kept place (rows_used o (value ∷ []) now) now (row_kept o (value ∷ []) now) is in
      let there = next (free None) place (rows_used o (value ∷ []) now) kept (subst (λ (w : Walk). IsFaultless w ws) stands ok) in
      let text : dir_behind (takes_value (dashed (x ∷ rest))) ws ≡ dir_behind false ws =
      ap (λ (t : Bool). dir_behind t ws) (valued_takes_none (x ∷ rest) (text_of o) value named) in
      subst (λ (w : Walk). Found w ws (answer place (dir_behind (takes_value (dashed (x ∷ rest))) ws))) (sym stands) (there ∙ ap (answer place) (sym text))

  by_flag : (f : Flag) → name_and_value (x ∷ rest) ≡ named_as (name_of f) None → FoundBy (named_as (name_of f) None)
  by_flag f named is ok next =
      let stands = flag_alone f p place rows (dashed (x ∷ rest)) in
      let kept = at_kept place (rows_flagged f now) now (flag_kept f now) is in
      let there = next (free None) place (rows_flagged f now) kept (subst (λ (w : Walk). IsFaultless w ws) stands ok) in
      let text : dir_behind (takes_value (dashed (x ∷ rest))) ws ≡ dir_behind false ws =
      ap (λ (t : Text). dir_behind (takes_value (dashed t)) ws) (named_alone (x ∷ rest) (name_of f) named) ∙ takes_no_word f ws in
      subst (λ (w : Walk). Found w ws (answer place (dir_behind (takes_value (dashed (x ∷ rest))) ws))) (sym stands) (there ∙ ap (answer place) (sym text))

  by_name : (name : Text) (value : Option Text) → name_and_value (x ∷ rest) ≡ named_as name value → IsNamed name → long_faults (held rows (free p)) (named_as name value) ≡ [] → FoundBy (named_as name value)
  by_name name None named (inl (o, is)) fault =
      subst (λ (n : Text). FoundBy (named_as n None)) (sym is) (by_option o (named ∙ ap (λ (n : Text). named_as n None) is))
  by_name name (Some value) named (inl (o, is)) fault =
      subst (λ (n : Text). FoundBy (named_as n (Some value))) (sym is) (by_valued o value (named ∙ ap (λ (n : Text). named_as n (Some value)) is))
  by_name name None named (inr (inl (f, is))) fault =
      subst (λ (n : Text). FoundBy (named_as n None)) (sym is) (by_flag f (named ∙ ap (λ (n : Text). named_as n None) is))
  by_name name (Some value) named (inr (inl (f, is))) fault =
      absurd (no_text f (subst (λ (n : Text). long_faults (held rows (free p)) (named_as n (Some value)) ≡ []) is fault))
    where
      no_text : (f : Flag) → long_faults (held rows (free p)) (named_as (name_of f) (Some value)) ≡ [] → ⊥
      no_text halt never = cc
      no_text audit never = cc
  by_name name value named (inr (inr is)) fault =
      let never : long_fault rules false None value (held rows (free p)) ≡ [] = rw is at fault in
      absurd cc

  found_long : long_faults (held rows (free p)) (name_and_value (x ∷ rest)) ≡ [] → FoundBy (name_and_value (x ∷ rest))
  found_long fault = by_name (name_and_value (x ∷ rest)).0 (name_and_value (x ∷ rest)).1 refl (is_named (name_and_value (x ∷ rest)).0) fault

-- ---- other words

not_short : (rows : List Row) (wait : Wait) (flags : Text) (k : ℕ) (first : Option ℕ) → bundle_step_fault rules false first flags 0 (held rows wait) (flags_fault rules false k) ≡ []
    → bundle_step rules first flags 0 plain (held rows wait) (bundle_met rules k) ≡ (held rows wait, plain)
not_short rows wait flags k None fault = refl
not_short rows wait flags k (Some c) fault = absurd cc

as_plain : (rows : List Row) (wait : Wait) (waiting : Waiting) (word : Text) (short : Option Text) → option_map_or (λ flags. bundle_fault rules false flags (held rows wait)) short [] ≡ []
    → short_or_plain rules waiting word short (held rows wait) ≡ plain_word rules waiting word (held rows wait)
unfolding bundle_met flags_fault
as_plain rows wait waiting word None fault = refl
as_plain rows wait waiting word (Some []) fault = refl
as_plain rows wait waiting word (Some (f ∷ flags)) fault =
    ap (λ (met : Held × Outcome). after_flag rules waiting word met.0 met.1) (not_short rows wait (f ∷ flags) (length flags) (slice_get (chars (f ∷ flags)) 0) fault)

met_other : (rows : List Row) (wait : Wait) (waiting : Waiting) (position : ℕ) (word : Text) → IsOther word → other_fault top None word (held rows wait) ≡ []
    → subcommand_or_other rules None waiting position word (held rows wait) ≡ plain_word rules waiting word (held rows wait)
met_other rows wait waiting position word is fault =
    let short : option_map_or (λ flags. bundle_fault rules false flags (held rows wait)) (short_of word) [] ≡ [] = rw (is.dashes, is.long) at fault in
    rw (is.dashes, is.long) (as_plain rows wait waiting word (short_of word) short)

goes_on : (place : Place) (p : Option (Text × List Text)) (rows : List Row) (word : Text) → IsOther word → word_fault top [] false idle word (held rows (free p)) ≡ []
    → walked rules [] (standing rows (free p) place false) word ≡ standing (rows_taken place p rows) (free (pending_taken place word p)) (taken place word) false
unfolding walked
goes_on place p rows word is fault =
    ap (λ (met : Held × Step). after_step rules word (standing rows (free p) place false) met.0 met.1) (met_other rows (free p) idle (position_of place) word is fault) ∙ to_place place word p rows false

is_value : (place : Place) (o : Valued) (rows : List Row) (word : Text) → IsOther word → word_fault top [] false (option (text_of o)) word (held rows (valued o)) ≡ []
    → walked rules [] (standing rows (valued o) place false) word ≡ standing rows (free (Some (text_of o, word ∷ []))) place false
unfolding walked
is_value place o rows word is fault =
    ap (λ (met : Held × Step). after_step rules word (standing rows (valued o) place false) met.0 met.1) (met_other rows (valued o) (option (text_of o)) (position_of place) word is fault) ∙ by o
  where
    by : (o : Valued) → (let met = plain_word rules (option (text_of o)) word (held rows (valued o)) in after_step rules word (standing rows (valued o) place false) met.0 met.1) ≡ standing rows (free (Some (text_of o, word ∷ []))) place false
    by mover = refl
    by lines = refl
    by seed = refl

-- ---- the walk over all words

turn : (word : Text) (ws : List Text) → Form word → (wait : Wait) (place : Place) (rows : List Row) → At wait place rows → IsFaultless (standing rows wait place false) (word ∷ ws) → Next ws
    → Found (standing rows wait place false) (word ∷ ws) (answer place (dir_behind (skips wait) (word ∷ ws)))
unfolding walked rows_used
turn _ ws dashes (free p) place rows is ok next = found_behind ws place p rows is
turn _ ws dashes (valued o) place rows is ok next = absurd (stuck ws o place rows (one_word (standing rows (valued o) place false) (45 ∷ (45 ∷ [])) ws ok).1)
turn _ ws (long x rest) (free p) place rows is ok next =
    let parts = one_word (standing rows (free p) place false) (dashed (x ∷ rest)) ws ok in
    found_long ws x rest p place rows (nothing_else (word_fault top [] false idle (dashed (x ∷ rest)) (held rows (free p))) _ parts.0).0 is parts.1 next
turn _ ws (long x rest) (valued o) place rows is ok next =
    let parts = one_word (standing rows (valued o) place false) (dashed (x ∷ rest)) ws ok in
    let fault = (nothing_else (word_fault top [] false (option (text_of o)) (dashed (x ∷ rest)) (held rows (valued o))) _ parts.0).0 in
    absurd (no_value o rows (settles_first (held rows (valued o)) (name_and_value (x ∷ rest)).0 (name_and_value (x ∷ rest)).1 (is_named (name_and_value (x ∷ rest)).0) fault))
turn _ ws (other word form) (free p) place rows is ok next =
    let parts = one_word (standing rows (free p) place false) word ws ok in
    let stands = goes_on place p rows word form (nothing_else (word_fault top [] false idle word (held rows (free p))) _ parts.0).0 in
    let there = next (free (pending_taken place word p)) (taken place word) (rows_taken place p rows) (at_taken place word p rows is) (subst (λ (w : Walk). IsFaultless w ws) stands parts.1) in
    let first : dir_behind false (word ∷ ws) ≡ Some word = rw (form.dashes, form.option) refl in
    subst (λ (w : Walk). Found w ws (answer place (dir_behind false (word ∷ ws)))) (sym stands) (there ∙ same_answer place word (dir_behind false ws) ∙ ap (answer place) (sym first))
turn _ ws (other word form) (valued o) place rows is ok next =
    let parts = one_word (standing rows (valued o) place false) word ws ok in
    let stands = is_value place o rows word form (nothing_else (word_fault top [] false (option (text_of o)) word (held rows (valued o))) _ parts.0).0 in
    let kept = at_kept place (rows_used o (word ∷ []) rows) rows (row_kept o (word ∷ []) rows) is in
    let there = next (free (Some (text_of o, word ∷ []))) place rows kept (subst (λ (w : Walk). IsFaultless w ws) stands parts.1) in
    subst (λ (w : Walk). Found w ws (answer place (dir_behind false ws))) (sym stands) there

found : (ws : List Text) (wait : Wait) (place : Place) (rows : List Row) → At wait place rows → IsFaultless (standing rows wait place false) ws → Found (standing rows wait place false) ws (answer place (dir_behind (skips wait) ws))
found [] (free p) place rows is ok = at_end place (settled_rows rules p rows) is
found [] (valued o) place rows is ok = absurd (no_value o rows ok.last)
found (word ∷ ws) wait place rows is ok = turn word ws (form_of word) wait place rows is ok (found ws)

-- ---- defaults, and the matches

abbrev is_none : List Text → Bool
is_none [] = true
is_none (v ∷ vs) = false

abbrev is_apart : Rule → Bool
is_apart a = is_none a.defaults || not (bytes_eq a.id (codes "dir"))

given_kept : (a : Rule) (rows : List Row) → is_apart a ≡ true → dir_row (with_default rows a) ≡ dir_row rows
given_kept a rows apart = by (has_row a.id rows) refl a.defaults refl
  where
    by : (t : Bool) → has_row a.id rows ≡ t → (ds : List Text) → a.defaults ≡ ds → dir_row (with_default rows a) ≡ dir_row rows
    by true is ds given = rw is refl
    by false is [] given = rw (is, given) refl
    by false is (v ∷ vs) given = rw (is, given) (other_given a.id _ _ (v ∷ vs) rows (differs (bytes_eq a.id (codes "dir")) refl))
      where
        differs : (t : Bool) → bytes_eq a.id (codes "dir") ≡ t → bytes_eq a.id (codes "dir") ≡ false
        differs false no_dir = no_dir
        differs true is_dir = let never : false ≡ true = rw (given, is_dir) at apart in absurd cc

all_given_kept : (as_given : List Rule) (rows : List Row) → list_all is_apart as_given ≡ true → dir_row (fold with_default rows as_given) ≡ dir_row rows
all_given_kept [] rows apart = refl
all_given_kept (a ∷ more) rows apart = let parts = both_of (is_apart a) (list_all is_apart more) apart in all_given_kept more (with_default rows a) parts.1 ∙ given_kept a rows parts.0

words_behind : (words : List Text) → dir_of_words words ≡ dir_behind false (drop 1 words)
words_behind [] = refl
words_behind (word ∷ ws) = refl

taken_words : (words : List Text) → fault_of vert words ≡ [] → dir_of_words words ≡ dir_in (matches_of vert words)
taken_words words none =
    let ws = drop 1 words in
    let start = standing [] (free None) neither false in
    let walk_first = nothing_else (walk_fault top [] start ws) _ none in
    let below_none = nothing_else _ _ walk_first.1 in
    let settled_last = nothing_else (settle_fault rules false (end_of start ws)) _ below_none.1 in
    let stood = found ws (free None) neither [] refl (record { words = walk_first.0; last = settled_last.0 }) in
    words_behind words ∙ sym stood ∙ sym (dir_of_row (matches_of vert words) (settled rules (end_of start ws)).rows (all_given_kept rules (settled rules (end_of start ws)).rows refl))

taken_form : (words : List Text) → is_form words ≡ true → fault_of vert words ≡ []
taken_form words form = by (fault_of vert words) form
  where
    by : (kinds : Kinds) → is_empty kinds ≡ true → kinds ≡ []
    by [] e = refl
    by (k ∷ ks) e = let never : suc (length ks) ≡ 0 = eqb-true _ 0 e in absurd (omega (arith, never))

-- where the words are of the form, clap takes for DIR the word that `dir_of_words` names
pub dir_taken : (words : List Text) (w : Wanted) → wanted words ≡ Some w → dir_of_words words ≡ dir_in (matches_of vert words)
dir_taken words w is = by (is_form words) refl
  where
    by : (t : Bool) → is_form words ≡ t → dir_of_words words ≡ dir_in (matches_of vert words)
    by true form = taken_words words (taken_form words form)
    by false form = let never : ◌≡◌ {A = Option Wanted} None (Some w) = rw form at is in absurd cc
