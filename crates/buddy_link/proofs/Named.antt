-- Two stores whose tables are the same by their names have them at the same places.
use Rattle.std.proofs.Common.{◌≡◌, ℕ, zero, suc, Bool, true, false, cond, List, [], ◌∷◌, drop, Option, Some, None, refl, sym, ap, ◌∙◌, subst}
use Rattle.std.specs.Prelude.{bytes_eq, find, option_map}
use Rattle.std.specs.List.{slice_get, All, AllZip}
use Rattle.std.specs.Ordering.{is_eq, is_lt, nat_cmp, ordering_reverse}
use Rattle.std.specs.Cmp.Lexicographic.{slice_cmp, nat_list_cmp_total}
use Rattle.std.specs.declared.cmp.Ordering.{Ordering}
use Rattle.std.specs.declared.cmp.Ordering.TheVariants.{Less, Equal, Greater}
use Rattle.std.proofs.lemmas.List.Elements.{All-cons, All-head, All-nil, All-tail, All-weaker}
use Rattle.std.proofs.lemmas.Map.Text.{is_eq-slice_cmp}
use Rattle.std.proofs.lemmas.Option.{same_Some}
use Rattle.std.proofs.lemmas.Slice.Eq.{bytes_eq-Decides}
use Rattle.common_laws.specs.Maps.{Contents}
use Rattle.col_disk.specs.declared.disk.Disk.{Ghosts}
use Rattle.col_value.specs.declared.column.Column.{Column}
use Rattle.catalog_types.specs.declared.catalogue.Table as kept
use Rattle.catalog_types.specs.Lists.{Pairwise}
use Rattle.catalog_types.specs.Names.{IsBelow}
use Rattle.stored_rows.specs.Stored.{Projected}
use Rattle.folder_model.specs.Tables.{StandForTables}
use Rattle.db_model.specs.Database.{Table}
use Rattle.db_model.specs.State.{State}
use Rattle.store_core.specs.Running.{Running, IsState}
use Rattle.catch_model.specs.Caught.{HaveSameTables}
use Rattle.catch_schemas.specs.Schemas.{columns_in, AreAscending}
use Rattle.buddy_link.proofs.Stays.{columns_told, tables_ascend}

abbrev order : List ℕ → List ℕ → Ordering
order = slice_cmp nat_cmp

tied : (a b : List ℕ) → order a b ≡ Equal → a ≡ b
tied a b same = (bytes_eq-Decides a b).0 (sym (is_eq-slice_cmp a b) ∙ ap is_eq same)

below_off : (a b : List ℕ) → IsBelow a b → bytes_eq b a ≡ false
below_off a b less = sym (is_eq-slice_cmp b a) ∙ ap is_eq (nat_list_cmp_total.antisymm b a ∙ ap ordering_reverse less)

turned : (a b : List ℕ) → order a b ≡ Greater → IsBelow b a
turned a b more = nat_list_cmp_total.antisymm b a ∙ ap ordering_reverse more

on : (a b c : List ℕ) → IsBelow a b → IsBelow b c → IsBelow a c
on a b c one two = nat_list_cmp_total.trans a b c one two

is_less : (o : Ordering) → is_lt o ≡ true → o ≡ Less
is_less Less told = refl
is_less Equal told = absurd (cc)
is_less Greater told = absurd (cc)

-- ---- tables of a catalogue

here_in : (t : kept.Table) (ts : List kept.Table) → columns_in t.name (t ∷ ts) ≡ Some t.columns
here_in t ts = ap (λ (b : Bool). option_map (λ (u : kept.Table). u.columns) (cond b (Some t) (find (λ u. bytes_eq u.name t.name) ts))) ((bytes_eq-Decides t.name t.name).1 refl)

skip_in : (name : List ℕ) (t : kept.Table) (ts : List kept.Table) → bytes_eq t.name name ≡ false → columns_in name (t ∷ ts) ≡ columns_in name ts
skip_in name t ts off = ap (λ (b : Bool). option_map (λ (u : kept.Table). u.columns) (cond b (Some t) (find (λ u. bytes_eq u.name name) ts))) off

none_in : (name : List ℕ) (ts : List kept.Table) → All (λ t. IsBelow name t.name) ts → columns_in name ts ≡ None
none_in name [] all = refl
none_in name (t ∷ ts) all = skip_in name t ts (below_off name t.name (All-head (λ u. IsBelow name u.name) t ts all)) ∙ none_in name ts (All-tail (λ u. IsBelow name u.name) t ts all)

all_on : (a b : List ℕ) (ts : List kept.Table) → IsBelow a b → All (λ t. IsBelow b t.name) ts → All (λ t. IsBelow a t.name) ts
all_on a b ts less all = All-weaker (λ t. IsBelow b t.name) (λ t. IsBelow a t.name) (λ t above. on a b t.name less above) ts all

none_some : (o : Option (List Column)) (cs : List Column) → o ≡ None → Some cs ≡ o → ⊥
none_some o cs none some = let both : Some cs ≡ None = some ∙ none in cc

-- a first table that is lesser than all others is missing there
missing : (t : kept.Table) (ts us : List kept.Table) → All (λ u. IsBelow t.name u.name) us → columns_in t.name (t ∷ ts) ≡ columns_in t.name us → ⊥
missing t ts us over same = none_some (columns_in t.name us) t.columns (none_in t.name us over) (sym (here_in t ts) ∙ same)

abbrev pub HaveSameName : kept.Table → kept.Table → Type 0
HaveSameName t u = t.name ≡ u.name

same_names : (ts us : List kept.Table) → AreAscending ts → AreAscending us → ((name : List ℕ) → columns_in name ts ≡ columns_in name us) → AllZip HaveSameName ts us
same_names [] [] up over same = tt
same_names [] (u ∷ us) up over same = absurd (none_some (columns_in u.name []) u.columns refl (sym (here_in u us) ∙ sym (same u.name)))
same_names (t ∷ ts) [] up over same = absurd (none_some (columns_in t.name []) t.columns refl (sym (here_in t ts) ∙ same t.name))
same_names (t ∷ ts) (u ∷ us) (first, up) (second, over) same = by (order t.name u.name) refl (λ one. same_names ts us up over (λ name. rest one name (bytes_eq t.name name) refl))
  where
    rest : t.name ≡ u.name → (name : List ℕ) (b : Bool) → bytes_eq t.name name ≡ b → columns_in name ts ≡ columns_in name us
    rest one name true is =
        let named : t.name ≡ name = (bytes_eq-Decides t.name name).0 is in
        none_in name ts (subst (λ (n : List ℕ). All (λ v. IsBelow n v.name) ts) named first) ∙ sym (none_in name us (subst (λ (n : List ℕ). All (λ v. IsBelow n v.name) us) (sym one ∙ named) second))
    rest one name false is = sym (skip_in name t ts is) ∙ same name ∙ skip_in name u us (ap (λ (n : List ℕ). bytes_eq n name) (sym one) ∙ is)

    by : (o : Ordering) → order t.name u.name ≡ o → (t.name ≡ u.name → AllZip HaveSameName ts us) → AllZip HaveSameName (t ∷ ts) (u ∷ us)
    by Less is later = absurd (missing t ts (u ∷ us) (All-cons (λ v. IsBelow t.name v.name) u us is (all_on t.name u.name us is second)) (same t.name))
    by Equal is later = (tied t.name u.name is, later (tied t.name u.name is))
    by Greater is later =
        let less = turned t.name u.name is in
        absurd (missing u us (t ∷ ts) (All-cons (λ v. IsBelow u.name v.name) t ts less (all_on u.name t.name ts less first)) (sym (same u.name)))

-- ---- tables of a database

abbrev pub AreNamedAlike : List Table → List Table → Type 0
AreNamedAlike ts us = AllZip (λ t u. t.name ≡ u.name) ts us

abbrev pub AreRising : List Table → Type 0
AreRising ts = Pairwise (λ t u. IsBelow t.name u.name) ts

above_stand : (m : Contents) (mark : ℕ) (name : List ℕ) (ts : List kept.Table) (pss : List (List Projected)) (us : List Table) → StandForTables m mark ts pss us → All (λ t. IsBelow name t.name) ts → All (λ u. IsBelow name u.name) us
above_stand m mark name [] [] [] stand all = All-nil _
above_stand m mark name [] [] (u ∷ us) stand all = absurd stand
above_stand m mark name [] (ps ∷ pss) us stand all = absurd stand
above_stand m mark name (t ∷ ts) [] us stand all = absurd stand
above_stand m mark name (t ∷ ts) (ps ∷ pss) [] stand all = absurd stand
above_stand m mark name (t ∷ ts) (ps ∷ pss) (u ∷ us) (here, more) all =
    All-cons (λ v. IsBelow name v.name) u us (subst (IsBelow name) (sym here.name) (All-head (λ v. IsBelow name v.name) t ts all)) (above_stand m mark name ts pss us more (All-tail (λ v. IsBelow name v.name) t ts all))

rising_stand : (m : Contents) (mark : ℕ) (ts : List kept.Table) (pss : List (List Projected)) (us : List Table) → StandForTables m mark ts pss us → AreAscending ts → AreRising us
rising_stand m mark [] [] [] stand up = tt
rising_stand m mark [] [] (u ∷ us) stand up = absurd stand
rising_stand m mark [] (ps ∷ pss) us stand up = absurd stand
rising_stand m mark (t ∷ ts) [] us stand up = absurd stand
rising_stand m mark (t ∷ ts) (ps ∷ pss) [] stand up = absurd stand
rising_stand m mark (t ∷ ts) (ps ∷ pss) (u ∷ us) (here, more) (first, up) =
    (subst (λ (n : List ℕ). All (λ v. IsBelow n v.name) us) (sym here.name) (above_stand m mark t.name ts pss us more first), rising_stand m mark ts pss us more up)

pub rising : {D : Type 0} (disk : Ghosts D) (now : D) (r : Running) (s : State) → IsState disk r now s → AreRising s.database.tables
rising disk now r s here = rising_stand here.database.files r.seen.catalogue.ahm r.seen.catalogue.tables r.seen.stores s.database.tables here.database.are.tables (tables_ascend disk now r s here)

alike_stand : (m n : Contents) (mark other : ℕ) (ts us : List kept.Table) (pss qss : List (List Projected)) (xs ys : List Table) → StandForTables m mark ts pss xs → StandForTables n other us qss ys → AllZip HaveSameName ts us → AreNamedAlike xs ys
alike_stand m n mark other [] [] [] [] [] [] one two same = tt
alike_stand m n mark other [] us (ps ∷ pss) qss xs ys one two same = absurd one
alike_stand m n mark other [] us [] qss (x ∷ xs) ys one two same = absurd one
alike_stand m n mark other ts [] pss (qs ∷ qss) xs ys one two same = absurd two
alike_stand m n mark other ts [] pss [] xs (y ∷ ys) one two same = absurd two
alike_stand m n mark other [] (u ∷ us) pss qss xs ys one two same = absurd same
alike_stand m n mark other (t ∷ ts) [] pss qss xs ys one two same = absurd same
alike_stand m n mark other (t ∷ ts) (u ∷ us) [] qss xs ys one two same = absurd one
alike_stand m n mark other (t ∷ ts) (u ∷ us) (ps ∷ pss) qss [] ys one two same = absurd one
alike_stand m n mark other (t ∷ ts) (u ∷ us) (ps ∷ pss) [] (x ∷ xs) ys one two same = absurd two
alike_stand m n mark other (t ∷ ts) (u ∷ us) (ps ∷ pss) (qs ∷ qss) (x ∷ xs) [] one two same = absurd two
alike_stand m n mark other (t ∷ ts) (u ∷ us) (ps ∷ pss) (qs ∷ qss) (x ∷ xs) (y ∷ ys) (first, one) (second, two) (named, same) =
    (first.name ∙ named ∙ sym second.name, alike_stand m n mark other ts us pss qss xs ys one two same)

pub named_alike : {A B : Type 0} (behind : Ghosts A) (ahead : Ghosts B) (at : A) (from : B) (r t : Running) (a b : State) → IsState behind r at a → IsState ahead t from b → HaveSameTables a.database b.database → AreNamedAlike a.database.tables b.database.tables
named_alike behind ahead at from r t a b here there same =
    alike_stand here.database.files there.database.files r.seen.catalogue.ahm t.seen.catalogue.ahm r.seen.catalogue.tables t.seen.catalogue.tables r.seen.stores t.seen.stores a.database.tables b.database.tables here.database.are.tables there.database.are.tables
    (same_names r.seen.catalogue.tables t.seen.catalogue.tables (tables_ascend behind at r a here) (tables_ascend ahead from t b there)
    (λ name. columns_told behind at r a name here ∙ same name ∙ sym (columns_told ahead from t b name there)))

-- from the table at a place on, none has a name that is lesser than that one's
pub none_from : (place : ℕ) (name : List ℕ) (us : List Table) (u : Table) → AreRising us → slice_get us place ≡ Some u → is_lt (order name u.name) ≡ true → All (λ v. bytes_eq v.name name ≡ false) (drop place us)
none_from place name [] u up at less = absurd (cc)
none_from zero name (v ∷ us) u (first, up) at less =
    let same : v ≡ u = same_Some v u at in
    let below : IsBelow name v.name = subst (λ (w : Table). IsBelow name w.name) (sym same) (is_less (order name u.name) less) in
    All-cons (λ w. bytes_eq w.name name ≡ false) v us (below_off name v.name below)
    (All-weaker (λ w. IsBelow v.name w.name) (λ w. bytes_eq w.name name ≡ false) (λ w above. below_off name w.name (on name v.name w.name below above)) us first)
none_from (suc place) name (v ∷ us) u (first, up) at less = none_from place name us u up at less
