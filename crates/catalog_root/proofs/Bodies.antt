-- What the bytes of a body spell, and what a disk opens to by them.
use Rattle.std.proofs.Common.{◌≡◌, ℕ, ◌<◌, List, sym, subst, inr}
use Rattle.std.specs.Prelude.{Option, Some, None, Result, Ok, Err, IfErr}
use Rattle.common_laws.specs.Maps.{Contents}
use Rattle.col_disk.specs.Calls.{ListsNames, AnswersNames}
use Rattle.col_disk.specs.declared.disk.StoreFault.{StoreFault}
use Rattle.col_disk.specs.declared.disk.StoreFault.TheVariants.{Damaged}
use Rattle.catalog_types.specs.declared.catalogue.Catalogue.{Catalogue}
use Rattle.catalog_bytes.specs.Spelling.{Spells}
use Rattle.catalog_bytes.proofs.Whole.{same}
use Rattle.catalog_root.specs.declared.found.Found.{Found}
use Rattle.catalog_root.specs.Root.{HoldsBody, HasNoBody, AllClosed, data_file, IsLeastData, BlamesRoot}

-- a body is that of one catalogue
pub one_held : (held : Option (List ℕ)) (c d : Catalogue) → HoldsBody held c → HoldsBody held d → c ≡ d
one_held None c d first second = absurd first
one_held (Some bytes) c d first second = same bytes c d first second

-- the bytes spell a catalogue of which `next` isn't above the version, so none that is
pub other_next : (version : ℕ) (bytes : List ℕ) (c : Catalogue) → Spells bytes c → (version < c.next → ⊥) → HasNoBody (Some bytes) version
other_next version bytes c is late d body held =
    let one : c ≡ d = same bytes c d is held in
    late (subst (λ (x : Catalogue). version < x.next) (sym one) body.below)

-- no gate is open: the least data file is to blame
pub no_gate_blamed : (r : Result Found StoreFault) (holds : Option Contents) (names : List ℕ) → AnswersNames holds names → ((m : Contents) → holds ≡ Some m → ListsNames m names → AllClosed m)
    → IfErr r (λ e. (q : ℕ) × (e ≡ Damaged q) × ((m : Contents) → ListsNames m names → (n : ℕ) × (q ≡ data_file n) × IsLeastData m n)) → IfErr r (BlamesRoot holds)
no_gate_blamed (Ok f) holds names answer closed h = tt
no_gate_blamed (Err e) holds names answer closed (q, is, h) =
    subst (BlamesRoot holds) (sym is) (λ m told. let lists = answer m told in let x = h m lists in inr (x.0, x.1, closed m told lists, x.2))
