-- A container of whose epochs no row is wanted.
use Rattle.std.proofs.Common.{◌≡◌, ◌≤◌, ℕ, List, [], get_or, refl, sym, subst, arith}
use Rattle.common_laws.specs.Maps.{Contents}
use Rattle.col_value.specs.declared.row.Asked.{Asked}
use Rattle.catalog_types.specs.declared.catalogue.Container.{Container}
use Rattle.stored_rows.specs.Stored.{Beside, mark_in}
use Rattle.wanted_rows.specs.Wanted.{tally}
use Rattle.wanted_rows.specs.Picked.{Picks, blank}
use Rattle.proj_store.specs.Marking.{PicksIn}
use Rattle.ros_container.specs.Encodings.{Written}

pub passed_picks : (m : Contents) (es : List Written) (k : Container) (b : Beside) (places : List ℕ) (need : Asked → ℕ) → places ≡ [] → ((q : Asked) → k.least_epoch ≤ q.ins → q.ins ≤ k.greatest_epoch → need q ≡ 0) → PicksIn m es k b places need need
passed_picks m es k b places need is nought rows holds =
    subst (λ (ps : List ℕ). Picks (mark_in b) rows ps need need) (sym is)
    (record {
      rise = tt;
      before = λ i d lt. absurd (omega (arith, lt));
      live = λ i d lt. absurd (omega (arith, lt));
      taken = λ q. let nothing : tally q [] ≡ 0 = refl in omega (arith, nothing);
      none = λ j lt in_rows live out. let within = holds.within j blank in_rows in nought (get_or rows j blank) within.0 within.1;
    })
