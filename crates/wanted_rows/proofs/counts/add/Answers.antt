use Rattle.std.proofs.Common.{◌≡◌, ◌∙◌, ◌+◌, ℕ, List, sym, ap, ap₂, arith}
use Rattle.std.specs.Prelude.{Option, Some, slice_get, unwrap_or}
use Rattle.write_store.specs.declared.held.Inserted.{Inserted}
use Rattle.wanted_rows.specs.Wanted.{inserted, total}
use Rattle.wanted_rows.proofs.Counting.{count_at, count_within, one_more, one_new, put_at, total_put}
use Rattle.wanted_rows.proofs.counts.add.Goals as goal

pub overflow_add-count : goal.overflow_add-count
overflow_add-count c =
    let key = inserted c.args.asked in
    let was : unwrap_or (count_at c.args.counts.now.entries key) 0 ≡ c.in-Some.count = ap (λ (o : Option ℕ). unwrap_or o 0) (sym c.in_ok-place.ensures.old ∙ c.in-Some.is) in
    omega (arith, c.requires, was, count_within c.args.counts.now.entries c.args.asked)

pub returns-in-Some-clause-adds : goal.returns-in-Some-clause-adds
returns-in-Some-clause-adds c =
    let key = inserted c.args.asked in
    let counts = c.args.counts.now.entries in
    let put = c.insert_full.new.self.entries in
    let at : slice_get put c.in_ok-place.place ≡ Some (key, 1) = ap₂ slice_get c.in_ok-place.ensures.entries c.in_ok-place.ensures.index ∙ put_at counts key 1 in
    one_more counts put c.set.new.counts.entries key c.in-Some.count c.in_ok-place.place (sym c.in_ok-place.ensures.old ∙ c.in-Some.is) c.in_ok-place.ensures.updates.0 at c.set.ensures

pub returns-in-Some-clause-total : goal.returns-in-Some-clause-total
returns-in-Some-clause-total c =
    let key = inserted c.args.asked in
    let counts = c.args.counts.now.entries in
    let put = c.insert_full.new.self.entries in
    let at : slice_get put c.in_ok-place.place ≡ Some (key, 1) = ap₂ slice_get c.in_ok-place.ensures.entries c.in_ok-place.ensures.index ∙ put_at counts key 1 in
    let was : unwrap_or (count_at counts key) 0 ≡ c.in-Some.count = ap (λ (o : Option ℕ). unwrap_or o 0) (sym c.in_ok-place.ensures.old ∙ c.in-Some.is) in
    let first : total put + unwrap_or (count_at counts key) 0 ≡ total counts + 1 =
    ap (λ (es : List (Inserted × ℕ)). total es + unwrap_or (count_at counts key) 0) c.in_ok-place.ensures.entries ∙ total_put counts key 1 in
    omega (arith, was, first, c.set.ensures.all key 1 at)

pub returns-in_default-clause-adds : goal.returns-in_default-clause-adds
returns-in_default-clause-adds c =
    one_new c.args.counts.now.entries c.insert_full.new.self.entries (inserted c.args.asked) c.in_ok-place.ensures.updates.0 (sym c.in_ok-place.ensures.old ∙ c.in_default.is)

pub returns-in_default-clause-total : goal.returns-in_default-clause-total
returns-in_default-clause-total c =
    let key = inserted c.args.asked in
    let counts = c.args.counts.now.entries in
    let put = c.insert_full.new.self.entries in
    let none : unwrap_or (count_at counts key) 0 ≡ 0 = ap (λ (o : Option ℕ). unwrap_or o 0) (sym c.in_ok-place.ensures.old ∙ c.in_default.is) in
    let first : total put + unwrap_or (count_at counts key) 0 ≡ total counts + 1 =
    ap (λ (es : List (Inserted × ℕ)). total es + unwrap_or (count_at counts key) 0) c.in_ok-place.ensures.entries ∙ total_put counts key 1 in
    omega (arith, none, first)
