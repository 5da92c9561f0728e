-- Three numbers of a row, by which the order of a container mostly tells it from another one.
use Rattle.std.specs.Prelude.{◌≡◌, ℕ, ℤ, ◌&&◌, ◌||◌, ◌==◌, pos, if◌then◌else◌, Bool, List, [], ◌∷◌, get_or, slice_index_or}
use Rattle.std.specs.Ordering.{int_cmp, ordering_then}
use Rattle.std.specs.declared.cmp.Ordering.{Ordering}
use Rattle.catalog_types.specs.declared.catalogue.Projection.{Projection}
use Rattle.col_value.specs.declared.row.Asked.{Asked}
use Rattle.col_value.specs.declared.value.Value.{Value}
use Rattle.col_value.specs.declared.value.Value.TheVariants as value
use Rattle.container_writer.specs.Ordered.{container_cmp}
use Rattle.container_draft.specs.declared.leads.Keys.{Keys}
use Rattle.container_draft.specs.declared.leads.Lead.{Lead}
use Rattle.container_draft.specs.declared.leading.Led.{Led}
use Rattle.container_draft.specs.Placed.{asked_at}
use Rattle.container_draft.specs.Ranks.{far_rank, is_far, is_near, near_rank}

-- the first of these columns that is neither of two, and where there is none, of all columns
abbrev pub is_either : ℕ → ℕ → ℕ → Bool
is_either p q k = (k == p) || (k == q)

abbrev pub first_but : ℕ → ℕ → ℕ
first_but p q = if is_either p q 0 then (if is_either p q 1 then 2 else 1) else 0

abbrev pub key_but : ℕ → ℕ → List ℕ → ℕ
key_but p q [] = first_but p q
key_but p q (k ∷ ks) = if is_either p q k then key_but p q ks else k

-- the three columns by which rows are told apart first
abbrev pub first_key : List ℕ → ℕ
first_key sort = get_or sort 0 0

abbrev pub second_key : List ℕ → ℕ
second_key sort = key_but (first_key sort) (first_key sort) sort

abbrev pub third_key : List ℕ → ℕ
third_key sort = key_but (first_key sort) (second_key sort) sort

abbrev pub keys_of : List ℕ → Keys
keys_of sort = record { first = first_key sort; second = second_key sort; third = third_key sort }

abbrev pub value_at : List Value → ℕ → Value
value_at row k = slice_index_or row k value.Null

-- the rank of the first key; where that tells what it is, the rank of the second; where this does, too, the rank of the third
abbrev pub first_lead : Keys → List Value → ℤ
first_lead k row = far_rank (value_at row k.first)

abbrev pub second_lead : Keys → List Value → ℤ
second_lead k row = if is_far (value_at row k.first) then near_rank (value_at row k.second) else pos 0

abbrev pub third_lead : Keys → List Value → ℤ
third_lead k row = if is_far (value_at row k.first) && is_near (value_at row k.second) then near_rank (value_at row k.third) else pos 0

abbrev pub lead_of : Keys → List Value → Lead
lead_of k row = record { first = first_lead k row; second = second_lead k row; third = third_lead k row }

-- a place has the lead of its row
abbrev pub IsLed : Keys → List Asked → Led → Type 0
IsLed k rows l = l.lead ≡ lead_of k (asked_at rows l.place).row

-- by the leads, and then as a container is ordered
abbrev pub led_cmp : Projection → List Asked → Led → Led → Ordering
led_cmp shape rows a b =
    ordering_then (int_cmp a.lead.first b.lead.first)
    (ordering_then (int_cmp a.lead.second b.lead.second) (ordering_then (int_cmp a.lead.third b.lead.third) (container_cmp shape (asked_at rows a.place) (asked_at rows b.place))))
