use Rattle.std.proofs.Common.{◌≡◌, ℕ, List, length, sym, ap, subst, ◌∙◌, arith}
use Rattle.pos_index.specs.Index.{index_spelling, blocks}
use Rattle.pos_index.specs.Built.{ArePlaces, built}
use Rattle.col_file.specs.Column.{first_blocks, first_places}
use Rattle.col_file.proofs.Laid.{are_places}
use Rattle.col_file.proofs.Written.{blocks_on, places_on}
use Rattle.col_file.proofs.column.column_bytes.Goals as goal

pub loop-k-preserved : goal.loop-k-preserved
loop-k-preserved c = record {
  body = blocks_on c.args.encoding c.loop-k.k c.args.values.now c.loop-k.body.items c.push_block.new.body.items c.loop-k.invariant.body c.in_ok-push_block.ensures.body;
  places = places_on c.args.encoding c.loop-k.k c.args.values.now c.loop-k.body.items c.loop-k.places.items c.push_block.new.places.items c.loop-k.invariant.body c.loop-k.invariant.places c.in_ok-push_block.ensures.places;
}

pub build-requires-clause-places : goal.build-requires-clause-places
build-requires-clause-places c =
    let vs = c.args.values.now in
    let all : c.loop-k.k ≡ blocks (length vs) = omega arith in
    subst (ArePlaces (length vs)) (sym (c.as_slice.ensures.value ∙ c.loop-k.invariant.places ∙ ap (λ (n : ℕ). first_places c.args.encoding n vs) all)) (are_places c.args.encoding vs)

pub returns-clause-bytes : goal.returns-clause-bytes
returns-clause-bytes c =
    let vs = c.args.values.now in
    let all : c.loop-k.k ≡ blocks (length vs) = omega arith in
    let places = c.as_slice.ensures.value ∙ c.loop-k.invariant.places ∙ ap (λ (n : ℕ). first_places c.args.encoding n vs) all in (
      c.loop-k.invariant.body ∙ ap (λ (n : ℕ). first_blocks c.args.encoding n vs) all,
      c.in_ok-to_bytes.ensures ∙ ap index_spelling (c.in_ok-index.ensures.built ∙ ap (λ (ps : List ℕ). built vs ps) places),
    )
