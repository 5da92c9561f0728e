use Rattle.std.proofs.Common.{◌≡◌, ◌+◌, ◌*◌, length}
use Rattle.sql_phrases.specs.Readings.{joined, many}
use Rattle.sql_phrases.specs.Classes.{in_set, signed_classes}
use Rattle.sql_phrases.specs.Readers.{base, signed}
use Rattle.sql_expr.specs.Levels.{goes_on, next_part}
use Rattle.sql_expr.proofs.Ranks.{floor, rank_of}
use Rattle.sql_expr.proofs.+read.Given as goal

abbrev pub decreases-primaries::leaf : goal.decreases-primaries::leaf
decreases-primaries::leaf l = floor l.grouped l.depth + 1

abbrev pub decreases-primaries::primary : goal.decreases-primaries::primary
decreases-primaries::primary l = floor l.grouped l.depth + 2

abbrev pub decreases-sums::unary : goal.decreases-sums::unary
decreases-sums::unary l = floor l.grouped l.depth + 3

abbrev pub decreases-sums::product_rest : goal.decreases-sums::product_rest
decreases-sums::product_rest l = floor l.grouped l.depth + 7

abbrev pub decreases-sums::product : goal.decreases-sums::product
decreases-sums::product l = floor l.grouped l.depth + 8

abbrev pub decreases-sums::signed : goal.decreases-sums::signed
decreases-sums::signed l = floor l.grouped l.depth + 9

abbrev pub decreases-sums::addends : goal.decreases-sums::addends
decreases-sums::addends l = floor l.grouped l.depth + 10

abbrev pub decreases-sums::sum_rest : goal.decreases-sums::sum_rest
decreases-sums::sum_rest l = floor l.grouped l.depth + 11

abbrev pub decreases-sums::sum : goal.decreases-sums::sum
decreases-sums::sum l = floor l.grouped l.depth + 12

abbrev pub decreases-predicates::among : goal.decreases-predicates::among
decreases-predicates::among l = floor l.grouped l.depth + 17

abbrev pub decreases-predicates::betweens : goal.decreases-predicates::betweens
decreases-predicates::betweens l = floor l.grouped l.depth + 17

abbrev pub decreases-predicates::choices : goal.decreases-predicates::choices
decreases-predicates::choices l = floor l.grouped l.depth + 16

abbrev pub decreases-predicates::upper : goal.decreases-predicates::upper
decreases-predicates::upper l = floor l.grouped l.depth + 16

abbrev pub decreases-predicates::comparison : goal.decreases-predicates::comparison
decreases-predicates::comparison l = floor l.grouped l.depth + 17

abbrev pub decreases-predicates::ranged : goal.decreases-predicates::ranged
decreases-predicates::ranged l = floor l.grouped l.depth + 18

abbrev pub decreases-predicates::tail : goal.decreases-predicates::tail
decreases-predicates::tail l = floor l.grouped l.depth + 19

abbrev pub decreases-predicates::predicate : goal.decreases-predicates::predicate
decreases-predicates::predicate l = floor l.grouped l.depth + 20

abbrev pub decreases-predicates::negation : goal.decreases-predicates::negation
decreases-predicates::negation l = floor l.grouped l.depth + 21

abbrev pub decreases-chains::conjunction_rest : goal.decreases-chains::conjunction_rest
decreases-chains::conjunction_rest l = floor l.grouped l.depth + 24

abbrev pub decreases-chains::conjunction : goal.decreases-chains::conjunction
decreases-chains::conjunction l = floor l.grouped l.depth + 25

abbrev pub decreases-chains::over_rest : goal.decreases-chains::over_rest
decreases-chains::over_rest l = floor l.grouped l.depth + 28

abbrev pub decreases-chains::over : goal.decreases-chains::over
decreases-chains::over l = floor l.grouped l.depth + 29

abbrev pub decreases-primaries::parenthesis : goal.decreases-primaries::parenthesis
decreases-primaries::parenthesis l = floor l.grouped l.depth + 30

abbrev pub decreases-primaries::counted : goal.decreases-primaries::counted
decreases-primaries::counted l = 40 * l.depth + 31

abbrev pub decreases-primaries::summing : goal.decreases-primaries::summing
decreases-primaries::summing l = 40 * l.depth + 31

abbrev pub decreases-primaries::tallied : goal.decreases-primaries::tallied
decreases-primaries::tallied l = 40 * l.depth + 32

abbrev pub decreases-primaries::argument : goal.decreases-primaries::argument
decreases-primaries::argument l = 40 * l.depth + 31

abbrev pub decreases-primaries::aggregate : goal.decreases-primaries::aggregate
decreases-primaries::aggregate l = 40 * l.depth + 33

abbrev pub decreases-chains::next_part : goal.decreases-chains::next_part
decreases-chains::next_part l = floor l.grouped l.depth + rank_of l.level

abbrev pub decreases-chains::more : goal.decreases-chains::more
decreases-chains::more l = floor l.grouped l.depth + (rank_of l.level + 1)

abbrev pub invariant-chains::more-loop-alloc : goal.invariant-chains::more-loop-alloc
invariant-chains::more-loop-alloc l = joined l.parts.items (many (goes_on l.fn.level) (next_part l.fn.level (base l.fn.grouped l.fn.depth)) l.tokens) ≡ many (goes_on l.fn.level) (next_part l.fn.level (base l.fn.grouped l.fn.depth)) l.fn.tokens

abbrev pub decreases-chains::more-loop-alloc : goal.decreases-chains::more-loop-alloc
decreases-chains::more-loop-alloc l = length l.tokens

abbrev pub invariant-sums::addends-loop-alloc : goal.invariant-sums::addends-loop-alloc
invariant-sums::addends-loop-alloc l = joined l.addends.items (many (in_set signed_classes) (signed (base l.fn.grouped l.fn.depth)) l.tokens) ≡ many (in_set signed_classes) (signed (base l.fn.grouped l.fn.depth)) l.fn.tokens

abbrev pub decreases-sums::addends-loop-alloc : goal.decreases-sums::addends-loop-alloc
decreases-sums::addends-loop-alloc l = length l.tokens
