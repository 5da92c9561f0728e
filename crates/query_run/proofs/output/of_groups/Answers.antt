use Rattle.std.proofs.Common.{◌≡◌, ◌<◌, ◌≤◌, [], ap, length, get_or, rules, subst, sym, ◌∙◌}
use Rattle.std.proofs.lemmas.List.{get_or_default}
use Rattle.query_order.specs.Enough.{AreFew}
use Rattle.query_run.proofs.Bars.{none_few}
use Rattle.query_run.proofs.Scopes.{group_here, groups_behind, keys_end, so_far_all, so_far_more, so_far_none}
use Rattle.query_run.specs.Outputs.{shown}
use Rattle.query_run.proofs.output.of_groups.Goals as goal

pub add_shown-requires-clause-group : goal.add_shown-requires-clause-group
add_shown-requires-clause-group c =
    let keys = c.args.groups.now.keys in
    let aggs = c.args.groups.now.aggs in
    let i = c.loop-group.group in
    let k = c.as_slice.result.now in
    let a = c.as_slice-in-loop-group.result.now in
    let h : i < length keys = search rules in
    let k_is : k ≡ get_or keys i [] = search rules in
    let g : i < length aggs = search rules in
    let a_is : a ≡ get_or aggs i [] = search rules in
    group_here c.args.query.now keys aggs i k a h (k_is ∙ get_or_default keys i [] k h) g (a_is ∙ get_or_default aggs i [] a g) c.loop-group.invariant.fit

pub loop-group-preserved : goal.loop-group-preserved
loop-group-preserved c =
    let q = c.args.query.now in
    let keys = c.args.groups.now.keys in
    let aggs = c.args.groups.now.aggs in
    let i = c.loop-group.group in
    let k = c.as_slice.result.now in
    let a = c.as_slice-in-loop-group.result.now in
    let h : i < length keys = search rules in
    let k_is : k ≡ get_or keys i [] = search rules in
    let g : i < length aggs = search rules in
    let a_is : a ≡ get_or aggs i [] = search rules in
    let is = k_is ∙ get_or_default keys i [] k h in
    let are = a_is ∙ get_or_default aggs i [] a g in record {
      sofar = so_far_more q keys aggs i k a c.loop-group.out.items c.add_shown.new.out.items _ h is g are c.in_ok-add_shown.ensures.enough c.loop-group.invariant.sofar;
      few = c.in_ok-add_shown.ensures.few;
      bar = c.in_ok-add_shown.ensures.bar;
      fit = groups_behind q keys aggs i k a h is g are c.loop-group.invariant.fit;
    }

pub loop-group-init : goal.loop-group-init
loop-group-init c = record {
  sofar = so_far_none c.args.query.now c.new-out.result.items _ c.new-out.ensures.items;
  few = subst (AreFew c.args.query.now.limit) (sym c.new-out.ensures.items) (none_few c.args.query.now.limit);
  bar = tt;
  fit = c.requires.groups;
}

pub returns : goal.returns
returns c =
    let keys = c.args.groups.now.keys in
    let aggs = c.args.groups.now.aggs in
    let past : length keys ≤ c.loop-group.group = search rules in
    so_far_all c.args.query.now c.loop-group.out.items _ _ (ap (shown c.args.query.now) (keys_end keys aggs c.loop-group.group past)) c.loop-group.invariant.sofar
