use Rattle.std.proofs.Common.{rules, ◌≡◌, ◌++◌, ◌/◌, ◌%◌, codes, decimal}
use Rattle.generated_load.specs.Load.{region}
use Rattle.generated_load.proofs.Loading.{line_made}
use Rattle.generated_load.proofs.lines.push_line.Goals as goal

pub returns : goal.returns
returns c =
    let number : c.push_number.new.out.items ≡ c.args.out.now.items ++ decimal c.args.i = search rules in
    let place : c.extend_from_slice-2.new.self.items ≡ c.extend_from_slice.new.self.items ++ region (c.args.y % 4) = search rules in
    line_made c.args.out.now.items (decimal c.args.i) (region (c.args.y % 4)) (decimal (c.args.y / 4 % 10)) (decimal (c.args.y / 40 % 10000)) (codes "|") (codes "\n")
    number c.in_ok-extend_from_slice.ensures.items place c.in_ok-extend_from_slice-3.ensures.items c.in_ok-push_number-2.ensures c.in_ok-extend_from_slice-4.ensures.items c.in_ok-push_number-3.ensures c.in_ok-extend_from_slice-5.ensures.items
