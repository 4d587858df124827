-- Every report fits in the bytes, so it is written whole, and what is written on is the part of them that it fills.
use Rattle.std.proofs.Common.{◌≡◌, rules, arith, refl, sym, length, length-take-le}
use Rattle.report.specs.Printed.{printed_of}
use Rattle.report.proofs.Printed.{printed_length, printed_whole, printed_front}
use Rattle.report.proofs.print_report.Goals as goal
use Rattle.report.proofs.print_report.Goals.{After-unwrap-n}

-- its length is told
all : (g : _) (c : After-unwrap-n g) → c.unwrap-n.result ≡ length (printed_of c.args.input.now)
all g c =
    let e = printed_whole _ c.args.input.now _ c.write_printed.ensures.value (search rules) in
    let h = c.unwrap-n.ensures in
    cc

pub unwrap-n-requires : goal.unwrap-n-requires
unwrap-n-requires g c = rw (printed_whole _ c.args.input.now _ c.write_printed.ensures.value (search rules)) refl

pub slice_bounds-text-end : goal.slice_bounds-text-end
slice_bounds-text-end g c =
    omega (arith, all g (goal.at.slice_bounds-text-end g c).After-unwrap-n, printed_length c.args.input.now, c.write_printed.auto.text)

pub slice_bounds-write_all-end : goal.slice_bounds-write_all-end
slice_bounds-write_all-end g c =
    sym (length-take-le _ c.write_printed.new.text
    (omega (arith, all g (goal.at.slice_bounds-write_all-end g c).After-unwrap-n, printed_length c.args.input.now, c.write_printed.auto.text)))

pub returns : goal.returns
returns g c =
    let whole = printed_front c.args.input.now _ c.write_printed.new.text c.unwrap-n.result
    (all g (goal.at.returns g c).After-unwrap-n) c.write_printed.ensures.text_after (search rules) in
    rw whole at c.write_all.ensures.bytes
