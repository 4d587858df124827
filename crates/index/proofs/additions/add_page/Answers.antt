-- A header and a data page are records, of the object and the sequence that they name.
use Prim.Native.Nat.{◌<◌, ◌≤◌}
use mathlib.Core.Path.{◌≡◌, sym, ap, ◌∙◌}
use native.Mathlib.Omega.{arith}
use lib.ListN.{length}
use Rattle.page.specs.Records.{record_at}
use Rattle.page.specs.declared.record.Record.TheVariants.{Header, Data}
use Rattle.page.proofs.Within.{header_within, data_within}
use Rattle.chunk.specs.Records.{object_of}
use Rattle.index.specs.Cells.{cells_for}
use Rattle.index.proofs.Held.Cases.{add_record_lem}
use Rattle.index.proofs.additions.add_page.Goals as goal

pub add_record-requires : goal.add_record-requires
add_record-requires c =
    let d : record_at c.args.g c.args.dump.now c.args.p.0 ≡ Data c.in-Data.d = sym c.record_at-r.ensures ∙ c.in-Data.is in
    record {
      few = c.requires;
      inside = c.if-pages-p.false;
      room = omega (arith, c.if-cells-cells_for.false, c.cells_for.ensures);
      some = (data_within _ _ _ _ d).object.least;
      own = sym (ap object_of d);
      aged = c.order_of.ensures ∙ rw d;
    }

pub returns-in_default : goal.returns-in_default
returns-in_default c =
    let d : record_at c.args.g c.args.dump.now c.args.p.0 ≡ Data c.in-Data.d = sym c.record_at-r.ensures ∙ c.in-Data.is in
    let room : cells_for c.args.pages ≤ length c.args.cells.now = omega (arith, c.if-cells-cells_for.false, c.cells_for.ensures) in
    let some : 0 < c.in-Data.d.object.0 = (data_within _ _ _ _ d).object.least in
    c.add_record.ensures
    ∙ sym (add_record_lem _ _ _ _ _ room c.if-pages-p.false (λ z. absurd (omega (arith, some, ap object_of d))))

pub add_record-requires-2 : goal.add_record-requires-2
add_record-requires-2 c =
    let h : record_at c.args.g c.args.dump.now c.args.p.0 ≡ Header c.in-Header.h = sym c.record_at-r.ensures ∙ c.in-Header.is in
    record {
      few = c.requires;
      inside = c.if-pages-p.false;
      room = omega (arith, c.if-cells-cells_for.false, c.cells_for.ensures);
      some = (header_within _ _ _ _ h).object.least;
      own = sym (ap object_of h);
      aged = c.order_of-2.ensures ∙ rw h;
    }

pub returns : goal.returns
returns c =
    let h : record_at c.args.g c.args.dump.now c.args.p.0 ≡ Header c.in-Header.h = sym c.record_at-r.ensures ∙ c.in-Header.is in
    let room : cells_for c.args.pages ≤ length c.args.cells.now = omega (arith, c.if-cells-cells_for.false, c.cells_for.ensures) in
    let some : 0 < c.in-Header.h.object.0 = (header_within _ _ _ _ h).object.least in
    c.add_record-2.ensures
    ∙ sym (add_record_lem _ _ _ _ _ room c.if-pages-p.false (λ z. absurd (omega (arith, some, ap object_of h))))
