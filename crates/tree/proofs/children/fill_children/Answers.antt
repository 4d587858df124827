use Prim.Native.Nat.{◌≤◌}
use mathlib.Core.Bool.{true, false}
use mathlib.Core.Path.{◌≡◌, sym, ap, ◌∙◌}
use native.Mathlib.Omega.{arith}
use lib.ListN.{length}
use Rattle.page.specs.Records.{is_header}
use Rattle.page.proofs.Sound.{else_header}
use Rattle.page.proofs.Searching.{count_le}
use Rattle.chunk.specs.Live.{passed, ids_of}
use Rattle.chunk.specs.Records.{is_gone}
use Rattle.chunk.proofs.Living.{passed_none, passed_skip, passed_take, passed_length}
use Rattle.text.specs.Put.{Put}
use Rattle.text.proofs.Putting.{nothing, also}
use Rattle.tree.specs.Children.{is_child, child_row, child_rows}
use Rattle.tree.specs.Heads.{said_at}
use Rattle.tree.specs.Objects.{says_by}
use Rattle.tree.proofs.Entries.{root_no_child, page_no_child, deleted_no_child, is_child_lem, child_row_lem}
use Rattle.tree.proofs.Fronts.{put_length, put_sorted}
use Rattle.tree.proofs.children.fill_children.Goals as goal
use Rattle.tree.proofs.children.fill_children.Goals.{After-seen_at-r, After-sort}

pub loop-i-preserved-then-key_of-eq-ROOT : goal.loop-i-preserved-then-key_of-eq-ROOT
loop-i-preserved-then-key_of-eq-ROOT c =
    let q = c.loop-i in
    let a = c.args in
    let says = says_by a.g a.dump.now a.t in
    let t = root_no_child says a.heads.now q.i (sym c.key_of.ensures ∙ c.if-key_of-eq-ROOT.true) in
    rw (passed_skip (is_child says a.heads.now) (child_row says a.heads.now) q.i t) q.invariant

-- the header that a row names is the newest of its object
names : (k : After-seen_at-r) → said_at (says_by k.args.g k.args.dump.now k.args.t) k.args.heads.now k.loop-i.i ≡ k.seen_at-r.result
names k = sym (k.seen_at-r.ensures ∙ ap (says_by k.args.g k.args.dump.now k.args.t) k.value_of.ensures)

pub loop-i-preserved-in_default : goal.loop-i-preserved-in_default
loop-i-preserved-in_default c =
    let said = names (goal.at.loop-i-preserved-in_default c).After-seen_at-r in
    let q = c.loop-i in
    let a = c.args in
    let says = says_by a.g a.dump.now a.t in
    let t = page_no_child says a.heads.now q.i (rw said (else_header c.seen_at-r.result c.in_default.not-Header)) in
    rw (passed_skip (is_child says a.heads.now) (child_row says a.heads.now) q.i t) q.invariant

pub loop-i-preserved-then-gone_under : goal.loop-i-preserved-then-gone_under
loop-i-preserved-then-gone_under c =
    let said = names (goal.at.loop-i-preserved-then-gone_under c).After-seen_at-r in
    let q = c.loop-i in
    let a = c.args in
    let says = says_by a.g a.dump.now a.t in
    let e : is_gone (said_at says a.heads.now q.i) ≡ true =
    ap is_gone (said ∙ c.in-Header.is) ∙ sym c.gone_under.ensures ∙ c.if-gone_under.true in
    let t = deleted_no_child says a.heads.now q.i e in
    rw (passed_skip (is_child says a.heads.now) (child_row says a.heads.now) q.i t) q.invariant

pub loop-i-preserved : goal.loop-i-preserved
loop-i-preserved c =
    let said = names (goal.at.loop-i-preserved c).After-seen_at-r in
    let q = c.loop-i in
    let a = c.args in
    let says = says_by a.g a.dump.now a.t in
    let e = said ∙ c.in-Header.is in
    let g : is_gone (said_at says a.heads.now q.i) ≡ false = ap is_gone e ∙ sym c.gone_under.ensures ∙ c.if-gone_under.false in
    let t = is_child_lem says a.heads.now q.i (λ z. c.if-key_of-eq-ROOT.false (c.key_of.ensures ∙ z)) (ap is_header e) g in
    let r : c.pack.result ≡ child_row says a.heads.now q.i =
    c.pack.ensures ∙ sym (child_row_lem says a.heads.now q.i _ e) in
    let more = passed_take (is_child says a.heads.now) (child_row says a.heads.now) q.i t in
    rw (more, ← r) (also q.invariant c.put_row-at.ensures)

-- once all heads are passed, the rows of all children were put
put_all : (l : After-sort) →
    let says = says_by l.args.g l.args.dump.now l.args.t in
    Put (passed (is_child says l.args.heads.now) (child_row says l.args.heads.now) (length l.args.heads.now)) l.args.rows.now 0 l.loop-i.rows l.loop-i.at
put_all l =
    let q = l.loop-i in
    let e : q.i ≡ length l.args.heads.now = omega arith in
    rw e at q.invariant

-- and are no more than the heads
fits : (l : After-sort) →
    let says = says_by l.args.g l.args.dump.now l.args.t in
    length (passed (is_child says l.args.heads.now) (child_row says l.args.heads.now) (length l.args.heads.now)) ≤ length l.args.rows.now
fits l =
    let says = says_by l.args.g l.args.dump.now l.args.t in
    let heads = l.args.heads.now in
    let test = is_child says heads in
    omega (arith, l.requires.heads_in_bounds, passed_length test (child_row says heads) (length heads), count_le test (length heads))

pub returns : goal.returns
unfolding child_rows ids_of
returns c =
    let l = (goal.at.returns c).After-sort in
    record {
      upper_bound = omega (arith, put_length (put_all l) (fits l), fits l);
      rows_after = put_sorted (put_all l) _ (fits l) c.sort.ensures;
    }

pub loop-i-init : goal.loop-i-init
loop-i-init c = rw passed_none (nothing _ _ (omega arith) (omega arith))
