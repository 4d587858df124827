-- The newest headers come to stand in front, and no more than the headers there are: so both lists have words enough to be made in. Then all words
-- that were worked in are cleared.
use mathlib.Core.Path.{◌≡◌, sym, ◌∙◌}
use native.Mathlib.Omega.{arith}
use lib.ListN.{length, take}
use lib.Seq.{length-take-le}
use Rattle.page.proofs.Searching.{count_le}
use Rattle.tree.specs.Heads.{is_head}
use Rattle.tree.specs.Objects.{says_by}
use Rattle.tree.proofs.NewestHeads.{heads_are}
use Rattle.tree.proofs.whole.both_lists.Goals as goal
use Rattle.tree.proofs.whole.both_lists.Goals.{After-fill_heads-count}

-- the newest headers are in front, and no more than the headers
in-front : (f : After-fill_heads-count) → length (take f.fill_heads-count.result f.fill_heads-count.new.rows) ≡ f.fill_heads-count.result
in-front f =
    length-take-le f.fill_heads-count.result f.fill_heads-count.new.rows (omega (arith, f.fill_heads-count.ensures.upper_bound, f.fill_heads-count.auto.rows))

-- there are as many words to work in
work-in-front : (f : After-fill_heads-count) → length (take f.fill_heads-count.result f.args.work.now) ≡ f.fill_heads-count.result
work-in-front f =
    length-take-le f.fill_heads-count.result f.args.work.now
    (omega (arith, f.fill_heads-count.ensures.upper_bound, f.requires.heads_len, f.requires.work_len))

pub put_lists-answer-requires : goal.put_lists-answer-requires
put_lists-answer-requires c =
    let f = (goal.at.put_lists-answer-requires c).After-fill_heads-count in
    let a = c.args in
    let says = says_by a.g a.dump.now a.t in
    record {
      heads = rw c.fill_heads-count.ensures.rows_after (heads_are says a.pages (omega (arith, c.ranges.pages)));
      heads_len_bound =
          omega (arith, in-front f, c.fill_heads-count.ensures.upper_bound, c.requires.pages_lt_page_values, c.requires.heads_len, count_le (is_head says) a.pages);
      work_len = work-in-front f ∙ sym (in-front f);
      pages_in_bounds = c.requires.pages_in_bounds;
    }
