-- As many ids are needed as there are live pages; a refusal writes nothing.
use mathlib.Core.Path.{refl}
use borrow.Author.Tests.{lt-ltb, le-ltb}
use Rattle.page.specs.Records.{record_at}
use Rattle.chunk.specs.Lists.{listed_by, words_by}
use Rattle.chunk.proofs.Living.{live_length}
use Rattle.chunk.proofs.list.list_in.Goals as goal

pub returns-then-words-need : goal.returns-then-words-need
unfolding listed_by words_by
returns-then-words-need c =
    let a = c.args in
    record { value = rw (live_length (record_at a.g a.dump.now) a.pages, ← c.live_in-need.ensures, lt-ltb _ _ c.if-words-need.true); words_after = refl }

pub returns : goal.returns
unfolding listed_by words_by
returns c =
    let a = c.args in
    record { value = rw (live_length (record_at a.g a.dump.now) a.pages, ← c.live_in-need.ensures, le-ltb _ _ c.if-words-need.false); words_after = c.write_live.ensures }
