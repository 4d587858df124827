-- The requests of demand 3 are the calls: one that is lent all the words, and names the list's own K, is answered by the definition that the
-- call's contract cites, and leaves the words that it says. And the demand's premise can be met: W's own start is accepted.
use Prim.Native.Nat.{ℕ}
use Rattle.std.specs.Prelude.{Ok}
use mathlib.Core.List.{List, [], ◌++◌, append-nil}
use mathlib.Core.Path.{◌≡◌, refl, ap, ◌∙◌}
use native.Mathlib.Nat.{le_refl}
use lib.ListN.{length, take, drop, drop_of_length-le}
use lib.Seq.{take_all}
use Rattle.page.specs.Lengths.{opened_of}
use Rattle.page.specs.Shelf.{shelf, shelf_geometry}
use Rattle.page.specs.declared.geometry.Geometry.{Geometry}
use Rattle.page.proofs.Marked as pages
use Rattle.chunk.specs.Answers.{read_by, buffer_by, part_by}
use Rattle.chunk.specs.Lists.{words_by}
use Rattle.index.specs.Additions.{start_in, start_of, add_of}
use Rattle.index.specs.Walks.{size_from, chunk_from}
use Rattle.index.specs.Listing.{ids_from, list_from}
use Rattle.index.specs.Requests.{start, add, size, chunk, read, part, list, addition, a_size, a_chunk, a_read, a_part, a_list, answer_on, words_after}

module _ (g : Geometry) (dump cells : List ℕ) where
  -- lent all the words
  lent : take (length cells) cells ≡ cells
  lent = take_all (length cells) cells (le_refl _)

  none_left : drop (length cells) cells ≡ []
  none_left = drop_of_length-le cells (le_refl _)

  -- the words that a call leaves, with none behind them
  left : (c : List ℕ) → c ++ drop (length cells) cells ≡ c
  left c = ap (λ (r : List ℕ). c ++ r) none_left ∙ append-nil c

  -- K, and how many words: those of the call
  abbrev k : ℕ
  k = g.block

  abbrev w : ℕ
  w = length cells

  pub start_call :
      (seed : ℕ) →
      (answer_on g dump cells (start k w seed) ≡ addition (start_of g dump cells seed).answer)
      × (words_after g dump cells (start k w seed) ≡ (start_of g dump cells seed).cells)
  unfolding answer_on words_after
  start_call seed = rw lent (refl, left (start_of g dump cells seed).cells)

  pub add_call :
      (p : ℕ) →
      (answer_on g dump cells (add k w p) ≡ addition (add_of g dump cells p).answer) × (words_after g dump cells (add k w p) ≡ (add_of g dump cells p).cells)
  unfolding answer_on words_after
  add_call p = rw lent (refl, left (add_of g dump cells p).cells)

  pub size_call : (o : ℕ) → (answer_on g dump cells (size k w o) ≡ a_size (size_from g dump cells o)) × (words_after g dump cells (size k w o) ≡ cells)
  unfolding answer_on words_after
  size_call o = rw lent (refl, refl)

  pub chunk_call :
      (o n : ℕ) → (answer_on g dump cells (chunk k w o n) ≡ a_chunk (chunk_from g dump cells o n)) × (words_after g dump cells (chunk k w o n) ≡ cells)
  unfolding answer_on words_after
  chunk_call o n = rw lent (refl, refl)

  pub read_call :
      (o n : ℕ) (buffer : List ℕ) →
      let r = read_by (length buffer) (chunk_from g dump cells o n) in
      (answer_on g dump cells (read k w o n buffer) ≡ a_read r (buffer_by g dump buffer r)) × (words_after g dump cells (read k w o n buffer) ≡ cells)
  unfolding answer_on words_after
  read_call o n buffer = rw lent (refl, refl)

  pub part_call :
      (o n : ℕ) → (answer_on g dump cells (part k w o n) ≡ a_part (part_by g dump (chunk_from g dump cells o n))) × (words_after g dump cells (part k w o n) ≡ cells)
  unfolding answer_on words_after
  part_call o n = rw lent (refl, refl)

  pub list_call :
      (buffer : List ℕ) →
      let r = list_from g dump cells (length buffer) in
      (answer_on g dump cells (list k w buffer) ≡ a_list r (words_by (ids_from g dump cells) buffer r)) × (words_after g dump cells (list k w buffer) ≡ cells)
  unfolding answer_on words_after
  list_call buffer = rw lent (refl, refl)

-- W in 48 words, whatever they hold, with any seed
pub shelf_start : (c : List ℕ) (seed : ℕ) → length c ≡ 48 → (start_of shelf_geometry shelf c seed).answer ≡ (Ok tt)
unfolding start_of start_in
shelf_start c seed e =
    let opened : opened_of shelf_geometry (length shelf) ≡ Ok 8 = rw (pages.marked).shelf_length (pages.marked).shelf_opened in
    rw (opened, e)
