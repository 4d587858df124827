-- Listing a directory at a depth lists entries with one step less left, and listing an entry with so many left lists a directory at that depth: twice
-- the depth for a directory, and one more than twice what is left for an entry, fall at each call. The loop's invariant is `Done`.
use Rattle.std.proofs.Common.{◌+◌}
use Rattle.tree.specs.Objects.{says_by, names_of}
use Rattle.tree.proofs.FirstList.{Done}
use Rattle.tree.proofs.list.+list_directory_list_entry.Given as goal

abbrev pub decreases-list_directory : goal.decreases-list_directory
decreases-list_directory l = l.depth + l.depth

abbrev pub decreases-list_entry : goal.decreases-list_entry
decreases-list_entry l = l.left + l.left + 1

abbrev pub invariant-list_directory-loop-i : goal.invariant-list_directory-loop-i
invariant-list_directory-loop-i l =
    Done (says_by l.g l.dump l.t) (names_of l.g l.dump) l.pages l.heads l.children l.depth l.key l.directory l.at l.fn.rows l.first l.end l.rows l.next l.i
