-- The header fields that are compared (document 02, item 1, by the table of item 2), ascending: all but those called unused, reserved, in-band or
-- unread.
use Rattle.std.specs.Prelude.{ℕ, List, [], ◌∷◌, get_or}
use Rattle.page.specs.Headers.{at_type, at_parent, at_name, at_mode, at_uid, at_gid, at_accessed, at_modified, at_created, at_size, at_equivalent, at_alias, at_rdev, at_win_created, at_win_accessed, at_win_modified, at_shadowed, at_shrink, text_length}
use Rattle.page.specs.declared.fields.Text.TheVariants.{Name, Alias}

-- how many they are
abbrev pub fields : ℕ
fields = 18

-- where each begins, and how many bytes it has
unfoldable pub field_places : List ℕ
field_places =
    at_type ∷ at_parent ∷ at_name ∷ at_mode ∷ at_uid ∷ at_gid ∷ at_accessed ∷ at_modified ∷ at_created ∷ at_size ∷ at_equivalent ∷ at_alias ∷ at_rdev ∷
    at_win_created ∷ at_win_accessed ∷ at_win_modified ∷ at_shadowed ∷ at_shrink ∷ []

unfoldable pub field_lengths : List ℕ
field_lengths = 4 ∷ 4 ∷ text_length Name ∷ 4 ∷ 4 ∷ 4 ∷ 4 ∷ 4 ∷ 4 ∷ 4 ∷ 4 ∷ text_length Alias ∷ 4 ∷ 8 ∷ 8 ∷ 8 ∷ 4 ∷ 4 ∷ []

-- field i
unfoldable pub place_of : (field : ℕ) → ℕ
place_of i = get_or field_places i 0

unfoldable pub length_of : (field : ℕ) → ℕ
length_of i = get_or field_lengths i 0
