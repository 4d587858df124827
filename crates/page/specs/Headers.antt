-- The header page (document 01, "Header page", and from the alias on document 02, item 2): where each field stands, and how many bytes it has.
use Rattle.std.specs.Prelude.{ℕ, List, take, drop}
use Rattle.page.specs.Words.{le16, le32, le64}
use Rattle.page.specs.declared.fields.Fields.{Fields}
use Rattle.page.specs.declared.fields.Text.{Text}
use Rattle.page.specs.declared.fields.Text.TheVariants.{Name, Alias, Reserved}

abbrev pub at_type : ℕ
at_type = 0x0

abbrev pub at_parent : ℕ
at_parent = 0x4

abbrev pub at_unused1 : ℕ
at_unused1 = 0x8

abbrev pub at_name : ℕ
at_name = 0xA

abbrev pub at_unused2 : ℕ
at_unused2 = 0x10A

abbrev pub at_mode : ℕ
at_mode = 0x10C

abbrev pub at_uid : ℕ
at_uid = 0x110

abbrev pub at_gid : ℕ
at_gid = 0x114

abbrev pub at_accessed : ℕ
at_accessed = 0x118

abbrev pub at_modified : ℕ
at_modified = 0x11C

abbrev pub at_created : ℕ
at_created = 0x120

abbrev pub at_size : ℕ
at_size = 0x124

abbrev pub at_equivalent : ℕ
at_equivalent = 0x128

abbrev pub at_alias : ℕ
at_alias = 0x12C

abbrev pub at_rdev : ℕ
at_rdev = 0x1CC

abbrev pub at_win_created : ℕ
at_win_created = 0x1D0

abbrev pub at_win_accessed : ℕ
at_win_accessed = 0x1D8

abbrev pub at_win_modified : ℕ
at_win_modified = 0x1E0

abbrev pub at_inband_shadow : ℕ
at_inband_shadow = 0x1E8

abbrev pub at_inband_shrink : ℕ
at_inband_shrink = 0x1EC

abbrev pub at_size_high : ℕ
at_size_high = 0x1F0

abbrev pub at_reserved : ℕ
at_reserved = 0x1F4

abbrev pub at_shadowed : ℕ
at_shadowed = 0x1F8

abbrev pub at_shrink : ℕ
at_shrink = 0x1FC

-- the fields that are numbers
unfoldable pub fields_of : List ℕ → Fields
fields_of page = record {
  page_type = le32 page at_type;
  parent = le32 page at_parent;
  unused1 = le16 page at_unused1;
  unused2 = le16 page at_unused2;
  mode = le32 page at_mode;
  uid = le32 page at_uid;
  gid = le32 page at_gid;
  accessed = le32 page at_accessed;
  modified = le32 page at_modified;
  created = le32 page at_created;
  file_size = le32 page at_size;
  equivalent_id = le32 page at_equivalent;
  rdev = le32 page at_rdev;
  win_created = le64 page at_win_created;
  win_accessed = le64 page at_win_accessed;
  win_modified = le64 page at_win_modified;
  inband_shadow = le32 page at_inband_shadow;
  inband_shrink = le32 page at_inband_shrink;
  size_high = le32 page at_size_high;
  shadowed_id = le32 page at_shadowed;
  shrink = le32 page at_shrink;
}

-- the fields that are bytes: where each begins and how long it is
abbrev pub text_place : Text → ℕ
text_place Name = at_name
text_place Alias = at_alias
text_place Reserved = at_reserved

abbrev pub text_length : Text → ℕ
text_length Name = 256
text_length Alias = 160
text_length Reserved = 4

-- the bytes of such a field
unfoldable pub text_of : Text → List ℕ → List ℕ
text_of f page = take (text_length f) (drop (text_place f) page)
