-- The newest record of a kind (document 01, "Newest, size and cuts").
use Rattle.std.specs.Prelude.{ℕ, suc, Bool, ◌&&◌, leb, Option, Some, None}
use Rattle.page.specs.Choice.{pick}
use Rattle.page.specs.declared.record.Record.{Record}
use Rattle.chunk.specs.Gather.{gather}
use Rattle.chunk.specs.Records.{age_of, is_of, header_of, is_copy}

-- the newer of page p and another, if there is one
abbrev pub later : (says : ℕ → Record) (page : ℕ) → Option ℕ → Option ℕ
later says p None = Some p
later says p (Some q) = pick (leb (age_of says q) (age_of says p)) (Some p) (Some q)

-- the newest of the first n pages that pass a test
unfoldable pub newest_where : (says : ℕ → Record) (test : ℕ → Bool) (pages : ℕ) → Option ℕ
newest_where says test n = gather (λ p r. pick (test p) (later says p r) r) None n

-- the newest of the first n pages whose records pass a test
abbrev pub newest : (says : ℕ → Record) (test : Record → Bool) (pages : ℕ) → Option ℕ
newest says test n = newest_where says (λ p. test (says p)) n

-- whether a page is a data page of object o with chunk number c
abbrev pub copy_of : (object chunk : ℕ) → Record → Bool
copy_of o c k = is_of o k && is_copy c k

-- the newest header of object o; the copy of its chunk c
abbrev pub newest_header : (says : ℕ → Record) (object pages : ℕ) → Option ℕ
newest_header says o n = newest says (header_of o) n

abbrev pub newest_copy : (says : ℕ → Record) (object chunk pages : ℕ) → Option ℕ
newest_copy says o c n = newest says (copy_of o c) n

-- how many records of object o are not older than an age: the records visited down to that age
unfoldable pub since : (says : ℕ → Record) (object age pages : ℕ) → ℕ
since says o x n = gather (λ p a. pick (is_of o (says p) && leb x (age_of says p)) (suc a) a) 0 n

-- how many records object o has
abbrev pub records : (says : ℕ → Record) (object pages : ℕ) → ℕ
records says o n = since says o 0 n
