-- The size of a file (document 01, "Newest, size and cuts").
use Rattle.std.specs.Prelude.{ℕ, ◌+◌, max, ◌&&◌, ltb}
use Rattle.page.specs.Choice.{pick}
use Rattle.page.specs.declared.record.Record.{Record}
use Rattle.chunk.specs.Gather.{gather}
use Rattle.chunk.specs.Records.{age_of, data_of, chunk_of, count_of, file_size, base_of}

-- where the bytes of a data page end in its file
abbrev pub end_of : (P : ℕ) → Record → ℕ
end_of P k = base_of P (chunk_of k) + count_of k

-- the largest end among the data records of object o newer than an age
unfoldable pub data_end : (says : ℕ → Record) (P object age pages : ℕ) → ℕ
data_end says P o x n = gather (λ p a. pick (data_of o (says p) && ltb x (age_of says p)) (max (end_of P (says p)) a) a) 0 n

-- the size of object o, whose newest header is h: that header's file size, or the largest end of newer data, whichever is larger
unfoldable pub size_of : (says : ℕ → Record) (P object header pages : ℕ) → ℕ
size_of says P o h n = max (file_size (says h)) (data_end says P o (age_of says h) n)
