-- Each arm of the match is a case of the definition.
use Rattle.chunk.proofs.record.sequence_of.Goals as goal

pub returns-in-Header : goal.returns-in-Header
returns-in-Header c = rw c.in-Header.is

pub returns-in-Data : goal.returns-in-Data
returns-in-Data c = rw c.in-Data.is
