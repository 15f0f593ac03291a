-- Lists of entries, and whose they are.
use Rattle.std.specs.Prelude.{ℕ, ◌==◌, Bool, List}
use Rattle.std.specs.List.{filter}
use Rattle.hm_store.specs.declared.object.Entry.{Entry}
use Rattle.hm_store.specs.declared.object.Entry.TheVariants.{Claim, Publish, Fail, Stop}

-- the worker whose entry it is
abbrev pub writer_of : Entry → ℕ
writer_of (Claim w m) = w
writer_of (Publish w m) = w
writer_of (Fail w m) = w
writer_of (Stop w) = w

abbrev pub is_by : ℕ → Entry → Bool
is_by w e = writer_of e == w

-- the entries of worker w, in order
abbrev pub by : ℕ → List Entry → List Entry
by w es = filter (is_by w) es

-- all entries, and the number of workers that have a token
pub record Whole : Type 0 where
  pub entries : List Entry
  pub workers : ℕ

-- a worker, and the entries that it has seen
pub record Seen : Type 0 where
  pub worker : ℕ
  pub entries : List Entry
