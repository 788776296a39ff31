-- A source over memory as contracts see it, and what a call of it does.
use Rattle.std.specs.Prelude.{ℕ, ◌==◌, List, ◌++◌, length, take, drop, min, if◌then◌else◌, Result, Ok, Err}
use Rattle.std.specs.List.{list_any}
use Rattle.io_edges.specs.declared.faults.Failed.{Failed}
use Rattle.io_edges.specs.inner.Faults.{one_more}

pub record SourceState : Type 0 where
  -- the bytes that it still has
  pub left : List ℕ
  -- how many bytes a call gives at most
  pub piece : ℕ
  -- the numbers of the calls that fail, where the first call has number 1
  pub fails : List ℕ
  -- how many calls were made
  pub calls : ℕ
  -- how many of them failed
  pub faults : ℕ

-- no call was made yet
abbrev pub new_source : List ℕ → ℕ → List ℕ → SourceState
new_source bytes piece fails = record { left = bytes; piece = piece; fails = fails; calls = 0; faults = 0 }

-- what a call answers, the source after it, and the slice
pub record Taken : Type 0 where
  pub answer : Result ℕ Failed
  pub source : SourceState
  pub slice : List ℕ

-- a call that fails
abbrev pub failed_take : SourceState → List ℕ → Taken
failed_take source slice = record {
  answer = Err (record {});
  source = record source { calls = one_more source.calls; faults = one_more source.faults };
  slice = slice;
}

-- a call that gives n bytes
abbrev pub done_take : SourceState → List ℕ → ℕ → Taken
done_take source slice n = record {
  answer = Ok n;
  source = record source { calls = one_more source.calls; left = drop n source.left };
  slice = take n source.left ++ drop n slice;
}

-- A call fails where its number is among those that fail. Otherwise it gives the least of the piece, the slice and
-- the rest.
abbrev pub take_of : SourceState → List ℕ → Taken
take_of source slice =
    if list_any (λ number. number == one_more source.calls) source.fails
    then failed_take source slice
    else done_take source slice (min (min source.piece (length slice)) (length source.left))
