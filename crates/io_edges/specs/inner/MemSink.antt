-- A sink over memory as contracts see it, and what a call of it does.
use Rattle.std.specs.Prelude.{ℕ, ◌-◌, ◌==◌, ◌||◌, List, [], ◌++◌, length, take, min, if◌then◌else◌, Result, Ok, Err}
use Rattle.std.specs.List.{list_any}
use Rattle.io_edges.specs.declared.faults.Failed.{Failed}
use Rattle.io_edges.specs.declared.mem_sink.TheConstants.{CAPACITY}
use Rattle.io_edges.specs.inner.Faults.{one_more}

pub record SinkState : Type 0 where
  -- the bytes that it was given
  pub given : List ℕ
  -- how many bytes a call takes at most
  pub piece : ℕ
  -- the numbers of the calls that fail, where the first call has number 1
  pub fails : List ℕ
  -- how many calls were made
  pub calls : ℕ
  -- how many of them failed
  pub faults : ℕ

-- no call was made yet
abbrev pub new_sink : ℕ → List ℕ → SinkState
new_sink piece fails = record { given = []; piece = piece; fails = fails; calls = 0; faults = 0 }

-- what a call answers, and the sink after it
pub record Given : Type 0 where
  pub answer : Result ℕ Failed
  pub sink : SinkState

-- a call that fails
abbrev pub failed_give : SinkState → Given
failed_give sink = record {
  answer = Err (record {});
  sink = record sink { calls = one_more sink.calls; faults = one_more sink.faults };
}

-- a call that takes the first n bytes
abbrev pub done_give : SinkState → List ℕ → ℕ → Given
done_give sink slice n = record {
  answer = Ok n;
  sink = record sink { calls = one_more sink.calls; given = sink.given ++ take n slice };
}

-- how many bytes it can still take
abbrev pub room_of : SinkState → ℕ
room_of sink = CAPACITY - length sink.given

-- A call fails where its number is among those that fail or no room is left. Otherwise it takes the least of the
-- piece, the slice and the room.
abbrev pub give_of : SinkState → List ℕ → Given
give_of sink slice =
    if list_any (λ number. number == one_more sink.calls) sink.fails || (room_of sink == 0)
    then failed_give sink
    else done_give sink slice (min (min sink.piece (length slice)) (room_of sink))
