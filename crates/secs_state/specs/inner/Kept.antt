-- What is true of every SECS.
use Rattle.secs_state.specs.declared.secs.Secs.TheInside.{Inside}
use Rattle.secs_state.specs.inner.Secs.{SecsState, IsSecs}

abbrev pub secs_of : Inside → SecsState
secs_of s = record {
  enclave = s.enclave;
  base = s.base;
  size = s.size;
  is_init = s.is_init;
  pages = s.pages.items;
  busy = s.busy.items;
  children = s.children;
  frame = s.frame;
}

abbrev pub IsSecsKept : Inside → Type 0
IsSecsKept s = IsSecs (secs_of s)
