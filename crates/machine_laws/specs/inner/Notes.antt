-- Entries of no instruction, and those of a done one.
use Rattle.sgx_rules.specs.declared.entries.Event.{Event}
use Rattle.sgx_rules.specs.declared.entries.Event.TheVariants.{Did, Refused, Age, Kick, Bus}

-- a look at a page, a kick, or a page that could not be reloaded
abbrev pub IsNote : Event → Type 0
IsNote (Did action answer) = ⊥
IsNote (Refused action why) = ⊥
IsNote (Age page look) = Unit {0}
IsNote (Kick cpu) = Unit {0}
IsNote (Bus page why) = Unit {0}

-- an instruction was done
abbrev pub IsDidEvent : Event → Type 0
IsDidEvent (Did action answer) = Unit {0}
IsDidEvent (Refused action why) = ⊥
IsDidEvent (Age page look) = ⊥
IsDidEvent (Kick cpu) = ⊥
IsDidEvent (Bus page why) = ⊥
