-- The operations that are drawn, and the scripts of the processors.
use Rattle.std.specs.Prelude.{ℕ, zero, suc, ◌+◌, ◌*◌, ◌/◌, ◌==◌, if◌then◌else◌, List, [], ◌∷◌, ◌++◌}
use Rattle.std.specs.Prelude.{nat_lt}
use Rattle.job_grammar.specs.declared.jobs.Op.{Op}
use Rattle.job_grammar.specs.declared.jobs.Op.TheVariants.{Enter, Exit, Load, Store, Xadd}
use Rattle.job_make.specs.Generator.{state_after, draw}

-- ---- one operation

-- a word of a page that this processor alone uses: from page 8 on the four processors have every fourth page each
unfoldable pub own_offset : ℕ → ℕ → ℕ → ℕ
own_offset cpu page word = (8 + 4 * page + cpu) * 4096 + 8 * word

-- the word that all processors add to: the first of the last page
unfoldable pub shared_offset : ℕ → ℕ
shared_offset size = (8 + size) * 4096

-- of the four kinds two load a word, one stores a value there, and one adds to the shared word
unfoldable pub op_of : ℕ → ℕ → ℕ → ℕ → Op
op_of kind own shared value =
    if nat_lt kind 2 then Load own
    else if kind == 2 then Store own value
    else Xadd shared 1

-- the operation that is drawn from a state on: its kind, its page, its word, and the value that it stores
abbrev pub made_op : ℕ → ℕ → ℕ → Op
made_op size cpu x =
    op_of (draw 1 4 x) (own_offset cpu (draw 2 (size / 4) x) (draw 3 512 x)) (shared_offset size) (draw 4 1000000 x)

-- a value is drawn for a store alone
abbrev pub state_behind_op : ℕ → ℕ
state_behind_op x = if draw 1 4 x == 2 then state_after 4 x else state_after 3 x

-- ---- scripts

-- so many operations of a processor, one after the other
unfoldable pub made_ops : ℕ → ℕ → ℕ → ℕ → List Op
made_ops size cpu zero x = []
made_ops size cpu (suc n) x = made_op size cpu x ∷ made_ops size cpu n (state_behind_op x)

-- the state behind so many
unfoldable pub state_behind_ops : ℕ → ℕ → ℕ
state_behind_ops zero x = x
state_behind_ops (suc n) x = state_behind_ops n (state_behind_op x)

-- a processor enters by its own TCS page, does as many operations as the size says, and exits
abbrev pub made_script : ℕ → ℕ → ℕ → List Op
made_script size cpu x = Enter 1 cpu ∷ made_ops size cpu size x ++ Exit ∷ []

-- the scripts of so many processors from a number on. Each goes on drawing where the one before has ended
unfoldable pub made_scripts : ℕ → ℕ → ℕ → ℕ → List (List Op)
made_scripts size zero cpu x = []
made_scripts size (suc n) cpu x = made_script size cpu x ∷ made_scripts size n (cpu + 1) (state_behind_ops size x)
