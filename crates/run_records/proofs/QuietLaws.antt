-- Entries by which a run over an honest store stays honest, whatever they are.
use Rattle.std.proofs.Common.{◌≡◌, ℕ, true, false, refl, ◌∙◌, ap, subst, sym, List, [], ◌∷◌, Option, Some, None}
use Rattle.script_rules.specs.Script.{action_of}
use Rattle.sgx_rules.specs.declared.entries.Action.{Action}
use Rattle.sgx_rules.specs.declared.entries.Action.TheVariants.{Ewb, EldStart}
use Rattle.sgx_rules.specs.declared.entries.Answer.{Answer}
use Rattle.sgx_rules.specs.declared.entries.Entry.{Entry}
use Rattle.sgx_rules.specs.declared.entries.Event.{Event}
use Rattle.sgx_rules.specs.declared.entries.Event.TheVariants.{Did, Refused, Kick}
use Rattle.sgx_types.specs.declared.names.Cpu.{Cpu}
use Rattle.sgx_types.specs.Making.{Making}
use Rattle.backing_store.specs.Calls.{Call}
use Rattle.driver_rules.specs.Stops.{is_bus}
use Rattle.driver_tables.specs.inner.Carried.{Carries}
use Rattle.machine_laws.specs.inner.Columns.{HasAllVersions}
use Rattle.machine_laws.specs.inner.Notes.{IsNote}
use Rattle.machine_laws.specs.inner.Shape.{ShapeWithRules}
use Rattle.machine_laws.proofs.ColumnLaws.{content_is}
use Rattle.machine_laws.proofs.NoteLaws.{noted_arrays}
use Rattle.sgx_rules.specs.Frames.{Free, IsVa}
use Rattle.sgx_machine.specs.inner.Parts.{Parts, state_of}
use Rattle.run_laws.specs.inner.Books.{FindsVersion, IsHonestEntry}
use Rattle.run_laws.specs.inner.Honest.{IsHonestBook, PutsArray}
use Rattle.history_rules.specs.Honest.{IsHonest}
use Rattle.run_records.specs.inner.Honest.{StaysHonest}
use Rattle.due_notes.specs.inner.Plain.{is_plain}

-- it tells of no page that was lost, starts no load and ends no write-out
pub record IsQuiet (ev : Event) : Type 0 where
  pub back : is_bus ev ≡ false
  pub finds : (past : List Entry) → FindsVersion past ev
  pub puts : (key : List ℕ) (past : List Entry) (calls : List Call) → PutsArray key past ev calls

-- what is so over an honest store is so of a store that tells its calls
pub where_told : (made : Making) (past : List Entry) (m m' : Parts) (e : Entry) (told : Option (List Call))
    → ((calls : List Call) → IsHonest calls → IsHonestEntry made past m e m' calls) → StaysHonest made past m e m' told
where_told made past m m' e None h = tt
where_told made past m m' e (Some calls) h = h calls

-- .. by an entry that is quiet, where the slots of version array pages go on to have the versions that the entries say
pub quiet_honest : (made : Making) (past : List Entry) (m m' : Parts) (e : Entry) (calls : List Call) → IsQuiet e.event
    → (HasAllVersions (state_of m) past → HasAllVersions (state_of m') (e ∷ past)) → IsHonestEntry made past m e m' calls
quiet_honest made past m m' e calls quiet arrays = record {
  back = λ book. quiet.back;
  finds = λ book. quiet.finds past;
  puts = λ book. quiet.puts made.key past calls;
  arrays = λ book. arrays book.arrays;
}

-- .. as those do that the machine carries on
pub carried_honest : (made : Making) (past : List Entry) (m m' : Parts) (e : Entry) (told : Option (List Call)) → IsQuiet e.event
    → ShapeWithRules made (state_of m) past → Carries (state_of m) e (state_of m') → StaysHonest made past m e m' told
carried_honest made past m m' e told quiet shape carries =
    where_told made past m m' e told (λ calls honest. quiet_honest made past m m' e calls quiet (carries.arrays made past shape))

-- ---- before the first entry

-- no frame holds a page, and none is loading
pub first_honest : (made : Making) (m : Parts) → ShapeWithRules made (state_of m) [] → IsHonestBook made [] m []
first_honest made m shape = record {
  back = refl;
  gifts = λ g f slot at. cc;
  found = λ n x opened loads. cc;
  arrays = λ n number held. absurd (never_array number (sym (content_is shape.shape.columns n) ∙ held));
  puts = tt;
}
  where
    never_array : (number : ℕ) → Free ≡ IsVa number → ⊥
    never_array number is = cc

-- ---- instructions that move no page out or back

did_quiet : (action : Action) (answer : Answer) → is_plain action ≡ true → IsQuiet (Did action answer)
did_quiet (Ewb f) answer h = cc
did_quiet (EldStart f page slot) answer h = cc
did_quiet action answer h =
    record { back = refl; finds = λ past. tt; puts = λ key past calls. tt }

plain_quiet : (ev : Event) (action : Action) → action_of ev ≡ Some action → is_plain action ≡ true → IsQuiet ev
plain_quiet (Did done answer) action is plain =
    let same : done ≡ action = cc in did_quiet done answer (ap is_plain same ∙ plain)
plain_quiet (Refused refused refusal) action is plain =
    record { back = refl; finds = λ past. tt; puts = λ key past calls. tt }
plain_quiet _ action is plain = cc

pub plain_honest : (made : Making) (past : List Entry) (e : Entry) (action : Action) (told : Option (List Call)) (m m' : Parts)
    → action_of e.event ≡ Some action → is_plain action ≡ true → ShapeWithRules made (state_of m) past
    → Carries (state_of m) e (state_of m') → StaysHonest made past m e m' told
plain_honest made past e action told m m' is plain shape carries =
    carried_honest made past m m' e told (plain_quiet e.event action is plain) shape carries

-- ---- kicks

pub kick_honest : (made : Making) (past : List Entry) (e : Entry) (cpu : Cpu) (told : Option (List Call)) (m : Parts) → e.event ≡ Kick cpu
    → StaysHonest made past m e m told
kick_honest made past e cpu told m is =
    where_told made past m m e told (λ calls honest. quiet_honest made past m m e calls (subst IsQuiet (sym is) quiet)
    (noted_arrays (state_of m) past e (subst IsNote (sym is) tt)))
  where
    quiet : IsQuiet (Kick cpu)
    quiet = record { back = refl; finds = λ past. tt; puts = λ key past calls. tt }
