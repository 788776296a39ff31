-- What the entry of a step brings, so that a state that stands for its entries and keeps the rules goes on to.
use Rattle.std.proofs.Common.{◌≡◌, true, sym, subst, ◌∙◌, None, List, ◌∷◌, refl}
use Rattle.sgx_rules.specs.declared.entries.Entry.{Entry}
use Rattle.sgx_rules.specs.declared.entries.Event.TheVariants.{Did}
use Rattle.sgx_types.specs.declared.names.Actor.{Actor}
use Rattle.sgx_rules.specs.declared.entries.Action.{Action}
use Rattle.sgx_rules.specs.declared.entries.Answer.{Answer}
use Rattle.sgx_rules.specs.declared.refusals.Refusal.{Refusal}
use Rattle.sgx_rules.specs.Flat.{FlatMemory, flat, accepts, flat_answer, is_visible, memory_after, event_after}
use Rattle.sgx_rules.specs.Rules.{FitsRule, FlatRule, HasForm, NamesFrames, NoPageTwice, RefusalRule, TakesFree, seen_answer}
use Rattle.sgx_rules.specs.inner.Rules.{KeepsRules}
use Rattle.sgx_rules.specs.Sights.{row_at}
use Rattle.sgx_types.specs.Cases.{first_of_row}
use Rattle.sgx_types.specs.Making.{Making}
use Rattle.measure_log.specs.Rule.{MeasureRule}
use Rattle.machine_laws.specs.inner.Columns.{HasAllVersions}
use Rattle.machine_laws.specs.inner.Shape.{ShapeWithRules}
use Rattle.machine_laws.specs.inner.Stands.{Shows, Stands, StandsWithRules}
use Rattle.machine_laws.specs.inner.State.{State, making_of}
use Rattle.machine_laws.specs.inner.Steps.{did_by, refused_by}
use Rattle.machine_laws.proofs.TestLaws.{last_place}

-- what the new entry brings, beside the shape
pub record Brings (s t : State) (past : List Entry) (e : Entry) : Type 0 where
  pub memory : Shows t (e ∷ past) (flat (e ∷ past))
  pub refusal : RefusalRule (making_of s) past e
  pub flat : FlatRule past e
  pub fits : FitsRule s.frames past e
  pub measure : MeasureRule past e

-- .. under other names
pub brings_as : (s t t' : State) (past : List Entry) (e e' : Entry) → e ≡ e' → t ≡ t' → Brings s t' past e' → Brings s t past e
brings_as s t t' past e e' same alike k = rw (same, alike) k

-- a state that has the shape of one entry more, and by whose entries no page stands in two frames
pub stands_more : (s t : State) (made : Making) (past : List Entry) (e : Entry) → ShapeWithRules made s past
    → ShapeWithRules made t (e ∷ past) → NoPageTwice (e ∷ past) → HasAllVersions t (e ∷ past) → StandsWithRules s past
    → Brings s t past e → StandsWithRules t (e ∷ past)
stands_more s t made past e before after once versions h k = record {
  stands = record { columns = after.shape.columns; versions = versions; memory = k.memory };
  rules = subst (λ k. KeepsRules k (e ∷ past)) (before.shape.making ∙ sym after.shape.making) rules;
  measure = (k.measure, h.measure);
}
  where
    rules : KeepsRules (making_of s) (e ∷ past)
    rules = record {
      refusal = (k.refusal, h.rules.refusal);
      flat = (k.flat, h.rules.flat);
      fits = record { entries = (k.fits, h.rules.fits.entries); pages = (once, h.rules.fits.pages) };
      stale = after.stale;
    }

pub once_before : (s : State) (past : List Entry) → StandsWithRules s past → NoPageTwice past
once_before s past h = last_place NoPageTwice past h.rules.fits.pages

-- ---- a done instruction

-- flat memory after one that it takes
pub flat_done : (m : FlatMemory) (a : Actor) (action : Action) (answer : Answer) → accepts m a action ≡ true
    → event_after a (Did action answer) m ≡ memory_after a action m
flat_done m a action answer taken = rw taken refl

-- what it brings beside its row and its frames
pub record BringsDone (s t : State) (past : List Entry) (a : Actor) (action : Action) (answer : Answer) : Type 0 where
  pub form : HasForm past action answer
  pub taken : accepts (flat past) a action ≡ true
  pub same : is_visible action ≡ true → seen_answer action answer ≡ flat_answer (flat past) a action
  pub measure : MeasureRule past (did_by a action answer)
  pub memory : Shows t (did_by a action answer ∷ past) (memory_after a action (flat past))

pub done_brings : (s t : State) (past : List Entry) (a : Actor) (action : Action) (answer : Answer)
    → first_of_row (row_at (making_of s) past a action) ≡ None → NamesFrames s.frames action × TakesFree past action
    → BringsDone s t past a action answer
    → Brings s t past (did_by a action answer)
done_brings s t past a action answer allowed fits k = record {
  refusal = (allowed, k.form);
  flat = λ seen. record { taken = k.taken; same = k.same seen };
  fits = fits;
  measure = k.measure;
  memory = subst (λ (m : FlatMemory). Shows t (did_by a action answer ∷ past) m) (sym (flat_done (flat past) a action answer k.taken))
      k.memory;
}

-- ---- a refused one

-- it leaves what flat memory has
pub refused_brings : (s : State) (past : List Entry) (a : Actor) (action : Action) (r : Refusal)
    → RefusalRule (making_of s) past (refused_by a action r) → MeasureRule past (refused_by a action r) → Stands s past
    → Brings s s past (refused_by a action r)
refused_brings s past a action r refusal measure h =
    record {
      refusal = refusal;
      flat = tt;
      fits = tt;
      measure = measure;
      memory = record { enclaves = h.memory.enclaves; cpus = h.memory.cpus; words = h.memory.words; measure = h.memory.measure };
    }
