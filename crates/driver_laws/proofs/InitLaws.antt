-- Enclaves that were initialised were created before.
use Rattle.std.proofs.Common.{◌≡◌, ℕ, ◌==◌, ◌||◌, not, Bool, true, false, if◌then◌else◌, refl, sym, ◌∙◌, ap, List, [], ◌∷◌, Option, Some}
use Rattle.std.proofs.Common.{None}
use Rattle.std.specs.Prelude.{is_some}
use Rattle.std.proofs.lemmas.Bool.{eq-eqb, eqb-true, false≢true}
use Rattle.sgx_types.specs.Making.{Making}
use Rattle.sgx_types.specs.Pages.{secs_page}
use Rattle.sgx_rules.specs.declared.entries.Action.TheVariants as actions
use Rattle.sgx_rules.specs.declared.entries.Entry.{Entry}
use Rattle.sgx_rules.specs.declared.entries.Event.{Event}
use Rattle.sgx_rules.specs.declared.entries.Event.TheVariants.{Did}
use Rattle.sgx_rules.specs.inner.Enclaves.{created, created_by, is_there}
use Rattle.sgx_rules.specs.Flat.{enclave_sight_of, flat, FlatEnclave, as_initialised}
use Rattle.sgx_rules.specs.Rules.{Along, RefusalRule}
use Rattle.sgx_rules.specs.Sights.{row_at, secs_sight_at}
use Rattle.sgx_rules.specs.Table.{init_row, is_ready, SecsSight}
use Rattle.sgx_rules.proofs.Rows.{none_holds, NoneHolds}
use Rattle.machine_copies.proofs.ThereLaws.{sees_created}
use Rattle.script_rules.specs.Script.{is_init_of, is_initialised}
use Rattle.driver_laws.proofs.SoundLaws.{entry_of}
use Rattle.driver_laws.specs.inner.Kinds.{CanMove}
use Rattle.driver_laws.specs.inner.Sound.{is_absent, IsSound}
use Rattle.driver_laws.specs.inner.Inits.{InitsAreReady, InitTells}

marked_ready : (o : Option FlatEnclave) → is_some o ≡ true → is_ready (enclave_sight_of (as_initialised o)) ≡ true
marked_ready None h = cc
marked_ready (Some x) h = refl

ready_some : (o : Option FlatEnclave) → is_ready (enclave_sight_of o) ≡ true → is_some o ≡ true
ready_some None h = cc
ready_some (Some x) h = refl

pub first_inits : InitsAreReady []
first_inits = λ e h. cc

pub more_inits : (past : List Entry) (x : Entry) → IsSound past → CanMove past x.event → InitTells past x.event → InitsAreReady past
    → InitsAreReady (x ∷ past)
more_inits past x s can tells before = λ e is. by_event x.event can tells e is
  where
    by_event : (ev : Event) → CanMove past ev → InitTells past ev → (e : ℕ) → (is_init_of e ev || is_initialised past e) ≡ true
        → is_ready (enclave_sight_of (created_by ev e (created past e))) ≡ true
    by_event (Did (actions.Create enclave f base size) answer) k t e is = by_test (e == enclave) refl (before e is)
      where
        there : is_there past (secs_page enclave) ≡ is_some (created past enclave)
        there = rw (k.2) refl

        none : is_some (created past enclave) ≡ false
        none = sym there ∙ s.made (secs_page enclave) ∙ ap (λ p. not (is_absent p)) k.1

        by_test : (b : Bool) → (e == enclave) ≡ b → is_ready (enclave_sight_of (created past e)) ≡ true
            → is_ready (enclave_sight_of (if b then Some (record { base = base; size = size; is_init = false }) else created past e)) ≡ true
        by_test true same ready =
            absurd (false≢true (sym none ∙ ap (λ n. is_some (created past n)) (sym (eqb-true e enclave same))
            ∙ ready_some (created past e) ready))
        by_test false same ready = ready
    by_event (Did (actions.Init enclave expect) answer) k t e is = by_test (e == enclave) refl is
      where
        other : (c : Bool) → (enclave == e) ≡ c → (e == enclave) ≡ false → (c || is_initialised past e) ≡ true
            → is_initialised past e ≡ true
        other true same apart h = absurd (false≢true (sym apart ∙ eq-eqb e enclave (sym (eqb-true enclave e same))))
        other false same apart h = h

        by_test : (b : Bool) → (e == enclave) ≡ b → ((enclave == e) || is_initialised past e) ≡ true
            → is_ready (enclave_sight_of (if b then as_initialised (created past e) else created past e)) ≡ true
        by_test true same h =
            marked_ready (created past e) (ap (λ n. is_some (created past n)) (eqb-true e enclave same) ∙ t)
        by_test false same h = before e (other (enclave == e) refl same h)
    by_event _ k t e is = before e is

-- the row of an init takes no enclave that was not created
init_there : (o : Option FlatEnclave) (secs : SecsSight) → NoneHolds (init_row (enclave_sight_of o) secs) → is_some o ≡ true
init_there None secs row = cc
init_there (Some x) secs row = refl

pub row_inits : (made : Making) (past : List Entry) (x : Entry) → Along (RefusalRule made) past → RefusalRule made past x
    → InitTells past x.event
row_inits made past x along refusal = by_event x.event refusal
  where
    by_event : (ev : Event) → RefusalRule made past (entry_of x.actor ev) → InitTells past ev
    by_event (Did (actions.Init enclave expect) answer) m =
        sym (sees_created made past along enclave)
        ∙ init_there ((flat past).enclaves enclave) (secs_sight_at made.frames past enclave)
        (none_holds (row_at made past x.actor (actions.Init enclave expect)) m.0)
    by_event _ m = tt
