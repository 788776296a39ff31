-- The entries of a trace, one after another.
use Rattle.std.proofs.Common.{◌≡◌, ℕ, ◌+◌, ◌<◌, ◌≤◌, true, refl, sym, ap, subst, ◌∙◌, List, []}
use Rattle.std.proofs.Common.{◌∷◌, ◌++◌, Option, Some, None, length, take, drop, reverse, get_or, arith}
use Rattle.std.proofs.lemmas.List.{length-replicate, length-reverse, length-take, reverse-append, take-append-drop, take_all, take_more}
use Rattle.std.proofs.lemmas.Bool.{cases_lt}
use Rattle.sgx_types.specs.declared.names.Actor.{Actor}
use Rattle.sgx_types.specs.declared.names.Actor.TheVariants as actors
use Rattle.sgx_types.specs.Making.{Making}
use Rattle.sgx_rules.specs.declared.entries.Entry.{Entry}
use Rattle.sgx_rules.specs.Rules.{Along, AtEachPlace, FitsRule, NoPageTwice, NoneStale, RefusalRule, StaleRule}
use Rattle.sgx_rules.specs.inner.Rules.{KeepsRules}
use Rattle.seal_record.specs.Records.{Made}
use Rattle.seal_record.specs.inner.Sealing.{made_by}
use Rattle.job_grammar.specs.Jobs.{JobView}
use Rattle.script_rules.specs.Machines.{machine_of}
use Rattle.epcm_entry.specs.inner.Epc.{free_frame}
use Rattle.machine_laws.specs.inner.Histories.{StandsWithAllRules}
use Rattle.machine_laws.specs.inner.State.{State, making_of}
use Rattle.machine_laws.proofs.TestLaws.{last_place}
use Rattle.sgx_machine.specs.inner.Parts.{Parts, idle, made, state_of}
use Rattle.history_rules.specs.declared.rules.Rule.{Rule}
use Rattle.history_rules.specs.declared.rules.Rule.TheVariants as rules
use Rattle.history_rules.specs.Histories.{Before, Keeps, RuleSays}
use Rattle.history_rules.specs.inner.Histories.{is_machines}
use Rattle.history_machine.specs.Histories.{FailsAmong, FailsFirstAmong, MachineHistory}
use Rattle.audit_machine.specs.inner.Asked.{made_for}
use Rattle.audit_machine.proofs.KeptLaws.{own_rules, refusal_any}
use Rattle.audit_machine.specs.inner.Kept.{Records, no_records}
use Rattle.audit_machine.proofs.StayLaws.{none_out}
use Rattle.audit_check.specs.inner.Asks.{CanCheck, Checked, IsAnswered, IsTakenWith}
use Rattle.audit_check.specs.inner.Named.{is_named}
use Rattle.audit_check.specs.inner.Tests.{IsActor}
use Rattle.audit_check.proofs.FollowLaws.{never_first}

-- ---- the processor's rules along a trace

module _ (j : JobView) where
  along : (rule : List Entry → Entry → Type 0) (r : Rule) → ((past : List Entry) (e : Entry) → rule past e → RuleSays j r past (Some e))
      → (past : List Entry) → Along rule past → Before (RuleSays j r) past
  along rule r said [] h = tt
  along rule r said (e ∷ past) h = (said past e h.0, along rule r said past h.1)

  fits-before : (past : List Entry) → Along (FitsRule j.epc) past → AtEachPlace NoPageTwice past → Before (RuleSays j rules.Fits) past
  fits-before [] h pages = tt
  fits-before (e ∷ past) h pages = ((h.0, last_place NoPageTwice past pages.1), fits-before past h.1 pages.1)

  stale-before : (past : List Entry) → Along StaleRule past → AtEachPlace NoneStale past → Before (RuleSays j rules.Stale) past
  stale-before [] h places = tt
  stale-before (e ∷ past) h places = ((h.0, last_place NoneStale past places.1), stale-before past h.1 places.1)

  -- a trace that a machine stands for keeps them, whoever made it
  module _ (cpus : ℕ) (s : State) (past : List Entry) (records : List Made) (h : StandsWithAllRules (made_for j cpus) s past records) where
    keeps : KeepsRules (made_for j cpus) past
    keeps = own_rules (made_for j cpus) s past records h

    pub keeps_all : MachineHistory j past
    keeps_all = record {
      refusal = (
        tt,
        along (RefusalRule (made_for j cpus)) rules.Refusal
            (λ before e said. refusal_any j cpus (length j.scripts) before e.actor e.event said) past keeps.refusal,
      );
      flat = (tt, along _ rules.Flat (λ before e said. said) past keeps.flat);
      fits = ((tt, last_place NoPageTwice past keeps.fits.pages), fits-before past keeps.fits.entries keeps.fits.pages);
      stale = ((tt, last_place NoneStale past keeps.stale.places), stale-before past keeps.stale.entries keeps.stale.places);
      evict = (tt, along _ rules.Evict (λ before e said. said) past h.shaped.evict);
      fresh = (tt, along _ rules.Fresh (λ before e said. said) past h.fresh);
      sealed = (tt, along _ rules.Sealed (λ before e said. said) past h.sealed);
      measure = (tt, along _ rules.Measure (λ before e said. said) past h.standing.measure);
    }

  kept-before : (past : List Entry) → MachineHistory j past → (r : Rule) → is_machines r ≡ true → Before (RuleSays j r) past
  kept-before past h rules.Refusal own = h.refusal.1
  kept-before past h rules.Flat own = h.flat.1
  kept-before past h rules.Fits own = h.fits.1
  kept-before past h rules.Stale own = h.stale.1
  kept-before past h rules.Evict own = h.evict.1
  kept-before past h rules.Fresh own = h.fresh.1
  kept-before past h rules.Sealed own = h.sealed.1
  kept-before past h rules.Measure own = h.measure.1
  kept-before past h r own = absurd cc

-- ---- before the first entry

-- with the numbers of the job a machine was made for it
pub made_same : (j : JobView) (m : Parts) (frames cpus : ℕ) (key : List ℕ) (epoch version : ℕ) → m ≡ made frames cpus key epoch version
    → frames ≡ j.epc → key ≡ j.key → epoch ≡ j.start_epoch → version ≡ j.start_version
    → m ≡ made j.epc cpus j.key j.start_epoch j.start_version
made_same j m frames cpus key epoch version is same_frames same_key same_epoch same_version =
    is ∙ (λ i. made (same_frames i) cpus (same_key i) (same_epoch i) (same_version i))

module _ (j : JobView) (m : Parts) (cpus : ℕ) (is : m ≡ made j.epc cpus j.key j.start_epoch j.start_version) where
  new-making : making_of (state_of m) ≡ made_for j cpus
  new-making = ap (λ (x : Parts). making_of (state_of x)) is ∙ (λ i. record {
    frames = length-replicate j.epc free_frame i;
    cpus = length-replicate cpus idle i;
    key = j.key;
    first_epoch = j.start_epoch;
    first_version = j.start_version;
  })

  pub new_cpus : length m.cpus ≡ cpus
  new_cpus = ap (λ (x : Parts). length x.cpus) is ∙ length-replicate cpus idle

  pub new_checked : StandsWithAllRules (making_of (state_of m)) (state_of m) [] [] → Checked j cpus [] m no_records
  new_checked stands = record {
    stands = subst (λ (k : Making). StandsWithAllRules k (state_of m) [] []) new-making stands;
    records = none_out j.key;
  }

-- ---- each entry

-- each actor is one of 16 processors, or none of any machine
pub any_actor : (a : Actor) → IsActor 16 a
any_actor (actors.Cpu p) = cases_lt p.0 16
any_actor actors.Builder = tt
any_actor actors.Reclaimer = tt

-- so many entries, the newest first
abbrev pub before_place : List Entry → ℕ → List Entry
before_place entries i = reverse (take i entries)

newest-more : (entries : List Entry) (i : ℕ) (d : Entry) → i < length entries
    → before_place entries (i + 1) ≡ get_or entries i d ∷ before_place entries i
newest-more entries i d within = ap reverse (take_more entries i d within) ∙ reverse-append (take i entries) (get_or entries i d ∷ [])

module _ (j : JobView) (cpus : ℕ) (m : Parts) (kept : Records) (entries : List Entry) (i : ℕ)
    (checked : Checked j cpus (before_place entries i) m kept) where
  pub can_check : CanCheck m kept
  can_check = record { j = j; cpus = cpus; past = before_place entries i; checked = checked }

  history : MachineHistory j (before_place entries i)
  history = keeps_all j cpus (state_of m) (before_place entries i) (made_by j.key (before_place entries i)) checked.stands

  module _ (d : Entry) (within : i < length entries) (t : Parts) (after : Records) (broken : Option Rule)
      (told : (can : CanCheck m kept) → IsAnswered can.j can.cpus can.past m (get_or entries i d) t after broken) where
    answered : IsAnswered j cpus (before_place entries i) m (get_or entries i d) t after broken
    unfolding can_check
    answered = told can_check

    -- it keeps the processor's rules
    pub taken_at : broken ≡ None → Checked j cpus (before_place entries (i + 1)) t after
    taken_at none =
        let taken : IsTakenWith j cpus (before_place entries i) m (get_or entries i d) t after =
        subst (IsAnswered j cpus (before_place entries i) m (get_or entries i d) t after) none answered in
        subst (λ past. Checked j cpus past t after) (sym (newest-more entries i d within)) taken.checked

    -- it breaks one, which is neither Fits nor Stale
    pub named_at : (rule : Rule) → broken ≡ Some rule → is_named rule ≡ true
    named_at rule some =
        never_first j cpus (state_of m) (before_place entries i) checked.stands (get_or entries i d) rule
        (subst (IsAnswered j cpus (before_place entries i) m (get_or entries i d) t after) some answered)

    -- .. and one fails first
    pub fault_at : (rule : Rule) → broken ≡ Some rule → FailsFirstAmong is_machines j (reverse entries) i rule
    fault_at rule some = record {
      past = before_place entries i;
      next = Some (get_or entries i d);
      is_place = (
        reverse (drop (i + 1) entries),
        sym (ap reverse (take-append-drop (i + 1) entries)) ∙ reverse-append (take (i + 1) entries) (drop (i + 1) entries)
            ∙ ap (λ t. reverse (drop (i + 1) entries) ++ t) (newest-more entries i d within),
      );
      placed = let one = length-reverse (take i entries) in let two = length-take i entries in omega (arith, one, two, within);
      before = kept-before j (before_place entries i) history;
      here = subst (IsAnswered j cpus (before_place entries i) m (get_or entries i d) t after) some answered;
    }

  -- ---- the end

  pub kept_throughout : length entries ≤ i → MachineHistory j (reverse entries)
  kept_throughout over = subst (MachineHistory j) (ap reverse (take_all i entries over)) history
