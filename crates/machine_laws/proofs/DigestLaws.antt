-- The digest with which an enclave was initialised is its measurement for ever: nothing is logged once it is initialised.
use Rattle.std.proofs.Common.{◌≡◌, ℕ, ◌==◌, ◌++◌, Bool, true, false, cond, refl, sym, ap, ◌∙◌, subst, Option, Some, None, List}
use Rattle.std.proofs.Common.{[], ◌∷◌, is_some}
use Rattle.std.proofs.lemmas.Bool.{eqb-true, eq-eqb, false≢true}
use Rattle.sgx_rules.specs.declared.entries.Action.TheVariants.{Create, Add, Extend, Init}
use Rattle.sgx_types.specs.declared.names.Actor.{Actor}
use Rattle.sgx_rules.specs.declared.entries.Entry.{Entry}
use Rattle.sgx_rules.specs.declared.entries.Event.{Event}
use Rattle.sgx_rules.specs.declared.entries.Event.TheVariants.{Did}
use Rattle.sgx_types.specs.declared.lawful.PageInit.{PageInit}
use Rattle.sgx_types.specs.declared.names.Kind.{Kind}
use Rattle.sgx_types.specs.declared.names.Perm.{Perm}
use Rattle.sgx_rules.specs.inner.Enclaves.{created}
use Rattle.sgx_rules.specs.Flat.{FlatEnclave, enclave_sight, enclave_sight_of, flat, as_initialised}
use Rattle.sgx_rules.specs.Frames.{Content, Free, IsVa, SecsOf, Holds, IsLoading, content, enclave_in}
use Rattle.sgx_types.specs.Layouts.{zeros}
use Rattle.sgx_types.specs.Making.{Making}
use Rattle.sgx_rules.specs.PageBytes.{digest_after, digest_of}
use Rattle.sgx_rules.specs.Rules.{Along, RefusalRule}
use Rattle.sgx_rules.specs.Sights.{is_closed, row_at, secs_sight_at, sight_at}
use Rattle.sgx_rules.specs.Table.{EnclaveSight, FrameSight, SecsSight, add_row, is_ready}
use Rattle.sgx_rules.proofs.Rows.{NoneHolds, none_holds}
use Rattle.sgx_types.proofs.Truths.{apart}
use Rattle.measure_log.specs.Rule.{MeasureRule, log, measurement}
use Rattle.measure_log.specs.Measure.{measurement_of}
use Rattle.machine_copies.proofs.OpenStarts.{entry_of}
use Rattle.machine_copies.proofs.ThereLaws.{created_there}

-- an enclave that was initialised has the digest of its log
abbrev pub HasDigest : List Entry → ℕ → Type 0
HasDigest past e = (x : FlatEnclave) → created past e ≡ Some x → x.is_init ≡ true → digest_of past e ≡ measurement past e

-- the row of `add` asks that the enclave is not initialised
add_open_enclave : (number : ℕ) (kind : Kind) (perm : Perm) (init : PageInit) (x : EnclaveSight) (secs : SecsSight) (is_added : Bool)
    (s : FrameSight)
    → NoneHolds (add_row number kind perm init (Some x) secs is_added s) → x.is_init ≡ false
add_open_enclave number kind perm init x secs is_added s row = row.1.1.1.0

module _ (k : Making) (past : List Entry) (a : Actor) (e : ℕ) (refusals : Along (RefusalRule k) past) (h : HasDigest past e) where
  -- a log that gets a block of another enclave stays
  log_same : (other : ℕ) (block : List ℕ) → (other ≡ e → ⊥)
      → cond (other == e) (log past e ++ block) (log past e) ≡ log past e
  log_same other block not_this = rw (apart other e not_this) refl

  -- an enclave is not initialised and not yet
  sight_there : (x : FlatEnclave) → created past e ≡ Some x
      → enclave_sight (flat past) e ≡ Some (record { size = x.size; is_init = x.is_init })
  sight_there x is = ap enclave_sight_of (sym (created_there k past refusals e) ∙ is)

  digest_next : (event : Event) → RefusalRule k past (entry_of a event) → MeasureRule past (entry_of a event)
      → HasDigest (entry_of a event ∷ past) e
  digest_next (Did (Create other f base size) answer) refusal measure x is ready = by_test (e == other) refl is
    where
      by_test : (b : Bool) → (e == other) ≡ b
          → cond b (Some (record { base = base; size = size; is_init = false })) (created past e) ≡ Some x
          → digest_of past e ≡ measurement (entry_of a (Did (Create other f base size) answer) ∷ past) e
      by_test true same made = let none : false ≡ x.is_init = cc made in absurd (false≢true (none ∙ ready))
      by_test false not_this made =
          h x made ready ∙ sym (ap measurement_of (log_same other _ (λ same. false≢true (sym not_this ∙ rw same (eq-eqb e e refl)))))
  digest_next (Did (Init other expect) answer) refusal measure x is ready =
      subst (λ r. digest_after (Did (Init other expect) r) e (digest_of past e) ≡ measurement past e) (sym measure.0)
      (by_test (other == e) refl (e == other) refl is)
    where
      by_test : (b : Bool) → (other == e) ≡ b → (d : Bool) → (e == other) ≡ d
          → cond d (as_initialised (created past e)) (created past e) ≡ Some x
          → cond b (measurement past other) (digest_of past e) ≡ measurement past e
      by_test true same d other_way made = ap (measurement past) (eqb-true other e same)
      by_test false not_this true same made = absurd (false≢true (sym not_this ∙ eq-eqb other e (sym (eqb-true e other same))))
      by_test false not_this false other_way made = h x made ready
  digest_next (Did (Add other number f kind perm init) answer) refusal measure x is ready =
      h x is ready ∙ sym (ap measurement_of (log_same other _ not_this))
    where
      not_this : other ≡ e → ⊥
      not_this same =
          let row = none_holds (row_at k past a (Add other number f kind perm init)) refusal.0 in
          let sight = ap (enclave_sight (flat past)) same ∙ sight_there x is in
          let closed = add_open_enclave number kind perm init _ (secs_sight_at k.frames past other) _ (sight_at k.frames past f.0)
          (rw sight at row) in
          false≢true (sym closed ∙ ready)
  digest_next (Did (Extend f chunk) answer) refusal measure x is ready = h x is ready
      ∙ sym (ap measurement_of (same_log (content past f.0) refl))
    where
      row : NoneHolds (row_at k past a (Extend f chunk))
      row = none_holds (row_at k past a (Extend f chunk)) refusal.0

      same_log : (c : Content) → content past f.0 ≡ c
          → log (entry_of a (Did (Extend f chunk) answer) ∷ past) e ≡ log past e
      same_log Free held = rw held refl
      same_log (IsVa number) held = rw held refl
      same_log (SecsOf enclave) held = rw held refl
      same_log (IsLoading page) held = rw held refl
      same_log (Holds page kind perm) held = rw held (log_same page.enclave _ not_this)
        where
          not_this : page.enclave ≡ e → ⊥
          not_this same =
              let sight : enclave_sight (flat past) page.enclave ≡ Some (record { size = x.size; is_init = x.is_init }) =
              ap (enclave_sight (flat past)) same ∙ sight_there x is in
              let closed : is_closed (flat past) (enclave_in (content past f.0)) ≡ true =
              ap (λ c. is_closed (flat past) (enclave_in c)) held ∙ ap is_ready sight ∙ ready in
              false≢true (sym row.1.1.1.1.0 ∙ closed)
  digest_next event refusal measure x is ready = h x is ready

-- so the digest of an initialised enclave is its measurement
pub digest_is : (k : Making) (past : List Entry) → Along (RefusalRule k) past → Along MeasureRule past → (e : ℕ) → HasDigest past e
digest_is k [] refusals measures e = λ x is ready. cc is
digest_is k (entry ∷ past) refusals measures e =
    digest_next k past entry.actor e refusals.1 (digest_is k past refusals.1 measures.1 e) entry.event refusals.0 measures.0

-- ---- before

abbrev is_initialised : Option FlatEnclave → Bool
is_initialised None = false
is_initialised (Some x) = x.is_init

-- an enclave that is not initialised has the digest zero
abbrev HasNone : List Entry → ℕ → Type 0
HasNone past e = is_initialised (created past e) ≡ false → digest_of past e ≡ zeros 32

module _ (k : Making) (past : List Entry) (a : Actor) (e : ℕ) (refusals : Along (RefusalRule k) past) (h : HasNone past e) where
  never_made : (o : Option FlatEnclave) → is_some o ≡ false → is_initialised o ≡ false
  never_made None is = refl
  never_made (Some x) is = cc is

  none_next : (event : Event) → RefusalRule k past (entry_of a event) → HasNone (entry_of a event ∷ past) e
  none_next (Did (Create other f base size) answer) refusal still = by_test (e == other) refl still
    where
      by_test : (b : Bool) → (e == other) ≡ b
          → is_initialised (cond b (Some (record { base = base; size = size; is_init = false })) (created past e)) ≡ false
          → digest_of past e ≡ zeros 32
      by_test true same still =
          let row = none_holds (row_at k past a (Create other f base size)) refusal.0 in
          let none : is_some (created past e) ≡ false = ap is_some (created_there k past refusals e)
          ∙ ap (λ n. is_some ((flat past).enclaves n)) (eqb-true e other same) ∙ row.1.0 in
          h (never_made (created past e) none)
      by_test false other_one still = h still
  none_next (Did (Init other expect) answer) refusal still =
      subst (λ r. digest_after (Did (Init other expect) r) e (digest_of past e) ≡ zeros 32) (sym refusal.1.1)
      (by_test (other == e) refl (e == other) refl (created past e) refl still)
    where
      by_test : (b : Bool) → (other == e) ≡ b → (d : Bool) → (e == other) ≡ d → (o : Option FlatEnclave) → created past e ≡ o
          → is_initialised (cond d (as_initialised o) o) ≡ false → cond b refusal.1.0 (digest_of past e) ≡ zeros 32
      by_test true same d back None made still =
          let none : (flat past).enclaves other ≡ None = ap (flat past).enclaves (eqb-true other e same)
          ∙ sym (created_there k past refusals e) ∙ made in
          let row = none_holds (row_at k past a (Init other expect)) refusal.0 in
          absurd (false≢true (sym (rw none at row).0))
      by_test true same true back (Some x) made still = absurd (false≢true (sym still))
      by_test true same false back (Some x) made still =
          absurd (false≢true (sym back ∙ eq-eqb e other (sym (eqb-true other e same))))
      by_test false not_this true back o made still =
          absurd (false≢true (sym not_this ∙ eq-eqb other e (sym (eqb-true e other back))))
      by_test false not_this false back o made still = h (ap is_initialised made ∙ still)
  none_next event refusal still = h still

none_before : (k : Making) (past : List Entry) → Along (RefusalRule k) past → (e : ℕ) → HasNone past e
none_before k [] refusals e = λ still. refl
none_before k (entry ∷ past) refusals e =
    none_next k past entry.actor e refusals.1 (none_before k past refusals.1 e) entry.event refusals.0

pub undigested : (k : Making) (past : List Entry) (e : ℕ) (x : FlatEnclave) → Along (RefusalRule k) past → created past e ≡ Some x
    → x.is_init ≡ false → digest_of past e ≡ zeros 32
undigested k past e x refusals made still = none_before k past refusals e (ap is_initialised made ∙ still)
