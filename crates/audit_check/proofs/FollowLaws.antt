-- Where a machine stands for the entries so far, an entry that keeps Refusal keeps Fits and Stale too. So neither fails first.
use Rattle.std.specs.Prelude.{◌/◌}
use Rattle.std.proofs.Common.{◌≡◌, ℕ, ◌<◌, ◌||◌, not, Bool, true, false, leb, ltb, refl, sym, ap, arith, List, Option, Some, None}
use Rattle.std.proofs.Common.{is_none, is_some, if◌then◌else◌}
use Rattle.std.proofs.lemmas.Bool.{false≢true, leb-false}
use Rattle.sgx_types.specs.declared.names.Actor.{Actor}
use Rattle.sgx_types.specs.declared.names.Actor.TheVariants as actors
use Rattle.sgx_types.specs.declared.names.Kind.{Kind}
use Rattle.sgx_types.specs.declared.names.Perm.{Perm}
use Rattle.sgx_types.specs.declared.lawful.PageInit.{PageInit}
use Rattle.sgx_types.specs.Lawful.{is_enclave, is_lawful}
use Rattle.sgx_types.specs.Making.{Making}
use Rattle.sgx_types.proofs.Truths.{neither}
use Rattle.sgx_rules.specs.declared.entries.Action.{Action}
use Rattle.sgx_rules.specs.declared.entries.Action.TheVariants.{Add, Block, Create, Eld, EldStart, Enter, Epa, Ewb, EwbStart, Extend, Fill}
use Rattle.sgx_rules.specs.declared.entries.Action.TheVariants.{Load, Resume, Store, Xadd}
use Rattle.sgx_rules.specs.declared.entries.Entry.{Entry}
use Rattle.sgx_rules.specs.declared.entries.Event.{Event}
use Rattle.sgx_rules.specs.declared.entries.Event.TheVariants.{Did}
use Rattle.sgx_rules.specs.Flat.{enclave_sight, flat}
use Rattle.sgx_rules.specs.Frames.{content}
use Rattle.sgx_rules.specs.Processors.{Stay, holds_number, stay, translations}
use Rattle.sgx_rules.specs.Rules.{Along, FitsRule, HoldsPageAt, NamesFrames, NoPageTwice, NoneStale, RefusalRule, StaleRule, TakesFree}
use Rattle.sgx_rules.specs.inner.Rules.{KeepsRules}
use Rattle.sgx_rules.specs.Sights.{enclave_of_stay, row_at, secs_sight_at, sight_at, stay_of, translation_at, translation_by}
use Rattle.sgx_rules.specs.Slots.{is_busy_at}
use Rattle.sgx_rules.specs.Table.{EnclaveSight, SecsSight, access_row, add_row, fill_row, is_busy}
use Rattle.sgx_rules.proofs.Contents.{free_there}
use Rattle.sgx_rules.proofs.Rows.{NoneHolds, none_holds, start_names}
use Rattle.seal_record.specs.inner.Sealing.{made_by}
use Rattle.machine_copies.proofs.StartLaws.{add_free}
use Rattle.job_grammar.specs.Jobs.{JobView}
use Rattle.script_rules.specs.Machines.{machine_of}
use Rattle.machine_laws.specs.inner.Histories.{StandsWithAllRules}
use Rattle.machine_laws.specs.inner.State.{State}
use Rattle.machine_laws.proofs.FrameLaws.{open_below}
use Rattle.machine_laws.proofs.TestLaws.{last_place}
use Rattle.history_rules.specs.declared.rules.Rule.{Rule}
use Rattle.history_rules.specs.declared.rules.Rule.TheVariants as rules
use Rattle.history_rules.specs.Histories.{RuleSays}
use Rattle.history_rules.specs.inner.Histories.{is_machines}
use Rattle.history_machine.specs.Histories.{FailsAmong}
use Rattle.audit_machine.specs.inner.Asked.{made_for}
use Rattle.audit_machine.proofs.KeptLaws.{own_rules}
use Rattle.audit_check.specs.inner.Named.{is_named}
use Rattle.audit_check.specs.inner.Tests.{is_commit}

-- ---- frames

module _ (k : Making) (past : List Entry) (a : Actor) where
  add_within : (number : ℕ) (kind : Kind) (perm : Perm) (init : PageInit) (o : Option EnclaveSight) (secs : SecsSight) (is_added : Bool)
      (f : ℕ) → NoneHolds (add_row number kind perm init o secs is_added (sight_at k.frames past f)) → f < k.frames
  add_within number kind perm init None secs is_added f row = leb-false _ _ row.0
  add_within number kind perm init (Some enclave) secs is_added f row = leb-false _ _ row.0

  fill_within : (number : ℕ) (o : Option ℕ) (f : ℕ) → NoneHolds (fill_row number o (sight_at k.frames past f)) → f < k.frames
  fill_within number None f row = absurd (false≢true (sym row.0))
  fill_within number (Some enclave) f row = leb-false _ _ row.0

  -- what a row allows names frames of the EPC, and takes a free one
  row_fits : (action : Action) → is_commit action ≡ false → NoneHolds (row_at k past a action)
      → NamesFrames k.frames action × TakesFree past action
  row_fits (Epa f) plain row = (leb-false _ _ row.0, free_there (content past f.0) _ row.1.0 row.1.1.0)
  row_fits (Create enclave f base size) plain row =
      let range = neither (leb k.frames f.0) (not (is_enclave enclave))
      (neither (leb k.frames f.0 || not (is_enclave enclave)) (not (is_lawful base size)) row.0).0 in
      (leb-false _ _ range.0, free_there (content past f.0) _ row.1.1.0 row.1.1.1.0)
  row_fits (Add enclave number f kind perm init) plain row = (
    add_within number kind perm init (enclave_sight (flat past) enclave) (secs_sight_at k.frames past enclave) _ f.0 row,
    add_free past f.0 number kind perm init (enclave_sight (flat past) enclave) (secs_sight_at k.frames past enclave) _ k.frames row,
  )
  row_fits (Extend f chunk) plain row = (leb-false _ _ (neither (leb k.frames f.0) (ltb 15 chunk) row.0).0, tt)
  row_fits (Enter enclave tcs tf sf) plain row =
      let within = neither (leb k.frames tf.0) (leb k.frames sf.0) row.1.0 in
      ((leb-false _ _ within.0, leb-false _ _ within.1), tt)
  row_fits (Resume enclave tcs tf sf) plain row =
      let within = neither (leb k.frames tf.0) (leb k.frames sf.0) row.1.0 in
      ((leb-false _ _ within.0, leb-false _ _ within.1), tt)
  row_fits (Fill number f) plain row = (fill_within number (enclave_of_stay (stay_of past a)) f.0 row, tt)
  row_fits (Block f) plain row = (leb-false _ _ row.0, tt)
  row_fits (EwbStart f slot) plain row = (start_names k.frames f.0 slot.frame.0 (ltb 511 slot.index) row.0, tt)
  row_fits (EldStart f page slot) plain row =
      let idle = neither (is_busy (sight_at k.frames past f.0)) (is_busy_at k.frames past slot) row.1.1.1.1.0 in
      (start_names k.frames f.0 slot.frame.0 (ltb 511 slot.index) row.0, free_there (content past f.0) _ idle.0 row.1.1.1.1.1.0)
  row_fits (Ewb f) plain row = cc plain
  row_fits (Eld f) plain row = cc plain
  row_fits _ plain row = (tt, tt)

  fits_too : (event : Event) → Along (FitsRule k.frames) past → RefusalRule k past (record { actor = a; event = event })
      → FitsRule k.frames past (record { actor = a; event = event })
  fits_too (Did (Ewb f) answer) fits refusal = (open_below k.frames past f.0 fits (ap is_some refusal.1.opened), tt)
  fits_too (Did (Eld f) answer) fits refusal = (open_below k.frames past f.0 fits (ap is_some refusal.1.ends.opened), tt)
  fits_too (Did action answer) fits refusal = row_fits action refl (none_holds (row_at k past a action) refusal.0)
  fits_too event fits refusal = tt

-- ---- translations

-- a translation is held of the page of an access that its row allows
access_held : (past : List Entry) (a : Actor) (off : ℕ) (is_allowed : Bool)
    → NoneHolds (access_row off (is_some (stay_of past a)) (translation_by past a (off / 4096)) is_allowed) → HoldsPageAt past a off
access_held past (actors.Cpu p) off is_allowed row = by_stay (stay past p.0) row.1.1.0
  where
    by_test : (b : Bool) (o : Option Perm) → is_none (if b then o else None) ≡ false → b ≡ true
    by_test true o some = refl
    by_test false o some = cc some

    by_stay : (o : Option Stay) → is_none (translation_at past p.0 o (off / 4096)) ≡ false
        → holds_number (translations past p.0) (off / 4096) ≡ true
    by_stay None some = cc some
    by_stay (Some s) some = by_test (holds_number (translations past p.0) (off / 4096)) _ some
access_held past actors.Builder off is_allowed row = absurd (false≢true (sym row.1.1.0))
access_held past actors.Reclaimer off is_allowed row = absurd (false≢true (sym row.1.1.0))

stale_too : (k : Making) (past : List Entry) (a : Actor) (event : Event) → RefusalRule k past (record { actor = a; event = event })
    → StaleRule past (record { actor = a; event = event })
stale_too k past a (Did (Load off) answer) refusal = access_held past a off _ (none_holds (row_at k past a (Load off)) refusal.0)
stale_too k past a (Did (Store off value) answer) refusal =
    access_held past a off _ (none_holds (row_at k past a (Store off value)) refusal.0)
stale_too k past a (Did (Xadd off value) answer) refusal =
    access_held past a off _ (none_holds (row_at k past a (Xadd off value)) refusal.0)
stale_too k past a event refusal = tt

-- ---- neither fails first

module _ (j : JobView) (cpus : ℕ) (s : State) (past : List Entry)
    (stands : StandsWithAllRules (made_for j cpus) s past (made_by j.key past)) where
  kept : KeepsRules (made_for j cpus) past
  kept = own_rules (made_for j cpus) s past (made_by j.key past) stands

  pub fits_follows : (e : Entry) → RuleSays j rules.Refusal past (Some e) → RuleSays j rules.Fits past (Some e)
  fits_follows e refusal = (
    fits_too (machine_of j) past e.actor e.event kept.fits.entries refusal,
    last_place NoPageTwice past kept.fits.pages,
  )

  pub stale_follows : (e : Entry) → RuleSays j rules.Refusal past (Some e) → RuleSays j rules.Stale past (Some e)
  stale_follows e refusal = (stale_too (machine_of j) past e.actor e.event refusal, last_place NoneStale past kept.stale.places)

  pub never_first : (e : Entry) (rule : Rule) → FailsAmong is_machines j past (Some e) rule → is_named rule ≡ true
  never_first e rules.Fits fails = absurd (fails.fails (fits_follows e (fails.earlier rules.Refusal refl (omega (arith)))))
  never_first e rules.Stale fails = absurd (fails.fails (stale_follows e (fails.earlier rules.Refusal refl (omega (arith)))))
  never_first e rule fails = refl
