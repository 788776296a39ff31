-- The end of a load carries the standing on, where no record was forged: the record at which it looks is the one that the store gave for
-- its start, and the start is the machine's.
use Rattle.std.proofs.Common.{◌≡◌, ℕ, Bool, true, false, refl, sym, ◌∙◌, ap, subst, List, [], ◌∷◌, ◌++◌, Option}
use Rattle.std.proofs.Common.{Some, None, MatchOption}
use Rattle.std.proofs.lemmas.List.{append-nil}
use Rattle.sgx_rules.specs.declared.entries.Action.TheVariants.{Eld}
use Rattle.sgx_types.specs.declared.names.Actor.TheVariants as actors
use Rattle.sgx_rules.specs.declared.entries.Answer.TheVariants.{Moved}
use Rattle.sgx_rules.specs.declared.entries.Entry.{Entry}
use Rattle.sgx_types.specs.declared.names.Cpu.{Cpu}
use Rattle.sgx_types.specs.declared.names.Frame.{Frame}
use Rattle.sgx_types.specs.declared.names.Page.{Page}
use Rattle.sgx_rules.specs.declared.refusals.Refusal.{Refusal}
use Rattle.sgx_types.specs.Making.{Making}
use Rattle.sgx_types.specs.Sealed.{Sealed}
use Rattle.sgx_rules.specs.Starts.{Start, open_start}
use Rattle.sgx_rules.specs.inner.Starts.{bare_start}
use Rattle.sgx_types.specs.Cases.{first_of_row}
use Rattle.job_grammar.specs.Jobs.{JobView}
use Rattle.seal_record.specs.Records.{Made, Unforged}
use Rattle.backing_store.specs.Calls.{Call}
use Rattle.machine_laws.specs.inner.Histories as laws
use Rattle.machine_laws.specs.inner.Histories.{StandsWithAllRules}
use Rattle.machine_laws.specs.inner.State.{State}
use Rattle.machine_laws.specs.inner.Steps.{IsReloaded, commit_row, did_by, refused_by}
use Rattle.machine_laws.proofs.ColumnLaws.{start_is}
use Rattle.sgx_machine.specs.inner.Parts.{Parts, state_of}
use Rattle.driver_list.specs.inner.Keeping.{record_kept}
use Rattle.driver_rules.specs.inner.Reclaims.{is_refused}
use Rattle.driver_rules.specs.Turns.{Loads, last_of}
use Rattle.driver_tables.specs.declared.driver.Driver.{Driver}
use Rattle.driver_tables.specs.inner.Agrees.{Agrees}
use Rattle.driver_faults.specs.declared.answers.Loaded.{Loaded}
use Rattle.driver_faults.specs.inner.Finishing.{CanFinish, IsFinished}
use Rattle.driver_faults.proofs.EndLaws.{end_frame}
use Rattle.history_rules.specs.Calls.{before}
use Rattle.history_rules.specs.Given.{UnforgedRun, gift, given_in, given_more, record_looked_at, made_in, made_more}
use Rattle.run_calls.specs.inner.Stores.{TellsStore}
use Rattle.run_laws.specs.inner.Books.{CarriesBytes}
use Rattle.run_laws.specs.inner.Loads.{entry_in}

-- ---- the entry

-- the end of a load into a frame makes no call and no record, and looks at the record that was given for it
record LooksAt (f : ℕ) (e : Entry) : Type 0 where
  earlier : (calls : List Call) → before e.event calls ≡ calls
  makes : (calls : List Call) → made_more e.event calls ≡ []
  looks : (opened : ℕ → Option Start) (records : List Made) (gifts : ℕ → Option Sealed)
      → given_more e.event opened records gifts ≡ record_looked_at (opened f) records (gifts f)

end_looks : (s t : State) (cpu : Cpu) (f : Frame) (rec : Sealed) (e : Entry) → IsReloaded s (actors.Cpu cpu) f rec e t → LooksAt f.0 e
end_looks s t cpu f rec e is = by_row _ _ (first_of_row (commit_row s f.0 is.coming rec)) is.row
  where
    by_row : (X : Type 0) (Y : Refusal → Type 0) (o : Option Refusal) → MatchOption o
        ((e ≡ did_by (actors.Cpu cpu) (Eld f) (Moved is.coming.page is.coming.start.version rec.tag)) × X)
        (λ refusal. (e ≡ refused_by (actors.Cpu cpu) (Eld f) refusal) × Y refusal) → LooksAt f.0 e
    by_row X Y None k =
        rw k.0 record { earlier = λ calls. refl; makes = λ calls. refl; looks = λ opened records gifts. refl }
    by_row X Y (Some refusal) k =
        rw k.0 record { earlier = λ calls. refl; makes = λ calls. refl; looks = λ opened records gifts. refl }

-- a record that was given is looked at in the machine's words as in those of the run
same_look : (o : Option Start) (records : List Made) (rec : Sealed) → record_looked_at o records (Some rec)
    ≡ laws.looked_at_by (bare_start o) records rec
same_look None records rec = refl
same_look (Some start) records rec = refl

-- ---- the standing

module _ (made : Making) (j : JobView) (past : List Entry) (calls : List Call) (d d' : Driver) (m m' : Parts) (cpu : Cpu) (page : Page)
    (n : ℕ) (loaded : Loaded) (can : CanFinish cpu page d m) (r : Agrees made j past d m) (key : made.key ≡ j.key)
    (store : TellsStore j.key past calls d) (last : last_of past cpu.0 ≡ Loads n page)
    (is : IsFinished cpu page can.slot can.frame can.kept d (state_of m) loaded d' (state_of m')) where
  -- the load is into the frame that the processor's last entry names
  frame_is : n ≡ can.frame.0
  frame_is = end_frame made j past d m r cpu page n last can

  -- the kept record is the one that the store gave
  gift_is : gift past calls can.frame.0 ≡ Some can.kept
  gift_is =
      ap (gift past calls) (sym frame_is) ∙ sym (store.gifts cpu.0 n page last) ∙ ap record_kept can.copy

  entry : LooksAt can.frame.0 is.entry
  entry = end_looks (state_of m) (state_of m') cpu can.frame can.kept is.entry is.reloaded

  made_same : made_in (is.entry ∷ past) calls ≡ made_in past calls
  made_same =
      ap (λ c. made_in past c ++ made_more is.entry.event calls) (entry.earlier calls)
      ∙ ap (λ more. made_in past calls ++ more) (entry.makes calls) ∙ append-nil (made_in past calls)

  looked_same : given_more is.entry.event (open_start past) (made_in past calls) (gift past calls)
      ≡ laws.looked_at (state_of m) can.frame.0 (made_in past calls) can.kept
  looked_same =
      entry.looks (open_start past) (made_in past calls) (gift past calls)
      ∙ ap (record_looked_at (open_start past can.frame.0) (made_in past calls)) gift_is
      ∙ same_look (open_start past can.frame.0) (made_in past calls) can.kept
      ∙ ap (λ o. laws.looked_at_by o (made_in past calls) can.kept) (sym (start_is r.follows.shape.columns can.frame.0))

  given_same : given_in (is.entry ∷ past) calls
      ≡ given_in past calls ++ laws.looked_at (state_of m) can.frame.0 (made_in past calls) can.kept
  given_same =
      ap (λ c. given_in past c ++ given_more is.entry.event (open_start past) (made_in past c) (gift past c)) (entry.earlier calls)
      ∙ ap (λ more. given_in past calls ++ more) looked_same

  unforged_with : UnforgedRun j.key (is.entry ∷ past) calls
      → Unforged made.key (made_in past calls)
      (given_in past calls ++ laws.looked_at (state_of m) can.frame.0 (made_in past calls) can.kept)
  unforged_with unforged =
      subst (λ k. Unforged k (made_in past calls)
      (given_in past calls ++ laws.looked_at (state_of m) can.frame.0 (made_in past calls) can.kept)) (sym key)
      (subst (λ given. Unforged j.key (made_in past calls) given) given_same
      (subst (λ records. Unforged j.key records (given_in (is.entry ∷ past) calls)) made_same unforged))

  carried : CarriesBytes made j past m is.entry m' calls
  carried unforged stands =
      subst (λ records. StandsWithAllRules made (state_of m') (is.entry ∷ past) records) (sym made_same)
      (is.carries.history made past (made_in past calls) (given_in past calls)
      (subst (λ c. StandsWithAllRules made (state_of m) past (made_in past c)) (entry.earlier calls) stands) (unforged_with unforged))

  entry_is : entry_in loaded ≡ is.entry
  entry_is = by_refused (is_refused is.entry.event) refl
    where
      by_refused : (b : Bool) → is_refused is.entry.event ≡ b → entry_in loaded ≡ is.entry
      by_refused true refused = ap entry_in (is.ends.0 refused).0
      by_refused false done = ap entry_in (is.ends.1 done).0

  pub end_bytes : CarriesBytes made j past m (entry_in loaded) m' calls
  end_bytes = subst (λ e. CarriesBytes made j past m e m' calls) (sym entry_is) carried
