-- Two ends of one write-out, and two of one load: which rule the one breaks that is not the machine's.
use Rattle.std.specs.Prelude.{◌==◌, if◌then◌else◌}
use Rattle.std.proofs.Common.{◌≡◌, ℕ, true, false, refl, sym, ap, subst, ◌∙◌, ◌⊎◌, inl, inr, List, Option, Some}
use Rattle.std.proofs.lemmas.Bool.{eqb-true, eq-eqb, false≢true}
use Rattle.std.proofs.lemmas.Option.{same_Some}
use Rattle.sgx_rules.specs.declared.entries.Entry.{Entry}
use Rattle.sgx_rules.specs.declared.entries.Event.TheVariants.{Did}
use Rattle.sgx_types.specs.declared.names.Actor.{Actor}
use Rattle.sgx_rules.specs.declared.entries.Action.TheVariants.{Ewb, Eld}
use Rattle.sgx_rules.specs.declared.entries.Answer.{Answer}
use Rattle.sgx_rules.specs.declared.entries.Answer.TheVariants as answers
use Rattle.sgx_types.specs.declared.names.Frame.{Frame}
use Rattle.sgx_types.specs.declared.names.Page.{Page}
use Rattle.sgx_rules.specs.Ends.{EndsIn, EndsOut, IsBack}
use Rattle.sgx_rules.specs.Fresh.{IsLastOut}
use Rattle.sgx_types.specs.Pages.{same_page}
use Rattle.sgx_rules.specs.Rules.{EndsWriteOut}
use Rattle.sgx_types.specs.Sealed.{Sealed}
use Rattle.sgx_rules.specs.Starts.{Start, open_start}
use Rattle.sgx_types.proofs.Pages.{same_pages, same_page-refl}
use Rattle.sgx_types.proofs.Truths.{tested}
use Rattle.seal_record.specs.Sealing.{IsSealed}
use Rattle.job_grammar.specs.Jobs.{JobView}
use Rattle.history_rules.specs.declared.rules.Rule.TheVariants as rules
use Rattle.history_rules.specs.inner.Histories.{is_machines}
use Rattle.history_machine.specs.Histories.{FailsAmong}
use Rattle.audit_machine.specs.inner.Rivals.{KeepsMachines, rule_back, rule_out}
use Rattle.audit_machine.proofs.OrderLaws.{evict_fails, fresh_fails, refusal_fails, sealed_fails}

-- ---- what a place has one of

moved-page : {g h : Page} {v w : ℕ} {s t : List ℕ} → answers.Moved g v s ≡ answers.Moved h w t → g ≡ h
moved-page e = cc

out-page : (past : List Entry) (n : ℕ) (g h : Page) (v w : ℕ) (s t : List ℕ) → EndsOut past n (answers.Moved g v s)
    → EndsOut past n (answers.Moved h w t) → g ≡ h
out-page past n g h v w s t one other =
    moved-page one.told ∙ same_Some _ _ (sym one.held ∙ other.held) ∙ sym (moved-page other.told)

back-page : (past : List Entry) (n : ℕ) (g h : Page) (v w : ℕ) (s t : List ℕ) → IsBack past n (answers.Moved g v s)
    → IsBack past n (answers.Moved h w t) → g ≡ h
back-page past n g h v w s t one other =
    moved-page one.told
    ∙ same_Some _ _ (sym one.ends.loads
    ∙ ap (λ (x : Start). x.loads) (same_Some _ _ (sym one.ends.opened ∙ other.ends.opened)) ∙ other.ends.loads)
    ∙ sym (moved-page other.told)

write-out-version : (o : Option Start) (v w : ℕ) → EndsWriteOut o v → EndsWriteOut o w → v ≡ w
write-out-version o v w one other =
    sym one.told ∙ ap (λ (x : Start). x.version) (same_Some _ _ (sym one.opened ∙ other.opened)) ∙ other.told

module _ (j : JobView) (past : List Entry) (actor : Actor) (f : Frame) where
  abbrev out : Answer → Entry
  out answer = record { actor = actor; event = Did (Ewb f) answer }

  abbrev back : Answer → Entry
  back answer = record { actor = actor; event = Did (Eld f) answer }

  -- ---- a write-out

  module _ (g : Page) (v : ℕ) (t : List ℕ) (keeps : KeepsMachines j past (out (answers.Moved g v t))) where
    ends : EndsOut past f.0 (answers.Moved g v t)
    ends = (keeps.each rules.Refusal refl).1

    own-page : (version : ℕ) (tag : List ℕ) → EndsOut past f.0 (answers.Moved g version tag)
    own-page version tag = record {
      page = g;
      held = ends.held ∙ ap Some (sym (moved-page ends.told));
      start = ends.start;
      opened = ends.opened;
      writes = ends.writes;
      version = version;
      tag = tag;
      told = refl;
    }

    of-version : (version : ℕ) (tag : List ℕ) → (version ≡ v → ⊥)
        → FailsAmong is_machines j past (Some (out (answers.Moved g version tag))) rules.Evict
    of-version version tag other =
        evict_fails j past (out (answers.Moved g version tag)) (refl, own-page version tag) (λ seen. absurd cc)
        (keeps.each rules.Fits refl)
        (keeps.each rules.Stale refl) (λ h. other (write-out-version (open_start past f.0) version v h (keeps.each rules.Evict refl)))

    of-tag : (tag : List ℕ) → (tag ≡ t → ⊥)
        → FailsAmong is_machines j past (Some (out (answers.Moved g v tag))) rules.Sealed
    of-tag tag other =
        sealed_fails j past (out (answers.Moved g v tag)) (refl, own-page v tag) (λ seen. absurd cc) (keeps.each rules.Fits refl)
        (keeps.each rules.Stale refl) (keeps.each rules.Evict refl) (record { rising = tt; reload = tt })
        (λ h. other (told h))
      where
        mine : IsSealed j.key past g v t
        mine = keeps.each rules.Sealed refl

        told : IsSealed j.key past g v tag → tag ≡ t
        told h = h.told ∙ ap (λ (x : Sealed). x.tag) (same_Some _ _ (sym h.made ∙ mine.made)) ∙ sym mine.told

    of-page : (page : Page) (version : ℕ) (tag : List ℕ) → (page ≡ g → ⊥)
        → FailsAmong is_machines j past (Some (out (answers.Moved page version tag))) rules.Refusal
    of-page page version tag other =
        refusal_fails j past (out (answers.Moved page version tag)) (λ h. other (out-page past f.0 page g version v tag t h.1 ends))

    at-version : (version : ℕ) (tag : List ℕ) → version ≡ v → (answers.Moved g version tag ≡ answers.Moved g v t → ⊥)
        → FailsAmong is_machines j past (Some (out (answers.Moved g version tag))) rules.Sealed
    at-version version tag same = subst Says_of (sym same) (λ other. of-tag tag (λ e. other (ap (answers.Moved g v) e)))
      where
        Says_of : ℕ → Type 0
        Says_of w = (answers.Moved g w tag ≡ answers.Moved g v t → ⊥)
            → FailsAmong is_machines j past (Some (out (answers.Moved g w tag))) rules.Sealed

    at-page : (version : ℕ) (tag : List ℕ) → (answers.Moved g version tag ≡ answers.Moved g v t → ⊥)
        → FailsAmong is_machines j past (Some (out (answers.Moved g version tag)))
        (rule_out (answers.Moved g version tag) (answers.Moved g v t))
    at-page version tag other = rw (same_page-refl g) (by_test (tested (version == v)))
      where
        by_test : ((version == v) ≡ true) ⊎ ((version == v) ≡ false)
            → FailsAmong is_machines j past (Some (out (answers.Moved g version tag))) (if version == v then rules.Sealed else rules.Evict)
        by_test (inl same) = rw same (at-version version tag (eqb-true version v same) other)
        by_test (inr differs) =
            rw differs (of-version version tag (λ e. false≢true (sym differs ∙ eq-eqb version v e)))

    moved-out : (page : Page) (version : ℕ) (tag : List ℕ) → (answers.Moved page version tag ≡ answers.Moved g v t → ⊥)
        → FailsAmong is_machines j past (Some (out (answers.Moved page version tag)))
        (rule_out (answers.Moved page version tag) (answers.Moved g v t))
    moved-out page version tag other = by_test (tested (same_page page g))
      where
        Says_of : Page → Type 0
        Says_of p = (answers.Moved p version tag ≡ answers.Moved g v t → ⊥)
            → FailsAmong is_machines j past (Some (out (answers.Moved p version tag)))
            (rule_out (answers.Moved p version tag) (answers.Moved g v t))

        by_test : (same_page page g ≡ true) ⊎ (same_page page g ≡ false)
            → FailsAmong is_machines j past (Some (out (answers.Moved page version tag)))
            (rule_out (answers.Moved page version tag) (answers.Moved g v t))
        by_test (inl same) = subst Says_of (sym (same_pages page g same)) (at-page version tag) other
        by_test (inr differs) =
            rw differs (of-page page version tag (λ e. false≢true
            (sym differs ∙ subst (λ x. same_page page x ≡ true) e (same_page-refl page))))

    -- an end that names nothing
    bare-out : (answer : Answer) → (EndsOut past f.0 answer → ⊥)
        → FailsAmong is_machines j past (Some (out answer)) rules.Refusal
    bare-out answer none = refusal_fails j past (out answer) (λ h. none h.1)

    out-other : (answer : Answer) → (answer ≡ answers.Moved g v t → ⊥)
        → FailsAmong is_machines j past (Some (out answer)) (rule_out answer (answers.Moved g v t))
    out-other (answers.Moved page version tag) other = moved-out page version tag other
    out-other answer other = bare-out answer (λ h. let e = h.told in cc)

  -- a write-out that the machine ends otherwise
  pub other_out : (answer right : Answer) → KeepsMachines j past (out right) → (answer ≡ right → ⊥)
      → FailsAmong is_machines j past (Some (out answer)) (rule_out answer right)
  other_out answer (answers.Moved g v t) keeps other = out-other g v t keeps answer other
  other_out answer right keeps other = absurd (let e = (keeps.each rules.Refusal refl).1.told in cc)

  -- ---- a load

  module _ (g : Page) (v : ℕ) (t : List ℕ) (keeps : KeepsMachines j past (back (answers.Moved g v t))) where
    is-back : IsBack past f.0 (answers.Moved g v t)
    is-back = (keeps.each rules.Refusal refl).1

    -- the page, with another version or another tag
    back-at-page : (version : ℕ) (tag : List ℕ) → (answers.Moved g version tag ≡ answers.Moved g v t → ⊥)
        → FailsAmong is_machines j past (Some (back (answers.Moved g version tag))) rules.Fresh
    back-at-page version tag other =
        fresh_fails j past (back (answers.Moved g version tag)) (refl, named) (λ seen. absurd cc) (keeps.each rules.Fits refl)
        (keeps.each rules.Stale refl) tt (λ h. other (same h.reload))
      where
        named : IsBack past f.0 (answers.Moved g version tag)
        named = record {
          page = g;
          ends = subst (λ (x : Page). EndsIn past f.0 x) (sym (moved-page is-back.told)) is-back.ends;
          version = version;
          tag = tag;
          told = refl;
        }

        mine : IsLastOut past f.0 g v t
        mine = (keeps.each rules.Fresh refl).reload

        same : IsLastOut past f.0 g version tag → answers.Moved g version tag ≡ answers.Moved g v t
        same h =
            let e = same_Some _ _ (sym h.last ∙ mine.last) in
            λ i. answers.Moved g ((e i).version) ((e i).tag)

    moved-back : (page : Page) (version : ℕ) (tag : List ℕ) → (answers.Moved page version tag ≡ answers.Moved g v t → ⊥)
        → FailsAmong is_machines j past (Some (back (answers.Moved page version tag)))
        (rule_back (answers.Moved page version tag) (answers.Moved g v t))
    moved-back page version tag other = by_test (tested (same_page page g))
      where
        Says_of : Page → Type 0
        Says_of p = (answers.Moved p version tag ≡ answers.Moved g v t → ⊥)
            → FailsAmong is_machines j past (Some (back (answers.Moved p version tag)))
            (rule_back (answers.Moved p version tag) (answers.Moved g v t))

        at-page : Says_of g
        at-page differs = rw (same_page-refl g) (back-at-page version tag differs)

        by_test : (same_page page g ≡ true) ⊎ (same_page page g ≡ false)
            → FailsAmong is_machines j past (Some (back (answers.Moved page version tag)))
            (rule_back (answers.Moved page version tag) (answers.Moved g v t))
        by_test (inl same) = subst Says_of (sym (same_pages page g same)) at-page other
        by_test (inr differs) =
            rw differs (refusal_fails j past (back (answers.Moved page version tag)) (λ h.
            false≢true (sym differs
            ∙ subst (λ x. same_page page x ≡ true) (back-page past f.0 page g version v tag t h.1 is-back) (same_page-refl page))))

    back-other : (answer : Answer) → (answer ≡ answers.Moved g v t → ⊥)
        → FailsAmong is_machines j past (Some (back answer)) (rule_back answer (answers.Moved g v t))
    back-other (answers.Moved page version tag) other = moved-back page version tag other
    back-other answer other = refusal_fails j past (back answer) (λ h. let e = h.1.told in cc)

  -- a load that the machine ends otherwise
  pub other_back : (answer right : Answer) → KeepsMachines j past (back right) → (answer ≡ right → ⊥)
      → FailsAmong is_machines j past (Some (back answer)) (rule_back answer right)
  other_back answer (answers.Moved g v t) keeps other = back-other g v t keeps answer other
  other_back answer right keeps other = absurd (let e = (keeps.each rules.Refusal refl).1.told in cc)
