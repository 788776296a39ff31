-- The entries of a trace, one after another.
use Rattle.std.proofs.Common.{◌≡◌, ℕ, ◌+◌, ◌<◌, ◌≤◌, ◌^◌, Bool, true, false, sym, ap, subst, ◌∙◌, List, []}
use Rattle.std.proofs.Common.{◌∷◌, ◌++◌, Option, Some, None, length, take, drop, reverse, get_or, arith}
use Rattle.std.proofs.lemmas.Bool.{false≢true}
use Rattle.std.proofs.lemmas.List.{take_all, reverse-append, take_more, take-append-drop, length-take, length-reverse}
use Rattle.sgx_rules.specs.declared.entries.Entry.{Entry}
use Rattle.job_grammar.specs.Jobs.{JobView}
use Rattle.driver_rules.specs.inner.Decided.{is_ended}
use Rattle.driver_rules.proofs.DecidedLaws.{ended_tells}
use Rattle.history_rules.specs.declared.rules.Rule.{Rule}
use Rattle.history_rules.specs.declared.rules.Rule.TheVariants as rules
use Rattle.history_rules.specs.Histories.{FailsFirst, History}
use Rattle.history_rules.proofs.HistoryLaws.{ended_history}
use Rattle.audit_trace.specs.declared.auditing.Auditing.{Auditing}
use Rattle.audit_trace.specs.inner.Audits.{IsAuditing, IsJudged, KeepsAudit}
use Rattle.audit_trace.proofs.RuleLaws.{fails_at, not_ended}

-- so many entries, the newest first
abbrev pub before_place : List Entry → ℕ → List Entry
before_place entries i = reverse (take i entries)

newest-more : (entries : List Entry) (i : ℕ) (d : Entry) → i < length entries
    → before_place entries (i + 1) ≡ get_or entries i d ∷ before_place entries i
newest-more entries i d within = ap reverse (take_more entries i d within) ∙ reverse-append (take i entries) (get_or entries i d ∷ [])

module _ (j : JobView) (a : Auditing) (entries : List Entry) (i : ℕ) (keeps : KeepsAudit j (before_place entries i) a) where
  pub auditing : (few : length entries < 2 ^ 63) → IsAuditing j a
  auditing few = record {
    past = before_place entries i;
    keeps = keeps;
    few = let one = length-reverse (take i entries) in let two = length-take i entries in omega (arith, one, two, few);
  }

  module _ (d : Entry) (few : length entries < 2 ^ 63) (within : i < length entries) (new : Auditing) (broken : Option Rule)
      (told : (at : IsAuditing j a) → IsJudged j at.past (get_or entries i d) new broken) where
    judged : IsJudged j (before_place entries i) (get_or entries i d) new broken
    unfolding auditing
    judged = told (auditing few)

    -- it keeps each rule
    pub taken_at : broken ≡ None → KeepsAudit j (before_place entries (i + 1)) new
    taken_at none =
        subst (λ past. KeepsAudit j past new) (sym (newest-more entries i d within))
        (subst (IsJudged j (before_place entries i) (get_or entries i d) new) none judged)

    -- it breaks one
    pub fault_at : (rule : Rule) → broken ≡ Some rule → FailsFirst j (reverse entries) i rule
    fault_at rule some =
        fails_at j (before_place entries i) (get_or entries i d) (reverse (drop (i + 1) entries)) (reverse entries) i rule
        keeps.trace.goes_on
        (sym (ap reverse (take-append-drop (i + 1) entries)) ∙ reverse-append (take (i + 1) entries) (drop (i + 1) entries)
        ∙ ap (λ t. reverse (drop (i + 1) entries) ++ t) (newest-more entries i d within))
        (let one = length-reverse (take i entries) in let two = length-take i entries in omega (arith, one, two, within))
        (subst (IsJudged j (before_place entries i) (get_or entries i d) new) some judged)

  -- ---- the end

  module _ (over : length entries ≤ i) where
    whole : before_place entries i ≡ reverse entries
    whole = ap reverse (take_all i entries over)

    all : KeepsAudit j (reverse entries) a
    all = subst (λ past. KeepsAudit j past a) whole keeps

    module _ (few : length entries < 2 ^ 63) (b : Bool) (told : (at : IsAuditing j a) → b ≡ is_ended j at.past) where
      ended_is : b ≡ is_ended j (reverse entries)
      unfolding auditing
      ended_is = told (auditing few) ∙ ap (is_ended j) whole

      pub yes_at_end : b ≡ true → History j (reverse entries)
      yes_at_end is = ended_history j (reverse entries) all.trace.goes_on ((ended_tells j (reverse entries)).0 (sym ended_is ∙ is))

      pub no_at_end : b ≡ false → FailsFirst j (reverse entries) (length entries) rules.Script
      no_at_end is =
          not_ended j (reverse entries) (length entries) all.trace.goes_on
          (λ h. false≢true (sym is ∙ ended_is ∙ (ended_tells j (reverse entries)).1 h)) (length-reverse entries)
