-- The tests hold exactly where two answers, and two refusals, are the same.
use Rattle.std.proofs.Common.{◌≡◌, ℕ, ◌-◌, Bool, true, false, refl, sym, ap, subst, ◌∙◌, ◌⊎◌, inl, inr, List, []}
use Rattle.std.proofs.Common.{◌∷◌, get_or, Option, Some, bytes_eq}
use Rattle.std.proofs.lemmas.Bool.{eqb-true, eq-eqb, and_parts, and_from}
use Rattle.std.proofs.lemmas.Slice.Eq.{bytes_eq-Decides}
use Rattle.std.proofs.lemmas.Option.{none-some}
use Rattle.sgx_rules.specs.declared.entries.Action.{Action}
use Rattle.sgx_rules.specs.declared.entries.Event.{Event}
use Rattle.sgx_rules.specs.declared.entries.Event.TheVariants.{Did, Refused}
use Rattle.sgx_rules.specs.declared.entries.Answer.{Answer}
use Rattle.sgx_rules.specs.declared.entries.Answer.TheVariants as answers
use Rattle.sgx_rules.specs.declared.entries.PfWhy.{PfWhy}
use Rattle.sgx_rules.specs.declared.entries.PfWhy.TheVariants as faults
use Rattle.sgx_rules.specs.declared.refusals.Refusal.{Refusal}
use Rattle.sgx_rules.specs.declared.refusals.Refusal.TheVariants as why
use Rattle.sgx_rules.specs.inner.Refusal.{code_of}
use Rattle.sgx_types.proofs.Pages.{same_pages, same_page-refl}
use Rattle.sgx_types.proofs.Truths.{tested}
use Rattle.script_rules.specs.Script.{action_of}
use Rattle.audit_machine.specs.inner.Same.{is_bare, same_answer, same_end, same_fault, same_numbers, same_refusal}

bytes-same : (one other : List ℕ) → bytes_eq one other ≡ true → one ≡ other
bytes-same one other h = (bytes_eq-Decides one other).0 h

bytes-own : (one : List ℕ) → bytes_eq one one ≡ true
bytes-own one = (bytes_eq-Decides one one).1 refl

fault-same : (a b : PfWhy) → same_fault a b ≡ true → a ≡ b
fault-same faults.Absent faults.Absent h = refl
fault-same faults.WrongType faults.WrongType h = refl
fault-same faults.NoPerm faults.NoPerm h = refl
fault-same a b h = absurd cc

pub answer_same : (a b : Answer) → same_answer a b ≡ true → a ≡ b
answer_same answers.Plain answers.Plain h = refl
answer_same (answers.Cssa m) (answers.Cssa n) h = ap answers.Cssa (eqb-true m n h)
answer_same (answers.Value m) (answers.Value n) h = ap answers.Value (eqb-true m n h)
answer_same (answers.Hash one) (answers.Hash other) h = ap answers.Hash (bytes-same one other h)
answer_same (answers.Version m) (answers.Version n) h = ap answers.Version (eqb-true m n h)
answer_same (answers.Moved page m one) (answers.Moved next n other) h =
    let p = and_parts _ _ h in
    let q = and_parts _ _ p.1 in
    λ i. answers.Moved (same_pages page next p.0 i) (eqb-true m n q.0 i) (bytes-same one other q.1 i)
answer_same (answers.Pf m) (answers.Pf n) h = ap answers.Pf (fault-same m n h)
answer_same (answers.Va m) (answers.Va n) h = ap answers.Va (eqb-true m n h)
answer_same a b h = absurd cc

answer-own : (a : Answer) → same_answer a a ≡ true
answer-own answers.Plain = refl
answer-own (answers.Cssa m) = eq-eqb m m refl
answer-own (answers.Value m) = eq-eqb m m refl
answer-own (answers.Hash one) = bytes-own one
answer-own (answers.Version m) = eq-eqb m m refl
answer-own (answers.Moved page m one) = and_from _ _ (same_page-refl page) (and_from _ _ (eq-eqb m m refl) (bytes-own one))
answer-own (answers.Pf faults.Absent) = refl
answer-own (answers.Pf faults.WrongType) = refl
answer-own (answers.Pf faults.NoPerm) = refl
answer-own (answers.Va m) = eq-eqb m m refl

-- ---- refusals

-- the refusals without numbers, at their places in the list
abbrev bare : List Refusal
bare =
    why.PgInvld ∷ why.PgIsSecs ∷ why.NotBlockable ∷ why.BlkState ∷ why.Conflict ∷ why.PgInvld ∷ why.EpochSpent ∷ why.PageNotBlocked
    ∷ why.PgInvld ∷ why.PgInvld ∷ why.SlotEmpty ∷ why.VersionSpent ∷ why.PgInvld ∷ why.PgInvld ∷ why.PgInvld ∷ why.PageExists ∷ why.BadRange
    ∷ why.BadPerm ∷ why.BadKind ∷ why.NotInit ∷ why.IsInit ∷ why.PgInvld ∷ why.TcsBusy ∷ why.NoFrame ∷ why.NoSaved ∷ why.FrameBusy
    ∷ why.Absent
    ∷ why.Blocked ∷ why.NoPerm ∷ why.Miss ∷ why.NoFault ∷ why.WrongMode ∷ []

bare-at : (a : Refusal) → is_bare a ≡ true → get_or bare (code_of a - 1) why.PgInvld ≡ a
bare-at (why.PrevTrk older) h = absurd cc
bare-at (why.NotTracked epoch older) h = absurd cc
bare-at (why.SlotOccupied version) h = absurd cc
bare-at (why.MacFail given computed) h = absurd cc
bare-at (why.BadHeader enclave address flags) h = absurd cc
bare-at (why.ChildPresent count) h = absurd cc
bare-at (why.BadMeasure made) h = absurd cc
bare-at a h = refl

numbers-same : (a b : Refusal) → same_numbers a b ≡ true → a ≡ b
numbers-same (why.PrevTrk m) (why.PrevTrk n) h = ap why.PrevTrk (eqb-true m n h)
numbers-same (why.NotTracked e m) (why.NotTracked f n) h =
    let p = and_parts _ _ h in λ i. why.NotTracked (eqb-true e f p.0 i) (eqb-true m n p.1 i)
numbers-same (why.SlotOccupied m) (why.SlotOccupied n) h = ap why.SlotOccupied (eqb-true m n h)
numbers-same (why.MacFail g c) (why.MacFail k d) h =
    let p = and_parts _ _ h in λ i. why.MacFail (bytes-same g k p.0 i) (bytes-same c d p.1 i)
numbers-same (why.BadHeader e a f) (why.BadHeader d b g) h =
    let p = and_parts _ _ h in
    let q = and_parts _ _ p.1 in
    λ i. why.BadHeader (eqb-true e d p.0 i) (eqb-true a b q.0 i) (eqb-true f g q.1 i)
numbers-same (why.ChildPresent m) (why.ChildPresent n) h = ap why.ChildPresent (eqb-true m n h)
numbers-same (why.BadMeasure one) (why.BadMeasure other) h = ap why.BadMeasure (bytes-same one other h)
numbers-same a b h = absurd cc

pub refusal_same : (a b : Refusal) → same_refusal a b ≡ true → a ≡ b
refusal_same a b h = by_test (tested (is_bare a))
  where
    by_test : (is_bare a ≡ true) ⊎ (is_bare a ≡ false) → a ≡ b
    by_test (inl is) =
        let p = and_parts (is_bare b) _ (rw is at h) in
        sym (bare-at a is) ∙ ap (λ n. get_or bare (n - 1) why.PgInvld) (eqb-true (code_of a) (code_of b) p.1) ∙ bare-at b p.0
    by_test (inr numbered) = numbers-same a b (rw numbered at h)

refusal-own : (a : Refusal) → same_refusal a a ≡ true
refusal-own (why.PrevTrk m) = eq-eqb m m refl
refusal-own (why.NotTracked e m) = and_from _ _ (eq-eqb e e refl) (eq-eqb m m refl)
refusal-own (why.SlotOccupied m) = eq-eqb m m refl
refusal-own (why.MacFail g c) = and_from _ _ (bytes-own g) (bytes-own c)
refusal-own (why.BadHeader e a f) = and_from _ _ (eq-eqb e e refl) (and_from _ _ (eq-eqb a a refl) (eq-eqb f f refl))
refusal-own (why.ChildPresent m) = eq-eqb m m refl
refusal-own (why.BadMeasure one) = bytes-own one
refusal-own a = refl

-- ---- events

own-action : {x y : Action} {o : Option Action} → Some x ≡ o → o ≡ Some y → x ≡ y
own-action e f = let g = e ∙ f in cc

pub ends_alike : (e made : Event) (action : Action) → action_of e ≡ Some action → action_of made ≡ Some action
    → same_end e made ≡ true → e ≡ made
ends_alike (Did one answer) (Did other right) action own its h =
    let act : one ≡ other = own-action own (sym its) in λ i. Did (act i) (answer_same answer right h i)
ends_alike (Refused one refusal) (Refused other found) action own its h =
    let act : one ≡ other = own-action own (sym its) in λ i. Refused (act i) (refusal_same refusal found h i)
ends_alike e made action own its h = absurd cc

end-own : (e : Event) (action : Action) → action_of e ≡ Some action → same_end e e ≡ true
end-own (Did one answer) action own = answer-own answer
end-own (Refused one refusal) action own = refusal-own refusal
end-own e action own = absurd (none-some _ own)

both-ways : {b : Bool} → b ≡ false → b ≡ true → ⊥
both-ways no-way way = let e = sym no-way ∙ way in absurd (let f : false ≡ true = e in cc)

pub ends_apart : (e made : Event) (action : Action) → action_of e ≡ Some action → same_end e made ≡ false → e ≡ made → ⊥
ends_apart e made action own h same = both-ways h (subst (λ x. same_end e x ≡ true) same (end-own e action own))
