-- The store lines and the scripts of a valid job have no fault where they stand.
use Rattle.std.proofs.Common.{◌≡◌, ℕ, zero, suc, ◌+◌, ◌/◌, ◌%◌, ◌^◌, ◌<◌, ◌≤◌, ◌==◌, ◌&&◌}
use Rattle.std.proofs.Common.{◌||◌, nat_le, nat_lt, Bool, true, false, List, [], ◌∷◌, ◌++◌, Option, Some, None}
use Rattle.std.proofs.Common.{is_some, map, length, sum_by, All, refl, sym, ap, subst, ◌∙◌, arith, inl, inr}
use Rattle.std.specs.List.{list_any}
use Rattle.std.proofs.lemmas.Bool.{and_from, and_parts, eq-eqb, eqb-true, le-leb, le-ltb, lt-ltb, ltb-true, or_right}
use Rattle.std.proofs.lemmas.List.{append-nil, length-append}
use Rattle.std.proofs.lemmas.List.Elements.{All-head, All-tail}
use Rattle.sgx_types.specs.declared.names.Page.{Page}
use Rattle.sgx_types.proofs.Truths.{either}
use Rattle.text_words.specs.inner.Reading.{IsLetter}
use Rattle.io_edges.specs.declared.plans.PlanLine.{PlanLine}
use Rattle.io_edges.specs.declared.plans.PlanLine.TheVariants as kept_plans
use Rattle.job_grammar.specs.declared.jobs.PageLine.{PageLine}
use Rattle.job_grammar.specs.declared.jobs.PageLine.TheVariants as pages
use Rattle.job_grammar.specs.declared.jobs.Op.{Op}
use Rattle.job_grammar.specs.declared.jobs.Op.TheVariants as kept_ops
use Rattle.job_grammar.specs.Jobs.{EnclaveView, JobView, covers, enclave_at, is_tcs_line, is_tcs_page, lines_at, lines_in}
use Rattle.job_grammar.specs.inner.Jobs.{is_added_page}
use Rattle.job_grammar.specs.Jobs.{names_tcs, script_names}
use Rattle.job_grammar.specs.inner.Valid.{IsOpAmong, IsOuterOffset, IsPlanAmong, IsValid, IsValidEnclave, IsValidLine}
use Rattle.job_grammar.specs.inner.Valid.{IsValidOffset}
use Rattle.job_grammar.proofs.EnclaveLaws.{lawful-size}
use Rattle.job_lines.specs.declared.statements.Statement.TheVariants as says
use Rattle.job_lines.specs.Statements.{page_by}
use Rattle.job_text.specs.Drafts.{Draft, keep, kept_op, kept_plan}
use Rattle.job_text.specs.Faults.{is_in_range, is_missing, is_op_in_range, is_out_of_order, is_outer_offset, is_plan_in_range}
use Rattle.job_text.specs.Faults.{is_shared}
use Rattle.job_text.specs.Faults.{is_too_many, is_twice, op_stands, plan_stands}
use Rattle.job_print.specs.JobText.{named, numbered, op_says, plan_says, plans_say, script_says}
use Rattle.job_print.proofs.Printable.{Fits, IsPageName, IsPrintableOp, IsPrintablePlan}
use Rattle.job_print.proofs.Stands.{Stands}
use Rattle.job_print.proofs.Leads.{Leads, Steps, leads-on}
use Rattle.job_print.proofs.ListLaws.{All-seam, any-seam, change_last-push, earlier-push, last-length, none-any, none-before}
use Rattle.job_print.proofs.ListLaws.{push-push}
use Rattle.job_print.proofs.ListLaws.{sum-seam}
use Rattle.job_print.proofs.PartLaws.{any-part, no-script, not-true, or-false, some-push}

-- ---- tests

or-left : (a b : Bool) → a ≡ true → (a || b) ≡ true
or-left a b e = rw e refl

-- ---- names of pages and enclaves

-- an enclave that is declared has a letter
letter-of : (es : List EnclaveView) (enclave : ℕ) → length es ≤ 8 → is_some (enclave_at es enclave) ≡ true → IsLetter enclave
letter-of es zero few there = absurd cc
letter-of es (suc n) few there = (let lt = within es n there in (omega arith, omega (arith, lt, few)))
  where
    within : (xs : List EnclaveView) (k : ℕ) → is_some (enclave_at xs (suc k)) ≡ true → k < length xs
    within [] k is = absurd cc
    within (x ∷ xs) zero is = omega arith
    within (x ∷ xs) (suc k) is = (let lt = within xs k is in omega (arith, lt))

-- an enclave one of whose lines passes is declared
any-declared : (p : PageLine → Bool) (es : List EnclaveView) (enclave : ℕ) → list_any p (lines_at es enclave) ≡ true
    → is_some (enclave_at es enclave) ≡ true
any-declared p es enclave any = by_case (enclave_at es enclave) any
  where
    by_case : (found : Option EnclaveView) → list_any p (lines_in found) ≡ true → is_some found ≡ true
    by_case None is = absurd cc
    by_case (Some e) is = refl

-- a page that a line of a valid enclave adds has a small number
covered-small : (pages_here : ℕ) (lines : List PageLine) (n : ℕ) → pages_here ≤ 2 ^ 24 → All (IsValidLine pages_here) lines
    → list_any (covers n) lines ≡ true → n < 2 ^ 24
covered-small most [] n small valid any = absurd cc
covered-small most (line ∷ lines) n small valid any =
    elim (either (covers n line) (list_any (covers n) lines) any) [
      | inl here ↦ at_line line (All-head (IsValidLine most) line lines valid) here
      | inr later ↦ covered-small most lines n small (All-tail (IsValidLine most) line lines valid) later
    ]
  where
    at_line : (l : PageLine) → IsValidLine most l → covers n l ≡ true → n < 2 ^ 24
    at_line (pages.Tcs page ossa nssa plain) v is = (let e = eqb-true page n is in omega (arith, e, v.2, small))
    at_line (pages.Reg first count perm value plain) v is =
        (let p = and_parts (nat_le first n) (nat_lt n (first + count)) is in
        let lt = ltb-true n (first + count) p.1 in
        omega (arith, lt, v.1, small))

added-small : (es : List EnclaveView) (enclave n : ℕ) → All IsValidEnclave es → list_any (covers n) (lines_at es enclave) ≡ true
    → n < 2 ^ 24
added-small es zero n valid any = absurd cc
added-small [] (suc k) n valid any = absurd cc
added-small (e ∷ es) (suc zero) n valid any =
    let v = All-head IsValidEnclave e es valid in
    let small = lawful-size e v in
    covered-small (e.size / 4096) e.lines n (omega (arith, small)) v.lines any
added-small (e ∷ es) (suc (suc k)) n valid any = added-small es (suc k) n (All-tail IsValidEnclave e es valid) any

any-weaker : (n : ℕ) (lines : List PageLine) → is_tcs_page lines n ≡ true → list_any (covers n) lines ≡ true
any-weaker n [] any = absurd cc
any-weaker n (line ∷ lines) any =
    elim (either (is_tcs_line line && covers n line) (is_tcs_page lines n) any) [
      | inl here ↦ or-left (covers n line) _ ((and_parts _ _ here).1)
      | inr later ↦ or_right (covers n line) _ (any-weaker n lines later)
    ]

module _ (j : JobView) (valid : IsValid j) where
  page-named : (page : Page) → is_added_page j.enclaves page ≡ true → IsPageName (named page)
  page-named page added =
      let small = added-small j.enclaves page.enclave page.number valid.enclaves added in (
        letter-of j.enclaves page.enclave valid.few_enclaves (any-declared (covers page.number) j.enclaves page.enclave added),
        omega (arith, small),
      )

  tcs-named : (enclave tcs : ℕ) → is_tcs_page (lines_at j.enclaves enclave) tcs ≡ true → IsPageName (page_by enclave tcs)
  tcs-named enclave tcs is =
      let any = any-weaker tcs (lines_at j.enclaves enclave) is in
      let small = added-small j.enclaves enclave tcs valid.enclaves any in
      (letter-of j.enclaves enclave valid.few_enclaves (any-declared (covers tcs) j.enclaves enclave any), omega (arith, small))

  -- ---- store lines

  plan-fits : (plan : PlanLine) → IsPlanAmong j.enclaves plan → IsPrintablePlan (plan_says plan)
  plan-fits (kept_plans.FailRoom k) v = v.1
  plan-fits (kept_plans.FailPut k) v = v.1
  plan-fits (kept_plans.FailGet k) v = v.1
  plan-fits (kept_plans.DropGet page g) v = (page-named page v.0, v.1.1)
  plan-fits (kept_plans.Flip page g place) v = (page-named page v.0, v.1, omega (arith, v.2))
  plan-fits (kept_plans.Replay page g w) v = (page-named page v.0, v.1.1, v.2.1)
  plan-fits (kept_plans.Swap one other) v = (page-named one v.0, page-named other v.1)

  plan-range : (plan : PlanLine) → IsPlanAmong j.enclaves plan → is_plan_in_range (plan_says plan) ≡ true
  plan-range (kept_plans.FailRoom k) v = le-leb 1 k v.0
  plan-range (kept_plans.FailPut k) v = le-leb 1 k v.0
  plan-range (kept_plans.FailGet k) v = le-leb 1 k v.0
  plan-range (kept_plans.DropGet page g) v = le-leb 1 g v.1.0
  plan-range (kept_plans.Flip page g place) v = le-leb place 33215 v.2
  plan-range (kept_plans.Replay page g w) v = and_from _ _ (le-leb 1 g v.1.0) (le-leb 1 w v.2.0)
  plan-range (kept_plans.Swap one other) v = refl

  plan-there : (plan : PlanLine) → IsPlanAmong j.enclaves plan → plan_stands j.enclaves (plan_says plan) ≡ true
  plan-there (kept_plans.FailRoom k) v = refl
  plan-there (kept_plans.FailPut k) v = refl
  plan-there (kept_plans.FailGet k) v = refl
  plan-there (kept_plans.DropGet page g) v = v.0
  plan-there (kept_plans.Flip page g place) v = v.0
  plan-there (kept_plans.Replay page g w) v = v.0
  plan-there (kept_plans.Swap one other) v = and_from _ _ v.0 v.1

  plan-kept : (plan : PlanLine) → kept_plan (plan_says plan) ≡ plan
  plan-kept (kept_plans.FailRoom k) = refl
  plan-kept (kept_plans.FailPut k) = refl
  plan-kept (kept_plans.FailGet k) = refl
  plan-kept (kept_plans.DropGet page g) = refl
  plan-kept (kept_plans.Flip page g place) = refl
  plan-kept (kept_plans.Replay page g w) = refl
  plan-kept (kept_plans.Swap one other) = refl

  plan-step : (n : ℕ) (d : Draft) (done : List PlanLine) (plan : PlanLine) → Stands j j.enclaves done [] d
      → IsPlanAmong j.enclaves plan → length done + 1 ≤ 64
      → Steps n d (says.Plan (plan_says plan)) (Stands j j.enclaves (done ++ plan ∷ []) [])
  unfolding is_out_of_order is_twice is_in_range is_too_many is_missing is_shared keep
  plan-step n d done plan h v few = (
    plan-fits plan v,
    record {
      order = or-false _ _ (no-script d h.scripts) refl;
      once = refl;
      range = plan-range plan v;
      few = rw h.plans (le-ltb 64 (length done + 1) few);
      stands = rw h.enclaves (not-true _ (plan-there plan v));
      own = refl;
    },
    record {
      epc = h.epc;
      marks = h.marks;
      key = h.key;
      start = h.start;
      enclaves = h.enclaves;
      plans = rw (h.plans, plan-kept plan) refl;
      scripts = h.scripts;
      saved = h.saved;
    },
  )

  pub plans-lead : (n : ℕ) (d : Draft) (done rest : List PlanLine) → j.plans ≡ done ++ rest → Stands j j.enclaves done [] d
      → Leads n d (plans_say rest) (Stands j j.enclaves j.plans [])
  plans-lead n d done [] all h = subst (λ ps. Stands j j.enclaves ps [] d) (sym (all ∙ append-nil done)) h
  plans-lead n d done (plan ∷ rest) all h =
      let counted = ap (λ (ps : List PlanLine). length ps) all in
      let step = plan-step n d done plan h (All-seam (IsPlanAmong j.enclaves) done plan rest (rw (← all) valid.plans))
      (omega (arith, counted, valid.few_plans, length-append done (plan ∷ rest))) in (
        step.0,
        step.1,
        plans-lead (n + 1) (keep n d (says.Plan (plan_says plan))) (done ++ plan ∷ [])
            rest (all ∙ push-push done plan rest) step.2,
      )

  -- ---- operations

  offset-range : (off : ℕ) → IsValidOffset off → ((off % 8 == 0) && nat_lt off (2 ^ 24)) ≡ true
  offset-range off v = and_from _ _ (eq-eqb (off % 8) 0 v.0) (lt-ltb off (2 ^ 24) v.1)

  outer-range : (found : Option EnclaveView) (off : ℕ) → IsOuterOffset off found → is_outer_offset found off ≡ true
  outer-range None off v = absurd v
  outer-range (Some e) off v = and_from _ _ (eq-eqb (off % 8) 0 v.0) (lt-ltb off e.size v.1)

  outer-there : (found : Option EnclaveView) (off : ℕ) → IsOuterOffset off found → is_some found ≡ true
  outer-there None off v = absurd v
  outer-there (Some e) off v = refl

  outer-small : (es : List EnclaveView) (enclave off : ℕ) → All IsValidEnclave es → IsOuterOffset off (enclave_at es enclave) → off < 2 ^ 24
  outer-small es zero off all v = absurd v
  outer-small [] (suc k) off all v = absurd v
  outer-small (e ∷ es) (suc zero) off all v =
      let small = lawful-size e (All-head IsValidEnclave e es all) in
      omega (arith, small, v.1)
  outer-small (e ∷ es) (suc (suc k)) off all v = outer-small es (suc k) off (All-tail IsValidEnclave e es all) v

  outer-fits : (enclave off : ℕ) → IsOuterOffset off (enclave_at j.enclaves enclave) → IsLetter enclave × Fits off
  outer-fits enclave off v =
      let small = outer-small j.enclaves enclave off valid.enclaves v in
      (letter-of j.enclaves enclave valid.few_enclaves (outer-there (enclave_at j.enclaves enclave) off v), omega (arith, small))

  op-fits : (op : Op) → IsOpAmong j.enclaves op → IsPrintableOp (op_says op)
  op-fits (kept_ops.Enter enclave tcs) v = tcs-named enclave tcs v
  op-fits (kept_ops.Resume enclave tcs) v = tcs-named enclave tcs v
  op-fits kept_ops.Exit v = tt
  op-fits kept_ops.Timer v = tt
  op-fits (kept_ops.Load off) v = omega (arith, v.1)
  op-fits (kept_ops.Store off value) v = (omega (arith, v.0.1), v.1)
  op-fits (kept_ops.Xadd off value) v = (omega (arith, v.0.1), v.1)
  op-fits (kept_ops.Set value) v = v
  op-fits (kept_ops.Plus value) v = v
  op-fits (kept_ops.OutLoad enclave off) v = outer-fits enclave off v
  op-fits (kept_ops.OutStore enclave off value) v = (let f = outer-fits enclave off v.0 in (f.0, f.1, v.1))

  op-range : (op : Op) → IsOpAmong j.enclaves op → is_op_in_range j.enclaves (op_says op) ≡ true
  op-range (kept_ops.Enter enclave tcs) v = refl
  op-range (kept_ops.Resume enclave tcs) v = refl
  op-range kept_ops.Exit v = refl
  op-range kept_ops.Timer v = refl
  op-range (kept_ops.Load off) v = offset-range off v
  op-range (kept_ops.Store off value) v = offset-range off v.0
  op-range (kept_ops.Xadd off value) v = offset-range off v.0
  op-range (kept_ops.Set value) v = refl
  op-range (kept_ops.Plus value) v = refl
  op-range (kept_ops.OutLoad enclave off) v = outer-range (enclave_at j.enclaves enclave) off v
  op-range (kept_ops.OutStore enclave off value) v = outer-range (enclave_at j.enclaves enclave) off v.0

  op-there : (op : Op) → IsOpAmong j.enclaves op → op_stands j.enclaves (op_says op) ≡ true
  op-there (kept_ops.Enter enclave tcs) v = v
  op-there (kept_ops.Resume enclave tcs) v = v
  op-there kept_ops.Exit v = refl
  op-there kept_ops.Timer v = refl
  op-there (kept_ops.Load off) v = refl
  op-there (kept_ops.Store off value) v = refl
  op-there (kept_ops.Xadd off value) v = refl
  op-there (kept_ops.Set value) v = refl
  op-there (kept_ops.Plus value) v = refl
  op-there (kept_ops.OutLoad enclave off) v = outer-there (enclave_at j.enclaves enclave) off v
  op-there (kept_ops.OutStore enclave off value) v = outer-there (enclave_at j.enclaves enclave) off v.0

  op-kept : (op : Op) → kept_op (op_says op) ≡ op
  op-kept (kept_ops.Enter enclave tcs) = refl
  op-kept (kept_ops.Resume enclave tcs) = refl
  op-kept kept_ops.Exit = refl
  op-kept kept_ops.Timer = refl
  op-kept (kept_ops.Load off) = refl
  op-kept (kept_ops.Store off value) = refl
  op-kept (kept_ops.Xadd off value) = refl
  op-kept (kept_ops.Set value) = refl
  op-kept (kept_ops.Plus value) = refl
  op-kept (kept_ops.OutLoad enclave off) = refl
  op-kept (kept_ops.OutStore enclave off value) = refl

  -- a TCS that a script names is named by none before it
  own-tcs : (done : List (List Op)) (script : List Op) (rest : List (List Op)) (enclave tcs : ℕ) → j.scripts ≡ done ++ script ∷ rest
      → script_names enclave tcs script ≡ true → list_any (script_names enclave tcs) done ≡ false
  own-tcs done script rest enclave tcs all names =
      none-any (script_names enclave tcs) done
      (none-before (script_names enclave tcs) done script rest (rw (← all) (valid.own enclave tcs)) names)

  named-here : (front : List Op) (op : Op) (behind : List Op) (enclave tcs : ℕ) → names_tcs enclave tcs op ≡ true
      → script_names enclave tcs (front ++ op ∷ behind) ≡ true
  named-here front op behind enclave tcs is = any-seam (names_tcs enclave tcs) front op behind is

  same-page : (enclave tcs : ℕ) → ((enclave == enclave) && (tcs == tcs)) ≡ true
  same-page enclave tcs = and_from _ _ (eq-eqb enclave enclave refl) (eq-eqb tcs tcs refl)

  op-own : (d : Draft) (done : List (List Op)) (front : List Op) (op : Op) (behind : List Op) (rest : List (List Op))
      → d.scripts ≡ done ++ front ∷ [] → j.scripts ≡ done ++ (front ++ op ∷ behind) ∷ rest
      → is_shared d (says.Operation (op_says op)) ≡ false
  unfolding is_shared
  op-own d done front (kept_ops.Enter enclave tcs) behind rest is all =
      rw (is, earlier-push done front) (own-tcs done _ rest enclave tcs all (named-here front _ behind enclave tcs (same-page enclave tcs)))
  op-own d done front (kept_ops.Resume enclave tcs) behind rest is all =
      rw (is, earlier-push done front) (own-tcs done _ rest enclave tcs all (named-here front _ behind enclave tcs (same-page enclave tcs)))
  op-own d done front kept_ops.Exit behind rest is all = refl
  op-own d done front kept_ops.Timer behind rest is all = refl
  op-own d done front (kept_ops.Load off) behind rest is all = refl
  op-own d done front (kept_ops.Store off value) behind rest is all = refl
  op-own d done front (kept_ops.Xadd off value) behind rest is all = refl
  op-own d done front (kept_ops.Set value) behind rest is all = refl
  op-own d done front (kept_ops.Plus value) behind rest is all = refl
  op-own d done front (kept_ops.OutLoad enclave off) behind rest is all = refl
  op-own d done front (kept_ops.OutStore enclave off value) behind rest is all = refl

  op-room : (d : Draft) (done : List (List Op)) (front : List Op) (op : Op) (behind : List Op) (rest : List (List Op))
      → d.scripts ≡ done ++ front ∷ [] → j.scripts ≡ done ++ (front ++ op ∷ behind) ∷ rest
      → nat_lt 100000 (sum_by length d.scripts + 1) ≡ false
  op-room d done front op behind rest is all =
      let size : List Op → ℕ = λ script. length script in
      let now : sum_by size d.scripts ≡ sum_by size done + (length front + 0) = ap (sum_by size) is ∙ sum-seam size done front [] in
      let whole : sum_by size j.scripts ≡ sum_by size done + (length (front ++ op ∷ behind) + sum_by size rest) =
      ap (sum_by size) all ∙ sum-seam size done (front ++ op ∷ behind) rest in
      le-ltb 100000 (sum_by length d.scripts + 1) (omega (arith, now, whole, length-append front (op ∷ behind), valid.few_ops))

  op-valid : (done : List (List Op)) (front : List Op) (op : Op) (behind : List Op) (rest : List (List Op))
      → j.scripts ≡ done ++ (front ++ op ∷ behind) ∷ rest → IsOpAmong j.enclaves op
  op-valid done front op behind rest all =
      All-seam (IsOpAmong j.enclaves) front op behind
      (All-seam (All (IsOpAmong j.enclaves)) done (front ++ op ∷ behind) rest (rw (← all) valid.ops))

  abbrev Scripts : List (List Op) → Draft → Type 0
  Scripts done d = Stands j j.enclaves j.plans done d

  op-step : (n : ℕ) (d : Draft) (done : List (List Op)) (front : List Op) (op : Op) (behind : List Op) (rest : List (List Op))
      → Scripts (done ++ front ∷ []) d → j.scripts ≡ done ++ (front ++ op ∷ behind) ∷ rest
      → Steps n d (says.Operation (op_says op)) (Scripts (done ++ (front ++ op ∷ []) ∷ []))
  unfolding is_out_of_order is_twice is_in_range is_too_many is_missing keep
  op-step n d done front op behind rest h all =
      let v = op-valid done front op behind rest all in (
        op-fits op v,
        record {
          order = or-false _ _ (any-part d) (rw h.scripts (not-true _ (some-push done front)));
          once = refl;
          range = rw h.enclaves (op-range op v);
          few = op-room d done front op behind rest h.scripts all;
          stands = rw h.enclaves (not-true _ (op-there op v));
          own = op-own d done front op behind rest h.scripts all;
        },
        record {
          epc = h.epc;
          marks = h.marks;
          key = h.key;
          start = h.start;
          enclaves = h.enclaves;
          plans = h.plans;
          scripts = rw (op-kept op, h.scripts) (change_last-push (λ script. script ++ op ∷ []) done front);
          saved = h.saved;
        },
      )

  ops-lead : (n : ℕ) (d : Draft) (done : List (List Op)) (front behind : List Op) (rest : List (List Op))
      → Scripts (done ++ front ∷ []) d → j.scripts ≡ done ++ (front ++ behind) ∷ rest
      → Leads n d (map (λ op. says.Operation (op_says op)) behind) (Scripts (done ++ (front ++ behind) ∷ []))
  ops-lead n d done front [] rest h all = subst (λ script. Scripts (done ++ script ∷ []) d) (sym (append-nil front)) h
  ops-lead n d done front (op ∷ behind) rest h all =
      let step = op-step n d done front op behind rest h all in
      let next : j.scripts ≡ done ++ ((front ++ op ∷ []) ++ behind) ∷ rest = rw (← push-push front op behind) all in (
        step.0,
        step.1,
        rw (push-push front op behind)
            (ops-lead (n + 1) (keep n d (says.Operation (op_says op))) done (front ++ op ∷ []) behind rest step.2 next),
      )

  -- ---- processors

  cpu-step : (n : ℕ) (d : Draft) (done : List (List Op)) → Scripts done d → length done ≤ 15
      → Steps n d (says.Cpu (length done)) (Scripts (done ++ [] ∷ []))
  unfolding is_out_of_order is_twice is_in_range is_too_many is_missing is_shared keep
  cpu-step n d done h few = (
    omega (arith, few),
    record {
      order = or-false _ _ (any-part d)
          (not-true _ (eq-eqb (length done) (length d.scripts) (ap (λ (ss : List (List Op)). length ss) (sym h.scripts))));
      once = refl;
      range = le-leb (length done) 15 few;
      few = refl;
      stands = refl;
      own = refl;
    },
    record {
      epc = h.epc;
      marks = h.marks;
      key = h.key;
      start = h.start;
      enclaves = h.enclaves;
      plans = h.plans;
      scripts = rw h.scripts refl;
      saved = h.saved;
    },
  )

  pub scripts-lead : (n : ℕ) (d : Draft) (done rest : List (List Op)) → j.scripts ≡ done ++ rest → Scripts done d
      → Leads n d (numbered script_says (length done) rest) (Scripts j.scripts)
  scripts-lead n d done [] all h = subst (λ ss. Scripts ss d) (sym (all ∙ append-nil done)) h
  scripts-lead n d done (script ∷ rest) all h =
      let counted = ap (λ (ss : List (List Op)). length ss) all in
      let first = cpu-step n d done h (omega (arith, counted, valid.few_scripts, length-append done (script ∷ rest))) in
      let next : length (done ++ script ∷ []) ≡ length done + 1 = omega (arith, last-length done script) in (
        first.0,
        first.1,
        leads-on (n + 1) _ (map (λ op. says.Operation (op_says op)) script) (numbered script_says (length done + 1) rest)
            (Scripts (done ++ script ∷ [])) (Scripts j.scripts) (ops-lead (n + 1) _ done [] script rest first.2 all)
            (λ m e begun. rw (← next) (scripts-lead m e (done ++ script ∷ []) rest (all ∙ push-push done script rest) begun)),
      )
