-- A line without a fault keeps a draft sound.
use Rattle.std.proofs.Common.{◌≡◌, ℕ, suc, ◌+◌, ◌-◌, ◌^◌, ◌<◌, ◌≤◌, ◌/◌, ◌%◌, ◌==◌, ◌&&◌}
use Rattle.std.proofs.Common.{cond, Bool, true, false, List, [], ◌∷◌, ◌++◌, Option, Some, None, is_some, nat_lt, length}
use Rattle.std.proofs.Common.{take, sum_by, count_by, All, refl, sym, ap, ◌∙◌, arith, inl, inr}
use Rattle.std.specs.List.{list_any}
use Rattle.std.proofs.lemmas.Bool.{cases_Bool, ne_eqb, and_parts, ltb-true, leb-true, ltb-false, eqb-true, false≢true, or_parts}
use Rattle.std.proofs.lemmas.List.Elements.{All-nil, All-cons, All-head, All-tail, All-push, All-weaker}
use Rattle.std.proofs.lemmas.List.{length-append}
use Rattle.std.proofs.lemmas.List.Sums.{sum_by-cons, sum_by_push}
use Rattle.sgx_types.specs.declared.names.Perm.{Perm}
use Rattle.sgx_types.specs.Lawful.{is_lawful}
use Rattle.sgx_types.specs.Digests.{IsDigest}
use Rattle.io_edges.specs.declared.plans.PlanLine.{PlanLine}
use Rattle.job_grammar.specs.declared.jobs.PageLine.{PageLine}
use Rattle.job_grammar.specs.declared.jobs.PageLine.TheVariants as pages
use Rattle.job_grammar.specs.declared.jobs.Op.{Op}
use Rattle.job_grammar.specs.Jobs.{EnclaveView, enclave_at, enclave_pages, first_page, lines_in, names_tcs, page_count}
use Rattle.job_grammar.specs.Jobs.{script_names}
use Rattle.job_grammar.specs.inner.Valid.{IsOpAmong, IsOuterOffset, IsPlanAmong, IsValidLine}
use Rattle.job_lines.specs.declared.statements.Start.{Start}
use Rattle.job_text.specs.declared.tcs_lines.TcsLine.{TcsLine}
use Rattle.job_lines.specs.declared.statements.Plan.{Plan}
use Rattle.job_lines.specs.declared.statements.Plan.TheVariants as plans
use Rattle.job_lines.specs.declared.statements.Operation.{Operation}
use Rattle.job_lines.specs.declared.statements.Operation.TheVariants as ops
use Rattle.job_lines.specs.declared.statements.Statement.{Statement}
use Rattle.job_lines.specs.declared.statements.Statement.TheVariants as says
use Rattle.job_text.specs.Drafts.{Draft, add_digest, add_op, add_page, change_last, empty_draft, has_some, keep, kept_op}
use Rattle.job_text.specs.Drafts.{kept_plan, last}
use Rattle.job_text.specs.Drafts.{new_enclave}
use Rattle.job_lines.specs.inner.Spelled.{IsSpelled, IsSpelledOp, IsSpelledPlan}
use Rattle.job_text.specs.Faults.{earlier, is_any_added, is_in_range, is_misplaced, is_op_in_range, is_out_of_order}
use Rattle.job_text.specs.inner.Faults.{HasNoFault}
use Rattle.job_text.specs.Faults.{is_outer_offset, is_plan_in_range, is_shared, is_too_many, latest_part, op_stands, pages_in}
use Rattle.job_text.specs.Faults.{part_of}
use Rattle.job_text.specs.Faults.{plan_stands}
use Rattle.job_text.specs.inner.Sound.{AreFrames, AreNoted, AreSoundEnclaves, AreSoundPlans, AreSoundScripts, IsNoted, IsSound}
use Rattle.job_text.specs.inner.Sound.{IsSoundEnclave}
use Rattle.job_text.specs.inner.Sound.{tests}
use Rattle.job_text.proofs.FaultLaws.{cpu_next, enclave_next, op_fits, plan_fits, reg_fits, some-last, tcs_fits}
use Rattle.job_text.proofs.LastItem.{enclave-more, length-change_last, ops-more, pages-more, pages-same, sum-same}
use Rattle.job_text.proofs.PageLaws.{once-more, free-of}

-- ---- nothing stands of a part behind

some-not : {X : Type 0} (xs : List X) → has_some xs ≡ false → xs ≡ []
some-not [] e = refl
some-not (x ∷ xs) e = absurd (let no = rw (ne_eqb (length (x ∷ xs)) 0 (λ z. omega arith)) at e in false≢true (sym no))

pub no_scripts : (d : Draft) (part : ℕ) → part < 4 → (part < latest_part d → ⊥) → d.scripts ≡ []
no_scripts d part low not_later =
    elim (cases_Bool (has_some d.scripts)) [
      | inl some ↦ absurd (not_later (rw some (omega arith)))
      | inr none ↦ some-not d.scripts none
    ]

pub no_plans : (d : Draft) (part : ℕ) → part < 3 → (part < latest_part d → ⊥) → d.plans ≡ []
no_plans d part low not_later =
    elim (cases_Bool (has_some d.scripts)) [
      | inl some ↦ absurd (not_later (rw some (omega arith)))
      | inr none ↦ elim (cases_Bool (has_some d.plans)) [
        | inl some ↦ absurd (not_later (rw (none, some) (omega arith)))
        | inr none_of ↦ some-not d.plans none_of
      ]
    ]

-- ---- the last item of a list

last-cons : {X : Type 0} (x y : X) (xs : List X) → last (x ∷ y ∷ xs) ≡ last (y ∷ xs)
last-cons x y xs = let e : length (x ∷ y ∷ xs) - 1 ≡ suc (length (y ∷ xs) - 1) = omega arith in rw e refl

All-change_last : {X : Type 0} (P : X → Type 0) (f : X → X) (xs : List X) → All P xs → ((x : X) → last xs ≡ Some x → P x → P (f x))
    → All P (change_last f xs)
All-change_last P f [] all step = all
All-change_last P f (x ∷ []) all step = All-cons P (f x) [] (step x refl (All-head P x [] all)) (All-nil P)
All-change_last P f (x ∷ y ∷ xs) all step =
    All-cons P x (change_last f (y ∷ xs)) (All-head P x (y ∷ xs) all)
    (All-change_last P f (y ∷ xs) (All-tail P x (y ∷ xs) all) (λ z is. step z (last-cons x y xs ∙ is)))

all-front : {X : Type 0} (P : X → Type 0) (xs : List X) (x : X) → All P (xs ++ x ∷ []) → All P xs
all-front P [] x all = All-nil P
all-front P (y ∷ xs) x all = All-cons P y xs (All-head P y (xs ++ x ∷ []) all) (all-front P xs x (All-tail P y (xs ++ x ∷ []) all))

all-last : {X : Type 0} (P : X → Type 0) (xs : List X) (x : X) → All P (xs ++ x ∷ []) → P x
all-last P [] x all = All-head P x [] all
all-last P (y ∷ xs) x all = all-last P xs x (All-tail P y (xs ++ x ∷ []) all)

-- ---- nothing of a later part

no-plans : (es : List EnclaveView) (plans : List PlanLine) → plans ≡ [] → AreSoundPlans es plans
no-plans es plans e = rw e (record { each = All-nil (IsPlanAmong es); few = omega arith })

no-scripts : (es : List EnclaveView) (scripts : List (List Op)) → scripts ≡ [] → AreSoundScripts es scripts
no-scripts es scripts e = rw e (record {
  each = All-nil (All (IsOpAmong es));
  few = omega arith;
  few_ops = omega arith;
  own = λ enclave number. omega arith;
})

-- ---- options

epc-range : (d : Draft) (frames : ℕ) → HasNoFault d (says.Epc frames) → AreFrames frames
unfolding is_in_range
epc-range d frames h = let p = and_parts _ _ h.range in (leb-true _ _ p.0, leb-true _ _ p.1)

marks-range : (d : Draft) (low high scan : ℕ) → HasNoFault d (says.Marks low high scan) → (1 ≤ low) × (low < high) × (high ≤ 4096)
    × (1 ≤ scan) × (scan ≤ 64)
unfolding is_in_range
marks-range d low high scan h =
    let p = and_parts _ _ h.range in
    let q = and_parts _ _ p.0 in
    let r = and_parts _ _ q.0 in
    let s = and_parts _ _ p.1 in
    (leb-true _ _ r.0, ltb-true _ _ r.1, leb-true _ _ q.1, leb-true _ _ s.0, leb-true _ _ s.1)

start-range : (d : Draft) (start : Start) → HasNoFault d (says.Start start) → (1 ≤ start.epoch) × (start.epoch ≤ 2 ^ 40 - 1)
    × (1 ≤ start.version)
unfolding is_in_range
start-range d start h =
    let p = and_parts _ _ h.range in
    let q = and_parts _ _ p.0 in
    (leb-true _ _ q.0, leb-true _ _ q.1, leb-true _ _ p.1)

-- ---- enclaves

enclave-range : (d : Draft) (enclave base size : ℕ) → HasNoFault d (says.Enclave enclave base size) → (is_lawful base size ≡ true)
    × (base + size ≤ 2 ^ 47)
unfolding is_in_range
enclave-range d enclave base size h = let p = and_parts _ _ h.range in (p.0, leb-true _ _ p.1)

-- the part of a line that is not out of order
in-order : (d : Draft) (s : Statement) → HasNoFault d s → part_of s < latest_part d → ⊥
unfolding is_out_of_order
in-order d s h lt =
    let le = ltb-false (part_of s) (latest_part d) (or_parts (nat_lt (part_of s) (latest_part d)) (is_misplaced d s) h.order).0 in
    omega (arith, le, lt)

noted-push : (ts : List TcsLine) (n base size : ℕ) (es : List EnclaveView) → AreNoted ts n es
    → AreNoted ts n (es ++ new_enclave base size ∷ [])
noted-push ts n base size [] noted = (All-nil (IsNoted ts n), tt)
noted-push ts n base size (e ∷ es) noted = (noted.0, noted-push ts (n + 1) base size es noted.1)

noted-digest : (ts : List TcsLine) (n : ℕ) (digest : List ℕ) (es : List EnclaveView) → AreNoted ts n es
    → AreNoted ts n (add_digest digest es)
noted-digest ts n digest [] noted = tt
noted-digest ts n digest (e ∷ []) noted = noted
noted-digest ts n digest (e ∷ f ∷ es) noted = (noted.0, noted-digest ts (n + 1) digest (f ∷ es) noted.1)

line-weaker : (ts more : List TcsLine) (n : ℕ) → ((p : ℕ → ℕ → ℕ → Bool) → All (tests p) more → All (tests p) ts) → (line : PageLine)
    → IsNoted ts n line → IsNoted more n line
line-weaker ts more n weaker (pages.Tcs page ossa nssa plain) noted = λ p all. noted p (weaker p all)
line-weaker ts more n weaker (pages.Reg first count perm value plain) noted = tt

noted-weaker : (ts more : List TcsLine) (n : ℕ) (es : List EnclaveView) → ((p : ℕ → ℕ → ℕ → Bool) → All (tests p) more → All (tests p) ts)
    → AreNoted ts n es → AreNoted more n es
noted-weaker ts more n [] weaker noted = tt
noted-weaker ts more n (e ∷ es) weaker noted = (
  All-weaker (IsNoted ts n) (IsNoted more n) (line-weaker ts more n weaker) e.lines noted.0,
  noted-weaker ts more (n + 1) es weaker noted.1,
)

noted-line : (ts : List TcsLine) (n k : ℕ) (es : List EnclaveView) (line : PageLine) → AreNoted ts n es → n + length es ≡ k + 1
    → IsNoted ts k line → AreNoted ts n (add_page line es)
noted-line ts n k [] line noted at is = tt
noted-line ts n k (e ∷ []) line noted at is = (let same : k ≡ n = omega arith in
    (All-push (IsNoted ts n) e.lines line noted.0 (rw (← same) is), tt))
noted-line ts n k (e ∷ f ∷ es) line noted at is = (noted.0, noted-line ts (n + 1) k (f ∷ es) line noted.1 (omega arith) is)

line-more : (e : EnclaveView) (line : PageLine) → IsSoundEnclave e → IsValidLine (e.size / 4096) line
    → is_any_added (first_page line) (page_count line) e.lines ≡ false
    → IsSoundEnclave (record e { lines = e.lines ++ line ∷ [] })
line-more e line sound valid free = record {
  range = sound.range;
  top = sound.top;
  lines = All-push (IsValidLine (e.size / 4096)) e.lines line sound.lines valid;
  once = λ n. once-more e.lines line n (λ covered. free-of e.lines line n free covered) (sound.once n);
  expect = sound.expect;
}

-- a line of pages more, in the enclave that stands last
page-sound : (ts more : List TcsLine) (es : List EnclaveView) (line : PageLine) → AreSoundEnclaves ts es
    → IsValidLine (pages_in (last es)) line
    → is_any_added (first_page line) (page_count line) (lines_in (last es)) ≡ false → sum_by enclave_pages es + page_count line ≤ 4096
    → 1 ≤ length es
    → ((p : ℕ → ℕ → ℕ → Bool) → All (tests p) more → All (tests p) ts) → IsNoted more (length es) line
    → AreSoundEnclaves more (add_page line es)
page-sound ts more es line sound valid free few some weaker noted = record {
  each = All-change_last IsSoundEnclave (λ e. record e { lines = e.lines ++ line ∷ [] }) es sound.each
      (λ e is old. line-more e line old (rw is at valid) (rw is at free));
  few = rw (length-change_last (λ (e : EnclaveView). record e { lines = e.lines ++ line ∷ [] }) es) sound.few;
  few_pages = rw (pages-more line es some) few;
  noted = noted-line more 1 (length es) es line (noted-weaker ts more 1 es weaker sound.noted) (omega arith) noted;
}

digest-sound : (ts : List TcsLine) (es : List EnclaveView) (digest : List ℕ) → AreSoundEnclaves ts es → IsDigest digest
    → AreSoundEnclaves ts (add_digest digest es)
digest-sound ts es digest sound is = record {
  each = All-change_last IsSoundEnclave (λ e. record e { expect = Some digest }) es sound.each
      (λ e at old. record { range = old.range; top = old.top; lines = old.lines; once = old.once; expect = is });
  few = rw (length-change_last (λ (e : EnclaveView). record e { expect = Some digest }) es) sound.few;
  few_pages = rw (pages-same digest es) sound.few_pages;
  noted = noted-digest ts 1 digest es sound.noted;
}

enclave-sound : (d : Draft) (enclave base size : ℕ) → AreSoundEnclaves d.tcs_lines d.enclaves
    → HasNoFault d (says.Enclave enclave base size) → enclave ≤ 8
    → AreSoundEnclaves d.tcs_lines (d.enclaves ++ new_enclave base size ∷ [])
enclave-sound d enclave base size sound h letter =
    let range = enclave-range d enclave base size h in
    let more = enclave-more d.enclaves (new_enclave base size) base size refl in
    let next = enclave_next d enclave base size h in
    record {
      each = All-push IsSoundEnclave d.enclaves (new_enclave base size) sound.each
          (record { range = range.0; top = range.1; lines = All-nil (IsValidLine (size / 4096)); once = λ n. omega arith; expect = tt });
      few = rw more.1 (omega (arith, next, letter));
      few_pages = rw more.0 sound.few_pages;
      noted = noted-push d.tcs_lines 1 base size d.enclaves sound.noted;
    }

tcs-sound : (n : ℕ) (d : Draft) (page ossa nssa : ℕ) (plain : Bool) → AreSoundEnclaves d.tcs_lines d.enclaves
    → HasNoFault d (says.Tcs page ossa nssa plain)
    → AreSoundEnclaves (d.tcs_lines ++ record { line = n; enclave = length d.enclaves; ossa = ossa; nssa = nssa } ∷ [])
    (add_page (pages.Tcs page ossa nssa plain) d.enclaves)
tcs-sound n d page ossa nssa plain sound h =
    let fits = tcs_fits d page ossa nssa plain h in
    page-sound d.tcs_lines _ d.enclaves (pages.Tcs page ossa nssa plain) sound (fits.1, fits.2, omega (arith, fits.0.range), fits.3)
    fits.0.once fits.0.few (some-last d.enclaves page (omega (arith, fits.0.range)))
    (λ p all. all-front (tests p) d.tcs_lines _ all) (λ p all. all-last (tests p) d.tcs_lines _ all)

reg-sound : (d : Draft) (first count : ℕ) (perm : Perm) (value : ℕ) (plain : Bool) → AreSoundEnclaves d.tcs_lines d.enclaves
    → HasNoFault d (says.Reg first count perm value plain)
    → (perm.r ≡ true) × (value < 2 ^ 64) → AreSoundEnclaves d.tcs_lines (add_page (pages.Reg first count perm value plain) d.enclaves)
reg-sound d first count perm value plain sound h spelled =
    let room = reg_fits d first count perm value plain h in
    page-sound d.tcs_lines d.tcs_lines d.enclaves (pages.Reg first count perm value plain) sound
    (room.some, room.range, spelled.0, spelled.1)
    room.once room.few (some-last d.enclaves first (omega (arith, room.some, room.range))) (λ p all. all) tt

-- ---- store lines

plan-among : (es : List EnclaveView) (plan : Plan) → is_plan_in_range plan ≡ true → plan_stands es plan ≡ true → IsSpelledPlan plan
    → IsPlanAmong es (kept_plan plan)
plan-among es (plans.FailRoom k) range stands spelled = (leb-true _ _ range, spelled)
plan-among es (plans.FailPut k) range stands spelled = (leb-true _ _ range, spelled)
plan-among es (plans.FailGet k) range stands spelled = (leb-true _ _ range, spelled)
plan-among es (plans.DropGet page g) range stands spelled = (stands, (leb-true _ _ range, spelled))
plan-among es (plans.Flip page g place) range stands spelled = (stands, spelled, leb-true _ _ range)
plan-among es (plans.Replay page g w) range stands spelled =
    (let p = and_parts _ _ range in (stands, (leb-true _ _ p.0, spelled.0), (leb-true _ _ p.1, spelled.1)))
plan-among es (plans.Swap one other) range stands spelled = (let p = and_parts _ _ stands in (p.0, p.1))

few-plans : (d : Draft) (plan : Plan) → HasNoFault d (says.Plan plan) → length d.plans + 1 ≤ 64
unfolding is_too_many
few-plans d plan h = ltb-false _ _ h.few

plan-sound : (d : Draft) (plan : Plan) → AreSoundPlans d.enclaves d.plans → HasNoFault d (says.Plan plan) → IsSpelledPlan plan
    → AreSoundPlans d.enclaves (d.plans ++ kept_plan plan ∷ [])
plan-sound d plan sound h spelled =
    let fits = plan_fits d plan h in
    record {
      each = All-push (IsPlanAmong d.enclaves) d.plans (kept_plan plan) sound.each (plan-among d.enclaves plan fits.0 fits.1 spelled);
      few = omega (arith, few-plans d plan h, length-append d.plans (kept_plan plan ∷ []));
    }

-- ---- processors and their operations

offset-in : (off size : ℕ) → ((off % 8 == 0) && nat_lt off size) ≡ true → (off % 8 ≡ 0) × (off < size)
offset-in off size e = let p = and_parts _ _ e in (eqb-true _ _ p.0, ltb-true _ _ p.1)

outer-in : (enclave : Option EnclaveView) (off : ℕ) → is_outer_offset enclave off ≡ true → is_some enclave ≡ true
    → IsOuterOffset off enclave
outer-in None off range stands = absurd (false≢true stands)
outer-in (Some e) off range stands = offset-in off e.size range

op-among : (es : List EnclaveView) (op : Operation) → is_op_in_range es op ≡ true → op_stands es op ≡ true → IsSpelledOp op
    → IsOpAmong es (kept_op op)
op-among es (ops.Enter tcs) range stands spelled = stands
op-among es (ops.Resume tcs) range stands spelled = stands
op-among es ops.Exit range stands spelled = tt
op-among es ops.Timer range stands spelled = tt
op-among es (ops.Load off) range stands spelled = offset-in off (2 ^ 24) range
op-among es (ops.Store off value) range stands spelled = (offset-in off (2 ^ 24) range, spelled)
op-among es (ops.Xadd off value) range stands spelled = (offset-in off (2 ^ 24) range, spelled)
op-among es (ops.Set value) range stands spelled = spelled
op-among es (ops.Plus value) range stands spelled = spelled
op-among es (ops.OutLoad enclave off) range stands spelled = outer-in (enclave_at es enclave) off range stands
op-among es (ops.OutStore enclave off value) range stands spelled = (outer-in (enclave_at es enclave) off range stands, spelled)

op-range : (d : Draft) (op : Operation) → HasNoFault d (says.Operation op) → is_op_in_range d.enclaves op ≡ true
unfolding is_in_range
op-range d op h = h.range

-- where no script before the last passes, at most one does after the last is changed
one-last : {X : Type 0} (p : X → Bool) (f : X → X) (xs : List X) → list_any p (take (length xs - 1) xs) ≡ false
    → count_by p (change_last f xs) ≤ 1
one-last p f [] none = omega arith
one-last p f (x ∷ []) none = (let count = sum_by-cons (λ y. cond (p y) 1 0) (f x) [] in let one = cond-one (p (f x)) in omega
    (arith, count, one))
  where
    cond-one : (b : Bool) → cond b 1 0 ≤ 1
    cond-one true = omega arith
    cond-one false = omega arith
one-last p f (x ∷ y ∷ xs) none =
    let e : length (x ∷ y ∷ xs) - 1 ≡ suc (length (y ∷ xs) - 1) = omega arith in
    let split = rw e at none in
    let count = sum_by-cons (λ z. cond (p z) 1 0) x (change_last f (y ∷ xs)) in
    let others = one-last p f (y ∷ xs) (or_parts (p x) _ split).1 in
    let none_here = rw (or_parts (p x) _ split).0 at count in
    omega (arith, none_here, others)

pub any-push : {X : Type 0} (p : X → Bool) (xs : List X) (x : X) → p x ≡ false → list_any p (xs ++ x ∷ []) ≡ list_any p xs
any-push p [] x e = rw e refl
any-push p (y ∷ xs) x e = rw (any-push p xs x e) refl

own-more : (scripts : List (List Op)) (op : Op) (enclave number : ℕ) → (names_tcs enclave number op ≡ true
    → list_any (script_names enclave number) (earlier scripts) ≡ false)
    → count_by (script_names enclave number) scripts ≤ 1 → count_by (script_names enclave number) (add_op op scripts) ≤ 1
own-more scripts op enclave number free own =
    elim (cases_Bool (names_tcs enclave number op)) [
      | inl names ↦ one-last (script_names enclave number) (λ script. script ++ op ∷ []) scripts (free names)
      | inr other ↦ rw (sum-same (λ script. cond (script_names enclave number script) 1 0) (λ script. script ++ op ∷ []) scripts
          (λ script. ap (λ (b : Bool). cond b 1 0) (any-push (names_tcs enclave number) script op other))) own
    ]

-- a TCS that an operation names is named by no script before the last
pub names-own : (d : Draft) (op : Operation) → is_shared d (says.Operation op) ≡ false → (enclave number : ℕ)
    → names_tcs enclave number (kept_op op) ≡ true
    → list_any (script_names enclave number) (earlier d.scripts) ≡ false
unfolding is_shared
names-own d (ops.Enter tcs) own enclave number names =
    (let p = and_parts (tcs.enclave == enclave) (tcs.number == number) names in rw
    (← eqb-true tcs.enclave enclave p.0, ← eqb-true tcs.number number p.1) own)
names-own d (ops.Resume tcs) own enclave number names =
    (let p = and_parts (tcs.enclave == enclave) (tcs.number == number) names in rw
    (← eqb-true tcs.enclave enclave p.0, ← eqb-true tcs.number number p.1) own)
names-own d ops.Exit own enclave number names = absurd (false≢true names)
names-own d ops.Timer own enclave number names = absurd (false≢true names)
names-own d (ops.Load off) own enclave number names = absurd (false≢true names)
names-own d (ops.Store off value) own enclave number names = absurd (false≢true names)
names-own d (ops.Xadd off value) own enclave number names = absurd (false≢true names)
names-own d (ops.Set value) own enclave number names = absurd (false≢true names)
names-own d (ops.Plus value) own enclave number names = absurd (false≢true names)
names-own d (ops.OutLoad e off) own enclave number names = absurd (false≢true names)
names-own d (ops.OutStore e off value) own enclave number names = absurd (false≢true names)

op-sound : (d : Draft) (op : Operation) → AreSoundScripts d.enclaves d.scripts → HasNoFault d (says.Operation op) → IsSpelledOp op
    → AreSoundScripts d.enclaves (add_op (kept_op op) d.scripts)
op-sound d op sound h spelled =
    let fits = op_fits d op h in
    let valid = op-among d.enclaves op (op-range d op h) fits.2 spelled in
    record {
      each = All-change_last (All (IsOpAmong d.enclaves)) (λ script. script ++ kept_op op ∷ []) d.scripts sound.each
          (λ script is all. All-push (IsOpAmong d.enclaves) script (kept_op op) all valid);
      few = rw (length-change_last (λ (script : List Op). script ++ kept_op op ∷ []) d.scripts) sound.few;
      few_ops = rw (ops-more (kept_op op) d.scripts fits.0) fits.1;
      own = λ enclave number. own-more d.scripts (kept_op op) enclave number (names-own d op h.own enclave number)
          (sound.own enclave number);
    }

cpu-sound : (d : Draft) (number : ℕ) → AreSoundScripts d.enclaves d.scripts → HasNoFault d (says.Cpu number)
    → AreSoundScripts d.enclaves (d.scripts ++ [] ∷ [])
cpu-sound d number sound h =
    let next = cpu_next d number h in
    record {
      each = All-push (All (IsOpAmong d.enclaves)) d.scripts [] sound.each (All-nil (IsOpAmong d.enclaves));
      few = omega (arith, next.0, next.1, length-append d.scripts ([] ∷ []));
      few_ops = omega (arith, sum_by_push (λ (script : List Op). length script) d.scripts [], sound.few_ops);
      own = λ enclave tcs. omega (
        arith,
        sum_by_push (λ (script : List Op). cond (script_names enclave tcs script) 1 0) d.scripts [],
        sound.own enclave tcs,
      );
    }

-- ---- a draft and one line more

pub empty-sound : IsSound empty_draft
empty-sound = record {
  frames = tt;
  marks = tt;
  key = tt;
  start = tt;
  enclaves = record { each = All-nil IsSoundEnclave; few = omega arith; few_pages = omega arith; noted = tt };
  plans = no-plans [] [] refl;
  scripts = no-scripts [] [] refl;
}

-- a draft with other enclaves, behind which nothing stands
with-enclaves : (d : Draft) (s : Statement) (ts : List TcsLine) (es : List EnclaveView) → IsSound d → HasNoFault d s → part_of s ≡ 2
    → AreSoundEnclaves ts es
    → IsSound (record d { tcs_lines = ts; enclaves = es })
with-enclaves d s ts es sound h part enclaves = record {
  frames = sound.frames;
  marks = sound.marks;
  key = sound.key;
  start = sound.start;
  enclaves = enclaves;
  plans = no-plans es d.plans (no_plans d (part_of s) (omega arith) (in-order d s h));
  scripts = no-scripts es d.scripts (no_scripts d (part_of s) (omega arith) (in-order d s h));
}

pub keep-sound : (n : ℕ) (d : Draft) (s : Statement) → IsSound d → HasNoFault d s → IsSpelled s → IsSound (keep n d s)
unfolding keep
keep-sound n d (says.Epc frames) sound h spelled = record {
  frames = epc-range d frames h;
  marks = sound.marks;
  key = sound.key;
  start = sound.start;
  enclaves = sound.enclaves;
  plans = sound.plans;
  scripts = sound.scripts;
}
keep-sound n d (says.Marks low high scan) sound h spelled = record {
  frames = sound.frames;
  marks = marks-range d low high scan h;
  key = sound.key;
  start = sound.start;
  enclaves = sound.enclaves;
  plans = sound.plans;
  scripts = sound.scripts;
}
keep-sound n d (says.Key key) sound h spelled = record {
  frames = sound.frames;
  marks = sound.marks;
  key = spelled;
  start = sound.start;
  enclaves = sound.enclaves;
  plans = sound.plans;
  scripts = sound.scripts;
}
keep-sound n d (says.Start start) sound h spelled = record {
  frames = sound.frames;
  marks = sound.marks;
  key = sound.key;
  start = (let range = start-range d start h in (range.0, range.1, range.2, spelled));
  enclaves = sound.enclaves;
  plans = sound.plans;
  scripts = sound.scripts;
}
keep-sound n d (says.Enclave enclave base size) sound h spelled =
    with-enclaves d (says.Enclave enclave base size) _ _ sound h refl (enclave-sound d enclave base size sound.enclaves h spelled)
keep-sound n d (says.Tcs page ossa nssa plain) sound h spelled =
    with-enclaves d (says.Tcs page ossa nssa plain) _ _ sound h refl (tcs-sound n d page ossa nssa plain sound.enclaves h)
keep-sound n d (says.Reg first count perm value plain) sound h spelled =
    with-enclaves d (says.Reg first count perm value plain) _ _ sound h refl
    (reg-sound d first count perm value plain sound.enclaves h spelled)
keep-sound n d (says.Expect digest) sound h spelled =
    with-enclaves d (says.Expect digest) _ _ sound h refl (digest-sound d.tcs_lines d.enclaves digest sound.enclaves spelled)
keep-sound n d (says.Plan plan) sound h spelled = record {
  frames = sound.frames;
  marks = sound.marks;
  key = sound.key;
  start = sound.start;
  enclaves = sound.enclaves;
  plans = plan-sound d plan sound.plans h spelled;
  scripts = sound.scripts;
}
keep-sound n d (says.Cpu number) sound h spelled = record {
  frames = sound.frames;
  marks = sound.marks;
  key = sound.key;
  start = sound.start;
  enclaves = sound.enclaves;
  plans = sound.plans;
  scripts = cpu-sound d number sound.scripts h;
}
keep-sound n d (says.Operation op) sound h spelled = record {
  frames = sound.frames;
  marks = sound.marks;
  key = sound.key;
  start = sound.start;
  enclaves = sound.enclaves;
  plans = sound.plans;
  scripts = op-sound d op sound.scripts h spelled;
}
