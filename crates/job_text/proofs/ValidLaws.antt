-- A sound draft that passes the checks of the whole is a valid job.
use Rattle.std.proofs.Common.{◌≡◌, ℕ, zero, suc, ◌+◌, ◌<◌, ◌≤◌, ◌||◌, ◌⊎◌, not, Bool, true, false, List, []}
use Rattle.std.proofs.Common.{◌∷◌, Option, Some, None, Result, Ok, IfSome, find, length, replicate, unwrap_or, All, refl, sym}
use Rattle.std.proofs.Common.{◌∙◌, arith, inl, inr}
use Rattle.std.specs.List.{slice_get}
use Rattle.std.proofs.lemmas.Bool.{cases_Bool, cases_lt, and_parts}
use Rattle.std.proofs.lemmas.List.Elements.{All-nil, All-cons, All-head, All-replicate, All-tail, All-weaker}
use Rattle.sgx_types.specs.Digests.{IsDigest}
use Rattle.job_grammar.specs.declared.jobs.PageLine.{PageLine}
use Rattle.job_grammar.specs.declared.jobs.PageLine.TheVariants as pages
use Rattle.job_grammar.specs.Jobs.{EnclaveView, JobView, default_marks, is_save_page, lines_at, lines_in, needed}
use Rattle.job_grammar.specs.inner.Valid.{AreValidMarks, HasSavePages, IsValid, IsValidEnclave}
use Rattle.job_text.specs.declared.refusals.Fault.{Fault}
use Rattle.job_text.specs.declared.tcs_lines.TcsLine.{TcsLine}
use Rattle.job_text.specs.Drafts.{Draft, first_start, has_some, job_of}
use Rattle.job_text.specs.Reading.{are_save_pages, has_save_pages, is_incomplete, unsaved_line, whole}
use Rattle.job_text.specs.inner.Sound.{AreNoted, IsNoted, IsSound, IsSoundEnclave, IsSoundStart, tests}
use Rattle.job_text.proofs.WholeLaws.{whole_incomplete, whole_job, whole_none, whole_small, whole_unsaved}

-- ---- state save pages

find-none : {X : Type 0} (p : X → Bool) (xs : List X) → find (λ x. not (p x)) xs ≡ None → All (λ x. p x ≡ true) xs
find-none p [] e = All-nil (λ x. p x ≡ true)
find-none p (x ∷ xs) e =
    elim (cases_Bool (p x)) [
      | inl passes ↦ All-cons (λ y. p y ≡ true) x xs passes (find-none p xs (rw passes at e))
      | inr fails ↦ (let some = rw fails at e in absurd cc)
    ]

are-saved : (es : List EnclaveView) (enclave first count : ℕ) → are_save_pages es enclave first count ≡ true → (n : ℕ) → first ≤ n
    → n < first + count
    → is_save_page (lines_at es enclave) n ≡ true
are-saved es enclave first zero e n low high = absurd (omega arith)
are-saved es enclave first (suc count) e n low high =
    let p = and_parts (is_save_page (lines_at es enclave) (first + count)) (are_save_pages es enclave first count) e in
    elim (cases_lt n (first + count)) [
      | inl less ↦ are-saved es enclave first count p.1 n low less
      | inr past ↦ (let same : n ≡ first + count = omega arith in rw same p.0)
    ]

line-saved : (es : List EnclaveView) (ts : List TcsLine) (n : ℕ) (lines : List PageLine) → All (tests (are_save_pages es)) ts
    → lines_at es n ≡ lines
    → (line : PageLine) → IsNoted ts n line → HasSavePages lines line
line-saved es ts n lines all here (pages.Tcs page ossa nssa plain) noted =
    λ m low high. rw (← here) (are-saved es n ossa nssa (noted (are_save_pages es) all) m low high)
line-saved es ts n lines all here (pages.Reg first count perm value plain) noted = tt

-- the enclaves from number n on
enclaves-valid : (full : List EnclaveView) (ts : List TcsLine) (n : ℕ) (es : List EnclaveView) → All IsSoundEnclave es → AreNoted ts n es
    → All (tests (are_save_pages full)) ts
    → ((k : ℕ) → lines_at full (n + k) ≡ lines_in (slice_get es k)) → All IsValidEnclave es
enclaves-valid full ts n [] each noted all here = All-nil IsValidEnclave
enclaves-valid full ts n (e ∷ es) each noted all here =
    let first = All-head IsSoundEnclave e es each in
    All-cons IsValidEnclave e es
    (record {
      range = first.range;
      top = first.top;
      lines = first.lines;
      once = first.once;
      saved = All-weaker (IsNoted ts n) (HasSavePages e.lines) (line-saved full ts n e.lines all
          (let none : n + 0 ≡ n = omega arith in rw none at (here 0))) e.lines noted.0;
      expect = first.expect;
    })
    (enclaves-valid full ts (n + 1) es (All-tail IsSoundEnclave e es each) noted.1 all
    (λ k. let at : n + 1 + k ≡ n + suc k = omega arith in rw at (here (suc k))))

-- ---- options

unwrap-holds : {X : Type 0} (P : X → Type 0) (o : Option X) (x : X) → IfSome o P → P x → P (unwrap_or o x)
unwrap-holds P None x some default = default
unwrap-holds P (Some y) x some default = some

default-marks : (n : ℕ) → 6 ≤ n → n ≤ 4096 → AreValidMarks (default_marks n)
default-marks n low high = (omega arith, omega arith, omega arith, omega arith, omega arith)

zero-key : IsDigest (replicate 32 0)
zero-key = record { sized = refl; bytes = All-replicate (λ b. b < 256) 32 0 (omega arith) }

-- ---- the whole

some-of : {X : Type 0} (xs : List X) → not (has_some xs) ≡ false → 1 ≤ length xs
some-of [] e = absurd cc
some-of (x ∷ xs) e = omega arith

or-none : (a b c : Bool) → (a || b || c) ≡ false → (b ≡ false) × (c ≡ false)
or-none true b c e = absurd cc
or-none false true c e = absurd cc
or-none false false c e = (refl, e)

job-valid : (d : Draft) (frames : ℕ) → IsSound d → d.epc ≡ Some frames → is_incomplete d ≡ false → unsaved_line d ≡ None
    → needed (job_of frames d) ≤ frames → IsValid (job_of frames d)
unfolding job_of
job-valid d frames sound epc whole saved enough =
    let range = rw epc at sound.frames in
    let some = or-none _ _ _ whole in
    let enclaves = some-of d.enclaves some.0 in
    let scripts = some-of d.scripts some.1 in
    let start = unwrap-holds IsSoundStart d.start first_start sound.start (omega arith, omega arith, omega arith, omega arith) in
    record {
      some_frames = range.0;
      few_frames = range.1;
      enough_frames = enough;
      marks = unwrap-holds AreValidMarks d.marks (default_marks frames) sound.marks (default-marks frames (omega arith) range.1);
      key = unwrap-holds IsDigest d.key (replicate 32 0) sound.key zero-key;
      some_epoch = start.0;
      few_epochs = start.1;
      some_version = start.2;
      few_versions = start.3;
      some_enclaves = enclaves;
      few_enclaves = sound.enclaves.few;
      enclaves = enclaves-valid d.enclaves d.tcs_lines 1 d.enclaves sound.enclaves.each sound.enclaves.noted
          (find-none (has_save_pages d.enclaves) d.tcs_lines saved)
          (λ k. let one : 1 + k ≡ suc k = omega arith in rw one refl);
      few_pages = sound.enclaves.few_pages;
      few_plans = sound.plans.few;
      plans = sound.plans.each;
      some_scripts = scripts;
      few_scripts = sound.scripts.few;
      few_ops = sound.scripts.few_ops;
      ops = sound.scripts.each;
      own = sound.scripts.own;
    }

option_cases : {X : Type 0} (o : Option X) → (o ≡ None) ⊎ ((x : X) × (o ≡ Some x))
option_cases None = inl refl
option_cases (Some x) = inr (x, refl)

-- the job that a sound draft gives is valid
pub whole-valid : (n : ℕ) (d : Draft) (job : JobView) → IsSound d → whole n d ≡ Ok job → IsValid job
whole-valid n d job sound e =
    elim (cases_Bool (is_incomplete d)) [
      | inl incomplete ↦ (let two = sym (whole_incomplete n d incomplete) ∙ e in absurd cc)
      | inr there ↦ elim (option_cases d.epc) [
        | inl none ↦ (let two = sym (whole_none n d none) ∙ e in absurd cc)
        | inr epc ↦ elim (option_cases (unsaved_line d)) [
          | inr unsaved ↦ (let two = sym (whole_unsaved n d epc.0 unsaved.0 there epc.1 unsaved.1) ∙ e in absurd cc)
          | inl saved ↦ elim (cases_lt epc.0 (needed (job_of epc.0 d))) [
            | inl small ↦ (let two = sym (whole_small n d epc.0 there epc.1 saved small) ∙ e in absurd cc)
            | inr enough ↦ (let same : job ≡ job_of epc.0 d = ok-same job (job_of epc.0 d)
                (sym e ∙ whole_job n d epc.0 there epc.1 saved enough) in
                rw same (job-valid d epc.0 sound epc.1 there saved enough))
          ]
        ]
      ]
    ]
  where
    ok-same : (a b : JobView) → ◌≡◌ {A = Result JobView Fault} (Ok a) (Ok b) → a ≡ b
    ok-same a b h = cc
