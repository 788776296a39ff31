-- The lines of the enclaves of a valid job have no fault where they stand.
use Rattle.std.proofs.Common.{◌≡◌, ℕ, suc, ◌+◌, ◌/◌, ◌^◌, ◌<◌, ◌≤◌, nat_lt, Bool, true, false, List, []}
use Rattle.std.proofs.Common.{◌∷◌, ◌++◌, Option, Some, None, IfSome, map, length, sum_by, All, refl, sym, ap, subst, ◌∙◌}
use Rattle.std.proofs.Common.{arith}
use Rattle.std.proofs.lemmas.Bool.{and_from, eq-eqb, le-leb, le-ltb, lt-ltb}
use Rattle.std.proofs.lemmas.List.{append-nil, length-append}
use Rattle.std.proofs.lemmas.List.Elements.{All-push}
use Rattle.sgx_types.specs.Lawful.{is_lawful}
use Rattle.sgx_types.specs.declared.names.Perm.{Perm}
use Rattle.sgx_types.specs.Digests.{IsDigest}
use Rattle.job_grammar.specs.declared.jobs.PageLine.{PageLine}
use Rattle.job_grammar.specs.declared.jobs.PageLine.TheVariants as pages
use Rattle.job_grammar.specs.Jobs.{EnclaveView, JobView, enclave_pages, first_page, is_save_page, page_count}
use Rattle.job_grammar.specs.inner.Valid.{HasSavePages, IsValidEnclave, IsValidLine}
use Rattle.job_grammar.proofs.EnclaveLaws.{lawful-size}
use Rattle.job_lines.specs.declared.statements.Statement.TheVariants as says
use Rattle.job_text.specs.declared.tcs_lines.TcsLine.{TcsLine}
use Rattle.job_text.specs.Drafts.{Draft, add_digest, add_page, keep, last, new_enclave}
use Rattle.job_text.specs.Faults.{added_pages, is_any_added, is_in_range, is_missing, is_out_of_order, is_shared, is_too_many}
use Rattle.job_text.specs.Faults.{is_twice}
use Rattle.job_text.specs.Faults.{lines_here}
use Rattle.job_text.specs.Reading.{are_save_pages, has_save_pages}
use Rattle.job_print.specs.JobText.{enclave_says, expect_says, numbered, page_says}
use Rattle.job_print.proofs.Stands.{Stands, begun_enclave}
use Rattle.job_print.proofs.Leads.{Leads, Steps, leads-on}
use Rattle.job_print.proofs.ListLaws.{All-seam, change_last-push, last-length, last-push, push-push, sum-seam}
use Rattle.job_print.proofs.PartLaws.{all-saved, apart, lines-there, no-plan, not-true, or-false, some-push}

-- ---- the line of an enclave

pub enclave-step : (n : ℕ) (d : Draft) (j : JobView) (done : List EnclaveView) (number base size : ℕ) → Stands j done [] [] d
    → number ≡ length done + 1 → number ≤ 8 → is_lawful base size ≡ true → base + size ≤ 2 ^ 47
    → Steps n d (says.Enclave number base size) (Stands j (done ++ new_enclave base size ∷ []) [] [])
unfolding is_out_of_order is_twice is_in_range is_too_many is_missing is_shared keep
enclave-step n d j done number base size h is few lawful top = (
  ((omega (arith, is), few), omega (arith, top), omega (arith, top)),
  record {
    order = or-false _ _ (no-plan d h.plans h.scripts)
        (not-true _ (eq-eqb number (length d.enclaves + 1) (is ∙ ap (λ (es : List EnclaveView). length es + 1) (sym h.enclaves))));
    once = refl;
    range = and_from _ _ lawful (le-leb (base + size) (2 ^ 47) top);
    few = refl;
    stands = refl;
    own = refl;
  },
  record {
    epc = h.epc;
    marks = h.marks;
    key = h.key;
    start = h.start;
    enclaves = ap (λ (es : List EnclaveView). es ++ new_enclave base size ∷ []) h.enclaves;
    plans = h.plans;
    scripts = h.scripts;
    saved = h.saved;
  },
)

-- ---- a line of pages of an enclave

-- an enclave of the job, behind others, of which the lines in front were read
pub record IsAt (j : JobView) (done : List EnclaveView) (e : EnclaveView) (rest : List EnclaveView) : Type 0 where
  pub all : j.enclaves ≡ done ++ e ∷ rest
  pub valid : IsValidEnclave e
  pub few : length done + 1 ≤ 8
  pub pages : sum_by enclave_pages done + enclave_pages e ≤ 4096

module _ (j : JobView) (done : List EnclaveView) (e : EnclaveView) (rest : List EnclaveView) (at : IsAt j done e rest) where
  abbrev Begun : List PageLine → Draft → Type 0
  Begun front d = Stands j (done ++ begun_enclave e front ∷ []) [] [] d

  here : (front : List PageLine) (d : Draft) → Begun front d → last d.enclaves ≡ Some (begun_enclave e front)
  here front d h = ap last h.enclaves ∙ last-push done (begun_enclave e front)

  room : (d : Draft) (front : List PageLine) (line : PageLine) (behind : List PageLine) → Begun front d
      → e.lines ≡ front ++ line ∷ behind → nat_lt 4096 (added_pages d + page_count line) ≡ false
  room d front line behind h lines =
      let added : added_pages d ≡ sum_by enclave_pages done + (sum_by page_count front + 0) =
      ap (sum_by enclave_pages) h.enclaves ∙ sum-seam enclave_pages done (begun_enclave e front) [] in
      let all : enclave_pages e ≡ sum_by page_count front + (page_count line + sum_by page_count behind) =
      ap (sum_by page_count) lines ∙ sum-seam page_count front line behind in
      le-ltb 4096 (added_pages d + page_count line) (omega (arith, added, all, at.pages))

  free : (d : Draft) (front : List PageLine) (line : PageLine) (behind : List PageLine) → Begun front d
      → e.lines ≡ front ++ line ∷ behind → is_any_added (first_page line) (page_count line) (lines_here d) ≡ false
  free d front line behind h lines =
      rw (here front d h) (apart front line behind (λ n. rw (← lines) (at.valid.once n)))

  valid-line : (front : List PageLine) (line : PageLine) (behind : List PageLine) → e.lines ≡ front ++ line ∷ behind
      → IsValidLine (e.size / 4096) line
  valid-line front line behind lines = All-seam (IsValidLine (e.size / 4096)) front line behind (rw (← lines) at.valid.lines)

  more : (n : ℕ) (d : Draft) (front : List PageLine) (line : PageLine) (ts : List TcsLine) → Begun front d
      → All (λ t. has_save_pages j.enclaves t ≡ true) ts
      → Begun (front ++ line ∷ []) (record d { enclaves = add_page line d.enclaves; tcs_lines = ts })
  more n d front line ts h saved = record {
    epc = h.epc;
    marks = h.marks;
    key = h.key;
    start = h.start;
    enclaves = ap (add_page line) h.enclaves
        ∙ change_last-push (λ x. record x { lines = x.lines ++ line ∷ [] }) done (begun_enclave e front);
    plans = h.plans;
    scripts = h.scripts;
    saved = saved;
  }

  number-here : (d : Draft) (front : List PageLine) → Begun front d → length d.enclaves ≡ suc (length done)
  number-here d front h = ap (λ (es : List EnclaveView). length es) h.enclaves ∙ last-length done (begun_enclave e front)

  saves-there : (d : Draft) (front : List PageLine) (ossa nssa : ℕ) → Begun front d
      → ((n : ℕ) → ossa ≤ n → n < ossa + nssa → is_save_page e.lines n ≡ true)
      → are_save_pages j.enclaves (length d.enclaves) ossa nssa ≡ true
  saves-there d front ossa nssa h saved =
      all-saved j.enclaves (length d.enclaves) ossa nssa
      (λ n low high. rw (number-here d front h, at.all, lines-there done e rest) (saved n low high))

  tcs-step : (n : ℕ) (d : Draft) (front : List PageLine) (page ossa nssa : ℕ) (plain : Bool) (behind : List PageLine) → Begun front d
      → e.lines ≡ front ++ pages.Tcs page ossa nssa plain ∷ behind
      → Steps n d (says.Tcs page ossa nssa plain) (Begun (front ++ pages.Tcs page ossa nssa plain ∷ []))
  unfolding is_out_of_order is_twice is_in_range is_too_many is_missing is_shared keep
  tcs-step n d front page ossa nssa plain behind h lines =
      let line : PageLine = pages.Tcs page ossa nssa plain in
      let v = valid-line front line behind lines in
      let saved = All-seam (HasSavePages e.lines) front line behind (subst (λ ls. All (HasSavePages e.lines) ls) lines at.valid.saved) in
      let small = lawful-size e at.valid in (
        (omega (arith, v.2, small), omega (arith, v.3, small), omega (arith, v.1)),
        record {
          order = or-false _ _ (no-plan d h.plans h.scripts) (rw h.enclaves (not-true _ (some-push done (begun_enclave e front))));
          once = free d front line behind h lines;
          range = rw (here front d h)
              (and_from _ _ (and_from _ _ (and_from _ _ (le-leb 1 nssa v.0) (le-leb nssa 16 v.1)) (lt-ltb page (e.size / 4096) v.2))
              (le-leb (ossa + nssa) (e.size / 4096) v.3));
          few = room d front line behind h lines;
          stands = refl;
          own = refl;
        },
        more n d front line _ h
            (All-push (λ t. has_save_pages j.enclaves t ≡ true) d.tcs_lines
            (record { line = n; enclave = length d.enclaves; ossa = ossa; nssa = nssa }) h.saved (saves-there d front ossa nssa h saved)),
      )

  reg-step : (n : ℕ) (d : Draft) (front : List PageLine) (first count : ℕ) (perm : Perm) (value : ℕ) (plain : Bool)
      (behind : List PageLine) → Begun front d → e.lines ≡ front ++ pages.Reg first count perm value plain ∷ behind
      → Steps n d (says.Reg first count perm value plain) (Begun (front ++ pages.Reg first count perm value plain ∷ []))
  unfolding is_out_of_order is_twice is_in_range is_too_many is_missing is_shared keep
  reg-step n d front first count perm value plain behind h lines =
      let line : PageLine = pages.Reg first count perm value plain in
      let v = valid-line front line behind lines in
      let small = lawful-size e at.valid in (
        (omega (arith, v.1, small), omega (arith, v.1, small), v.2, v.3),
        record {
          order = or-false _ _ (no-plan d h.plans h.scripts) (rw h.enclaves (not-true _ (some-push done (begun_enclave e front))));
          once = free d front line behind h lines;
          range = rw (here front d h) (and_from _ _ (le-leb 1 count v.0) (le-leb (first + count) (e.size / 4096) v.1));
          few = room d front line behind h lines;
          stands = refl;
          own = refl;
        },
        more n d front line d.tcs_lines h h.saved,
      )

  page-step : (n : ℕ) (d : Draft) (front : List PageLine) (line : PageLine) (behind : List PageLine) → Begun front d
      → e.lines ≡ front ++ line ∷ behind → Steps n d (page_says line) (Begun (front ++ line ∷ []))
  page-step n d front (pages.Tcs page ossa nssa plain) behind h lines = tcs-step n d front page ossa nssa plain behind h lines
  page-step n d front (pages.Reg first count perm value plain) behind h lines =
      reg-step n d front first count perm value plain behind h lines

  pages-lead : (n : ℕ) (d : Draft) (front behind : List PageLine) → Begun front d → e.lines ≡ front ++ behind
      → Leads n d (map page_says behind) (Begun e.lines)
  pages-lead n d front [] h lines = subst (λ ls. Begun ls d) (sym (lines ∙ append-nil front)) h
  pages-lead n d front (line ∷ behind) h lines =
      let step = page-step n d front line behind h lines in (
        step.0,
        step.1,
        pages-lead (n + 1) (keep n d (page_says line)) (front ++ line ∷ [])
            behind step.2 (lines ∙ push-push front line behind),
      )

  -- ---- the digest that is expected

  digest-step : (n : ℕ) (d : Draft) (digest : List ℕ) → Begun e.lines d → IsDigest digest
      → Steps n d (says.Expect digest) (Stands j (done ++ record (begun_enclave e e.lines) { expect = Some digest } ∷ []) [] [])
  unfolding is_out_of_order is_twice is_in_range is_too_many is_missing is_shared keep
  digest-step n d digest h is = (
    is,
    record {
      order = or-false _ _ (no-plan d h.plans h.scripts) (rw h.enclaves (not-true _ (some-push done (begun_enclave e e.lines))));
      once = rw (here e.lines d h) refl;
      range = refl;
      few = refl;
      stands = refl;
      own = refl;
    },
    record {
      epc = h.epc;
      marks = h.marks;
      key = h.key;
      start = h.start;
      enclaves = ap (add_digest digest) h.enclaves
          ∙ change_last-push (λ x. record x { expect = Some digest }) done (begun_enclave e e.lines);
      plans = h.plans;
      scripts = h.scripts;
      saved = h.saved;
    },
  )

  expect-leads : (n : ℕ) (d : Draft) (expect : Option (List ℕ)) → Begun e.lines d → IfSome expect IsDigest
      → Leads n d (expect_says expect) (Stands j (done ++ record (begun_enclave e e.lines) { expect = expect } ∷ []) [] [])
  expect-leads n d None h is = h
  expect-leads n d (Some digest) h is = digest-step n d digest h is

  -- ---- the whole enclave

  pub enclave-leads : (n : ℕ) (d : Draft) → Stands j done [] [] d
      → Leads n d (enclave_says (length done + 1) e) (Stands j (done ++ e ∷ []) [] [])
  enclave-leads n d h =
      let first = enclave-step n d j done (length done + 1) e.base e.size h refl at.few at.valid.range at.valid.top in (
        first.0,
        first.1,
        leads-on (n + 1) _ (map page_says e.lines) (expect_says e.expect) (Begun e.lines) _
            (pages-lead (n + 1) _ [] e.lines first.2 refl)
            (λ m f begun. expect-leads m f e.expect begun at.valid.expect),
      )

-- ---- all enclaves

pub enclaves-lead : (n : ℕ) (d : Draft) (j : JobView) (done rest : List EnclaveView) → j.enclaves ≡ done ++ rest
    → All IsValidEnclave j.enclaves → length j.enclaves ≤ 8 → sum_by enclave_pages j.enclaves ≤ 4096 → Stands j done [] [] d
    → Leads n d (numbered enclave_says (length done + 1) rest) (Stands j j.enclaves [] [])
enclaves-lead n d j done [] all valid few pages h = subst (λ es. Stands j es [] [] d) (sym (all ∙ append-nil done)) h
enclaves-lead n d j done (e ∷ rest) all valid few pages h =
    let counted = ap (λ (es : List EnclaveView). length es) all in
    let summed = ap (sum_by enclave_pages) all ∙ sum-seam enclave_pages done e rest in
    let at : IsAt j done e rest = record {
      all = all;
      valid = All-seam IsValidEnclave done e rest (rw (← all) valid);
      few = omega (arith, counted, few, length-append done (e ∷ rest));
      pages = omega (arith, summed, pages);
    } in
    let next : length (done ++ e ∷ []) + 1 ≡ length done + 1 + 1 = omega (arith, last-length done e) in
    leads-on n d (enclave_says (length done + 1) e) (numbered enclave_says (length done + 1 + 1) rest) (Stands j (done ++ e ∷ []) [] [])
    (Stands j j.enclaves [] []) (enclave-leads j done e rest at n d h)
    (λ m f begun. rw (← next) (enclaves-lead m f j (done ++ e ∷ []) rest (all ∙ push-push done e rest) valid few pages begun))
