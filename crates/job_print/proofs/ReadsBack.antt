-- Reading the text of a valid job gives the job.
use Rattle.std.proofs.Common.{Err, ◌≡◌, ℕ, ◌+◌, ◌-◌, ◌^◌, ◌≤◌, not, Bool, true, false, List, [], ◌∷◌}
use Rattle.std.proofs.Common.{◌++◌, None, Ok, find, length, All, refl, sym, ap, ◌∙◌, arith}
use Rattle.std.proofs.lemmas.Bool.{and_from, le-leb, lt-ltb, ne_eqb}
use Rattle.std.proofs.lemmas.List.Elements.{All-head, All-nil, All-tail}
use Rattle.job_grammar.specs.Jobs.{JobView}
use Rattle.job_grammar.specs.inner.Valid.{IsValid}
use Rattle.job_lines.specs.Words.{lines_of}
use Rattle.job_text.specs.declared.tcs_lines.TcsLine.{TcsLine}
use Rattle.job_text.specs.Drafts.{Draft, empty_draft, has_some, job_of, keep}
use Rattle.job_text.specs.Faults.{is_between, is_in_range, is_missing, is_out_of_order, is_shared, is_too_many, is_twice}
use Rattle.job_text.specs.Reading.{Read, has_save_pages, is_incomplete, read, read_lines, unsaved_line, whole}
use Rattle.job_text.proofs.ReadLaws.{read_whole}
use Rattle.job_text.proofs.WholeLaws.{whole_job}
use Rattle.job_print.specs.JobText.{enclave_says, job_says, job_text, numbered, options_say, plans_say, script_says}
use Rattle.job_print.proofs.Stands.{Stands}
use Rattle.job_print.proofs.Leads.{Leads, leads-fit, leads-on, leads-read}
use Rattle.job_print.proofs.LineTexts.{lines-back}
use Rattle.job_print.proofs.EnclaveLeads.{enclaves-lead}
use Rattle.job_print.proofs.RunLeads.{plans-lead, scripts-lead}
use Rattle.job_print.proofs.Sizes.{text-short}

-- ---- the options

options-lead : (j : JobView) → IsValid j → Leads 1 empty_draft (options_say j) (Stands j [] [] [])
unfolding is_out_of_order is_twice is_in_range is_too_many is_missing is_shared keep
options-lead j valid =
    let m = valid.marks in
    let epc : is_between 1 4096 j.epc ≡ true = and_from _ _ (le-leb 1 j.epc valid.some_frames) (le-leb j.epc 4096 valid.few_frames) in
    let scan : is_between 1 64 j.marks.scan ≡ true = and_from _ _ (le-leb 1 j.marks.scan m.3) (le-leb j.marks.scan 64 m.4) in
    let epoch : is_between 1 (2 ^ 40 - 1) j.start_epoch ≡ true =
    and_from _ _ (le-leb 1 j.start_epoch valid.some_epoch) (le-leb j.start_epoch (2 ^ 40 - 1) valid.few_epochs) in
    let marks = and_from _ _ (and_from _ _ (and_from _ _ (le-leb 1 j.marks.low m.0) (lt-ltb j.marks.low j.marks.high m.1))
    (le-leb j.marks.high 4096 m.2)) scan in (
      omega (arith, valid.few_frames),
      record { order = refl; once = refl; range = epc; few = refl; stands = refl; own = refl },
      (
        (omega (arith, m.1, m.2), omega (arith, m.2), omega (arith, m.4)),
        record { order = refl; once = refl; range = marks; few = refl; stands = refl; own = refl },
        (
          valid.key,
          record { order = refl; once = refl; range = refl; few = refl; stands = refl; own = refl },
          (
            (omega (arith, valid.few_epochs), valid.few_versions),
            record {
              order = refl;
              once = refl;
              range = and_from _ _ epoch (le-leb 1 j.start_version valid.some_version);
              few = refl;
              stands = refl;
              own = refl;
            },
            record {
              epc = refl;
              marks = refl;
              key = refl;
              start = refl;
              enclaves = refl;
              plans = refl;
              scripts = refl;
              saved = All-nil (λ t. has_save_pages j.enclaves t ≡ true);
            },
          ),
        ),
      ),
    )

-- ---- all lines

Whole : JobView → Draft → Type 0
Whole j d = Stands j j.enclaves j.plans j.scripts d

job-leads : (j : JobView) → IsValid j → Leads 1 empty_draft (job_says j) (Whole j)
unfolding Whole
job-leads j valid =
    leads-on 1 empty_draft (options_say j ++ numbered enclave_says 1 j.enclaves ++ plans_say j.plans) (numbered script_says 0 j.scripts)
    (Stands j j.enclaves j.plans []) (Whole j)
    (leads-on 1 empty_draft (options_say j ++ numbered enclave_says 1 j.enclaves) (plans_say j.plans) (Stands j j.enclaves [] []) _
    (leads-on 1 empty_draft (options_say j) (numbered enclave_says 1 j.enclaves) (Stands j [] [] []) _ (options-lead j valid)
    (λ n d h. enclaves-lead n d j [] j.enclaves refl valid.enclaves valid.few_enclaves valid.few_pages h))
    (λ n d h. plans-lead j valid n d [] j.plans refl h))
    (λ n d h. scripts-lead j valid n d [] j.scripts refl h)

-- ---- the whole

none-unsaved : (p : TcsLine → Bool) (ts : List TcsLine) → All (λ t. p t ≡ true) ts → find (λ t. not (p t)) ts ≡ None
none-unsaved p [] all = refl
none-unsaved p (t ∷ ts) all =
    rw (All-head (λ t. p t ≡ true) t ts all) (none-unsaved p ts (All-tail (λ t. p t ≡ true) t ts all))

some-of : {X : Type 0} (xs : List X) → 1 ≤ length xs → has_some xs ≡ true
some-of [] some = absurd (omega (arith, some))
some-of (x ∷ xs) some = rw (ne_eqb (length (x ∷ xs)) 0 (λ e. omega arith)) refl

job-same : (j : JobView) (d : Draft) → Whole j d → job_of j.epc d ≡ j
unfolding Whole job_of
job-same j d h = rw (h.marks, h.key, h.start, h.enclaves, h.plans, h.scripts) refl

whole-is : (n : ℕ) (j : JobView) (d : Draft) → IsValid j → Whole j d → whole n d ≡ Ok j
unfolding Whole
whole-is n j d valid h =
    let same = job-same j d h in
    let complete : is_incomplete d ≡ false =
    rw (h.epc, h.enclaves, h.scripts, some-of j.enclaves valid.some_enclaves, some-of j.scripts valid.some_scripts) refl in
    let saved : unsaved_line d ≡ None = rw h.enclaves (none-unsaved (has_save_pages j.enclaves) d.tcs_lines h.saved) in
    whole_job n d j.epc complete h.epc saved (rw same valid.enough_frames) ∙ ap (λ (job : JobView). Ok job) same

pub reads_back : (j : JobView) → IsValid j → read (job_text j) ≡ Ok j
unfolding job_text Whole
reads_back j valid =
    let leads = job-leads j valid in
    let fits = leads-fit 1 empty_draft (job_says j) (Whole j) leads in
    let got = leads-read 1 empty_draft (job_says j) (Whole j) leads in
    let lines = lines-back (job_says j) fits in
    read_whole (job_text j) got.0 (text-short j valid fits)
    (sym (ap (read_lines 1 empty_draft) lines ∙ got.2))
    ∙ whole-is (length (lines_of (job_text j)) + 1) j got.0 valid got.1

pub text_reads_back : (j : JobView) (text : List ℕ) → IsValid j → text ≡ job_text j → read text ≡ Ok j
text_reads_back j text valid is = rw is (reads_back j valid)

abbrev job_in : Read → JobView → JobView
job_in (Ok j) other = j
job_in (Err fault) other = other

pub one_text : (one other : JobView) → IsValid one → IsValid other → job_text one ≡ job_text other → one ≡ other
one_text one other valid valid' same =
    ap (λ r. job_in r one) (sym (reads_back one valid) ∙ ap read same ∙ reads_back other valid')
