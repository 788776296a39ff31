-- How commands end by what they say.
use Rattle.std.proofs.Common.{◌≡◌, ◌⊎◌, ℕ, List, [], Option, Some, None, Ok, Err, reverse, refl, sym, subst, inl, inr}
use Rattle.std.specs.Prelude.{IfSome}
use Rattle.audit_check.specs.declared.verdict.Verdict.TheVariants as verdicts
use Rattle.command_words.specs.declared.command.Command.{Command}
use Rattle.io_edges.specs.Sinks.{followed_by, GivesPart}
use Rattle.job_grammar.specs.Jobs.{JobView}
use Rattle.job_text.specs.Reading.{read}
use Rattle.trace_file.specs.Reading as old
use Rattle.trace_file.specs.Reading.{OfRead, Reads}
use Rattle.sgx_rules.specs.declared.entries.Entry.{Entry}
use Rattle.trace_text.specs.declared.edition.Edition.{Edition}
use Rattle.trace_text.specs.declared.edition.Edition.TheVariants as editions
use Rattle.page_commands.specs.declared.jobs.Unread.{Unread}
use Rattle.page_commands.specs.declared.jobs.Unread.TheVariants as unread
use Rattle.page_commands.specs.declared.status.Status.{Status}
use Rattle.page_commands.specs.declared.status.Status.TheVariants as statuses
use Rattle.page_commands.specs.Runs.{HasJob, job_fault_line}
use Rattle.page_commands.specs.Says.{Ends, Is, OfBoth, OfJob, OfTrace, Tells}
use Rattle.page_commands.specs.inner.Commands.{IsTextGiven}
use Rattle.page_commands.specs.inner.Runs.{IsFaultAnd, IsFaultOf}
use Rattle.command_words.specs.declared.telling.Telling.{Telling}
use Rattle.command_words.specs.declared.telling.Telling.TheVariants as tellings

-- ---- bytes

-- a source had some bytes
pub some_read : (left : Option (List ℕ)) (P : List ℕ → Type 0) → ((bytes : List ℕ) → P bytes) → OfRead left P
some_read None P all = ([], tt, all [])
some_read (Some bytes) P all = (bytes, refl, all bytes)

-- ---- what is said

-- whatever says more, ends so too
pub ends_map : (S T : Status → List ℕ → Type 0) → ((status : Status) (text : List ℕ) → S status text → T status text) → (status : Status)
    (out out' : Option (List ℕ)) → Ends S status out out' → Ends T status out out'
ends_map S T f statuses.ReadFault out out' e = e
ends_map S T f statuses.Memory out out' e = e
ends_map S T f statuses.WriteFault out out' (status, text, said, part) = (status, text, f status text said, part)
ends_map S T f statuses.Done out out' (text, said, is) = (text, f statuses.Done text said, is)
ends_map S T f statuses.BadJob out out' (text, said, is) = (text, f statuses.BadJob text said, is)
ends_map S T f statuses.BadWords out out' (text, said, is) = (text, f statuses.BadWords text said, is)
ends_map S T f statuses.AuditNo out out' (text, said, is) = (text, f statuses.AuditNo text said, is)
ends_map S T f statuses.Bus out out' (text, said, is) = (text, f statuses.Bus text said, is)
ends_map S T f statuses.BadTrace out out' (text, said, is) = (text, f statuses.BadTrace text said, is)
ends_map S T f statuses.Spent out out' (text, said, is) = (text, f statuses.Spent text said, is)

-- ---- texts that are none

-- the line on a trace
pub no_trace : (edition : Edition) (bytes : List ℕ) (line : ℕ) (Said : List Entry → Status → List ℕ → Type 0)
    → Reads edition bytes (Err line)
    → (status : Status) (text : List ℕ) → (status ≡ statuses.BadTrace) × (text ≡ old.trace_fault_line line)
    → OfTrace edition bytes Said status text
no_trace edition bytes line Said reads status text (is, told) = inr (is, (line, reads, told))

-- what is said of no trace is said whatever is asked of one
pub trace_map : (edition : Edition) (bytes : List ℕ) (S T : List Entry → Status → List ℕ → Type 0)
    → ((past : List Entry) (status : Status) (text : List ℕ) → S past status text → T past status text)
    → (status : Status) (text : List ℕ) → OfTrace edition bytes S status text → OfTrace edition bytes T status text
trace_map edition bytes S T f status text (inl (entries, reads, said)) = inl (entries, reads, f _ _ _ said)
trace_map edition bytes S T f status text (inr none) = inr none

pub job_map : (bytes : List ℕ) (S T : JobView → Status → List ℕ → Type 0)
    → ((j : JobView) (status : Status) (text : List ℕ) → S j status text → T j status text)
    → (status : Status) (text : List ℕ) → OfJob bytes S status text → OfJob bytes T status text
job_map bytes S T f status text (inl (j, spelt, said)) = inl (j, spelt, f _ _ _ said)
job_map bytes S T f status text (inr none) = inr none

-- of both: what is said of none of the two is said whatever is asked of them
pub both_map : (bytes old_bytes : List ℕ) (S T : JobView → List Entry → Status → List ℕ → Type 0)
    → ((j : JobView) (past : List Entry) (status : Status) (text : List ℕ) → S j past status text → T j past status text)
    → (status : Status) (text : List ℕ) → OfBoth bytes old_bytes S status text → OfBoth bytes old_bytes T status text
both_map bytes old_bytes S T f =
    job_map bytes (λ j. OfTrace editions.Two old_bytes (S j)) (λ j. OfTrace editions.Two old_bytes (T j))
    (λ j. trace_map editions.Two old_bytes (S j) (T j) (f j))

-- the line on a job, and the old trace is not read
pub no_job : (left old_left : Option (List ℕ)) (Same : Type 0) (why : Unread) (Said : JobView → List Entry → Status → List ℕ → Type 0)
    (status : Status) (out out' : Option (List ℕ)) → Same → IsFaultOf left why
    → Ends (λ status text. (status ≡ statuses.BadJob) × IsFaultAnd why (λ fault. text ≡ job_fault_line fault)) status out out'
    → OfRead left (λ bytes. (HasJob bytes ⊎ Same) × OfRead old_left (λ old_bytes. Ends (OfBoth bytes old_bytes Said) status out out'))
no_job left old_left Same (unread.Bad fault) Said status out out' same (bytes, is, spelt) ends =
    let Line : Status → List ℕ → Type 0 = λ s text. (s ≡ statuses.BadJob) × (text ≡ job_fault_line fault) in (
      bytes,
      is,
      (
        inr same,
        some_read old_left _ (λ old_bytes.
            ends_map Line (OfBoth bytes old_bytes Said) (λ s text said. inr (said.0, (fault, spelt, said.1))) status out out' ends),
      ),
    )
no_job left old_left Same unread.Failed Said status out out' same fault ends =
    let None : Status → List ℕ → Type 0 = λ s text. (s ≡ statuses.BadJob) × ⊥ in
    some_read left _ (λ bytes. (
      inr same,
      some_read old_left _ (λ old_bytes.
          ends_map None (OfBoth bytes old_bytes Said) (λ s text said. absurd said.1) status out out' ends),
    ))
no_job left old_left Same unread.Memory Said status out out' same fault ends =
    let None : Status → List ℕ → Type 0 = λ s text. (s ≡ statuses.BadJob) × ⊥ in
    some_read left _ (λ bytes. (
      inr same,
      some_read old_left _ (λ old_bytes.
          ends_map None (OfBoth bytes old_bytes Said) (λ s text said. absurd said.1) status out out' ends),
    ))

-- .. alone, and no run is made
pub no_run : (left : Option (List ℕ)) (why : Unread) (status : Status) (out out' : Option (List ℕ)) → IsFaultOf left why
    → Ends (λ status text. (status ≡ statuses.BadJob) × IsFaultAnd why (λ fault. text ≡ job_fault_line fault)) status out out'
    → OfRead left (λ bytes. Ends (OfJob bytes (λ j status text. ⊥)) status out out')
no_run left (unread.Bad fault) status out out' (bytes, is, spelt) ends =
    let Line : Status → List ℕ → Type 0 = λ s text. (s ≡ statuses.BadJob) × (text ≡ job_fault_line fault) in (
      bytes,
      is,
      ends_map Line (OfJob bytes (λ j status text. ⊥)) (λ s text said. inr (said.0, (fault, spelt, said.1))) status out out' ends,
    )
no_run left unread.Failed status out out' fault ends =
    let None : Status → List ℕ → Type 0 = λ s text. (s ≡ statuses.BadJob) × ⊥ in
    some_read left _ (λ bytes. ends_map None (OfJob bytes (λ j status text. ⊥)) (λ s text said. absurd said.1) status out out' ends)
no_run left unread.Memory status out out' fault ends =
    let None : Status → List ℕ → Type 0 = λ s text. (s ≡ statuses.BadJob) × ⊥ in
    some_read left _ (λ bytes. ends_map None (OfJob bytes (λ j status text. ⊥)) (λ s text said. absurd said.1) status out out' ends)

-- behind a job, what is said of a trace is said of both
of_trace : (bytes old_bytes : List ℕ) (j : JobView) (Said : JobView → List Entry → Status → List ℕ → Type 0) → read bytes ≡ Ok j
    → (status : Status) (text : List ℕ) → OfTrace editions.Two old_bytes (Said j) status text → OfBoth bytes old_bytes Said status text
of_trace bytes old_bytes j Said spelt status text said = inl (j, spelt, said)

-- the line on a trace behind a job
pub job_no_trace : (left old_left : Option (List ℕ)) (Same : Type 0) (j : JobView) (status : Status) (out out' : Option (List ℕ))
    → OfRead left (λ bytes. read bytes ≡ Ok j)
    → OfRead old_left (λ old_bytes. Ends (OfTrace editions.Two old_bytes (λ past status text. ⊥)) status out out')
    → OfRead left (λ bytes. (HasJob bytes ⊎ Same)
    × OfRead old_left (λ old_bytes. Ends (OfBoth bytes old_bytes (λ j past status text. ⊥)) status out out'))
job_no_trace left old_left Same j status out out' (bytes, is, spelt) (old_bytes, old_is, ends) = (
  bytes,
  is,
  (
    inl (j, spelt),
    (
      old_bytes,
      old_is,
      ends_map (OfTrace editions.Two old_bytes (λ past status text. ⊥)) (OfBoth bytes old_bytes (λ j past status text. ⊥))
          (of_trace bytes old_bytes j (λ j past status text. ⊥) spelt) status out out' ends,
    ),
  ),
)

-- ---- texts that are some

-- what was told of a job and of a trace's entries was told of their bytes
said_of : (bytes old_bytes : List ℕ) (j : JobView) (entries : List Entry) (Said : JobView → List Entry → Status → List ℕ → Type 0)
    (status : Status) (text : List ℕ) → read bytes ≡ Ok j → Reads editions.Two old_bytes (Ok entries) → Said j (reverse entries) status text
    → OfBoth bytes old_bytes Said status text
said_of bytes old_bytes j entries Said status text spelt reads said = inl (j, spelt, inl (entries, reads, said))

ends_told : (Said : Status → List ℕ → Type 0) (status : Status) (text : List ℕ) (out out' : Option (List ℕ))
    → (status ≡ statuses.Done) ⊎ (status ≡ statuses.AuditNo) → Said status text → out' ≡ followed_by out text → Ends Said status out out'
ends_told Said status text out out' (inl is) said got =
    subst (λ (s : Status). Ends Said s out out') (sym is) (text, subst (λ (s : Status). Said s text) is said, got)
ends_told Said status text out out' (inr is) said got =
    subst (λ (s : Status). Ends Said s out out') (sym is) (text, subst (λ (s : Status). Said s text) is said, got)

-- the output got the text
pub both_told : (left old_left : Option (List ℕ)) (Same : Type 0) (j : JobView) (entries : List Entry)
    (Said : JobView → List Entry → Status → List ℕ → Type 0) (status : Status) (text : List ℕ) (out out' : Option (List ℕ))
    → (status ≡ statuses.Done) ⊎ (status ≡ statuses.AuditNo) → OfRead left (λ bytes. read bytes ≡ Ok j)
    → OfRead old_left (λ bytes. Reads editions.Two bytes (Ok entries)) → Said j (reverse entries) status text
    → out' ≡ followed_by out text
    → OfRead left (λ bytes. (HasJob bytes ⊎ Same) × OfRead old_left (λ old_bytes. Ends (OfBoth bytes old_bytes Said) status out out'))
both_told left old_left Same j entries Said status text out out' kind (bytes, is, spelt) (old_bytes, old_is, reads) said got = (
  bytes,
  is,
  (
    inl (j, spelt),
    (
      old_bytes,
      old_is,
      ends_told (OfBoth bytes old_bytes Said) status text out out' kind
          (said_of bytes old_bytes j entries Said status text spelt reads said) got,
    ),
  ),
)

-- .. or a front of it
pub both_broke : (left old_left : Option (List ℕ)) (Same : Type 0) (j : JobView) (entries : List Entry)
    (Said : JobView → List Entry → Status → List ℕ → Type 0) (status : Status) (text : List ℕ) (out out' : Option (List ℕ))
    → OfRead left (λ bytes. read bytes ≡ Ok j)
    → OfRead old_left (λ bytes. Reads editions.Two bytes (Ok entries)) → Said j (reverse entries) status text
    → GivesPart out out' text
    → OfRead left (λ bytes. (HasJob bytes ⊎ Same)
    × OfRead old_left (λ old_bytes. Ends (OfBoth bytes old_bytes Said) statuses.WriteFault out out'))
both_broke left old_left Same j entries Said status text out out' (bytes, is, spelt) (old_bytes, old_is, reads) said part = (
  bytes,
  is,
  (
    inl (j, spelt),
    (
      old_bytes,
      old_is,
      (status, text, said_of bytes old_bytes j entries Said status text spelt reads said, part),
    ),
  ),
)

-- nothing was said
pub both_silent : (left old_left : Option (List ℕ)) (Same : Type 0) (j : JobView) (Said : JobView → List Entry → Status → List ℕ → Type 0)
    (out out' : Option (List ℕ)) → OfRead left (λ bytes. read bytes ≡ Ok j) → out' ≡ out
    → OfRead left (λ bytes. (HasJob bytes ⊎ Same)
    × OfRead old_left (λ old_bytes. Ends (OfBoth bytes old_bytes Said) statuses.Memory out out'))
both_silent left old_left Same j Said out out' (bytes, is, spelt) same =
    (bytes, is, (inl (j, spelt), some_read old_left _ (λ old_bytes. same)))

-- what is said of none of both is said whatever is asked of them
pub none_told : (left old_left : Option (List ℕ)) (Same : Type 0) (Said : JobView → List Entry → Status → List ℕ → Type 0)
    (status : Status) (out out' : Option (List ℕ))
    → OfRead left (λ bytes. (HasJob bytes ⊎ Same)
    × OfRead old_left (λ old_bytes. Ends (OfBoth bytes old_bytes (λ j past status text. ⊥)) status out out'))
    → OfRead left (λ bytes. (HasJob bytes ⊎ Same) × OfRead old_left (λ old_bytes. Ends (OfBoth bytes old_bytes Said) status out out'))
none_told left old_left Same Said status out out' (bytes, is, (job, (old_bytes, old_is, ends))) = (
  bytes,
  is,
  (
    job,
    (
      old_bytes,
      old_is,
      ends_map (OfBoth bytes old_bytes (λ j past status text. ⊥)) (OfBoth bytes old_bytes Said)
          (both_map bytes old_bytes (λ j past status text. ⊥) Said (λ j past status text none. absurd none)) status out out' ends,
    ),
  ),
)

-- ---- what is asked of both

-- it is told with one of two statuses
pub telling_ends : (telling : Telling) (j : JobView) (past : List Entry) (status : Status) (text : List ℕ)
    → Tells telling j past status text → (status ≡ statuses.Done) ⊎ (status ≡ statuses.AuditNo)
telling_ends tellings.Least j past status text said = inl said.0
telling_ends (tellings.Judge rules) j past status text (verdicts.Yes, judged, is, told) = inl is
telling_ends (tellings.Judge rules) j past status text (verdicts.No place rule, judged, is, told) = inr is
telling_ends (tellings.Ask question) j past status text said = inl said.0

-- ---- a trace alone

pub trace_none : (left : Option (List ℕ)) (edition : Edition) (Said : List Entry → Status → List ℕ → Type 0) (status : Status)
    (out out' : Option (List ℕ)) → OfRead left (λ bytes. Ends (OfTrace edition bytes (λ past status text. ⊥)) status out out')
    → OfRead left (λ bytes. Ends (OfTrace edition bytes Said) status out out')
trace_none left edition Said status out out' (bytes, is, ends) = (
  bytes,
  is,
  ends_map (OfTrace edition bytes (λ past status text. ⊥)) (OfTrace edition bytes Said)
      (trace_map edition bytes (λ past status text. ⊥) Said (λ past status text none. absurd none)) status out out' ends,
)

-- ---- a command

-- what is so of a command is so of those words
pub named_by : (named : Option Command) (command : Command) (P : Command → Type 0) → named ≡ Some command → P command → IfSome named P
named_by named command P is so = subst (λ (n : Option Command). IfSome n P) (sym is) so

-- a text that was given was said
pub given_ends : (text : List ℕ) (status : Status) (out out' : Option (List ℕ)) → IsTextGiven text status out out'
    → Ends (Is text) status out out'
given_ends text statuses.Done out out' given = (text, (refl, refl), given)
given_ends text statuses.WriteFault out out' given = (statuses.Done, text, (refl, refl), given)
given_ends text statuses.Memory out out' given = given
given_ends text statuses.BadJob out out' given = absurd given
given_ends text statuses.BadTrace out out' given = absurd given
given_ends text statuses.BadWords out out' given = absurd given
given_ends text statuses.ReadFault out out' given = absurd given
given_ends text statuses.AuditNo out out' given = absurd given
given_ends text statuses.Bus out out' given = absurd given
given_ends text statuses.Spent out out' given = absurd given

-- .. whatever was read
pub text_said : (left old_left : Option (List ℕ)) (Old : List ℕ → Type 0) (Same : Type 0) (text : List ℕ) (status : Status)
    (out out' : Option (List ℕ)) → Same → IsTextGiven text status out out'
    → OfRead left (λ bytes. (Old bytes ⊎ Same) × OfRead old_left (λ old_bytes. Ends (Is text) status out out'))
text_said left old_left Old Same text status out out' same given =
    some_read left _ (λ bytes. (inr same, some_read old_left _ (λ old_bytes. given_ends text status out out' given)))

-- a trace that is shown needs no job
pub shown_said : (left old_left : Option (List ℕ)) (Same : Type 0) (Said : List ℕ → Status → List ℕ → Type 0) (status : Status)
    (out out' : Option (List ℕ)) → OfRead old_left (λ old_bytes. Ends (Said old_bytes) status out out')
    → OfRead left (λ bytes. (Unit {0} ⊎ Same) × OfRead old_left (λ old_bytes. Ends (Said old_bytes) status out out'))
shown_said left old_left Same Said status out out' said = some_read left _ (λ bytes. (inl tt, said))
