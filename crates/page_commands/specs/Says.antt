-- What each command says of the bytes that it reads: a text on the output, with a status.
use Rattle.std.specs.Prelude.{ℕ, ◌≡◌, ◌⊎◌, List, Option, Ok, Err, reverse}
use Rattle.page_commands.specs.JudgedBy.{JudgesBy}
use Rattle.audit_check.specs.declared.verdict.Verdict.{Verdict}
use Rattle.audit_check.specs.declared.verdict.Verdict.TheVariants as verdicts
use Rattle.page_commands.specs.VerdictText.{judged_text}
use Rattle.command_words.specs.declared.command.Command.{Command}
use Rattle.command_words.specs.declared.command.Command.TheVariants as commands
use Rattle.command_words.specs.declared.rules.Rules.{Rules}
use Rattle.command_words.specs.declared.showing.Showing.{Showing}
use Rattle.command_words.specs.declared.showing.Showing.TheVariants as showings
use Rattle.command_words.specs.declared.telling.Telling.{Telling}
use Rattle.command_words.specs.declared.telling.Telling.TheVariants as tellings
use Rattle.page_commands.specs.GateText.{gate_text}
use Rattle.io_edges.specs.Sinks.{followed_by, GivesPart}
use Rattle.job_grammar.specs.Jobs.{JobView}
use Rattle.job_make.specs.MadeJob.{made_job}
use Rattle.job_print.specs.JobText.{job_text}
use Rattle.job_text.specs.declared.refusals.Fault.{Fault}
use Rattle.job_text.specs.Reading.{read}
use Rattle.command_least.specs.Fewest.{IsLeastText}
use Rattle.trace_file.specs.Reading as old
use Rattle.trace_file.specs.Reading.{Reads}
use Rattle.picture_text.specs.PictureText.{picture_of}
use Rattle.command_query.specs.AnswerText.{answer_text}
use Rattle.sgx_rules.specs.declared.entries.Entry.{Entry}
use Rattle.trace_migrate.specs.Migrated.{numbered_anew}
use Rattle.trace_text.specs.declared.edition.Edition.{Edition}
use Rattle.trace_text.specs.declared.edition.Edition.TheVariants as editions
use Rattle.trace_text.specs.TraceText.{trace_of}
use Rattle.page_commands.specs.declared.help.TheConstants.{HELP}
use Rattle.page_commands.specs.declared.status.Status.{Status}
use Rattle.page_commands.specs.declared.status.Status.TheVariants as statuses
use Rattle.page_commands.specs.Runs.{job_fault_line}

-- all is done, and the text is this one
abbrev pub Is : List ℕ → Status → List ℕ → Type 0
Is told status text = (status ≡ statuses.Done) × (text ≡ told)

-- of the entries of a trace, newest first; or the line on the first fault of a text that is none
abbrev pub OfTrace : Edition → List ℕ → (List Entry → Status → List ℕ → Type 0) → Status → List ℕ → Type 0
OfTrace edition bytes Said status text =
    ((entries : List Entry) × Reads edition bytes (Ok entries) × Said (reverse entries) status text)
    ⊎ ((status ≡ statuses.BadTrace) × ((line : ℕ) × Reads edition bytes (Err line) × (text ≡ old.trace_fault_line line)))

-- of a job; or the line on the first fault of a text that is none
abbrev pub OfJob : List ℕ → (JobView → Status → List ℕ → Type 0) → Status → List ℕ → Type 0
OfJob bytes Said status text =
    ((j : JobView) × (read bytes ≡ Ok j) × Said j status text)
    ⊎ ((status ≡ statuses.BadJob) × ((fault : Fault) × (read bytes ≡ Err fault) × (text ≡ job_fault_line fault)))

-- of a job and behind it the entries of a trace
abbrev pub OfBoth : List ℕ → List ℕ → (JobView → List Entry → Status → List ℕ → Type 0) → Status → List ℕ → Type 0
OfBoth bytes old_bytes Said status text = OfJob bytes (λ j. OfTrace editions.Two old_bytes (Said j)) status text

abbrev pub status_by : Verdict → Status
status_by verdicts.Yes = statuses.Done
status_by (verdicts.No place rule) = statuses.AuditNo

-- the verdict by these rules
abbrev pub Judged : Rules → JobView → List Entry → Status → List ℕ → Type 0
Judged rules j past status text =
    (verdict : Verdict) × JudgesBy rules j past verdict × (status ≡ status_by verdict) × (text ≡ judged_text rules past verdict)

-- what is told of a job and of entries, newest first
abbrev pub Tells : Telling → JobView → List Entry → Status → List ℕ → Type 0
Tells tellings.Least j past status text = (status ≡ statuses.Done) × IsLeastText j past text
Tells (tellings.Judge rules) j past status text = Judged rules j past status text
Tells (tellings.Ask question) j past status text = Is (answer_text question past) status text

-- .. and of their bytes
abbrev pub TellsOf : Telling → List ℕ → List ℕ → Status → List ℕ → Type 0
TellsOf telling bytes old_bytes = OfBoth bytes old_bytes (Tells telling)

-- the edition of a trace that is shown
abbrev pub edition_by : Showing → Edition
edition_by showings.Picture = editions.Two
edition_by showings.Migrated = editions.One

-- the text that shows entries, newest first
abbrev pub showing_text : Showing → List Entry → List ℕ
showing_text showings.Picture past = picture_of past
showing_text showings.Migrated past = trace_of (numbered_anew past)

-- .. and that of their bytes
abbrev pub ShowsOf : Showing → List ℕ → Status → List ℕ → Type 0
ShowsOf showing old_bytes = OfTrace (edition_by showing) old_bytes (λ past. Is (showing_text showing past))

-- what a command says of the bytes of a job and of an old trace, but of runs
abbrev pub Says : Command → List ℕ → List ℕ → Status → List ℕ → Type 0
Says (commands.Make number size) bytes old_bytes = Is (job_text (made_job number size))
Says (commands.Tell telling) bytes old_bytes = TellsOf telling bytes old_bytes
Says (commands.Show showing) bytes old_bytes = ShowsOf showing old_bytes
Says (commands.Gate rounds) bytes old_bytes = Is (gate_text rounds)
Says commands.Help bytes old_bytes = Is HELP.now
Says commands.Run bytes old_bytes = λ status text. ⊥
Says (commands.Demo number size) bytes old_bytes = λ status text. ⊥

-- a command ended by what it says: the output got the text, or a fault cut it, or nothing is said
abbrev pub Ends : (Status → List ℕ → Type 0) → Status → Option (List ℕ) → Option (List ℕ) → Type 0
Ends Said statuses.ReadFault out out' = out' ≡ out
Ends Said statuses.Memory out out' = out' ≡ out
Ends Said statuses.WriteFault out out' = (status : Status) × (text : List ℕ) × Said status text × GivesPart out out' text
Ends Said status out out' = (text : List ℕ) × Said status text × (out' ≡ followed_by out text)
