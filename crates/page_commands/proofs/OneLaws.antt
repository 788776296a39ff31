-- A command ends in one way, by the bytes that it reads.
use Rattle.std.proofs.Common.{◌≡◌, ℕ, List, Ok, Err, inl, inr, refl, reverse, sym, subst, ◌∙◌}
use Rattle.page_commands.specs.JudgedBy.{JudgesBy}
use Rattle.audit_check.specs.declared.verdict.Verdict.TheVariants as verdicts
use Rattle.command_words.specs.declared.command.Command.{Command}
use Rattle.command_words.specs.declared.command.Command.TheVariants as commands
use Rattle.command_words.specs.declared.rules.Rules.{Rules}
use Rattle.command_words.specs.declared.rules.Rules.TheVariants as by
use Rattle.command_words.specs.declared.telling.Telling.{Telling}
use Rattle.command_words.specs.declared.telling.Telling.TheVariants as tellings
use Rattle.job_grammar.specs.Jobs.{JobView}
use Rattle.job_text.specs.declared.refusals.Fault.{Fault}
use Rattle.job_text.specs.Reading.{read}
use Rattle.history_machine.proofs.SomeLaws.{fails_nowhere}
use Rattle.trace_file.proofs.OneLaws.{one_thing}
use Rattle.trace_file.specs.Reading.{Reads}
use Rattle.history_rules.proofs.HistoryLaws.{no_history}
use Rattle.history_rules.specs.declared.rules.Rule.{Rule}
use Rattle.sgx_rules.specs.declared.entries.Entry.{Entry}
use Rattle.trace_text.specs.declared.edition.Edition.{Edition}
use Rattle.trace_text.specs.declared.edition.Edition.TheVariants as editions
use Rattle.page_commands.specs.declared.status.Status.{Status}
use Rattle.page_commands.specs.declared.status.Status.TheVariants as statuses
use Rattle.page_commands.specs.Says.{edition_by, Judged, OfJob, OfTrace, Says, showing_text, Tells}

-- ---- a trace

not_both : (edition : Edition) (bytes : List ℕ) (line : ℕ) (entries : List Entry) → Reads edition bytes (Err line)
    → Reads edition bytes (Ok entries) → ⊥
not_both edition bytes line entries wrong reads =
    let both : Err line ≡ Ok entries = one_thing edition bytes (Err line) (Ok entries) wrong reads in
    cc

one_trace : (edition : Edition) (bytes : List ℕ) (Said : List Entry → Status → List ℕ → Type 0)
    → ((past : List Entry) (s t : Status) (text other : List ℕ) → Said past s text → Said past t other → s ≡ t)
    → (s t : Status) (text other : List ℕ) → OfTrace edition bytes Said s text → OfTrace edition bytes Said t other → s ≡ t
one_trace edition bytes Said one s t text other (inr wrong) (inr also) = wrong.0 ∙ sym also.0
one_trace edition bytes Said one s t text other (inr wrong) (inl right) =
    absurd (not_both edition bytes wrong.1.0 right.0 wrong.1.1 right.1)
one_trace edition bytes Said one s t text other (inl right) (inr wrong) =
    absurd (not_both edition bytes wrong.1.0 right.0 wrong.1.1 right.1)
one_trace edition bytes Said one s t text other (inl right) (inl also) =
    let both : Ok right.0 ≡ Ok also.0 = one_thing edition bytes (Ok right.0) (Ok also.0) right.1 also.1 in
    let same : right.0 ≡ also.0 = cc in
    one (reverse also.0) s t text other (subst (λ (entries : List Entry). Said (reverse entries) s text) same right.2) also.2

-- ---- a job

no_job : (bytes : List ℕ) (fault : Fault) (j : JobView) → read bytes ≡ Err fault → read bytes ≡ Ok j → ⊥
no_job bytes fault j wrong right =
    let both : Err fault ≡ Ok j = sym wrong ∙ right in
    cc

one_job : (bytes : List ℕ) (Said : JobView → Status → List ℕ → Type 0)
    → ((j : JobView) (s t : Status) (text other : List ℕ) → Said j s text → Said j t other → s ≡ t)
    → (s t : Status) (text other : List ℕ) → OfJob bytes Said s text → OfJob bytes Said t other → s ≡ t
one_job bytes Said one s t text other (inr wrong) (inr also) = wrong.0 ∙ sym also.0
one_job bytes Said one s t text other (inr wrong) (inl right) = absurd (no_job bytes wrong.1.0 right.0 wrong.1.1 right.1)
one_job bytes Said one s t text other (inl right) (inr wrong) = absurd (no_job bytes wrong.1.0 right.0 wrong.1.1 right.1)
one_job bytes Said one s t text other (inl right) (inl also) =
    let both : Ok right.0 ≡ Ok also.0 = sym right.1 ∙ also.1 in
    let same : right.0 ≡ also.0 = cc in
    one also.0 s t text other (subst (λ (j : JobView). Said j s text) same right.2) also.2

-- ---- what is told

-- a trace of a job does not both keep rules and fail somewhere by them
no_both : (rules : Rules) (j : JobView) (whole : List Entry) (place : ℕ) (rule : Rule) → JudgesBy rules j whole verdicts.Yes
    → JudgesBy rules j whole (verdicts.No place rule) → ⊥
no_both by.All j whole place rule right wrong = no_history j whole place rule wrong right
no_both by.Processors j whole place rule right wrong = fails_nowhere j whole place rule wrong right

one_verdict : (rules : Rules) (j : JobView) (past : List Entry) (s t : Status) (text other : List ℕ) → Judged rules j past s text
    → Judged rules j past t other → s ≡ t
one_verdict rules j past s t text other (verdicts.Yes, judged, is, told) (verdicts.Yes, judged', is', told') = is ∙ sym is'
one_verdict rules j past s t text other (verdicts.Yes, judged, is, told) (verdicts.No place rule, judged', is', told') =
    absurd (no_both rules j past place rule judged judged')
one_verdict rules j past s t text other (verdicts.No place rule, judged, is, told) (verdicts.Yes, judged', is', told') =
    absurd (no_both rules j past place rule judged' judged)
one_verdict rules j past s t text other (verdicts.No place rule, judged, is, told) (verdicts.No place' rule', judged', is', told') =
    is ∙ sym is'

one_telling : (telling : Telling) (j : JobView) (past : List Entry) (s t : Status) (text other : List ℕ) → Tells telling j past s text
    → Tells telling j past t other → s ≡ t
one_telling tellings.Least j past s t text other said also = said.0 ∙ sym also.0
one_telling (tellings.Judge rules) j past s t text other said also = one_verdict rules j past s t text other said also
one_telling (tellings.Ask question) j past s t text other said also = said.0 ∙ sym also.0

both_traced : (old_bytes : List ℕ) (telling : Telling) (j : JobView) (s t : Status) (text other : List ℕ)
    → OfTrace editions.Two old_bytes (Tells telling j) s text → OfTrace editions.Two old_bytes (Tells telling j) t other → s ≡ t
both_traced old_bytes telling j s t text other said also =
    one_trace editions.Two old_bytes (Tells telling j) (one_telling telling j) s t text other said also

-- ---- a command

pub one_end : (command : Command) (bytes old_bytes : List ℕ) (s t : Status) (text other : List ℕ) → Says command bytes old_bytes s text
    → Says command bytes old_bytes t other → s ≡ t
one_end (commands.Make number size) bytes old_bytes s t text other said also = said.0 ∙ sym also.0
one_end (commands.Tell telling) bytes old_bytes s t text other said also =
    let Said : JobView → Status → List ℕ → Type 0 = λ j. OfTrace editions.Two old_bytes (Tells telling j) in
    one_job bytes Said (both_traced old_bytes telling) s t text other said also
one_end (commands.Show showing) bytes old_bytes s t text other said also =
    let Said : List Entry → Status → List ℕ → Type 0 = λ past status text. (status ≡ statuses.Done) × (text ≡ showing_text showing past) in
    one_trace (edition_by showing) old_bytes Said (λ past s t text other said also. said.0 ∙ sym also.0) s t text other said also
one_end (commands.Gate rounds) bytes old_bytes s t text other said also = said.0 ∙ sym also.0
one_end commands.Help bytes old_bytes s t text other said also = said.0 ∙ sym also.0
one_end commands.Run bytes old_bytes s t text other said also = absurd said
one_end (commands.Demo number size) bytes old_bytes s t text other said also = absurd said
