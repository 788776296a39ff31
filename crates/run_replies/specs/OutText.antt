-- The output of a run: for each enclave how its EINIT ended, and for each processor the replies to its operations.
use Rattle.std.specs.Prelude.{ℕ, ◌==◌, if◌then◌else◌, List, [], ◌∷◌, ◌++◌, codes, length, flat_map}
use Rattle.std.specs.Fmt.{decimal}
use Rattle.sgx_rules.specs.declared.entries.Entry.{Entry}
use Rattle.sgx_rules.specs.declared.entries.Event.{Event}
use Rattle.sgx_rules.specs.declared.entries.Event.TheVariants.{Did, Refused, Bus}
use Rattle.sgx_rules.specs.declared.entries.Action.{Action}
use Rattle.sgx_rules.specs.declared.entries.Action.TheVariants as actions
use Rattle.sgx_rules.specs.declared.entries.Answer.{Answer}
use Rattle.sgx_rules.specs.declared.entries.Answer.TheVariants as answers
use Rattle.sgx_rules.specs.declared.entries.Cause.TheVariants as causes
use Rattle.sgx_rules.specs.declared.refusals.Refusal.{Refusal}
use Rattle.sgx_rules.specs.declared.refusals.Refusal.TheVariants as why
use Rattle.job_grammar.specs.Jobs.{JobView}
use Rattle.script_rules.specs.Script.{is_reply_of, numbers_from}
use Rattle.text_words.specs.Words.{Words, enclave_word, line_text}
use Rattle.trace_text.specs.Names.{fault_word}
use Rattle.trace_text.specs.TraceText.{refusal_name}

-- ---- enclaves

abbrev pub init_line : Event → ℕ → List Words → List Words
init_line (Did (actions.Init e expect) answer) enclave before =
    if e == enclave then (enclave_word enclave ∷ codes "init" ∷ []) ∷ [] else before
init_line (Refused (actions.Init e expect) (why.BadMeasure made)) enclave before =
    if e == enclave then (enclave_word enclave ∷ codes "badmeasure" ∷ []) ∷ [] else before
init_line _ enclave before = before

-- how an enclave's EINIT ended, nothing where there was none yet
abbrev pub enclave_lines : List Entry → ℕ → List Words
enclave_lines [] enclave = []
enclave_lines (e ∷ past) enclave = init_line e.event enclave (enclave_lines past enclave)

-- ---- replies

abbrev pub done_reply : Action → Answer → Words
done_reply (actions.Enter enclave tcs tf sf) (answers.Cssa n) = codes "cssa" ∷ decimal n ∷ []
done_reply (actions.Resume enclave tcs tf sf) (answers.Value v) = codes "acc" ∷ decimal v ∷ []
done_reply actions.Exit answer = codes "exit" ∷ []
done_reply (actions.Aex causes.Timer) answer = codes "timer" ∷ []
done_reply (actions.Load off) (answers.Value v) = decimal v ∷ []
done_reply (actions.Store off value) answer = codes "ok" ∷ []
done_reply (actions.Xadd off value) (answers.Value v) = decimal v ∷ []
done_reply (actions.Set value) answer = codes "ok" ∷ []
done_reply (actions.Plus value) (answers.Value v) = decimal v ∷ []
done_reply (actions.Pf op off) (answers.Pf fault) = codes "pf" ∷ fault_word fault ∷ []
done_reply (actions.OutLoad enclave off) (answers.Value v) = decimal v ∷ []
done_reply (actions.OutStore enclave off value) answer = codes "dropped" ∷ []
done_reply action answer = []

-- the wrong mode by its own word, any other refusal as a general protection fault
abbrev pub refused_reply : Refusal → Words
refused_reply why.WrongMode = codes "mode" ∷ []
refused_reply refusal = codes "gp" ∷ refusal_name refusal

abbrev pub reply_words : Event → Words
reply_words (Did action answer) = done_reply action answer
reply_words (Refused action refusal) = refused_reply refusal
reply_words (Bus page why) = codes "bus" ∷ []
reply_words _ = []

-- the replies of a processor, the oldest first
abbrev pub reply_lines : List Entry → ℕ → List Words
reply_lines [] p = []
reply_lines (e ∷ past) p = if is_reply_of past e p then reply_lines past p ++ reply_words e.event ∷ [] else reply_lines past p

abbrev pub cpu_lines : List Entry → ℕ → List Words
cpu_lines past p = (codes "cpu" ∷ decimal p ∷ []) ∷ reply_lines past p

-- ---- the output

abbrev pub out_lines : JobView → List Entry → List Words
out_lines j past =
    flat_map (enclave_lines past) (numbers_from 1 (length j.enclaves)) ++ flat_map (cpu_lines past) (numbers_from 0 (length j.scripts))

unfoldable pub out_of : JobView → List Entry → List ℕ
out_of j past = flat_map line_text (out_lines j past)
