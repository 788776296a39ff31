-- The measurement log of an enclave, read from the entries before a place, which stand newest first.
use Rattle.std.specs.Prelude.{ℕ, ◌+◌, ◌*◌, ◌==◌, if◌then◌else◌, List, [], ◌∷◌, ◌++◌, Option, Some, None}
use Rattle.sgx_rules.specs.declared.entries.Entry.{Entry}
use Rattle.sgx_rules.specs.declared.entries.Event.{Event}
use Rattle.sgx_rules.specs.declared.entries.Event.TheVariants.{Did}
use Rattle.sgx_rules.specs.declared.entries.Action.{Action}
use Rattle.sgx_rules.specs.declared.entries.Action.TheVariants.{Create, Add, Extend}
use Rattle.sgx_types.specs.declared.names.Page.{Page}
use Rattle.sgx_types.specs.Layouts.{flags_of}
use Rattle.measure_log.specs.Blocks.{ecreate_block, eadd_block, eextend_block, chunk_of}

-- a block and the enclave whose log it goes to
pub record Logged : Type 0 where
  pub enclave : ℕ
  pub block : List ℕ

-- a log with one block more, where the block goes to this enclave
abbrev pub log_with : Option Logged → ℕ → List ℕ → List ℕ
log_with None enclave log = log
log_with (Some logged) enclave log = if logged.enclave == enclave then log ++ logged.block else log

-- `page_in past frame` is the page that a frame holds after those entries, and `bytes_of past page` are a page's 4096 bytes there
module _ (page_in : List Entry → ℕ → Option Page) (bytes_of : List Entry → Page → List ℕ) where
  -- the block of a chunk of a page's bytes
  abbrev pub logged_chunk : List Entry → ℕ → Option Page → Option Logged
  logged_chunk past chunk None = None
  logged_chunk past chunk (Some page) = Some (record
      { enclave = page.enclave; block = eextend_block (4096 * page.number + 256 * chunk) (chunk_of (bytes_of past page) chunk) })

  -- the block of a done instruction
  abbrev pub logged_by_action : List Entry → Action → Option Logged
  logged_by_action past (Create enclave frame base size) = Some (record { enclave = enclave; block = ecreate_block size })
  logged_by_action past (Add enclave number frame kind perm init) =
      Some (record { enclave = enclave; block = eadd_block (4096 * number) (flags_of kind perm) })
  logged_by_action past (Extend frame chunk) = logged_chunk past chunk (page_in past frame.0)
  logged_by_action past _ = None

  -- a refused instruction, a look, a kick or a bus has none
  abbrev pub logged_by : List Entry → Event → Option Logged
  logged_by past (Did action answer) = logged_by_action past action
  logged_by past _ = None

  -- the log of an enclave
  abbrev pub log_of : List Entry → ℕ → List ℕ
  log_of [] enclave = []
  log_of (entry ∷ past) enclave = log_with (logged_by past entry.event) enclave (log_of past enclave)
