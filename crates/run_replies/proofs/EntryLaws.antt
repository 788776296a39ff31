-- What a walk over the entries, which stand oldest first, has gathered after so many of them.
use Rattle.std.proofs.Common.{◌≡◌, ℕ, ◌+◌, ◌<◌, List, ◌∷◌, Option, get_or, length, reverse, subst, sym, take}
use Rattle.sgx_rules.specs.declared.entries.Entry.{Entry}
use Rattle.trace_text.proofs.EntryLaws.{newest_more}
use Rattle.run_replies.specs.inner.Gathered.{AreEndings, AreReplies}
use Rattle.run_replies.specs.declared.replies.Ending.{Ending}
use Rattle.run_replies.specs.declared.replies.Replies.{Replies}

-- each enclave has its place by its number, from 1, and each processor from 0
pub record Gathers (enclaves cpus : ℕ) (past : List Entry) (endings : List (Option Ending)) (replies : List Replies) : Type 0 where
  pub ended : AreEndings past endings
  pub wide : length endings ≡ enclaves + 1
  pub replied : AreReplies past replies
  pub many : length replies ≡ cpus

pub one_more : (entries : List Entry) (i : ℕ) (d : Entry) (P : List Entry → Type 0) → i < length entries
    → P (get_or entries i d ∷ reverse (take i entries)) → P (reverse (take (i + 1) entries))
one_more entries i d P within h = subst P (sym (newest_more entries i d within)) h
