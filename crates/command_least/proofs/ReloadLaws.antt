-- What one more entry says of the REG pages and of the reloads, where the entries that are gone along stand oldest first.
use Rattle.std.proofs.Common.{◌≡◌, ℕ, ◌+◌, ◌<◌, if◌then◌else◌, List, ◌∷◌, length, take, reverse, get_or, sym}
use Rattle.std.proofs.Common.{ap, subst, ◌∙◌}
use Rattle.trace_text.proofs.EntryLaws.{newest_more}
use Rattle.sgx_rules.specs.declared.entries.Entry.{Entry}
use Rattle.sgx_types.specs.declared.names.Page.{Page}
use Rattle.command_least.specs.Accesses.{brings_back, made}
use Rattle.command_least.specs.inner.Reloads.{AreRegs}

pub regs_more : (entries : List Entry) (i : ℕ) (d : Entry) (regs : List Page) → i < length entries
    → AreRegs (get_or entries i d ∷ reverse (take i entries)) regs
    → AreRegs (reverse (take (i + 1) entries)) regs
regs_more entries i d regs within is =
    let Is : List Entry → Type 0 = λ past. AreRegs past regs in subst Is (sym (newest_more entries i d within)) is

pub made_more : (entries : List Entry) (i : ℕ) (d : Entry) (count : ℕ) → i < length entries
    → count ≡ made (reverse (take i entries))
    → count + (if brings_back (reverse (take i entries)) (get_or entries i d).event then 1 else 0) ≡ made (reverse (take (i + 1) entries))
made_more entries i d count within is =
    ap (λ n. n + (if brings_back (reverse (take i entries)) (get_or entries i d).event then 1 else 0)) is
    ∙ ap made (sym (newest_more entries i d within))
