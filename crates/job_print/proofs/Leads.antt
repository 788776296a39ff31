-- Statements that are read one after the other.
use Rattle.std.proofs.Common.{◌≡◌, ℕ, ◌+◌, List, [], ◌∷◌, ◌++◌, Ok, map, refl}
use Rattle.std.specs.List.{AllByRecursion}
use Rattle.job_lines.specs.declared.statements.Statement.{Statement}
use Rattle.job_text.specs.Drafts.{Draft, keep}
use Rattle.job_text.specs.inner.Faults.{HasNoFault}
use Rattle.job_text.specs.Reading.{read_lines}
use Rattle.job_print.proofs.Printable.{IsPrintable}
use Rattle.job_print.proofs.LineTexts.{line-read, line_of}

-- a line that says this is read, and what stands of the job behind it is as P says
abbrev pub Steps : ℕ → Draft → Statement → (Draft → Type 0) → Type 0
Steps n d s P = IsPrintable s × HasNoFault d s × P (keep n d s)

-- lines that say these things are read
abbrev pub Leads : ℕ → Draft → List Statement → (Draft → Type 0) → Type 0
Leads n d [] P = P d
Leads n d (s ∷ others) P = Steps n d s (λ next. Leads (n + 1) next others P)

pub leads-on : (n : ℕ) (d : Draft) (some others : List Statement) (P Q : Draft → Type 0) → Leads n d some P
    → ((m : ℕ) (e : Draft) → P e → Leads m e others Q) → Leads n d (some ++ others) Q
leads-on n d [] others P Q leads on = on n d leads
leads-on n d (s ∷ some) others P Q leads on = (leads.0, leads.1, leads-on (n + 1) (keep n d s) some others P Q leads.2 on)

pub leads-fit : (n : ℕ) (d : Draft) (all : List Statement) (P : Draft → Type 0) → Leads n d all P → AllByRecursion IsPrintable all
leads-fit n d [] P leads = tt
leads-fit n d (s ∷ others) P leads = (leads.0, leads-fit (n + 1) (keep n d s) others P leads.2)

pub leads-read : (n : ℕ) (d : Draft) (all : List Statement) (P : Draft → Type 0) → Leads n d all P → (e : Draft) × P e
    × (read_lines n d (map line_of all) ≡ Ok e)
leads-read n d [] P leads = (d, leads, refl)
leads-read n d (s ∷ others) P leads =
    let rest = leads-read (n + 1) (keep n d s) others P leads.2 in
    (rest.0, rest.1, rw (line-read n d s leads.0 leads.1) rest.2)
