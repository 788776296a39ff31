-- The holds before a job's first entry, and how large counts get.
use Rattle.std.proofs.Common.{◌≡◌, ℕ, zero, suc, ◌+◌, ◌^◌, ◌<◌, ◌≤◌, ⊎_elim, Bool, true}
use Rattle.std.proofs.Common.{false, if◌then◌else◌, List, [], ◌∷◌, ◌++◌, Option, Some, None, IfSome, length, replicate}
use Rattle.std.proofs.Common.{slice_get, refl, sym, ap, subst, ◌∙◌, arith}
use Rattle.std.proofs.lemmas.Bool.{cases_lt}
use Rattle.std.proofs.lemmas.List.{get_or_past}
use Rattle.sgx_rules.specs.declared.entries.Entry.{Entry}
use Rattle.sgx_types.specs.declared.names.Page.{Page}
use Rattle.sgx_types.specs.Making.{Making}
use Rattle.job_grammar.specs.declared.jobs.PageLine.{PageLine}
use Rattle.job_grammar.specs.declared.jobs.PageLine.TheVariants as lines
use Rattle.job_grammar.specs.Jobs.{JobView, lines_at, tcs_line, va_pages}
use Rattle.script_rules.specs.declared.steps.BuildStep.{BuildStep}
use Rattle.script_rules.specs.declared.steps.BuildStep.TheVariants as builds
use Rattle.script_rules.specs.Script.{enclaves_steps, is_reply_of, leaves_by, replied, saved_frames}
use Rattle.sgx_machine.specs.inner.Parts.{Parts}
use Rattle.driver_rules.specs.Holds.{page_extended}
use Rattle.driver_laws.specs.inner.Agrees.{drivers}
use Rattle.driver_laws.specs.inner.Sound.{times}
use Rattle.driver_tables.specs.declared.driver.Driver.{Driver}
use Rattle.driver_tables.specs.inner.Agrees.{Agrees}
use Rattle.driver_tables.proofs.FirstLaws.{all_same}
use Rattle.driver_tables.proofs.HeldLaws.{holds_begin}
use Rattle.due_tables.specs.declared.cpu_turns.CpuTurn.{CpuTurn}
use Rattle.due_tables.specs.declared.tcs_turns.TcsTurn.{TcsTurn}
use Rattle.due_tables.specs.declared.turns.Turns.{Turns}
use Rattle.due_tables.specs.inner.CpuTurns.{first_turn, turn_at}
use Rattle.due_tables.specs.inner.Due.{IsShown}
use Rattle.due_tables.specs.inner.Holding.{KeepsHolds}
use Rattle.due_tables.specs.inner.Noting.{AreFew}
use Rattle.due_tables.specs.inner.Shown.{ShowsTurns}
use Rattle.due_tables.specs.inner.TcsTurns.{tcs_by}
use Rattle.due_tables.proofs.OrderLaws.{saved_step}

-- ---- holds

-- the first step is a version array's
no_page : (n : ℕ) (steps : List BuildStep) → 1 ≤ n → page_extended (slice_get (replicate n builds.Va ++ steps) 0) ≡ None
no_page zero steps some = absurd (omega (arith, some))
no_page (suc n) steps some = refl

pub holds_first : (j : JobView) → KeepsHolds j (replicate 17 []) []
holds_first j = record {
  shows = holds_begin j (no_page (va_pages j) (enclaves_steps 1 j.enclaves) (omega arith));
  once = λ p g. subst (λ xs. times xs g ≤ 1) (sym (all_same 17 [] p)) (omega arith);
}

-- ---- tables of a driver that agrees with its machine

pub agrees_shown : (made : Making) (j : JobView) (past : List Entry) (d : Driver) (m : Parts) → Agrees made j past d m
    → IsShown (drivers j) j past d m
agrees_shown made j past d m a = record {
  columns = a.follows.shape.columns;
  frames = ap (λ (k : Making). k.frames) a.follows.shape.making ∙ a.frames;
  cpus = a.cpus;
  sound = a.sound;
  built = a.built;
  shows = a.shows;
}

-- ---- counts

replied_few : (past : List Entry) (p : ℕ) → replied past p ≤ length past
replied_few [] p = omega arith
replied_few (e ∷ past) p = by_test (is_reply_of past e p) (replied_few past p)
  where
    by_test : (b : Bool) → replied past p ≤ length past → (if b then replied past p + 1 else replied past p) ≤ length (e ∷ past)
    by_test true h = omega (arith, h)
    by_test false h = omega (arith, h)

saved_few : (past : List Entry) (g : Page) → saved_frames past g ≤ length past
saved_few [] g = omega arith
saved_few (e ∷ past) g =
    let before = saved_few past g in
    ⊎_elim (λ low. omega (arith, low, before)) (λ more. (let grown = more.1 in omega (arith, grown, before)))
    (saved_step e.event (leaves_by e.actor past g) g (saved_frames past g))

saved_fits : (line : Option PageLine) (n : ℕ) → n < 2 ^ 63 → IfSome (tcs_by line n) (λ turn. turn.saved < 2 ^ 63)
saved_fits None n h = tt
saved_fits (Some (lines.Reg first count perm value plain)) n h = tt
saved_fits (Some (lines.Tcs page ossa nssa plain)) n h = h

pub counts_few : (j : JobView) (past : List Entry) (t : Turns) → ShowsTurns j past t → length past < 2 ^ 63 → AreFew t
counts_few j past t s few = record {
  replied = λ p. ⊎_elim
      (λ low. (let is = (s.cpus p (let each = s.each in omega (arith, low, each))).replied in
      let most = replied_few past p in omega (arith, is, most, few)))
      (λ high. (let none : (turn_at t.cpus p).replied ≡ 0 = ap (λ (x : CpuTurn). x.replied) (get_or_past t.cpus p first_turn high) in
      omega (arith, none, few)))
      (cases_lt p (length t.cpus));
  saved = λ g. subst (λ o. IfSome o (λ (turn : TcsTurn). turn.saved < 2 ^ 63)) (sym (s.saves g))
      (saved_fits (tcs_line (lines_at j.enclaves g.enclave) g.number) (saved_frames past g)
      (let most = saved_few past g in omega (arith, most, few)));
}
