-- What an enclave counts once a page was added to it, and what a row that refuses nothing says of the frame.
use Rattle.std.proofs.Common.{◌≡◌, ℕ, ◌+◌, ◌-◌, ◌<◌, ◌≤◌, ◌^◌, ◌==◌, ◌++◌, Bool, true, false, not, cond, refl, sym, ap, ◌∙◌}
use Rattle.std.proofs.Common.{arith}
use Rattle.std.proofs.Common.{List, [], ◌∷◌, Some, None, length, option_map}
use Rattle.std.proofs.lemmas.Bool.{cond_both, eqb-true, eq-eqb, leb-false}
use Rattle.sgx_types.specs.declared.names.TheConstants.{MOST_FRAMES}
use Rattle.sgx_types.specs.declared.lawful.PageInit.{PageInit}
use Rattle.sgx_types.specs.declared.names.Frame.{Frame}
use Rattle.sgx_types.specs.declared.names.Page.{Page}
use Rattle.sgx_types.specs.declared.names.Kind.{Kind}
use Rattle.sgx_types.specs.declared.names.Kind.TheVariants as kinds
use Rattle.sgx_types.specs.declared.names.Perm.{Perm}
use Rattle.sgx_rules.specs.declared.refusals.Refusal.{Refusal}
use Rattle.sgx_rules.specs.declared.refusals.Refusal.TheVariants as why
use Rattle.sgx_rules.specs.Frames.{Content, Free, children, is_child, is_secs_of}
use Rattle.sgx_types.specs.Lawful.{is_addable, is_lawful_perm, is_within}
use Rattle.sgx_types.specs.Cases.{allowed, first_of_row}
use Rattle.sgx_rules.specs.Table.{EnclaveSight, FrameSight, Row, SecsSight, add_row, is_busy, is_valid}
use Rattle.sgx_types.specs.Cases.{when, ◌otherwise◌}
use Rattle.sgx_rules.proofs.Contents.{free_there}
use Rattle.sgx_types.proofs.CountLaws.{count_below-agrees, count_below-le, count_below-put, one_if}
use Rattle.sgx_types.proofs.LeastLaws.{least_agrees}
use Rattle.sgx_rules.proofs.Rows.{first_longer, none_holds}
use Rattle.sgx_types.proofs.Truths.{not_false}
use Rattle.epcm_entry.specs.declared.entry_view.EntryView.TheVariants as views
use Rattle.epcm_entry.specs.declared.entry_view.EntryView.{EntryView}
use Rattle.epcm_entry.specs.inner.EntryView.{goes_out, holding}
use Rattle.epcm_entry.specs.inner.EntryView.{is_valid as is_entry_valid}
use Rattle.epcm_entry.specs.inner.Epc.{EpcFrame, entry_at}
use Rattle.epcm_entry.specs.inner.Sights.{content_of, held, held_in, sight_in}
use Rattle.secs_state.specs.inner.Resident.{IsCountedIn}
use Rattle.secs_state.specs.inner.Secs.{SecsState}
use Rattle.secs_state.proofs.Counted.{counted_put}
use Rattle.enclave_build.specs.inner.Build.{secs_row, with_added}
use Rattle.enclave_build.proofs.Columns.{entry_at-with_added, length-with_added}

-- the cases of the SECS come first behind the range
pub secs_first : (number : ℕ) (kind : Kind) (perm : Perm) (init : PageInit) (enclave : EnclaveSight) (secs : SecsSight) (added : Bool)
    (s : FrameSight) (r : Refusal) → s.is_beyond ≡ false → first_of_row (secs_row secs) ≡ Some r
    → Some r ≡ first_of_row (add_row number kind perm init (Some enclave) secs added s)
secs_first number kind perm init enclave secs added s r range is =
    rw range (sym (first_longer (secs_row secs) (when enclave.is_init why.IsInit
    otherwise when (not (is_addable kind init)) why.BadKind
    otherwise when (not (is_lawful_perm kind perm)) why.BadPerm
    otherwise when (not (is_within enclave.size number init)) why.BadRange
    otherwise when added why.PageExists
    otherwise when (is_busy s) why.Conflict
    otherwise when (is_valid s.content) why.FrameBusy
    otherwise allowed) r is))

-- a page that may be added is of such a kind, was not added before, and goes into a free frame of the EPC
pub record MayAdd (epc : List EpcFrame) (f : ℕ) (kind : Kind) (init : PageInit) (added : Bool) : Type 0 where
  pub low : f < length epc
  pub addable : is_addable kind init ≡ true
  pub absent : added ≡ false
  pub free : held_in epc f ≡ Free
  pub vacant : is_entry_valid (entry_at epc f) ≡ false

pub may_add : (epc : List EpcFrame) (f number : ℕ) (kind : Kind) (perm : Perm) (init : PageInit) (enclave : EnclaveSight) (secs : SecsSight)
    (added : Bool) → first_of_row (add_row number kind perm init (Some enclave) secs added (sight_in epc f)) ≡ None
    → MayAdd epc f kind init added
may_add epc f number kind perm init enclave secs added row =
    let none = none_holds (add_row number kind perm init (Some enclave) secs added (sight_in epc f)) row in
    record {
      low = leb-false (length epc) f none.0;
      addable = not_false (is_addable kind init) none.1.1.1.1.0;
      absent = none.1.1.1.1.1.1.1.0;
      free = free_there (held_in epc f) (goes_out (entry_at epc f)) none.1.1.1.1.1.1.1.1.0 none.1.1.1.1.1.1.1.1.1.0;
      vacant = by_entry (entry_at epc f) none.1.1.1.1.1.1.1.1.1.0;
    }
  where
    by_entry : (v : EntryView) → is_valid (held v) ≡ false → is_entry_valid v ≡ false
    by_entry views.Free is = refl
    by_entry (views.Loading page) is = refl
    by_entry (views.Valid page kinds.Secs p blocked sealing) is = cc is
    by_entry (views.Valid page kinds.Va p blocked sealing) is = cc is
    by_entry (views.Valid page kinds.Tcs p blocked sealing) is = cc is
    by_entry (views.Valid page kinds.Reg p blocked sealing) is = cc is

-- no count comes to the end of its type
pub few_children : (epc : List EpcFrame) (e : ℕ) (x : SecsState) → length epc ≤ MOST_FRAMES → IsCountedIn (length epc) (held_in epc) e x
    → x.children < 2 ^ 32 - 1
few_children epc e x small was =
    let few = count_below-le (λ n. is_child (held_in epc n) e) (length epc) in omega (arith, few, was.children, small)

-- its enclave counts it
pub added_counted : (epc : List EpcFrame) (f : ℕ) (page : Page) (kind : Kind) (perm : Perm) (init : PageInit) (e : ℕ) (x y : SecsState)
    → f < length epc → is_addable kind init ≡ true → held_in epc f ≡ Free → page.enclave ≡ e → y.frame ≡ x.frame
    → y.children ≡ x.children + 1 → IsCountedIn (length epc) (held_in epc) e x
    → IsCountedIn (length (with_added epc f page kind perm init)) (held_in (with_added epc f page kind perm init)) e y
added_counted epc f page kind perm init e x y low addable free own frame more was =
    rw (length-with_added epc f page kind perm init)
    (counted_put (length epc) (held_in epc) (held_in (with_added epc f page kind perm init)) f (content_of page kind perm) e x y low put
    (rw free refl) (no_secs kind init addable) frame (rw (free, child kind init addable) (omega (arith, more))) was)
  where
    moved : (b : Bool) (v : EntryView) → held (cond b (holding page kind perm) v) ≡ cond b (content_of page kind perm) (held v)
    moved true v = refl
    moved false v = refl

    put : (n : ℕ) → held_in (with_added epc f page kind perm init) n ≡ cond (f == n) (content_of page kind perm) (held_in epc n)
    put n = ap held (entry_at-with_added epc f n page kind perm init low) ∙ moved (f == n) (entry_at epc n)

    no_secs : (k : Kind) (i : PageInit) → is_addable k i ≡ true → is_secs_of (content_of page k perm) e ≡ false
    no_secs kinds.Secs i is = cc is
    no_secs kinds.Va i is = cc is
    no_secs kinds.Tcs i is = refl
    no_secs kinds.Reg i is = refl

    child : (k : Kind) (i : PageInit) → is_addable k i ≡ true → is_child (content_of page k perm) e ≡ true
    child kinds.Secs i is = cc is
    child kinds.Va i is = cc is
    child kinds.Tcs i is = eq-eqb page.enclave e own
    child kinds.Reg i is = eq-eqb page.enclave e own
