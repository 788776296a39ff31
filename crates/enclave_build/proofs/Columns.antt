-- What ECREATE and EADD leave of every frame's entry and words.
use Rattle.std.proofs.Common.{◌≡◌, ℕ, ◌<◌, ◌==◌, cond, List, length, ap, ◌∙◌, length-set}
use Rattle.sgx_types.specs.declared.lawful.PageInit.{PageInit}
use Rattle.sgx_types.specs.declared.names.TheConstants.{SECS_NUMBER}
use Rattle.sgx_types.specs.declared.names.Page.{Page}
use Rattle.sgx_types.specs.declared.names.Kind.{Kind}
use Rattle.sgx_types.specs.declared.names.Kind.TheVariants as kinds
use Rattle.sgx_types.specs.declared.names.Perm.{Perm}
use Rattle.sgx_types.specs.Pages.{page_at}
use Rattle.sgx_rules.specs.Flat.{first_words}
use Rattle.epcm_entry.specs.inner.EntryView.{holding}
use Rattle.epcm_entry.specs.inner.Epc.{EpcFrame, entry_at, words_at, with_page}
use Rattle.epcm_entry.proofs.Columns.{length-with_entry, entry_at-with_entry, words_at-with_entry, length-with_words}
use Rattle.epcm_entry.proofs.Columns.{entry_at-with_words}
use Rattle.epcm_entry.proofs.Columns.{words_at-with_words}
use Rattle.sgx_types.specs.Pages.{no_perm}
use Rattle.enclave_build.specs.inner.Build.{with_secs, with_added}

-- the SECS of an enclave

pub length-with_secs : (epc : List EpcFrame) (f enclave : ℕ) → length (with_secs epc f enclave) ≡ length epc
length-with_secs epc f enclave = length-with_entry epc f _

pub entry_at-with_secs : (epc : List EpcFrame) (f enclave n : ℕ) → f < length epc
    → entry_at (with_secs epc f enclave) n ≡ cond (f == n) (holding (page_at enclave SECS_NUMBER) kinds.Secs no_perm) (entry_at epc n)
entry_at-with_secs epc f enclave n low = entry_at-with_entry epc f n _ low

pub words_at-with_secs : (epc : List EpcFrame) (f enclave n : ℕ) → words_at (with_secs epc f enclave) n ≡ words_at epc n
words_at-with_secs epc f enclave n = words_at-with_entry epc f n _

-- an added page

pub length-with_added : (epc : List EpcFrame) (f : ℕ) (page : Page) (kind : Kind) (perm : Perm) (init : PageInit)
    → length (with_added epc f page kind perm init) ≡ length epc
length-with_added epc f page kind perm init =
    length-with_words (with_page epc f page kind perm) f (first_words init) ∙ length-with_entry epc f _

pub entry_at-with_added : (epc : List EpcFrame) (f n : ℕ) (page : Page) (kind : Kind) (perm : Perm) (init : PageInit) → f < length epc
    → entry_at (with_added epc f page kind perm init) n ≡ cond (f == n) (holding page kind perm) (entry_at epc n)
entry_at-with_added epc f n page kind perm init low =
    entry_at-with_words (with_page epc f page kind perm) f n (first_words init) ∙ entry_at-with_entry epc f n _ low

pub words_at-with_added : (epc : List EpcFrame) (f n : ℕ) (page : Page) (kind : Kind) (perm : Perm) (init : PageInit) → f < length epc
    → words_at (with_added epc f page kind perm init) n ≡ cond (f == n) (first_words init) (words_at epc n)
words_at-with_added epc f n page kind perm init low =
    words_at-with_words (with_page epc f page kind perm) f n (first_words init) (rw length-set low)
    ∙ ap (cond (f == n) (first_words init)) (words_at-with_entry epc f n _)
