-- Names that are read: each kind of value by the word that the text has for it. Any other word is read as one of the kind.
use Rattle.std.specs.Prelude.{ℕ, Bool, true, false, List, [], ◌∷◌, Option, find, codes, bytes_eq, unwrap_or}
use Rattle.sgx_rules.specs.declared.entries.Cause.{Cause}
use Rattle.sgx_rules.specs.declared.entries.Cause.TheVariants as causes
use Rattle.sgx_rules.specs.declared.entries.AccessOp.{AccessOp}
use Rattle.sgx_rules.specs.declared.entries.AccessOp.TheVariants as accesses
use Rattle.sgx_rules.specs.declared.entries.PfWhy.{PfWhy}
use Rattle.sgx_rules.specs.declared.entries.PfWhy.TheVariants as faults
use Rattle.sgx_rules.specs.declared.entries.Look.{Look}
use Rattle.sgx_rules.specs.declared.entries.Look.TheVariants as looks
use Rattle.sgx_rules.specs.declared.entries.BusWhy.{BusWhy}
use Rattle.sgx_rules.specs.declared.entries.BusWhy.TheVariants as stops
use Rattle.sgx_rules.specs.declared.refusals.Refusal.{Refusal}
use Rattle.sgx_rules.specs.declared.refusals.Refusal.TheVariants as why
use Rattle.sgx_types.specs.declared.names.Kind.{Kind}
use Rattle.sgx_types.specs.declared.names.Kind.TheVariants as kinds
use Rattle.sgx_types.specs.declared.names.Perm.{Perm}
use Rattle.sgx_types.specs.Pages.{no_perm}
use Rattle.text_words.specs.Words.{Words}
use Rattle.trace_text.specs.declared.edition.Edition.TheVariants as editions
use Rattle.trace_text.specs.Fields.{refusal_fields, words_of_fields}
use Rattle.trace_text.specs.Names.{access_word, cause_word, fault_word, kind_word, look_word, perms_word, stop_word}
use Rattle.trace_lines.specs.declared.names.Row.{Row}
use Rattle.trace_lines.specs.declared.names.Row.TheVariants as rows

-- the first of these values whose word it is, if any
abbrev pub named : {A : Type 0} → (A → List ℕ) → List A → List ℕ → Option A
named word_of values word = find (λ value. bytes_eq word (word_of value)) values

abbrev pub row_word : Row → List ℕ
row_word rows.Epa = codes "epa"
row_word rows.Create = codes "create"
row_word rows.Add = codes "add"
row_word rows.Extend = codes "extend"
row_word rows.Init = codes "init"
row_word rows.Enter = codes "enter"
row_word rows.Resume = codes "resume"
row_word rows.Exit = codes "exit"
row_word rows.Aex = codes "aex"
row_word rows.Fill = codes "fill"
row_word rows.Load = codes "load"
row_word rows.Store = codes "store"
row_word rows.Xadd = codes "xadd"
row_word rows.Set = codes "set"
row_word rows.Plus = codes "plus"
row_word rows.Pf = codes "pf"
row_word rows.OutLoad = codes "outload"
row_word rows.OutStore = codes "outstore"
row_word rows.Block = codes "block"
row_word rows.Track = codes "track"
row_word rows.EwbStart = codes "ewbstart"
row_word rows.Ewb = codes "ewb"
row_word rows.EldStart = codes "eldstart"
row_word rows.Eld = codes "eld"

unfoldable pub row_of : List ℕ → Option Row
row_of word = named row_word
    (rows.Epa ∷ rows.Create ∷ rows.Add ∷ rows.Extend ∷ rows.Init ∷ rows.Enter
    ∷ rows.Resume ∷ rows.Exit ∷ rows.Aex ∷ rows.Fill ∷ rows.Load ∷ rows.Store
    ∷ rows.Xadd ∷ rows.Set ∷ rows.Plus ∷ rows.Pf ∷ rows.OutLoad ∷ rows.OutStore
    ∷ rows.Block ∷ rows.Track ∷ rows.EwbStart ∷ rows.Ewb ∷ rows.EldStart ∷ rows.Eld ∷ []) word

unfoldable pub kind_in : List ℕ → Kind
kind_in word = unwrap_or (named kind_word (kinds.Secs ∷ kinds.Tcs ∷ kinds.Reg ∷ kinds.Va ∷ []) word) kinds.Reg

abbrev perms : List Perm
perms = perm false false false ∷ perm false false true ∷ perm false true false ∷ perm false true true
    ∷ perm true false false ∷ perm true false true ∷ perm true true false ∷ perm true true true ∷ []
  where
    perm : Bool → Bool → Bool → Perm
    perm r w x = record { r = r; w = w; x = x }

unfoldable pub perm_in : List ℕ → Perm
perm_in word = unwrap_or (named perms_word perms word) no_perm

unfoldable pub cause_in : List ℕ → Cause
cause_in word = unwrap_or (named cause_word (causes.Timer ∷ causes.Fault ∷ causes.Kick ∷ causes.End ∷ []) word) causes.Timer

unfoldable pub access_in : List ℕ → AccessOp
access_in word = unwrap_or (named access_word (accesses.Load ∷ accesses.Store ∷ accesses.Xadd ∷ []) word) accesses.Load

unfoldable pub fault_in : List ℕ → PfWhy
fault_in word = unwrap_or (named fault_word (faults.Absent ∷ faults.WrongType ∷ faults.NoPerm ∷ []) word) faults.Absent

unfoldable pub look_in : List ℕ → Look
look_in word = unwrap_or (named look_word (looks.Young ∷ looks.Held ∷ looks.NoRoom ∷ looks.Taken ∷ []) word) looks.Young

unfoldable pub stop_in : List ℕ → BusWhy
stop_in word = unwrap_or (named stop_word all word) stops.GetFailed
  where
    all : List BusWhy
    all = stops.GetFailed ∷ stops.NoRecord ∷ stops.PutFailed ∷ stops.Mac ∷ stops.Header ∷ stops.Slot ∷ []

-- the one word of a refusal that has no fields
abbrev pub bare_word : Refusal → List ℕ
bare_word refusal = first (words_of_fields editions.Two (refusal_fields refusal))
  where
    first : Words → List ℕ
    first [] = []
    first (name ∷ fields) = name

-- the refusals that have no fields
abbrev pub bares : List Refusal
bares = why.PgInvld ∷ why.PgIsSecs ∷ why.NotBlockable ∷ why.BlkState ∷ why.Conflict
    ∷ why.EpochSpent ∷ why.PageNotBlocked ∷ why.SlotEmpty ∷ why.VersionSpent ∷ why.PageExists
    ∷ why.BadRange ∷ why.BadPerm ∷ why.BadKind ∷ why.NotInit ∷ why.IsInit
    ∷ why.TcsBusy ∷ why.NoFrame ∷ why.NoSaved ∷ why.FrameBusy ∷ why.Absent
    ∷ why.Blocked ∷ why.NoPerm ∷ why.Miss ∷ why.NoFault ∷ why.WrongMode ∷ []

unfoldable pub bare_of : List ℕ → Option Refusal
bare_of word = named bare_word bares word
