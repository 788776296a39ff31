-- Plain memory that is never evicted, and what each instruction that programs see does to it. It has no EPC, no frames,
-- no translations and no epochs: it is the manual's view of enclaves that have all their memory.
use Rattle.std.specs.Prelude.{ℕ, ◌==◌, ◌+◌, ◌-◌, ◌*◌, ◌/◌, ◌%◌, ◌^◌, ◌&&◌, Bool, true, false}
use Rattle.std.specs.Prelude.{if◌then◌else◌, List, [], ◌∷◌, Option, Some, None, replicate, slice_index, slice_set, nat_lt}
use Rattle.std.specs.Prelude.{is_some, is_none}
use Rattle.sgx_rules.specs.declared.entries.Entry.{Entry}
use Rattle.sgx_rules.specs.declared.entries.Event.{Event}
use Rattle.sgx_rules.specs.declared.entries.Event.TheVariants.{Did}
use Rattle.sgx_types.specs.declared.names.Actor.{Actor}
use Rattle.sgx_types.specs.declared.names.Actor.TheVariants as actors
use Rattle.sgx_rules.specs.declared.entries.Action.{Action}
use Rattle.sgx_rules.specs.declared.entries.Action.TheVariants.{Create, Add, Extend, Init, Enter, Resume, Exit, Aex, Load, Store}
use Rattle.sgx_rules.specs.declared.entries.Action.TheVariants.{Xadd, Set}
use Rattle.sgx_rules.specs.declared.entries.Action.TheVariants.{Plus, Pf, OutLoad, OutStore}
use Rattle.sgx_rules.specs.declared.entries.Answer.{Answer}
use Rattle.sgx_rules.specs.declared.entries.Answer.TheVariants as answers
use Rattle.sgx_types.specs.declared.lawful.PageInit.{PageInit}
use Rattle.sgx_types.specs.declared.lawful.PageInit.TheVariants as inits
use Rattle.sgx_types.specs.declared.names.Page.{Page}
use Rattle.sgx_types.specs.declared.names.Kind.{Kind}
use Rattle.sgx_types.specs.declared.names.Kind.TheVariants as kinds
use Rattle.sgx_types.specs.declared.names.Perm.{Perm}
use Rattle.sgx_types.specs.declared.record.Header.{Header}
use Rattle.sgx_types.specs.Pages.{same_page, page_at}
use Rattle.sgx_rules.specs.Frames.{Content, Free, Holds}
use Rattle.sgx_types.specs.Layouts.{bytes_of}
use Rattle.sgx_types.specs.Sealed.{header_of}
use Rattle.sgx_types.specs.Cases.{allowed, first_of_row}
use Rattle.sgx_rules.specs.Table.{EnclaveSight, EnterSight, FrameSight, Row, SecsSight, TcsSight}
use Rattle.sgx_rules.specs.Table.{fault_of, create_row}
use Rattle.sgx_rules.specs.Table.{add_row, extend_row, init_row, enter_row, resume_row, inside_row, load_row, store_row}
use Rattle.sgx_rules.specs.Table.{xadd_row}
use Rattle.sgx_rules.specs.Table.{pf_row, outside_row}

-- ---- the memory

pub record FlatEnclave : Type 0 where
  pub base : ℕ
  pub size : ℕ
  pub is_init : Bool

-- 512 words of 8 bytes
pub record FlatPage : Type 0 where
  pub kind : Kind
  pub perm : Perm
  pub words : List ℕ

-- inside an enclave by a TCS page
pub record Inside : Type 0 where
  pub enclave : ℕ
  pub tcs : ℕ

pub record FlatCpu : Type 0 where
  pub inside : Option Inside
  pub acc : ℕ

-- the created enclaves, the added pages, the busy TCS pages, and the processors
pub record FlatMemory : Type 0 where
  pub enclaves : ℕ → Option FlatEnclave
  pub pages : Page → Option FlatPage
  pub is_busy : Page → Bool
  pub cpus : ℕ → FlatCpu

abbrev pub fresh : FlatMemory
fresh = record { enclaves = λ n. None; pages = λ g. None; is_busy = λ g. false; cpus = λ p. record { inside = None; acc = 0 } }

abbrev pub with_enclave : FlatMemory → ℕ → FlatEnclave → FlatMemory
with_enclave m e x = record m { enclaves = λ n. if n == e then Some x else m.enclaves n }

abbrev pub with_page : FlatMemory → Page → FlatPage → FlatMemory
with_page m g x = record m { pages = λ q. if same_page q g then Some x else m.pages q }

-- a page whose words are changed, nothing where it was not added
abbrev pub rewritten : (List ℕ → List ℕ) → Option FlatPage → Option FlatPage
rewritten change None = None
rewritten change (Some x) = Some (record x { words = change x.words })

abbrev pub with_words : FlatMemory → Page → (List ℕ → List ℕ) → FlatMemory
with_words m g change = record m { pages = λ q. if same_page q g then rewritten change (m.pages q) else m.pages q }

abbrev pub with_busy : FlatMemory → Page → Bool → FlatMemory
with_busy m g b = record m { is_busy = λ q. if same_page q g then b else m.is_busy q }

abbrev pub with_cpu : FlatMemory → ℕ → FlatCpu → FlatMemory
with_cpu m p c = record m { cpus = λ q. if p == q then c else m.cpus q }

abbrev pub flat_page_words : Option FlatPage → List ℕ
flat_page_words None = replicate 512 0
flat_page_words (Some x) = x.words

-- the words of a page, all zero where it was not added
abbrev pub words_of : FlatMemory → Page → List ℕ
words_of m g = flat_page_words (m.pages g)

-- the page of an offset in bytes
abbrev pub at_offset : ℕ → ℕ → Page
at_offset enclave off = page_at enclave (off / 4096)

-- the index in its page of the word at an offset
abbrev pub word_index : ℕ → ℕ
word_index off = off % 4096 / 8

-- the fields of a TCS page: OSSA in its third word, in bytes; CSSA and NSSA in the halves of its fourth
abbrev pub tcs_fields : List ℕ → TcsSight
tcs_fields words = record {
  ossa = slice_index words 2 / 4096;
  cssa = slice_index words 3 % 2 ^ 32;
  nssa = slice_index words 3 / 2 ^ 32;
}

-- the words of a TCS page with another CSSA, which counts mod 2^32
abbrev pub with_cssa : List ℕ → ℕ → List ℕ
with_cssa words cssa = slice_set words 3 (cssa % 2 ^ 32 + slice_index words 3 / 2 ^ 32 * 2 ^ 32)

-- the words with which a page is added: all alike, or OSSA in bytes in the third and NSSA in the upper half of the fourth
abbrev pub first_words : PageInit → List ℕ
first_words (inits.Words v) = replicate 512 v
first_words (inits.Tcs ossa nssa) = slice_set (slice_set (replicate 512 0) 2 (ossa * 4096)) 3 (nssa * 2 ^ 32)

-- ---- what the rows see. What has no frame, translation or block to look at is given its harmless value.

abbrev pub open_frame : FrameSight
open_frame = record { is_beyond = false; content = Free; is_sealing = false; is_blocked = false }

-- a SECS is always there
abbrev pub settled : SecsSight
settled = record { is_away = false; is_sealing = false }

-- the frame of some page
abbrev pub some_page : FrameSight
some_page = record open_frame { content = Holds (page_at 0 0) kinds.Reg (record { r = true; w = false; x = false }) }

abbrev pub flat_content : Page → Option FlatPage → Content
flat_content g None = Free
flat_content g (Some x) = Holds g x.kind x.perm

-- a page that was added is always there
abbrev pub flat_frame : FlatMemory → Page → FrameSight
flat_frame m g = record { is_beyond = false; content = flat_content g (m.pages g); is_sealing = false; is_blocked = false }

abbrev pub enclave_sight_of : Option FlatEnclave → Option EnclaveSight
enclave_sight_of None = None
enclave_sight_of (Some x) = Some (record { size = x.size; is_init = x.is_init })

abbrev pub enclave_sight : FlatMemory → ℕ → Option EnclaveSight
enclave_sight m e = enclave_sight_of (m.enclaves e)

abbrev pub reg_perm : Option FlatPage → Option Perm
reg_perm None = None
reg_perm (Some x) = perm_of x.kind x.perm
  where
    perm_of : Kind → Perm → Option Perm
    perm_of kinds.Reg perm = Some perm
    perm_of _ perm = None

-- every added REG page of its enclave can be reached by a processor inside
abbrev pub flat_translation : FlatMemory → Option Inside → ℕ → Option Perm
flat_translation m None off = None
flat_translation m (Some i) off = reg_perm (m.pages (at_offset i.enclave off))

-- the kind and permissions with which a page was added
abbrev pub added_as : Option FlatPage → Option (Kind × Perm)
added_as None = None
added_as (Some x) = Some (x.kind, x.perm)

-- .. of the page at an offset in the enclave that a processor is inside
abbrev pub added_at_offset : FlatMemory → Option Inside → ℕ → Option (Kind × Perm)
added_at_offset m None off = None
added_at_offset m (Some i) off = added_as (m.pages (at_offset i.enclave off))

abbrev pub fields_in : FlatMemory → ℕ → ℕ → TcsSight
fields_in m enclave tcs = tcs_fields (words_of m (page_at enclave tcs))

-- what `enter` and `resume` see, where the state save page has this number
abbrev pub flat_enter_sight : FlatMemory → ℕ → ℕ → ℕ → ℕ → EnterSight
flat_enter_sight m p enclave tcs saved = record {
  is_inside = is_some (m.cpus p).inside;
  enclave = enclave_sight m enclave;
  tcs = flat_frame m (page_at enclave tcs);
  tcs_busy = m.is_busy (page_at enclave tcs);
  fields = fields_in m enclave tcs;
  ssa = flat_frame m (page_at enclave saved);
}

abbrev pub flat_enter_row : FlatMemory → ℕ → ℕ → ℕ → Row
flat_enter_row m p enclave tcs =
    let fields = fields_in m enclave tcs in
    enter_row enclave tcs (flat_enter_sight m p enclave tcs (fields.ossa + fields.cssa))

abbrev pub flat_resume_row : FlatMemory → ℕ → ℕ → ℕ → Row
flat_resume_row m p enclave tcs =
    let fields = fields_in m enclave tcs in
    resume_row enclave tcs (flat_enter_sight m p enclave tcs (fields.ossa + fields.cssa - 1))

-- ---- the step

-- an instruction of a processor, among those that programs see
abbrev pub is_processors : Action → Bool
is_processors (Enter enclave tcs tf sf) = true
is_processors (Resume enclave tcs tf sf) = true
is_processors Exit = true
is_processors (Aex cause) = true
is_processors (Load off) = true
is_processors (Store off value) = true
is_processors (Xadd off value) = true
is_processors (Set value) = true
is_processors (Plus value) = true
is_processors (Pf op off) = true
is_processors (OutLoad enclave off) = true
is_processors (OutStore enclave off value) = true
is_processors _ = false

-- an instruction that programs see: one that builds an enclave, or one of a processor
abbrev pub is_visible : Action → Bool
is_visible (Create enclave f base size) = true
is_visible (Add enclave number f kind perm init) = true
is_visible (Extend f chunk) = true
is_visible (Init enclave expect) = true
is_visible action = is_processors action

-- the row of an instruction of processor p
abbrev pub flat_cpu_row : FlatMemory → ℕ → Action → Row
flat_cpu_row m p (Enter enclave tcs tf sf) = flat_enter_row m p enclave tcs
flat_cpu_row m p (Resume enclave tcs tf sf) = flat_resume_row m p enclave tcs
flat_cpu_row m p Exit = inside_row (is_some (m.cpus p).inside)
flat_cpu_row m p (Aex cause) = inside_row (is_some (m.cpus p).inside)
flat_cpu_row m p (Load off) = load_row off (is_some (m.cpus p).inside) (flat_translation m (m.cpus p).inside off)
flat_cpu_row m p (Store off value) = store_row off (is_some (m.cpus p).inside) (flat_translation m (m.cpus p).inside off)
flat_cpu_row m p (Xadd off value) = xadd_row off (is_some (m.cpus p).inside) (flat_translation m (m.cpus p).inside off)
flat_cpu_row m p (Set value) = inside_row (is_some (m.cpus p).inside)
flat_cpu_row m p (Plus value) = inside_row (is_some (m.cpus p).inside)
flat_cpu_row m p (Pf op off) = pf_row op off (is_some (m.cpus p).inside) (added_at_offset m (m.cpus p).inside off)
flat_cpu_row m p (OutLoad enclave off) = outside_row (is_some (m.cpus p).inside)
flat_cpu_row m p (OutStore enclave off value) = outside_row (is_some (m.cpus p).inside)
flat_cpu_row m p _ = allowed

-- the row of another instruction
abbrev pub flat_build_row : FlatMemory → Action → Row
flat_build_row m (Create enclave f base size) = create_row enclave base size (is_some (m.enclaves enclave)) open_frame
flat_build_row m (Add enclave number f kind perm init) =
    add_row number kind perm init (enclave_sight m enclave) settled (is_some (m.pages (page_at enclave number))) open_frame
flat_build_row m (Extend f chunk) = extend_row chunk false some_page
flat_build_row m (Init enclave expect) = init_row (enclave_sight m enclave) settled
flat_build_row m _ = allowed

-- flat memory takes an instruction that its row allows, and one of a processor only from a processor from 0 to 15
abbrev pub accepts : FlatMemory → Actor → Action → Bool
accepts m actor action = if is_processors action then by_cpu actor else is_none (first_of_row (flat_build_row m action))
  where
    by_cpu : Actor → Bool
    by_cpu (actors.Cpu p) = nat_lt p.0 16 && is_none (first_of_row (flat_cpu_row m p.0 action))
    by_cpu _ = false

-- the word at an offset in the enclave that a processor is inside
abbrev pub word_seen : FlatMemory → Option Inside → ℕ → ℕ
word_seen m None off = 0
word_seen m (Some i) off = slice_index (words_of m (at_offset i.enclave off)) (word_index off)

-- the first word of the state save page of this number
abbrev pub saved_word : FlatMemory → ℕ → ℕ → ℕ
saved_word m enclave saved = slice_index (words_of m (page_at enclave saved)) 0

-- what `resume` puts into the accumulator: the word that was saved last
abbrev pub resumed_word : FlatMemory → ℕ → ℕ → ℕ
resumed_word m enclave tcs =
    let fields = fields_in m enclave tcs in
    saved_word m enclave (fields.ossa + fields.cssa - 1)

-- outside an enclave its memory reads as all ones
abbrev pub all_ones : ℕ
all_ones = 2 ^ 64 - 1

-- numbers count mod 2^64
abbrev pub sum_of : ℕ → ℕ → ℕ
sum_of a b = (a + b) % 2 ^ 64

abbrev pub cpu_answer : FlatMemory → ℕ → Action → Answer
cpu_answer m p (Enter enclave tcs tf sf) = answers.Cssa (fields_in m enclave tcs).cssa
cpu_answer m p (Resume enclave tcs tf sf) = answers.Value (resumed_word m enclave tcs)
cpu_answer m p (Load off) = answers.Value (word_seen m (m.cpus p).inside off)
cpu_answer m p (Xadd off value) = answers.Value (word_seen m (m.cpus p).inside off)
cpu_answer m p (Plus value) = answers.Value (sum_of (m.cpus p).acc value)
cpu_answer m p (Pf op off) = answers.Pf (fault_of (added_at_offset m (m.cpus p).inside off))
cpu_answer m p (OutLoad enclave off) = answers.Value all_ones
cpu_answer m p _ = answers.Plain

-- what flat memory answers to an instruction that it takes
abbrev pub flat_answer : FlatMemory → Actor → Action → Answer
flat_answer m actor action = if is_processors action then by_cpu actor else answers.Plain
  where
    by_cpu : Actor → Answer
    by_cpu (actors.Cpu p) = cpu_answer m p.0 action
    by_cpu _ = answers.Plain

-- enters by a TCS page
abbrev pub entered : FlatMemory → ℕ → ℕ → ℕ → ℕ → FlatMemory
entered m p enclave tcs acc =
    with_busy (with_cpu m p (record { inside = Some (record { enclave = enclave; tcs = tcs }); acc = acc })) (page_at enclave tcs) true

-- inside by this TCS page
abbrev pub is_inside_by : Option Inside → Page → Bool
is_inside_by None g = false
is_inside_by (Some i) g = same_page g (page_at i.enclave i.tcs)

-- leaves the enclave, and the TCS page by which it was inside
abbrev pub left : FlatMemory → ℕ → FlatMemory
left m p = record m {
  cpus = λ q. if p == q then record (m.cpus q) { inside = None } else m.cpus q;
  is_busy = λ g. if is_inside_by (m.cpus p).inside g then false else m.is_busy g;
}

-- enters again by a TCS page with what was saved last, and one state save frame fewer is in use
abbrev pub resumed : FlatMemory → ℕ → ℕ → ℕ → FlatMemory
resumed m p enclave tcs =
    let cssa = (fields_in m enclave tcs).cssa in
    entered (with_words m (page_at enclave tcs) (λ words. with_cssa words (cssa - 1))) p enclave tcs (resumed_word m enclave tcs)

-- the accumulator goes into the first word of the state save page that CSSA names, and one more is in use
abbrev pub saved : FlatMemory → ℕ → Option Inside → FlatMemory
saved m acc None = m
saved m acc (Some i) =
    let fields = fields_in m i.enclave i.tcs in
    with_words (with_words m (page_at i.enclave (fields.ossa + fields.cssa)) (λ words. slice_set words 0 acc)) (page_at i.enclave i.tcs)
    (λ words. with_cssa words (fields.cssa + 1))

-- the word at an offset in the enclave that a processor is inside becomes this one
abbrev pub stored : FlatMemory → Option Inside → ℕ → ℕ → FlatMemory
stored m None off value = m
stored m (Some i) off value = with_words m (at_offset i.enclave off) (λ words. slice_set words (word_index off) value)

abbrev pub with_acc : FlatMemory → ℕ → ℕ → FlatMemory
with_acc m p acc = with_cpu m p (record (m.cpus p) { acc = acc })

abbrev pub cpu_after : ℕ → Action → FlatMemory → FlatMemory
cpu_after p (Enter enclave tcs tf sf) m = entered m p enclave tcs (fields_in m enclave tcs).cssa
cpu_after p (Resume enclave tcs tf sf) m = resumed m p enclave tcs
cpu_after p Exit m = left m p
cpu_after p (Aex cause) m = left (saved m (m.cpus p).acc (m.cpus p).inside) p
cpu_after p (Store off value) m = stored m (m.cpus p).inside off value
cpu_after p (Xadd off value) m = stored m (m.cpus p).inside off (sum_of (word_seen m (m.cpus p).inside off) value)
cpu_after p (Set value) m = with_acc m p value
cpu_after p (Plus value) m = with_acc m p (sum_of (m.cpus p).acc value)
cpu_after p _ m = m

abbrev pub as_initialised : Option FlatEnclave → Option FlatEnclave
as_initialised None = None
as_initialised (Some x) = Some (record x { is_init = true })

abbrev pub initialised : FlatMemory → ℕ → FlatMemory
initialised m enclave = record m { enclaves = λ n. if n == enclave then as_initialised (m.enclaves n) else m.enclaves n }

abbrev pub build_after : Action → FlatMemory → FlatMemory
build_after (Create enclave frame base size) m = with_enclave m enclave (record { base = base; size = size; is_init = false })
build_after (Add enclave number frame kind perm init) m =
    with_page m (page_at enclave number) (record { kind = kind; perm = perm; words = first_words init })
build_after (Init enclave expect) m = initialised m enclave
build_after _ m = m

-- the memory after an instruction that it takes
abbrev pub memory_after : Actor → Action → FlatMemory → FlatMemory
memory_after actor action m = if is_processors action then by_cpu actor else build_after action m
  where
    by_cpu : Actor → FlatMemory
    by_cpu (actors.Cpu p) = cpu_after p.0 action m
    by_cpu _ = m

-- a done instruction that flat memory does not take changes nothing
abbrev pub event_after : Actor → Event → FlatMemory → FlatMemory
event_after actor (Did action answer) m = if accepts m actor action then memory_after actor action m else m
event_after actor _ m = m

-- flat memory before a place
abbrev pub flat : List Entry → FlatMemory
flat [] = fresh
flat (e ∷ past) = event_after e.actor e.event (flat past)

-- ---- what is sealed of a page

-- the header of a page, by its enclave and what it was added as, None where it was not added
abbrev pub header_by : Option FlatEnclave → Page → Option FlatPage → Option Header
header_by None g page = None
header_by (Some enclave) g None = None
header_by (Some enclave) g (Some x) = Some (header_of enclave.base g x.kind x.perm)

-- .. in flat memory
abbrev pub header_in : FlatMemory → Page → Option Header
header_in m g = header_by (m.enclaves g.enclave) g (m.pages g)

-- a TCS or REG page's bytes in flat memory before a place
abbrev pub flat_bytes : List Entry → Page → List ℕ
flat_bytes past page = bytes_of (words_of (flat past) page)
