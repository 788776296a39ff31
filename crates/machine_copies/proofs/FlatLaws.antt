-- Flat memory has each page as it was added, and never changes an enclave's base or a page's kind and permissions.
use Rattle.std.proofs.Common.{◌≡◌, ℕ, ◌+◌, ◌-◌, ◌==◌, Bool, true, false, cond, refl, sym, ap, ◌∙◌, Option, Some}
use Rattle.std.proofs.Common.{None, is_some, is_none, List, [], ◌∷◌, slice_set}
use Rattle.std.proofs.lemmas.Bool.{cond_both, eqb-true, false≢true}
use Rattle.sgx_rules.specs.declared.entries.Action.{Action}
use Rattle.sgx_rules.specs.declared.entries.Action.TheVariants.{Create, Add, Init, Resume, Aex, Store, Xadd}
use Rattle.sgx_types.specs.declared.names.Actor.{Actor}
use Rattle.sgx_types.specs.declared.names.Actor.TheVariants as actors
use Rattle.sgx_rules.specs.declared.entries.Answer.{Answer}
use Rattle.sgx_rules.specs.declared.entries.Entry.{Entry}
use Rattle.sgx_rules.specs.declared.entries.Event.{Event}
use Rattle.sgx_rules.specs.declared.entries.Event.TheVariants.{Did}
use Rattle.sgx_types.specs.declared.lawful.PageInit.{PageInit}
use Rattle.sgx_types.specs.declared.names.Kind.{Kind}
use Rattle.sgx_types.specs.declared.names.Page.{Page}
use Rattle.sgx_types.specs.declared.names.Perm.{Perm}
use Rattle.sgx_types.specs.declared.record.Header.{Header}
use Rattle.sgx_rules.specs.Flat.{FlatEnclave, FlatMemory, FlatPage, Inside, accepts, added_as, at_offset, build_after, cpu_after}
use Rattle.sgx_rules.specs.Flat.{enclave_sight, event_after, fields_in, first_words, flat, flat_build_row, header_by, header_in}
use Rattle.sgx_rules.specs.Flat.{as_initialised}
use Rattle.sgx_rules.specs.Flat.{memory_after, open_frame, rewritten, saved, settled, stored, sum_of, with_cssa, with_words}
use Rattle.sgx_rules.specs.Flat.{word_index, word_seen}
use Rattle.sgx_rules.specs.inner.Enclaves.{created}
use Rattle.sgx_types.specs.Pages.{is_secs_page, is_va_page, page_at, same_page}
use Rattle.sgx_rules.specs.Frames.{added}
use Rattle.sgx_rules.specs.PageBytes.{header_at, secs_header, va_header}
use Rattle.sgx_rules.specs.Rules.{Along, FlatRule}
use Rattle.sgx_types.specs.Sealed.{header_of}
use Rattle.sgx_types.specs.Cases.{first_of_row}
use Rattle.sgx_rules.specs.Table.{EnclaveSight, FrameSight, SecsSight, add_row}
use Rattle.sgx_types.proofs.Pages.{same_page-swap, same_pages}
use Rattle.sgx_rules.proofs.Rows.{NoneHolds, none_holds}
use Rattle.machine_copies.proofs.OpenStarts.{entry_of}

-- changed words are of the same kind and permissions
rewritten_kind : (b : Bool) (change : List ℕ → List ℕ) (o : Option FlatPage) → added_as (cond b (rewritten change o) o) ≡ added_as o
rewritten_kind true change None = refl
rewritten_kind true change (Some x) = refl
rewritten_kind false change o = refl

-- what an asynchronous exit saves leaves each page's kind and permissions
saved_kinds : (m : FlatMemory) (acc : ℕ) (inside : Option Inside) (g : Page)
    → added_as ((saved m acc inside).pages g) ≡ added_as (m.pages g)
saved_kinds m acc None g = refl
saved_kinds m acc (Some i) g =
    let fields = fields_in m i.enclave i.tcs in
    let first : FlatMemory = with_words m (page_at i.enclave (fields.ossa + fields.cssa)) (λ words. slice_set words 0 acc) in
    rewritten_kind (same_page g (page_at i.enclave i.tcs)) (λ words. with_cssa words (fields.cssa + 1)) (first.pages g)
    ∙ rewritten_kind (same_page g (page_at i.enclave (fields.ossa + fields.cssa))) (λ words. slice_set words 0 acc) (m.pages g)

-- .. and so does a store
stored_kinds : (m : FlatMemory) (inside : Option Inside) (off value : ℕ) (g : Page)
    → added_as ((stored m inside off value).pages g) ≡ added_as (m.pages g)
stored_kinds m None off value g = refl
stored_kinds m (Some i) off value g =
    rewritten_kind (same_page g (at_offset i.enclave off)) (λ words. slice_set words (word_index off) value) (m.pages g)

-- a processor's instruction leaves each page's kind and permissions
cpu_kinds : (p : ℕ) (action : Action) (m : FlatMemory) (g : Page) → added_as ((cpu_after p action m).pages g) ≡ added_as (m.pages g)
cpu_kinds p (Resume enclave tcs tf sf) m g =
    rewritten_kind (same_page g (page_at enclave tcs)) (λ words. with_cssa words ((fields_in m enclave tcs).cssa - 1)) (m.pages g)
cpu_kinds p (Aex cause) m g = saved_kinds m (m.cpus p).acc (m.cpus p).inside g
cpu_kinds p (Store off value) m g = stored_kinds m (m.cpus p).inside off value g
cpu_kinds p (Xadd off value) m g = stored_kinds m (m.cpus p).inside off (sum_of (word_seen m (m.cpus p).inside off) value) g
cpu_kinds p _ m g = refl

-- whether an instruction adds a page
abbrev is_add : Action → Bool
is_add (Add enclave number f kind perm init) = true
is_add _ = false

-- each instruction but `add` leaves each page's kind and permissions
memory_kinds : (actor : Actor) (action : Action) (m : FlatMemory) (g : Page) → is_add action ≡ false
    → added_as ((memory_after actor action m).pages g) ≡ added_as (m.pages g)
memory_kinds actor (Add enclave number f kind perm init) m g h = cc
memory_kinds (actors.Cpu p) action m g h = cpu_kinds p.0 action m g
memory_kinds actors.Builder action m g h = refl
memory_kinds actors.Reclaimer action m g h = refl

-- .. whether flat memory takes it or not
pub event_kinds : (actor : Actor) (action : Action) (answer : Answer) (m : FlatMemory) (g : Page) → is_add action ≡ false
    → added_as ((event_after actor (Did action answer) m).pages g) ≡ added_as (m.pages g)
event_kinds actor action answer m g h = cond_both (accepts m actor action) (memory_after actor action m) m
    (λ (now : FlatMemory). added_as (now.pages g) ≡ added_as (m.pages g)) (λ _. memory_kinds actor action m g h) (λ _. refl)

-- the kind and permissions of one more page
added_one : (b : Bool) (x : FlatPage) (o : Option FlatPage) → cond b (Some (x.kind, x.perm)) (added_as o) ≡ added_as (cond b (Some x) o)
added_one true x o = refl
added_one false x o = refl

-- flat memory takes an event that builds: one that creates an enclave, initialises it or adds a page
abbrev pub TakesBuilds : FlatMemory → Actor → Event → Type 0
TakesBuilds m actor (Did (Create enclave f base size) answer) = accepts m actor (Create enclave f base size) ≡ true
TakesBuilds m actor (Did (Add enclave number f kind perm init) answer) = accepts m actor (Add enclave number f kind perm init) ≡ true
TakesBuilds m actor (Did (Init enclave expect) answer) = accepts m actor (Init enclave expect) ≡ true
TakesBuilds m actor event = Unit {0}

-- a done `add` adds the page, and no other entry does
pub added_next : (past : List Entry) (actor : Actor) (event : Event) (g : Page) → TakesBuilds (flat past) actor event
    → added past g ≡ added_as ((flat past).pages g)
    → added (entry_of actor event ∷ past) g ≡ added_as ((flat (entry_of actor event ∷ past)).pages g)
added_next past actor (Did (Add enclave number f kind perm init) answer) g taken h =
    let x : FlatPage = record { kind = kind; perm = perm; words = first_words init } in
    rw taken (rw (same_page-swap (page_at enclave number) g, h)
    (added_one (same_page g (page_at enclave number)) x ((flat past).pages g)))
added_next past actor (Did action answer) g taken h = h ∙ sym (event_kinds actor action answer (flat past) g refl)
added_next past actor event g taken h = h

-- where flat memory answers, it takes each event that builds
answered_builds : (past : List Entry) (actor : Actor) (event : Event) → FlatRule past (entry_of actor event)
    → TakesBuilds (flat past) actor event
answered_builds past actor (Did (Create enclave f base size) answer) rule = (rule refl).taken
answered_builds past actor (Did (Add enclave number f kind perm init) answer) rule = (rule refl).taken
answered_builds past actor (Did (Init enclave expect) answer) rule = (rule refl).taken
answered_builds past actor event rule = tt

-- .. and so a page was added as flat memory has it
pub added_flat : (past : List Entry) → Along FlatRule past → (g : Page) → added past g ≡ added_as ((flat past).pages g)
added_flat [] h g = refl
added_flat (e ∷ past) h g = added_next past e.actor e.event g (answered_builds past e.actor e.event h.0) (added_flat past h.1 g)

-- ---- enclaves

-- an instruction that makes an enclave or marks it
abbrev is_of_enclave : Action → Bool
is_of_enclave (Create enclave f base size) = true
is_of_enclave (Init enclave expect) = true
is_of_enclave _ = false

-- a store leaves each enclave
after_stored : (m : FlatMemory) (inside : Option Inside) (off value : ℕ) → (stored m inside off value).enclaves ≡ m.enclaves
after_stored m None off value = refl
after_stored m (Some i) off value = refl

-- .. and each instruction of a processor
pub cpu_enclaves : (p : ℕ) (action : Action) (m : FlatMemory) → (cpu_after p action m).enclaves ≡ m.enclaves
cpu_enclaves p (Aex cause) m = after_saved (m.cpus p).acc (m.cpus p).inside
  where
    after_saved : (acc : ℕ) (inside : Option Inside) → (saved m acc inside).enclaves ≡ m.enclaves
    after_saved acc None = refl
    after_saved acc (Some i) = refl
cpu_enclaves p (Store off value) m = after_stored m (m.cpus p).inside off value
cpu_enclaves p (Xadd off value) m = after_stored m (m.cpus p).inside off (sum_of (word_seen m (m.cpus p).inside off) value)
cpu_enclaves p _ m = refl

-- .. and each that neither makes an enclave nor marks it
memory_enclaves : (actor : Actor) (action : Action) (m : FlatMemory) → is_of_enclave action ≡ false
    → (memory_after actor action m).enclaves ≡ m.enclaves
memory_enclaves actor (Create enclave f base size) m h = cc h
memory_enclaves actor (Init enclave expect) m h = cc h
memory_enclaves (actors.Cpu p) action m h = cpu_enclaves p.0 action m
memory_enclaves actors.Builder action m h = refl
memory_enclaves actors.Reclaimer action m h = refl

event_enclaves : (actor : Actor) (action : Action) (answer : Answer) (m : FlatMemory) (n : ℕ) → is_of_enclave action ≡ false
    → (event_after actor (Did action answer) m).enclaves n ≡ m.enclaves n
event_enclaves actor action answer m n h = cond_both (accepts m actor action) (memory_after actor action m) m
    (λ (now : FlatMemory). now.enclaves n ≡ m.enclaves n)
    (λ _. ap (λ (enclaves : ℕ → Option FlatEnclave). enclaves n) (memory_enclaves actor action m h)) (λ _. refl)

-- a done `create` makes the enclave, a done `init` marks it, and no other entry does either
pub created_next : (past : List Entry) (actor : Actor) (event : Event) (n : ℕ) → TakesBuilds (flat past) actor event
    → created past n ≡ (flat past).enclaves n
    → created (entry_of actor event ∷ past) n ≡ (flat (entry_of actor event ∷ past)).enclaves n
created_next past actor (Did (Create enclave f base size) answer) n taken h = rw (taken, h) refl
created_next past actor (Did (Init enclave expect) answer) n taken h = rw (taken, h) refl
created_next past actor (Did action answer) n taken h = h ∙ sym (event_enclaves actor action answer (flat past) n refl)
created_next past actor event n taken h = h

-- .. and so flat memory has each enclave as it was made
pub created_flat : (past : List Entry) → Along FlatRule past → (n : ℕ) → created past n ≡ (flat past).enclaves n
created_flat [] h n = refl
created_flat (e ∷ past) h n =
    created_next past e.actor e.event n (answered_builds past e.actor e.event h.0) (created_flat past h.1 n)

-- ---- headers

-- the base of an enclave
abbrev base_of : Option FlatEnclave → Option ℕ
base_of None = None
base_of (Some x) = Some x.base

-- nothing is there
is_none-None : {X : Type 0} (o : Option X) → is_none o ≡ true → o ≡ None
is_none-None None h = refl
is_none-None (Some x) h = cc

-- a page is added that was not added before
fresh_page : (number : ℕ) (kind : Kind) (perm : Perm) (init : PageInit) (o : Option EnclaveSight) (secs : SecsSight) (is_added : Bool)
    (s : FrameSight)
    → NoneHolds (add_row number kind perm init o secs is_added s) → is_added ≡ false
fresh_page number kind perm init None secs is_added s row = let no : true ≡ false = row.1.0 in cc
fresh_page number kind perm init (Some enclave) secs is_added s row = row.1.1.1.1.1.1.1.0

-- an enclave that was created keeps its base at an instruction that flat memory takes
build_bases : (action : Action) (m : FlatMemory) (n : ℕ) → first_of_row (flat_build_row m action) ≡ None → is_some (m.enclaves n) ≡ true
    → base_of ((build_after action m).enclaves n) ≡ base_of (m.enclaves n)
build_bases (Create enclave f base size) m n row there =
    let k = none_holds (flat_build_row m (Create enclave f base size)) row in
    cond_both (n == enclave) (Some (record { base = base; size = size; is_init = false })) (m.enclaves n)
    (λ v. base_of v ≡ base_of (m.enclaves n))
    (λ same. absurd (false≢true (sym k.1.0 ∙ ap (λ e. is_some (m.enclaves e)) (sym (eqb-true n enclave same)) ∙ there))) (λ _. refl)
build_bases (Init enclave expect) m n row there =
    cond_both (n == enclave) (as_initialised (m.enclaves n)) (m.enclaves n) (λ v. base_of v ≡ base_of (m.enclaves n))
    (λ _. marked_base (m.enclaves n)) (λ _. refl)
  where
    marked_base : (o : Option FlatEnclave) → base_of (as_initialised o) ≡ base_of o
    marked_base None = refl
    marked_base (Some x) = refl
build_bases _ m n row there = refl

-- .. and a page that was added its kind and permissions
build_kinds : (action : Action) (m : FlatMemory) (g : Page) → first_of_row (flat_build_row m action) ≡ None → is_some (m.pages g) ≡ true
    → added_as ((build_after action m).pages g) ≡ added_as (m.pages g)
build_kinds (Add enclave number f kind perm init) m g row there =
    let k = none_holds (flat_build_row m (Add enclave number f kind perm init)) row in
    let is_fresh = fresh_page number kind perm init (enclave_sight m enclave) settled
    (is_some (m.pages (page_at enclave number))) open_frame k
    in
    cond_both (same_page g (page_at enclave number)) (Some (record { kind = kind; perm = perm; words = first_words init })) (m.pages g)
    (λ v. added_as v ≡ added_as (m.pages g))
    (λ same. absurd (false≢true (sym is_fresh ∙ ap (λ q. is_some (m.pages q)) (sym (same_pages g (page_at enclave number) same)) ∙ there)))
    (λ _. refl)
build_kinds _ m g row there = refl

-- what flat memory takes leaves the base of an enclave that was created
memory_bases : (actor : Actor) (action : Action) (m : FlatMemory) (n : ℕ) → accepts m actor action ≡ true → is_some (m.enclaves n) ≡ true
    → base_of ((memory_after actor action m).enclaves n) ≡ base_of (m.enclaves n)
memory_bases actor (Create enclave f base size) m n taken there =
    build_bases (Create enclave f base size) m n (is_none-None (first_of_row (flat_build_row m (Create enclave f base size))) taken) there
memory_bases actor (Init enclave expect) m n taken there =
    build_bases (Init enclave expect) m n (is_none-None (first_of_row (flat_build_row m (Init enclave expect))) taken) there
memory_bases (actors.Cpu p) action m n taken there =
    ap (λ (enclaves : ℕ → Option FlatEnclave). base_of (enclaves n)) (cpu_enclaves p.0 action m)
memory_bases actors.Builder action m n taken there = refl
memory_bases actors.Reclaimer action m n taken there = refl

-- .. and the kind and permissions of a page that was added
memory_pages : (actor : Actor) (action : Action) (m : FlatMemory) (g : Page) → accepts m actor action ≡ true → is_some (m.pages g) ≡ true
    → added_as ((memory_after actor action m).pages g) ≡ added_as (m.pages g)
memory_pages actor (Add enclave number f kind perm init) m g taken there =
    build_kinds (Add enclave number f kind perm init) m g
    (is_none-None (first_of_row (flat_build_row m (Add enclave number f kind perm init))) taken) there
memory_pages actor action m g taken there = memory_kinds actor action m g refl

-- a header is made of the enclave's base and of what the page was added as
header_seen : (g : Page) (o o' : Option FlatEnclave) (x x' : Option FlatPage) → base_of o' ≡ base_of o → added_as x' ≡ added_as x
    → header_by o' g x' ≡ header_by o g x
header_seen g None None x x' bases kinds = refl
header_seen g None (Some e') x x' bases kinds = cc
header_seen g (Some e) None x x' bases kinds = cc
header_seen g (Some e) (Some e') None None bases kinds = refl
header_seen g (Some e) (Some e') None (Some y') bases kinds = cc
header_seen g (Some e) (Some e') (Some y) None bases kinds = cc
header_seen g (Some e) (Some e') (Some y) (Some y') bases kinds =
    let same_base : e'.base ≡ e.base = cc in
    let same_kinds : ◌≡◌ {A = Kind × Perm} (y'.kind, y'.perm) (y.kind, y.perm) = cc in
    λ i. Some (header_of (same_base i) g ((same_kinds i).0) ((same_kinds i).1))

-- a page that has a header was added to an enclave that was created
pub header_there : (g : Page) (o : Option FlatEnclave) (x : Option FlatPage) (header : Header) → header_by o g x ≡ Some header
    → (is_some o ≡ true) × (is_some x ≡ true)
header_there g None x header is = cc
header_there g (Some e) None header is = cc
header_there g (Some e) (Some y) header is = (refl, refl)

-- a page has its header for ever
pub header_still : (actor : Actor) (event : Event) (m : FlatMemory) (g : Page) (header : Header) → header_in m g ≡ Some header
    → header_in (event_after actor event m) g ≡ Some header
header_still actor (Did action answer) m g header is =
    let there = header_there g (m.enclaves g.enclave) (m.pages g) header is in
    cond_both (accepts m actor action) (memory_after actor action m) m (λ (now : FlatMemory). header_in now g ≡ Some header)
    (λ taken.
    header_seen g (m.enclaves g.enclave) ((memory_after actor action m).enclaves g.enclave) (m.pages g)
    ((memory_after actor action m).pages g)
    (memory_bases actor action m g.enclave taken there.0) (memory_pages actor action m g taken there.1) ∙ is)
    (λ _. is)
header_still actor event m g header is = is

-- .. also a SECS and a version array page
pub header_kept : (past : List Entry) (actor : Actor) (event : Event) (g : Page) (header : Header) → header_at past g ≡ Some header
    → header_at (entry_of actor event ∷ past) g ≡ Some header
header_kept past actor event g header = by_name (is_va_page g) (is_secs_page g)
  where
    by_name : (va secs : Bool)
        → cond va (Some (va_header g.number)) (cond secs (Some (secs_header g.enclave)) (header_in (flat past) g)) ≡ Some header
        → cond va (Some (va_header g.number)) (cond secs (Some (secs_header g.enclave)) (header_in (event_after actor event (flat past)) g))
        ≡ Some header
    by_name true secs is = is
    by_name false true is = is
    by_name false false is = header_still actor event (flat past) g header is
