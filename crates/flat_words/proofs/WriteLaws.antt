-- An entry writes the words that it is told to write, and of the page that it adds, and no others.
use Rattle.std.proofs.Common.{◌≡◌, ℕ, ◌+◌, ◌-◌, ◌*◌, ◌/◌, ◌%◌, ◌^◌, ◌==◌, ◌&&◌, Bool, true, false, if◌then◌else◌}
use Rattle.std.proofs.Common.{inl, inr}
use Rattle.std.proofs.Common.{List, Option, Some, None, is_some, is_none, unwrap_or, set, get_or, refl, sym, ap, ◌∙◌}
use Rattle.std.proofs.lemmas.Bool.{false≢true, eq-eqb}
use Rattle.std.proofs.lemmas.List.{get_or-set_other}
use Rattle.sgx_types.specs.declared.names.Actor.{Actor}
use Rattle.sgx_types.specs.declared.names.Actor.TheVariants.{Builder, Cpu, Reclaimer}
use Rattle.sgx_types.specs.declared.names.Page.{Page}
use Rattle.sgx_types.specs.Pages.{same_page, page_at}
use Rattle.sgx_types.proofs.Pages.{same_pages}
use Rattle.sgx_types.proofs.Truths.{neither, tested}
use Rattle.sgx_types.specs.declared.names.Kind.{Kind}
use Rattle.sgx_types.specs.declared.names.Perm.{Perm}
use Rattle.sgx_types.specs.declared.lawful.PageInit.{PageInit}
use Rattle.sgx_rules.specs.declared.entries.Action.{Action}
use Rattle.sgx_rules.specs.declared.entries.Action.TheVariants.{Add, Resume, Aex, Store}
use Rattle.sgx_rules.specs.declared.entries.Action.TheVariants.{Xadd}
use Rattle.sgx_rules.specs.declared.entries.Entry.{Entry}
use Rattle.sgx_rules.specs.declared.entries.Event.{Event}
use Rattle.sgx_rules.specs.declared.entries.Event.TheVariants.{Did}
use Rattle.sgx_rules.specs.declared.refusals.Refusal.{Refusal}
use Rattle.sgx_types.specs.Cases.{first_of_row}
use Rattle.sgx_rules.specs.Table.{EnclaveSight, add_row}
use Rattle.sgx_rules.proofs.Rows.{none_holds}
use Rattle.sgx_rules.specs.Flat.{FlatMemory, FlatPage, Inside, accepts, memory_after, event_after, cpu_after, with_words, with_cssa}
use Rattle.sgx_rules.specs.Flat.{rewritten}
use Rattle.sgx_rules.specs.Flat.{word_index, fields_in, stored, saved, first_words, open_frame, settled, enclave_sight}
use Rattle.flat_words.specs.declared.writes.NewPage.{NewPage}
use Rattle.flat_words.specs.Words.{word_of, word_in}
use Rattle.flat_words.specs.Writes.{is_touched, writes_of, cpu_writes, touched, new_page, page_added, word_with, save_words, word_at_offset}

-- ---- one word written

-- another word of a list
other_word : (words : List ℕ) (i v k : ℕ) → (i == k) ≡ false → get_or (set words i v) k 0 ≡ get_or words k 0
other_word words i v k apart = get_or-set_other words i k v 0 (λ same. false≢true (sym apart ∙ eq-eqb i k (sym same)))

other_of : (page : Option FlatPage) (i k : ℕ) (f : List ℕ → ℕ) → (i == k) ≡ false
    → word_of (rewritten (λ words. set words i (f words)) page) k ≡ word_of page k
other_of None i k f apart = refl
other_of (Some x) i k f apart = ap Some (other_word x.words i (f x.words) k apart)

written_if : (here : Bool) (page : Option FlatPage) (i k : ℕ) (f : List ℕ → ℕ) → (here && (i == k)) ≡ false
    → word_of (if here then rewritten (λ words. set words i (f words)) page else page) k ≡ word_of page k
written_if true page i k f apart = other_of page i k f apart
written_if false page i k f apart = refl

-- a word that is not the one written
not_written : (m : FlatMemory) (h g : Page) (i k : ℕ) (f : List ℕ → ℕ) → (same_page g h && (i == k)) ≡ false
    → word_in (with_words m h (λ words. set words i (f words))) g k ≡ word_in m g k
not_written m h g i k f apart = written_if (same_page g h) (m.pages g) i k f apart

-- ---- processors

stored_stays : (m : FlatMemory) (inside : Option Inside) (off value : ℕ) (g : Page) (k : ℕ)
    → is_touched (word_at_offset inside off) g k ≡ false → word_in (stored m inside off value) g k ≡ word_in m g k
stored_stays m None off value g k apart = refl
stored_stays m (Some i) off value g k apart =
    not_written m (page_at i.enclave (off / 4096)) g (word_index off) k (λ words. value) (neither _ false apart).0

saved_stays : (m : FlatMemory) (acc : ℕ) (inside : Option Inside) (g : Page) (k : ℕ)
    → is_touched (save_words m inside) g k ≡ false → word_in (saved m acc inside) g k ≡ word_in m g k
saved_stays m acc None g k apart = refl
saved_stays m acc (Some i) g k apart =
    let fields = fields_in m i.enclave i.tcs in
    let both = neither _ _ apart in
    not_written (with_words m (page_at i.enclave (fields.ossa + fields.cssa)) (λ words. set words 0 acc)) (page_at i.enclave i.tcs) g 3 k
    (λ words. (fields.cssa + 1) % 2 ^ 32 + get_or words 3 0 / 2 ^ 32 * 2 ^ 32) both.1
    ∙ not_written m (page_at i.enclave (fields.ossa + fields.cssa)) g 0 k (λ words. acc) both.0

cpu_stays : (m : FlatMemory) (p : ℕ) (action : Action) (g : Page) (k : ℕ) → is_touched (cpu_writes m p action) g k ≡ false
    → word_in (cpu_after p action m) g k ≡ word_in m g k
cpu_stays m p (Resume enclave tcs tf sf) g k apart =
    let cssa = (fields_in m enclave tcs).cssa in
    not_written m (page_at enclave tcs) g 3 k (λ words. (cssa - 1) % 2 ^ 32 + get_or words 3 0 / 2 ^ 32 * 2 ^ 32) (neither _ false apart).0
cpu_stays m p (Aex cause) g k apart = saved_stays m (m.cpus p).acc (m.cpus p).inside g k apart
cpu_stays m p (Store off value) g k apart = stored_stays m (m.cpus p).inside off value g k apart
cpu_stays m p (Xadd off value) g k apart = stored_stays m (m.cpus p).inside off _ g k apart
cpu_stays m p action g k apart = refl

-- ---- all instructions

added_if : (here : Bool) (x : FlatPage) (page : Option FlatPage) (k : ℕ)
    → word_of (if here then Some x else page) k ≡ (if here then Some (get_or x.words k 0) else word_of page k)
added_if true x page k = refl
added_if false x page k = refl

by_actor : (m : FlatMemory) (actor : Actor) (action : Action) (g : Page) (k : ℕ) → is_touched (writes_of m actor action) g k ≡ false
    → word_in (memory_after actor action m) g k ≡ word_with (new_page action) g k (word_in m g k)
by_actor m actor (Add enclave number f kind perm init) g k apart =
    added_if (same_page g (page_at enclave number)) (record { kind = kind; perm = perm; words = first_words init }) (m.pages g) k
by_actor m (Cpu p) (Resume enclave tcs tf sf) g k apart = cpu_stays m p.0 (Resume enclave tcs tf sf) g k apart
by_actor m (Cpu p) (Aex cause) g k apart = cpu_stays m p.0 (Aex cause) g k apart
by_actor m (Cpu p) (Store off value) g k apart = cpu_stays m p.0 (Store off value) g k apart
by_actor m (Cpu p) (Xadd off value) g k apart = cpu_stays m p.0 (Xadd off value) g k apart
by_actor m (Cpu p) action g k apart = refl
by_actor m Builder action g k apart = refl
by_actor m Reclaimer action g k apart = refl

taken_if : (b : Bool) (m : FlatMemory) (actor : Actor) (action : Action) (g : Page) (k : ℕ)
    → is_touched (if b then writes_of m actor action else record { first = None; second = None }) g k ≡ false
    → word_in (if b then memory_after actor action m else m) g k ≡ word_with (if b then new_page action else None) g k (word_in m g k)
taken_if true m actor action g k apart = by_actor m actor action g k apart
taken_if false m actor action g k apart = refl

after : (m : FlatMemory) (actor : Actor) (event : Event) (g : Page) (k : ℕ) → is_touched (touched m actor event) g k ≡ false
    → word_in (event_after actor event m) g k ≡ word_with (page_added m actor event) g k (word_in m g k)
after m actor (Did action answer) g k apart = taken_if (accepts m actor action) m actor action g k apart
after m actor event g k apart = refl

pub words_after : (m : FlatMemory) (e : Entry) (g : Page) (k : ℕ) → is_touched (touched m e.actor e.event) g k ≡ false
    → word_in (event_after e.actor e.event m) g k ≡ word_with (page_added m e.actor e.event) g k (word_in m g k)
words_after m e g k apart = after m e.actor e.event g k apart

-- ---- which pages there are

kept_of : (page : Option FlatPage) (change : List ℕ → List ℕ) (k : ℕ)
    → is_some (word_of (rewritten change page) k) ≡ is_some (word_of page k)
kept_of None change k = refl
kept_of (Some x) change k = refl

kept_if : (here : Bool) (page : Option FlatPage) (change : List ℕ → List ℕ) (k : ℕ)
    → is_some (word_of (if here then rewritten change page else page) k) ≡ is_some (word_of page k)
kept_if true page change k = kept_of page change k
kept_if false page change k = refl

-- a page whose words are changed is there as before
kept : (m : FlatMemory) (h g : Page) (change : List ℕ → List ℕ) (k : ℕ)
    → is_some (word_in (with_words m h change) g k) ≡ is_some (word_in m g k)
kept m h g change k = kept_if (same_page g h) (m.pages g) change k

stored_keeps : (m : FlatMemory) (inside : Option Inside) (off value : ℕ) (g : Page) (k : ℕ)
    → is_some (word_in (stored m inside off value) g k) ≡ is_some (word_in m g k)
stored_keeps m None off value g k = refl
stored_keeps m (Some i) off value g k = kept m (page_at i.enclave (off / 4096)) g (λ words. set words (word_index off) value) k

saved_keeps : (m : FlatMemory) (acc : ℕ) (inside : Option Inside) (g : Page) (k : ℕ)
    → is_some (word_in (saved m acc inside) g k) ≡ is_some (word_in m g k)
saved_keeps m acc None g k = refl
saved_keeps m acc (Some i) g k =
    let fields = fields_in m i.enclave i.tcs in
    kept (with_words m (page_at i.enclave (fields.ossa + fields.cssa)) (λ words. set words 0 acc)) (page_at i.enclave i.tcs) g
    (λ words. with_cssa words (fields.cssa + 1)) k
    ∙ kept m (page_at i.enclave (fields.ossa + fields.cssa)) g (λ words. set words 0 acc) k

cpu_keeps : (m : FlatMemory) (p : ℕ) (action : Action) (g : Page) (k : ℕ)
    → is_some (word_in (cpu_after p action m) g k) ≡ is_some (word_in m g k)
cpu_keeps m p (Resume enclave tcs tf sf) g k =
    let cssa = (fields_in m enclave tcs).cssa in
    kept m (page_at enclave tcs) g (λ words. with_cssa words (cssa - 1)) k
cpu_keeps m p (Aex cause) g k = saved_keeps m (m.cpus p).acc (m.cpus p).inside g k
cpu_keeps m p (Store off value) g k = stored_keeps m (m.cpus p).inside off value g k
cpu_keeps m p (Xadd off value) g k = stored_keeps m (m.cpus p).inside off _ g k
cpu_keeps m p action g k = refl

added_by_actor : (m : FlatMemory) (actor : Actor) (action : Action) (g : Page) (k : ℕ)
    → is_some (word_in (memory_after actor action m) g k) ≡ is_some (word_with (new_page action) g k (word_in m g k))
added_by_actor m actor (Add enclave number f kind perm init) g k =
    ap is_some
    (added_if (same_page g (page_at enclave number)) (record { kind = kind; perm = perm; words = first_words init }) (m.pages g) k)
added_by_actor m (Cpu p) (Resume enclave tcs tf sf) g k = cpu_keeps m p.0 (Resume enclave tcs tf sf) g k
added_by_actor m (Cpu p) (Aex cause) g k = cpu_keeps m p.0 (Aex cause) g k
added_by_actor m (Cpu p) (Store off value) g k = cpu_keeps m p.0 (Store off value) g k
added_by_actor m (Cpu p) (Xadd off value) g k = cpu_keeps m p.0 (Xadd off value) g k
added_by_actor m (Cpu p) action g k = refl
added_by_actor m Builder action g k = refl
added_by_actor m Reclaimer action g k = refl

added_if_taken : (b : Bool) (m : FlatMemory) (actor : Actor) (action : Action) (g : Page) (k : ℕ)
    → is_some (word_in (if b then memory_after actor action m else m) g k)
    ≡ is_some (word_with (if b then new_page action else None) g k (word_in m g k))
added_if_taken true m actor action g k = added_by_actor m actor action g k
added_if_taken false m actor action g k = refl

added_by_event : (m : FlatMemory) (actor : Actor) (event : Event) (g : Page) (k : ℕ)
    → is_some (word_in (event_after actor event m) g k) ≡ is_some (word_with (page_added m actor event) g k (word_in m g k))
added_by_event m actor (Did action answer) g k = added_if_taken (accepts m actor action) m actor action g k
added_by_event m actor event g k = refl

pub added_or_kept : (m : FlatMemory) (e : Entry) (g : Page) (k : ℕ)
    → is_some (word_in (event_after e.actor e.event m) g k) ≡ is_some (word_with (page_added m e.actor e.event) g k (word_in m g k))
added_or_kept m e g k = added_by_event m e.actor e.event g k

-- ---- pages

no_page : (page : Option FlatPage) → is_some page ≡ false → page ≡ None
no_page None h = refl
no_page (Some x) h = cc

free : (o : Option Refusal) → is_none o ≡ true → o ≡ None
free None h = refl
free (Some why) h = cc

-- the row of `add` refuses a page that is there
new_by : (number : ℕ) (kind : Kind) (perm : Perm) (init : PageInit) (enclave : Option EnclaveSight) (page : Option FlatPage)
    → first_of_row (add_row number kind perm init enclave settled (is_some page) open_frame) ≡ None → page ≡ None
new_by number kind perm init None page taken =
    absurd (false≢true (sym (none_holds (add_row number kind perm init None settled (is_some page) open_frame) taken).1.0))
new_by number kind perm init (Some x) page taken =
    no_page page (none_holds (add_row number kind perm init (Some x) settled (is_some page) open_frame) taken).1.1.1.1.1.1.1.0

taken_new : (m : FlatMemory) (actor : Actor) (action : Action) (x : NewPage) → accepts m actor action ≡ true
    → new_page action ≡ Some x → m.pages (page_at x.enclave x.number) ≡ None
taken_new m actor (Add enclave number f kind perm init) x taken is =
    let same = ap (λ o. unwrap_or o x) is in
    ap (λ (y : NewPage). m.pages (page_at y.enclave y.number)) (sym same)
    ∙ new_by number kind perm init (enclave_sight m enclave) (m.pages (page_at enclave number)) (free _ taken)
taken_new m actor action x taken is = absurd (false≢true (ap is_some is))

new_if : (b : Bool) (m : FlatMemory) (actor : Actor) (action : Action) (x : NewPage) → accepts m actor action ≡ b
    → (if b then new_page action else None) ≡ Some x → m.pages (page_at x.enclave x.number) ≡ None
new_if true m actor action x taken is = taken_new m actor action x taken is
new_if false m actor action x taken is = absurd (false≢true (ap is_some is))

new_by_event : (m : FlatMemory) (actor : Actor) (event : Event) (x : NewPage) → page_added m actor event ≡ Some x
    → m.pages (page_at x.enclave x.number) ≡ None
new_by_event m actor (Did action answer) x is = new_if (accepts m actor action) m actor action x refl is
new_by_event m actor event x is = absurd (false≢true (ap is_some is))

pub none_before : (m : FlatMemory) (e : Entry) (x : NewPage) → page_added m e.actor e.event ≡ Some x
    → m.pages (page_at x.enclave x.number) ≡ None
none_before m e x is = new_by_event m e.actor e.event x is

elsewhere_if : (here : Bool) (first before : Option ℕ) → here ≡ false → (if here then first else before) ≡ before
elsewhere_if true first before h = absurd (false≢true (sym h))
elsewhere_if false first before h = refl

elsewhere : (m : FlatMemory) (new : Option NewPage) (g : Page) (k : ℕ) (before : Option ℕ)
    → ((x : NewPage) → new ≡ Some x → m.pages (page_at x.enclave x.number) ≡ None) → is_some (m.pages g) ≡ true
    → word_with new g k before ≡ before
elsewhere m None g k before none there = refl
elsewhere m (Some x) g k before none there =
    elsewhere_if (same_page g (page_at x.enclave x.number)) (Some (get_or (first_words x.init) k 0)) before
    (elim (tested (same_page g (page_at x.enclave x.number))) [
      | inl same ↦
          absurd (false≢true (ap is_some (sym (none x refl)) ∙ ap (λ q. is_some (m.pages q)) (sym (same_pages g _ same)) ∙ there))
      | inr apart ↦ apart
    ])

pub added_words_stay : (m : FlatMemory) (e : Entry) (g : Page) (k : ℕ) → is_some (m.pages g) ≡ true
    → is_touched (touched m e.actor e.event) g k ≡ false → word_in (event_after e.actor e.event m) g k ≡ word_in m g k
added_words_stay m e g k there apart =
    words_after m e g k apart ∙ elsewhere m (page_added m e.actor e.event) g k (word_in m g k) (none_before m e) there
