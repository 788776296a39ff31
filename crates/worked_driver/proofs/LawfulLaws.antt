-- What the tests of an entry tell.
use Rattle.std.specs.Option.{IsSomeAnd}
use Rattle.std.proofs.Common.{◌≡◌, ℕ, ◌<◌, ◌==◌, ◌&&◌, ◌||◌, not, nat_lt, Bool, true, false, refl, ap, subst, List}
use Rattle.std.proofs.Common.{Option, Some, None, is_none, is_some, arith}
use Rattle.std.proofs.lemmas.Bool.{eqb-true, false≢true}
use Rattle.sgx_rules.specs.declared.entries.Action.{Action}
use Rattle.sgx_rules.specs.declared.entries.Action.TheVariants.{Epa, Create, Add, Extend, Init, Enter, Resume, Exit, Aex, Fill}
use Rattle.sgx_rules.specs.declared.entries.Action.TheVariants.{Load, Store}
use Rattle.sgx_rules.specs.declared.entries.Action.TheVariants.{Xadd, Set, Plus, Pf, OutLoad, OutStore, Block, Track, EwbStart}
use Rattle.sgx_rules.specs.declared.entries.Action.TheVariants.{Ewb}
use Rattle.sgx_rules.specs.declared.entries.Action.TheVariants.{EldStart, Eld}
use Rattle.sgx_types.specs.declared.names.Actor.{Actor}
use Rattle.sgx_types.specs.declared.names.Actor.TheVariants as actors
use Rattle.sgx_rules.specs.declared.entries.Answer.{Answer}
use Rattle.sgx_rules.specs.declared.entries.Answer.TheVariants as answers
use Rattle.sgx_rules.specs.declared.entries.Entry.{Entry}
use Rattle.sgx_rules.specs.declared.entries.Event.{Event}
use Rattle.sgx_rules.specs.declared.entries.Event.TheVariants.{Did, Refused, Age, Kick, Bus}
use Rattle.sgx_rules.specs.declared.entries.PfWhy.{PfWhy}
use Rattle.sgx_rules.specs.declared.entries.PfWhy.TheVariants as faults
use Rattle.sgx_types.specs.declared.names.Page.{Page}
use Rattle.sgx_rules.specs.declared.refusals.Refusal.{Refusal}
use Rattle.sgx_rules.specs.declared.refusals.Refusal.TheVariants as why
use Rattle.sgx_rules.specs.Ends.{EndsIn, EndsOut, IsNotBack}
use Rattle.sgx_rules.specs.Flat.{accepts, flat, flat_answer, is_visible}
use Rattle.sgx_rules.specs.Frames.{Content, Holds, content, is_this, page_there, stands, vas_made}
use Rattle.sgx_rules.specs.Fresh.{FreshRule, Out, ReloadRule, last_out}
use Rattle.sgx_types.specs.Making.{Making}
use Rattle.sgx_rules.specs.Rules.{EndsWriteOut, EvictRule, FitsRule, FlatRule, GoesOut, HasForm, NamesFrames, RefusalRule}
use Rattle.sgx_rules.specs.Rules.{RisingRule}
use Rattle.sgx_rules.specs.Rules.{StaleRule, TakesFree, case_of, seen_answer}
use Rattle.sgx_rules.specs.Slots.{version_at, version_in}
use Rattle.sgx_rules.specs.Starts.{Start, open_start}
use Rattle.sgx_types.proofs.Pages.{same_pages}
use Rattle.sgx_types.proofs.Truths.{both_true}
use Rattle.sgx_rules.proofs.Contents.{free_is}
use Rattle.job_grammar.specs.Jobs.{JobView}
use Rattle.script_rules.specs.Machines.{machine_of}
use Rattle.driver_rules.specs.inner.Same.{same_numbers}
use Rattle.driver_rules.proofs.SameLaws.{action-refl, numbers-true}
use Rattle.history_rules.specs.declared.rules.Rule.{Rule}
use Rattle.history_rules.specs.declared.rules.Rule.TheVariants as rules
use Rattle.history_rules.specs.Histories.{RuleSays}
use Rattle.history_rules.specs.inner.Histories.{is_machines}
use Rattle.worked_driver.specs.inner.Lawful.{case_at, goes_out, is_case, is_ended_in, is_ended_out, is_formed, is_in_slot}
use Rattle.worked_driver.specs.inner.Lawful.{is_lawful, is_misdone}
use Rattle.worked_driver.specs.inner.Lawful.{is_out, is_reload, is_rising, is_unfit, is_write_out, keeps_evict, keeps_fits}
use Rattle.worked_driver.specs.inner.Lawful.{keeps_flat}
use Rattle.worked_driver.specs.inner.Lawful.{keeps_fresh, keeps_refusal, keeps_six, keeps_stale, names_frames, same_answer}
use Rattle.worked_driver.specs.inner.Lawful.{same_fault}
use Rattle.worked_driver.specs.inner.Lawful.{takes_free, tells_digest, is_of_six}

pub none_of : {T : Type 0} (o : Option T) → is_none o ≡ true → o ≡ None
none_of None h = refl
none_of (Some x) h = cc

pub is_below : (m n : ℕ) → nat_lt m n ≡ true → m < n
is_below m n h = grind arith

-- ---- lists of numbers, by the digest of an `init`

numbers_refl : (a : List ℕ) → same_numbers a a ≡ true
numbers_refl a = action-refl (Init 0 (Some a))

-- ---- Refusal

same_case : (o c : Option Refusal) → is_case o c ≡ true → o ≡ c
same_case None None h = refl
same_case (Some (why.NotTracked epoch older)) (Some (why.NotTracked e o)) h =
    let k = both_true (epoch == e) (older == o) h in λ i. Some (why.NotTracked (eqb-true epoch e k.0 i) (eqb-true older o k.1 i))
same_case (Some (why.PrevTrk older)) (Some (why.PrevTrk o)) h = ap (λ n. Some (why.PrevTrk n)) (eqb-true older o h)
same_case (Some why.Absent) (Some why.Absent) h = refl
same_case (Some why.BlkState) (Some why.BlkState) h = refl
same_case (Some why.Conflict) (Some why.Conflict) h = refl
same_case (Some why.EpochSpent) (Some why.EpochSpent) h = refl
same_case (Some why.VersionSpent) (Some why.VersionSpent) h = refl
same_case _ _ h = absurd (false≢true h)

some_page : (o : Option Page) (page : Page) → is_this o page ≡ true → o ≡ Some page
some_page None page h = cc
some_page (Some loaded) page h = ap Some (same_pages loaded page h)

ended_out : (past : List Entry) (n : ℕ) (page : Page) (version : ℕ) (tag : List ℕ) (o : Option Start) → open_start past n ≡ o
    → is_ended_out (content past n) o page ≡ true → EndsOut past n (answers.Moved page version tag)
ended_out past n page version tag None opened h = absurd (false≢true h)
ended_out past n page version tag (Some start) opened h =
    let k = both_true (stands (content past n) page) (is_none start.loads) h in record {
      page = page;
      held = some_page (page_there (content past n)) page k.0;
      start = start;
      opened = opened;
      writes = none_of start.loads k.1;
      version = version;
      tag = tag;
      told = refl;
    }

ended_in : (past : List Entry) (n : ℕ) (page : Page) (o : Option Start) → open_start past n ≡ o → is_ended_in o page ≡ true
    → EndsIn past n page
ended_in past n page None opened h = absurd (false≢true h)
ended_in past n page (Some start) opened h = record { start = start; opened = opened; loads = some_page start.loads page h }

formed : (past : List Entry) (action : Action) (answer : Answer) → is_formed past action answer ≡ true → HasForm past action answer
formed past (Epa f) (answers.Va k) h = ap answers.Va (eqb-true k (vas_made past) h)
formed past (Create enclave f base size) answers.Plain h = refl
formed past (Add enclave number f kind perm init) answers.Plain h = refl
formed past (Extend f chunk) answers.Plain h = refl
formed past (Init enclave expect) (answers.Hash digest) h = (digest, refl)
formed past (Enter enclave tcs tf sf) (answers.Cssa cssa) h = (cssa, refl)
formed past (Resume enclave tcs tf sf) (answers.Value acc) h = (acc, refl)
formed past Exit answers.Plain h = refl
formed past (Aex cause) answers.Plain h = refl
formed past (Fill number f) answers.Plain h = refl
formed past (Load off) (answers.Value word) h = (word, refl)
formed past (Store off value) answers.Plain h = refl
formed past (Xadd off value) (answers.Value word) h = (word, refl)
formed past (Set value) answers.Plain h = refl
formed past (Plus value) (answers.Value acc) h = (acc, refl)
formed past (Pf op off) (answers.Pf fault) h = (fault, refl)
formed past (OutLoad enclave off) (answers.Value word) h = (word, refl)
formed past (OutStore enclave off value) answers.Plain h = refl
formed past (Block f) answers.Plain h = refl
formed past (Track enclave) answers.Plain h = refl
formed past (EwbStart f slot) (answers.Version version) h = (version, refl)
formed past (Ewb f) (answers.Moved page version tag) h =
    ended_out past f.0 page version tag (open_start past f.0) refl h
formed past (EldStart f page slot) (answers.Version version) h = ap answers.Version (eqb-true version (version_at past slot) h)
formed past (Eld f) (answers.Moved page version tag) h =
    record { page = page; ends = ended_in past f.0 page (open_start past f.0) refl h; version = version; tag = tag; told = refl }
formed past _ _ h = absurd (false≢true h)

differ : (a b : List ℕ) → not (same_numbers a b) ≡ true → a ≡ b → ⊥
differ a b h e = false≢true (subst (λ x. not x ≡ true) (subst (λ c. same_numbers a c ≡ true) e (numbers_refl a)) h)

unfit_load : (past : List Entry) (n : ℕ) (start : Start) (given computed : List ℕ) (loads : Option Page) → open_start past n ≡ Some start
    → start.loads ≡ loads → is_some loads ≡ true → not (same_numbers given computed) ≡ true → IsNotBack past n (why.MacFail given computed)
unfit_load past n start given computed None opened loads some h = absurd (false≢true some)
unfit_load past n start given computed (Some page) opened loads some h = record {
  page = page;
  ends = record { start = start; opened = opened; loads = loads };
  unfit = differ given computed h;
}

not_back : (past : List Entry) (n : ℕ) (o : Option Start) (refusal : Refusal) → open_start past n ≡ o → is_unfit o refusal ≡ true
    → IsNotBack past n refusal
not_back past n (Some start) (why.MacFail given computed) opened h =
    let k = both_true (is_some start.loads) (not (same_numbers given computed)) h in
    unfit_load past n start given computed start.loads opened refl k.0 k.1
not_back past n _ _ opened h = absurd (false≢true h)

refusal_tells : (k : Making) (past : List Entry) (a : Actor) (ev : Event) → keeps_refusal k past a ev ≡ true
    → RefusalRule k past (record { actor = a; event = ev })
refusal_tells k past a (Did action answer) h =
    let t = both_true (is_none (case_at k past a action)) (is_formed past action answer) h in
    (none_of (case_at k past a action) t.0, formed past action answer t.1)
refusal_tells k past a (Refused (Ewb f) refusal) h = absurd (false≢true h)
refusal_tells k past a (Refused (Eld f) refusal) h = not_back past f.0 (open_start past f.0) refusal refl h
refusal_tells k past a (Refused action refusal) h = same_case (case_at k past a action) (case_of action refusal) h
refusal_tells k past a (Age page look) h = tt
refusal_tells k past a (Kick cpu) h = tt
refusal_tells k past a (Bus page reason) h = tt

some_case : (o : Option Refusal) → is_some o ≡ true → o ≡ None → ⊥
some_case None h e = false≢true h
some_case (Some refusal) h e = cc

not_started : (o : Option Start) (start : Start) → is_none o ≡ true → o ≡ Some start → ⊥
not_started None start h e = cc
not_started (Some other) start h e = false≢true h

pub misdone_breaks : (j : JobView) (past : List Entry) (a : Actor) (ev : Event) → is_misdone j past a ev ≡ true
    → RefusalRule (machine_of j) past (record { actor = a; event = ev }) → ⊥
misdone_breaks j past a (Did (Ewb f) answer) h rule = not_started (open_start past f.0) rule.1.start h rule.1.opened
misdone_breaks j past a (Did action answer) h rule = some_case (case_at (machine_of j) past a action) h rule.0
misdone_breaks j past a _ h rule = false≢true h

-- ---- Flat

faults_equal : (a b : PfWhy) → same_fault a b ≡ true → a ≡ b
faults_equal faults.Absent faults.Absent h = refl
faults_equal faults.WrongType faults.WrongType h = refl
faults_equal faults.NoPerm faults.NoPerm h = refl
faults_equal _ _ h = absurd (false≢true h)

answers_equal : (a b : Answer) → same_answer a b ≡ true → a ≡ b
answers_equal answers.Plain answers.Plain h = refl
answers_equal (answers.Cssa a) (answers.Cssa b) h = ap answers.Cssa (eqb-true a b h)
answers_equal (answers.Value a) (answers.Value b) h = ap answers.Value (eqb-true a b h)
answers_equal (answers.Pf a) (answers.Pf b) h = ap answers.Pf (faults_equal a b h)
answers_equal _ _ h = absurd (false≢true h)

-- what is seen passes the other test
where_seen : (seen test : Bool) → (not seen || test) ≡ true → seen ≡ true → test ≡ true
where_seen true test h e = h
where_seen false test h e = cc

flat_tells : (past : List Entry) (a : Actor) (ev : Event) → keeps_flat past a ev ≡ true → FlatRule past (record { actor = a; event = ev })
flat_tells past a (Did action answer) h = λ seen.
    (let same = same_answer (seen_answer action answer) (flat_answer (flat past) a action) in
    let k = both_true (accepts (flat past) a action) same (where_seen (is_visible action) (accepts (flat past) a action && same) h seen) in
    record { taken = k.0; same = answers_equal (seen_answer action answer) (flat_answer (flat past) a action) k.1 })
flat_tells past a (Refused action refusal) h = tt
flat_tells past a (Age page look) h = tt
flat_tells past a (Kick cpu) h = tt
flat_tells past a (Bus page reason) h = tt

-- ---- Fits

both_below : (m n frames : ℕ) → (nat_lt m frames && nat_lt n frames) ≡ true → (m < frames) × (n < frames)
both_below m n frames h =
    let k = both_true (nat_lt m frames) (nat_lt n frames) h in (is_below m frames k.0, is_below n frames k.1)

names_tell : (frames : ℕ) (action : Action) → names_frames frames action ≡ true → NamesFrames frames action
names_tell frames (Epa f) h = is_below f.0 frames h
names_tell frames (Create enclave f base size) h = is_below f.0 frames h
names_tell frames (Add enclave number f kind perm init) h = is_below f.0 frames h
names_tell frames (Extend f chunk) h = is_below f.0 frames h
names_tell frames (Enter enclave tcs tf sf) h = both_below tf.0 sf.0 frames h
names_tell frames (Resume enclave tcs tf sf) h = both_below tf.0 sf.0 frames h
names_tell frames (Fill number f) h = is_below f.0 frames h
names_tell frames (Block f) h = is_below f.0 frames h
names_tell frames (EwbStart f slot) h = both_below f.0 slot.frame.0 frames h
names_tell frames (Ewb f) h = is_below f.0 frames h
names_tell frames (EldStart f page slot) h = both_below f.0 slot.frame.0 frames h
names_tell frames (Eld f) h = is_below f.0 frames h
names_tell frames _ h = tt

takes_tell : (past : List Entry) (action : Action) → takes_free past action ≡ true → TakesFree past action
takes_tell past (Epa f) h = free_is (content past f.0) h
takes_tell past (Create enclave f base size) h = free_is (content past f.0) h
takes_tell past (Add enclave number f kind perm init) h = free_is (content past f.0) h
takes_tell past (EldStart f page slot) h = free_is (content past f.0) h
takes_tell past _ h = tt

fits_tell : (frames : ℕ) (past : List Entry) (a : Actor) (ev : Event) → keeps_fits frames past ev ≡ true
    → FitsRule frames past (record { actor = a; event = ev })
fits_tell frames past a (Did action answer) h =
    let k = both_true (names_frames frames action) (takes_free past action) h in
    (names_tell frames action k.0, takes_tell past action k.1)
fits_tell frames past a _ h = tt

-- ---- Stale

stale_tells : (past : List Entry) (a : Actor) (ev : Event) → keeps_stale past a ev ≡ true
    → StaleRule past (record { actor = a; event = ev })
stale_tells past (actors.Cpu p) (Did (Load off) answer) h = h
stale_tells past (actors.Cpu p) (Did (Store off value) answer) h = h
stale_tells past (actors.Cpu p) (Did (Xadd off value) answer) h = h
stale_tells past actors.Builder (Did (Load off) answer) h = absurd (false≢true h)
stale_tells past actors.Builder (Did (Store off value) answer) h = absurd (false≢true h)
stale_tells past actors.Builder (Did (Xadd off value) answer) h = absurd (false≢true h)
stale_tells past actors.Reclaimer (Did (Load off) answer) h = absurd (false≢true h)
stale_tells past actors.Reclaimer (Did (Store off value) answer) h = absurd (false≢true h)
stale_tells past actors.Reclaimer (Did (Xadd off value) answer) h = absurd (false≢true h)
stale_tells past a _ h = tt

-- ---- Evict

out_tells : (past : List Entry) (n : ℕ) (held : Content) → goes_out past n held ≡ true → GoesOut past n held
out_tells past n (Holds page kind perm) h = h
out_tells past n _ h = absurd (false≢true h)

written_out : (o : Option Start) (version : ℕ) → is_write_out o version ≡ true → EndsWriteOut o version
written_out None version h = absurd (false≢true h)
written_out (Some start) version h =
    let k = both_true (start.version == version) (is_none start.loads) h in record {
      start = start;
      opened = refl;
      writes = none_of start.loads k.1;
      told = eqb-true start.version version k.0;
    }

evict_tells : (past : List Entry) (a : Actor) (ev : Event) → keeps_evict past ev ≡ true → EvictRule past (record { actor = a; event = ev })
evict_tells past a (Did (EwbStart f slot) answer) h = out_tells past f.0 (content past f.0) h
evict_tells past a (Did (Ewb f) (answers.Moved page version tag)) h = written_out (open_start past f.0) version h
evict_tells past a (Did (Ewb f) answer) h = absurd (false≢true h)
evict_tells past a _ h = tt

-- ---- Fresh

rising_tells : (first : ℕ) (past : List Entry) (a : Actor) (ev : Event) → is_rising first past ev ≡ true
    → RisingRule first past (record { actor = a; event = ev })
rising_tells first past a (Did (EwbStart f slot) (answers.Version version)) h = ap answers.Version (eqb-true version _ h)
rising_tells first past a (Did (EwbStart f slot) answer) h = absurd (false≢true h)
rising_tells first past a _ h = tt

was_out : (o : Option Out) (version : ℕ) (tag : List ℕ) → is_out o version tag ≡ true → o ≡ Some (record { version = version; tag = tag })
was_out None version tag h = absurd (false≢true h)
was_out (Some out) version tag h =
    let k = both_true (out.version == version) (same_numbers out.tag tag) h in
    λ i. Some (record { version = eqb-true out.version version k.0 i; tag = numbers-true out.tag tag k.1 i })

in_slot : (past : List Entry) (o : Option Start) (version : ℕ) → is_in_slot past o version ≡ true
    → IsSomeAnd o (λ start. version_in past start.slot ≡ version)
in_slot past None version h = absurd (false≢true h)
in_slot past (Some start) version h = eqb-true (version_in past start.slot) version h

reload_tells : (past : List Entry) (a : Actor) (ev : Event) → is_reload past ev ≡ true → ReloadRule past (record { actor = a; event = ev })
reload_tells past a (Did (Eld f) (answers.Moved page version tag)) h =
    let k = both_true (is_out (last_out past page) version tag) (is_in_slot past (open_start past f.0) version) h in
    record { last = was_out (last_out past page) version tag k.0; slot = in_slot past (open_start past f.0) version k.1 }
reload_tells past a (Did (Eld f) answer) h = absurd (false≢true h)
reload_tells past a _ h = tt

fresh_tells : (first : ℕ) (past : List Entry) (a : Actor) (ev : Event) → keeps_fresh first past ev ≡ true
    → FreshRule first past (record { actor = a; event = ev })
fresh_tells first past a ev h =
    let k = both_true (is_rising first past ev) (is_reload past ev) h in
    record { rising = rising_tells first past a ev k.0; reload = reload_tells past a ev k.1 }

-- ---- together

-- a rule of the six says of an entry no more than of its place
by_six : (j : JobView) (past : List Entry) (a : Actor) (ev : Event) (rule : Rule) → keeps_refusal (machine_of j) past a ev ≡ true
    → keeps_flat past a ev ≡ true → keeps_fits j.epc past ev ≡ true → keeps_stale past a ev ≡ true → keeps_evict past ev ≡ true
    → keeps_fresh j.start_version past ev ≡ true → is_of_six rule ≡ true → RuleSays j rule past None
    → RuleSays j rule past (Some (record { actor = a; event = ev }))
by_six j past a ev rules.Refusal refusal flat fits stale evict fresh own says = refusal_tells (machine_of j) past a ev refusal
by_six j past a ev rules.Flat refusal flat fits stale evict fresh own says = flat_tells past a ev flat
by_six j past a ev rules.Fits refusal flat fits stale evict fresh own says = (fits_tell j.epc past a ev fits, says.1)
by_six j past a ev rules.Stale refusal flat fits stale evict fresh own says = (stale_tells past a ev stale, says.1)
by_six j past a ev rules.Evict refusal flat fits stale evict fresh own says = evict_tells past a ev evict
by_six j past a ev rules.Fresh refusal flat fits stale evict fresh own says = fresh_tells j.start_version past a ev fresh
by_six j past a ev _ refusal flat fits stale evict fresh own says = absurd (false≢true own)

pub six_say : (j : JobView) (past : List Entry) (a : Actor) (ev : Event) (rule : Rule) → keeps_six j past a ev ≡ true
    → is_of_six rule ≡ true → RuleSays j rule past None → RuleSays j rule past (Some (record { actor = a; event = ev }))
six_say j past a ev rule h own says =
    let refusal = keeps_refusal (machine_of j) past a ev in
    let flat = keeps_flat past a ev in
    let fits = keeps_fits j.epc past ev in
    let stale = keeps_stale past a ev in
    let evict = keeps_evict past ev in
    let fresh = keeps_fresh j.start_version past ev in
    let one = both_true refusal (flat && (fits && (stale && (evict && fresh)))) h in
    let two = both_true flat (fits && (stale && (evict && fresh))) one.1 in
    let three = both_true fits (stale && (evict && fresh)) two.1 in
    let four = both_true stale (evict && fresh) three.1 in
    let five = both_true evict fresh four.1 in
    by_six j past a ev rule one.0 two.0 three.0 four.0 five.0 five.1 own says

untold : (j : JobView) (past : List Entry) (a : Actor) (ev : Event) → not (tells_digest ev) ≡ true
    → RuleSays j rules.Sealed past (Some (record { actor = a; event = ev })) × RuleSays j rules.Measure past
    (Some (record { actor = a; event = ev }))
untold j past a (Did (Init enclave expect) answer) h = absurd (false≢true h)
untold j past a (Refused (Init enclave expect) refusal) h = absurd (false≢true h)
untold j past a (Did (Ewb f) answer) h = absurd (false≢true h)
untold j past a _ h = (tt, tt)

-- a rule of the machine says of a lawful entry no more than of the place
by_eight : (j : JobView) (past : List Entry) (a : Actor) (ev : Event) (rule : Rule) → keeps_six j past a ev ≡ true
    → not (tells_digest ev) ≡ true → is_machines rule ≡ true → RuleSays j rule past None
    → RuleSays j rule past (Some (record { actor = a; event = ev }))
by_eight j past a ev rules.Sealed six untold_there own says = (untold j past a ev untold_there).0
by_eight j past a ev rules.Measure six untold_there own says = (untold j past a ev untold_there).1
by_eight j past a ev rules.Refusal six untold_there own says = six_say j past a ev rules.Refusal six refl says
by_eight j past a ev rules.Flat six untold_there own says = six_say j past a ev rules.Flat six refl says
by_eight j past a ev rules.Fits six untold_there own says = six_say j past a ev rules.Fits six refl says
by_eight j past a ev rules.Stale six untold_there own says = six_say j past a ev rules.Stale six refl says
by_eight j past a ev rules.Evict six untold_there own says = six_say j past a ev rules.Evict six refl says
by_eight j past a ev rules.Fresh six untold_there own says = six_say j past a ev rules.Fresh six refl says
by_eight j past a ev _ six untold_there own says = absurd (false≢true own)

pub lawful_says : (j : JobView) (past : List Entry) (a : Actor) (ev : Event) (rule : Rule) → is_lawful j past a ev ≡ true
    → is_machines rule ≡ true → RuleSays j rule past None → RuleSays j rule past (Some (record { actor = a; event = ev }))
lawful_says j past a ev rule h own says =
    let k = both_true (keeps_six j past a ev) (not (tells_digest ev)) h in by_eight j past a ev rule k.0 k.1 own says
