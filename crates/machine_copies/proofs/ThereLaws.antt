-- Which pages there are, by the entries and by what rows see: an instruction is done exactly where its row allows it, so flat memory
-- has what was made, and nothing is made twice.
use Rattle.std.proofs.Common.{◌≡◌, ℕ, ◌+◌, ◌/◌, ◌<◌, ◌==◌, ◌&&◌, ◌||◌, not, Bool, true, false, cond, refl, sym, ap, ◌∙◌}
use Rattle.std.proofs.Common.{subst, Option, Some, None, is_some, is_none, List, [], ◌∷◌, nat_le, nat_lt, leb, ltb}
use Rattle.std.proofs.Common.{arith}
use Rattle.std.proofs.lemmas.Bool.{eqb-true, eqb-false, eq-eqb, false≢true, ltb-true, lt-ltb, leb-true, false_from_ne_true}
use Rattle.sgx_rules.specs.declared.entries.Action.TheVariants.{Epa, Create, Add, Init}
use Rattle.sgx_types.specs.declared.names.Actor.{Actor}
use Rattle.sgx_rules.specs.declared.entries.Answer.{Answer}
use Rattle.sgx_rules.specs.declared.entries.Entry.{Entry}
use Rattle.sgx_rules.specs.declared.entries.Event.{Event}
use Rattle.sgx_rules.specs.declared.entries.Event.TheVariants.{Did}
use Rattle.sgx_types.specs.declared.lawful.PageInit.{PageInit}
use Rattle.sgx_types.specs.declared.lawful.PageInit.TheVariants as inits
use Rattle.sgx_types.specs.declared.names.Frame.{Frame}
use Rattle.sgx_types.specs.declared.names.Kind.{Kind}
use Rattle.sgx_types.specs.declared.names.Page.{Page}
use Rattle.sgx_types.specs.declared.names.Perm.{Perm}
use Rattle.sgx_types.specs.declared.names.TheConstants.{SECS_NUMBER}
use Rattle.sgx_rules.specs.inner.Enclaves.{created, created_by, is_there}
use Rattle.sgx_rules.specs.Flat.{FlatEnclave, FlatPage, added_as, enclave_sight, enclave_sight_of, flat, flat_build_row, as_initialised}
use Rattle.sgx_rules.specs.Flat.{open_frame, settled}
use Rattle.sgx_types.specs.Pages.{is_secs_page, is_va_page, page_at, same_page, secs_page, va_page}
use Rattle.sgx_rules.specs.Frames.{added, added_by, vas_after, vas_made}
use Rattle.sgx_types.specs.Making.{Making}
use Rattle.sgx_rules.specs.Rules.{Along, RefusalRule}
use Rattle.sgx_rules.specs.Sights.{is_known, row_at, secs_sight_at, sight_at}
use Rattle.sgx_types.specs.Lawful.{is_enclave, is_lawful, is_within}
use Rattle.sgx_rules.specs.Table.{EnclaveSight, FrameSight, SecsSight, add_row, create_row, init_row, is_made}
use Rattle.sgx_types.proofs.Pages.{same_page-refl}
use Rattle.sgx_rules.proofs.Rows.{NoneHolds, none_holds, none_refused}
use Rattle.sgx_types.proofs.Truths.{apart, both_true, neither, not_false}
use Rattle.sgx_types.proofs.LawfulLaws.{few_pages}
use Rattle.machine_copies.proofs.FlatLaws.{TakesBuilds, added_next, created_next}
use Rattle.machine_copies.proofs.OpenStarts.{entry_of}

-- ---- flat memory has what was made

-- the row of `add` in flat memory looks at no frame
add_open : (number : ℕ) (kind : Kind) (perm : Perm) (init : PageInit) (o : Option EnclaveSight) (secs : SecsSight) (is_added : Bool)
    (v : FrameSight)
    → NoneHolds (add_row number kind perm init o secs is_added v) → NoneHolds (add_row number kind perm init o settled is_added open_frame)
add_open number kind perm init None secs is_added v row = absurd (false≢true (sym row.1.0))
add_open number kind perm init (Some enclave) secs is_added v row = (
  refl,
  (
    refl,
    (
      refl,
      (
        row.1.1.1.0,
        (row.1.1.1.1.0, (row.1.1.1.1.1.0, (row.1.1.1.1.1.1.0, (row.1.1.1.1.1.1.1.0, (refl, (refl, tt)))))),
      ),
    ),
  ),
)

-- .. nor does that of `create`
create_open : (enclave base size : ℕ) (is_created : Bool) (s : FrameSight) → NoneHolds (create_row enclave base size is_created s)
    → NoneHolds (create_row enclave base size is_created open_frame)
create_open enclave base size is_created s row =
    let range = neither (s.is_beyond || not (is_enclave enclave)) (not (is_lawful base size)) row.0 in
    let number = neither s.is_beyond (not (is_enclave enclave)) range.0 in
    (rw (number.1, range.1) refl, (row.1.0, (refl, (refl, tt))))

-- .. and that of `init` at no SECS
init_open : (o : Option EnclaveSight) (secs : SecsSight) → NoneHolds (init_row o secs) → NoneHolds (init_row o settled)
init_open None secs row = row
init_open (Some enclave) secs row = (refl, (refl, (row.1.1.0, tt)))

-- flat memory takes what builds, where its row allows it
pub takes_builds : (k : Making) (past : List Entry) (actor : Actor) (event : Event) → RefusalRule k past (entry_of actor event)
    → TakesBuilds (flat past) actor event
takes_builds k past actor (Did (Create enclave f base size) answer) refusal =
    ap is_none (none_refused (flat_build_row (flat past) (Create enclave f base size))
    (create_open enclave base size (is_some ((flat past).enclaves enclave)) (sight_at k.frames past f.0)
    (none_holds (row_at k past actor (Create enclave f base size)) refusal.0)))
takes_builds k past actor (Did (Add enclave number f kind perm init) answer) refusal =
    ap is_none (none_refused (flat_build_row (flat past) (Add enclave number f kind perm init))
    (add_open number kind perm init (enclave_sight (flat past) enclave) (secs_sight_at k.frames past enclave)
    (is_some ((flat past).pages (page_at enclave number)))
    (sight_at k.frames past f.0) (none_holds (row_at k past actor (Add enclave number f kind perm init)) refusal.0)))
takes_builds k past actor (Did (Init enclave expect) answer) refusal =
    ap is_none (none_refused (flat_build_row (flat past) (Init enclave expect))
    (init_open (enclave_sight (flat past) enclave) (secs_sight_at k.frames past enclave)
    (none_holds (row_at k past actor (Init enclave expect)) refusal.0)))
takes_builds k past actor event refusal = tt

-- so it has each page as it was added
pub added_there : (k : Making) (past : List Entry) → Along (RefusalRule k) past → (g : Page) → added past g ≡ added_as ((flat past).pages g)
added_there k [] refusal g = refl
added_there k (e ∷ past) refusal g =
    added_next past e.actor e.event g (takes_builds k past e.actor e.event refusal.0) (added_there k past refusal.1 g)

-- .. and each enclave as it was made
pub created_there : (k : Making) (past : List Entry) → Along (RefusalRule k) past → (n : ℕ) → created past n ≡ (flat past).enclaves n
created_there k [] refusal n = refl
created_there k (e ∷ past) refusal n =
    created_next past e.actor e.event n (takes_builds k past e.actor e.event refusal.0) (created_there k past refusal.1 n)

is_some-added_as : (o : Option FlatPage) → is_some (added_as o) ≡ is_some o
is_some-added_as None = refl
is_some-added_as (Some x) = refl

is_made-sight : (o : Option FlatEnclave) → is_made (enclave_sight_of o) ≡ is_some o
is_made-sight None = refl
is_made-sight (Some x) = refl

-- so that a row sees whether a page was added
pub sees_added : (k : Making) (past : List Entry) → Along (RefusalRule k) past → (g : Page)
    → is_some ((flat past).pages g) ≡ is_some (added past g)
sees_added k past refusal g = sym (is_some-added_as ((flat past).pages g)) ∙ ap is_some (sym (added_there k past refusal g))

-- .. and whether an enclave was created
pub sees_created : (k : Making) (past : List Entry) → Along (RefusalRule k) past → (n : ℕ)
    → is_some ((flat past).enclaves n) ≡ is_some (created past n)
sees_created k past refusal n = ap is_some (sym (created_there k past refusal n))

-- what a row knows to be there is there
pub known_there : (k : Making) (past : List Entry) → Along (RefusalRule k) past → (g : Page)
    → is_known (flat past) (vas_made past) g ≡ true → is_there past g ≡ true
known_there k past refusal g = by_name (is_va_page g) (is_secs_page g)
  where
    by_name : (va secs : Bool)
        → cond va (nat_lt g.number (vas_made past)) (cond secs (is_made (enclave_sight (flat past) g.enclave))
        (is_made (enclave_sight (flat past) g.enclave) && is_some ((flat past).pages g))) ≡ true
        → cond va (nat_lt g.number (vas_made past)) (cond secs (is_some (created past g.enclave)) (is_some (added past g))) ≡ true
    by_name true secs is = is
    by_name false true is = sym (sees_created k past refusal g.enclave) ∙ sym (is_made-sight ((flat past).enclaves g.enclave)) ∙ is
    by_name false false is = sym (sees_added k past refusal g) ∙ (both_true (is_made (enclave_sight (flat past) g.enclave)) _ is).1

-- ---- enclaves are lawful

-- a created enclave's number is from 1 to 8, and its range is lawful
pub record IsLawful (n : ℕ) (x : FlatEnclave) : Type 0 where
  pub number : is_enclave n ≡ true
  pub range : is_lawful x.base x.size ≡ true

made_lawful : (b : Bool) (new : FlatEnclave) (old : Option FlatEnclave) (x : FlatEnclave) (n : ℕ) → (b ≡ true → IsLawful n new)
    → ((y : FlatEnclave) → old ≡ Some y → IsLawful n y) → cond b (Some new) old ≡ Some x → IsLawful n x
made_lawful true new old x n first before is = subst (IsLawful n) (let same : new ≡ x = cc in same) (first refl)
made_lawful false new old x n first before is = before x is

marked_lawful : (b : Bool) (old : Option FlatEnclave) (x : FlatEnclave) (n : ℕ)
    → ((y : FlatEnclave) → old ≡ Some y → IsLawful n y) → cond b (as_initialised old) old ≡ Some x → IsLawful n x
marked_lawful true None x n before is = cc is
marked_lawful true (Some y) x n before is =
    let was = before y refl in
    let same : record y { is_init = true } ≡ x = cc in
    subst (IsLawful n) same (record { number = was.number; range = was.range })
marked_lawful false old x n before is = before x is

module _ (k : Making) (past : List Entry) (actor : Actor) (n : ℕ) (before : (y : FlatEnclave) → created past n ≡ Some y → IsLawful n y)
  where
    lawful_next : (ev : Event) (x : FlatEnclave) → RefusalRule k past (entry_of actor ev) → created_by ev n (created past n) ≡ Some x
        → IsLawful n x
    lawful_next (Did (Create enclave f base size) answer) x rule made =
        let row = none_holds (row_at k past actor (Create enclave f base size)) rule.0 in
        let range = neither (leb k.frames f.0 || not (is_enclave enclave)) (not (is_lawful base size)) row.0 in
        let number = neither (leb k.frames f.0) (not (is_enclave enclave)) range.0 in
        made_lawful (n == enclave) _ (created past n) x n
        (λ same. record {
          number = rw (eqb-true n enclave same) (not_false (is_enclave enclave) number.1);
          range = not_false (is_lawful base size) range.1;
        })
        before made
    lawful_next (Did (Init enclave expect) answer) x rule made = marked_lawful (n == enclave) (created past n) x n before made
    lawful_next ev x rule made = before x made

pub lawful_there : (k : Making) (past : List Entry) → Along (RefusalRule k) past → (n : ℕ) (x : FlatEnclave) → created past n ≡ Some x
    → IsLawful n x
lawful_there k [] refusal n x is = cc is
lawful_there k (e ∷ past) refusal n x is =
    lawful_next k past e.actor n (lawful_there k past refusal.1 n) e.event x refusal.0 is

-- ---- what an entry makes

-- an enclave that is initialised was there
pub marked_there : (past : List Entry) (a : Actor) (enclave : ℕ) (expect : Option (List ℕ)) (answer : Answer) (g : Page)
    → is_there (entry_of a (Did (Init enclave expect) answer) ∷ past) g ≡ is_there past g
marked_there past a enclave expect answer g =
    ap (λ b. cond (is_va_page g) (nat_lt g.number (vas_made past)) (cond (is_secs_page g) b (is_some (added past g))))
    (same (g.enclave == enclave) (created past g.enclave))
  where
    same : (b : Bool) (o : Option FlatEnclave) → is_some (cond b (as_initialised o) o) ≡ is_some o
    same true None = refl
    same true (Some x) = refl
    same false o = refl

-- at first there is no page
pub nothing_there : (g : Page) → is_there [] g ≡ false
nothing_there g = by_name (is_va_page g) (is_secs_page g)
  where
    by_name : (va secs : Bool) → cond va (nat_lt g.number 0) (cond secs false false) ≡ false
    by_name true secs = false_from_ne_true (nat_lt g.number 0) (λ low. omega (arith, ltb-true g.number 0 low))
    by_name false true = refl
    by_name false false = refl

-- what was there is there after an entry
pub there_still : (past : List Entry) (e : Entry) (g : Page) → is_there past g ≡ true → is_there (e ∷ past) g ≡ true
there_still past e g = by_name (is_va_page g) (is_secs_page g)
  where
    more : (ev : Event) (v : ℕ) → nat_lt g.number v ≡ true → nat_lt g.number (vas_after ev v) ≡ true
    more (Did (Epa f) answer) v is = lt-ltb g.number (v + 1) (let low : g.number < v = ltb-true g.number v is in omega (arith, low))
    more ev v is = is

    kept : (b : Bool) (x : FlatEnclave) (o : Option FlatEnclave) → is_some o ≡ true → is_some (cond b (Some x) o) ≡ true
    kept true x o is = refl
    kept false x o is = is

    mark : (b : Bool) (o : Option FlatEnclave) → is_some o ≡ true → is_some (cond b (as_initialised o) o) ≡ true
    mark true None is = cc is
    mark true (Some x) is = refl
    mark false o is = is

    makes : (ev : Event) (o : Option FlatEnclave) → is_some o ≡ true → is_some (created_by ev g.enclave o) ≡ true
    makes (Did (Create enclave f base size) answer) o is = kept (g.enclave == enclave) _ o is
    makes (Did (Init enclave expect) answer) o is = mark (g.enclave == enclave) o is
    makes ev o is = is

    one_more : (b : Bool) (x : Kind × Perm) (o : Option (Kind × Perm)) → is_some o ≡ true → is_some (cond b (Some x) o) ≡ true
    one_more true x o is = refl
    one_more false x o is = is

    adds : (ev : Event) (o : Option (Kind × Perm)) → is_some o ≡ true → is_some (added_by ev g o) ≡ true
    adds (Did (Add enclave number f kind perm init) answer) o is = one_more (same_page (page_at enclave number) g) (kind, perm) o is
    adds ev o is = is

    by_name : (va secs : Bool)
        → cond va (nat_lt g.number (vas_made past)) (cond secs (is_some (created past g.enclave)) (is_some (added past g))) ≡ true
        → cond va (nat_lt g.number (vas_made (e ∷ past)))
        (cond secs (is_some (created (e ∷ past) g.enclave)) (is_some (added (e ∷ past) g))) ≡ true
    by_name true secs is = more e.event (vas_made past) is
    by_name false true is = makes e.event (created past g.enclave) is
    by_name false false is = adds e.event (added past g) is

-- an entry makes a page that was not there, and no other
pub record Makes (past : List Entry) (e : Entry) (new : Page) : Type 0 where
  pub fresh : is_there past new ≡ false
  pub there : is_there (e ∷ past) new ≡ true
  pub others : (h : Page) → is_there (e ∷ past) h ≡ true → same_page new h ≡ false → is_there past h ≡ true

-- EPA makes the next version array page
pub epa_makes : (past : List Entry) (a : Actor) (f : Frame) (answer : Answer)
    → Makes past (entry_of a (Did (Epa f) answer)) (va_page (vas_made past))
epa_makes past a f answer = record {
  fresh = false_from_ne_true (ltb (vas_made past) (vas_made past))
      (λ k. let low = ltb-true (vas_made past) (vas_made past) k in omega (arith, low));
  there = lt-ltb (vas_made past) (vas_made past + 1) (omega arith);
  others = λ h. by_name h (h.enclave == 0) refl;
}
  where
    by_name : (h : Page) (va : Bool) → (h.enclave == 0) ≡ va
        → cond va (nat_lt h.number (vas_made past + 1))
        (cond (not va && (h.number == SECS_NUMBER)) (is_some (created past h.enclave)) (is_some (added past h))) ≡ true
        → same_page (va_page (vas_made past)) h ≡ false
        → cond va (nat_lt h.number (vas_made past))
        (cond (not va && (h.number == SECS_NUMBER)) (is_some (created past h.enclave)) (is_some (added past h))) ≡ true
    by_name h true is low other =
        let below = ltb-true h.number (vas_made past + 1) low in
        let apart_from : vas_made past ≡ h.number → ⊥ = λ same.
        false≢true (sym other ∙ rw (eq-eqb (vas_made past) h.number same, eq-eqb 0 h.enclave (sym (eqb-true h.enclave 0 is))) refl) in
        by_test (h.number == vas_made past) refl below apart_from
      where
        by_test : (b : Bool) → (h.number == vas_made past) ≡ b → h.number < vas_made past + 1 → (vas_made past ≡ h.number → ⊥)
            → nat_lt h.number (vas_made past) ≡ true
        by_test true e below not_same = absurd (not_same (sym (eqb-true h.number (vas_made past) e)))
        by_test false e below not_same = lt-ltb h.number (vas_made past) (omega (arith, below, eqb-false h.number (vas_made past) e))
    by_name h false is low other = low

-- CREATE makes the enclave's SECS
pub create_makes : (k : Making) (past : List Entry) (a : Actor) (enclave : ℕ) (f : Frame) (base size : ℕ) (answer : Answer)
    → Along (RefusalRule k) past → NoneHolds (row_at k past a (Create enclave f base size))
    → Makes past (entry_of a (Did (Create enclave f base size) answer)) (secs_page enclave)
create_makes k past a enclave f base size answer refusals row = record {
  fresh = rw is_numbered (sym (sees_created k past refusals enclave) ∙ row.1.0);
  there = rw (is_numbered, eq-eqb enclave enclave refl) refl;
  others = λ h. by_name h (is_va_page h) (h.number == SECS_NUMBER) refl;
}
  where
    number : is_enclave enclave ≡ true
    number = not_false (is_enclave enclave) (neither (leb k.frames f.0) (not (is_enclave enclave))
        (neither (leb k.frames f.0 || not (is_enclave enclave)) (not (is_lawful base size)) row.0).0).1

    is_numbered : (enclave == 0) ≡ false
    is_numbered = apart enclave 0 (λ e. let low = leb-true 1 enclave (both_true (nat_le 1 enclave) (nat_le enclave 8) number).0 in
        omega (arith, low, e))

    by_name : (h : Page) (va last : Bool) → (h.number == SECS_NUMBER) ≡ last
        → cond va (nat_lt h.number (vas_made past))
        (cond (not va && last) (is_some (created (entry_of a (Did (Create enclave f base size) answer) ∷ past) h.enclave))
        (is_some (added past h))) ≡ true
        → same_page (secs_page enclave) h ≡ false
        → cond va (nat_lt h.number (vas_made past)) (cond (not va && last) (is_some (created past h.enclave)) (is_some (added past h)))
        ≡ true
    by_name h true last is there other = there
    by_name h false false is there other = there
    by_name h false true is there other =
        let not_same : enclave ≡ h.enclave → ⊥ = λ same.
        false≢true (sym other ∙ rw (eq-eqb enclave h.enclave same, eq-eqb SECS_NUMBER h.number (sym (eqb-true h.number SECS_NUMBER is)))
        refl) in
        rw (apart h.enclave enclave (λ e. not_same (sym e))) at there

-- what the row of `add` says of its page
record AddsWithin (number : ℕ) (o : Option EnclaveSight) (is_added : Bool) : Type 0 where
  pub enclave : EnclaveSight
  pub made : o ≡ Some enclave
  pub low : number < enclave.size / 4096
  pub new : is_added ≡ false

adds_within : (number : ℕ) (kind : Kind) (perm : Perm) (init : PageInit) (o : Option EnclaveSight) (secs : SecsSight) (is_added : Bool)
    (s : FrameSight)
    → NoneHolds (add_row number kind perm init o secs is_added s) → AddsWithin number o is_added
adds_within number kind perm init None secs is_added s row = absurd (false≢true (sym row.1.0))
adds_within number kind perm init (Some x) secs is_added s row = record {
  enclave = x;
  made = refl;
  low = low init (not_false (is_within x.size number init) row.1.1.1.1.1.1.0);
  new = row.1.1.1.1.1.1.1.0;
}
  where
    low : (i : PageInit) → is_within x.size number i ≡ true → number < x.size / 4096
    low (inits.Words value) is = ltb-true number (x.size / 4096) is
    low (inits.Tcs ossa nssa) is =
        ltb-true number (x.size / 4096)
        (both_true (nat_lt number (x.size / 4096)) (nat_le (ossa + nssa) (x.size / 4096))
        (both_true (nat_lt number (x.size / 4096) && nat_le (ossa + nssa) (x.size / 4096)) (not (nssa == 0)) is).0).0

-- an added page is of an enclave, and not its SECS
record IsOwn (enclave number : ℕ) : Type 0 where
  pub numbered : (enclave == 0) ≡ false
  pub inner : (number == SECS_NUMBER) ≡ false

own_page : (k : Making) (past : List Entry) → Along (RefusalRule k) past → (enclave number : ℕ) (is_added : Bool)
    → AddsWithin number (enclave_sight (flat past) enclave) is_added → IsOwn enclave number
own_page k past refusals enclave number is_added adds = by_enclave ((flat past).enclaves enclave) refl adds
  where
    by_enclave : (o : Option FlatEnclave) → (flat past).enclaves enclave ≡ o → AddsWithin number (enclave_sight_of o) is_added
        → IsOwn enclave number
    by_enclave None is within = cc within.made
    by_enclave (Some x) is within =
        let lawful = lawful_there k past refusals enclave x (created_there k past refusals enclave ∙ is) in
        let first = leb-true 1 enclave (both_true (nat_le 1 enclave) (nat_le enclave 8) lawful.number).0 in
        let few = few_pages x.base x.size lawful.range in
        let size : within.enclave.size ≡ x.size = cc within.made in
        let low : number < x.size / 4096 = subst (λ s. number < s / 4096) size within.low in
        record {
          numbered = apart enclave 0 (λ e. omega (arith, first, e));
          inner = apart number SECS_NUMBER (λ e. omega (arith, few, low, e));
        }

-- ADD makes its page
pub add_makes : (k : Making) (past : List Entry) (a : Actor) (enclave number : ℕ) (f : Frame) (kind : Kind) (perm : Perm) (init : PageInit)
    (answer : Answer)
    → Along (RefusalRule k) past → NoneHolds (row_at k past a (Add enclave number f kind perm init))
    → Makes past (entry_of a (Did (Add enclave number f kind perm init) answer)) (page_at enclave number)
add_makes k past a enclave number f kind perm init answer refusals row = record {
  fresh = rw (own.numbered, own.inner) (sym (sees_added k past refusals (page_at enclave number)) ∙ adds.new);
  there = rw (own.numbered, own.inner, same_page-refl (page_at enclave number)) refl;
  others = λ h. by_name h (is_va_page h) (is_secs_page h);
}
  where
    adds : AddsWithin number (enclave_sight (flat past) enclave) (is_some ((flat past).pages (page_at enclave number)))
    adds = adds_within number kind perm init (enclave_sight (flat past) enclave) (secs_sight_at k.frames past enclave) _
        (sight_at k.frames past f.0) row

    own : IsOwn enclave number
    own = own_page k past refusals enclave number _ adds

    by_name : (h : Page) (va secs : Bool)
        → cond va (nat_lt h.number (vas_made past)) (cond secs (is_some (created past h.enclave))
        (is_some (cond (same_page (page_at enclave number) h) (Some (kind, perm)) (added past h)))) ≡ true
        → same_page (page_at enclave number) h ≡ false
        → cond va (nat_lt h.number (vas_made past)) (cond secs (is_some (created past h.enclave)) (is_some (added past h))) ≡ true
    by_name h true secs is other = is
    by_name h false true is other = is
    by_name h false false is other = rw other at is
