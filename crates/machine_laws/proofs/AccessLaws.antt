-- The rows of translations and accesses: what each brings where it is done.
use Rattle.std.proofs.Common.{◌≡◌, ℕ, ◌/◌, ◌<◌, ◌==◌, not, Bool, true, false, cond, refl, sym, ap, ◌∙◌, Option}
use Rattle.std.proofs.Common.{Some, None, List, is_some, set, unwrap_or}
use Rattle.std.specs.List.{All}
use Rattle.std.proofs.lemmas.Bool.{cond_both, false≢true, eqb-true, leb-false, lt-ltb}
use Rattle.std.proofs.lemmas.List.Elements.{recursion_from_All}
use Rattle.sgx_rules.specs.declared.entries.Entry.{Entry}
use Rattle.sgx_types.specs.declared.names.Actor.TheVariants as actors
use Rattle.sgx_rules.specs.declared.entries.Action.TheVariants.{Fill, Load, Store, Xadd}
use Rattle.sgx_rules.specs.declared.entries.Answer.TheVariants.{Plain, Value}
use Rattle.sgx_types.specs.declared.names.Cpu.{Cpu}
use Rattle.sgx_types.specs.declared.names.Page.{Page}
use Rattle.sgx_types.specs.declared.names.Kind.TheVariants as kinds
use Rattle.sgx_types.specs.declared.names.Perm.{Perm}
use Rattle.sgx_types.specs.Pages.{page_at, no_perm}
use Rattle.sgx_rules.specs.Frames.{Content, Holds, is_page, SecsOf, Free, IsVa, IsLoading}
use Rattle.sgx_rules.specs.Processors.{Seat, Stay, stay, holds_number, translations}
use Rattle.sgx_rules.specs.Table.{FrameSight, is_busy, is_loading, is_reg, perm_in, allows_read, allows_write, allows_update}
use Rattle.sgx_rules.specs.Table.{access_row}
use Rattle.sgx_types.specs.Cases.{first_of_row}
use Rattle.sgx_rules.specs.Table.{fill_row}
use Rattle.sgx_rules.specs.Flat.{flat, flat_translation, memory_after, stored, sum_of, with_words, word_index, word_seen}
use Rattle.sgx_rules.specs.Sights.{translation_at}
use Rattle.cached_translations.specs.declared.cache.Translation.{Translation}
use Rattle.cached_translations.specs.inner.Translations.{translation_of, with_translation}
use Rattle.machine_laws.specs.inner.State.{State, sight, seat_enclave, perm_of_held, translation, row_of, frame_in, rewritten}
use Rattle.machine_laws.specs.inner.State.{after_fill}
use Rattle.machine_laws.specs.inner.State.{after_store, after_xadd, word_at}
use Rattle.machine_laws.specs.inner.Stands.{Stands, IsTranslation, IsSeated, IsSound, inside_of_stay, Shows}
use Rattle.machine_laws.proofs.TestLaws.{each_there}
use Rattle.machine_laws.proofs.Contents.{IsKindOf, reg_there}
use Rattle.machine_laws.proofs.WordLaws.{once_in_state, shows_changed}
use Rattle.machine_laws.proofs.ProcessorLaws.{mode_in_flat}
use Rattle.machine_laws.specs.inner.Columns.{seat_of_stay}
use Rattle.machine_laws.proofs.NextEntry.{BringsDone}
use Rattle.machine_laws.proofs.ColumnLaws.{inside_flat, inside_is, translations_are}
use Rattle.machine_laws.proofs.SoundLaws.{seat_at}
use Rattle.sgx_rules.specs.Rules.{NoPageTwice}
use Rattle.sgx_rules.proofs.Rows.{none_holds}
use Rattle.sgx_types.proofs.Truths.{neither, not_false}
use Rattle.sgx_types.proofs.Pages.{same_page-at}
use Rattle.machine_laws.proofs.TranslationLaws.{holds_number-map, All-with_translation, found_there}

-- ---- fill

-- what `fill` needs
pub record Fills (enclave number : ℕ) (v : FrameSight) : Type 0 where
  pub within : v.is_beyond ≡ false
  pub idle : is_busy v ≡ false
  pub page : not (is_page v.content (page_at enclave number)) ≡ false
  pub kind : not (is_reg v.content) ≡ false

pub fills : (number enclave : ℕ) (v : FrameSight) → first_of_row (fill_row number (Some enclave) v) ≡ None → Fills enclave number v
fills number enclave v allowed =
    let none = none_holds (fill_row number (Some enclave) v) allowed in
    record { within = none.0; idle = none.1.0; page = none.1.1.0; kind = none.1.1.1.1.0 }

pub outside_refused : (number : ℕ) (v : FrameSight) → first_of_row (fill_row number None v) ≡ None → ⊥
outside_refused number v allowed = false≢true (sym (none_holds (fill_row number None v) allowed).0)

perm_there : (c : Content) (g : Page) (perm : Perm) → is_page c g ≡ true → is_reg c ≡ true → perm_in c ≡ Some perm
    → c ≡ Holds g kinds.Reg perm
perm_there c g perm here is same = by_kind (reg_there c g here is)
  where
    by_kind : IsKindOf c g kinds.Reg → c ≡ Holds g kinds.Reg perm
    by_kind k = let at = k.holds in let e : Some k.perm ≡ Some perm = sym (ap perm_in at) ∙ same in let p : k.perm ≡ perm = cc in
        at ∙ ap (λ x. Holds g kinds.Reg x) p

pub sound-fill : (s : State) (p : ℕ) (t : Translation)
    → first_of_row (fill_row t.number (seat_enclave (s.inside p)) (sight s t.frame.0)) ≡ None → perm_in (s.content t.frame.0) ≡ Some t.perm
    → IsSound s → IsSound (after_fill s p t)
sound-fill s p t allowed perm sound = record {
  seated = each_there s.inside (λ q. IsSeated s.content s.is_sealing s.words (cond (p == q) (with_translation (s.cache q) t) (s.cache q)))
      (λ q seat is. seated q seat is (seat_at s sound q seat is));
  busy = sound.busy;
  apart = sound.apart;
  sized = sound.sized;
}
  where
    new : (seat : Seat) → first_of_row (fill_row t.number (Some seat.enclave) (sight s t.frame.0)) ≡ None
        → IsTranslation seat.enclave t (s.content t.frame.0) (s.is_sealing t.frame.0)
    new seat k =
        let need = fills t.number seat.enclave (sight s t.frame.0) k in
        record {
          page = perm_there (s.content t.frame.0) (page_at seat.enclave t.number) t.perm (not_false _ need.page) (not_false _ need.kind)
              perm;
          settled = (neither (s.is_sealing t.frame.0) (is_loading (s.content t.frame.0)) need.idle).0;
        }

    seated : (q : ℕ) (seat : Seat) → s.inside q ≡ Some seat → IsSeated s.content s.is_sealing s.words (s.cache q) seat
        → IsSeated s.content s.is_sealing s.words (cond (p == q) (with_translation (s.cache q) t) (s.cache q)) seat
    seated q seat is k = record {
      tcs = k.tcs;
      tcs_page = k.tcs_page;
      tcs_kind = k.tcs_kind;
      ssa = k.ssa;
      ssa_page = k.ssa_page;
      ssa_kind = k.ssa_kind;
      cache =
          cond_both (p == q) (with_translation (s.cache q) t) (s.cache q)
          (All (λ x. IsTranslation seat.enclave x (s.content x.frame.0) (s.is_sealing x.frame.0)))
          (λ e.
          let here : s.inside p ≡ Some seat = ap s.inside (eqb-true p q e) ∙ is in
          All-with_translation (λ x. IsTranslation seat.enclave x (s.content x.frame.0) (s.is_sealing x.frame.0)) (s.cache q) t k.cache
          (new seat (rw here at allowed)))
          (λ _. k.cache);
    }

-- the frame of a `fill` that its row allows is one of the EPC's
pub fill_within : (s : State) (p number f : ℕ) → first_of_row (fill_row number (seat_enclave (s.inside p)) (sight s f)) ≡ None
    → f < s.frames
fill_within s p number f = by_mode (s.inside p)
  where
    by_mode : (o : Option Seat) → first_of_row (fill_row number (seat_enclave o) (sight s f)) ≡ None → f < s.frames
    by_mode None k = absurd (outside_refused number (sight s f) k)
    by_mode (Some seat) k = leb-false _ _ (fills number seat.enclave (sight s f) k).within

reg_has_perm : (c : Content) → is_reg c ≡ true → is_some (perm_in c) ≡ true
reg_has_perm (Holds page kinds.Reg perm) is = refl
reg_has_perm (Holds page kinds.Secs perm) is = cc
reg_has_perm (Holds page kinds.Tcs perm) is = cc
reg_has_perm (Holds page kinds.Va perm) is = cc
reg_has_perm Free is = cc
reg_has_perm (IsVa number) is = cc
reg_has_perm (SecsOf x) is = cc
reg_has_perm (IsLoading page) is = cc

fill_some : (s : State) (p number f : ℕ) → first_of_row (fill_row number (seat_enclave (s.inside p)) (sight s f)) ≡ None
    → is_some (perm_in (s.content f)) ≡ true
fill_some s p number f allowed = by_mode (s.inside p) allowed
  where
    by_mode : (o : Option Seat) → first_of_row (fill_row number (seat_enclave o) (sight s f)) ≡ None
        → is_some (perm_in (s.content f)) ≡ true
    by_mode None k = absurd (outside_refused number (sight s f) k)
    by_mode (Some seat) k = reg_has_perm (s.content f) (not_false _ (fills number seat.enclave (sight s f) k).kind)

-- `fill` finds the permissions of a page
pub fill_perm : (s : State) (p number f : ℕ) → first_of_row (fill_row number (seat_enclave (s.inside p)) (sight s f)) ≡ None
    → perm_in (s.content f) ≡ Some (unwrap_or (perm_in (s.content f)) no_perm)
fill_perm s p number f allowed = by_perm (perm_in (s.content f)) (fill_some s p number f allowed)
  where
    by_perm : (o : Option Perm) → is_some o ≡ true → o ≡ Some (unwrap_or o no_perm)
    by_perm None k = cc
    by_perm (Some x) k = refl

-- the translation has the permissions of the page in its frame
pub fill_brings : (s : State) (past : List Entry) (p : Cpu) (t : Translation)
    → first_of_row (row_of s (actors.Cpu p) (Fill t.number t.frame)) ≡ None → Stands s past
    → BringsDone s (after_fill s p.0 t) past (actors.Cpu p) (Fill t.number t.frame) Plain
fill_brings s past p t allowed stands = record {
  form = refl;
  taken = refl;
  same = λ seen. cc seen;
  measure = tt;
  memory = record {
    enclaves = stands.memory.enclaves;
    cpus = stands.memory.cpus;
    words = stands.memory.words;
    measure = stands.memory.measure;
  };
}

-- ---- load

-- the permissions of a translation, by the state and by the entries
pub found_translation : (s : State) (past : List Entry) (p off : ℕ) → IsSound s → Stands s past
    → translation s p (s.inside p) (off / 4096) ≡ translation_at past p (stay past p) (off / 4096)
found_translation s past p off sound stands = by_stay (stay past p) refl
  where
    by_held : (st : Stay) → stay past p ≡ Some st → s.inside p ≡ Some st.seat → (o : Option Translation)
        → translation_of (s.cache p) (off / 4096) ≡ o
        → translation s p (s.inside p) (off / 4096) ≡ translation_at past p (stay past p) (off / 4096)
    by_held st e is None at =
        let held : holds_number (translations past p) (off / 4096) ≡ false =
        rw (← translations_are stands.columns p, holds_number-map (s.cache p) (off / 4096), at) refl in
        rw (is, e, at, held) refl
    by_held st e is (Some t) at =
        let held : holds_number (translations past p) (off / 4096) ≡ true =
        rw (← translations_are stands.columns p, holds_number-map (s.cache p) (off / 4096), at) refl in
        let found = found_there (λ x. IsTranslation st.seat.enclave x (s.content x.frame.0) (s.is_sealing x.frame.0)) (s.cache p)
        (off / 4096) t (recursion_from_All _ (s.cache p) (seat_at s sound p st.seat is).cache) at in
        let page : (flat past).pages (page_at st.seat.enclave (off / 4096)) ≡ Some
        (record { kind = kinds.Reg; perm = t.perm; words = s.words t.frame.0 }) =
        rw (← found.0) (stands.memory.words t.frame.0 (page_at st.seat.enclave t.number) kinds.Reg t.perm found.1.page) in
        rw (is, e, at, held, page) refl

    by_stay : (o : Option Stay) → stay past p ≡ o
        → translation s p (s.inside p) (off / 4096) ≡ translation_at past p (stay past p) (off / 4096)
    by_stay None e = let is : s.inside p ≡ None = inside_is stands.columns p ∙ ap seat_of_stay e in rw (is, e) refl
    by_stay (Some st) e = let is : s.inside p ≡ Some st.seat = inside_is stands.columns p ∙ ap seat_of_stay e in
        by_held st e is (translation_of (s.cache p) (off / 4096)) refl

-- what an access that its row allows finds
pub record Reads (s : State) (past : List Entry) (p off : ℕ) : Type 0 where
  pub perm : Perm
  pub inside : is_some (s.inside p) ≡ true
  pub machine : translation s p (s.inside p) (off / 4096) ≡ Some perm
  pub in_flat : flat_translation (flat past) ((flat past).cpus p).inside off ≡ Some perm
  pub seat : Seat
  pub is : s.inside p ≡ Some seat
  pub found : Translation
  pub at : translation_of (s.cache p) (off / 4096) ≡ Some found
  pub number : found.number ≡ off / 4096
  pub holds : s.content found.frame.0 ≡ Holds (page_at seat.enclave found.number) kinds.Reg found.perm
  pub flat_inside : ((flat past).cpus p).inside ≡ Some (record { enclave = seat.enclave; tcs = seat.tcs })
  pub seen : word_seen (flat past) ((flat past).cpus p).inside off ≡ word_at s p off

reads : (s : State) (past : List Entry) (p off : ℕ) (allows : Option Perm → Bool) → IsSound s → Stands s past
    → first_of_row (access_row off (is_some (s.inside p)) (translation s p (s.inside p) (off / 4096))
    (allows (translation s p (s.inside p) (off / 4096)))) ≡ None → Reads s past p off
reads s past p off allows sound stands allowed = by_mode (s.inside p) refl allowed
  where
    by_stay : (seat : Seat) (t : Translation) → s.inside p ≡ Some seat → translation_of (s.cache p) (off / 4096) ≡ Some t
        → (t.number ≡ off / 4096) × IsTranslation seat.enclave t (s.content t.frame.0) (s.is_sealing t.frame.0)
        → (o : Option Stay) → stay past p ≡ o → Reads s past p off
    by_stay seat t is at found None e =
        absurd (let i = inside_is stands.columns p in let none : seat_of_stay (stay past p) ≡ None = ap seat_of_stay e in cc (i, none, is))
    by_stay seat t is at found (Some st) e =
        let m = flat past in
        let same : st.seat ≡ seat = let i = inside_is stands.columns p in
        let some : seat_of_stay (stay past p) ≡ Some st.seat = ap seat_of_stay e in cc (i, some, is) in
        let page : m.pages (page_at st.seat.enclave (off / 4096)) ≡ Some
        (record { kind = kinds.Reg; perm = t.perm; words = s.words t.frame.0 }) =
        rw (same, ← found.0) (stands.memory.words t.frame.0 (page_at seat.enclave t.number) kinds.Reg t.perm found.1.page) in
        let inside : (m.cpus p).inside ≡ Some (record { enclave = st.seat.enclave; tcs = st.seat.tcs }) = inside_flat stands p
        ∙ ap inside_of_stay e in
        record {
          perm = t.perm;
          inside = rw is refl;
          machine = rw (is, at) refl;
          in_flat = rw (inside, page) refl;
          seat = seat;
          is = is;
          found = t;
          at = at;
          number = found.0;
          holds = found.1.page;
          flat_inside = rw (← same) inside;
          seen = rw (inside, page, at) refl;
        }

    by_held : (seat : Seat) → s.inside p ≡ Some seat → (o : Option Translation) → translation_of (s.cache p) (off / 4096) ≡ o
        → first_of_row (access_row off true (perm_of_held o) (allows (perm_of_held o))) ≡ None → Reads s past p off
    by_held seat is None at k = absurd (false≢true (sym (none_holds (access_row off true None (allows None)) k).1.1.0))
    by_held seat is (Some t) at k =
        by_stay seat t is at (found_there (λ x. IsTranslation seat.enclave x (s.content x.frame.0) (s.is_sealing x.frame.0)) (s.cache p)
        (off / 4096) t (recursion_from_All _ (s.cache p) (seat_at s sound p seat is).cache) at)
        (stay past p) refl

    by_mode : (o : Option Seat) → s.inside p ≡ o → first_of_row
        (access_row off (is_some o) (translation s p o (off / 4096)) (allows (translation s p o (off / 4096)))) ≡ None → Reads s past p off
    by_mode None is k = absurd (false≢true (sym (none_holds (access_row off false None (allows None)) k).0))
    by_mode (Some seat) is k = by_held seat is (translation_of (s.cache p) (off / 4096)) refl k

access_by : (off : ℕ) (allows : Option Perm → Bool) (b b' : Bool) (o o' : Option Perm) → b ≡ b' → o ≡ o'
    → first_of_row (access_row off b o (allows o)) ≡ None → first_of_row (access_row off b' o' (allows o')) ≡ None
access_by off allows b b' o o' e e' h = rw (← e, ← e') h

-- .. and the row is allowed in flat memory too
pub record IsAllowed (s : State) (past : List Entry) (p off : ℕ) (allows : Option Perm → Bool) : Type 0 where
  pub reads : Reads s past p off
  pub by_flat : first_of_row (access_row off (is_some ((flat past).cpus p).inside)
      (flat_translation (flat past) ((flat past).cpus p).inside off)
      (allows (flat_translation (flat past) ((flat past).cpus p).inside off))) ≡ None

pub access_allowed : (s : State) (past : List Entry) (p off : ℕ) (allows : Option Perm → Bool) → IsSound s → Stands s past
    → first_of_row (access_row off (is_some (s.inside p)) (translation s p (s.inside p) (off / 4096))
    (allows (translation s p (s.inside p) (off / 4096)))) ≡ None → IsAllowed s past p off allows
access_allowed s past p off allows sound stands allowed =
    let k = reads s past p off allows sound stands allowed in
    record { reads = k; by_flat = access_by off allows _ _ _ _ (mode_in_flat s past stands p) (k.machine ∙ sym k.in_flat) allowed }

pub load_brings : (s : State) (past : List Entry) (p : Cpu) (off : ℕ) → p.0 < 16 → first_of_row (row_of s (actors.Cpu p) (Load off)) ≡ None
    → IsSound s → Stands s past
    → BringsDone s s past (actors.Cpu p) (Load off) (Value (word_at s p.0 off))
load_brings s past p off low allowed sound stands =
    let k = access_allowed s past p.0 off allows_read sound stands allowed in
    record {
      form = (word_at s p.0 off, refl);
      taken = rw (lt-ltb p.0 16 low, k.by_flat) refl;
      same = λ seen. ap Value (sym k.reads.seen);
      measure = tt;
      memory = record {
        enclaves = stands.memory.enclaves;
        cpus = stands.memory.cpus;
        words = stands.memory.words;
        measure = stands.memory.measure;
      };
    }

-- ---- store and exchange and add

-- the word at an offset becomes this one
abbrev pub with_word_at : ℕ → ℕ → List ℕ → List ℕ
with_word_at off value words = set words (word_index off) value

-- the word is written in the state and in flat memory
written : (s : State) (past : List Entry) (p off value : ℕ) → Stands s past → NoPageTwice past → Reads s past p off
    → Shows (after_store s p off value) past (stored (flat past) ((flat past).cpus p).inside off value)
written s past p off value stands once k =
    let m = flat past in
    let f = k.found.frame.0 in
    let g = page_at k.seat.enclave (off / 4096) in
    let change = with_word_at off value in
    let frame : frame_in (translation_of (s.cache p) (off / 4096)) ≡ f = ap frame_in k.at in
    let holds : s.content f ≡ Holds g kinds.Reg k.found.perm = k.holds
    ∙ ap (λ n. Holds (page_at k.seat.enclave n) kinds.Reg k.found.perm) k.number in
    let here : is_page (s.content f) g ≡ true = rw holds (same_page-at k.seat.enclave (off / 4096)) in
    let state : after_store s p off value ≡ record s { words = rewritten s.words f change } =
    ap (λ n. record s { words = rewritten s.words n change }) frame in
    let memory : stored m (m.cpus p).inside off value ≡ with_words m g change = ap (λ o. stored m o off value) k.flat_inside in
    rw (state, memory) (shows_changed s past m f g change stands.memory (once_in_state s past stands once) here)

pub store_brings : (s : State) (past : List Entry) (p : Cpu) (off value : ℕ) → p.0 < 16
    → first_of_row (row_of s (actors.Cpu p) (Store off value)) ≡ None → IsSound s → Stands s past → NoPageTwice past
    → BringsDone s (after_store s p.0 off value) past (actors.Cpu p) (Store off value) Plain
store_brings s past p off value low allowed sound stands once =
    let k = access_allowed s past p.0 off allows_write sound stands allowed in
    let w = written s past p.0 off value stands once k.reads in
    record {
      form = refl;
      taken = rw (lt-ltb p.0 16 low, k.by_flat) refl;
      same = λ seen. refl;
      measure = tt;
      memory = record { enclaves = w.enclaves; cpus = w.cpus; words = w.words; measure = w.measure };
    }

pub xadd_brings : (s : State) (past : List Entry) (p : Cpu) (off value : ℕ) → p.0 < 16
    → first_of_row (row_of s (actors.Cpu p) (Xadd off value)) ≡ None → IsSound s → Stands s past → NoPageTwice past
    → BringsDone s (after_xadd s p.0 off value) past (actors.Cpu p) (Xadd off value) (Value (word_at s p.0 off))
xadd_brings s past p off value low allowed sound stands once =
    let k = access_allowed s past p.0 off allows_update sound stands allowed in
    let sum = sum_of (word_at s p.0 off) value in
    let w = written s past p.0 off sum stands once k.reads in
    let after : memory_after (actors.Cpu p) (Xadd off value) (flat past) ≡ stored (flat past) ((flat past).cpus p.0).inside off sum =
    ap (λ x. stored (flat past) ((flat past).cpus p.0).inside off (sum_of x value)) k.reads.seen in
    record {
      form = (word_at s p.0 off, refl);
      taken = rw (lt-ltb p.0 16 low, k.by_flat) refl;
      same = λ seen. ap Value (sym k.reads.seen);
      measure = tt;
      memory = rw after (record { enclaves = w.enclaves; cpus = w.cpus; words = w.words; measure = w.measure });
    }
