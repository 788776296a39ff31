-- What a change of one frame leaves of every frame's entry and words.
use Rattle.std.proofs.Common.{◌≡◌, ℕ, ◌<◌, ◌==◌, true, false, cond, List, length, set, All, Option, Some, None, position}
use Rattle.std.proofs.Common.{arith, refl, sym, ap, ◌∙◌, ◌^◌, length-set, ⊎_elim}
use Rattle.std.specs.Option.{option_map}
use Rattle.std.proofs.lemmas.List.Sums.{fails_before_first, passes_at_first}
use Rattle.std.proofs.lemmas.Bool.{cases_lt, cond_both, eqb-true, eq-eqb, false≢true}
use Rattle.std.proofs.lemmas.List.{get_or-set_same, get_or-set_other, set_past}
use Rattle.epcm_entry.specs.declared.entry_view.EntryView.{EntryView}
use Rattle.epcm_entry.specs.declared.entry_view.EntryView.TheVariants.{Free}
use Rattle.sgx_types.specs.declared.names.Frame.{Frame}
use Rattle.epcm_entry.specs.inner.EntryView.{is_free}
use Rattle.free_map.proofs.Marks.{position_some, position_none}
use Rattle.epcm_entry.specs.inner.Words.{zero_words}
use Rattle.epcm_entry.specs.inner.Epc.{EpcFrame, IsEpc, frame_at, entry_at, words_at, with_entry, with_words, cleared}
use Rattle.epcm_entry.specs.inner.Epc.{free_frame, first_free_of}
use Rattle.epcm_entry.specs.inner.Epc.{is_free_frame}

-- a column of a changed frame, read at each place
column : {X : Type 0} (col : EpcFrame → X) (epc : List EpcFrame) (f n : ℕ) (frame : EpcFrame) → f < length epc
    → col (frame_at (set epc f frame) n) ≡ cond (f == n) (col frame) (col (frame_at epc n))
column col epc f n frame low =
    cond_both (f == n) (col frame) (col (frame_at epc n)) (λ v. col (frame_at (set epc f frame) n) ≡ v)
    (λ e. ap col (ap (frame_at (set epc f frame)) (sym (eqb-true f n e)) ∙ get_or-set_same epc f frame free_frame low))
    (λ e. ap col (get_or-set_other epc f n frame free_frame (λ same. false≢true (sym e ∙ eq-eqb f n (sym same)))))

-- a column that the change leaves
kept : {X : Type 0} (col : EpcFrame → X) (epc : List EpcFrame) (f n : ℕ) (frame : EpcFrame) → col frame ≡ col (frame_at epc f)
    → col (frame_at (set epc f frame) n) ≡ col (frame_at epc n)
kept col epc f n frame same =
    ⊎_elim
    (λ low. column col epc f n frame low ∙ cond_both (f == n) (col frame) (col (frame_at epc n)) (λ v. v ≡ col (frame_at epc n))
    (λ e. same ∙ ap (λ k. col (frame_at epc k)) (eqb-true f n e)) (λ _. refl))
    (λ past. ap (λ v. col (frame_at v n)) (set_past epc f frame past))
    (cases_lt f (length epc))

pub length-with_entry : (epc : List EpcFrame) (f : ℕ) (entry : EntryView) → length (with_entry epc f entry) ≡ length epc
length-with_entry epc f entry = length-set epc f _

pub entry_at-with_entry : (epc : List EpcFrame) (f n : ℕ) (entry : EntryView) → f < length epc
    → entry_at (with_entry epc f entry) n ≡ cond (f == n) entry (entry_at epc n)
entry_at-with_entry epc f n entry low = column (λ v. v.entry) epc f n _ low

pub words_at-with_entry : (epc : List EpcFrame) (f n : ℕ) (entry : EntryView) → words_at (with_entry epc f entry) n ≡ words_at epc n
words_at-with_entry epc f n entry = kept (λ v. v.words) epc f n _ refl

pub length-with_words : (epc : List EpcFrame) (f : ℕ) (words : List ℕ) → length (with_words epc f words) ≡ length epc
length-with_words epc f words = length-set epc f _

pub entry_at-with_words : (epc : List EpcFrame) (f n : ℕ) (words : List ℕ) → entry_at (with_words epc f words) n ≡ entry_at epc n
entry_at-with_words epc f n words = kept (λ v. v.entry) epc f n _ refl

pub words_at-with_words : (epc : List EpcFrame) (f n : ℕ) (words : List ℕ) → f < length epc
    → words_at (with_words epc f words) n ≡ cond (f == n) words (words_at epc n)
words_at-with_words epc f n words low = column (λ v. v.words) epc f n _ low

pub length-cleared : (epc : List EpcFrame) (f : ℕ) → length (cleared epc f) ≡ length epc
length-cleared epc f = length-set epc f _

pub entry_at-cleared : (epc : List EpcFrame) (f n : ℕ) → f < length epc → entry_at (cleared epc f) n ≡ cond (f == n) Free (entry_at epc n)
entry_at-cleared epc f n low = column (λ v. v.entry) epc f n _ low

pub words_at-cleared : (epc : List EpcFrame) (f n : ℕ) → f < length epc
    → words_at (cleared epc f) n ≡ cond (f == n) zero_words (words_at epc n)
words_at-cleared epc f n low = column (λ v. v.words) epc f n _ low

-- the words of a frame
pub words-sized : (epc : List EpcFrame) (f : ℕ) → IsEpc epc → f < length epc → length (words_at epc f) ≡ 512
words-sized epc f is low = (is.frames f free_frame low).sized

pub words-small : (epc : List EpcFrame) (f : ℕ) → IsEpc epc → f < length epc → All (λ word. word < 2 ^ 64) (words_at epc f)
words-small epc f is low = (is.frames f free_frame low).fits

-- the least free frame
pub record IsLeastFree (epc : List EpcFrame) (f : ℕ) : Type 0 where
  pub within : f < length epc
  pub free : is_free (entry_at epc f) ≡ true
  pub least : (n : ℕ) → n < f → is_free (entry_at epc n) ≡ false

-- the number of a frame that was found
number_found : (found : Option ℕ) (f : Frame) → option_map (λ (n : ℕ). let frame : Frame = record { 0 = n } in frame) found ≡ Some f
    → found ≡ Some f.0
number_found None f e = cc
number_found (Some n) f e = let frame : Frame = record { 0 = n } in let same : frame ≡ f = cc in ap (λ v. Some v.0) same

pub first_free-some : (epc : List EpcFrame) (f : Frame) → first_free_of epc ≡ Some f → IsLeastFree epc f.0
first_free-some epc f found =
    let place = position_some is_free_frame epc f.0 (number_found (position is_free_frame epc) f found) in
    record {
      within = place.1;
      free = rw place.0 at (passes_at_first is_free_frame epc free_frame (rw place.0 place.1));
      least = λ n low. fails_before_first is_free_frame epc n free_frame (rw place.0 low);
    }

none_found : (found : Option ℕ) → option_map (λ (n : ℕ). let frame : Frame = record { 0 = n } in frame) found ≡ None → found ≡ None
none_found None e = refl
none_found (Some n) e = cc

pub first_free-none : (epc : List EpcFrame) → first_free_of epc ≡ None → (n : ℕ) → n < length epc → is_free (entry_at epc n) ≡ false
first_free-none epc none n low = fails_before_first is_free_frame epc n free_frame
    (omega (arith, position_none is_free_frame epc (none_found (position is_free_frame epc) none)))
