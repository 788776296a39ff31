-- Frames by their entries and their pages.
use Rattle.std.proofs.Common.{◌≡◌, ℕ, ◌+◌, ◌<◌, ◌≤◌, Bool, true, false, cond, not, ltb, Option, Some, None}
use Rattle.std.proofs.Common.{MatchOption, List, [], ◌∷◌, map, length, get_or, set, replicate, count_by, position, All, w64, refl}
use Rattle.std.proofs.Common.{sym, ap, ◌∙◌, arith, suc, zero}
use Rattle.std.specs.Int.{from_le_bytes}
use Rattle.std.specs.List.{fold, prefix_len}
use Rattle.std.specs.Option.{option_map}
use Rattle.sgx_types.specs.declared.names.Frame.{Frame}
use Rattle.std.proofs.lemmas.List.{length-map, set-set, set-get_or, get_or_default, get_or-map, map-set, get_or-set_same}
use Rattle.epcm_entry.specs.declared.entry_view.EntryView.{EntryView}
use Rattle.epcm_entry.specs.declared.entry_view.EntryView.TheVariants.{Free}
use Rattle.epcm_entry.specs.inner.EntryView.{is_free}
use Rattle.epcm_entry.specs.inner.Words.{zero_words, IsPage}
use Rattle.std.proofs.lemmas.List.Elements.{All-get_or, All-set}
use Rattle.epcm_entry.proofs.Words.{page_small}
use Rattle.epcm_entry.specs.inner.Epc.{EpcFrame, frames_of, frame_at, entry_at, words_at, is_free_frame, with_entry, with_words}
use Rattle.epcm_entry.specs.inner.Epc.{cleared}
use Rattle.epcm_entry.specs.inner.Epc.{free_frame, free_frames, IsFrame, IsEpc}

pub length-frames_of : (entries : List EntryView) (pages : List (List (List ℕ))) → length pages ≡ length entries
    → length (frames_of entries pages) ≡ length entries
length-frames_of [] pages same = refl
length-frames_of (entry ∷ entries) [] same = cc
length-frames_of (entry ∷ entries) (page ∷ pages) same = ap suc (length-frames_of entries pages (omega (arith, same)))

-- the frame at a place
pub frame-frames_of : (entries : List EntryView) (pages : List (List (List ℕ))) (f : ℕ) → length pages ≡ length entries → f < length entries
    → frame_at (frames_of entries pages) f ≡ record { entry = get_or entries f Free; words = map (from_le_bytes w64) (get_or pages f []) }
frame-frames_of [] pages f same low = absurd (omega arith)
frame-frames_of (entry ∷ entries) [] f same low = absurd (omega (arith, same))
frame-frames_of (entry ∷ entries) (page ∷ pages) zero same low = refl
frame-frames_of (entry ∷ entries) (page ∷ pages) (suc f) same low =
    frame-frames_of entries pages f (omega (arith, same)) (omega (arith, low))

-- a frame written
pub frames_of-set : (entries : List EntryView) (pages : List (List (List ℕ))) (f : ℕ) (entry : EntryView) (page : List (List ℕ))
    → length pages ≡ length entries
    → frames_of (set entries f entry) (set pages f page) ≡ set (frames_of entries pages) f
    (record { entry = entry; words = map (from_le_bytes w64) page })
frames_of-set [] pages f entry page same = refl
frames_of-set (e ∷ entries) [] f entry page same = absurd (omega (arith, same))
frames_of-set (e ∷ entries) (p ∷ pages) zero entry page same = refl
frames_of-set (e ∷ entries) (p ∷ pages) (suc f) entry page same =
    ap (λ rest. record { entry = e; words = map (from_le_bytes w64) p } ∷ rest)
    (frames_of-set entries pages f entry page (omega (arith, same)))

-- the free frames
pub map-frames_of : (entries : List EntryView) (pages : List (List (List ℕ))) → length pages ≡ length entries
    → map is_free_frame (frames_of entries pages) ≡ map is_free entries
map-frames_of [] pages same = refl
map-frames_of (entry ∷ entries) [] same = absurd (omega (arith, same))
map-frames_of (entry ∷ entries) (page ∷ pages) same = ap (λ rest. is_free entry ∷ rest) (map-frames_of entries pages (omega (arith, same)))

fold-map : {X Y : Type 0} (step : ℕ → Y → ℕ) (f : X → Y) (a : ℕ) (xs : List X) → fold step a (map f xs) ≡ fold (λ b x. step b (f x)) a xs
fold-map step f a [] = refl
fold-map step f a (x ∷ xs) = fold-map step f (step a (f x)) xs

pub count_by-map : {X : Type 0} (p : X → Bool) (xs : List X) → count_by (λ b. b) (map p xs) ≡ count_by p xs
count_by-map p xs = fold-map (λ a b. a + cond b 1 0) p 0 xs

prefix_len-map : {X : Type 0} (p : X → Bool) (test : Bool → Bool) (xs : List X)
    → prefix_len test (map p xs) ≡ prefix_len (λ x. test (p x)) xs
prefix_len-map p test [] = refl
prefix_len-map p test (x ∷ xs) = ap (λ n. cond (test (p x)) (1 + n) 0) (prefix_len-map p test xs)

pub position-map : {X : Type 0} (p : X → Bool) (xs : List X) → position (λ b. b) (map p xs) ≡ position p xs
position-map p xs =
    ap (λ n. cond (ltb n (length (map p xs))) (Some n) None) (prefix_len-map p not xs)
    ∙ ap (λ n. cond (ltb (prefix_len (λ x. not (p x)) xs) n) (Some (prefix_len (λ x. not (p x)) xs)) None) (length-map xs p)

-- ---- an EPC with its entries and pages

module _ (entries : List EntryView) (pages : List (List (List ℕ))) (epc : List EpcFrame) (paged : length pages ≡ length entries)
    (view : frames_of entries pages ≡ epc) where
  pub length_is : length epc ≡ length entries
  length_is = ap length (sym view) ∙ length-frames_of entries pages paged

  module _ (f : ℕ) (within : f < length epc) where
    pub in_entries : f < length entries
    in_entries = rw (← length_is) within

    pub in_pages : f < length pages
    in_pages = rw paged in_entries

    frame_is : frame_at epc f ≡ record { entry = get_or entries f Free; words = map (from_le_bytes w64) (get_or pages f []) }
    frame_is = ap (λ v. frame_at v f) (sym view) ∙ frame-frames_of entries pages f paged in_entries

    -- what was read
    pub entry_is : (entry : EntryView) → entry ≡ get_or entries f entry → entry ≡ entry_at epc f
    entry_is entry read = read ∙ get_or_default entries f entry Free in_entries ∙ sym (ap (λ v. v.entry) frame_is)

    pub words_are : (page : List (List ℕ)) → page ≡ get_or pages f page → words_at epc f ≡ map (from_le_bytes w64) page
    words_are page read = ap (λ v. v.words) frame_is ∙ ap (map (from_le_bytes w64)) (get_or_default pages f [] page in_pages ∙ sym read)

    -- what was written
    pub entry_put : (entry : EntryView) → frames_of (set entries f entry) pages ≡ with_entry epc f entry
    entry_put entry =
        ap (frames_of (set entries f entry)) (sym (set-get_or pages f [])) ∙ frames_of-set entries pages f entry (get_or pages f []) paged
        ∙ ap (λ v. set v f (record { entry = entry; words = map (from_le_bytes w64) (get_or pages f []) })) view
        ∙ ap (λ w. set epc f (record { entry = entry; words = w })) (sym (ap (λ v. v.words) frame_is))

    pub page_put : (page : List (List ℕ)) → frames_of entries (set pages f page) ≡ with_words epc f (map (from_le_bytes w64) page)
    page_put page =
        ap (λ es. frames_of es (set pages f page)) (sym (set-get_or entries f Free))
        ∙ frames_of-set entries pages f (get_or entries f Free) page paged
        ∙ ap (λ v. set v f (record { entry = get_or entries f Free; words = map (from_le_bytes w64) page })) view
        ∙ ap (λ e. set epc f (record { entry = e; words = map (from_le_bytes w64) page })) (sym (ap (λ v. v.entry) frame_is))

    -- a page as it was read
    pub page_is : (page : List (List ℕ)) → All IsPage pages → page ≡ get_or pages f page → IsPage page
    page_is page all read = rw read (All-get_or IsPage pages f page in_pages all)

    -- the set of free frames at this frame
    module _ (free : List Bool) (marked : free ≡ map is_free entries) where
      pub free_within : f < length free
      free_within = rw (marked, length-map) in_entries

      pub free_known : (entry : EntryView) → entry ≡ get_or entries f entry → get_or free f false ≡ is_free entry
      free_known entry read =
          ap (λ xs. get_or xs f false) marked ∙ get_or-map is_free entries f entry false in_entries ∙ ap is_free (sym read)

      pub free_put : (entry : EntryView) → set free f (is_free entry) ≡ map is_free (set entries f entry)
      free_put entry = ap (λ xs. set xs f (is_free entry)) marked ∙ sym (map-set is_free entries f entry)

  -- the free frames
  pub count_is : count_by (λ b. b) (map is_free entries) ≡ count_by is_free_frame epc
  count_is = ap (count_by (λ b. b)) (sym (map-frames_of entries pages paged)) ∙ count_by-map is_free_frame (frames_of entries pages)
      ∙ ap (count_by is_free_frame) view

  pub first_is : position (λ b. b) (map is_free entries) ≡ position is_free_frame epc
  first_is = ap (position (λ b. b)) (sym (map-frames_of entries pages paged)) ∙ position-map is_free_frame (frames_of entries pages)
      ∙ ap (position is_free_frame) view

  -- what every EPC keeps
  pub epc_is : length entries ≤ 4096 → All IsPage pages → IsEpc epc
  epc_is small is = record {
    small = rw length_is small;
    frames = λ k d low. rw (get_or_default epc k d free_frame low, frame_is k low)
        (framed (get_or pages k []) (All-get_or IsPage pages k [] (in_pages k low) is));
  }
    where
      framed : {entry : EntryView} (page : List (List ℕ)) → IsPage page
          → IsFrame (record { entry = entry; words = map (from_le_bytes w64) page })
      framed page is = record { sized = rw length-map is.sized; fits = page_small page is.words }

-- the first free frame, as a frame
pub frame_of_first : (found : Option ℕ) (frame : Option Frame) → MatchOption found (frame ≡ None) (λ f. frame ≡ Some (record { 0 = f }))
    → frame ≡ option_map (λ f. record { 0 = f }) found
frame_of_first None frame is = is
frame_of_first (Some f) frame is = is

-- a frame whose entry and then whose words are written
pub cleared_is : (epc : List EpcFrame) (f : ℕ) → f < length epc → with_words (with_entry epc f Free) f zero_words ≡ cleared epc f
cleared_is epc f low =
    set-set epc f _ _ ∙ ap (λ e. set epc f (record { entry = e; words = zero_words }))
    (ap (λ v. v.entry) (get_or-set_same epc f (record { entry = Free; words = words_at epc f }) free_frame low))

-- a list of pages with one page changed
pub pages_put : (pages : List (List (List ℕ))) (f : ℕ) (page : List (List ℕ)) → All IsPage pages → IsPage page
    → All IsPage (set pages f page)
pages_put pages f page all is = All-set IsPage pages f page is all

-- a new EPC
pub new_frames : (n : ℕ) (page : List (List ℕ)) → map (from_le_bytes w64) page ≡ zero_words
    → frames_of (replicate n Free) (replicate n page) ≡ free_frames n
new_frames zero page zeros = refl
new_frames (suc n) page zeros = ap (λ w. record { entry = Free; words = w } ∷ frames_of (replicate n Free) (replicate n page)) zeros
    ∙ ap (λ rest. free_frame ∷ rest) (new_frames n page zeros)

pub new_marks : (n : ℕ) → replicate n true ≡ map is_free (replicate n Free)
new_marks zero = refl
new_marks (suc n) = ap (λ rest. true ∷ rest) (new_marks n)
