-- The answers that ask for pages, by where the pages are.
use Rattle.std.proofs.Common.{◌≡◌, ℕ, true, false, List, [], ◌∷◌, ◌++◌, Option, Some, None, refl}
use Rattle.std.proofs.Common.{sym, ap, ◌∙◌}
use Rattle.std.specs.Option.{option_map}
use Rattle.sgx_rules.specs.declared.entries.Entry.{Entry}
use Rattle.sgx_types.specs.declared.names.Frame.{Frame}
use Rattle.sgx_types.specs.declared.names.Page.{Page}
use Rattle.job_grammar.specs.Jobs.{JobView}
use Rattle.driver_rules.specs.Dues.{Due}
use Rattle.driver_rules.specs.Needs.{listed}
use Rattle.driver_rules.specs.Places.{Absent, Away, Here, Leaving, Loading, Place, frame_here, is_here, place}
use Rattle.driver_rules.specs.Turns.{first_away, save_frame, with_pages}
use Rattle.due_tables.specs.declared.dues.CpuDue.{CpuDue}
use Rattle.due_tables.specs.inner.Asked.{if_here, with_access, with_frames, with_tcs}
use Rattle.due_tables.specs.inner.Due.{due_in}

abbrev pub number_of : Option Frame → Option ℕ
number_of o = option_map (λ f. f.0) o

here_none : (at : Place) → None ≡ frame_here at → is_here at ≡ false
here_none Absent h = refl
here_none (Here f) h = cc
here_none (Leaving f) h = refl
here_none (Loading f slot) h = refl
here_none (Away slot) h = refl

here_some : (at : Place) (n : ℕ) → Some n ≡ frame_here at → is_here at ≡ true
here_some Absent n h = cc
here_some (Here f) n h = refl
here_some (Leaving f) n h = cc
here_some (Loading f slot) n h = cc
here_some (Away slot) n h = cc

first_gone : (past : List Entry) (g : Page) (gs : List Page) → is_here (place past g) ≡ false → first_away past (g ∷ gs) ≡ Some g
first_gone past g gs h = rw h refl

first_here : (past : List Entry) (g : Page) (gs : List Page) → is_here (place past g) ≡ true
    → first_away past (g ∷ gs) ≡ first_away past gs
first_here past g gs h = rw h refl

-- by the frames of pages that are here
module _ (j : JobView) (past : List Entry) (frame : Page → Option Frame)
    (frames : (g : Page) → number_of (frame g) ≡ frame_here (place past g)) where
  -- a page that is needed first
  need : (g : Page) (gs : List Page) (due : Due) (to : Frame → CpuDue)
      → ((f : Frame) → Some f.0 ≡ frame_here (place past g) → due_in j past (to f) ≡ with_pages j past (first_away past gs) due)
      → due_in j past (if_here g to (frame g)) ≡ with_pages j past (first_away past (g ∷ gs)) due
  need g gs due to goes = by_frame (frame g) (frames g)
    where
      by_frame : (o : Option Frame) → number_of o ≡ frame_here (place past g)
          → due_in j past (if_here g to o) ≡ with_pages j past (first_away past (g ∷ gs)) due
      by_frame None h = sym (ap (λ o. with_pages j past o due) (first_gone past g gs (here_none (place past g) h)))
      by_frame (Some f) h =
          goes f h ∙ sym (ap (λ o. with_pages j past o due) (first_here past g gs (here_some (place past g) f.0 h)))

  pub access_due : (access : Option Page) (due : CpuDue)
      → due_in j past (with_access frame access due) ≡ with_pages j past (first_away past (listed access)) (due_in j past due)
  access_due None due = refl
  access_due (Some g) due = need g [] (due_in j past due) (λ f. due) (λ f h. refl)

  -- a TCS page and a state save page, and then others
  pub frames_due : (tcs : Page) (save : Option Page) (rest : List Page) (to : Frame → Frame → CpuDue)
      (make : Option ℕ → Option ℕ → Due)
      → ((tf sf : Frame) → due_in j past (to tf sf) ≡ with_pages j past (first_away past rest) (make (Some tf.0) (Some sf.0)))
      → due_in j past (with_frames frame tcs save to)
      ≡ with_pages j past (first_away past (tcs ∷ (listed save ++ rest))) (make (frame_here (place past tcs)) (save_frame past tcs save))
  frames_due tcs None rest to make goes =
      need tcs rest (make (frame_here (place past tcs)) (frame_here (place past tcs))) (with_tcs frame None to)
      (λ f h. goes f f ∙ ap (λ o. with_pages j past (first_away past rest) (make o o)) h)
  frames_due tcs (Some save) rest to make goes =
      need tcs (save ∷ rest) (make (frame_here (place past tcs)) (frame_here (place past save))) (with_tcs frame (Some save) to)
      (λ tf h. need save rest (make (frame_here (place past tcs)) (frame_here (place past save))) (to tf)
      (λ sf k. goes tf sf ∙ ap (λ o. with_pages j past (first_away past rest) (make o (Some sf.0))) h
      ∙ ap (λ o. with_pages j past (first_away past rest) (make (frame_here (place past tcs)) o)) k))
