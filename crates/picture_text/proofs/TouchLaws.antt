-- Which lanes are one, and what is read on a lane from the steps of another one.
use Rattle.std.proofs.Common.{◌≡◌, true, false, List, ◌∷◌, ◌++◌, length, Option, Some, None, refl, sym, ap, ◌∙◌}
use Rattle.std.proofs.lemmas.Bool.{false≢true, eqb-true}
use Rattle.sgx_types.proofs.Pages.{same_pages}
use Rattle.sgx_rules.specs.declared.entries.Entry.{Entry}
use Rattle.sgx_types.specs.declared.names.Cpu.{Cpu}
use Rattle.sgx_types.specs.declared.names.Frame.{Frame}
use Rattle.sgx_types.specs.declared.names.Page.{Page}
use Rattle.picture_text.specs.declared.events.Lane.{Lane}
use Rattle.picture_text.specs.declared.events.Lane.TheVariants as lanes
use Rattle.picture_text.specs.declared.events.PictureEvent.{PictureEvent}
use Rattle.picture_text.specs.declared.events.Span.{Span}
use Rattle.picture_text.specs.Events.{steps_on, frame_lane, page_lane}
use Rattle.picture_text.specs.Lanes.{same_lane}
use Rattle.picture_text.specs.Open.{open_on}
use Rattle.picture_text.specs.Reading.{read_events, stack_of}
use Rattle.picture_text.proofs.StepLaws.{hit_steps, miss_steps, read_append}

same_cpus : (p q : Cpu) → p.0 ≡ q.0 → p ≡ q
same_cpus p q h = λ i. record { 0 = h i }

same_frames : (f k : Frame) → f.0 ≡ k.0 → f ≡ k
same_frames f k h = λ i. record { 0 = h i }

-- lanes that the test finds the same are equal
pub same_lanes : (a b : Lane) → same_lane a b ≡ true → a ≡ b
same_lanes (lanes.Processor p) (lanes.Processor q) h = ap lanes.Processor (same_cpus p q (eqb-true p.0 q.0 h))
same_lanes (lanes.Frame f) (lanes.Frame k) h = ap lanes.Frame (same_frames f k (eqb-true f.0 k.0 h))
same_lanes (lanes.Page g) (lanes.Page k) h = ap lanes.Page (same_pages g k h)
same_lanes lanes.Builder lanes.Builder h = refl
same_lanes lanes.Reclaimer lanes.Reclaimer h = refl
same_lanes lanes.Counters lanes.Counters h = refl
same_lanes a b h = absurd (false≢true h)

module _ (past : List Entry) (e : Entry) where
  -- what an entry begins and ends on a lane leads from what was open on it to what is
  pub hit : (m l : Lane) → same_lane m l ≡ true
      → read_events l (steps_on past e (Some m)) (Some (stack_of (open_on past l))) ≡ Some (stack_of (open_on (e ∷ past) l))
  hit m l h =
      let is = same_lanes m l h in
      ap (λ (k : Lane). read_events l (steps_on past e (Some m)) (Some (stack_of (open_on past k)))) (sym is)
      ∙ hit_steps (length past) m l (open_on past m) (open_on (e ∷ past) m) h
      ∙ ap (λ (k : Lane). Some (stack_of (open_on (e ∷ past) k))) is

  pub miss : (m l : Lane) (st : List Span) → same_lane m l ≡ false → read_events l (steps_on past e (Some m)) (Some st) ≡ Some st
  miss m l st h = miss_steps (length past) m l (open_on past m) (open_on (e ∷ past) m) st h

  -- a lane is none of the frames'
  pub miss_frame : (o : Option Frame) (l : Lane) (st : List Span) → ((f : Frame) → same_lane (lanes.Frame f) l ≡ false)
      → read_events l (steps_on past e (frame_lane o)) (Some st) ≡ Some st
  miss_frame None l st h = refl
  miss_frame (Some f) l st h = miss (lanes.Frame f) l st (h f)

  -- .. or of the pages'
  pub miss_page : (o : Option Page) (l : Lane) (st : List Span) → ((g : Page) → same_lane (lanes.Page g) l ≡ false)
      → read_events l (steps_on past e (page_lane o)) (Some st) ≡ Some st
  miss_page None l st h = refl
  miss_page (Some g) l st h = miss (lanes.Page g) l st (h g)

-- four parts one behind the other
pub read_four : (l : Lane) (a b c d : List PictureEvent) (o oa ob oc z : Option (List Span)) → read_events l a o ≡ oa
    → read_events l b oa ≡ ob
    → read_events l c ob ≡ oc → read_events l d oc ≡ z → read_events l (((a ++ b) ++ c) ++ d) o ≡ z
read_four l a b c d o oa ob oc z ha hb hc hd =
    read_append l ((a ++ b) ++ c) d o
    ∙ ap (read_events l d) (read_append l (a ++ b) c o ∙ ap (read_events l c) (read_append l a b o ∙ ap (read_events l b) ha ∙ hb) ∙ hc)
    ∙ hd
