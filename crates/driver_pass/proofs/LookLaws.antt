-- What a pass stands for behind a look.
use Rattle.std.proofs.Common.{◌≡◌, ℕ, zero, suc, ◌+◌, ◌-◌, ◌<◌, ◌≤◌, true, refl, sym, ◌∙◌, ap, subst, List}
use Rattle.std.proofs.Common.{[], ◌∷◌, ◌++◌, Option, Some}
use Rattle.std.proofs.Common.{None, length, nat_lt, arith}
use Rattle.std.specs.Option.{option_to_list}
use Rattle.std.proofs.lemmas.List.{length-append}
use Rattle.sgx_types.specs.declared.names.Actor.TheVariants as actors
use Rattle.sgx_rules.specs.declared.entries.Entry.{Entry}
use Rattle.sgx_rules.specs.declared.entries.Event.TheVariants.{Age}
use Rattle.sgx_rules.specs.declared.entries.Look.{Look}
use Rattle.sgx_rules.specs.declared.entries.Look.TheVariants as looks
use Rattle.sgx_types.specs.declared.names.Page.{Page}
use Rattle.job_grammar.specs.Jobs.{JobView}
use Rattle.driver_list.specs.inner.States.{state_of}
use Rattle.driver_rules.specs.Ages.{head_of}
use Rattle.driver_rules.specs.Passes as passes
use Rattle.driver_rules.specs.Passes.{scan_on}
use Rattle.driver_rules.specs.Places.{Here, Leaving, active, place}
use Rattle.driver_laws.proofs.MoveLaws.{place-taken}
use Rattle.driver_laws.proofs.SoundLaws.{entry_of, head_here}
use Rattle.driver_laws.specs.inner.Agrees.{Keeping}
use Rattle.driver_laws.specs.inner.Kinds.{CanMove}
use Rattle.driver_laws.specs.inner.Sound.{IsSound, is_absent}
use Rattle.driver_tables.specs.declared.driver.Driver.{Driver}
use Rattle.driver_tables.specs.inner.Tables.{ShowsTables}
use Rattle.driver_tables.proofs.ShowLaws.{here_frame}
use Rattle.driver_pass.specs.declared.stages.Taken.{Taken}
use Rattle.driver_pass.specs.inner.Noted.{after_look, taken_by, taken_of, with_taken}
use Rattle.driver_pass.specs.inner.Standing.{AreInFrames}
use Rattle.driver_pass.specs.inner.Viewed.{pages_in}
use Rattle.driver_pass.proofs.FrameLaws.{frames_stay, HoldsPass}

lower : (n m : ℕ) → n < m → nat_lt n m ≡ true
lower n m low = grind (arith, low)

pages_append : (xs ys : List Taken) → pages_in (xs ++ ys) ≡ pages_in xs ++ pages_in ys
pages_append [] ys = refl
pages_append (x ∷ xs) ys = ap (λ zs. x.page ∷ zs) (pages_append xs ys)

frames_append : (past : List Entry) (xs ys : List Taken) → AreInFrames past xs → AreInFrames past ys → AreInFrames past (xs ++ ys)
frames_append past [] ys h k = k
frames_append past (x ∷ xs) ys h k = (h.0, frames_append past xs ys h.1 k)

-- with so many looks left, and these pages taken
scan_stands : (first : ℕ) (past : List Entry) (kicks : List ℕ) (left : ℕ) (taken : List Taken) → AreInFrames past taken
    → length taken + left ≤ 64
    → HoldsPass first past taken kicks (after_look left (length taken)) (scan_on left (pages_in taken))
scan_stands first past kicks zero [] h room = record { same = refl; frames = tt; stage = tt }
scan_stands first past kicks zero (t ∷ ts) h room = record { same = refl; frames = h; stage = tt }
scan_stands first past kicks (suc left) taken h room = record { same = refl; frames = h; stage = room }

-- what a look takes
record IsTakenBy (past : List Entry) (page : Page) (look : Look) (one : Option Taken) : Type 0 where
  pub pages : pages_in (option_to_list one) ≡ passes.taken_by look page
  pub frames : AreInFrames (entry_of actors.Reclaimer (Age page look) ∷ past) (option_to_list one)

module _ (k : Keeping) (j : JobView) (past : List Entry) (d : Driver) (page : Page) (s : ShowsTables k j d past) where
  -- a page that was taken leaves the frame in which it was
  pub taken_leaves : (n : ℕ) → place past page ≡ Here n
      → place (entry_of actors.Reclaimer (Age page looks.Taken) ∷ past) page ≡ Leaving (taken_of d page).frame.0
  taken_leaves n here =
      place-taken past actors.Reclaimer page n here
      ∙ ap Leaving (sym (here_frame (state_of d.states page) n (s.states page (s.placed page (ap is_absent here)) ∙ here)))

  -- one look at the head, with so many left
  module _ (sound : IsSound past) (head : head_of (active past) ≡ Some page) where
    here : (f : ℕ) × (place past page ≡ Here f)
    here = head_here (active past) (place past) page sound.list head

    takes : (look : Look) → IsTakenBy past page look (taken_by d page look)
    takes looks.Taken = record { pages = refl; frames = (taken_leaves here.0 here.1, tt) }
    takes looks.Young = record { pages = refl; frames = tt }
    takes looks.Held = record { pages = refl; frames = tt }
    takes looks.NoRoom = record { pages = refl; frames = tt }

    pub look_stands : (first : ℕ) (left : ℕ) (look : Look) (taken : List Taken) (kicks : List ℕ) → CanMove past (Age page look)
        → AreInFrames past taken → length taken < 64 → length taken + left ≤ 64
        → HoldsPass first (entry_of actors.Reclaimer (Age page look) ∷ past) (with_taken taken (taken_by d page look)) kicks
        (after_look (left - 1) (length (with_taken taken (taken_by d page look))))
        (scan_on (left - 1) (pages_in taken ++ passes.taken_by look page))
    look_stands first left look taken kicks can frames few room =
        subst (λ ts. HoldsPass first after ts kicks (after_look (left - 1) (length ts))
        (scan_on (left - 1) (pages_in taken ++ passes.taken_by look page))) (sym longer)
        (subst (λ ps. HoldsPass first after (taken ++ one) kicks (after_look (left - 1) (length (taken ++ one))) (scan_on (left - 1) ps))
        (pages_append taken one ∙ ap (λ ps. pages_in taken ++ ps) (takes look).pages)
        (scan_stands first after kicks (left - 1) (taken ++ one)
        (frames_append after taken one (frames_stay past (entry_of actors.Reclaimer (Age page look)) taken sound can (λ n. refl) frames)
        (takes look).frames) within))
      where
        after : List Entry
        after = entry_of actors.Reclaimer (Age page look) ∷ past

        one : List Taken
        one = option_to_list (taken_by d page look)

        there : nat_lt (length taken) 64 ≡ true
        there = lower (length taken) 64 few

        longer : with_taken taken (taken_by d page look) ≡ taken ++ one
        longer = rw there refl

        short : (o : Option Taken) → length (option_to_list o) ≤ 1
        short None = omega arith
        short (Some t) = omega arith

        within : length (taken ++ one) + (left - 1) ≤ 64
        within = let low = short (taken_by d page look) in rw (length-append taken one) (omega (arith, low, few, room))
