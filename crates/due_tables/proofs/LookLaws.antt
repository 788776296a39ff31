-- What driver, machine and tables show is what the entries say.
use Rattle.std.proofs.Common.{◌≡◌, ℕ, ◌<◌, ◌≤◌, Bool, true, false, List, Option}
use Rattle.std.proofs.Common.{length, map, refl, sym, ap, ◌∙◌, arith}
use Rattle.std.proofs.lemmas.Bool.{false≢true}
use Rattle.sgx_rules.specs.declared.entries.AccessOp.{AccessOp}
use Rattle.sgx_rules.specs.declared.entries.Entry.{Entry}
use Rattle.sgx_types.specs.declared.names.Frame.{Frame}
use Rattle.sgx_types.specs.declared.names.Page.{Page}
use Rattle.sgx_types.specs.Pages.{is_own_page}
use Rattle.sgx_rules.specs.Frames.{added, content, frame_of, least_free}
use Rattle.sgx_rules.specs.Processors.{holds_number, stay, translations}
use Rattle.sgx_rules.specs.Table.{is_lawful_access}
use Rattle.job_grammar.specs.Jobs.{JobView, lines_at, tcs_line}
use Rattle.script_rules.specs.Script.{is_initialised, saved_frames}
use Rattle.driver_list.specs.inner.Places.{IsPlaced}
use Rattle.driver_list.specs.inner.States.{state_of as page_state}
use Rattle.driver_list.specs.declared.page_states.PageState.{PageState}
use Rattle.driver_list.specs.declared.page_states.PageState.TheVariants as states
use Rattle.machine_laws.specs.inner.Columns.{CpuColumns, EnclaveColumns, FrameColumns, seat_of_stay}
use Rattle.machine_laws.proofs.TranslationLaws.{holds_number-map}
use Rattle.sgx_machine.specs.inner.Parts.{Parts, cpu_at, seat_of_mode, state_of}
use Rattle.driver_rules.specs.Places.{Absent, Away, Here, Leaving, Loading, Place, frame_here, place}
use Rattle.driver_laws.specs.inner.Agrees.{Keeping}
use Rattle.driver_laws.specs.inner.Sound.{is_absent}
use Rattle.driver_tables.specs.declared.driver.Driver.{Driver}
use Rattle.driver_tables.specs.inner.Tables.{place_in}
use Rattle.due_tables.specs.declared.turns.Turns.{Turns}
use Rattle.due_tables.specs.inner.Asked.{CanAskDue, Looks, frame_seen, here_if, looks_at, standing_seen, stands_if}
use Rattle.due_tables.specs.inner.Due.{IsOrderly, IsShown, standing}
use Rattle.due_tables.specs.inner.Shown.{ShowsTurns}
use Rattle.due_tables.specs.inner.TcsTurns.{has_place, rows, tcs_by}
use Rattle.due_tables.proofs.FrameLaws.{number_of}
use Rattle.due_tables.proofs.RowLaws.{placed_row, row_placed}

-- what a processor's turn looks at is so by the entries
pub record IsSeen (j : JobView) (past : List Entry) (p : ℕ) (look : Looks) : Type 0 where
  pub seat : seat_of_mode look.mode ≡ seat_of_stay (stay past p)
  pub frames : (g : Page) → number_of (look.frame g) ≡ frame_here (place past g)
  pub saves : (g : Page) → look.tcs g ≡ tcs_by (tcs_line (lines_at j.enclaves g.enclave) g.number) (saved_frames past g)
  pub inits : (e : ℕ) → e ≤ 8 → look.is_init e ≡ is_initialised past e
  pub lawful : (g : Page) (op : AccessOp) → look.is_lawful g op ≡ is_lawful_access (added past g) op
  pub holds : (n : ℕ) → look.holds n ≡ holds_number (translations past p) n

module _ (k : Keeping) (j : JobView) (past : List Entry) (d : Driver) (m : Parts) (t : Turns) (a : IsShown k j past d m)
    (s : ShowsTurns j past t) where
  pub places_same : map length t.tcs ≡ rows d.states.counts
  places_same = s.places ∙ sym (ap rows (a.shows.counts ∙ a.shows.of_job))

  placed_is : (g : Page) → has_place t.tcs g ≡ true → IsPlaced d.states.counts g
  placed_is g h = placed_row t.tcs d.states.counts g places_same h

  -- a page that has no place was never added
  pub absent_is : (g : Page) → has_place t.tcs g ≡ false → place past g ≡ Absent
  absent_is g h = by_place (place past g) refl
    where
      no_place : is_absent (place past g) ≡ false → ⊥
      no_place k =
          false≢true (sym h ∙ row_placed t.tcs d.states.counts g places_same (a.shows.placed g k))

      by_place : (at : Place) → place past g ≡ at → place past g ≡ Absent
      by_place Absent is = is
      by_place (Here f) is = absurd (no_place (ap is_absent is))
      by_place (Leaving f) is = absurd (no_place (ap is_absent is))
      by_place (Loading f slot) is = absurd (no_place (ap is_absent is))
      by_place (Away slot) is = absurd (no_place (ap is_absent is))

  here_told : (x : PageState) → number_of (here_if true x) ≡ frame_here (place_in x)
  here_told states.Absent = refl
  here_told (states.Here f) = refl
  here_told (states.Leaving f) = refl
  here_told (states.Loading f slot) = refl
  here_told (states.Away slot) = refl
  here_told (states.Lost slot) = refl

  stands_told : (x : PageState) → number_of (stands_if true x) ≡ standing (place_in x)
  stands_told states.Absent = refl
  stands_told (states.Here f) = refl
  stands_told (states.Leaving f) = refl
  stands_told (states.Loading f slot) = refl
  stands_told (states.Away slot) = refl
  stands_told (states.Lost slot) = refl

  pub frame_is : (g : Page) → number_of (frame_seen d t g) ≡ frame_here (place past g)
  frame_is g = by_test (has_place t.tcs g) refl
    where
      by_test : (b : Bool) → has_place t.tcs g ≡ b → number_of (here_if b (page_state d.states g)) ≡ frame_here (place past g)
      by_test true h = here_told (page_state d.states g) ∙ ap frame_here (a.shows.states g (placed_is g h))
      by_test false h = ap frame_here (sym (absent_is g h))

  pub standing_is : IsOrderly j past → (g : Page) → is_own_page g ≡ true → number_of (standing_seen d t g) ≡ frame_of past g
  standing_is o g own = by_test (has_place t.tcs g) refl ∙ sym (o.frames g own)
    where
      by_test : (b : Bool) → has_place t.tcs g ≡ b → number_of (stands_if b (page_state d.states g)) ≡ standing (place past g)
      by_test true h = stands_told (page_state d.states g) ∙ ap standing (a.shows.states g (placed_is g h))
      by_test false h = ap standing (sym (absent_is g h))

  pub free_is : (free : Option Frame) → number_of free ≡ least_free (state_of m).frames (state_of m).content
      → number_of free ≡ least_free j.epc (content past)
  free_is free h =
      h ∙ ap (λ n. least_free n (state_of m).content) a.frames
      ∙ ap (λ (f : FrameColumns). least_free j.epc f.content) a.columns.frames

  pub looks_are : (p : ℕ) → IsSeen j past p (looks_at d m t p)
  looks_are p = record {
    seat = ap (λ (c : CpuColumns). c.inside p) a.columns.cpus;
    frames = frame_is;
    saves = s.saves;
    inits = s.inits;
    lawful = λ g op. ap (λ (e : EnclaveColumns). is_lawful_access (e.added g) op) a.columns.enclaves;
    holds = λ n. sym (holds_number-map (cpu_at m p).cache n)
        ∙ ap (λ (c : CpuColumns). holds_number (c.translations p) n) a.columns.cpus;
  }

  pub can_ask : (p : ℕ) → p < length j.scripts → CanAskDue d m t p
  can_ask p low = record {
    places = places_same;
    turn = let each = s.each in omega (arith, each, low);
    cpu =
        let one = a.cpus in
        let two = a.shows.cpus in omega (arith, one, two, low);
  }
