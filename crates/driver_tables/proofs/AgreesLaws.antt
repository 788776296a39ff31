-- Driver and machine agree on one entry more.
use Rattle.std.proofs.Common.{◌≡◌, ℕ, ◌<◌, ◌||◌, not, Bool, true, false, refl, ap, sym, ◌∙◌, List, ◌∷◌}
use Rattle.std.proofs.lemmas.Bool.{false≢true, ltb-true}
use Rattle.sgx_rules.specs.declared.entries.Entry.{Entry}
use Rattle.sgx_types.proofs.Pages.{same_pages}
use Rattle.sgx_types.specs.declared.names.Page.{Page}
use Rattle.sgx_types.specs.declared.names.VaSlot.{VaSlot}
use Rattle.sgx_types.specs.Making.{Making}
use Rattle.sgx_types.specs.Pages.{same_page, va_page}
use Rattle.sgx_rules.specs.declared.entries.Action.TheVariants.{Eld}
use Rattle.sgx_rules.specs.declared.entries.Answer.TheVariants.{Moved}
use Rattle.sgx_rules.specs.declared.entries.Event.{Event}
use Rattle.sgx_rules.specs.declared.entries.Event.TheVariants.{Did}
use Rattle.sgx_rules.specs.Frames.{vas_made}
use Rattle.sgx_rules.specs.inner.Arrays.{came_back, comes_back}
use Rattle.sgx_rules.specs.inner.Enclaves.{is_there}
use Rattle.driver_rules.specs.Places.{is_here, Loading, Place, place}
use Rattle.driver_rules.specs.Spares.{outs_kept}
use Rattle.driver_laws.specs.inner.Kinds.{CanMove}
use Rattle.driver_laws.specs.inner.Sound.{is_absent, IsSound}
use Rattle.job_grammar.specs.Jobs.{JobView}
use Rattle.sgx_machine.specs.inner.Parts.{Parts}
use Rattle.driver_laws.proofs.BuiltLaws.{stays_built}
use Rattle.driver_laws.proofs.CountLaws.{stays_counted}
use Rattle.driver_laws.proofs.EndLaws.{their_rule}
use Rattle.driver_laws.proofs.FixedLaws.{stays_theirs as slots_theirs}
use Rattle.driver_laws.proofs.InitLaws.{more_inits}
use Rattle.driver_laws.proofs.LoadLaws.{stays_theirs}
use Rattle.driver_laws.proofs.OwnLaws.{script_own}
use Rattle.driver_laws.proofs.PassLaws.{tracks_stay}
use Rattle.driver_laws.proofs.SoundLaws.{stays_sound}
use Rattle.driver_laws.proofs.StageLaws.{pages_kept}
use Rattle.driver_laws.proofs.UsedLaws.{stays_used}
use Rattle.driver_laws.proofs.VersionLaws.{stays_standing}
use Rattle.driver_tables.specs.declared.driver.Driver.{Driver}
use Rattle.driver_tables.specs.inner.Agrees.{Agrees}
use Rattle.driver_tables.specs.inner.Asked.{IsNextOf}

-- the first version array page is here once it was made, so no entry brings it back
stays_home : (past : List Entry) (e : Entry) → IsSound past → CanMove past e.event → came_back past 0 ≡ false
    → came_back (e ∷ past) 0 ≡ false
stays_home past e s can before = rw before (by_event e.event can)
  where
    by_place : (p : Place) (f : ℕ) (slot : VaSlot) → p ≡ Loading f slot → (0 < vas_made past → is_here p ≡ true)
        → is_there past (va_page 0) ≡ not (is_absent p) → ⊥
    by_place p f slot is here made =
        let there : (0 < vas_made past) = ltb-true 0 (vas_made past) (made ∙ ap (λ q. not (is_absent q)) is) in
        false≢true (sym (ap is_here is) ∙ here there)

    by_page : (page : Page) (f : ℕ) (slot : VaSlot) (b : Bool) → same_page page (va_page 0) ≡ b
        → place past page ≡ Loading f slot → b ≡ false
    by_page page f slot false same at = refl
    by_page page f slot true same at =
        absurd (by_place (place past (va_page 0)) f slot (ap (place past) (sym (same_pages page (va_page 0) same)) ∙ at) s.arrays.first
        (s.made (va_page 0)))

    by_event : (ev : Event) → CanMove past ev → (comes_back ev 0 || false) ≡ false
    by_event (Did (Eld f) (Moved page version tag)) c = rw (by_page page f.0 c.0 (same_page page (va_page 0)) refl c.1) refl
    by_event (Did (Eld f) answer) c = refl
    by_event _ c = refl

pub agrees_more : (made : Making) (j : JobView) (past : List Entry) (d d' : Driver) (m m' : Parts) (e : Entry) → Agrees made j past d m
    → IsNextOf made j past d m e d' m' → Agrees made j (e ∷ past) d' m'
agrees_more made j past d d' m m' e a n = record {
  follows = n.follows;
  fits = n.fits;
  sound = stays_sound past e n.can a.sound;
  home = stays_home past e a.sound n.can a.home;
  used = stays_used past e a.sound n.can n.starts a.used;
  stand = stays_standing past e a.sound n.can n.starts a.stand;
  fixed = slots_theirs j past e a.sound n.can n.slots a.fixed;
  counted = stays_counted d.slots d'.slots past e a.sound n.can n.starts n.counts a.counted;
  built = stays_built j past (outs_kept j past) e n.script n.age a.built;
  inits = more_inits past e a.sound n.can n.inits a.inits;
  theirs = stays_theirs past e a.sound n.can (their_rule j past e n.script) a.theirs;
  tracks = tracks_stay j past (outs_kept j past) e a.sound n.can n.tries (script_own j past e n.script) n.age n.kick a.tracks;
  pages = pages_kept j past (outs_kept j past) e a.sound n.can (script_own j past e n.script) n.age n.kick a.pages;
  shows = n.shows;
  frames = a.frames;
  cpus = n.cpus ∙ a.cpus ∙ a.shows.cpus ∙ sym n.shows.cpus;
}
