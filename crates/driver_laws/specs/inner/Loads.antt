-- Whose each open start of a load is: of the one processor whose last entry is that start, which alone ends it.
use Rattle.std.specs.Prelude.{ℕ, ◌≡◌, false, List, Option, None, Some}
use Rattle.sgx_rules.specs.declared.entries.Action.TheVariants.{Eld}
use Rattle.sgx_types.specs.declared.names.Actor.{Actor}
use Rattle.sgx_rules.specs.declared.entries.Entry.{Entry}
use Rattle.sgx_rules.specs.declared.entries.Event.{Event}
use Rattle.sgx_rules.specs.declared.entries.Event.TheVariants.{Did, Refused}
use Rattle.sgx_types.specs.declared.names.Cpu.{Cpu}
use Rattle.sgx_types.specs.declared.names.Page.{Page}
use Rattle.sgx_rules.specs.Starts.{open_start}
use Rattle.driver_rules.specs.Scripts.{is_load}
use Rattle.driver_rules.specs.Turns.{Last, last_of, load_of, Loads}
use Rattle.sgx_types.specs.declared.names.Actor.TheVariants as actors

-- by the page that each frame's open start loads, and how its last entry left each processor
pub record LoadsAreOwned (loads : ℕ → Option Page) (last : ℕ → Last) : Type 0 where
  -- each open start of a load is of a processor that has still to end it
  pub owner : (n : ℕ) (g : Page) → loads n ≡ Some g → (p : ℕ) × (last p ≡ Loads n g)
  -- what a processor has still to end is open
  pub started : (p n : ℕ) (g : Page) → last p ≡ Loads n g → loads n ≡ Some g
  -- no two processors have one to end
  pub alone : (p q n : ℕ) (g h : Page) → last p ≡ Loads n g → last q ≡ Loads n h → p ≡ q

abbrev pub LoadsAreTheirs : List Entry → Type 0
LoadsAreTheirs past = LoadsAreOwned (λ n. load_of (open_start past n)) (last_of past)

-- the frame of the load that an entry ends
abbrev pub load_ended : Event → Option ℕ
load_ended (Did (Eld f) answer) = Some f.0
load_ended (Refused (Eld f) refusal) = Some f.0
load_ended _ = None

-- who has a load to end ends it, and who has none ends none
abbrev pub EndsOwn : Last → Event → Type 0
EndsOwn (Loads n page) event = load_ended event ≡ Some n
EndsOwn _ event = load_ended event ≡ None

-- loads are processors' alone, and each ends its own
abbrev pub TheirRule : List Entry → Actor → Event → Type 0
TheirRule past (actors.Cpu p) event = EndsOwn (last_of past p.0) event
TheirRule past _ event = is_load event ≡ false

-- a load that ends is that of the processor that ends it
pub record IsEndedBy (past : List Entry) (actor : Actor) (n : ℕ) : Type 0 where
  pub cpu : Cpu
  pub page : Page
  pub actor_is : actor ≡ actors.Cpu cpu
  pub last : last_of past cpu.0 ≡ Loads n page
