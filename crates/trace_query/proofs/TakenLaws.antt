-- For which entries flat memory is asked, what it takes of them, and that the others change nothing.
use Rattle.std.proofs.Common.{inl, inr}
use Rattle.std.proofs.Common.{◌≡◌, ◌||◌, not, Bool, true, false, if◌then◌else◌, Option, Some, None, is_none, refl, sym, ap, ◌∙◌}
use Rattle.std.proofs.lemmas.Bool.{false≢true, lt-ltb, ltb-true, and_cases, or_parts}
use Rattle.sgx_types.proofs.Truths.{both_true, either, not_false}
use Rattle.sgx_types.specs.declared.names.Actor.{Actor}
use Rattle.sgx_types.specs.declared.names.Actor.TheVariants.{Builder, Cpu, Reclaimer}
use Rattle.sgx_rules.specs.declared.entries.Action.{Action}
use Rattle.sgx_rules.specs.declared.entries.Action.TheVariants.{Epa, Fill, Block, Track, EwbStart, Ewb, EldStart, Eld}
use Rattle.sgx_rules.specs.declared.entries.Answer.{Answer}
use Rattle.sgx_rules.specs.declared.refusals.Refusal.{Refusal}
use Rattle.sgx_types.specs.Cases.{first_of_row}
use Rattle.sgx_rules.specs.Flat.{FlatMemory, is_visible, is_processors, accepts, memory_after}
use Rattle.flat_machine.specs.declared.reply.FlatReply.{FlatReply}
use Rattle.flat_machine.specs.declared.reply.FlatReply.TheVariants.{Did, Refused}
use Rattle.flat_machine.specs.inner.Step.{IsItsActor, IsProcessor, flat_row, replied, reply_of}
use Rattle.flat_words.specs.Writes.{nothing, writes_of, new_page}
use Rattle.trace_query.specs.inner.Written.{is_asked, is_processor}

-- ---- what is asked for is of a processor of flat memory

processor_of : (actor : Actor) → is_processor actor ≡ true → IsProcessor actor
processor_of (Cpu p) h = ltb-true p.0 16 h
processor_of Builder h = absurd (false≢true h)
processor_of Reclaimer h = absurd (false≢true h)

pub asked_visible : (actor : Actor) (action : Action) → is_asked actor action ≡ true → is_visible action ≡ true
asked_visible actor action h = (both_true (is_visible action) (not (is_processors action) || is_processor actor) h).0

pub asked_actor : (actor : Actor) (action : Action) → is_asked actor action ≡ true → IsItsActor actor action
asked_actor actor action h = λ processors.
    elim (either (not (is_processors action)) (is_processor actor)
    (both_true (is_visible action) (not (is_processors action) || is_processor actor) h).1) [
      | inl other ↦ absurd (false≢true (sym (ap not processors) ∙ other))
      | inr own ↦ processor_of actor own
    ]

-- ---- what is taken

accepted_if : (b : Bool) (m : FlatMemory) (actor : Actor) (action : Action) → is_processors action ≡ b
    → (b ≡ true → IsProcessor actor) → accepts m actor action ≡ is_none (first_of_row (flat_row m actor action))
accepted_if true m (Cpu p) action is its = rw (is, lt-ltb p.0 16 (its refl)) refl
accepted_if true m Builder action is its = absurd (its refl)
accepted_if true m Reclaimer action is its = absurd (its refl)
accepted_if false m actor action is its = rw is refl

-- an instruction of its actor is taken exactly where no case of its row holds
accepted : (m : FlatMemory) (actor : Actor) (action : Action) → IsItsActor actor action
    → accepts m actor action ≡ is_none (first_of_row (flat_row m actor action))
accepted m actor action its = accepted_if (is_processors action) m actor action refl (λ h. its h)

is_done : FlatReply → Bool
is_done (Did answer) = true
is_done (Refused why) = false

done_if : (o : Option Refusal) (answer : Answer) → is_done (replied o answer) ≡ is_none o
unfolding is_done
done_if None answer = refl
done_if (Some why) answer = refl

tells_done : (m : FlatMemory) (actor : Actor) (action : Action) (reply : FlatReply) → IsItsActor actor action
    → reply ≡ reply_of m actor action → accepts m actor action ≡ is_done reply
tells_done m actor action reply its is =
    accepted m actor action its ∙ sym (done_if (first_of_row (flat_row m actor action)) _) ∙ ap is_done (sym is)

pub done_accepted : (m : FlatMemory) (actor : Actor) (action : Action) (answer : Answer) → IsItsActor actor action
    → Did answer ≡ reply_of m actor action → accepts m actor action ≡ true
unfolding is_done
done_accepted m actor action answer its is = tells_done m actor action (Did answer) its is

pub refused_not_accepted : (m : FlatMemory) (actor : Actor) (action : Action) (why : Refusal) → IsItsActor actor action
    → Refused why ≡ reply_of m actor action → accepts m actor action ≡ false
unfolding is_done
refused_not_accepted m actor action why its is = tells_done m actor action (Refused why) its is

-- ---- what is not asked for

unseen_memory : (m : FlatMemory) (actor : Actor) (action : Action) → is_visible action ≡ false → memory_after actor action m ≡ m
unseen_memory m actor (Epa f) h = refl
unseen_memory m actor (Fill number f) h = refl
unseen_memory m actor (Block f) h = refl
unseen_memory m actor (Track enclave) h = refl
unseen_memory m actor (EwbStart f slot) h = refl
unseen_memory m actor (Ewb f) h = refl
unseen_memory m actor (EldStart f page slot) h = refl
unseen_memory m actor (Eld f) h = refl
unseen_memory m actor action h = absurd (false≢true (sym h))

unseen_writes : (m : FlatMemory) (actor : Actor) (action : Action) → is_visible action ≡ false → writes_of m actor action ≡ nothing
unseen_writes m (Cpu p) (Epa f) h = refl
unseen_writes m (Cpu p) (Fill number f) h = refl
unseen_writes m (Cpu p) (Block f) h = refl
unseen_writes m (Cpu p) (Track enclave) h = refl
unseen_writes m (Cpu p) (EwbStart f slot) h = refl
unseen_writes m (Cpu p) (Ewb f) h = refl
unseen_writes m (Cpu p) (EldStart f page slot) h = refl
unseen_writes m (Cpu p) (Eld f) h = refl
unseen_writes m (Cpu p) action h = absurd (false≢true (sym h))
unseen_writes m Builder action h = refl
unseen_writes m Reclaimer action h = refl

unseen_page : (action : Action) → is_visible action ≡ false → new_page action ≡ None
unseen_page (Epa f) h = refl
unseen_page (Fill number f) h = refl
unseen_page (Block f) h = refl
unseen_page (Track enclave) h = refl
unseen_page (EwbStart f slot) h = refl
unseen_page (Ewb f) h = refl
unseen_page (EldStart f page slot) h = refl
unseen_page (Eld f) h = refl
unseen_page action h = absurd (false≢true (sym h))

-- an instruction of a processor is not taken of another actor
other_actor : (m : FlatMemory) (actor : Actor) (action : Action) → is_processors action ≡ true → is_processor actor ≡ false
    → accepts m actor action ≡ false
other_actor m (Cpu p) action is other = rw (is, other) refl
other_actor m Builder action is other = rw is refl
other_actor m Reclaimer action is other = rw is refl

same_if : {A : Type 0} (b : Bool) (x y : A) → x ≡ y → (if b then x else y) ≡ y
same_if true x y same = same
same_if false x y same = refl

-- an entry changes nothing of flat memory's words
pub record IsIdle (m : FlatMemory) (actor : Actor) (action : Action) : Type 0 where
  pub memory : (if accepts m actor action then memory_after actor action m else m) ≡ m
  pub writes : (if accepts m actor action then writes_of m actor action else nothing) ≡ nothing
  pub page : (if accepts m actor action then new_page action else None) ≡ None

pub unasked : (m : FlatMemory) (actor : Actor) (action : Action) → is_asked actor action ≡ false → IsIdle m actor action
unasked m actor action h =
    elim (and_cases (is_visible action) (not (is_processors action) || is_processor actor) h) [
      | inl unseen ↦ record {
        memory = same_if (accepts m actor action) (memory_after actor action m) m (unseen_memory m actor action unseen);
        writes = same_if (accepts m actor action) (writes_of m actor action) nothing (unseen_writes m actor action unseen);
        page = same_if (accepts m actor action) (new_page action) None (unseen_page action unseen);
      }
      | inr other ↦
          (let both = or_parts (not (is_processors action)) (is_processor actor) other in
          let refused = other_actor m actor action (not_false (is_processors action) both.0) both.1 in
          record { memory = rw refused refl; writes = rw refused refl; page = rw refused refl })
    ]
