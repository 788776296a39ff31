-- The holds behind an entry are those of the entries with it, and each can be held.
use Rattle.std.proofs.Common.{◌≡◌, ℕ, zero, suc, ◌+◌, ◌<◌, ◌≤◌, ◌||◌, Bool}
use Rattle.std.proofs.Common.{true, false, List, [], ◌∷◌, ◌++◌, ⊎_elim, Option, Some, None}
use Rattle.std.proofs.Common.{is_some, drop, length, map, slice_get, set, refl, sym, ap, subst, ◌∙◌, arith}
use Rattle.std.proofs.lemmas.Bool.{eq-eqb}
use Rattle.std.proofs.lemmas.List.{length-append, length-set}
use Rattle.std.proofs.lemmas.List.Folds.{list_any-append}
use Rattle.sgx_rules.specs.declared.entries.Action.{Action}
use Rattle.sgx_types.specs.declared.names.Actor.{Actor}
use Rattle.sgx_types.specs.declared.names.Actor.TheVariants as actors
use Rattle.sgx_rules.specs.declared.entries.Entry.{Entry}
use Rattle.sgx_rules.specs.declared.entries.Event.{Event}
use Rattle.sgx_types.specs.declared.names.Cpu.{Cpu}
use Rattle.sgx_types.specs.declared.names.Page.{Page}
use Rattle.sgx_types.specs.Pages.{is_own_page, same_page}
use Rattle.sgx_rules.specs.Frames.{vas_made}
use Rattle.cached_translations.specs.declared.processor.Mode.{Mode}
use Rattle.job_grammar.specs.Jobs.{JobView}
use Rattle.script_rules.specs.Script.{action_of, build_of, built, is_interrupted, is_reply, script_of}
use Rattle.driver_list.specs.inner.Active.{ActiveList, without_holds}
use Rattle.driver_list.specs.inner.Holds.{holds_page, own_of}
use Rattle.driver_list.specs.inner.Places.{IsPlaced}
use Rattle.driver_list.specs.inner.States.{StateTable, state_of as page_state}
use Rattle.due_tables.specs.inner.TcsTurns.{has_place, rows}
use Rattle.driver_rules.specs.Holds.{builder_holds, holds, holds_by, is_among, page_extended}
use Rattle.driver_rules.specs.Needs.{interruption, listed, next_op}
use Rattle.driver_rules.specs.Places.{is_here, place}
use Rattle.driver_rules.specs.Spares.{outs}
use Rattle.driver_laws.specs.inner.Sound.{times}
use Rattle.driver_laws.specs.inner.Three.{IsLaterArray, three}
use Rattle.driver_laws.proofs.ArrayLaws.{arrays_few}
use Rattle.driver_laws.proofs.BuiltLaws.{stays_built}
use Rattle.driver_laws.proofs.SoundLaws.{entry_of}
use Rattle.driver_laws.proofs.ThreeLaws.{three_most}
use Rattle.driver_tables.proofs.HeldLaws.{SetsHolds, holds_of_builder, holds_of_cpu, holds_stay, sets_holds}
use Rattle.driver_tables.proofs.BuildLaws.{extended_placed}
use Rattle.due_tables.specs.declared.turns.Turns.{Turns}
use Rattle.due_tables.specs.inner.Asked.{here_if, here_seen, looks_at, op_at}
use Rattle.due_tables.specs.inner.CpuTurns.{turn_at}
use Rattle.due_tables.specs.inner.Holding.{CanHold, FitsEntry, FitsNext, FitsOwn, KeepsHolds}
use Rattle.due_tables.specs.inner.Holding.{held_after, holding, holding_all, measured_next}
use Rattle.due_tables.specs.inner.Holding.{own_after, own_held}
use Rattle.due_tables.specs.inner.Holding.{pages_of, replies}
use Rattle.due_tables.specs.inner.Shown.{ShowsCpu}
use Rattle.due_tables.proofs.LineLaws.{op_valid}
use Rattle.due_tables.proofs.LookLaws.{absent_is, looks_are}
use Rattle.due_tables.proofs.NeedLaws.{Fits, fits_entry}
use Rattle.due_tables.proofs.OnceLaws.{holds_all, holds_if, join_all, join_if, once_all, once_if, pigeons}
use Rattle.due_tables.proofs.RowLaws.{placed_row}
use Rattle.due_tables.proofs.HeldLists.{Same, TellsHere, arrays_length, arrays_to, fits_all, fits_one, here_told}
use Rattle.due_tables.proofs.HeldLists.{holds_among, in_left, in_right, later_among, once_sets, own_all, own_dropped}
use Rattle.due_tables.proofs.HeldLists.{own_holding, sets_all, sets_holding, sets_then, told_some}
use Rattle.due_tables.proofs.HoldBegins.{event_same, event_there}

-- ---- an entry of a processor

module _ (j : JobView) (table : StateTable) (list : ActiveList) (before : Mode) (t : Turns) (c : Cpu) (ev : Event)
    (can : CanHold j table list before t (entry_of (actors.Cpu c) ev)) where
  low_cpu : c.0 < length j.scripts
  low_cpu = can.script.next.0

  few_cpu : c.0 < 16
  few_cpu = let low = low_cpu in let few = can.shows.valid.few_scripts in omega (arith, low, few)

  in_table : c.0 < length t.cpus
  in_table = let low = low_cpu in let each = can.shows.each in omega (arith, low, each)

  in_own : c.0 < length list.own
  in_own = let few = few_cpu in let all = can.holds.shows.holders in omega (arith, few, all)

  shown : ShowsCpu can.past c.0 (turn_at t.cpus c.0)
  shown = can.shows.cpus c.0 low_cpu

  broken : is_some (turn_at t.cpus c.0).interruption ≡ is_interrupted can.past c.0
  broken =
      sym (told_some (turn_at t.cpus c.0).interruption) ∙ ap is_some shown.interruption ∙ sym (can.three c.0).interrupted

  reply_is : replies t c.0 ev ≡ is_reply (is_interrupted can.past c.0) ev
  reply_is = ap (λ b. is_reply b ev) broken

  fits : replies t c.0 ev ≡ false → (action : Action) → action_of ev ≡ Some action → Fits j can.past c.0 action
  fits quiet = fits_entry j can.past c.0 can.shown.sound (can.three c.0) ev can.script.next.1 (sym reply_is ∙ quiet)

  next_is : next_op j can.past c.0 ≡ op_at j c.0 (turn_at t.cpus c.0).replied
  next_is = ap (slice_get (script_of j c.0)) (sym shown.replied)

  rows_same : map length t.tcs ≡ rows table.counts
  rows_same = can.shows.places ∙ sym (ap rows (can.places ∙ can.shown.shows.counts ∙ can.shown.shows.of_job))

  here_is : TellsHere can.past (here_seen table t) (action_of ev)
  here_is f page slot is g = by_test (has_place t.tcs g) refl
    where
      by_test : (b : Bool) → has_place t.tcs g ≡ b → is_some (here_if b (page_state table g)) ≡ is_here (place can.past g)
      by_test true h = here_told (page_state table g) ∙ can.here f page slot is g (placed_row t.tcs table.counts g rows_same h)
      by_test false h = ap is_here (sym (absent_is can.keeping j can.past can.d can.m t can.shown can.shows g h))

  same : replies t c.0 ev ≡ false
      → Same (pages_of (own_held j table t c.0 before ev)) (holds_by j can.past c.0 (action_of ev))
  same quiet =
      subst (λ b. Same (pages_of (own_held j table t c.0 b ev)) (holds_by j can.past c.0 (action_of ev))) (sym can.stood)
      (event_same j can.past c.0 (looks_at can.d can.m t c.0) can.shows.valid can.orderly
      (looks_are can.keeping j can.past can.d can.m t can.shown can.shows c.0) can.shown.sound (here_seen table t)
      (turn_at t.cpus c.0).interruption (op_at j c.0 (turn_at t.cpus c.0).replied) (sym shown.interruption) next_is
      (λ y at. op_valid j c.0 (turn_at t.cpus c.0).replied y can.shows.valid at) (action_of ev) here_is (fits quiet))

  placed : replies t c.0 ev ≡ false → (g : Page) → is_among (pages_of (own_held j table t c.0 before ev)) g ≡ true
      → IsPlaced list.counts g
  placed quiet g h =
      subst (λ counts. IsPlaced counts g) (can.shown.shows.counts ∙ sym can.counts)
      (can.shown.shows.placed g (event_there j can.past c.0 (looks_at can.d can.m t c.0) can.shows.valid can.orderly
      (looks_are can.keeping j can.past can.d can.m t can.shown can.shows c.0) can.shown.sound (action_of ev) (fits quiet) g
      (sym (same quiet g)
      ∙ h)))

  -- what it holds then
  members : replies t c.0 ev ≡ false → (g : Page)
      → holds_page (join_all (own_of list.own c.0) (own_held j table t c.0 before ev)) g
      ≡ is_among (holds j (entry_of (actors.Cpu c) ev ∷ can.past) c.0) g
  members quiet g =
      holds_all (own_of list.own c.0) (own_held j table t c.0 before ev) g
      ∙ ap (λ b. b || is_among (pages_of (own_held j table t c.0 before ev)) g) (can.holds.shows.cpus c.0 g low_cpu)
      ∙ ap (λ b. is_among (holds j can.past c.0) g || b) (same quiet g)
      ∙ sym (list_any-append (λ h. same_page h g) (holds j can.past c.0) (holds_by j can.past c.0 (action_of ev)))
      ∙ ap (λ xs. is_among xs g) (sym longer)
    where
      longer : holds j (entry_of (actors.Cpu c) ev ∷ can.past) c.0 ≡ holds j can.past c.0 ++ holds_by j can.past c.0 (action_of ev)
      longer = let k = sym reply_is ∙ quiet in rw (eq-eqb c.0 c.0 refl, k) refl

  once : (g : Page) → times (join_all (own_of list.own c.0) (own_held j table t c.0 before ev)) g ≤ 1
  once = once_all (own_of list.own c.0) (own_held j table t c.0 before ev) (can.holds.once c.0)

  few_arrays : vas_made (entry_of (actors.Cpu c) ev ∷ can.past) ≤ 9
  few_arrays =
      let all = arrays_few j (entry_of (actors.Cpu c) ev ∷ can.past)
      (stays_built j can.past (outs j can.past) (entry_of (actors.Cpu c) ev) can.script tt can.shown.built) in
      let same = can.shown.shows.arrays in
      let few = can.shown.shows.few_arrays in omega (arith, all, same, few)

  -- it holds three TCS and REG pages and the later version array pages at most
  within : (g : Page) → is_among (holds j (entry_of (actors.Cpu c) ev ∷ can.past) c.0) g ≡ true
      → is_among (three j (entry_of (actors.Cpu c) ev ∷ can.past) c.0 ++ arrays_to 8) g ≡ true
  within g h = by_own (is_own_page g) refl
    where
      among : is_among (three j (entry_of (actors.Cpu c) ev ∷ can.past) c.0) g ≡ true
          → is_among (three j (entry_of (actors.Cpu c) ev ∷ can.past) c.0 ++ arrays_to 8) g ≡ true
      among = in_left (three j (entry_of (actors.Cpu c) ev ∷ can.past) c.0) (arrays_to 8) g

      later : IsLaterArray (entry_of (actors.Cpu c) ev ∷ can.past) g
          → is_among (three j (entry_of (actors.Cpu c) ev ∷ can.past) c.0 ++ arrays_to 8) g ≡ true
      later is =
          in_right (three j (entry_of (actors.Cpu c) ev ∷ can.past) c.0) (arrays_to 8) g
          (later_among (entry_of (actors.Cpu c) ev ∷ can.past) g 8 is few_arrays)

      by_own : (b : Bool) → is_own_page g ≡ b
          → is_among (three j (entry_of (actors.Cpu c) ev ∷ can.past) c.0 ++ arrays_to 8) g ≡ true
      by_own true own = among ((can.after c.0).held g h own)
      by_own false other = ⊎_elim among later ((can.after c.0).arrays g h other)

  room : replies t c.0 ev ≡ false → length (join_all (own_of list.own c.0) (own_held j table t c.0 before ev)) ≤ 11
  room quiet =
      let few = three_most j (entry_of (actors.Cpu c) ev ∷ can.past) c.0 in
      let all = length-append (three j (entry_of (actors.Cpu c) ev ∷ can.past) c.0) (arrays_to 8) in
      let later = arrays_length 8 in
      let most = pigeons (three j (entry_of (actors.Cpu c) ev ∷ can.past) c.0 ++ arrays_to 8)
      (join_all (own_of list.own c.0) (own_held j table t c.0 before ev)) once
      (λ g h. within g (sym (members quiet g) ∙ holds_among (join_all (own_of list.own c.0)
      (own_held j table t c.0 before ev)) g ∙ h)) in
      omega (arith, few, all, later, most)

  pub cpu_fits : FitsOwn j table t before c.0 ev list
  cpu_fits = record {
    turn = in_table;
    holder = few_cpu;
    places = rows_same;
    pages = λ quiet. fits_all list c.0 (own_held j table t c.0 before ev) in_own few_cpu (placed quiet) (room quiet);
  }

  pub cpu_keeps : KeepsHolds j (own_after (replies t c.0 ev) list c.0 (own_held j table t c.0 before ev)).own
      (entry_of (actors.Cpu c) ev ∷ can.past)
  cpu_keeps = by_reply (replies t c.0 ev) refl
    where
      dropped : replies t c.0 ev ≡ true → (g : Page)
          → holds_page (own_of (set list.own c.0 []) c.0) g ≡ is_among (holds j (entry_of (actors.Cpu c) ev ∷ can.past) c.0) g
      dropped reply g =
          ap (λ xs. holds_page xs g) (own_dropped list.own c.0)
          ∙ (let k = sym reply_is ∙ reply in rw (eq-eqb c.0 c.0 refl, k) refl)

      by_reply : (b : Bool) → replies t c.0 ev ≡ b
          → KeepsHolds j (own_after b list c.0 (own_held j table t c.0 before ev)).own
          (entry_of (actors.Cpu c) ev ∷ can.past)
      by_reply true is = record {
        shows = holds_of_cpu j list.own (set list.own c.0 []) can.past c ev low_cpu can.shows.valid.few_scripts
            (sets_holds list.own c.0 []) (dropped is) can.holds.shows;
        once = once_sets list.own (set list.own c.0 []) c.0 (sets_holds list.own c.0 [])
            (λ g. subst (λ xs. times xs g ≤ 1) (sym (own_dropped list.own c.0)) (omega arith)) can.holds.once;
      }
      by_reply false is = record {
        shows = holds_of_cpu j list.own (holding_all list c.0 (own_held j table t c.0 before ev)).own can.past c ev
            low_cpu can.shows.valid.few_scripts (sets_all list c.0 (own_held j table t c.0 before ev) in_own)
            (λ g. ap (λ xs. holds_page xs g) (own_all list c.0 (own_held j table t c.0 before ev) in_own)
            ∙ members is g) can.holds.shows;
        once = once_sets list.own (holding_all list c.0 (own_held j table t c.0 before ev)).own c.0
            (sets_all list c.0 (own_held j table t c.0 before ev) in_own)
            (λ g. subst (λ xs. times xs g ≤ 1)
            (sym (own_all list c.0 (own_held j table t c.0 before ev) in_own)) (once g)) can.holds.once;
      }

-- ---- an entry of the builder

second_left : {X : Type 0} (xs : List X) (n : ℕ) → slice_get (drop n xs) 1 ≡ slice_get xs (n + 1)
second_left xs zero = refl
second_left [] (suc n) = refl
second_left (x ∷ xs) (suc n) = second_left xs n ∙ ap (slice_get (x ∷ xs)) (let same : suc (n + 1) ≡ suc n + 1 = omega arith in same)

module _ (j : JobView) (table : StateTable) (list : ActiveList) (before : Mode) (t : Turns) (ev : Event)
    (can : CanHold j table list before t (entry_of actors.Builder ev)) where
  measured_is : measured_next j t ≡ builder_holds j (entry_of actors.Builder ev ∷ can.past)
  measured_is =
      ap (λ steps. page_extended (slice_get steps 1)) can.shows.steps ∙ ap page_extended (second_left (build_of j) (built can.past))

  cleared : own_of (set list.own 16 []) 16 ≡ []
  cleared = own_dropped list.own 16

  pub builder_fits : FitsNext j t list
  builder_fits = record {
    cursor = can.shows.within;
    page = fits_one (without_holds list 16) 16 (measured_next j t)
        (λ g is. subst (λ counts. IsPlaced counts g) (sym (can.counts ∙ can.shown.shows.of_job))
        (extended_placed j (built can.past + 1) g (sym measured_is ∙ is)))
        (subst (λ xs. length (join_if xs (measured_next j t)) ≤ 1) (sym cleared) (one (measured_next j t)));
  }
    where
      one : (x : Option Page) → length (join_if [] x) ≤ 1
      one None = omega arith
      one (Some g) = omega arith

  in_all : 16 < length (set list.own 16 [])
  in_all = let same = length-set list.own 16 [] in let all = can.holds.shows.holders in omega (arith, same, all)

  sets : SetsHolds list.own (holding (without_holds list 16) 16 (measured_next j t)).own 16
  sets =
      sets_then list.own (set list.own 16 []) (holding (without_holds list 16) 16 (measured_next j t)).own 16
      (sets_holds list.own 16 []) (sets_holding (without_holds list 16) 16 (measured_next j t))

  owns : own_of (holding (without_holds list 16) 16 (measured_next j t)).own 16 ≡ join_if [] (measured_next j t)
  owns = own_holding (without_holds list 16) 16 (measured_next j t) in_all ∙ ap (λ xs. join_if xs (measured_next j t)) cleared

  pub builder_keeps : KeepsHolds j (holding (without_holds list 16) 16 (measured_next j t)).own (entry_of actors.Builder ev ∷ can.past)
  builder_keeps = record {
    shows = holds_of_builder j list.own (holding (without_holds list 16) 16 (measured_next j t)).own can.past ev
        can.shows.valid.few_scripts sets
        (λ g. ap (λ xs. holds_page xs g) owns ∙ holds_if [] (measured_next j t) g ∙ ap (λ x. is_among (listed x) g) measured_is)
        can.holds.shows;
    once = once_sets list.own (holding (without_holds list 16) 16 (measured_next j t)).own 16 sets
        (λ g. subst (λ xs. times xs g ≤ 1) (sym owns) (once_if [] (measured_next j t) (λ x. omega arith) g)) can.holds.once;
  }

-- ---- any entry

pub entry_fits : (j : JobView) (table : StateTable) (list : ActiveList) (before : Mode) (t : Turns) (e : Entry)
    → CanHold j table list before t e → FitsEntry j table t before e.actor e.event list
entry_fits j table list before t e can = by_actor e.actor e.event can
  where
    by_actor : (a : Actor) (ev : Event) → CanHold j table list before t (entry_of a ev) → FitsEntry j table t before a ev list
    by_actor actors.Builder ev k = builder_fits j table list before t ev k
    by_actor (actors.Cpu c) ev k = cpu_fits j table list before t c ev k
    by_actor actors.Reclaimer ev k = tt

pub entry_keeps : (j : JobView) (table : StateTable) (list : ActiveList) (before : Mode) (t : Turns) (e : Entry)
    (can : CanHold j table list before t e) → KeepsHolds j (held_after j table t before e.actor e.event list).own (e ∷ can.past)
entry_keeps j table list before t e can = by_actor e.actor e.event can
  where
    by_actor : (a : Actor) (ev : Event) (k : CanHold j table list before t (entry_of a ev))
        → KeepsHolds j (held_after j table t before a ev list).own (entry_of a ev ∷ k.past)
    by_actor actors.Builder ev k = builder_keeps j table list before t ev k
    by_actor (actors.Cpu c) ev k = cpu_keeps j table list before t c ev k
    by_actor actors.Reclaimer ev k = record { shows = holds_stay j list.own k.past ev k.holds.shows; once = k.holds.once }

-- only who holds what changes
pub record IsSameBut (a b : ActiveList) : Type 0 where
  pub pages : b.pages ≡ a.pages
  pub counts : b.counts ≡ a.counts

holding_others : (list : ActiveList) (holder : ℕ) (x : Option Page) → IsSameBut list (holding list holder x)
holding_others list holder None = record { pages = refl; counts = refl }
holding_others list holder (Some g) = record { pages = refl; counts = refl }

but_then : (a b c : ActiveList) → IsSameBut a b → IsSameBut b c → IsSameBut a c
but_then a b c one two = record { pages = two.pages ∙ one.pages; counts = two.counts ∙ one.counts }

pub entry_others : (j : JobView) (table : StateTable) (t : Turns) (before : Mode) (a : Actor) (ev : Event) (list : ActiveList)
    → IsSameBut list (held_after j table t before a ev list)
entry_others j table t before actors.Builder ev list =
    but_then list (without_holds list 16) (holding (without_holds list 16) 16 (measured_next j t)) (record { pages = refl; counts = refl })
    (holding_others (without_holds list 16) 16 (measured_next j t))
entry_others j table t before (actors.Cpu c) ev list = by_reply (replies t c.0 ev)
  where
    by_reply : (b : Bool) → IsSameBut list (own_after b list c.0 (own_held j table t c.0 before ev))
    by_reply true = record { pages = refl; counts = refl }
    by_reply false =
        let h = own_held j table t c.0 before ev in
        but_then list (holding list c.0 h.first) (holding_all list c.0 h) (holding_others list c.0 h.first)
        (but_then (holding list c.0 h.first) (holding (holding list c.0 h.first) c.0 h.second) (holding_all list c.0 h)
        (holding_others (holding list c.0 h.first) c.0 h.second)
        (holding_others (holding (holding list c.0 h.first) c.0 h.second) c.0 h.third))
entry_others j table t before actors.Reclaimer ev list = record { pages = refl; counts = refl }

pub but_own : (a b : ActiveList) → IsSameBut a b → b ≡ record a { own = b.own }
but_own a b same = λ i. record { pages = same.pages i; counts = same.counts i; own = b.own }
