-- The driver's tables behind the entries of the builder, and behind those of processors that load nothing.
use Rattle.std.proofs.Common.{◌≡◌, ℕ, ◌||◌, ◌++◌, Bool, true, false, if◌then◌else◌, List, [], ◌∷◌, None, length}
use Rattle.std.proofs.Common.{map, refl, sym, ap, subst, ◌∙◌}
use Rattle.sgx_rules.specs.declared.entries.Action.{Action}
use Rattle.sgx_rules.specs.declared.entries.Action.TheVariants.{Add, Create, Epa}
use Rattle.sgx_types.specs.declared.names.Actor.TheVariants as actors
use Rattle.sgx_rules.specs.declared.entries.Answer.{Answer}
use Rattle.sgx_rules.specs.declared.entries.Entry.{Entry}
use Rattle.sgx_rules.specs.declared.entries.Event.{Event}
use Rattle.sgx_rules.specs.declared.entries.Event.TheVariants.{Did}
use Rattle.sgx_types.specs.declared.lawful.PageInit.{PageInit}
use Rattle.sgx_types.specs.declared.names.Cpu.{Cpu}
use Rattle.sgx_types.specs.declared.names.Frame.{Frame}
use Rattle.sgx_types.specs.declared.names.Kind.{Kind}
use Rattle.sgx_types.specs.declared.names.Page.{Page}
use Rattle.sgx_types.specs.declared.names.Perm.{Perm}
use Rattle.sgx_types.specs.Pages.{page_at, same_page, secs_page, va_page}
use Rattle.sgx_rules.specs.Frames.{vas_made}
use Rattle.sgx_rules.specs.Starts.{open_start}
use Rattle.job_grammar.specs.Jobs.{JobView, va_pages}
use Rattle.driver_list.specs.declared.ring.Listed as ring
use Rattle.driver_list.specs.declared.page_states.PageState.TheVariants as states
use Rattle.driver_list.specs.inner.Active.{pushed, with_touch}
use Rattle.driver_list.specs.inner.Keeping.{kept_at, page_kept}
use Rattle.driver_list.specs.inner.Listing as listing
use Rattle.driver_list.specs.inner.Places.{IsPlaced}
use Rattle.driver_list.specs.inner.States.{with_state}
use Rattle.driver_rules.specs.Places.{uses}
use Rattle.driver_rules.specs.Turns.{last_by, last_of}
use Rattle.driver_laws.specs.inner.Agrees.{Keeping, ShowsSlots, has_pages, listed_by, loaded_by, touched}
use Rattle.driver_laws.specs.inner.Kinds.{CanMove, is_quiet}
use Rattle.driver_laws.specs.inner.Sound.{IsSound}
use Rattle.driver_laws.specs.inner.Used.{VersionsStand}
use Rattle.driver_laws.proofs.KeeperGrows.{shows_epa}
use Rattle.driver_laws.proofs.KeeperRests.{shows_add, shows_create}
use Rattle.driver_laws.proofs.MarkLaws.{is_markless, is_use, listed-add, listed-quiet, listed-use, listed-uses}
use Rattle.driver_laws.proofs.MoveLaws.{place-add, place-add-other, place-create, place-create-other, place-epa, place-epa-other}
use Rattle.driver_laws.proofs.MoveLaws.{place-quiet}
use Rattle.driver_laws.proofs.SoundLaws.{entry_of}
use Rattle.driver_tables.specs.declared.driver.Driver.{Driver}
use Rattle.driver_tables.specs.inner.Moves.{HasArray, with_here}
use Rattle.driver_tables.specs.inner.Tables.{ShowsTables, listed}
use Rattle.driver_tables.proofs.LoadShowLaws.{copies_none}
use Rattle.driver_tables.proofs.ShowLaws.{is_slotless, shows_moved, shows_quiet, shows_still}

-- ---- the builder

-- a page was added, after all version array pages were made
pub shows_added : (k : Keeping) (j : JobView) (d : Driver) (past : List Entry) (e n : ℕ) (f : Frame) (kind : Kind) (perm : Perm)
    (init : PageInit) (answer : Answer) → CanMove past (Did (Add e n f kind perm init) answer) → IsSound past
    → vas_made past ≡ va_pages j → IsPlaced d.states.counts (page_at e n) → ShowsTables k j d past
    → ShowsTables k j
    (record d { active = pushed d.active (page_at e n); states = with_state d.states (page_at e n) (states.Here f) })
    (entry_of actors.Builder (Did (Add e n f kind perm init) answer) ∷ past)
shows_added k j d past e n f kind perm init answer can sound made here t =
    shows_moved k j d
    (record d { active = pushed d.active (page_at e n); states = with_state d.states (page_at e n) (states.Here f) }) past
    (entry_of actors.Builder (Did (Add e n f kind perm init) answer)) (page_at e n) (states.Here f) t here
    (record {
      here = place-add past actors.Builder e n f kind perm init answer;
      others = λ q other. place-add-other past actors.Builder e n f kind perm init answer q other;
    }) refl (record { active = refl; rooms = refl; marks = refl; cpus = refl; enclaves = refl; arrays = refl }) (record {
      list =
          map_push d.active.pages ∙ ap (λ xs. xs ++ record { page = page_at e n; young = false } ∷ []) t.list
          ∙ sym (listed-add past actors.Builder e n f kind perm init answer can sound);
      slots = shows_add k j d.slots past actors.Builder e n f kind perm init answer can made t.slots;
      copies = t.copies;
    })
  where
    map_push : (xs : List ring.Listed) → map listed (xs ++ record { page = page_at e n; young = false } ∷ [])
        ≡ map listed xs ++ record { page = page_at e n; young = false } ∷ []
    map_push [] = refl
    map_push (x ∷ xs) = ap (λ zs. listed x ∷ zs) (map_push xs)

-- a version array page was made, before any page was added
pub shows_array : (k : Keeping) (j : JobView) (old new : Driver) (past : List Entry) (f : Frame) (answer : Answer)
    → CanMove past (Did (Epa f) answer) → has_pages past ≡ false → IsSound past → VersionsStand past
    → IsPlaced old.states.counts (va_page (vas_made past))
    → HasArray old (vas_made past) (k.firsts (vas_made past)) f new
    → ShowsTables k j old past → ShowsTables k j new (entry_of actors.Builder (Did (Epa f) answer) ∷ past)
shows_array k j old new past f answer can none sound stand here is t =
    shows_moved k j old new past (entry_of actors.Builder (Did (Epa f) answer)) (va_page (vas_made past)) (states.Here f) t here
    (record {
      here = place-epa past actors.Builder f answer;
      others = λ q other. place-epa-other past actors.Builder f answer q other;
    }) (ap (λ (d : Driver). d.states) is.others) (record {
      active = ap (λ (d : Driver). d.active.counts) is.others;
      rooms = ap (λ (d : Driver). length d.kept) is.others;
      marks = ap (λ (d : Driver). d.marks) is.others;
      cpus = ap (λ (d : Driver). d.cpus) is.others;
      enclaves = ap (λ (d : Driver). d.enclaves) is.others;
      arrays = ap (λ (d : Driver). d.va_pages) is.others;
    }) (record {
      list =
          ap (λ (d : Driver). map listed d.active.pages) is.others ∙ t.list
          ∙ sym (listed-quiet past (entry_of actors.Builder (Did (Epa f) answer)) refl);
      slots = shows_epa k j old.slots new.slots past actors.Builder f answer can none sound stand is.slots t.slots;
      copies = λ p. ap (λ (d : Driver). page_kept (kept_at d.kept p)) is.others ∙ t.copies p;
    })

-- an enclave was created: its SECS is here
pub shows_created : (k : Keeping) (j : JobView) (d : Driver) (past : List Entry) (e : ℕ) (f : Frame) (base size : ℕ) (answer : Answer)
    → CanMove past (Did (Create e f base size) answer) → IsPlaced d.states.counts (secs_page e) → ShowsTables k j d past
    → ShowsTables k j (with_here d (secs_page e) f) (entry_of actors.Builder (Did (Create e f base size) answer) ∷ past)
shows_created k j d past e f base size answer can here t =
    shows_moved k j d (with_here d (secs_page e) f) past (entry_of actors.Builder (Did (Create e f base size) answer)) (secs_page e)
    (states.Here f) t here
    (record {
      here = place-create past actors.Builder e f base size answer;
      others = λ q other. place-create-other past actors.Builder e f base size answer q other;
    }) refl (record { active = refl; rooms = refl; marks = refl; cpus = refl; enclaves = refl; arrays = refl }) (record {
      list = t.list ∙ sym (listed-quiet past (entry_of actors.Builder (Did (Create e f base size) answer)) refl);
      slots = shows_create k j d.slots past actors.Builder e f base size answer can t.slots;
      copies = t.copies;
    })

-- any other entry of the builder
pub shows_builders : (k : Keeping) (j : JobView) (d : Driver) (past : List Entry) (ev : Event) → is_quiet ev ≡ true
    → is_slotless ev ≡ true → is_markless ev ≡ true → ShowsTables k j d past → ShowsTables k j d (entry_of actors.Builder ev ∷ past)
shows_builders k j d past ev quiet slotless markless t =
    shows_still k j d d past (entry_of actors.Builder ev) t (λ q. place-quiet past (entry_of actors.Builder ev) q quiet) refl
    (record { active = refl; rooms = refl; marks = refl; cpus = refl; enclaves = refl; arrays = refl }) (record {
      list = t.list ∙ sym (listed-quiet past (entry_of actors.Builder ev) markless);
      slots = shows_quiet k j d.slots past (entry_of actors.Builder ev) slotless t.slots;
      copies = t.copies;
    })

-- ---- processors

-- a page of the list with its mark set
touch_same : (page : Page) (xs : List ring.Listed) → map listed (map (listing.touched page) xs) ≡ map (touched page) (map listed xs)
touch_same page [] = refl
touch_same page (x ∷ xs) = λ i. one (same_page page x.page) i ∷ touch_same page xs i
  where
    one : (b : Bool) → listed (if b then record { page = x.page; young = true } else x) ≡ record { page = x.page; young = b || x.young }
    one true = refl
    one false = refl

module _ (k : Keeping) (j : JobView) (old new : Driver) (past : List Entry) (c : Cpu) (action : Action) (answer : Answer)
    (quiet : is_quiet (Did action answer) ≡ true) (slotless : is_slotless (Did action answer) ≡ true)
    (none : loaded_by (last_by (Did action answer) (open_start past)) ≡ None) (idle : loaded_by (last_of past c.0) ≡ None)
    (t : ShowsTables k j old past) where
  -- a use of pages, by what it makes of the list
  by_list : (pages : List ring.Listed) → new ≡ record old { active = record old.active { pages = pages } }
      → map listed pages ≡ listed_by (entry_of (actors.Cpu c) (Did action answer) ∷ past)
      → ShowsTables k j new (entry_of (actors.Cpu c) (Did action answer) ∷ past)
  by_list pages only list =
      shows_still k j old new past (entry_of (actors.Cpu c) (Did action answer)) t
      (λ q. place-quiet past (entry_of (actors.Cpu c) (Did action answer)) q quiet) (ap (λ (d : Driver). d.states) only) (record {
        active = ap (λ (d : Driver). d.active.counts) only;
        rooms = ap (λ (d : Driver). length d.kept) only;
        marks = ap (λ (d : Driver). d.marks) only;
        cpus = ap (λ (d : Driver). d.cpus) only;
        enclaves = ap (λ (d : Driver). d.enclaves) only;
        arrays = ap (λ (d : Driver). d.va_pages) only;
      }) (record {
        list = ap (λ (d : Driver). map listed d.active.pages) only ∙ list;
        slots =
            subst (λ keeper. ShowsSlots k j keeper (entry_of (actors.Cpu c) (Did action answer) ∷ past))
            (sym (ap (λ (d : Driver). d.slots) only))
            (shows_quiet k j old.slots past (entry_of (actors.Cpu c) (Did action answer)) slotless t.slots);
        copies = λ p. ap (λ (d : Driver). page_kept (kept_at d.kept p)) only
            ∙ copies_none old.kept past c (Did action answer) t.copies idle none p;
      })

  -- an instruction that uses one page
  pub shows_use : (page : Page) → is_use action ≡ true → ((g : Page) → uses past (actors.Cpu c) action g ≡ same_page page g)
      → new ≡ record old { active = with_touch old.active page } → ShowsTables k j new (entry_of (actors.Cpu c) (Did action answer) ∷ past)
  shows_use page used one only =
      by_list (map (listing.touched page) old.active.pages) only
      (touch_same page old.active.pages ∙ ap (map (touched page)) t.list
      ∙ sym (listed-use past (actors.Cpu c) action answer page used one))

  -- .. or two
  pub shows_uses : (page other : Page) → is_use action ≡ true
      → ((g : Page) → uses past (actors.Cpu c) action g ≡ (same_page page g || same_page other g))
      → new ≡ record old { active = with_touch (with_touch old.active other) page }
      → ShowsTables k j new (entry_of (actors.Cpu c) (Did action answer) ∷ past)
  shows_uses page other used two only =
      by_list (map (listing.touched page) (map (listing.touched other) old.active.pages)) only
      (touch_same page (map (listing.touched other) old.active.pages)
      ∙ ap (map (touched page)) (touch_same other old.active.pages ∙ ap (map (touched other)) t.list)
      ∙ sym (listed-uses past (actors.Cpu c) action answer page other used two))

-- any other entry of a processor that loads nothing
pub shows_others : (k : Keeping) (j : JobView) (d : Driver) (past : List Entry) (c : Cpu) (ev : Event) → is_quiet ev ≡ true
    → is_slotless ev ≡ true → is_markless ev ≡ true → loaded_by (last_of past c.0) ≡ None → loaded_by (last_by ev (open_start past)) ≡ None
    → ShowsTables k j d past → ShowsTables k j d (entry_of (actors.Cpu c) ev ∷ past)
shows_others k j d past c ev quiet slotless markless idle none t =
    shows_still k j d d past (entry_of (actors.Cpu c) ev) t (λ q. place-quiet past (entry_of (actors.Cpu c) ev) q quiet) refl
    (record { active = refl; rooms = refl; marks = refl; cpus = refl; enclaves = refl; arrays = refl }) (record {
      list = t.list ∙ sym (listed-quiet past (entry_of (actors.Cpu c) ev) markless);
      slots = shows_quiet k j d.slots past (entry_of (actors.Cpu c) ev) slotless t.slots;
      copies = copies_none d.kept past c ev t.copies idle none;
    })
