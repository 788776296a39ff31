-- The row of `extend`: the measurement of the page's enclave takes in the block that the entries log.
use Rattle.std.proofs.Common.{◌≡◌, ℕ, ◌+◌, ◌*◌, ◌==◌, ◌&&◌, not, leb, ltb, Bool, true, false, refl, sym, ap, ◌∙◌, Some, None, List}
use Rattle.std.proofs.Common.{is_some}
use Rattle.std.specs.Int.{w64, to_le_bytes}
use Rattle.std.specs.List.{flat_map}
use Rattle.std.specs.Option.{IsSomeAnd}
use Rattle.sgx_rules.specs.declared.entries.Entry.{Entry}
use Rattle.sgx_types.specs.declared.names.Actor.{Actor}
use Rattle.sgx_rules.specs.declared.entries.Action.TheVariants.{Extend}
use Rattle.sgx_rules.specs.declared.entries.Answer.TheVariants.{Plain}
use Rattle.sgx_types.specs.declared.names.Frame.{Frame}
use Rattle.sgx_types.specs.declared.names.Page.{Page}
use Rattle.sgx_types.specs.declared.names.TheConstants.{SECS_NUMBER}
use Rattle.sgx_types.specs.Pages.{is_own_page, is_va_page}
use Rattle.sgx_rules.specs.Frames.{Content, Free, IsVa, SecsOf, Holds, IsLoading, enclave_in, page_of}
use Rattle.sgx_types.specs.Cases.{first_of_row}
use Rattle.sgx_rules.specs.Table.{extend_row}
use Rattle.sgx_rules.specs.Flat.{some_page, flat_page_words, flat_bytes}
use Rattle.sgx_rules.proofs.Rows.{none_holds, none_refused}
use Rattle.sgx_types.proofs.Truths.{neither}
use Rattle.sgx_types.specs.Layouts.{bytes_of}
use Rattle.measure_log.specs.declared.measure.Measure.{Measure}
use Rattle.measure_log.specs.Blocks.{eextend_block, chunk_of}
use Rattle.measure_log.specs.inner.Measure.{TakesIn}
use Rattle.measure_log.specs.Log.{Logged, logged_chunk}
use Rattle.measure_log.specs.Rule.{page_in_frame, log}
use Rattle.machine_laws.specs.inner.State.{State, sight, is_closed, row_of, after_extend}
use Rattle.machine_laws.specs.inner.Guarded.{IsNamedRight}
use Rattle.machine_laws.specs.inner.Stands.{HasEnclaves, Stands}
use Rattle.machine_laws.proofs.TestLaws.{is_none-None}
use Rattle.machine_laws.proofs.MeasureLaws.{goes_on}
use Rattle.machine_laws.proofs.NextEntry.{BringsDone}
use Rattle.machine_laws.proofs.ColumnLaws.{content_is}

-- ---- the entries

-- the block of a chunk of the words that a frame holds is the one that the entries log
logs : (s : State) (past : List Entry) (f chunk : ℕ) (g : Page) → Stands s past → page_of (s.content f) ≡ Some g
    → logged_chunk page_in_frame flat_bytes past chunk (page_in_frame past f) ≡ Some
    (record { enclave = g.enclave; block = eextend_block (4096 * g.number + 256 * chunk) (chunk_of (bytes_of (s.words f)) chunk) })
logs s past f chunk g stands is = by_content (s.content f) refl is
  where
    by_content : (c : Content) → s.content f ≡ c → page_of c ≡ Some g
        → logged_chunk page_in_frame flat_bytes past chunk (page_in_frame past f) ≡ Some
        (record { enclave = g.enclave; block = eextend_block (4096 * g.number + 256 * chunk) (chunk_of (bytes_of (s.words f)) chunk) })
    by_content (Holds page kind perm) e k =
        let same : page ≡ g = cc in
        let here : page_in_frame past f ≡ Some page = ap page_of (sym (content_is stands.columns f) ∙ e) in
        ap (logged_chunk page_in_frame flat_bytes past chunk) here
        ∙ ap (λ x. Some (let l : Logged = record {
          enclave = page.enclave;
          block = eextend_block (4096 * page.number + 256 * chunk) (chunk_of (flat_map (to_le_bytes w64) (flat_page_words x)) chunk);
        } in l))
        (stands.memory.words f page kind perm e)
        ∙ ap (λ (q : Page). Some (let l : Logged =
        record { enclave = q.enclave; block = eextend_block (4096 * q.number + 256 * chunk) (chunk_of (bytes_of (s.words f)) chunk) } in
        l)) same
    by_content Free e k = cc
    by_content (IsVa number) e k = cc
    by_content (SecsOf enclave) e k = cc
    by_content (IsLoading page) e k = cc

pub extend_brings : (s : State) (past : List Entry) (a : Actor) (f : Frame) (chunk : ℕ) (g : Page) (longer : Measure)
    → first_of_row (row_of s a (Extend f chunk)) ≡ None → page_of (s.content f.0) ≡ Some g
    → IsSomeAnd (s.measure g.enclave) (λ m. TakesIn m
    (eextend_block (4096 * g.number + 256 * chunk) (chunk_of (bytes_of (s.words f.0)) chunk)) longer) → IsNamedRight (s.content f.0)
    → HasEnclaves s
    → Stands s past
    → BringsDone s (after_extend s g.enclave longer) past a (Extend f chunk) Plain
extend_brings s past a f chunk g longer allowed here takes named made stands =
    let none = none_holds (extend_row chunk (is_closed s (enclave_in (s.content f.0))) (sight s f.0)) allowed in
    let range = neither (leb s.frames f.0) (ltb 15 chunk) none.0 in
    let block = eextend_block (4096 * g.number + 256 * chunk) (chunk_of (bytes_of (s.words f.0)) chunk) in
    let k = stands.memory in
    record {
      form = refl;
      taken = is_none-None _ (none_refused (extend_row chunk false some_page) (range.1, (refl, (refl, (refl, (refl, tt))))));
      same = λ seen. refl;
      measure = tt;
      memory = record {
        enclaves = k.enclaves;
        cpus = k.cpus;
        words = k.words;
        measure = λ e. rw (logs s past f.0 chunk g stands here)
            (goes_on e g.enclave s.enclaves s.measure longer block (log past e) (own_made (s.content f.0) refl named here) takes
            (k.measure e));
      };
    }
  where
    not_first : (a b : Bool) → (not a && b) ≡ true → a ≡ false
    not_first true b is = cc is
    not_first false b is = refl

    -- the page's enclave was created
    own_made : (c : Content) → s.content f.0 ≡ c → IsNamedRight c → page_of c ≡ Some g → is_some (s.enclaves g.enclave) ≡ true
    own_made (Holds page kind perm) e name k =
        let same : page ≡ g = cc k in
        let not_va = not_first (is_va_page g) (not (g.number == SECS_NUMBER)) (ap is_own_page (sym same) ∙ name) in
        made f.0 g (rw e (ap Some same)) not_va
    own_made Free e name k = cc k
    own_made (IsVa number) e name k = cc k
    own_made (SecsOf enclave) e name k = cc k
    own_made (IsLoading page) e name k = cc k
