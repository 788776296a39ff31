-- Where no record was forged, each record that was put is the cipher of the page's flat bytes.
use Rattle.std.specs.Prelude.{IfSome, option_map}
use Rattle.std.proofs.Common.{◌≡◌, ℕ, sym, ◌∙◌, ap, List, [], ◌∷◌, ◌++◌, Option, Some, None}
use Rattle.std.proofs.lemmas.List.{append-nil, same_from_push}
use Rattle.sgx_rules.specs.declared.entries.Action.TheVariants.{Ewb}
use Rattle.sgx_types.specs.declared.names.Actor.{Actor}
use Rattle.sgx_rules.specs.declared.entries.Answer.TheVariants.{Moved}
use Rattle.sgx_rules.specs.declared.entries.Entry.{Entry}
use Rattle.sgx_rules.specs.declared.entries.Event.{Event}
use Rattle.sgx_rules.specs.declared.entries.Event.TheVariants.{Did}
use Rattle.sgx_types.specs.declared.record.Header.{Header}
use Rattle.sgx_rules.specs.PageBytes.{bytes_at, header_at}
use Rattle.sgx_rules.specs.Rules.{Along}
use Rattle.sgx_types.specs.Sealed.{Sealed}
use Rattle.io_edges.specs.declared.plans.PlanLine.{PlanLine}
use Rattle.job_grammar.specs.Jobs.{JobView}
use Rattle.script_rules.specs.Machines.{machine_of}
use Rattle.seal_record.specs.Cipher.{cipher, sealed}
use Rattle.seal_record.specs.Sealing.{SealedRule, made_with}
use Rattle.seal_record.specs.inner.Sealing.{made_after, made_by, more_made}
use Rattle.backing_store.specs.Calls.{Call, Got, Put, Room}
use Rattle.sgx_machine.specs.inner.Parts.{Parts}
use Rattle.driver_tables.specs.declared.driver.Driver.{Driver}
use Rattle.history_rules.specs.Calls.{CallsAre, ComesWith, before}
use Rattle.history_rules.specs.Given.{UnforgedRun, made_in, made_more}
use Rattle.history_rules.specs.Stored.{PutsAreFlat, PutsBytes}
use Rattle.run_calls.specs.inner.Stores.{TellsStore}
use Rattle.run_laws.specs.inner.Books.{KeepsBytes}
use Rattle.run_course.specs.declared.course.Course.{Course}
use Rattle.run_course.specs.inner.Courses.{past_of}
use Rattle.run_course.specs.inner.Kept.{IsKept}

-- a record of some bytes has their cipher
has_cipher : (key : List ℕ) (version : ℕ) (plain : List ℕ) (header : Option Header) (rec : Sealed)
    → option_map (λ h. sealed key version h plain) header ≡ Some rec → rec.cipher ≡ cipher key version plain
has_cipher key version plain None rec is = cc
has_cipher key version plain (Some header) rec is = let same : sealed key version header plain ≡ rec = cc in ap (λ r. r.cipher) (sym same)

-- where the records that were put are those of the flat bytes, so was the one of the last entry, and so were those before it
one_put : (key : List ℕ) (past : List Entry) (actor : Actor) (event : Event) (calls : List Call) → ComesWith event calls
    → SealedRule key past (record { actor = actor; event = event })
    → made_in past (before event calls) ++ made_more event calls ≡ made_after key event past (made_by key past)
    → PutsBytes key past event calls × (made_in past (before event calls) ≡ made_by key past)
one_put key past actor (Did (Ewb f) (Moved page version tag)) [] c is same = absurd c
one_put key past actor (Did (Ewb f) (Moved page version tag)) (Room g failed ∷ calls) c is same = absurd c
one_put key past actor (Did (Ewb f) (Moved page version tag)) (Got g gave ∷ calls) c is same = absurd c
one_put key past actor (Did (Ewb f) (Moved page version tag)) (Put g rec failed ∷ calls) c is same =
    let both = same_from_push (made_in past calls) (made_by key past) (made_with version rec) (made_with version is.rec)
    (same ∙ ap (λ r. more_made version r (made_by key past)) is.made) in (
      ap (λ one. one.cipher) both.1
          ∙ has_cipher key version (bytes_at past page) (header_at past page) is.rec is.made,
      both.0,
    )
one_put key past actor (Did (Ewb f) answer) calls c is same = absurd is
one_put key past actor event calls c is same = (tt, sym (append-nil (made_in past (before event calls))) ∙ same)

-- .. and so each of them
puts_flat : (key : List ℕ) (past : List Entry) (calls : List Call) → CallsAre past calls → Along (SealedRule key) past
    → made_in past calls ≡ made_by key past → PutsAreFlat key past calls
puts_flat key [] calls are is same = tt
puts_flat key (e ∷ past) calls are is same =
    let one = one_put key past e.actor e.event calls are.0 is.0 same in
    (one.0, puts_flat key past (before e.event calls) are.1 is.1 one.1)

-- by the machine that stands for the entries with all its rules
told_flat : (j : JobView) (past : List Entry) (told : Option (List Call)) (d : Driver) (m : Parts)
    → IfSome told (λ calls. TellsStore j.key past calls d) → IfSome told (KeepsBytes (machine_of j) j past m)
    → IfSome told (λ calls. UnforgedRun j.key past calls → PutsAreFlat j.key past calls)
told_flat j past None d m tells bytes = tt
told_flat j past (Some calls) d m tells bytes = λ unforged. (let all = bytes unforged in
    puts_flat j.key past calls tells.store.calls_are all.sealed all.records)

-- .. and so in a course
pub puts_are_flat : (c : Course) (told : Option (List Call)) (plans : List PlanLine) (spare : ℕ) → IsKept c told plans spare
    → IfSome told (λ calls. UnforgedRun c.job.key (past_of c) calls → PutsAreFlat c.job.key (past_of c) calls)
puts_are_flat c told plans spare kept =
    let book = kept.keeps.book in told_flat c.job (past_of c) told c.driver c.machine book.store book.bytes
