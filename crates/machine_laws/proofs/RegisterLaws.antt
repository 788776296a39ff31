-- The rows that change no page: what each brings where it is done.
use Rattle.std.proofs.Common.{◌≡◌, ℕ, ◌/◌, ◌<◌, ◌==◌, Bool, true, false, cond, refl, sym, ap, ◌∙◌, Option, Some}
use Rattle.std.proofs.Common.{None, List}
use Rattle.std.proofs.lemmas.Bool.{eqb-true, lt-ltb}
use Rattle.sgx_rules.specs.declared.entries.Entry.{Entry}
use Rattle.sgx_types.specs.declared.names.Actor.TheVariants as actors
use Rattle.sgx_rules.specs.declared.entries.AccessOp.{AccessOp}
use Rattle.sgx_rules.specs.declared.entries.Action.TheVariants.{Set, Plus, Pf, OutLoad, OutStore}
use Rattle.sgx_rules.specs.declared.entries.Answer.TheVariants as answers
use Rattle.sgx_types.specs.declared.names.Cpu.{Cpu}
use Rattle.sgx_types.specs.declared.names.Kind.{Kind}
use Rattle.sgx_types.specs.declared.names.Perm.{Perm}
use Rattle.sgx_types.specs.Pages.{page_at}
use Rattle.sgx_rules.specs.Processors.{Stay, stay}
use Rattle.sgx_types.specs.Cases.{first_of_row}
use Rattle.sgx_rules.specs.Table.{outside_row, pf_row, fault_of}
use Rattle.sgx_rules.specs.Flat.{FlatCpu, FlatMemory, flat, added_at_offset, all_ones, sum_of, with_acc, memory_after}
use Rattle.sgx_rules.specs.Sights.{added_at}
use Rattle.machine_laws.specs.inner.State.{State, row_of, added_inside}
use Rattle.machine_laws.specs.inner.State.{with_acc as acc_set}
use Rattle.machine_laws.specs.inner.Stands.{Stands, IsSound, inside_of_stay, cpu_shown}
use Rattle.machine_laws.proofs.ProcessorLaws.{mode_in_flat}
use Rattle.machine_laws.proofs.ExitLaws.{inside_by}
use Rattle.machine_laws.specs.inner.Columns.{seat_of_stay}
use Rattle.machine_laws.proofs.NextEntry.{BringsDone}
use Rattle.machine_laws.proofs.ColumnLaws.{acc_flat, added_flat, inside_flat, inside_is}

outside_by : (b b' : Bool) → b ≡ b' → first_of_row (outside_row b) ≡ None → first_of_row (outside_row b') ≡ None
outside_by b b' e h = rw (← e) h

-- ---- the accumulator

pub sound-acc : (s : State) (p acc : ℕ) → IsSound s → IsSound (acc_set s p acc)
sound-acc s p acc sound = record { seated = sound.seated; busy = sound.busy; apart = sound.apart; sized = sound.sized }

-- a processor of flat memory whose accumulator is set
cpus_set : (s : State) (past : List Entry) (m : FlatMemory) (p acc : ℕ) → ((q : ℕ) → m.cpus q ≡ cpu_shown s past q) → (q : ℕ)
    → (with_acc m p acc).cpus q ≡ cpu_shown (acc_set s p acc) past q
cpus_set s past m p acc cpus q = by_cpu (p == q) refl
  where
    by_cpu : (b : Bool) → (p == q) ≡ b → (let c : FlatCpu = cond b (record (m.cpus p) { acc = acc }) (m.cpus q) in c) ≡ record
        { inside = inside_of_stay (stay past q); acc = cond b acc (s.acc q) }
    by_cpu true here =
        ap (λ n. let c : FlatCpu = record (m.cpus n) { acc = acc } in c) (eqb-true p q here) ∙ (λ i. record (cpus q i) { acc = acc })
    by_cpu false here = cpus q

pub set_brings : (s : State) (past : List Entry) (p : Cpu) (value : ℕ) → p.0 < 16
    → first_of_row (row_of s (actors.Cpu p) (Set value)) ≡ None → Stands s past
    → BringsDone s (acc_set s p.0 value) past (actors.Cpu p) (Set value) answers.Plain
set_brings s past p value low allowed stands = record {
  form = refl;
  taken = rw (lt-ltb p.0 16 low, inside_by _ _ (mode_in_flat s past stands p.0) allowed) refl;
  same = λ seen. refl;
  measure = tt;
  memory = record {
    enclaves = stands.memory.enclaves;
    cpus = cpus_set s past (flat past) p.0 value stands.memory.cpus;
    words = stands.memory.words;
    measure = stands.memory.measure;
  };
}

pub plus_brings : (s : State) (past : List Entry) (p : Cpu) (value : ℕ) → p.0 < 16
    → first_of_row (row_of s (actors.Cpu p) (Plus value)) ≡ None → Stands s past
    → BringsDone s (acc_set s p.0 (sum_of (s.acc p.0) value)) past (actors.Cpu p) (Plus value) (answers.Value (sum_of (s.acc p.0) value))
plus_brings s past p value low allowed stands =
    let sum = sum_of (s.acc p.0) value in
    let same_sum : sum_of ((flat past).cpus p.0).acc value ≡ sum = ap (λ a. sum_of a value) (acc_flat stands p.0) in
    let after : memory_after (actors.Cpu p) (Plus value) (flat past) ≡ with_acc (flat past) p.0 sum =
    ap (λ a. with_acc (flat past) p.0 a) same_sum in
    record {
      form = (sum, refl);
      taken = rw (lt-ltb p.0 16 low, inside_by _ _ (mode_in_flat s past stands p.0) allowed) refl;
      same = λ seen. ap answers.Value (sym same_sum);
      measure = tt;
      memory = rw after (record {
        enclaves = stands.memory.enclaves;
        cpus = cpus_set s past (flat past) p.0 sum stands.memory.cpus;
        words = stands.memory.words;
        measure = stands.memory.measure;
      });
    }

-- ---- what changes nothing at all

-- what the page at an offset was added as, in the state, by the entries and in flat memory
pub added_by_entries : (s : State) (past : List Entry) (p number : ℕ) → Stands s past
    → added_inside s (s.inside p) number ≡ added_at past (stay past p) number
added_by_entries s past p number stands = ap (λ o. added_inside s o number) (inside_is stands.columns p) ∙ by_stay (stay past p)
  where
    by_stay : (o : Option Stay) → added_inside s (seat_of_stay o) number ≡ added_at past o number
    by_stay None = refl
    by_stay (Some t) = added_flat stands (page_at t.seat.enclave number)

added_in_flat : (s : State) (past : List Entry) (p off : ℕ) → Stands s past
    → added_inside s (s.inside p) (off / 4096) ≡ added_at_offset (flat past) ((flat past).cpus p).inside off
added_in_flat s past p off stands = added_by_entries s past p (off / 4096) stands ∙ by_stay (stay past p)
    ∙ sym (ap (λ o. added_at_offset (flat past) o off) (inside_flat stands p))
  where
    by_stay : (o : Option Stay) → added_at past o (off / 4096) ≡ added_at_offset (flat past) (inside_of_stay o) off
    by_stay None = refl
    by_stay (Some t) = refl

pf_by : (op : AccessOp) (off : ℕ) (b b' : Bool) (o o' : Option (Kind × Perm)) → b ≡ b' → o ≡ o' → first_of_row (pf_row op off b o) ≡ None
    → first_of_row (pf_row op off b' o') ≡ None
pf_by op off b b' o o' e e' h = rw (← e, ← e') h

pub pf_brings : (s : State) (past : List Entry) (p : Cpu) (op : AccessOp) (off : ℕ) → p.0 < 16
    → first_of_row (row_of s (actors.Cpu p) (Pf op off)) ≡ None → Stands s past
    → BringsDone s s past (actors.Cpu p) (Pf op off) (answers.Pf (fault_of (added_inside s (s.inside p.0) (off / 4096))))
pf_brings s past p op off low allowed stands = record {
  form = (fault_of (added_inside s (s.inside p.0) (off / 4096)), refl);
  taken = rw (lt-ltb p.0 16 low, pf_by op off _ _ _ _ (mode_in_flat s past stands p.0) (added_in_flat s past p.0 off stands) allowed) refl;
  same = λ seen. ap (λ x. answers.Pf (fault_of x)) (added_in_flat s past p.0 off stands);
  measure = tt;
  memory = record {
    enclaves = stands.memory.enclaves;
    cpus = stands.memory.cpus;
    words = stands.memory.words;
    measure = stands.memory.measure;
  };
}

pub outload_brings : (s : State) (past : List Entry) (p : Cpu) (enclave off : ℕ) → p.0 < 16
    → first_of_row (row_of s (actors.Cpu p) (OutLoad enclave off)) ≡ None → Stands s past
    → BringsDone s s past (actors.Cpu p) (OutLoad enclave off) (answers.Value all_ones)
outload_brings s past p enclave off low allowed stands = record {
  form = (all_ones, refl);
  taken = rw (lt-ltb p.0 16 low, outside_by _ _ (mode_in_flat s past stands p.0) allowed) refl;
  same = λ seen. refl;
  measure = tt;
  memory = record {
    enclaves = stands.memory.enclaves;
    cpus = stands.memory.cpus;
    words = stands.memory.words;
    measure = stands.memory.measure;
  };
}

pub outstore_brings : (s : State) (past : List Entry) (p : Cpu) (enclave off value : ℕ) → p.0 < 16
    → first_of_row (row_of s (actors.Cpu p) (OutStore enclave off value)) ≡ None → Stands s past
    → BringsDone s s past (actors.Cpu p) (OutStore enclave off value) answers.Plain
outstore_brings s past p enclave off value low allowed stands = record {
  form = refl;
  taken = rw (lt-ltb p.0 16 low, outside_by _ _ (mode_in_flat s past stands p.0) allowed) refl;
  same = λ seen. refl;
  measure = tt;
  memory = record {
    enclaves = stands.memory.enclaves;
    cpus = stands.memory.cpus;
    words = stands.memory.words;
    measure = stands.memory.measure;
  };
}
